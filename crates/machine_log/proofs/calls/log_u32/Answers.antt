use borrow.Author.Rules.{rules}
use Rattle.machine_log.proofs.Logged.{record_back, u32-length}
use Rattle.machine_log.proofs.calls.log_u32.Goals as goal

pub returns : goal.returns
returns c =
    let a = c.args in
    let e = c.u32_record-n.ensures in
    record_back _ a.b.now _ _ a.at _ _ (search rules) (u32-length _ _ _) e.1 e.0
