use borrow.Author.Rules.{rules}
use Rattle.machine_log.proofs.Logged.{record_back, tip5-length}
use Rattle.machine_log.proofs.calls.log_tip5.Goals as goal

pub returns : goal.returns
returns c =
    let a = c.args in
    let e = c.tip5_record-n.ensures in
    record_back _ a.b.now _ _ a.at _ _ (search rules) (tip5-length _ _ _ _ (search rules)) e.1 e.0
