use borrow.Author.Rules.{rules}
use Rattle.machine_log.proofs.Logged.{any_back, reset-length}
use Rattle.machine_log.proofs.calls.log_reset.Goals as goal

pub returns : goal.returns
returns c =
    let a = c.args in
    any_back a.b.now _ _ a.at _ (search rules) reset-length c.reset_record.ensures
