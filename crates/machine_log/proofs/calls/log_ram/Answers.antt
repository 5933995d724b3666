use borrow.Author.Rules.{rules}
use Rattle.machine.proofs.Records.{ram-length}
use Rattle.machine_log.proofs.Logged.{any_back}
use Rattle.machine_log.proofs.calls.log_ram.Goals as goal

pub returns : goal.returns
returns c =
    let a = c.args in
    any_back a.b.now _ _ a.at _ (search rules) (λ v. ram-length v _ _ _ _) c.ram_record.ensures
