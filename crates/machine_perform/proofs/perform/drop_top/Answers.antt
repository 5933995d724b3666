use Rattle.machine.specs.Apply.{dropped}
use Rattle.machine_perform.proofs.perform.drop_top.Goals as goal

pub returns : goal.returns
unfolding dropped
returns c = record { is = λ k o d a v w. rw c.store.ensures }
