use Rattle.std.proofs.Common.{ℕ, List, set, ap}
use Rattle.machine.specs.Ram.{inserted}
use Rattle.machine.proofs.Moves.{moved-lent}
use Rattle.machine_ram.proofs.ram_mut.insert.Goals as goal

pub returns : goal.returns
unfolding inserted
returns c =
    let a = c.args in
    ap (λ (l : List ℕ). set l a.i a.word) (moved-lent _ _ a.i _ c.move_up.ensures)
