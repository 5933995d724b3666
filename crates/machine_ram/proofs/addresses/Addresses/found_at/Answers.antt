use Rattle.std.proofs.Common.{arith}
use Rattle.machine_ram.proofs.RamView.{guess-found, guess-absent}
use Rattle.machine_ram.proofs.addresses.Addresses.found_at.Goals as goal
use Rattle.machine_ram.proofs.addresses.Addresses.found_at.Goals.{else-place-self-via-then-place-self+else-self-place, else-place-self-via-else-place-self}

pub returns-then-self-place : goal.returns-then-self-place
returns-then-self-place c = guess-found c.requires c.if-place-self.true c.if-self-place.true

pub returns-else-place-self : goal.returns-else-place-self
returns-else-place-self c =
    elim c.else-place-self.branch [
      | else-place-self-via-then-place-self+else-self-place w ↦ guess-absent c.requires (λ _. w.if-self-place.false)
      | else-place-self-via-else-place-self w ↦ guess-absent c.requires (λ l. absurd (omega (arith, w.if-place-self.false)))
    ]
