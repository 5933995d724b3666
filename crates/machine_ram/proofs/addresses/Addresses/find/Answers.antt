use Rattle.std.proofs.Common.{arith}
use Rattle.machine_ram.proofs.RamView.{spotted-found, spotted-absent}
use Rattle.machine_ram.proofs.addresses.Addresses.find.Goals as goal
use Rattle.machine_ram.proofs.addresses.Addresses.find.Goals.{else-place-self-via-then-place-self+else-word-address, else-place-self-via-else-place-self}

pub returns-then-word-address : goal.returns-then-word-address
returns-then-word-address c = spotted-found c.search-place.ensures c.if-place-self.true c.if-word-address.true

pub returns-else-place-self : goal.returns-else-place-self
returns-else-place-self c =
    elim c.else-place-self.branch [
      | else-place-self-via-then-place-self+else-word-address w ↦ spotted-absent c.search-place.ensures (λ _. w.if-word-address.false)
      | else-place-self-via-else-place-self w ↦ spotted-absent c.search-place.ensures (λ l. absurd (omega (arith, w.if-place-self.false)))
    ]
