use Rattle.std.proofs.Common.{le-ltb, lt-ltb}
use Rattle.machine_ram.proofs.addresses.behind.Goals as goal

pub returns-then-word-address : goal.returns-then-word-address
returns-then-word-address c = simp (lt-ltb _ _ c.if-word-address.true)

pub returns-else-word-address : goal.returns-else-word-address
returns-else-word-address c = simp (le-ltb _ _ c.if-word-address.false)
