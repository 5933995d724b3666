use native.Mathlib.Omega.{arith}
use mathlib.Core.Logic.{⊎_elim}
use Rattle.replay_table.specs.Merge.{of_own, of_both, of_new}
use Rattle.replay_table.proofs.merge.top.Goals as goal

pub returns-then-key-address : goal.returns-then-key-address
returns-then-key-address c = of_own c.if-i-gt0.true c.if-key-address.true

pub returns-then-address-key : goal.returns-then-address-key
returns-then-address-key c = of_both c.if-i-gt0.true c.if-address-key.true

pub returns : goal.returns
returns c = of_new (λ p. ⊎_elim (λ w. let d = w.if-address-key.false in omega (arith, w.if-key-address.false)) (λ w. absurd (omega (arith, w.if-i-gt0.false))) c.if-i-gt0.branch-raw)
