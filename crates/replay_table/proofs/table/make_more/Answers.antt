use Prim.Native.Nat.{ℕ, ◌/◌}
use native.Mathlib.Omega.{arith}
use mathlib.Core.Path.{ap}
use Rattle.replay_table.proofs.TableLaws.{made_merged, made_halved}
use Rattle.replay_table.proofs.table.make_more.Goals as goal

pub returns-then-cells-clause-makes : goal.returns-then-cells-clause-makes
returns-then-cells-clause-makes c =
    let s = c.settle.ensures in
    let k = s.kept.room in
    made_merged _ _ _ _ c.requires.2 s.count s.merged (omega (arith, c.if-cells.true, k))

pub returns-clause-makes : goal.returns-clause-makes
returns-clause-makes c =
    let s = c.settle.ensures in
    let k = s.kept.room in
    made_halved _ _ _ _ _ (ap (λ (k : ℕ). k / 2) k) s.merged (omega (arith, c.if-cells.false, c.requires.0.room, s.count, k))
