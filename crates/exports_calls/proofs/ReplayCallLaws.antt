-- replay over numbers and slices is what its definition says. Assumes nothing.
use mathlib.Core.Path.{◌≡◌}
use mathlib.Core.List.{List, [], ◌∷◌}
use Prim.Native.Nat.{ℕ}
use borrow.Author.Tests.{eq-eqb, ne_eqb}
use lib.ListN.{length}
use Rattle.machine.specs.Ram.{Cells}
use Rattle.replay.specs.Replay.{Replayed, replay_of}
use Rattle.exports_calls.specs.ReplayCall.{replied, replay_call}

module _ (a log s : List ℕ) (v j : ℕ) (c : Cells) where
  pub replay_misfits : (length a ≡ 3 → ⊥) → replied 1 a s c.addresses c.values ≡ replay_call a log v j c s
  unfolding replay_call
  replay_misfits h = rw (ne_eqb (length a) 3 h)

  pub replay_called : (r : Replayed) (b x y : List ℕ) → length a ≡ 3 → r ≡ replay_of v log c s j → b ≡ (r.number ∷ r.depth ∷ r.count ∷ []) → x ≡ r.addresses → y ≡ r.values → replied r.number b r.words x y ≡ replay_call a log v j c s
  unfolding replay_call
  replay_called r b x y h e w d f = rw (eq-eqb (length a) 3 h, ← e, w, d, f)
