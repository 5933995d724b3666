-- Place A of replay: where its code stops, and what is so where it finds nothing wrong. Assumes nothing.
use mathlib.Core.Path.{◌≡◌, refl, sym, ◌∙◌}
use mathlib.Core.List.{List}
use Prim.Native.Nat.{ℕ, ◌-◌, ◌≤◌}
use native.Mathlib.Omega.{arith}
use lib.ListN.{length, replicate, length-replicate}
use lib.Seq.{ext_get_or}
use Rattle.machine.specs.Words.{zeros_from}
use Rattle.machine.specs.Ram.{Cells}
use Rattle.machine.specs.PlaceA.{unused5}
use Rattle.machine.specs.Sound.{SoundCells}
use Rattle.choices.proofs.Choice.{first-nil, above-nil}
use Rattle.machine.proofs.Words.{zeros_nil, zeros_get_d}
use Rattle.machine.proofs.PlaceA.{cells-sound}
use Rattle.replay.specs.Replay.{replay_a}

-- the whole slice
pub all_unused : (s : List ℕ) → unused5 s 0 ≡ zeros_from s 0 (length s)
all_unused s = let z : length s - 0 ≡ length s = omega arith in rw z refl

-- ---- nothing wrong

pub record Accepted (log : List ℕ) (c : Cells) (s : List ℕ) : Type 0 where
  pub short : length log ≤ 16777216
  pub sound : SoundCells c
  pub few : length s ≤ 16777216
  pub zeros : s ≡ replicate (length s) 0

all_zero : (s : List ℕ) → zeros_from s 0 (length s) ≡ 0 → s ≡ replicate (length s) 0
all_zero s h = ext_get_or 0 s (replicate (length s) 0) (sym (length-replicate _ _)) (λ i l. zeros_nil s 0 (length s) h i (omega arith) (omega arith) ∙ sym (zeros_get_d (length s) i))

pub accepted : (v : ℕ) (log : List ℕ) (c : Cells) (s : List ℕ) → replay_a v log c s ≡ 0 → Accepted log c s
unfolding replay_a
accepted v log c s h =
    let x = first-nil _ _ h in
    let y = first-nil _ _ x.0 in
    let z = first-nil _ _ y.1 in
    let w = first-nil _ _ x.1 in
    let r = first-nil _ _ w.1 in
    let u = first-nil _ _ r.1 in
    record {
      short = above-nil _ _ 1 (omega arith) y.0;
      sound = cells-sound c z.0 w.0 u.0;
      few = above-nil _ _ 1 (omega arith) z.1;
      zeros = all_zero s u.1;
    }
