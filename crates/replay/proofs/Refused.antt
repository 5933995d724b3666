-- A refused replay gives zeros and leaves the slices as they were. Assumes nothing.
use mathlib.Core.Path.{◌≡◌, refl}
use mathlib.Core.Bool.{Bool, true, false}
use mathlib.Core.List.{List}
use Prim.Native.Nat.{ℕ}
use lib.ListN.{length}
use lib.Dec.{eqb}
use Rattle.choices.specs.Choice.{cond}
use Rattle.machine.specs.Ram.{Cells}
use Rattle.replay.specs.Replay.{Went, bad, fine, started, Replayed, refuses, finished, replay_bytes, replay_a, replay_of}

pub record Unchanged (s : List ℕ) (c : Cells) (r : Replayed) : Type 0 where
  pub depth : r.depth ≡ 0
  pub count : r.count ≡ 0
  pub words : r.words ≡ s
  pub addresses : r.addresses ≡ c.addresses
  pub values : r.values ≡ c.values

finished-refused : (w : Went) (s : List ℕ) (c : Cells) → ((finished w s c).number ≡ 0 → ⊥) → Unchanged s c (finished w s c)
finished-refused (bad n) s c h = record { depth = refl; count = refl; words = refl; addresses = refl; values = refl }
finished-refused (fine b) s c h = absurd (h refl)

pub replay_refused : (v : ℕ) (log : List ℕ) (c : Cells) (s : List ℕ) (j : ℕ) → ((replay_of v log c s j).number ≡ 0 → ⊥) → Unchanged s c (replay_of v log c s j)
unfolding replay_of
replay_refused v log c s j = go (eqb (replay_a v log c s) 0)
  where
    w : Went
    w = replay_bytes v (length log) j (started s c) log

    go : (t : Bool) → ((cond t (finished w s c) (refuses (replay_a v log c s) s c)).number ≡ 0 → ⊥) → Unchanged s c (cond t (finished w s c) (refuses (replay_a v log c s) s c))
    go true h = finished-refused w s c h
    go false h = record { depth = refl; count = refl; words = refl; addresses = refl; values = refl }
