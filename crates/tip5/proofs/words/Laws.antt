-- Copying words: one turn of the loop. Assumes nothing.
use mathlib.Core.List.{List}
use mathlib.Core.Path.{◌≡◌, sym, ap, ◌∙◌}
use Prim.Native.Nat.{ℕ, ◌+◌, ◌<◌}
use native.Mathlib.Numerals.{add-one}
use lib.ListN.{length, get_or, set}
use lib.Seq.{paste, paste-suc}

pub copied : (d : List ℕ) (at : ℕ) (s : List ℕ) (i : ℕ) (e : List ℕ) → e ≡ paste d at s i → at + i < length d → i < length s
    → set e (at + i) (get_or s i 0) ≡ paste d at s (i + 1)
copied d at s i e h f g = ap (λ (l : List ℕ). set l (at + i) (get_or s i 0)) h ∙ paste-suc d at s i 0 f g ∙ ap (paste d at s) (sym (add-one i))
