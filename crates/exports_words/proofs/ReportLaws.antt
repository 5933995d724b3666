-- What the code of the answer makes. Assumes nothing.
use mathlib.Core.Path.{◌≡◌, ◌∙◌}
use mathlib.Core.List.{List, append-nil}
use Prim.Native.Nat.{ℕ, ◌+◌}
use native.Mathlib.Omega.{arith}
use lib.ListN.{length, take, drop_of_length-le}
use lib.Seq.{paste, take_all}

-- as many words of w as the list has
pub first-words : (r s w : List ℕ) (n : ℕ) → length r ≡ n → s ≡ paste r 0 w n → s ≡ take n w
first-words r s w n l e =
    let y : 0 + n ≡ n = omega arith in
    e ∙ rw (y, drop_of_length-le r {i = n} (omega arith)) (append-nil (take n w))

-- the whole of a list, written
pub wholly : (r s w : List ℕ) (n : ℕ) → length r ≡ n → length w ≡ n → s ≡ paste r 0 w n → s ≡ w
wholly r s w n l m e = first-words r s w n l e ∙ take_all n w (omega arith)
