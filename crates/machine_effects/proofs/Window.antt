-- Laws of words that are copied: into an array, and within the top sixteen. Assumes nothing.
use mathlib.Core.Path.{◌≡◌, refl, ap, ◌∙◌}
use mathlib.Core.List.{List, [], ◌∷◌, ◌++◌, append-nil, append_assoc}
use Prim.Native.Nat.{ℕ, zero, suc, ◌+◌, ◌-◌, ◌≤◌, ◌<◌}
use native.Mathlib.Omega.{arith}
use native.Mathlib.Numerals.{add-one}
use lib.ListN.{length, take, drop, get_or, set, length-append, length-take, length-drop, drop_of_length-le}
use lib.Seq.{take_all, take-suc, drop-cons, set_at}
use Rattle.std.specs.List.{copy_within}
use Rattle.machine.specs.Stack.{picked, placed}
use Rattle.machine.specs.Hashing.{from_top}

-- the words above ST i moved down by one, and ST i on top
pub picked-is : (w : List ℕ) (i : ℕ) → length w ≡ 16 → i < 16 → set (copy_within w (15 - i + 1) 16 (15 - i)) 15 (get_or w (15 - i) 0) ≡ picked w i
unfolding picked
picked-is w i l h =
    let n : 16 - (15 - i + 1) ≡ i = omega arith in
    let d : drop 15 w ≡ get_or w 15 0 ∷ [] = drop-cons w 15 0 (omega arith) ∙ ap (λ (r : List ℕ). get_or w 15 0 ∷ r) (drop_of_length-le w {i = 16} (omega arith)) in
    let e : 15 - i + i ≡ 15 = omega arith in
    let f : 15 - i + 1 ≡ 16 - i = omega arith in
    let s : length (drop (16 - i) w) ≤ i = simp length-drop (omega arith) in
    let q : length (take (15 - i) w ++ drop (16 - i) w) ≡ 15 = simp (length-append, length-take, length-drop) (omega arith) in
    rw (n, e, f, take_all i (drop (16 - i) w) s, d) (set_at (take (15 - i) w ++ drop (16 - i) w) _ [] _ 15 q)

-- the words from ST i up moved up by one, and ST 0 below them
pub placed-is : (w : List ℕ) (i : ℕ) → length w ≡ 16 → i < 16 → set (copy_within w (15 - i) 15 (15 - i + 1)) (15 - i) (get_or w 15 0) ≡ placed w i
unfolding placed
placed-is w i l h =
    let n : 15 - (15 - i) ≡ i = omega arith in
    let e : 15 - i + 1 + i ≡ 16 = omega arith in
    let z : drop 16 w ≡ [] = drop_of_length-le w {i = 16} (omega arith) in
    let t : take (15 - i + 1) w ≡ take (15 - i) w ++ (get_or w (15 - i) 0 ∷ []) = rw add-one (take-suc w (15 - i) 0 (omega arith)) in
    let q : length (take (15 - i) w) ≡ 15 - i = simp length-take (omega arith) in
    rw (n, e, z, append-nil, t, append_assoc) (set_at (take (15 - i) w) _ _ _ (15 - i) q)

-- the top five words in an array, the top first
abbrev pub five_of : List ℕ → List ℕ
five_of w = get_or w 15 0 ∷ get_or w 14 0 ∷ get_or w 13 0 ∷ get_or w 12 0 ∷ get_or w 11 0 ∷ []

pub top_five : (w : List ℕ) (n : ℕ) → n ≤ 5 → take n (five_of w) ≡ from_top w 0 n
unfolding from_top
top_five w zero h = refl
top_five w (suc zero) h = refl
top_five w (suc (suc zero)) h = refl
top_five w (suc (suc (suc zero))) h = refl
top_five w (suc (suc (suc (suc zero)))) h = refl
top_five w (suc (suc (suc (suc (suc zero))))) h = refl
top_five w (suc (suc (suc (suc (suc (suc n)))))) h = absurd (omega arith)
