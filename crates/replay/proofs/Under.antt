-- The words below the top sixteen, as the depth grows and shrinks by one. Assumes nothing.
use mathlib.Core.Path.{◌≡◌, ◌∙◌}
use mathlib.Core.List.{List, append_assoc}
use Prim.Native.Nat.{ℕ, suc, ◌+◌, ◌-◌, ◌≤◌, ◌<◌}
use native.Mathlib.Omega.{arith}
use lib.ListN.{length, take, get_or, set, replicate, length-take, length-append, length-replicate, get_or-append}
use lib.Seq.{get_or-take, take-suc, set_at, length-take-le}
use Rattle.replay.specs.Demand3.{under}

-- the same words below, the same slice
pub under_same : (s t : List ℕ) (d : ℕ) → take (d - 16) s ≡ take (d - 16) t → length s ≡ length t → under s d ≡ under t d
unfolding under
under_same s t d e l = cc

pub under_zeros : (s : List ℕ) → under s 16 ≡ replicate (length s) 0
unfolding under
under_zeros s = let e : length s - 0 ≡ length s = omega arith in rw e

pub under-length : (s : List ℕ) (d : ℕ) → d ≤ length s → length (under s d) ≡ length s
unfolding under
under-length s d h = simp (length-append, length-take, length-replicate) (omega arith)

-- one word more is put at its place
pub under_more : (s : List ℕ) (d : ℕ) → 16 ≤ d → d < length s → set (under s d) (d - 16) (get_or s (d - 16) 0) ≡ under s (d + 1)
unfolding under
under_more s d h l =
    let e : length s - (d - 16) ≡ suc (length s - (d + 1 - 16)) = omega arith in
    let f : d + 1 - 16 ≡ suc (d - 16) = omega arith in
    let g : d - 16 < length s = omega arith in
    let k : d - 16 ≤ length s = omega arith in
    rw (e, f, take-suc s (d - 16) 0 g, append_assoc) (set_at (take (d - 16) s) 0 _ (get_or s (d - 16) 0) (d - 16) (length-take-le (d - 16) s k))

-- the word on top of them, and the slice when it is dropped
pub under_top : (s : List ℕ) (d : ℕ) → 16 < d → d ≤ length s → get_or (under s d) (d - 17) 0 ≡ get_or s (d - 17) 0
unfolding under
under_top s d h l =
    let i : d - 17 < length (take (d - 16) s) = simp length-take (omega arith) in
    let k : d - 17 < d - 16 = omega arith in
    get_or-append (take (d - 16) s) _ 0 (d - 17) i ∙ get_or-take (d - 16) s (d - 17) 0 k

pub under-less : (s : List ℕ) (d : ℕ) → 16 < d → d ≤ length s → set (under s d) (d - 17) 0 ≡ under s (d - 1)
unfolding under
under-less s d h l =
    let e : length s - (d - 1 - 16) ≡ suc (length s - (d - 16)) = omega arith in
    let f : d - 16 ≡ suc (d - 17) = omega arith in
    let f2 : d - 1 - 16 ≡ d - 17 = omega arith in
    let g : d - 17 < length s = omega arith in
    let k : d - 17 ≤ length s = omega arith in
    rw (e, f2, f, take-suc s (d - 17) 0 g, append_assoc) (set_at (take (d - 17) s) _ _ 0 (d - 17) (length-take-le (d - 17) s k))
