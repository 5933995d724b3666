-- Words from bytes, joined of their halves.
use mathlib.Core.Path.{◌≡◌, sym}
use mathlib.Core.List.{List, [], ◌∷◌, ◌++◌}
use Prim.Native.Nat.{ℕ, suc, ◌+◌, ◌*◌, ◌^◌, ◌≤◌, ◌<◌}
use native.Mathlib.Nat.{pow-succ'}
use native.Mathlib.Omega.{arith}
use lib.ListN.{length, take, drop, get_or, length-drop}
use lib.Seq.{take-add, drop-drop, drop-cons, length-take-le}
use Rattle.std.specs.Int.{w16, w32, w64, from_le_bytes}
use Rattle.machine.specs.Bytes.{number_of}
use Rattle.replay_scan.specs.RecordView.{number_at}

number_append : (s t : List ℕ) → number_of (s ++ t) ≡ number_of s + 256 ^ length s * number_of t
unfolding number_of
number_append [] t = omega arith
number_append (x ∷ s) t = rw (number_append s t, pow-succ') (omega arith)

pub number_two : (s : List ℕ) (at : ℕ) → at + 2 ≤ length s → get_or s at 0 + 256 * get_or s (at + 1) 0 ≡ number_at s at 2
unfolding number_at number_of
number_two s at h =
    let x : at < length s = omega arith in
    let y : suc at < length s = omega arith in
    let e : at + 1 ≡ suc at = omega arith in
    rw (drop-cons s at 0 x, drop-cons s (suc at) 0 y, e) (omega arith)

join : (n m : ℕ) (s : List ℕ) (at : ℕ) → at + n ≤ length s → number_at s at (n + m) ≡ number_at s at n + 256 ^ n * number_at s (at + n) m
unfolding number_at
join n m s at h =
    let l : n ≤ length (drop at s) = rw (length-drop at s) (omega arith) in
    rw (take-add n m (drop at s), number_append (take n (drop at s)) (take m (drop n (drop at s))), length-take-le n (drop at s) l, drop-drop n at s)

pub number_four : (s : List ℕ) (at : ℕ) → at + 2 ≤ length s → number_at s at 2 + 65536 * number_at s (at + 2) 2 ≡ number_at s at 4
number_four s at h = sym (join 2 2 s at h)

-- of bytes as std joins them
pub from_two : (s : List ℕ) (at : ℕ) → at + 2 ≤ length s → from_le_bytes w16 (get_or s at 0 ∷ get_or s (at + 1) 0 ∷ []) ≡ number_at s at 2
from_two s at h = omega (arith, number_two s at h)

pub from_four : (s : List ℕ) (at : ℕ) → at + 4 ≤ length s → from_le_bytes w32 (get_or s at 0 ∷ get_or s (at + 1) 0 ∷ get_or s (at + 2) 0 ∷ get_or s (at + 3) 0 ∷ []) ≡ number_at s at 4
from_four s at h =
    let e : at + 2 + 1 ≡ at + 3 = omega arith in
    let y = rw e at (number_two s (at + 2) (omega arith)) in
    omega (arith, number_two s at (omega arith), y, number_four s at (omega arith))

pub from_eight : (s : List ℕ) (at : ℕ) → at + 8 ≤ length s →
    from_le_bytes w64 (get_or s at 0 ∷ get_or s (at + 1) 0 ∷ get_or s (at + 2) 0 ∷ get_or s (at + 3) 0 ∷ get_or s (at + 4) 0 ∷ get_or s (at + 5) 0 ∷ get_or s (at + 6) 0 ∷ get_or s (at + 7) 0 ∷ []) ≡ number_at s at 8
from_eight s at h =
    let e : at + 4 + 1 ≡ at + 5 = omega arith in
    let f : at + 4 + 2 ≡ at + 6 = omega arith in
    let g : at + 4 + 3 ≡ at + 7 = omega arith in
    let y = rw (e, f, g) at (from_four s (at + 4) (omega arith)) in
    omega (arith, from_four s at (omega arith), y, join 4 4 s at (omega arith))
