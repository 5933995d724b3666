-- The bytes that 40 compares are those that stand in the log: a record's pointer or address and its value have, as eight bytes
-- each, the log's own. Assumes nothing.
use mathlib.Core.Path.{◌≡◌, refl, subst, ◌∙◌}
use mathlib.Core.Bool.{Bool, true, false}
use mathlib.Core.List.{List, [], ◌∷◌}
use Prim.Native.Nat.{ℕ, zero, suc, ◌+◌, ◌≤◌}
use native.Mathlib.Omega.{arith}
use borrow.Author.Tests.{eqb-true, ltb-false}
use lib.ListN.{length, take, drop, length-drop}
use lib.Seq.{take-take, length-take-le}
use lib.Dec.{eqb, ltb}
use Rattle.choices.specs.Choice.{cond, first_of, above_of}
use Rattle.machine.specs.Bytes.{Bytes, bytes_of, number_of}
use Rattle.machine.specs.Bytes as B
use Rattle.machine.specs.Records.{other, timed, stack, ram, length_of, record_of, Parsed, ended, broken, found, framed, parse}
use Rattle.machine.proofs.Bytes.{bytes_back, bytes_take}
use Rattle.replay.specs.Replay.{word40, fields40}

-- a part of a part
pub window : (m n k : ℕ) (d : List ℕ) → m + n ≤ k → take n (drop m (take k d)) ≡ take n (drop m d)
window zero n k d h = take-take n k d (omega arith)
window (suc m) n zero d h = absurd (omega arith)
window (suc m) n (suc k) [] h = refl
window (suc m) n (suc k) (x ∷ d) h = window m n k d (omega arith)

bytes_drop : {b : List ℕ} (n : ℕ) → Bytes b → Bytes (drop n b)
bytes_drop zero h = h
bytes_drop (suc n) B.none = B.none
bytes_drop (suc n) (B.more h k) = bytes_drop n k

-- eight bytes of a record of 25 bytes, put together and taken apart again
eight : (s : List ℕ) (m : ℕ) → Bytes s → m + 8 ≤ 25 → 25 ≤ length s → bytes_of 8 (number_of (take 8 (drop m (take 25 s)))) ≡ take 8 (drop m s)
eight s m h k l =
    let n : 8 ≤ length (drop m s) = rw (length-drop m s) (omega arith) in
    rw (window m 8 25 s k) (rw (length-take-le 8 (drop m s) n) at (bytes_back (bytes_take 8 (bytes_drop m h))))

-- what is read at the start of s
data Stands (s : List ℕ) : Parsed → Type 0 where
  at_end : Stands s ended
  at_break : Stands s broken
  of_other : {k : ℕ} {b u : List ℕ} → Stands s (found (other k b) u)
  is_of_timed : {k t : ℕ} {b u : List ℕ} → Stands s (found (timed k t b) u)
  is_of_stack : {t q d v : ℕ} {u : List ℕ} → bytes_of 8 q ≡ take 8 (drop 8 s) → bytes_of 8 v ≡ take 8 (drop 17 s) → Stands s (found (stack t q d v) u)
  is_of_ram : {t a v d : ℕ} {u : List ℕ} → bytes_of 8 a ≡ take 8 (drop 8 s) → bytes_of 8 v ≡ take 8 (drop 16 s) → Stands s (found (ram t a v d) u)

record-stands : (v n k : ℕ) (s u : List ℕ) → Bytes s → n ≡ length_of v k → n + 2 ≤ length s → Stands s (found (record_of k (take (n + 2) s)) u)
unfolding record_of length_of
record-stands v n k s u h e l = go (eqb k 4) (eqb k 5) (ltb 5 k) refl refl refl
  where
    go : (x y z : Bool) → eqb k 4 ≡ x → eqb k 5 ≡ y → ltb 5 k ≡ z → Stands s (found (record_of k (take (n + 2) s)) u)
    go true y z q r w =
        let f : k ≡ 4 = eqb-true k 4 q in
        let g : n ≡ 23 = e ∙ rw f in
        let m : 25 ≤ length s = omega arith in
        rw (g, f) (is_of_stack (eight s 8 h (omega arith) m) (eight s 17 h (omega arith) m))
    go false true z q r w =
        let f : k ≡ 5 = eqb-true k 5 r in
        let g : n ≡ 23 = e ∙ rw f in
        let m : 25 ≤ length s = omega arith in
        rw (g, f) (is_of_ram (eight s 8 h (omega arith) m) (eight s 16 h (omega arith) m))
    go false false true q r w = rw (q, r, w) is_of_timed
    go false false false q r w = rw (q, r, w) of_other

framed-stands : (v n k : ℕ) (s : List ℕ) → Bytes s → Stands s (framed v n k s)
unfolding framed
framed-stands v n k s h = go (eqb (length_of v k) 0) (eqb n (length_of v k)) (ltb (length s) (n + 2)) refl refl
  where
    go : (x y z : Bool) → eqb n (length_of v k) ≡ y → ltb (length s) (n + 2) ≡ z →
        Stands s (cond x broken (cond y (cond z broken (found (record_of k (take (n + 2) s)) (drop (n + 2) s))) broken))
    go true y z e f = at_break
    go false true true e f = at_break
    go false true false e f = record-stands v n k s _ h (eqb-true n (length_of v k) e) (ltb-false (length s) (n + 2) f)
    go false false z e f = at_break

parse-stands : (v : ℕ) (s : List ℕ) → Bytes s → Stands s (parse v s)
unfolding parse
parse-stands v [] h = at_end
parse-stands v (x ∷ s) h = go (ltb (length (x ∷ s)) 4)
  where
    go : (t : Bool) → Stands (x ∷ s) (cond t broken (framed v (number_of (take 2 (x ∷ s))) (number_of (take 2 (drop 2 (x ∷ s)))) (x ∷ s)))
    go true = at_break
    go false = framed-stands v _ _ (x ∷ s) h

-- 40 of a record that is read at the start of a log's bytes s, said over these bytes
module _ (v : ℕ) {s : List ℕ} (h : Bytes s) {u : List ℕ} where
  pub stack_fields : {t q d x : ℕ} → parse v s ≡ found (stack t q d x) u → fields40 d q x ≡ first_of (above_of d 1 40) (first_of (word40 (take 8 (drop 8 s))) (word40 (take 8 (drop 17 s))))
  unfolding fields40
  stack_fields {t} {q} {d} {x} e = go (subst (Stands s) e (parse-stands v s h))
    where
      go : Stands s (found (stack t q d x) u) → fields40 d q x ≡ first_of (above_of d 1 40) (first_of (word40 (take 8 (drop 8 s))) (word40 (take 8 (drop 17 s))))
      go (is_of_stack f g) = rw (f, g)

  pub ram_fields : {t a x d : ℕ} → parse v s ≡ found (ram t a x d) u → fields40 d a x ≡ first_of (above_of d 1 40) (first_of (word40 (take 8 (drop 8 s))) (word40 (take 8 (drop 16 s))))
  unfolding fields40
  ram_fields {t} {a} {x} {d} e = go (subst (Stands s) e (parse-stands v s h))
    where
      go : Stands s (found (ram t a x d) u) → fields40 d a x ≡ first_of (above_of d 1 40) (first_of (word40 (take 8 (drop 8 s))) (word40 (take 8 (drop 16 s))))
      go (is_of_ram f g) = rw (f, g)
