-- A step's op-stack records are what is left of its pushes and pops, recorded one by one, when adjacent equal pairs cancel; and they go one way. Assumes nothing.
use mathlib.Core.Path.{◌≡◌, refl, sym, ap, ◌∙◌}
use mathlib.Core.Bool.{Bool, true, false}
use mathlib.Core.List.{List, [], ◌∷◌, ◌++◌, append-nil}
use Prim.Native.Nat.{ℕ, zero, suc, ◌+◌, ◌-◌, ◌≤◌, ◌<◌}
use native.Mathlib.Nat.{sub-zero, zero-sub, suc-sub-suc}
use native.Mathlib.Omega.{arith}
use borrow.Author.Tests.{eq-eqb, le-ltb, ltb-true, ltb-false}
use lib.ListN.{length, get_or, take, drop, replicate, length-append, get_or-append}
use lib.Seq.{append_snoc, length-take-le, get_or-take, take-take, take-append-le, take-length, paste, length_paste_head, take-paste}
use lib.Dec.{ltb}
use Rattle.choices.specs.Choice.{cond}
use Rattle.machine.specs.Machine.{Machine}
use Rattle.machine.specs.Effect.{Effect, acts}
use Rattle.machine.specs.Decide.{decide_of}
use Rattle.machine.specs.Apply.{applied_stack, depth_after, stack_after}
use Rattle.machine.specs.Records.{Record, stack, growing, shrinking, stack_records}
use Rattle.machine.specs.UnderflowIO.{UnderflowIO, read, write, underflow_at, first_underflow, poppings, pushings, sequence_of, is_dual, pair_removed, pairs_removed, canonicalized, is_read, is_write, all_of, is_uniform, entries_from, entries_of, underflow_io}
use Rattle.machine.specs.Sound.{Sound}
use Rattle.machine.proofs.Facts.{facts}

-- ---- reads and writes of values

reads : List ℕ → List UnderflowIO
reads [] = []
reads (v ∷ l) = read v ∷ reads l

writes : List ℕ → List UnderflowIO
writes [] = []
writes (v ∷ l) = write v ∷ writes l

-- the words at the pointers d - 1, d - 2, .., n of them
downs : List ℕ → ℕ → ℕ → List ℕ
downs s d zero = []
downs s d (suc n) = downs s d n ++ (underflow_at s (d - 1 - n) ∷ [])

-- the words at the pointers q, q + 1, .., n of them
ups : List ℕ → ℕ → ℕ → List ℕ
ups s q zero = []
ups s q (suc n) = ups s q n ++ (underflow_at s (q + n) ∷ [])

downs_first : (s : List ℕ) (d n : ℕ) → downs s d (suc n) ≡ underflow_at s (d - 1) ∷ downs s (d - 1) n
unfolding downs
downs_first s d zero = ap (λ (i : ℕ). underflow_at s i ∷ []) (omega arith)
downs_first s d (suc n) =
    ap (λ (l : List ℕ). l ++ (underflow_at s (d - 1 - suc n) ∷ [])) (downs_first s d n)
    ∙ ap (λ (i : ℕ). underflow_at s (d - 1) ∷ (downs s (d - 1) n ++ (underflow_at s i ∷ []))) (omega arith)

ups_first : (s : List ℕ) (q n : ℕ) → ups s q (suc n) ≡ underflow_at s q ∷ ups s (q + 1) n
unfolding ups
ups_first s q zero = ap (λ (i : ℕ). underflow_at s i ∷ []) (omega arith)
ups_first s q (suc n) =
    ap (λ (l : List ℕ). l ++ (underflow_at s (q + suc n) ∷ [])) (ups_first s q n)
    ∙ ap (λ (i : ℕ). underflow_at s q ∷ (ups s (q + 1) n ++ (underflow_at s i ∷ []))) (omega arith)

-- ---- pairs cancel from the seam outward

seam_pair : (a : List ℕ) (x : ℕ) (l : List UnderflowIO) → pair_removed (reads (a ++ (x ∷ [])) ++ (write x ∷ l)) ≡ reads a ++ l
unfolding reads pair_removed
seam_pair [] x l = rw (eq-eqb x x refl)
seam_pair (a ∷ []) x l = ap (λ (z : List UnderflowIO). read a ∷ z) (seam_pair [] x l)
seam_pair (a ∷ b ∷ c) x l = ap (λ (z : List UnderflowIO). read a ∷ z) (seam_pair (b ∷ c) x l)

reads_stay : (a : List ℕ) → pair_removed (reads a) ≡ reads a
unfolding reads pair_removed
reads_stay [] = refl
reads_stay (a ∷ []) = refl
reads_stay (a ∷ b ∷ c) = ap (λ (z : List UnderflowIO). read a ∷ z) (reads_stay (b ∷ c))

writes_stay : (a : List ℕ) → pair_removed (writes a) ≡ writes a
unfolding writes pair_removed
writes_stay [] = refl
writes_stay (a ∷ []) = refl
writes_stay (a ∷ b ∷ c) = ap (λ (z : List UnderflowIO). write a ∷ z) (writes_stay (b ∷ c))

all_stay : (f : ℕ) (l : List UnderflowIO) → pair_removed l ≡ l → pairs_removed f l ≡ l
unfolding pairs_removed
all_stay zero l h = refl
all_stay (suc f) l h = rw h (all_stay f l h)

-- a round takes a pair out or changes nothing, so as many rounds as elements leave no pair
data Round (l : List UnderflowIO) : Type 0 where
  same : pair_removed l ≡ l → Round l
  less : length (pair_removed l) < length l → Round l

round : (l : List UnderflowIO) → Round l
unfolding pair_removed
round [] = same refl
round (x ∷ []) = same refl
round (x ∷ y ∷ l) = go (is_dual x y) refl (round (y ∷ l))
  where
    go : (b : Bool) → is_dual x y ≡ b → Round (y ∷ l) → Round (x ∷ y ∷ l)
    go true e r = less (rw e (omega arith))
    go false e (same h) = same (rw e (ap (λ (z : List UnderflowIO). x ∷ z) h))
    go false e (less h) = less (rw e (omega arith))

rounds_end : (f : ℕ) (l : List UnderflowIO) → length l ≤ f → pair_removed (pairs_removed f l) ≡ pairs_removed f l
unfolding pairs_removed pair_removed
rounds_end zero [] h = refl
rounds_end zero (x ∷ l) h = absurd (omega arith)
rounds_end (suc f) l h = go (round l) (λ k. rounds_end f (pair_removed l) k)
  where
    go : Round l → (length (pair_removed l) ≤ f → pair_removed (pairs_removed f (pair_removed l)) ≡ pairs_removed f (pair_removed l)) →
        pair_removed (pairs_removed f (pair_removed l)) ≡ pairs_removed f (pair_removed l)
    go (same e) ih = rw (e, all_stay f l e) e
    go (less k) ih = ih (omega arith)

-- what is canonical has no pair left
pub canonical_ends : (l : List UnderflowIO) → pair_removed (canonicalized l) ≡ canonicalized l
unfolding canonicalized
canonical_ends l = rounds_end (length l) l (omega arith)

-- n reads down and k writes up again
left : List ℕ → ℕ → ℕ → ℕ → List UnderflowIO
left s d n k = reads (downs s d (n - k)) ++ writes (ups s d (k - n))

downs_last : (s : List ℕ) (d n : ℕ) → downs s d (suc n) ≡ downs s d n ++ (underflow_at s (d - suc n) ∷ [])
unfolding downs
downs_last s d n = ap (λ (i : ℕ). downs s d n ++ (underflow_at s i ∷ [])) (omega arith)

ups_next : (s : List ℕ) (d n k : ℕ) → suc n ≤ d → ups s (d - suc n) (suc k) ≡ underflow_at s (d - suc n) ∷ ups s (d - n) k
ups_next s d n k h = ups_first s (d - suc n) k ∙ ap (λ (i : ℕ). underflow_at s (d - suc n) ∷ ups s i k) (omega arith)

seam_turn : (s : List ℕ) (d n k : ℕ) → suc n ≤ d →
    pair_removed (reads (downs s d (suc n)) ++ writes (ups s (d - suc n) (suc k))) ≡ reads (downs s d n) ++ writes (ups s (d - n) k)
unfolding writes
seam_turn s d n k h = rw (downs_last s d n, ups_next s d n k h) (seam_pair (downs s d n) (underflow_at s (d - suc n)) (writes (ups s (d - n) k)))

left-writes : (s : List ℕ) (d k : ℕ) → left s d 0 k ≡ writes (ups s d k)
unfolding left downs reads
left-writes s d k = rw (zero-sub k, sub-zero k)

left-reads : (s : List ℕ) (d n : ℕ) → left s d n 0 ≡ reads (downs s d n)
unfolding left ups writes
left-reads s d n = rw (zero-sub n, sub-zero n) (append-nil (reads (downs s d n)))

left_turn : (s : List ℕ) (d n k : ℕ) → left s d (suc n) (suc k) ≡ left s d n k
unfolding left
left_turn s d n k = rw (suc-sub-suc n k, suc-sub-suc k n)

seam_more : (s : List ℕ) (d n k f : ℕ) → suc n ≤ d → pairs_removed f (reads (downs s d n) ++ writes (ups s (d - n) k)) ≡ left s d n k →
    pairs_removed (suc f) (reads (downs s d (suc n)) ++ writes (ups s (d - suc n) (suc k))) ≡ left s d (suc n) (suc k)
unfolding pairs_removed
seam_more s d n k f h ih = rw (seam_turn s d n k h) ih ∙ sym (left_turn s d n k)

seam : (s : List ℕ) (d n k f : ℕ) → n ≤ d → n ≤ f → pairs_removed f (reads (downs s d n) ++ writes (ups s (d - n) k)) ≡ left s d n k
unfolding downs ups reads writes
seam s d zero k f h g = rw (sub-zero d) (all_stay f (writes (ups s d k)) (writes_stay (ups s d k))) ∙ sym (left-writes s d k)
seam s d (suc n) zero f h g = rw append-nil (all_stay f (reads (downs s d (suc n))) (reads_stay (downs s d (suc n)))) ∙ sym (left-reads s d (suc n))
seam s d (suc n) (suc k) zero h g = absurd (omega arith)
seam s d (suc n) (suc k) (suc f) h g = seam_more s d n k f h (seam s d n k f (omega arith) (omega arith))

-- ---- what is recorded one by one

same-below : (s r : List ℕ) (q : ℕ) → (16 ≤ q → get_or s (q - 16) 0 ≡ get_or r (q - 16) 0) → underflow_at s q ≡ underflow_at r q
unfolding underflow_at
same-below s r q h = go (ltb q 16) refl
  where
    go : (t : Bool) → ltb q 16 ≡ t → cond t 0 (get_or s (q - 16) 0) ≡ cond t 0 (get_or r (q - 16) 0)
    go true e = refl
    go false e = h (ltb-false q 16 e)

first_of : (s : List ℕ) (d : ℕ) → d ≤ length s → first_underflow (take d s) ≡ underflow_at s (d - 1)
unfolding first_underflow
first_of s d h = rw (length-take-le d s h) (same-below (take d s) s (d - 1) (λ l. get_or-take d s (d - 1 - 16) 0 (omega arith)))

poppings_are : (s : List ℕ) (d n : ℕ) → d ≤ length s → poppings n (take d s) ≡ reads (downs s d n)
unfolding poppings downs reads
poppings_are s d zero h = refl
poppings_are s d (suc n) h =
    rw (first_of s d h, length-take-le d s h, take-take (d - 1) d s (omega arith), poppings_are s (d - 1) n (omega arith)) (sym (ap reads (downs_first s d n)))

first_pushed : (u w : List ℕ) (x : ℕ) → first_underflow (u ++ (x ∷ [])) ≡ underflow_at (u ++ (x ∷ w)) (length u)
unfolding first_underflow
first_pushed u w x =
    ap (underflow_at (u ++ (x ∷ []))) (simp length-append (omega arith))
    ∙ same-below (u ++ (x ∷ [])) (u ++ (x ∷ w)) (length u)
    (λ l. rw (← append_snoc u x w) (sym (get_or-append (u ++ (x ∷ [])) w 0 (length u - 16) (simp length-append (omega arith)))))

pushings_are : (w u : List ℕ) → pushings w u ≡ writes (ups (u ++ w) (length u) (length w))
unfolding pushings ups writes
pushings_are [] u = refl
pushings_are (x ∷ w) u =
    rw (first_pushed u w x, pushings_are w (u ++ (x ∷ [])), append_snoc u x w, length-append u (x ∷ [])) (sym (ap writes (ups_first (u ++ (x ∷ w)) (length u) (length w))))

downs_alike : (s r : List ℕ) (d n : ℕ) → n ≤ d → ((q : ℕ) → q < d → underflow_at s q ≡ underflow_at r q) → downs s d n ≡ downs r d n
unfolding downs
downs_alike s r d zero l h = refl
downs_alike s r d (suc n) l h = rw (downs_alike s r d n (omega arith) h, h (d - 1 - n) (omega arith))

-- the used words after the pops and the pushes
after : List ℕ → ℕ → ℕ → List ℕ → List ℕ
after s d n w = take (d - n) s ++ w

after_low : (s : List ℕ) (d n : ℕ) (w : List ℕ) (i : ℕ) → d ≤ length s → i < d - n → get_or (after s d n w) i 0 ≡ get_or s i 0
unfolding after
after_low s d n w i h l =
    let k : i < length (take (d - n) s) = rw (length-take-le (d - n) s (omega arith)) l in
    get_or-append (take (d - n) s) w 0 i k ∙ get_or-take (d - n) s i 0 l

popped_are : (s : List ℕ) (d n : ℕ) (w : List ℕ) → 16 ≤ d → d ≤ length s → n ≤ 16 → poppings n (take d s) ≡ reads (downs (after s d n w) d n)
popped_are s d n w g h l =
    poppings_are s d n h
    ∙ ap reads (downs_alike s (after s d n w) d n (omega arith) (λ q k. same-below s (after s d n w) q (λ i. sym (after_low s d n w (q - 16) h (omega arith)))))

pushed_are : (s : List ℕ) (d n : ℕ) (w : List ℕ) → d ≤ length s →
    pushings w (take (length (take d s) - n) (take d s)) ≡ writes (ups (after s d n w) (d - n) (length w))
unfolding after
pushed_are s d n w h =
    rw (length-take-le d s h, take-take (d - n) d s (omega arith), pushings_are w (take (d - n) s), length-take-le (d - n) s (omega arith))

sequence_is : (s : List ℕ) (d n : ℕ) (w : List ℕ) → 16 ≤ d → d ≤ length s → n ≤ 16 →
    sequence_of (take d s) n w ≡ reads (downs (after s d n w) d n) ++ writes (ups (after s d n w) (d - n) (length w))
unfolding sequence_of
sequence_is s d n w g h l = rw (popped_are s d n w g h l, pushed_are s d n w h)

downs_length : (s : List ℕ) (d n : ℕ) → length (downs s d n) ≡ n
unfolding downs
downs_length s d zero = refl
downs_length s d (suc n) = simp (length-append, downs_length s d n) (omega arith)

ups_length : (s : List ℕ) (q n : ℕ) → length (ups s q n) ≡ n
unfolding ups
ups_length s q zero = refl
ups_length s q (suc n) = simp (length-append, ups_length s q n) (omega arith)

reads-length : (a : List ℕ) → length (reads a) ≡ length a
unfolding reads
reads-length [] = refl
reads-length (x ∷ a) = ap suc (reads-length a)

writes-length : (a : List ℕ) → length (writes a) ≡ length a
unfolding writes
writes-length [] = refl
writes-length (x ∷ a) = ap suc (writes-length a)

canonical_is : (s : List ℕ) (d n : ℕ) (w : List ℕ) → 16 ≤ d → d ≤ length s → n ≤ 16 →
    canonicalized (sequence_of (take d s) n w) ≡ left (after s d n w) d n (length w)
unfolding canonicalized
canonical_is s d n w g h l =
    rw (sequence_is s d n w g h l) (seam (after s d n w) d n (length w) _ (omega arith) (simp (length-append, reads-length, downs_length) (omega arith)))

-- ---- the entries of what is left

at_pointer : (s : List ℕ) (q : ℕ) → 16 ≤ q → underflow_at s q ≡ get_or s (q - 16) 0
unfolding underflow_at
at_pointer s q h = rw (le-ltb q 16 h)

growing-first : (t : ℕ) (s : List ℕ) (q n : ℕ) → growing t s q (suc n) ≡ stack t q 1 (get_or s (q - 16) 0) ∷ growing t s (q + 1) n
unfolding growing
growing-first t s q zero = ap (λ (i : ℕ). stack t i 1 (get_or s (i - 16) 0) ∷ []) (omega arith)
growing-first t s q (suc n) =
    ap (λ (l : List Record). l ++ (stack t (q + suc n) 1 (get_or s (q + suc n - 16) 0) ∷ [])) (growing-first t s q n)
    ∙ ap (λ (i : ℕ). stack t q 1 (get_or s (q - 16) 0) ∷ (growing t s (q + 1) n ++ (stack t i 1 (get_or s (i - 16) 0) ∷ []))) (omega arith)

shrinking-first : (t : ℕ) (s : List ℕ) (q n : ℕ) → shrinking t s q (suc n) ≡ stack t (q - 1) 0 (get_or s (q - 1 - 16) 0) ∷ shrinking t s (q - 1) n
unfolding shrinking
shrinking-first t s q zero = ap (λ (i : ℕ). stack t i 0 (get_or s (i - 16) 0) ∷ []) (omega arith)
shrinking-first t s q (suc n) =
    ap (λ (l : List Record). l ++ (stack t (q - 1 - suc n) 0 (get_or s (q - 1 - suc n - 16) 0) ∷ [])) (shrinking-first t s q n)
    ∙ ap (λ (i : ℕ). stack t (q - 1) 0 (get_or s (q - 1 - 16) 0) ∷ (shrinking t s (q - 1) n ++ (stack t i 0 (get_or s (i - 16) 0) ∷ []))) (omega arith)

write_entries : (t : ℕ) (s r : List ℕ) (q n : ℕ) → 16 ≤ q → ((i : ℕ) → i < q + n - 16 → get_or s i 0 ≡ get_or r i 0) →
    entries_from t q (writes (ups s q n)) ≡ growing t r q n
unfolding entries_from writes ups growing
write_entries t s r q zero h k = refl
write_entries t s r q (suc n) h k =
    ap (λ (a : List ℕ). entries_from t q (writes a)) (ups_first s q n)
    ∙ rw (at_pointer s q h, k (q - 16) (omega arith), write_entries t s r (q + 1) n (omega arith) (λ i l. k i (omega arith))) (sym (growing-first t r q n))

read_entries : (t : ℕ) (s r : List ℕ) (q n : ℕ) → 16 + n ≤ q → ((i : ℕ) → i < q - 16 → get_or s i 0 ≡ get_or r i 0) →
    entries_from t q (reads (downs s q n)) ≡ shrinking t r q n
unfolding entries_from reads downs shrinking
read_entries t s r q zero h k = refl
read_entries t s r q (suc n) h k =
    ap (λ (a : List ℕ). entries_from t q (reads a)) (downs_first s q n)
    ∙ rw (at_pointer s (q - 1) (omega arith), k (q - 1 - 16) (omega arith), read_entries t s r (q - 1) n (omega arith) (λ i l. k i (omega arith))) (sym (shrinking-first t r q n))

all-writes : (a : List ℕ) → all_of is_write (writes a) ≡ true
unfolding all_of writes
all-writes [] = refl
all-writes (x ∷ a) = all-writes a

all-reads : (a : List ℕ) → all_of is_read (reads a) ≡ true
unfolding all_of reads
all-reads [] = refl
all-reads (x ∷ a) = all-reads a

not-writes : (s : List ℕ) (d n : ℕ) → all_of is_write (reads (downs s d (suc n))) ≡ false
unfolding all_of reads
not-writes s d n = rw (downs_first s d n)

take_before : (s : List ℕ) (at : ℕ) (z : List ℕ) (n : ℕ) → at ≤ length s → take at (paste s at z n) ≡ take at s
take_before s at z n h =
    let x : length (take at s) ≡ at = length-take-le at s h in
    take-append-le at (take at s ++ take n z) _ (omega (arith, x, length-append (take at s) (take n z)))
    ∙ take-append-le at (take at s) (take n z) (omega arith)
    ∙ take-take at at s (omega arith)

-- the used words of the stack after the step
applied_used : (s : List ℕ) (d n : ℕ) (w : List ℕ) → d ≤ length s → take (d - n + length w) (applied_stack s d n w) ≡ after s d n w
unfolding applied_stack after
applied_used s d n w h =
    let x : length (take (d - n) s ++ take (length w) w) ≡ d - n + length w = length_paste_head s (d - n) w (length w) (omega arith) (omega arith) in
    let y : d - n + length w ≤ length (paste s (d - n) w (length w)) =
    omega (arith, x, length-append (take (d - n) s ++ take (length w) w) (drop (d - n + length w) s)) in
    take_before (paste s (d - n) w (length w)) (d - n + length w) (replicate (n - length w) 0) (length (replicate {A = ℕ} (n - length w) 0)) y
    ∙ take-paste s (d - n) w (length w) (omega arith) (omega arith)
    ∙ ap (λ (z : List ℕ). take (d - n) s ++ z) (take-length w)

applied_low : (s : List ℕ) (d n : ℕ) (w : List ℕ) (i : ℕ) → d ≤ length s → i < d - n + length w → get_or (after s d n w) i 0 ≡ get_or (applied_stack s d n w) i 0
applied_low s d n w i h l =
    ap (λ (z : List ℕ). get_or z i 0) (sym (applied_used s d n w h)) ∙ get_or-take (d - n + length w) (applied_stack s d n w) i 0 l

within : (d n k i : ℕ) → n ≤ d → n ≤ k → i < d + (k - n) - 16 → i < d - n + k
within d n k i g h l = omega arith

-- all writes, where no more is popped than pushed
only_writes : (t : ℕ) (s : List ℕ) (d n : ℕ) (w : List ℕ) → 16 ≤ d → d ≤ length s → n ≤ d → n ≤ length w →
    entries_of t (d - n + length w) (left (after s d n w) d n (length w)) ≡ stack_records t s (applied_stack s d n w) d (d - n + length w)
unfolding entries_of stack_records left downs reads shrinking
only_writes t s d n w g h l k =
    let a : n - length w ≡ 0 = omega arith in
    let b : d - n + length w - d ≡ length w - n = omega arith in
    let c : d - (d - n + length w) ≡ 0 = omega arith in
    let e : d - n + length w - (length w - n) ≡ d = omega arith in
    rw (a, b, c, all-writes (ups (after s d n w) d (length w - n)), writes-length (ups (after s d n w) d (length w - n)), ups_length (after s d n w) d (length w - n), e)
    (write_entries t (after s d n w) (applied_stack s d n w) d (length w - n) g (λ i j. applied_low s d n w i h (within d n (length w) i l k j))
    ∙ sym (append-nil (growing t (applied_stack s d n w) d (length w - n))))

deeper : (d n k : ℕ) → 16 + n ≤ d + k → k < n → 16 + (n - k) ≤ d
deeper d n k h l = omega arith

lower : (d n i : ℕ) → n ≤ 16 → i < d - 16 → i < d - n
lower d n i h l = omega arith

-- all reads, where more is popped
only_reads : (t : ℕ) (s : List ℕ) (d n : ℕ) (w : List ℕ) → 16 ≤ d → d ≤ length s → n ≤ 16 → length w < n → 16 + n ≤ d + length w →
    entries_of t (d - n + length w) (left (after s d n w) d n (length w)) ≡ stack_records t s (applied_stack s d n w) d (d - n + length w)
unfolding entries_of stack_records left ups writes growing
only_reads t s d n w g h m l k =
    let a : length w - n ≡ 0 = omega arith in
    let b : d - n + length w - d ≡ 0 = omega arith in
    let c : d - (d - n + length w) ≡ n - length w = omega arith in
    let e : d - n + length w + (n - length w) ≡ d = omega arith in
    let f : n - length w ≡ suc (n - length w - 1) = omega arith in
    let z : all_of is_write (reads (downs (after s d n w) d (n - length w))) ≡ false = rw f (not-writes (after s d n w) d (n - length w - 1)) in
    rw (a, b, c, append-nil, z, reads-length (downs (after s d n w) d (n - length w)), downs_length (after s d n w) d (n - length w), e)
    (read_entries t (after s d n w) s d (n - length w) (deeper d n (length w) k l) (λ i j. after_low s d n w i h (lower d n i m j)))

left_uniform : (s : List ℕ) (d n k : ℕ) → is_uniform (left s d n k) ≡ true
unfolding is_uniform left downs ups reads writes
left_uniform s d n k = go (ltb k n) refl
  where
    either : (b : Bool) → cond b true true ≡ true
    either true = refl
    either false = refl

    go : (b : Bool) → ltb k n ≡ b → is_uniform (reads (downs s d (n - k)) ++ writes (ups s d (k - n))) ≡ true
    go true e =
        let l : k < n = ltb-true k n e in
        let a : k - n ≡ 0 = omega arith in
        rw (a, append-nil, all-reads (downs s d (n - k)))
    go false e =
        let l : n ≤ k = ltb-false k n e in
        let a : n - k ≡ 0 = omega arith in
        rw (a, all-writes (ups s d (k - n))) (either (all_of is_read (writes (ups s d (k - n)))))

-- ---- the records of a step

module _ (t : ℕ) (s : List ℕ) (d n : ℕ) (w : List ℕ) (deep : 16 ≤ d) (used : d ≤ length s) (few : n ≤ 16) (rest : 16 + n ≤ d + length w) where
  -- the records are the entries of what is left
  pub cancels : stack_records t s (applied_stack s d n w) d (d - n + length w) ≡ entries_of t (d - n + length w) (canonicalized (sequence_of (take d s) n w))
  cancels = rw (canonical_is s d n w deep used few) (sym (go (ltb (length w) n) refl))
    where
      go : (b : Bool) → ltb (length w) n ≡ b →
          entries_of t (d - n + length w) (left (after s d n w) d n (length w)) ≡ stack_records t s (applied_stack s d n w) d (d - n + length w)
      go true e = only_reads t s d n w deep used few (ltb-true (length w) n e) rest
      go false e = only_writes t s d n w deep used (omega arith) (ltb-false (length w) n e)

  -- and they are all reads or all writes
  pub one_way : is_uniform (canonicalized (sequence_of (take d s) n w)) ≡ true
  one_way = rw (canonical_is s d n w deep used few) (left_uniform (after s d n w) d n (length w))

-- so of every step
pub step_cancels : (m : Machine) → Sound m → (e : Effect) → decide_of m ≡ acts e →
    stack_records m.state.clock m.memory.op_stack (stack_after m e) m.state.depth (depth_after m e)
    ≡ entries_of m.state.clock (depth_after m e) (canonicalized (underflow_io m e))
step_cancels m s e h = cancels m.state.clock m.memory.op_stack m.state.depth e.pops e.words s.deep s.op_stack.used (facts m s e h).pops (facts m s e h).deep

pub step_one_way : (m : Machine) → Sound m → (e : Effect) → decide_of m ≡ acts e → is_uniform (canonicalized (underflow_io m e)) ≡ true
step_one_way m s e h = one_way m.state.clock m.memory.op_stack m.state.depth e.pops e.words s.deep s.op_stack.used (facts m s e h).pops (facts m s e h).deep
