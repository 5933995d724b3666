-- What the turns of place A's loops show. Assumes nothing.
use mathlib.Core.Path.{◌≡◌, refl, sym, ap, ◌∙◌}
use mathlib.Core.Bool.{Bool, true, false, ◌&&◌}
use mathlib.Core.List.{List, ◌++◌}
use Prim.Native.Nat.{ℕ, zero, suc, ◌+◌, ◌-◌, ◌≤◌, ◌<◌, min}
use native.Mathlib.Numerals.{add-one}
use native.Mathlib.Omega.{arith}
use borrow.Author.Tests.{ne_eqb, lt-ltb, eqb-true, eqb-false, ltb-true, ltb-false}
use lib.ListN.{length, get_or, take, drop, length-drop, length-append}
use lib.Seq.{get_or-take, length-take-le, take_all}
use lib.Dec.{eqb, ltb}
use Rattle.std.specs.Prelude.{Result, Ok, Err}
use Rattle.std.proofs.lemmas.List.{get_or-drop, get_or_append_left, get_or-append-add}
use Rattle.std.specs.Result.{result_and}
use Rattle.machine.specs.declared.refusal.PlaceA.{PlaceA}
use Rattle.machine.specs.Refusal.{number_a, found_a}
use Rattle.field.specs.Base.{p}
use Rattle.choices.specs.Choice.{cond, first_of, above_of}
use Rattle.machine.specs.Words.{word_of2, words_of, zeros_from}
use Rattle.machine.specs.Instruction.{decode}
use Rattle.machine.specs.Machine.{Code}
use Rattle.machine.specs.PlaceA.{unknown3, argument4, opcodes3, arguments4, code34}
use Rattle.machine.proofs.Refused.{number_a_some}
use Rattle.choices.proofs.Choice.{first_zero, first-left}

-- ---- loops

-- a test t of each place, and the first number that it gives over the first so many
module _ (f t : ℕ → ℕ) (turn : (n : ℕ) → f (suc n) ≡ first_of (f n) (t n)) where
  pub scan_more : (i : ℕ) → f i ≡ 0 → t i ≡ 0 → f (i + 1) ≡ 0
  scan_more i h k = rw (add-one i) (turn i ∙ first_zero _ _ h ∙ k)

  -- a number once found stays
  scan_kept : (i n : ℕ) → i ≤ n → (f i ≡ 0 → ⊥) → f n ≡ f i
  scan_kept i zero l h = let e : i ≡ 0 = omega arith in rw e
  scan_kept i (suc n) l h = go (eqb i (suc n)) refl (λ m. scan_kept i n m h)
    where
      go : (b : Bool) → eqb i (suc n) ≡ b → (i ≤ n → f n ≡ f i) → f (suc n) ≡ f i
      go true e ih = let q : i ≡ suc n = eqb-true i (suc n) e in rw q
      go false e ih =
          let q : i ≡ suc n → ⊥ = eqb-false i (suc n) e in
          let w : f n ≡ f i = ih (omega arith) in
          turn n ∙ first-left _ _ (λ z. h (sym w ∙ z)) ∙ w

  pub scan_stop : (i n k : ℕ) → i < n → 0 < k → f i ≡ 0 → t i ≡ k → f n ≡ k
  scan_stop i n k l p h e =
      let w : f (suc i) ≡ k = turn i ∙ first_zero _ _ h ∙ e in
      scan_kept (suc i) n l (λ z. omega (arith, w)) ∙ w

-- ---- pieces

first_nothing : (a : ℕ) → first_of a 0 ≡ a
unfolding first_of
first_nothing zero = refl
first_nothing (suc a) = first-left (suc a) 0 (λ z. omega arith)

first_assoc : (a b d : ℕ) → first_of (first_of a b) d ≡ first_of a (first_of b d)
unfolding first_of
first_assoc zero b d = refl
first_assoc (suc a) b d = rw (ne_eqb (suc a) 0 (λ z. omega arith), ne_eqb (suc a) 0 (λ z. omega arith)) refl

-- a test t of each element, and the first number that it gives over the first so many of a list
module _ (f : List ℕ → ℕ → ℕ) (t : ℕ → ℕ) (none : (s : List ℕ) → f s 0 ≡ 0) (turn : (s : List ℕ) (n : ℕ) → f s (suc n) ≡ first_of (f s n) (t (get_or s n 0))) where
  -- what stands behind plays no part
  within : (s r : List ℕ) (n : ℕ) → n ≤ length s → f (s ++ r) n ≡ f s n
  within s r zero l = none (s ++ r) ∙ sym (none s)
  within s r (suc n) l = rw (turn (s ++ r) n, turn s n, within s r n (omega arith), get_or_append_left s r 0 n (omega arith)) refl

  parts : (s r : List ℕ) (n : ℕ) → f (s ++ r) (length s + n) ≡ first_of (f s (length s)) (f r n)
  parts s r zero = let z : length s + 0 ≡ length s = omega arith in rw (z, none r, first_nothing (f s (length s))) (within s r (length s) (omega arith))
  parts s r (suc n) =
      let z : length s + suc n ≡ suc (length s + n) = omega arith in
      rw (z, turn (s ++ r) (length s + n), parts s r n, get_or-append-add s r n 0, turn r n) (first_assoc (f s (length s)) (f r n) (t (get_or r n 0)))

  -- the rest q of a list is a piece and what is left
  whole : (q s r : List ℕ) → q ≡ s ++ r → f q (length q) ≡ first_of (f s (length s)) (f r (length r))
  whole q s r e = let l : length q ≡ length s + length r = ap length e ∙ length-append s r in rw (l, e) (parts s r (length r))

  pub piece_left : (q s r : List ℕ) {k : ℕ} → q ≡ s ++ r → 0 ≡ f s (length s) → f q (length q) ≡ k → f r (length r) ≡ k
  piece_left q s r e z h = sym (first_zero _ _ (sym z)) ∙ sym (whole q s r e) ∙ h

  pub piece_found : (q s r : List ℕ) (i : ℕ) {k : ℕ} → q ≡ s ++ r → i ≡ f s (length s) → 0 < i → f q (length q) ≡ k → i ≡ k
  piece_found q s r i e h l d = h ∙ sym (first-left (f s (length s)) (f r (length r)) (λ z. omega arith)) ∙ sym (whole q s r e) ∙ d

  pub piece_done : (q : List ℕ) {k : ℕ} → length q ≡ 0 → f q (length q) ≡ k → 0 ≡ k
  piece_done q e h = rw (e, none q) at h

-- ---- words

-- whether so many are words, and one more
pub words_all : (b : Bool) (s : List ℕ) (i : ℕ) → cond b 0 2 ≡ words_of s i → cond (b && ltb (get_or s i 0) p) 0 2 ≡ words_of s (i + 1)
unfolding words_of word_of2 first_of
words_all true s i h = rw (add-one i, ← h) refl
words_all false s i h = rw (add-one i, ← h) refl

-- the words of the first so many
pub words_take : (s : List ℕ) (m n : ℕ) → n ≤ m → words_of (take m s) n ≡ words_of s n
unfolding words_of
words_take s m zero l = refl
words_take s m (suc n) l = rw (words_take s m n (omega arith), get_or-take m s n 0 (omega arith)) refl

pub words_used : (s : List ℕ) (n r : ℕ) → r ≡ min (length s) n → words_of (take r s) (length (take r s)) ≡ words_of s (min n (length s))
words_used s n r e =
    let l : length (take r s) ≡ r = length-take-le r s (omega arith) in
    let k : r ≡ min n (length s) = omega arith in
    rw (l, words_take s r r (omega arith), k) refl

words_turn : (s : List ℕ) (n : ℕ) → words_of s (suc n) ≡ first_of (words_of s n) (word_of2 (get_or s n 0))
unfolding words_of
words_turn s n = refl

words_none : (s : List ℕ) → words_of s 0 ≡ 0
unfolding words_of
words_none s = refl

pub words_left : (q s r : List ℕ) {k : ℕ} → q ≡ s ++ r → 0 ≡ words_of s (length s) → words_of q (length q) ≡ k → words_of r (length r) ≡ k
words_left q s r e z h = piece_left words_of word_of2 words_none words_turn q s r e z h

pub words_found : (q s r : List ℕ) (i : ℕ) {k : ℕ} → q ≡ s ++ r → i ≡ words_of s (length s) → 0 < i → words_of q (length q) ≡ k → i ≡ k
words_found q s r i e h l d = piece_found words_of word_of2 words_none words_turn q s r i e h l d

pub words_done : (q : List ℕ) {k : ℕ} → length q ≡ 0 → words_of q (length q) ≡ k → 0 ≡ k
words_done q e h = piece_done words_of word_of2 words_none words_turn q e h

-- ---- unused words

zeros_turn : (s : List ℕ) (n : ℕ) → zeros_from s 0 (suc n) ≡ first_of (zeros_from s 0 n) (above_of (get_or s n 0) 0 5)
unfolding zeros_from
zeros_turn s n = let z : 0 + n ≡ n = omega arith in rw z refl

zeros_nothing : (s : List ℕ) → zeros_from s 0 0 ≡ 0
unfolding zeros_from
zeros_nothing s = refl

pub zeros_left : (q s r : List ℕ) {k : ℕ} → q ≡ s ++ r → 0 ≡ zeros_from s 0 (length s) → zeros_from q 0 (length q) ≡ k → zeros_from r 0 (length r) ≡ k
zeros_left q s r e z h = piece_left (λ x. zeros_from x 0) (λ x. above_of x 0 5) zeros_nothing zeros_turn q s r e z h

pub zeros_found : (q s r : List ℕ) (i : ℕ) {k : ℕ} → q ≡ s ++ r → i ≡ zeros_from s 0 (length s) → 0 < i → zeros_from q 0 (length q) ≡ k → i ≡ k
zeros_found q s r i e h l d = piece_found (λ x. zeros_from x 0) (λ x. above_of x 0 5) zeros_nothing zeros_turn q s r i e h l d

pub zeros_done : (q : List ℕ) {k : ℕ} → length q ≡ 0 → zeros_from q 0 (length q) ≡ k → 0 ≡ k
zeros_done q e h = piece_done (λ x. zeros_from x 0) (λ x. above_of x 0 5) zeros_nothing zeros_turn q e h

-- whether so many are 0, and one more
pub zeros_all : (b : Bool) (s : List ℕ) (i : ℕ) → cond b 0 5 ≡ zeros_from s 0 i → cond (b && eqb (get_or s i 0) 0) 0 5 ≡ zeros_from s 0 (i + 1)
unfolding zeros_from first_of above_of
zeros_all true s i h = let z : 0 + i ≡ i = omega arith in rw (add-one i, ← h, z) (go (get_or s i 0))
  where
    go : (x : ℕ) → ◌≡◌ {A = ℕ} (cond (eqb x 0) 0 5) (cond (ltb 0 x) 5 0)
    go zero = refl
    go (suc x) = rw (ne_eqb (suc x) 0 (λ z. omega arith), lt-ltb 0 (suc x) (omega arith)) refl
zeros_all false s i h = rw (add-one i, ← h) refl

zeros_none : (s : List ℕ) (m n : ℕ) → zeros_from s m 0 ≡ zeros_from s n 0
unfolding zeros_from
zeros_none s m n = refl

-- from place m on
zeros_drop : (s : List ℕ) (m n : ℕ) → zeros_from (drop m s) 0 n ≡ zeros_from s m n
unfolding zeros_from
zeros_drop s m zero = refl
zeros_drop s m (suc n) = let z : 0 + n ≡ n = omega arith in rw (zeros_drop s m n, z, get_or-drop m s n 0) refl

zeros_unused : (s : List ℕ) (n m : ℕ) → m ≡ min (length s) n → zeros_from (take (length s - m) (drop m s)) 0 (length (take (length s - m) (drop m s))) ≡ zeros_from s n (length s - n)
zeros_unused s n m e =
    rw (take_all (length s - m) (drop m s) (rw length-drop (omega arith)), length-drop, zeros_drop s m (length s - m)) (go (ltb n (length s)) refl)
  where
    go : (b : Bool) → ltb n (length s) ≡ b → zeros_from s m (length s - m) ≡ zeros_from s n (length s - n)
    go true t = let k : m ≡ n = omega (arith, ltb-true n (length s) t) in rw k
    go false t =
        let k : length s - m ≡ 0 = omega (arith, ltb-false n (length s) t) in
        let q : length s - n ≡ 0 = omega (arith, ltb-false n (length s) t) in
        rw (k, q) (zeros_none s m n)

-- behind the last, where b is the answer
pub zeros_end : (s : List ℕ) (n m i : ℕ) {b t : Bool} → m ≡ min (length s) n → i ≡ length (take (length s - m) (drop m s)) → b ≡ t → cond b 0 5 ≡ zeros_from (take (length s - m) (drop m s)) 0 i → cond t 0 5 ≡ zeros_from s n (length s - n)
zeros_end s n m i e f g h = rw (g, f) at h ∙ zeros_unused s n m e

-- before the first piece q is all that is not used
pub zeros_start : (q s : List ℕ) (n m : ℕ) → q ≡ take (length s - m) (drop m s) → m ≡ min (length s) n → zeros_from q 0 (length q) ≡ zeros_from s n (length s - n)
zeros_start q s n m d e = rw d (zeros_unused s n m e)

-- ---- slots

opcodes_turn : (s : List ℕ) (n : ℕ) → opcodes3 s (suc n) ≡ first_of (opcodes3 s n) (unknown3 (decode (get_or s n 0)))
unfolding opcodes3
opcodes_turn s n = refl

pub opcodes_more : (s : List ℕ) (i : ℕ) → opcodes3 s i ≡ 0 → 0 ≡ unknown3 (decode (get_or s i 0)) → opcodes3 s (i + 1) ≡ 0
opcodes_more s i h k = scan_more (opcodes3 s) _ (opcodes_turn s) i h (sym k)

found_and : (r q : Result (Unit {0}) PlaceA) → found_a (result_and r q) ≡ first_of (found_a r) (found_a q)
unfolding first_of
found_and (Ok v) q = refl
found_and (Err e) q = sym (first-left (number_a e) (found_a q) (λ z. omega (arith, number_a_some e)))

pub arguments_more : (s a : List ℕ) (i : ℕ) (r q t : Result (Unit {0}) PlaceA) → found_a r ≡ arguments4 s a i → found_a q ≡ argument4 (decode (get_or s i 0)) (get_or a i 0) → t ≡ result_and r q → found_a t ≡ arguments4 s a (i + 1)
unfolding arguments4
arguments_more s a i r q t h k e = rw (e, add-one i, ← h, ← k) (found_and r q)

pub slots_found : (c : Code) (i k : ℕ) → i < length c.opcodes → opcodes3 c.opcodes i ≡ 0 → k ≡ unknown3 (decode (get_or c.opcodes i 0)) → 0 < k → k ≡ code34 c
unfolding code34
slots_found c i k l h e z =
    let w : opcodes3 c.opcodes (length c.opcodes) ≡ k = scan_stop (opcodes3 c.opcodes) _ (opcodes_turn c.opcodes) i (length c.opcodes) k l z h (sym e) in
    sym (first-left _ _ (λ y. omega (arith, w)) ∙ w)

pub slots_end : (c : Code) (i f : ℕ) → i ≤ length c.opcodes → length c.opcodes ≤ i → opcodes3 c.opcodes i ≡ 0 → f ≡ arguments4 c.opcodes c.arguments i → f ≡ code34 c
unfolding code34
slots_end c i f l m h k =
    let e : i ≡ length c.opcodes = omega arith in
    let z : opcodes3 c.opcodes (length c.opcodes) ≡ 0 = rw (← e) h in
    k ∙ rw e (sym (first_zero _ _ z))
