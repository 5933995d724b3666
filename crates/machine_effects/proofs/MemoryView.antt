-- What the turns of the loops over RAM accesses show: what is done and what is left make the whole. Assumes nothing.
use mathlib.Core.Path.{◌≡◌, refl, sym, ap, ◌∙◌}
use mathlib.Core.List.{List, [], ◌∷◌, ◌++◌, map, append_assoc, append-nil}
use Prim.Native.Nat.{ℕ, suc, ◌+◌, ◌-◌, ◌*◌, ◌%◌, ◌≤◌, ◌<◌}
use native.Mathlib.Nat.{mod-add-mod}
use native.Mathlib.Numerals.{add-one}
use native.Mathlib.Omega.{arith}
use lib.ListN.{length, take, drop, set, length-set}
use lib.Seq.{take-suc-set}
use Rattle.std.proofs.lemmas.List.{map-append}
use Rattle.field.specs.Base.{p, add_p, sub_p}
use Rattle.field.proofs.Remainder.{same_by}
use Rattle.field.proofs.Ring.{below, sub-strip}
use Rattle.machine.specs.Machine.{st}
use Rattle.machine.specs.Ram.{Cells, held}
use Rattle.machine.specs.Effect.{Call, ram_read, ram_write}
use Rattle.machine_effects.specs.declared.effect.Access.{Access}
use Rattle.machine_effects.specs.declared.effect.Accesses.{Accesses}
use Rattle.machine_effects.specs.declared.effect.Direction.{Direction}
use Rattle.machine_effects.specs.declared.effect.Direction.TheVariants.{Read, Write}
use Rattle.machine_effects.specs.EffectView.{access_of, first_accesses, accesses_of}
use Rattle.machine.specs.Memory.{words_by, reads_by, down, writes_up}

-- one access more, at the end
pub accesses_turn : (d : Direction) (s : List Access) (x : Access) (i : ℕ) (rest all : List Call) → i < length s →
    first_accesses d s i ++ (access_of d x ∷ rest) ≡ all → first_accesses d (set s i x) (i + 1) ++ rest ≡ all
unfolding first_accesses
accesses_turn d s x i rest all h e =
    rw (add-one i, take-suc-set s i x h, map-append (access_of d) (take i s) (x ∷ []), append_assoc (map (access_of d) (take i s)) (access_of d x ∷ []) rest) e

pub words_turn : (l : List ℕ) (x i : ℕ) (rest all : List ℕ) → i < length l → take i l ++ (x ∷ rest) ≡ all → take (i + 1) (set l i x) ++ rest ≡ all
words_turn l x i rest all h e = rw (add-one i, take-suc-set l i x h, append_assoc (take i l) (x ∷ []) rest) e

left_one : (n i : ℕ) → i < n → n - i ≡ suc (n - (i + 1))
left_one n i h = omega arith

pub done : {A : Type 0} (f : ℕ → List A) (i n : ℕ) {rest all : List A} → i ≡ n → rest ≡ [] → f i ++ rest ≡ all → f n ≡ all
done f i n {rest} {all} e z h = rw (← e) (sym (append-nil (f i)) ∙ (rw z at h))

-- the start: nothing is done
pub start : (d : Direction) (s : List Access) (rest : List Call) → first_accesses d s 0 ++ rest ≡ rest
unfolding first_accesses
start d s rest = refl

-- accesses that are all reads, or all writes, and none
pub all-reads : (s : List Access) (n : ℕ) → first_accesses Read s n ++ first_accesses Write (drop n s) (n - n) ≡ first_accesses Read s n
unfolding first_accesses
all-reads s n = let z : n - n ≡ 0 = omega arith in rw z (append-nil (map (access_of Read) (take n s)))

pub all-writes : (s : List Access) (n : ℕ) → first_accesses Read s 0 ++ first_accesses Write (drop 0 s) (n - 0) ≡ first_accesses Write s n
unfolding first_accesses
all-writes s n = let z : n - 0 ≡ n = omega arith in rw z refl

pub no-accesses : (a : Accesses) → a.count ≡ 0 → accesses_of a ≡ []
unfolding first_accesses
no-accesses a e =
    let n : a.count - a.reads ≡ 0 = omega arith in
    let r : a.reads ≡ 0 = omega (arith, a.reads_first) in
    rw (n, r) refl

-- ---- the address after so many

pub by_next : (d a i : ℕ) {x y : ℕ} → x ≡ add_p a (i * d) → y ≡ add_p x d → y ≡ add_p a ((i + 1) * d)
by_next d a i {x} {y} e f = f ∙ ap (λ (z : ℕ). add_p z d) e ∙ mod-add-mod (a + i * d) p d ∙ ap (λ (z : ℕ). z % p) (omega arith)

pub by_first : (d a : ℕ) → a < p → a ≡ add_p a (0 * d)
by_first d a h = omega arith

pub by_down : (a n : ℕ) → add_p a (n * down) ≡ sub_p a n
by_down a n = simp sub-strip (same_by p _ _ 0 0 (omega arith))

-- ---- reads: the first i of those at a, a + d, .. are in two lists, the others are from x on

pub record Reading (d : ℕ) (c : Cells) (a n : ℕ) (kept : List Access) (words : List ℕ) (x i : ℕ) : Type 0 where
  pub ten : length kept ≡ 10
  pub sixteen : length words ≡ 16
  pub word : x < p
  pub next : (k : ℕ) → k ≡ i * d → x ≡ add_p a k
  pub reads : first_accesses Read kept i ++ reads_by d c x (n - i) ≡ reads_by d c a n
  pub worded : take i words ++ words_by d c x (n - i) ≡ words_by d c a n

pub reading_start : (d : ℕ) (c : Cells) (a n : ℕ) {kept : List Access} {words : List ℕ} → a < p → length kept ≡ 10 → length words ≡ 16 → Reading d c a n kept words a 0
reading_start d c a n w h m =
    let e : n - 0 ≡ n = omega arith in
    record {
      ten = h;
      sixteen = m;
      word = w;
      next = λ k q. by_first d a w ∙ ap (add_p a) (sym q);
      reads = rw e (start Read _ _);
      worded = rw e;
    }

module _ {d : ℕ} {c : Cells} {a n : ℕ} {kept : List Access} {words : List ℕ} {x i : ℕ} (r : Reading d c a n kept words x i) where
  words-next : i < n → words_by d c x (n - i) ≡ held c x ∷ words_by d c (add_p x d) (n - (i + 1))
  unfolding words_by
  words-next h = rw (left_one n i h)

  reads-next : i < n → reads_by d c x (n - i) ≡ ram_read x (held c x) ∷ reads_by d c (add_p x d) (n - (i + 1))
  unfolding reads_by
  reads-next h = rw (left_one n i h)

  pub reading_turn : {v y : ℕ} → i < n → n ≤ 10 → v ≡ held c x → y ≡ add_p x d → Reading d c a n (set kept i (record { address = x; value = v })) (set words i v) y (i + 1)
  reading_turn {v} {y} h f e g =
      record {
        ten = simp length-set r.ten;
        sixteen = simp length-set r.sixteen;
        word = rw g (below _);
        next = λ k q. by_next d a i (r.next _ refl) g ∙ ap (add_p a) (sym q);
        reads = accesses_turn Read kept (record { address = x; value = v }) i _ _ (omega (arith, r.ten)) (rw (reads-next h, ← e, ← g) at r.reads);
        worded = words_turn words v i _ _ (omega (arith, r.sixteen)) (rw (words-next h, ← e, ← g) at r.worded);
      }

  pub reads-all : i ≡ n → first_accesses Read kept n ≡ reads_by d c a n
  unfolding reads_by
  reads-all e = let z : n - i ≡ 0 = omega arith in done (λ (j : ℕ). first_accesses Read kept j) i n e (rw z) r.reads

  pub words-all : i ≡ n → take n words ≡ words_by d c a n
  unfolding words_by
  words-all e = let z : n - i ≡ 0 = omega arith in done (λ (j : ℕ). take j words) i n e (rw z) r.worded

-- ---- writes: the value i places on is ST (i + 1)

pub writes_up_lem : (w : List ℕ) (x n i : ℕ) → i < n → writes_up w (i + 1) x (n - i) ≡ ram_write x (st w (i + 1)) ∷ writes_up w (i + 1 + 1) (add_p x 1) (n - (i + 1))
unfolding writes_up
writes_up_lem w x n i h = rw (left_one n i h)

pub writes-none : (w : List ℕ) (k x n i : ℕ) → n ≤ i → writes_up w k x (n - i) ≡ []
unfolding writes_up
writes-none w k x n i h = let z : n - i ≡ 0 = omega arith in rw z

-- what is put on: the words and the address behind them
pub words_end : (l : List ℕ) (x n : ℕ) {all : List ℕ} → n < length l → take n l ≡ all → take (n + 1) (set l n x) ≡ all ++ (x ∷ [])
words_end l x n h e = rw (add-one n, take-suc-set l n x h, e)
