-- Laws of moving elements up by one and of putting one in. Assumes nothing.
use mathlib.Core.Path.{◌≡◌, refl, sym, ◌∙◌}
use mathlib.Core.Bool.{Bool, true, false}
use mathlib.Core.List.{List, ◌++◌, append-nil}
use Prim.Native.Nat.{ℕ, zero, suc, ◌+◌, ◌-◌, ◌≤◌, ◌<◌}
use native.Mathlib.Omega.{arith}
use borrow.Author.Tests.{eqb-true, eqb-false, ltb-true, ltb-false}
use lib.ListN.{length, take, drop, get_or, set, length-set, length-drop, take-append-drop, drop_of_length-le, get_or-eq_default}
use lib.Seq.{get_or-set_same, get_or-set_other, set_out, get_or-drop, take_all, take-set-le, drop-set-add}
use lib.Dec.{eqb, ltb}
use Rattle.machine.specs.Ram.{moved_up, inserted}

pub moved_length : (s : List ℕ) (i n : ℕ) → length (moved_up s i n) ≡ length s
unfolding moved_up
moved_length s i zero = refl
moved_length s i (suc n) = length-set (moved_up s (suc i) n) (suc i) (get_or s i 0) ∙ moved_length s (suc i) n

-- up to the first and behind the last nothing changes
pub moved_before : (s : List ℕ) (i n k : ℕ) → k ≤ i → get_or (moved_up s i n) k 0 ≡ get_or s k 0
unfolding moved_up
moved_before s i zero k h = refl
moved_before s i (suc n) k h =
    let m : k ≡ suc i → ⊥ = λ e. omega arith in
    get_or-set_other (moved_up s (suc i) n) (suc i) k (get_or s i 0) 0 m ∙ moved_before s (suc i) n k (omega arith)

pub moved-behind : (s : List ℕ) (i n k : ℕ) → i + n < k → get_or (moved_up s i n) k 0 ≡ get_or s k 0
unfolding moved_up
moved-behind s i zero k h = refl
moved-behind s i (suc n) k h =
    let m : k ≡ suc i → ⊥ = λ e. omega arith in
    get_or-set_other (moved_up s (suc i) n) (suc i) k (get_or s i 0) 0 m ∙ moved-behind s (suc i) n k (omega arith)

-- between them each element is the one before
pub moved_at : (s : List ℕ) (i n k : ℕ) → i ≤ k → k < i + n → suc k < length s → get_or (moved_up s i n) (suc k) 0 ≡ get_or s k 0
unfolding moved_up
moved_at s i zero k h l r = absurd (omega arith)
moved_at s i (suc n) k h l r = go (eqb k i) refl (λ m. moved_at s (suc i) n k m (omega arith) r)
  where
    go : (t : Bool) → eqb k i ≡ t → (suc i ≤ k → get_or (moved_up s (suc i) n) (suc k) 0 ≡ get_or s k 0) →
        get_or (set (moved_up s (suc i) n) (suc i) (get_or s i 0)) (suc k) 0 ≡ get_or s k 0
    go true q ih =
        let y : k ≡ i = eqb-true k i q in
        rw y (get_or-set_same (moved_up s (suc i) n) (suc i) (get_or s i 0) 0 (omega (arith, moved_length s (suc i) n)))
    go false q ih =
        let y : k ≡ i → ⊥ = eqb-false k i q in
        let m : suc k ≡ suc i → ⊥ = λ e. y (omega arith) in
        get_or-set_other (moved_up s (suc i) n) (suc i) (suc k) (get_or s i 0) 0 m ∙ ih (omega arith)

-- moving in what is left of a list behind i places
drop-moved : (s : List ℕ) (i j n : ℕ) → drop i (moved_up s (i + j) n) ≡ moved_up (drop i s) j n
unfolding moved_up
drop-moved s i j zero = refl
drop-moved s i j (suc n) =
    let e : suc (i + j) ≡ i + suc j = omega arith in
    rw (e, drop-set-add i (moved_up s (i + suc j) n) (suc j) (get_or s (i + j) 0), drop-moved s i (suc j) n, get_or-drop i s j 0)

take-moved : (s : List ℕ) (i j n : ℕ) → i ≤ j → take i (moved_up s j n) ≡ take i s
unfolding moved_up
take-moved s i j zero h = refl
take-moved s i j (suc n) h = take-set-le i (moved_up s (suc j) n) (suc j) (get_or s j 0) (omega arith) ∙ take-moved s i (suc j) n (omega arith)

pub moved_tail : (s : List ℕ) (i n : ℕ) → take i s ++ moved_up (drop i s) 0 n ≡ moved_up s i n
moved_tail s i n =
    let e : i + 0 ≡ i = omega arith in
    rw (← take-moved s i i n (omega arith), ← drop-moved s i 0 n, e) (take-append-drop i (moved_up s i n))

-- as the code has it: the tail is lent, and comes back moved up
pub moved-lent : (s t : List ℕ) (i n : ℕ) → t ≡ moved_up (take (length s - i) (drop i s)) 0 n → take i s ++ (t ++ drop (length s - i) (drop i s)) ≡ moved_up s i n
moved-lent s t i n e =
    let l : length (drop i s) ≤ length s - i = omega (arith, length-drop i s) in
    rw (e, take_all (length s - i) (drop i s) l, drop_of_length-le (drop i s) l, append-nil (moved_up (drop i s) 0 n)) (moved_tail s i n)

pub inserted-length : (s : List ℕ) (n i x : ℕ) → length (inserted s n i x) ≡ length s
unfolding inserted
inserted-length s n i x = length-set (moved_up s i (n - i)) i x ∙ moved_length s i (n - i)

-- a place among n used ones, of a list with room for one more
module _ (s : List ℕ) (n i x : ℕ) (h : i ≤ n) (r : n < length s) where
  pub inserted_before : (k : ℕ) → k < i → get_or (inserted s n i x) k 0 ≡ get_or s k 0
  unfolding inserted
  inserted_before k l =
      let m : k ≡ i → ⊥ = λ e. omega arith in
      get_or-set_other (moved_up s i (n - i)) i k x 0 m ∙ moved_before s i (n - i) k (omega arith)

  pub inserted_here : get_or (inserted s n i x) i 0 ≡ x
  unfolding inserted
  inserted_here = get_or-set_same (moved_up s i (n - i)) i x 0 (omega (arith, moved_length s i (n - i)))

  pub inserted_up : (k : ℕ) → i ≤ k → k < n → get_or (inserted s n i x) (suc k) 0 ≡ get_or s k 0
  unfolding inserted
  inserted_up k l m =
      let y : suc k ≡ i → ⊥ = λ e. omega arith in
      get_or-set_other (moved_up s i (n - i)) i (suc k) x 0 y ∙ moved_at s i (n - i) k l (omega arith) (omega arith)

  -- the unused places behind
  pub inserted-behind : (k : ℕ) → n < k → get_or (inserted s n i x) k 0 ≡ get_or s k 0
  unfolding inserted
  inserted-behind k l =
      let y : k ≡ i → ⊥ = λ e. omega arith in
      get_or-set_other (moved_up s i (n - i)) i k x 0 y ∙ moved-behind s i (n - i) k (omega arith)

  -- any fact that holds of x and of the used ones holds of all used ones then
  pub inserted-all : (P : ℕ → Type 0) → P x → ((k : ℕ) → k < n → P (get_or s k 0)) → (k : ℕ) → k < n + 1 → P (get_or (inserted s n i x) k 0)
  inserted-all P px ps k l = go (ltb k i) (eqb k i) refl refl
    where
      go : (t u : Bool) → ltb k i ≡ t → eqb k i ≡ u → P (get_or (inserted s n i x) k 0)
      go true u a b = rw (inserted_before k (ltb-true k i a)) (ps k (omega (arith, ltb-true k i a)))
      go false true a b = rw (eqb-true k i b, inserted_here) px
      go false false a b =
          let m : i ≤ k = ltb-false k i a in
          let d : k ≡ i → ⊥ = eqb-false k i b in
          let e : k ≡ suc (k - 1) = omega arith in
          rw (e, inserted_up (k - 1) (omega arith) (omega arith)) (ps (k - 1) (omega arith))

-- ---- the same in two lists that are as long and agree on the used places

set_here : (s t : List ℕ) (q v w : ℕ) → length s ≡ length t → v ≡ w → get_or (set s q v) q 0 ≡ get_or (set t q w) q 0
set_here s t q v w l e = go (ltb q (length s)) refl
  where
    go : (b : Bool) → ltb q (length s) ≡ b → get_or (set s q v) q 0 ≡ get_or (set t q w) q 0
    go true z =
        let m : q < length s = ltb-true q (length s) z in
        rw (get_or-set_same s q v 0 m, get_or-set_same t q w 0 (omega arith)) e
    go false z =
        let m : length s ≤ q = ltb-false q (length s) z in
        let n : length t ≤ q = omega arith in
        rw (set_out s q v m, set_out t q w n, get_or-eq_default s 0 m, get_or-eq_default t 0 n)

set_agree : (s t : List ℕ) (q v w k : ℕ) → length s ≡ length t → v ≡ w → ((k ≡ q → ⊥) → get_or s k 0 ≡ get_or t k 0) → get_or (set s q v) k 0 ≡ get_or (set t q w) k 0
set_agree s t q v w k l e h = go (eqb k q) refl
  where
    go : (b : Bool) → eqb k q ≡ b → get_or (set s q v) k 0 ≡ get_or (set t q w) k 0
    go true z = rw (eqb-true k q z) (set_here s t q v w l e)
    go false z =
        let m : k ≡ q → ⊥ = eqb-false k q z in
        rw (get_or-set_other s q k v 0 m, get_or-set_other t q k w 0 m) (h m)

pub set-alike : (s t : List ℕ) (n q v : ℕ) → length s ≡ length t → ((k : ℕ) → k < n → get_or s k 0 ≡ get_or t k 0) → (k : ℕ) → k < n → get_or (set s q v) k 0 ≡ get_or (set t q v) k 0
set-alike s t n q v l h k m = set_agree s t q v v k l refl (λ _. h k m)

-- all but the first of the places moved over
moved-alike : (s t : List ℕ) (i n : ℕ) → length s ≡ length t → ((k : ℕ) → k < i + n → get_or s k 0 ≡ get_or t k 0) → (k : ℕ) → k ≤ i + n → (k ≡ i → ⊥) → get_or (moved_up s i n) k 0 ≡ get_or (moved_up t i n) k 0
unfolding moved_up
moved-alike s t i zero l h k m d = h k (omega arith)
moved-alike s t i (suc n) l h k m d =
    set_agree (moved_up s (suc i) n) (moved_up t (suc i) n) (suc i) (get_or s i 0) (get_or t i 0) k (moved_length s (suc i) n ∙ l ∙ sym (moved_length t (suc i) n)) (h i (omega arith))
    (λ z. moved-alike s t (suc i) n l (λ j y. h j (omega arith)) k (omega arith) z)

pub inserted-alike : (s t : List ℕ) (n i x : ℕ) → length s ≡ length t → i ≤ n → ((k : ℕ) → k < n → get_or s k 0 ≡ get_or t k 0) → (k : ℕ) → k < n + 1 → get_or (inserted s n i x) k 0 ≡ get_or (inserted t n i x) k 0
unfolding inserted
inserted-alike s t n i x l u h k m =
    set_agree (moved_up s i (n - i)) (moved_up t i (n - i)) i x x k (moved_length s i (n - i) ∙ l ∙ sym (moved_length t i (n - i))) refl
    (λ z. moved-alike s t i (n - i) l (λ j y. h j (omega arith)) k (omega arith) z)
