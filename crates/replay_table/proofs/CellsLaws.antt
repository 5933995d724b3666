-- Ascending cells: an address and its place, cells cut at a threshold, cells that have what others have, equal cells.
-- Assumes nothing.
use mathlib.Core.Path.{◌≡◌, refl, sym, ap, ◌∙◌}
use mathlib.Core.Bool.{Bool, true, false}
use mathlib.Core.List.{List}
use Prim.Native.Nat.{ℕ, zero, suc, ◌-◌, ◌≤◌, ◌<◌}
use native.Mathlib.Omega.{arith}
use borrow.Author.Tests.{ltb-true, ltb-false, eqb-true, eqb-false, lt-ltb}
use lib.ListN.{length, get_or}
use lib.Seq.{ext_get_or}
use lib.Dec.{eqb, ltb}
use Rattle.choices.specs.Choice.{cond}
use Rattle.machine.specs.Ram.{Cells, cells, place_of, has, held}
use Rattle.machine.proofs.RamLaws.{Rising, place-le, place-below, place-not, place_is, ascending_rises}
use Rattle.machine_ram.proofs.RamView.{read-absent}
use Rattle.machine_ram.proofs.Order.{has_there, held_there, has_where, has-not, alike_by}
use Rattle.replay_table.specs.Merge.{Sorted}

abbrev pub address_at : Cells → ℕ → ℕ
address_at c k = get_or c.addresses k 0

abbrev pub value_at : Cells → ℕ → ℕ
value_at c k = get_or c.values k 0

abbrev pub Ascending : Cells → Type 0
Ascending c = Rising c.addresses c.count

-- the first k cells
abbrev pub firsts : Cells → ℕ → Cells
firsts c k = cells k c.addresses c.values

pub sorted_ascends : {c : Cells} → Sorted c → Ascending c
sorted_ascends {c} s = ascending_rises c.addresses c.count s.usable.ordered.ascending

pub firsts_ascend : (c : Cells) (k : ℕ) → Ascending c → k ≤ c.count → Ascending (firsts c k)
firsts_ascend c k r h i j l m = r i j l (omega arith)

pub false_by : (t : Bool) → (t ≡ true → ⊥) → t ≡ false
false_by true h = absurd (h refl)
false_by false h = refl

-- two tests that hold together are the same
pub same_test : (s t : Bool) → (s ≡ true → t ≡ true) → (t ≡ true → s ≡ true) → s ≡ t
same_test true t h k = sym (h refl)
same_test false true h k = k refl
same_test false false h k = refl

-- ---- no cell

pub has-none : (s v : List ℕ) (a : ℕ) → has (cells 0 s v) a ≡ false
has-none s v a = false_by (has (cells 0 s v) a) (λ h. omega (arith, (has_where (cells 0 s v) a h).0))

pub held_none : (c : Cells) (a : ℕ) → has c a ≡ false → held c a ≡ 0
held_none c a h = sym (read-absent c a (place_of c a) (sym (has-not c a h)))

-- ---- an address and its place

module _ (c : Cells) (r : Ascending c) where
  pub not-above : (i k : ℕ) → i ≤ k → k < c.count → address_at c i ≤ address_at c k
  not-above i k h l = go (eqb i k) refl
    where
      go : (t : Bool) → eqb i k ≡ t → address_at c i ≤ address_at c k
      go true e = rw (eqb-true i k e) (omega arith)
      go false e = let d = eqb-false i k e in omega (arith, r i k (omega arith) l)

  pub place_at : (k : ℕ) → k < c.count → place_of c (address_at c k) ≡ k
  place_at k h = place_is c (address_at c k) k (omega arith) (λ j l. r j k l h) (λ _. omega arith)

  pub has-at : (k a : ℕ) → k < c.count → address_at c k ≡ a → has c a ≡ true
  has-at k a h e = ap (has c) (sym e) ∙ has_there c k r h

  pub held_at : (k a : ℕ) → k < c.count → address_at c k ≡ a → held c a ≡ value_at c k
  held_at k a h e = ap (held c) (sym e) ∙ held_there c k r h

  -- a used address below a threshold stands before the threshold's place
  pub before_place : (b k : ℕ) → k < c.count → address_at c k < b → k < place_of c b
  before_place b k h l = go (ltb k (place_of c b)) refl
    where
      go : (t : Bool) → ltb k (place_of c b) ≡ t → k < place_of c b
      go true e = ltb-true k (place_of c b) e
      go false e =
          let m = ltb-false k (place_of c b) e in
          absurd (omega (arith, place-not c b (omega arith), not-above (place_of c b) k m h))

  pub has_before : (a b : ℕ) → has c a ≡ true → a < b → place_of c a < place_of c b
  has_before a b h l = let w = has_where c a h in before_place b (place_of c a) w.0 (omega (arith, w.1))

-- the highest cell below a threshold
pub record Highest (c : Cells) (b k : ℕ) : Type 0 where
  pub below : address_at c k < b
  pub place : place_of c (address_at c k) ≡ k
  pub there : has c (address_at c k) ≡ true
  pub word : held c (address_at c k) ≡ value_at c k
  pub top : (a : ℕ) → has c a ≡ true → a < b → a ≤ address_at c k

pub highest : (c : Cells) → Ascending c → (b k : ℕ) → place_of c b ≡ suc k → Highest c b k
highest c r b k e =
    let l : k < c.count = omega (arith, place-le c b) in
    record {
      below = place-below c b k (omega arith);
      place = place_at c r k l;
      there = has_there c k r l;
      word = held_there c k r l;
      top = λ a h m. omega (arith, (has_where c a h).1, not-above c r (place_of c a) k (omega (arith, has_before c r a b h m)) l);
    }

-- the last of the cells below a threshold b, if there is one, is below x, and so all are
module _ (c : Cells) (r : Ascending c) (b k x : ℕ) (e : place_of c b ≡ k) (last : 0 < k → address_at c (k - 1) < x) where
  all_under : (i : ℕ) → i < k → address_at c i < x
  all_under i l = omega (arith, last (omega arith), not-above c r i (k - 1) (omega arith) (omega (arith, place-le c b)))

  pub under-place : x ≤ b → place_of c x ≡ k
  under-place l = place_is c x k (omega (arith, place-le c b)) all_under (λ m. omega (arith, rw e at (place-not c b (omega arith))))

  pub under_top : (a : ℕ) → has c a ≡ true → a < b → a < x
  under_top a h l = omega (arith, all_under (place_of c a) (omega (arith, has_before c r a b h l)), (has_where c a h).1)

  pub under-lacks : x < b → has c x ≡ false
  under-lacks l = false_by (has c x) (λ h. omega (arith, under_top x h l))

-- ---- cut at a threshold: the cells below it

abbrev pub cut : Cells → ℕ → Cells
cut c b = firsts c (place_of c b)

module _ (c : Cells) (r : Ascending c) (b : ℕ) where
  cut_ascends : Ascending (cut c b)
  cut_ascends = firsts_ascend c (place_of c b) r (place-le c b)

  -- the place in the cut of an address below the threshold
  cut-place : (a : ℕ) → has c a ≡ true → a < b → (place_of c a < place_of c b) × (address_at c (place_of c a) ≡ a)
  cut-place a h l = (has_before c r a b h l, (has_where c a h).1)

  pub cut_has : (a : ℕ) → has (cut c b) a ≡ cond (ltb a b) (has c a) false
  cut_has a = go (ltb a b) refl
    where
      in_both : has (cut c b) a ≡ true → (a < b) × (has c a ≡ true)
      in_both h =
          let w = has_where (cut c b) a h in
          (omega (arith, place-below c b (place_of (cut c b) a) w.0, w.1), has-at c r (place_of (cut c b) a) a (omega (arith, w.0, place-le c b)) w.1)

      go : (t : Bool) → ltb a b ≡ t → has (cut c b) a ≡ cond t (has c a) false
      go true e =
          same_test (has (cut c b) a) (has c a) (λ h. (in_both h).1)
          (λ h. let w = cut-place a h (ltb-true a b e) in has-at (cut c b) cut_ascends (place_of c a) a w.0 w.1)
      go false e = false_by (has (cut c b) a) (λ h. omega (arith, (in_both h).0, ltb-false a b e))

  pub cut-held : (a : ℕ) → a < b → held (cut c b) a ≡ held c a
  cut-held a l = go (has c a) refl
    where
      go : (t : Bool) → has c a ≡ t → held (cut c b) a ≡ held c a
      go true h =
          let w = cut-place a h l in
          held_at (cut c b) cut_ascends (place_of c a) a w.0 w.1 ∙ sym (held_at c r (place_of c a) a (has_where c a h).0 w.1)
      go false h = held_none (cut c b) a (cut_has a ∙ rw (lt-ltb a b l) h) ∙ sym (held_none c a h)

-- ---- cells that have, below a threshold, what others have

up_to-place : (c d : Cells) → Ascending c → Ascending d → (q b : ℕ) → ((a : ℕ) → a < b → has c a ≡ true → has d a ≡ true) → q ≤ place_of c b → q ≤ place_of d b
up_to-place c d rc rd zero b h l = omega arith
up_to-place c d rc rd (suc q) b h l =
    let m : address_at c q < b = place-below c b q l in
    let n : q < c.count = omega (arith, place-le c b) in
    let ih = up_to-place c d rc rd q (address_at c q) (λ a s. h a (omega arith)) (omega (arith, place_at c rc q n)) in
    omega (arith, has_before d rd (address_at c q) b (h (address_at c q) m (has_there c q rc n)) m)

module _ (c d : Cells) (rc : Ascending c) (rd : Ascending d) where
  pub place_most : (b : ℕ) → ((a : ℕ) → a < b → has c a ≡ true → has d a ≡ true) → place_of c b ≤ place_of d b
  place_most b h = up_to-place c d rc rd (place_of c b) b h (omega arith)

  pub place_same : (b : ℕ) → ((a : ℕ) → a < b → has c a ≡ has d a) → place_of c b ≡ place_of d b
  place_same b h =
      omega (
        arith,
        place_most b (λ a l e. sym (h a l) ∙ e),
        up_to-place d c rd rc (place_of d b) b (λ a l e. h a l ∙ e) (omega arith),
      )

  -- cell for cell
  module _ (b : ℕ) (same : (a : ℕ) → a < b → has c a ≡ has d a) where
    pub address_same : (k : ℕ) → k < place_of c b → address_at c k ≡ address_at d k
    address_same k l =
        let m : address_at c k < b = place-below c b k l in
        let n : k < c.count = omega (arith, place-le c b) in
        let w = has_where d (address_at c k) (sym (same (address_at c k) m) ∙ has_there c k rc n) in
        let e : place_of d (address_at c k) ≡ k = sym (place_same (address_at c k) (λ a s. same a (omega arith))) ∙ place_at c rc k n in
        sym (rw e at w.1)

    pub value_same : ((a : ℕ) → a < b → held c a ≡ held d a) → (k : ℕ) → k < place_of c b → value_at c k ≡ value_at d k
    value_same h k l =
        sym (held_there c k rc (omega (arith, place-le c b)))
        ∙ h (address_at c k) (place-below c b k l)
        ∙ held_at d rd k (address_at c k) (omega (arith, place_same b same, place-le d b)) (sym (address_same k l))

-- ---- ascending cells that hold the same, in slices as long whose unused cells are the same, are equal

pub same_lists : (s t : List ℕ) (n : ℕ) → length s ≡ length t → ((i : ℕ) → i < n → get_or s i 0 ≡ get_or t i 0) → ((i : ℕ) → n ≤ i → get_or s i 0 ≡ get_or t i 0) → s ≡ t
same_lists s t n e low high = ext_get_or 0 s t e (λ i _. go (ltb i n) i refl)
  where
    go : (b : Bool) (i : ℕ) → ltb i n ≡ b → get_or s i 0 ≡ get_or t i 0
    go true i h = low i (ltb-true i n h)
    go false i h = high i (ltb-false i n h)

pub same-cells : (c d : Cells) → Sorted c → Sorted d → ((a : ℕ) → has c a ≡ has d a) → ((a : ℕ) → held c a ≡ held d a) → length c.addresses ≡ length d.addresses →
    ((i : ℕ) → c.count ≤ i → (address_at c i ≡ address_at d i) × (value_at c i ≡ value_at d i)) → c ≡ d
same-cells c d sc sd h v l behind =
    let w = sym sc.pair ∙ l ∙ sd.pair in
    let k = alike_by c d (sorted_ascends sc) (sorted_ascends sd) h v l w in
    let x = same_lists c.addresses d.addresses c.count l k.addresses (λ i m. (behind i m).0) in
    let y = same_lists c.values d.values c.count w k.values (λ i m. (behind i m).1) in
    λ i. cells (k.count i) (x i) (y i)
