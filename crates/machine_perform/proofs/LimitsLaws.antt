-- Laws of place D: what its loops show, how many cells an effect's writes add, and that the numbers are those of the
-- definition. Assumes nothing.
use mathlib.Core.Path.{◌≡◌, refl, sym, ap, ◌∙◌}
use mathlib.Core.Bool.{Bool, true, false, ◌||◌}
use mathlib.Core.List.{List, [], ◌∷◌, ◌++◌, map}
use mathlib.Core.Logic.{◌⊎◌, inl, inr, ⊎_elim}
use Prim.Native.Nat.{ℕ, zero, suc, ◌+◌, ◌-◌, ◌≤◌, ◌<◌}
use native.Mathlib.Numerals.{add-one}
use native.Mathlib.Omega.{arith}
use borrow.Author.Tests.{eq-eqb, ne_eqb, eqb-true, eqb-false, ltb-true, ltb-false}
use lib.ListN.{length, take, drop, get_or}
use lib.Dec.{eqb, ltb}
use Rattle.std.specs.List.{list_any}
use Rattle.std.proofs.lemmas.List.{map-append, take_all}
use Rattle.std.proofs.lemmas.List.Folds.{list_any-append}
use lib.Seq.{take-suc}
use Rattle.std.specs.Prelude.{Result, Ok, Err, is_ok}
use Rattle.machine_ram.specs.RamView.{found_of}
use Rattle.machine.specs.declared.state.VMState.{VMState}
use Rattle.machine_effects.specs.declared.effect.Effect.{Effect as CodeEffect}
use Rattle.machine_effects.specs.declared.effect.Access.{Access}
use Rattle.machine_effects.specs.declared.effect.Accesses.{Accesses}
use Rattle.machine_effects.specs.declared.effect.Direction.{Direction}
use Rattle.machine_effects.specs.declared.effect.Direction.TheVariants.{Read, Write}
use Rattle.machine_effects.specs.declared.effect.U32Calls.{U32Calls}
use Rattle.machine_effects.specs.declared.effect.U32Calls.TheVariants.{Zero, One, Two}
use Rattle.choices.specs.Choice.{cond, first_of, above_of}
use Rattle.machine.specs.Ram.{Cells, cells, at, absent, find, has_at, has, stored}
use Rattle.machine.specs.Machine.{Code, Memory, machine}
use Rattle.machine.specs.Effect.{Call, reset, tip5, u32, ram_read, ram_write}
use Rattle.machine_effects.specs.EffectView.{u32s_of, access_of, accesses_of, first_accesses, jump_of, calls_of, effect_of}
use Rattle.machine_effects.proofs.MemoryView.{all-reads}
use Rattle.machine.specs.Apply.{touched, jumps_after, limits_of}
use Rattle.machine_perform.specs.PerformView.{no_access, address_at, among_of, has_in, new_of, fresh_of}
use Rattle.choices.proofs.Choice.{above-is, above-not}
use Rattle.machine.proofs.RamLaws.{has_addresses, stored-count, stored_more, has-stored}
use Rattle.machine.proofs.Touched.{touched_addresses, touched_values}

-- an access that is there, whatever stands behind the last
pub same_at : (w : List Access) (k : ℕ) (e : Access) → k < length w → get_or w k e ≡ get_or w k no_access
same_at [] k e h = absurd (omega arith)
same_at (x ∷ w) zero e h = refl
same_at (x ∷ w) (suc k) e h = same_at w k e (omega arith)

pub same_address : (w : List Access) (k : ℕ) (e : Access) → k < length w → (get_or w k e).address ≡ address_at w k
same_address w k e h = ap (λ (x : Access). x.address) (same_at w k e h)

-- ---- whether an address is among those of the writes before

module _ (w : List Access) (a : ℕ) where
  -- the test as the code makes it
  pub among_any : (n : ℕ) → n ≤ length w → among_of w n a ≡ list_any (λ (x : Access). eqb x.address a) (take n w)
  unfolding among_of
  among_any zero l = refl
  among_any (suc n) l =
      rw (take-suc w n no_access l, list_any-append (λ (x : Access). eqb x.address a), ← among_any n (omega arith)) (go (eqb (address_at w n) a) (among_of w n a))
    where
      go : (x y : Bool) → cond x true y ≡ (y || (x || false))
      go true true = refl
      go true false = refl
      go false true = refl
      go false false = refl

-- the same of what the code finds, for write k's own address
pub among_found : (w : List Access) (k a : ℕ) → k < length w → a ≡ address_at w k → {b t : Bool} → b ≡ list_any (λ (x : Access). eqb x.address a) (take k w) → b ≡ t → among_of w k a ≡ t
among_found w k a h q e f = among_any w a k (omega arith) ∙ sym e ∙ f

-- ---- whether an address has a cell

pub has_in_lem : (c : Cells) (a : ℕ) → has c a ≡ has_in c.addresses c.count a
unfolding has_in
has_in_lem c a = has_addresses c [] a

pub in_at : (c : Cells) (a i : ℕ) → at i ≡ find c a → has_in c.addresses c.count a ≡ true
unfolding has
in_at c a i h = sym (has_in_lem c a) ∙ ap has_at (sym h)

pub in_absent : (c : Cells) (a i : ℕ) → absent i ≡ find c a → has_in c.addresses c.count a ≡ false
unfolding has
in_absent c a i h = sym (has_in_lem c a) ∙ ap has_at (sym h)

-- ---- whether a write adds a cell, and how many do

module _ (s : List ℕ) (n : ℕ) (w : List Access) (k : ℕ) where
  pub new_is : (t : Bool) → cond (among_of w k (address_at w k)) true (has_in s n (address_at w k)) ≡ t → new_of s n w k ≡ cond t 0 1
  unfolding new_of
  new_is t e = go (among_of w k (address_at w k)) (has_in s n (address_at w k)) ∙ ap (λ (z : Bool). cond {A = ℕ} z 0 1) e
    where
      go : (x y : Bool) → ◌≡◌ {A = ℕ} (cond x 0 (cond y 0 1)) (cond (cond x true y) 0 1)
      go true y = refl
      go false y = refl

  pub new_among : {a : ℕ} → a ≡ address_at w k → among_of w k a ≡ true → 0 ≡ new_of s n w k
  new_among q e = sym (new_is true (rw (← q, e)))

  pub new_in_lem : (t : Bool) {a : ℕ} → a ≡ address_at w k → among_of w k a ≡ false → has_in s n a ≡ t → cond t 0 1 ≡ new_of s n w k
  new_in_lem t q e h = sym (new_is t (rw (← q, e) h))

  new_one : new_of s n w k ≤ 1
  unfolding new_of
  new_one = go (among_of w k (address_at w k)) (has_in s n (address_at w k))
    where
      go : (x y : Bool) → cond x 0 (cond y 0 1) ≤ 1
      go true y = omega arith
      go false true = omega arith
      go false false = omega arith

  pub fresh_turn : {m r : ℕ} → m ≡ fresh_of s n w k → r ≡ new_of s n w k → m + r ≡ fresh_of s n w (k + 1)
  unfolding fresh_of
  fresh_turn e f = rw (e, f, add-one k)

-- as a search finds it: at a place, or absent
pub new_by : (c : Cells) (w : List Access) (k : ℕ) {a : ℕ} → a ≡ address_at w k → among_of w k a ≡ false → (r : Result ℕ ℕ) → found_of r ≡ find c a → cond (is_ok r) 0 1 ≡ new_of c.addresses c.count w k
new_by c w k {a} q e (Ok i) f = new_in_lem c.addresses c.count w k true q e (in_at c a i f)
new_by c w k {a} q e (Err i) f = new_in_lem c.addresses c.count w k false q e (in_absent c a i f)

fresh-few : (s : List ℕ) (n : ℕ) (w : List Access) (k : ℕ) → fresh_of s n w k ≤ k
unfolding fresh_of
fresh-few s n w zero = omega arith
fresh-few s n w (suc k) = omega (arith, fresh-few s n w k, new_one s n w k)

pub fresh-least : (s : List ℕ) (n : ℕ) (w : List Access) (k : ℕ) {r : ℕ} → r ≡ fresh_of s n w k → r ≤ k
fresh-least s n w k e = omega (arith, fresh-few s n w k)

-- ---- the cells after a row of writes

touched_append : (xs ys : List Call) (c : Cells) → touched c (xs ++ ys) ≡ touched (touched c xs) ys
unfolding touched
touched_append [] ys c = refl
touched_append (reset ∷ xs) ys c = touched_append xs ys c
touched_append (tip5 o t ∷ xs) ys c = touched_append xs ys c
touched_append (u32 o l r ∷ xs) ys c = touched_append xs ys c
touched_append (ram_read a v ∷ xs) ys c = touched_append xs ys c
touched_append (ram_write a v ∷ xs) ys c = touched_append xs ys (stored c a v)

-- the last of a row of writes
pub writes_end : (w : List Access) (c : Cells) (k : ℕ) (e : Access) → k < length w →
    touched c (first_accesses Write w (suc k)) ≡ stored (touched c (first_accesses Write w k)) (get_or w k e).address (get_or w k e).value
unfolding touched first_accesses
writes_end w c k e h = rw (take-suc w k e h, map-append (access_of Write) (take k w) (get_or w k e ∷ [])) (touched_append (map (access_of Write) (take k w)) (access_of Write (get_or w k e) ∷ []) c)

pub writes_start : (w : List Access) (c : Cells) → c ≡ touched c (first_accesses Write w 0)
unfolding touched first_accesses
writes_start w c = refl

-- writes take no cell back
pub writes_more : (w : List Access) (c : Cells) (i n : ℕ) → i ≤ n → n ≤ length w → (touched c (first_accesses Write w i)).count ≤ (touched c (first_accesses Write w n)).count
writes_more w c i zero l h = let e : i ≡ 0 = omega arith in rw e (omega arith)
writes_more w c i (suc n) l h = go (eqb i (suc n)) refl (λ m. writes_more w c i n m (omega arith))
  where
    go : (t : Bool) → eqb i (suc n) ≡ t → (i ≤ n → (touched c (first_accesses Write w i)).count ≤ (touched c (first_accesses Write w n)).count) →
        (touched c (first_accesses Write w i)).count ≤ (touched c (first_accesses Write w (suc n))).count
    go true e ih = let q : i ≡ suc n = eqb-true i (suc n) e in rw q (omega arith)
    go false e ih =
        let q : i ≡ suc n → ⊥ = eqb-false i (suc n) e in
        let x = get_or w n no_access in
        rw (writes_end w c n no_access (omega arith)) (omega (arith, ih (omega arith), stored_more (touched c (first_accesses Write w n)) x.address x.value))

-- the same two tests
either : (x b : ℕ) (t z : Bool) → cond (eqb b x) true (cond t true z) ≡ cond (cond (eqb x b) true t) true z
either x b t z = go (eqb x b) refl
  where
    go : (y : Bool) → eqb x b ≡ y → cond (eqb b x) true (cond t true z) ≡ cond (cond y true t) true z
    go true e = rw (eq-eqb b x (sym (eqb-true x b e)))
    go false e = rw (ne_eqb b x (λ q. eqb-false x b e (sym q)))

module _ (c : Cells) (w : List Access) (used : c.count ≤ length c.addresses) (pair : length c.addresses ≡ length c.values) where
  after : ℕ → Cells
  after k = touched c (first_accesses Write w k)

  added : ℕ → ℕ
  added k = fresh_of c.addresses c.count w k

  -- while there is room, the cells are counted right
  record Counted (k : ℕ) : Type 0 where
    within : c.count + added k ≤ length c.addresses
    count : (after k).count ≡ c.count + added k
    holds : (b : ℕ) → has (after k) b ≡ cond (among_of w k b) true (has c b)

  -- and then there is none by both counts
  record Full (k : ℕ) : Type 0 where
    count : length c.addresses < (after k).count
    more : length c.addresses < c.count + added k

  start : Counted 0
  unfolding touched first_accesses fresh_of among_of after added
  start = record { within = omega arith; count = omega arith; holds = λ b. refl }

  next : (k : ℕ) → k < length w → Counted k ⊎ Full k → Counted (suc k) ⊎ Full (suc k)
  unfolding fresh_of among_of after added
  next k l (inr f) =
      let e = writes_end w c k no_access l in
      inr (record { count = rw e (omega (arith, f.count, stored_more (after k) (address_at w k) (get_or w k no_access).value)); more = omega (arith, f.more) })
  next k l (inl h) = go (has (after k) x) refl
    where
      x : ℕ
      x = address_at w k

      y : ℕ
      y = (get_or w k no_access).value

      long : length (after k).addresses ≡ length c.addresses
      long = touched_addresses (first_accesses Write w k) c

      even : length (after k).addresses ≡ length (after k).values
      even = long ∙ pair ∙ sym (touched_values (first_accesses Write w k) c)

      new : (t : Bool) → has (after k) x ≡ t → new_of c.addresses c.count w k ≡ cond t 0 1
      new t e = new_is c.addresses c.count w k t (sym (h.holds x ∙ rw (has_in_lem c x)) ∙ e)

      -- one more write that has room
      more : (t : Bool) → has (after k) x ≡ t → c.count + added (suc k) ≤ length c.addresses → (stored (after k) x y).count ≡ c.count + added (suc k) → Counted (suc k)
      more t e f q =
          let z = writes_end w c k no_access l in
          let r : (stored (after k) x y).count ≤ length (after k).addresses = rw (q, long) f in
          record {
            within = f;
            count = rw z q;
            holds = λ b. rw z (has-stored (after k) x y r even b ∙ rw (h.holds b) (either x b (among_of w k b) (has c b)));
          }

      go : (t : Bool) → has (after k) x ≡ t → Counted (suc k) ⊎ Full (suc k)
      go true e =
          let n = new true e in
          let q : (stored (after k) x y).count ≡ (after k).count = stored-count (after k) x y ∙ rw e in
          inl (more true e (omega (arith, n, h.within)) (omega (arith, n, q, h.count)))
      go false e =
          let n = new false e in
          let q : (stored (after k) x y).count ≡ (after k).count + 1 = stored-count (after k) x y ∙ rw e in
          room (ltb (length c.addresses) (c.count + added (suc k))) refl (omega (arith, n, q, h.count))
        where
          room : (t : Bool) → ltb (length c.addresses) (c.count + added (suc k)) ≡ t → (stored (after k) x y).count ≡ c.count + added (suc k) → Counted (suc k) ⊎ Full (suc k)
          room true f q =
              let m : length c.addresses < c.count + added (suc k) = ltb-true (length c.addresses) (c.count + added (suc k)) f in
              inr (record { count = rw (writes_end w c k no_access l, q) m; more = m })
          room false f q = inl (more false e (ltb-false (length c.addresses) (c.count + added (suc k)) f) q)

  counts : (k : ℕ) → k ≤ length w → Counted k ⊎ Full k
  counts zero l = inl start
  counts (suc k) l = next k l (counts k (omega arith))

  pub room-is : (k z : ℕ) → k ≤ length w → above_of (c.count + fresh_of c.addresses c.count w k) (length c.addresses) z ≡ above_of (touched c (first_accesses Write w k)).count (length c.addresses) z
  unfolding after added
  room-is k z l = ⊎_elim
      (λ (h : Counted k). rw h.count)
      (λ (f : Full k). above-is (c.count + added k) (length c.addresses) z f.more ∙ sym (above-is (after k).count (length c.addresses) z f.count))
      (counts k l)

-- ---- of an effect's calls only the writes of RAM touch it

u32s_touch : (u : U32Calls) (cs : List Call) (c : Cells) → touched c (u32s_of u ++ cs) ≡ touched c cs
unfolding touched
u32s_touch Zero cs c = refl
u32s_touch (One a) cs c = refl
u32s_touch (Two a b) cs c = refl

reads_touch : (xs : List Access) (c : Cells) → touched c (map (access_of Read) xs) ≡ c
unfolding touched
reads_touch [] c = refl
reads_touch (x ∷ xs) c = reads_touch xs c

pub read_touch : (w : List Access) (n : ℕ) (c : Cells) → touched c (first_accesses Read w n) ≡ c
unfolding first_accesses
read_touch w n c = reads_touch (take n w) c

pub writes_touch : (e : CodeEffect) (c : Cells) → touched c (calls_of e) ≡ touched c (accesses_of e.accesses)
writes_touch e c = u32s_touch e.u32s (accesses_of e.accesses) c

-- of an effect's accesses the writes alone touch it
pub accesses_touch : (a : Accesses) (c : Cells) → touched c (accesses_of a) ≡ touched c (first_accesses Write (drop a.reads a.cells) (a.count - a.reads))
accesses_touch a c =
    let w = first_accesses Write (drop a.reads a.cells) (a.count - a.reads) in
    touched_append (first_accesses Read a.cells a.reads) w c ∙ ap (λ (d : Cells). touched d w) (read_touch a.cells a.reads c)

-- and where there is none, all are reads
pub reads_alone : (a : Accesses) → a.reads ≡ a.count → accesses_of a ≡ first_accesses Read a.cells a.count
reads_alone a e = rw e (all-reads a.cells a.count)

-- those of a slice u that is the first n
pub first_slice : (d : Direction) (s u : List Access) (n : ℕ) → u ≡ take n s → first_accesses d u (length u) ≡ first_accesses d s n
unfolding first_accesses
first_slice d s u n e = rw (take_all (length u) u (omega arith), e) refl

-- ---- the number

module _ (c : Cells) (w : List Access) (n : ℕ) (used : c.count ≤ length c.addresses) (pair : length c.addresses ≡ length c.values) (l : n ≤ length w) where
  -- where there is room for all
  pub writes_fit : c.count + n ≤ length c.addresses → 0 ≡ above_of (touched c (first_accesses Write w n)).count (length c.addresses) 32
  writes_fit h =
      sym (above-not (c.count + fresh_of c.addresses c.count w n) (length c.addresses) 32 (omega (arith, fresh-few c.addresses c.count w n)))
      ∙ room-is c w used pair n 32 l

  pub writes_counted : {r m : ℕ} → m ≡ fresh_of c.addresses c.count w n → r ≡ above_of (c.count + m) (length c.addresses) 32 → r ≡ above_of (touched c (first_accesses Write w n)).count (length c.addresses) 32
  writes_counted e f = f ∙ rw e (room-is c w used pair n 32 l)

pub cells_read : (c : Cells) (w : List Access) (n : ℕ) → c.count ≤ length c.addresses → 0 ≡ above_of (touched c (first_accesses Read w n)).count (length c.addresses) 32
cells_read c w n h = rw (read_touch w n c) (sym (above-not c.count (length c.addresses) 32 h))

pub limits_is : (s : VMState) (e : CodeEffect) (m : Memory) (c : Code) →
    first_of (above_of (s.depth - e.pops + length (take e.words.count e.words.words)) (length m.op_stack) 30)
    (first_of (above_of (jumps_after s.jumps (jump_of e.jump)) (length m.origins) 31)
    (first_of (above_of (touched (cells s.cells m.addresses m.values) (accesses_of e.accesses)).count (length m.addresses) 32)
    (first_of (above_of (s.outputs + length (take e.output.count e.output.words)) (length m.output) 33)
    (above_of s.clock 4294967294 34))))
    ≡ limits_of (machine s c m) (effect_of e)
unfolding limits_of effect_of
limits_is s e m c = rw (writes_touch e (cells s.cells m.addresses m.values))
