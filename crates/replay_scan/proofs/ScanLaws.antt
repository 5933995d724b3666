-- A scan's faults are those of the definition, and a record's turn is its verdict. Assumes nothing.
use mathlib.Core.Path.{◌≡◌, refl, sym, ap, ◌∙◌}
use mathlib.Core.Bool.{Bool, true, false}
use mathlib.Core.List.{List, []}
use Prim.Native.Nat.{ℕ, zero, suc, ◌+◌, ◌-◌, ◌≤◌, ◌<◌}
use native.Mathlib.Omega.{arith}
use borrow.Author.Tests.{eq-eqb, ne_eqb, le-ltb, ltb-true, ltb-false, leb-true, leb-false, eqb-true, eqb-false}
use lib.ListN.{length, drop, get_or, set, length-set}
use lib.Dec.{eqb, ltb, leb}
use Rattle.choices.specs.Choice.{cond, first_of, above_of, differ_of}
use mathlib.Core.Logic.{◌⊎◌, ⊎_elim}
use Rattle.machine_log.specs.declared.kinds.RecordKind.{RecordKind}
use Rattle.machine_log.specs.declared.kinds.RecordKind.TheVariants.{Reset, Tip5, U32, TimedTip5, TimedU32}
use Rattle.machine_log.specs.Kinds.{kind_number}
use Rattle.machine.specs.Words.{p}
use Rattle.machine.specs.Ram.{Cells, cells}
use Rattle.machine.specs.Bytes.{bytes_of}
use Rattle.machine.specs.Records.{Record, other, stack, ram, length_of, record_of}
use Rattle.choices.proofs.Choice.{first_zero, first-left, first-nil, above-is, above-not, above-nil, differ_is, differ_not}
use Rattle.machine.proofs.Bytes.{is_word_of}
use Rattle.std.specs.Prelude.{Option, Some, None, Result, Ok, Err}
use Rattle.replay_scan.specs.declared.record.Fields.{Fields}
use Rattle.replay_scan.specs.declared.fault.Fault.{Fault}
use Rattle.replay_scan.specs.declared.fault.Fault.TheVariants.{Malformed, ClockFalls, WrongPlace, WrongRead, NoRoom, TooMany}
use Rattle.replay_scan.specs.declared.counts.Counts.{Counts}
use Rattle.replay_scan.specs.declared.scan.Turn.{Turn}
use Rattle.replay.specs.Replay.{Tally, tally, tally_at, with_stack, with_ram, Built, built, word40, fields40, clock41, most_records, stack45, ram45, stack_fault, stack_turn, wrong, goes, judged}
use Rattle.replay_scan.specs.RecordView.{record_at, OfStack, OfRam, OfTimed}
use Rattle.replay_scan.specs.Walk.{Log}
use Rattle.replay_scan.specs.Scan.{write45, rest_of, over45, Fine, of_other, is_of_timed, is_of_stack, is_of_ram, ram_in}
use Rattle.replay_scan.specs.FaultView.{fault_number}
use Rattle.replay_scan.specs.CountsView.{tally_of, number45}
use Rattle.replay_scan.specs.ScanView.{Places, StackFault, Movable, Moved, OwnFine, OwnEnds, Behind, Goes, Ended, Turns, Stays, Times}
use Rattle.replay.proofs.Verdicts.{judged-stops, judged-goes, judged-wrong, word_nil}

-- ---- faults

word_above : (v : ℕ) → v < 18446744073709551616 → above_of v 18446744069414584320 40 ≡ word40 (bytes_of 8 v)
unfolding word40
word_above v h = rw (is_word_of v h) (go (ltb v p) refl)
  where
    go : (t : Bool) → ltb v p ≡ t → above_of v 18446744069414584320 40 ≡ cond t 0 40
    go true e = let k : v < p = ltb-true v p e in above-not v 18446744069414584320 40 (omega arith)
    go false e = let k : p ≤ v = ltb-false v p e in above-is v 18446744069414584320 40 (omega arith)

first-is : (a b n : ℕ) → (n ≡ 0 → ⊥) → a ≡ n → first_of a b ≡ n
first-is a b n h e = first-left a b (λ z. h (sym e ∙ z)) ∙ e

pub wrong-way : (d q v : ℕ) → 1 < d → fields40 d q v ≡ 40
unfolding fields40
wrong-way d q v h = first-is _ _ 40 (λ z. omega arith) (above-is d 1 40 h)

pub wrong-place : (d q v : ℕ) → d ≤ 1 → 18446744069414584320 < q → q < 18446744073709551616 → fields40 d q v ≡ 40
unfolding fields40
wrong-place d q v h k l =
    first_zero _ _ (above-not d 1 40 h) ∙ first-is _ _ 40 (λ z. omega arith) (sym (word_above q l) ∙ above-is q 18446744069414584320 40 k)

pub right-place : (d q v : ℕ) → d ≤ 1 → q ≤ 18446744069414584320 → v < 18446744073709551616 → fields40 d q v ≡ cond (leb v 18446744069414584320) 0 40
unfolding fields40
right-place d q v h k l =
    let m : q < 18446744073709551616 = omega arith in
    first_zero _ _ (above-not d 1 40 h) ∙ first_zero _ _ (sym (word_above q m) ∙ above-not q 18446744069414584320 40 k) ∙ sym (word_above v l) ∙ go (leb v 18446744069414584320) refl
  where
    go : (t : Bool) → leb v 18446744069414584320 ≡ t → above_of v 18446744069414584320 40 ≡ cond t 0 40
    go true e = above-not v 18446744069414584320 40 (leb-true v 18446744069414584320 e)
    go false e = above-is v 18446744069414584320 40 (leb-false v 18446744069414584320 e)

-- a pointer is compared without adding to it, where the depth is not 0
differ_pred : (q d n : ℕ) → 0 < d → differ_of q (d - 1) n ≡ differ_of (q + 1) d n
differ_pred q d n h = go (eqb q (d - 1)) refl
  where
    go : (t : Bool) → eqb q (d - 1) ≡ t → differ_of q (d - 1) n ≡ differ_of (q + 1) d n
    go true e =
        let k : q ≡ d - 1 = eqb-true q (d - 1) e in
        let l : q + 1 ≡ d = omega arith in
        differ_not q (d - 1) n k ∙ sym (differ_not (q + 1) d n l)
    go false e =
        let k : q ≡ d - 1 → ⊥ = eqb-false q (d - 1) e in
        let l : q + 1 ≡ d → ⊥ = λ z. k (omega arith) in
        differ_is q (d - 1) n k ∙ sym (differ_is (q + 1) d n l)

module _ (s : List ℕ) (depth : ℕ) (f : Fields) (over : ℕ) where
  write_fault : (n : ℕ) → (f.dir ≡ 0 → ⊥) → n ≡ first_of (differ_of f.place depth 42) (first_of over (above_of (depth - 15) (length s) 44)) → StackFault s depth f over n
  unfolding stack_fault
  write_fault n h e = record { is = λ l c q. e ∙ go l c f.dir h q }
    where
      go : (l : Tally) (c : Cells) (d : ℕ) → (d ≡ 0 → ⊥) → over ≡ stack45 l f.clock d →
          first_of (differ_of f.place depth 42) (first_of over (above_of (depth - 15) (length s) 44)) ≡ stack_fault (built l depth s c) f.clock f.place d f.value
      go l c zero h q = absurd (h refl)
      go l c (suc d) h q = rw q

  pub write-room : (n : ℕ) → (f.dir ≡ 0 → ⊥) → f.place ≡ depth → over ≡ 0 → n ≡ above_of (depth - 15) (length s) 44 → StackFault s depth f over n
  write-room n h k z e = write_fault n h (e ∙ sym (first_zero _ _ (differ_not f.place depth 42 k) ∙ first_zero over _ z))

  pub write-elsewhere : (f.dir ≡ 0 → ⊥) → (f.place ≡ depth → ⊥) → StackFault s depth f over 42
  write-elsewhere h k = write_fault 42 h (sym (first-is _ _ 42 (λ z. omega arith) (differ_is f.place depth 42 k)))

  pub shallow_fault : f.dir ≡ 0 → depth < 17 → StackFault s depth f over 42
  unfolding stack_fault
  shallow_fault h l = record { is = λ t c q. rw h (sym (first-left _ _ (λ e. absurd (omega (arith, above-is 17 depth 42 l))) ∙ above-is 17 depth 42 l)) }

  read_fault : (n : ℕ) → f.dir ≡ 0 → 17 ≤ depth → n ≡ first_of (differ_of f.place (depth - 1) 42) (first_of (differ_of f.value (get_or s (depth - 17) 0) 43) over) → StackFault s depth f over n
  unfolding stack_fault
  read_fault n h l e =
      let k : 0 < depth = omega arith in
      record { is = λ t c q. let z : over ≡ stack45 t f.clock 0 = rw h at q in rw h (e ∙ rw (differ_pred f.place depth 42 k, z) (sym (first_zero _ _ (above-not 17 depth 42 l)))) }

  pub read-elsewhere : f.dir ≡ 0 → 17 ≤ depth → (f.place ≡ depth - 1 → ⊥) → StackFault s depth f over 42
  read-elsewhere h l k = read_fault 42 h l (sym (first-is _ _ 42 (λ z. omega arith) (differ_is f.place (depth - 1) 42 k)))

  pub read-wrong : f.dir ≡ 0 → 17 ≤ depth → f.place ≡ depth - 1 → (f.value ≡ get_or s (depth - 17) 0 → ⊥) → StackFault s depth f over 43
  read-wrong h l k m =
      read_fault 43 h l (sym (first_zero _ _ (differ_not f.place (depth - 1) 42 k) ∙ first-is _ _ 43 (λ z. omega arith) (differ_is f.value (get_or s (depth - 17) 0) 43 m)))

  read-right : (n : ℕ) → f.dir ≡ 0 → 17 ≤ depth → f.place ≡ depth - 1 → f.value ≡ get_or s (depth - 17) 0 → n ≡ over → StackFault s depth f over n
  read-right n h l k m e =
      read_fault n h l (e ∙ sym (first_zero _ _ (differ_not f.place (depth - 1) 42 k) ∙ first_zero _ _ (differ_not f.value (get_or s (depth - 17) 0) 43 m)))

  -- without a fault there is a word to drop, or room for one
  pub movable : (l : Tally) → over ≡ stack45 l f.clock f.dir → Places s depth → StackFault s depth f over 0 → Movable s depth f
  unfolding stack_fault
  movable l q h e =
      let c = cells 0 [] [] in
      record {
        places = h;
        read = λ z. above-nil 17 depth 42 (omega arith) (first-nil _ _ (sym (rw z at (e.is l c q)))).0;
        write = λ z. go c f.dir z (e.is l c q);
      }
    where
      go : (c : Cells) (d : ℕ) → 0 < d → 0 ≡ stack_fault (built l depth s c) f.clock f.place d f.value → depth < length s + 16
      go c zero l k = absurd (omega arith)
      go c (suc d) l k =
          let m : depth - 15 ≤ length s = above-nil (depth - 15) (length s) 44 (omega arith) (first-nil _ _ (first-nil _ _ (sym k)).1).1 in
          omega (arith, h.low)

module _ (s : List ℕ) (depth : ℕ) (f : Fields) where
  pub write-full : (f.dir ≡ 0 → ⊥) → f.place ≡ depth → StackFault s depth f 45 45
  write-full h k = write_fault s depth f 45 45 h (sym (first_zero _ _ (differ_not f.place depth 42 k) ∙ first-left 45 _ (λ z. omega arith)))

  pub write-no_room : (f.dir ≡ 0 → ⊥) → f.place ≡ depth → length s < depth - 15 → StackFault s depth f 0 44
  write-no_room h k l = write-room s depth f 0 44 h k refl (sym (above-is (depth - 15) (length s) 44 l))

  pub write-fits : (f.dir ≡ 0 → ⊥) → f.place ≡ depth → depth - 15 ≤ length s → StackFault s depth f 0 0
  write-fits h k l = write-room s depth f 0 0 h k refl (sym (above-not (depth - 15) (length s) 44 l))

  pub read-full : f.dir ≡ 0 → 17 ≤ depth → f.place ≡ depth - 1 → f.value ≡ get_or s (depth - 17) 0 → StackFault s depth f 45 45
  read-full h l k m = read-right s depth f 45 45 h l k m refl

  pub read-fits : f.dir ≡ 0 → 17 ≤ depth → f.place ≡ depth - 1 → f.value ≡ get_or s (depth - 17) 0 → StackFault s depth f 0 0
  read-fits h l k m = read-right s depth f 0 0 h l k m refl

-- a record without a fault is not one too many
fault_not_over : (b : Built) (t q d v : ℕ) → stack_fault b t q d v ≡ 0 → stack45 b.counts t d ≡ 0
unfolding stack_fault
fault_not_over b t q zero v e = (first-nil _ _ (first-nil _ _ (first-nil _ _ e).1).1).1
fault_not_over b t q (suc d) v e = (first-nil _ _ (first-nil _ _ e).1).0

module _ (s : List ℕ) (depth : ℕ) (f : Fields) where
  pub moved-read : Movable s depth f → f.dir ≡ 0 → Moved s depth f (set s (depth - 17) 0) (depth - 1)
  unfolding stack_turn
  moved-read m h =
      let l : 17 ≤ depth = m.read h in
      record {
        is = λ t c. rw h;
        places = record { low = omega arith; high = rw (length-set s (depth - 17) 0) (omega (arith, m.places.high)) };
        room = length-set s (depth - 17) 0;
      }

  pub moved-write : Movable s depth f → (f.dir ≡ 0 → ⊥) → Moved s depth f (set s (depth - 16) f.value) (depth + 1)
  unfolding stack_turn
  moved-write m h =
      let l : 0 < f.dir = omega arith in
      record {
        is = λ t c. go t c f.dir h;
        places = record { low = omega (arith, m.places.low); high = rw (length-set s (depth - 16) f.value) (omega (arith, m.write l)) };
        room = length-set s (depth - 16) f.value;
      }
    where
      go : (t : Tally) (c : Cells) (d : ℕ) → (d ≡ 0 → ⊥) → stack_turn (built t depth s c) f.clock d f.value ≡ built (with_stack t f.clock d) (depth + 1) (set s (depth - 16) f.value) c
      go t c zero h = absurd (h refl)
      go t c (suc d) h = refl

-- ---- a record's clock and fields

pub fault_some : (e : Fault) → fault_number e ≡ 0 → ⊥
fault_some Malformed z = omega arith
fault_some ClockFalls z = omega arith
fault_some WrongPlace z = omega arith
fault_some WrongRead z = omega arith
fault_some NoRoom z = omega arith
fault_some TooMany z = omega arith

-- a record whose number is a fault's
wrong-is : (j t n : ℕ) (x : Built) (e : Fault) → t < j → n ≡ fault_number e → judged j t n x ≡ wrong (fault_number e)
wrong-is j t n x e l h = judged-wrong j t n x l (λ z. fault_some e (sym h ∙ z)) ∙ ap wrong h

module _ (j : ℕ) (n : Counts) (f : Fields) where
  pub own-late : j ≤ f.clock → OwnEnds j n f None
  own-late l = record { ends = λ rest x. judged-stops j _ _ x l }

  own-wrong : (e : Fault) → f.clock < j → ((rest : ℕ) → first_of (fields40 f.dir f.place f.value) (first_of (clock41 (tally_of n) f.clock) rest) ≡ fault_number e) → OwnEnds j n f (Some e)
  own-wrong e l h = record { ends = λ rest x. wrong-is j _ _ x e l (h rest) }

  module _ (fit : Bool) (fit_is : fields40 f.dir f.place f.value ≡ cond fit 0 40) (l : f.clock < j) where
    pub own_40 : fit ≡ false → OwnEnds j n f (Some Malformed)
    own_40 e = own-wrong Malformed l (λ rest. first-is _ _ 40 (λ z. omega arith) (rw e at fit_is))

    pub own_41 : fit ≡ true → f.clock < n.last → OwnEnds j n f (Some ClockFalls)
    unfolding clock41
    own_41 e k = own-wrong ClockFalls l (λ rest. first_zero _ _ (rw e at fit_is) ∙ first-is _ _ 41 (λ z. omega arith) (above-is n.last f.clock 41 k))

    pub own-goes : fit ≡ true → n.last ≤ f.clock → OwnFine j n f
    unfolding clock41
    own-goes e k = record { early = l; fields = rw e at fit_is; clock = above-not n.last f.clock 41 k }

-- ---- a record of the op stack

module _ (j : ℕ) (n : Counts) (depth : ℕ) (s : List ℕ) (f : Fields) where
  abbrev of_f : Record
  of_f = stack f.clock f.place f.dir f.value

  pub stack_off : {e : Option Fault} → OwnEnds j n f e → Ended j n depth s of_f s e
  unfolding rest_of
  stack_off o = record { is = λ c. o.ends _ _; kept = refl }

  -- what is counted at the record's clock is m
  module _ (own : OwnFine j n f) (h : Places s depth) (m : Counts) (m-is : tally_of m ≡ tally_at (tally_of n) f.clock) (over : Bool)
      (over-is : number45 over ≡ first_of (cond (eqb m.stacks 0) 0 (differ_of f.dir m.way 45)) (above_of (m.stacks + 1) most_records 45)) where
    is_45 : number45 over ≡ stack45 (tally_of n) f.clock f.dir
    unfolding stack45
    is_45 = over-is ∙ ap (λ (z : Tally). first_of (cond (eqb z.stacks 0) 0 (differ_of f.dir z.way 45)) (above_of (z.stacks + 1) most_records 45)) m-is

    fault_of_lem : (k : ℕ) → StackFault s depth f (number45 over) k → (c : Cells) →
        k ≡ first_of (fields40 f.dir f.place f.value) (first_of (clock41 (tally_of n) f.clock) (stack_fault (built (tally_of n) depth s c) f.clock f.place f.dir f.value))
    fault_of_lem k here c = here.is (tally_of n) c is_45 ∙ sym (first_zero _ _ own.fields ∙ first_zero _ _ own.clock)

    pub stack-wrong : (e : Fault) → StackFault s depth f (number45 over) (fault_number e) → Ended j n depth s of_f s (Some e)
    unfolding rest_of
    stack-wrong e here = record { is = λ c. wrong-is j _ _ _ e own.early (sym (fault_of_lem _ here c)); kept = refl }

    module _ (here : StackFault s depth f (number45 over) 0) where
      pub stack-movable : Movable s depth f
      stack-movable = movable s depth f (number45 over) (tally_of n) is_45 h here

      not_over : first_of (cond (eqb m.stacks 0) 0 (differ_of f.dir m.way 45)) (above_of (m.stacks + 1) most_records 45) ≡ 0
      not_over = sym over-is ∙ is_45 ∙ fault_not_over (built (tally_of n) depth s (cells 0 [] [])) f.clock f.place f.dir f.value (sym (here.is (tally_of n) (cells 0 [] []) is_45))

      -- one stack record more
      pub stack-few : m.stacks + 1 ≤ most_records
      stack-few = above-nil (m.stacks + 1) most_records 45 (omega arith) (first-nil _ _ not_over).1

      pub stack-goes : {after : List ℕ} {d : ℕ} {k : Counts} → tally_of k ≡ tally f.clock f.dir (m.stacks + 1) m.rams → Moved s depth f after d →
          Goes j n depth s of_f after (record { counts = Some k; depth = d; ram = false })
      unfolding rest_of ram_in over45 with_stack
      stack-goes {after} {d} {k} k-is o =
          let e : with_stack (tally_of n) f.clock f.dir ≡ tally_of k = ap (λ (z : Tally). tally f.clock f.dir (z.stacks + 1) z.rams) (sym m-is) ∙ sym k-is in
          record {
            tally = tally_of k;
            is = λ c. judged-goes j _ _ _ own.early (sym (fault_of_lem 0 here c)) ∙ ap goes (o.is (tally_of n) c ∙ ap (λ (z : Tally). built z d after c) e);
            behind = (refl, refl);
            fine = is_of_stack;
            quiet = λ _. refl;
            places = o.places;
            room = o.room;
          }

-- ---- a record of RAM

fine_ram : (t a v d : ℕ) → a < 18446744073709551616 → v < 18446744073709551616 → fields40 d a v ≡ 0 → Fine (ram t a v d)
unfolding fields40
fine_ram t a v d h k e =
    let x = first-nil _ _ e in
    let y = first-nil _ _ x.1 in
    is_of_ram (word_nil a h y.0) (word_nil v k y.1) (above-nil d 1 40 (omega arith) x.0)

write_45 : (l : Tally) (t d over : ℕ) → over ≡ ram45 l t → cond (eqb d 0) 0 over ≡ write45 l t d
unfolding write45
write_45 l t zero over e = refl
write_45 l t (suc d) over e = let n : suc d ≡ 0 → ⊥ = λ z. omega arith in rw (ne_eqb (suc d) 0 n) e

-- 45 of a record that goes on, which is that of a read
over_45 : (l : Tally) (t a v d over : ℕ) → over ≡ ram45 l t → write45 l t d ≡ 0 → over45 l (ram t a v d) ≡ over
unfolding write45 over45
over_45 l t a v zero over e f = sym e
over_45 l t a v (suc d) over e f = sym (e ∙ f)

not-both : {b : Bool} → b ≡ false → b ≡ true → ⊥
not-both e f = let z : ◌≡◌ {A = ℕ} 0 1 = cc in omega arith

either-nil : (b : Bool) → cond {A = ℕ} b 0 0 ≡ 0
either-nil true = refl
either-nil false = refl

module _ (j : ℕ) (n : Counts) (depth : ℕ) (f : Fields) where
  abbrev of_ram_f : Record
  of_ram_f = ram f.clock f.place f.value f.dir

  pub ram-off : {e : Option Fault} → OwnEnds j n f e → Stays j n depth of_ram_f (Err e)
  unfolding rest_of
  ram-off o = λ s h. record { is = λ c. o.ends _ _; kept = refl }

  module _ (own : OwnFine j n f) (m : Counts) (m-is : tally_of m ≡ tally_at (tally_of n) f.clock) (over : Bool) (over-is : number45 over ≡ above_of (m.rams + 1) most_records 45) where
    is-ram_45 : number45 over ≡ ram45 (tally_of n) f.clock
    unfolding ram45
    is-ram_45 = over-is ∙ ap (λ (z : Tally). above_of (z.rams + 1) most_records 45) m-is

    ram_fault_of : (k : ℕ) → k ≡ write45 (tally_of n) f.clock f.dir → k ≡ first_of (fields40 f.dir f.place f.value) (first_of (clock41 (tally_of n) f.clock) (write45 (tally_of n) f.clock f.dir))
    ram_fault_of k e = e ∙ sym (first_zero _ _ own.fields ∙ first_zero _ _ own.clock)

    -- a write too many
    pub ram-wrong : over ≡ true → (f.dir ≡ 0 → ⊥) → Stays j n depth of_ram_f (Err (Some TooMany))
    unfolding rest_of
    ram-wrong o w =
        let e : 45 ≡ write45 (tally_of n) f.clock f.dir = rw (o, ne_eqb f.dir 0 w) at (write_45 (tally_of n) f.clock f.dir (number45 over) is-ram_45) in
        λ s h. record { is = λ c. wrong-is j _ _ _ TooMany own.early (sym (ram_fault_of 45 e)); kept = refl }

    module _ (k : ℕ) (k-is : k ≡ 0) (none : k ≡ write45 (tally_of n) f.clock f.dir) (a-fits : f.place < 18446744073709551616) (v-fits : f.value < 18446744073709551616) where
      ram-on : {r : Turn} (t : Tally) → t ≡ with_ram (tally_of n) f.clock → r.depth ≡ depth → r.ram ≡ true → Behind (number45 over) t r.counts → Stays j n depth of_ram_f (Ok r)
      unfolding rest_of
      ram-on {r} t t-is d m b =
          λ s h.
          record {
            tally = t;
            is = λ c. judged-goes j _ _ _ own.early (sym (ram_fault_of k none) ∙ k-is) ∙ rw (t-is, d);
            behind = rw (over_45 (tally_of n) f.clock f.place f.value f.dir (number45 over) is-ram_45 (sym none ∙ k-is)) b;
            fine = fine_ram _ _ _ _ a-fits v-fits own.fields;
            quiet = λ q. absurd (not-both q m);
            places = rw d h;
            room = refl;
          }

    -- a read too many
    pub ram-over : over ≡ true → f.dir ≡ 0 → f.place < 18446744073709551616 → f.value < 18446744073709551616 → Stays j n depth of_ram_f (Ok (record { counts = None; depth = depth; ram = true }))
    ram-over o w a v =
        let e : 0 ≡ write45 (tally_of n) f.clock f.dir = rw (eq-eqb f.dir 0 w) at (write_45 (tally_of n) f.clock f.dir (number45 over) is-ram_45) in
        ram-on 0 refl e a v (with_ram (tally_of n) f.clock) refl refl refl (rw o)

    -- one RAM record more
    pub ram-few : over ≡ false → m.rams + 1 ≤ most_records
    ram-few o = above-nil (m.rams + 1) most_records 45 (omega arith) (sym (rw o at over-is))

    pub ram-goes : {k : Counts} → over ≡ false → tally_of k ≡ tally f.clock m.way m.stacks (m.rams + 1) → f.place < 18446744073709551616 → f.value < 18446744073709551616 →
        Stays j n depth of_ram_f (Ok (record { counts = Some k; depth = depth; ram = true }))
    unfolding with_ram
    ram-goes {k} o k-is a v =
        let z : number45 over ≡ 0 = rw o in
        let w : 0 ≡ ram45 (tally_of n) f.clock = sym z ∙ is-ram_45 in
        let q : cond (eqb f.dir 0) 0 0 ≡ write45 (tally_of n) f.clock f.dir = write_45 (tally_of n) f.clock f.dir 0 w in
        ram-on (cond (eqb f.dir 0) 0 0) (either-nil (eqb f.dir 0)) q a v (tally_of k) (k-is ∙ ap (λ (z : Tally). tally f.clock z.way z.stacks (z.rams + 1)) m-is) refl refl (rw o (refl, refl))

-- ---- a record of kind 6 or 7

module _ (j : ℕ) (n : Counts) (depth t : ℕ) where
  pub timed-late : j ≤ t → Times j n depth t (Err None)
  unfolding rest_of
  timed-late l = λ k fields s h. record { is = λ c. judged-stops j t _ _ l; kept = refl }

  pub timed_41 : t < j → t < n.last → Times j n depth t (Err (Some ClockFalls))
  unfolding rest_of clock41
  timed_41 l m = λ k fields s h. record { is = λ c. wrong-is j t _ _ ClockFalls l (above-is n.last t 41 m); kept = refl }

  pub timed-goes : t < j → n.last ≤ t → (m : Counts) → tally_of m ≡ tally_at (tally_of n) t → Times j n depth t (Ok (record { counts = Some m; depth = depth; ram = false }))
  unfolding rest_of clock41 over45 ram_in
  timed-goes l k m m-is =
      λ kind fields s h.
      record {
        tally = tally_of m;
        is = λ c. judged-goes j _ _ _ l (above-not n.last t 41 k) ∙ ap (λ (z : Tally). goes (built z depth s c)) (sym m-is);
        behind = (refl, refl);
        fine = is_of_timed;
        quiet = λ _. refl;
        places = h;
        room = refl;
      }

-- ---- a record by its kind

pub stack_size : (v : ℕ) → length_of v 4 ≡ 23
unfolding length_of
stack_size v = refl

pub ram_size : (v : ℕ) → length_of v 5 ≡ 23
unfolding length_of
ram_size v = refl

module _ (log : Log) (at j : ℕ) (n : Counts) (depth : ℕ) (s : List ℕ) where
  pub turn_stack : (after : List ℕ) (r : Result Turn (Option Fault)) (f : Fields) → OfStack log.bytes at f →
      Turns j n depth s (stack f.clock f.place f.dir f.value) after r → Turns j n depth s (record_at log at 4) after r
  turn_stack after r f o t = rw (stack_size log.revision, o.is) t

  pub turn_ram : (r : Result Turn (Option Fault)) (f : Fields) → OfRam log.bytes at f → Places s depth → Stays j n depth (ram f.clock f.place f.value f.dir) r → Turns j n depth s (record_at log at 5) s r
  turn_ram r f o h t = rw (ram_size log.revision, o.is) (t s h)

  pub turn_timed : (r : Result Turn (Option Fault)) (kind t : ℕ) → OfTimed log at kind t → Places s depth → Times j n depth t r → Turns j n depth s (record_at log at kind) s r
  turn_timed r kind t o h k = rw o.is (k kind o.fields s h)

  other-is : (kind : ℕ) (b : List ℕ) → kind < 4 → record_of kind b ≡ other kind (drop 4 b)
  unfolding record_of
  other-is kind b l =
      let x : kind ≡ 4 → ⊥ = λ z. omega arith in
      let y : kind ≡ 5 → ⊥ = λ z. omega arith in
      let z : kind ≤ 5 = omega arith in
      rw (ne_eqb kind 4 x, ne_eqb kind 5 y, le-ltb 5 kind z)

  pub turn_other : (kind : ℕ) → kind < 4 → Places s depth → Goes j n depth s (record_at log at kind) s (record { counts = Some n; depth = depth; ram = false })
  unfolding rest_of ram_in over45
  turn_other kind l h =
      rw (other-is kind _ l)
      (record { tally = tally_of n; is = λ c. refl; behind = (refl, refl); fine = of_other; quiet = λ _. refl; places = h; room = refl })

-- ---- what is counted

pub counts_same : (n : Counts) (t : ℕ) → n.last ≡ t → tally_of n ≡ tally_at (tally_of n) t
unfolding tally_at
counts_same n t e = rw (eq-eqb n.last t e)

pub counts_anew : (n : Counts) (t : ℕ) → (n.last ≡ t → ⊥) → tally t 0 0 0 ≡ tally_at (tally_of n) t
unfolding tally_at
counts_anew n t e = rw (ne_eqb n.last t e)

-- the tests of a record one too many

over-above : (n : ℕ) → number45 (leb 10 n) ≡ above_of (n + 1) most_records 45
over-above n = go (leb 10 n) refl
  where
    go : (t : Bool) → leb 10 n ≡ t → number45 t ≡ above_of (n + 1) most_records 45
    go true e = let k : most_records < n + 1 = omega (arith, leb-true 10 n e) in sym (above-is (n + 1) most_records 45 k)
    go false e = let k : n + 1 ≤ most_records = omega (arith, leb-false 10 n e) in sym (above-not (n + 1) most_records 45 k)

pub over-first : (n d w : ℕ) → n ≡ 0 → 0 ≡ first_of (cond (eqb n 0) 0 (differ_of d w 45)) (above_of (n + 1) most_records 45)
over-first n d w e = let k : n + 1 ≤ most_records = omega arith in sym (first_zero _ _ (rw (eq-eqb n 0 e)) ∙ above-not (n + 1) most_records 45 k)

pub over-way : (n d w : ℕ) → (n ≡ 0 → ⊥) → (d ≡ w → ⊥) → 45 ≡ first_of (cond (eqb n 0) 0 (differ_of d w 45)) (above_of (n + 1) most_records 45)
over-way n d w e f = sym (first-is _ _ 45 (λ z. omega arith) (rw (ne_eqb n 0 e) (differ_is d w 45 f)))

pub over-many : (n d w : ℕ) → (n ≡ 0 → ⊥) → d ≡ w → number45 (leb 10 n) ≡ first_of (cond (eqb n 0) 0 (differ_of d w 45)) (above_of (n + 1) most_records 45)
over-many n d w e f = over-above n ∙ sym (first_zero _ _ (rw (ne_eqb n 0 e) (differ_not d w 45 f)))

pub over-rams : (n : ℕ) → number45 (leb 10 n) ≡ above_of (n + 1) most_records 45
over-rams = over-above

-- ---- kinds

pub timed-kind : (k : RecordKind) → (k ≡ TimedTip5) ⊎ (k ≡ TimedU32) → 5 < kind_number k
timed-kind k e = ⊎_elim (λ f. rw f (omega arith)) (λ f. rw f (omega arith)) e

pub other-kind : (k : RecordKind) → (k ≡ Reset) ⊎ ((k ≡ Tip5) ⊎ (k ≡ U32)) → kind_number k < 4
other-kind k e = ⊎_elim (λ f. rw f (omega arith)) (λ f. ⊎_elim (λ g. rw g (omega arith)) (λ g. rw g (omega arith)) f) e
