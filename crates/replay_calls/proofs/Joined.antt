-- The scan, which leaves RAM's words out, and the groups, which look at nothing else, make replay together.
use mathlib.Core.Path.{◌≡◌, refl, sym, ap, ◌∙◌}
use mathlib.Core.Bool.{Bool, true, false}
use mathlib.Core.List.{List, [], ◌∷◌, ◌++◌, append_assoc, append-nil}
use Prim.Native.Nat.{ℕ, zero, suc, ◌+◌, ◌≤◌, ◌<◌}
use native.Mathlib.Omega.{arith}
use borrow.Author.Tests.{lt-ltb, le-ltb, eqb-true, eqb-false, ltb-true, ltb-false}
use lib.ListN.{length, drop}
use lib.Dec.{eqb, ltb}
use Rattle.machine.specs.Words.{p}
use Rattle.choices.specs.Choice.{cond, first_of}
use Rattle.machine.specs.Ram.{Cells, held, has, stored}
use Rattle.machine.specs.Records.{Record, other, timed, stack, ram, Parsed}
use Rattle.choices.proofs.Choice.{first_zero, first-left, first-nil, above-not, above-is, differ_not, differ_is}
use Rattle.machine.proofs.RamLaws.{stored-count}
use Rattle.replay.specs.Replay.{with_ram, Built, built, fields40, clock41, ram45, stack_fault, ram_fault, ram_turn, stops, wrong, goes, judged, read_of, bad, fine, onward, on_parsed}
use Rattle.replay.specs.LastWrite.{wrote_all}
use Rattle.replay_scan.specs.Walk.{Log, parse_at, Walk}
use Rattle.replay_scan.specs.Scan.{write45, rest_of, over45, Rests, Ends, at_end, at_break, at_stop, at_fault, at_over}
use Rattle.replay_scan.specs.Scan as S
use Rattle.replay_table.specs.Group.{inside, new_in, cells_in, RightAt, WrongAt, Right, of_outside}
use Rattle.replay_table.specs.Group as G
use Rattle.replay.proofs.Verdicts.{Reads, reads_snoc, All, judged-goes, judged-stops, judged-wrong, judged-went}
use Rattle.replay.proofs.Verdicts as W
use Rattle.replay.proofs.LastWrite.{SinceOpen, cells-after}
use Rattle.replay.proofs.Bytes.{replay_from, replay_turn}
use Rattle.replay.proofs.Strip.{strip, same-stack, same_turn}

-- ---- one record

-- a RAM record's address is a word
pub data Worded : Record → Type 0 where
  worded_other : {k : ℕ} {s : List ℕ} → Worded (other k s)
  worded_timed : {k t : ℕ} {s : List ℕ} → Worded (timed k t s)
  worded_stack : {t q d v : ℕ} → Worded (stack t q d v)
  worded_ram : {t a v d : ℕ} → a < p → Worded (ram t a v d)

-- no fault 43 or 44, by the cells k
data Fine (k : Cells) : Record → Type 0 where
  fine_other : {n : ℕ} {s : List ℕ} → Fine k (other n s)
  fine_timed : {n t : ℕ} {s : List ℕ} → Fine k (timed n t s)
  fine_stack : {t q d v : ℕ} → Fine k (stack t q d v)
  fine_read : {t a v : ℕ} → v ≡ held k a → Fine k (ram t a v 0)
  fine_write : {t a v d : ℕ} → (stored k a v).count ≤ length k.addresses → Fine k (ram t a v (suc d))

judged_early : (j t n : ℕ) (x c : Built) → judged j t n x ≡ goes c → t < j
unfolding judged
judged_early j t n x c e = go (ltb t j) refl e
  where
    go : (u : Bool) → ltb t j ≡ u → cond u (cond (eqb n 0) (goes x) (wrong n)) stops ≡ goes c → t < j
    go true q h = ltb-true t j q
    go false q h = let y : ◌≡◌ {A = ℕ} 0 1 = cc in absurd (omega arith)

-- what a RAM record's fault is behind 40 and 41, where the scan has found none of these
behind : (a b x y n : ℕ) → first_of a (first_of b x) ≡ 0 → y ≡ n → first_of a (first_of b y) ≡ n
behind a b x y n h e = let m = first-nil a _ h in first_zero a _ m.0 ∙ first_zero b _ (first-nil b x m.1).0 ∙ e

-- the fault of a RAM record by the cells k
read-fine : (k : Cells) (b : Built) (t a v : ℕ) → v ≡ held k a → ram_fault (strip k b) t a v 0 ≡ ram45 b.counts t
unfolding ram_fault
read-fine k b t a v e = first_zero _ _ (differ_not v (held k a) 43 e)

read-wrong : (k : Cells) (b : Built) (t a v : ℕ) → (v ≡ held k a → ⊥) → ram_fault (strip k b) t a v 0 ≡ 43
unfolding ram_fault
read-wrong k b t a v e = let z = differ_is v (held k a) 43 e in first-left _ _ (λ y. absurd (omega arith)) ∙ z

write-fine : (k : Cells) (b : Built) (t a v d : ℕ) → ram45 b.counts t ≡ 0 → (stored k a v).count ≤ length k.addresses → ram_fault (strip k b) t a v (suc d) ≡ 0
unfolding ram_fault
write-fine k b t a v d e h = first_zero _ _ e ∙ above-not (stored k a v).count (length k.addresses) 44 h

write-full : (k : Cells) (b : Built) (t a v d : ℕ) → ram45 b.counts t ≡ 0 → length k.addresses < (stored k a v).count → ram_fault (strip k b) t a v (suc d) ≡ 44
unfolding ram_fault
write-full k b t a v d e h = first_zero _ _ e ∙ above-is (stored k a v).count (length k.addresses) 44 h

-- a write that the scan goes on with is not one too many
write-few : (j : ℕ) (b y : Built) (t a v d : ℕ) → rest_of j b (ram t a v (suc d)) ≡ goes y → ram45 b.counts t ≡ 0
unfolding rest_of write45
write-few j b y t a v d e = (first-nil _ _ (first-nil _ _ (judged-went j t _ _ y e).0).1).1

-- a RAM record that the scan goes on with: its fault n is what replay finds, or it goes on
ram_turn_lem : (k : Cells) (b : Built) (t a v d : ℕ) → ram_turn (strip k b) t a v d ≡ strip (wrote_all k (ram t a v d ∷ [])) (built (with_ram b.counts t) b.depth b.words b.cells)
unfolding ram_turn wrote_all
ram_turn_lem k b t a v zero = refl
ram_turn_lem k b t a v (suc d) = refl

ram-read : (j : ℕ) (k : Cells) (b y : Built) (t a v d : ℕ) → rest_of j b (ram t a v d) ≡ goes y → ram_fault (strip k b) t a v d ≡ 0 → read_of j (strip k b) (ram t a v d) ≡ goes (strip (wrote_all k (ram t a v d ∷ [])) y)
unfolding rest_of read_of
ram-read j k b y t a v d e f =
    let w = judged-went j t _ _ y e in
    judged-goes j t _ _ (judged_early j t _ _ y e) (behind _ _ _ _ 0 w.0 f) ∙ ap goes (ram_turn_lem k b t a v d ∙ ap (strip (wrote_all k (ram t a v d ∷ []))) w.1)

ram-refused : (j : ℕ) (k : Cells) (b y : Built) (t a v d n : ℕ) → rest_of j b (ram t a v d) ≡ goes y → ram_fault (strip k b) t a v d ≡ n → (n ≡ 0 → ⊥) → read_of j (strip k b) (ram t a v d) ≡ wrong n
unfolding rest_of read_of
ram-refused j k b y t a v d n e f h =
    let w = judged-went j t _ _ y e in
    let z = behind (fields40 d a v) (clock41 b.counts t) _ _ n w.0 f in
    judged-wrong j t _ _ (judged_early j t _ _ y e) (λ q. h (sym z ∙ q)) ∙ ap wrong z

-- what the scan goes on with, and is not one too many, replay goes on with
rest_read : (j : ℕ) (k : Cells) (b y : Built) (r : Record) → rest_of j b r ≡ goes y → over45 b.counts r ≡ 0 → Fine k r → read_of j (strip k b) r ≡ goes (strip (wrote_all k (r ∷ [])) y)
unfolding rest_of read_of wrote_all over45
rest_read j k b y (other n s) e o fine_other = let z : b ≡ y = cc in rw z
rest_read j k b y (timed n t s) e o fine_timed =
    let w = judged-went j t _ _ y e in
    judged-goes j t _ _ (judged_early j t _ _ y e) w.0 ∙ ap (λ (x : Built). goes (strip k x)) w.1
rest_read j k b y (stack t q d v) e o fine_stack =
    let w = judged-went j t _ _ y e in
    let a = judged_early j t _ _ y e in
    judged-goes j t _ _ a (rw (same-stack k b t q d v) w.0) ∙ ap goes (same_turn k b t d v ∙ ap (strip k) w.1)
rest_read j k b y (ram t a v zero) e o (fine_read f) = ram-read j k b y t a v 0 e (read-fine k b t a v f ∙ o)
rest_read j k b y (ram t a v (suc d)) e o (fine_write f) = ram-read j k b y t a v (suc d) e (write-fine k b t a v d (write-few j b y t a v d e) f)

-- ---- RAM's part

-- an address that is a word is inside the group of all words
word_inside : (a : ℕ) → a < p → inside 0 p a ≡ true
unfolding inside
word_inside a h =
    let z : 0 ≤ a = omega arith in
    rw (le-ltb a 0 z, lt-ltb a p h)

true_false : (b : Bool) → b ≡ true → b ≡ false → ⊥
true_false true e f = let z : ◌≡◌ {A = ℕ} 0 1 = cc in omega arith
true_false false e f = let z : ◌≡◌ {A = ℕ} 0 1 = cc in omega arith

-- the cells that a record takes
takes_one : (c k : Cells) (done : List Record) (r : Record) → SinceOpen c done k → Worded r → (wrote_all k (r ∷ [])).count ≡ k.count + new_in 0 p c done r
unfolding wrote_all new_in
takes_one c k done (other n s) o w = omega arith
takes_one c k done (timed n t s) o w = omega arith
takes_one c k done (stack t q d v) o w = omega arith
takes_one c k done (ram t a v zero) o w = omega arith
takes_one c k done (ram t a v (suc d)) o (worded_ram h) = stored-count k a v ∙ rw (word_inside a h, ← o.has_is a) (go (has k a))
  where
    go : (t : Bool) → cond t k.count (k.count + 1) ≡ k.count + cond t 0 1
    go true = omega arith
    go false = omega arith

fine_of : (c k : Cells) (done : List Record) (r : Record) → SinceOpen c done k → Worded r → RightAt 0 p c done r → k.count + new_in 0 p c done r ≤ length c.addresses → Fine k r
unfolding wrote_all
fine_of c k done (other n s) o w h l = fine_other
fine_of c k done (timed n t s) o w h l = fine_timed
fine_of c k done (stack t q d v) o w h l = fine_stack
fine_of c k done (ram t a v zero) o (worded_ram i) (of_outside e) l = absurd (true_false _ (word_inside a i) e)
fine_of c k done (ram t a v zero) o w (RightAt.of_read e) l = fine_read (e ∙ sym (o.held_is a))
fine_of c k done (ram t a v (suc d)) o w h l =
    let n = takes_one c k done (ram t a v (suc d)) o w in
    let m : (stored k a v).count ≤ length k.addresses = omega (arith, o.room) in
    fine_write m

-- ---- records in a row

all_two : (k : Cells) (r : Record) (rs : List Record) → wrote_all (wrote_all k (r ∷ [])) rs ≡ wrote_all k (r ∷ rs)
unfolding wrote_all
all_two k (other n s) rs = refl
all_two k (timed n t s) rs = refl
all_two k (stack t q d v) rs = refl
all_two k (ram t a v zero) rs = refl
all_two k (ram t a v (suc d)) rs = refl

-- where every read is right and the cells suffice, replay reads them all
pub fit : {j : ℕ} {o : Built} {done : List Record} (x z : Built) (k : Cells) (rs : List Record) →
    Reads j o done (strip k x) → length o.cells.addresses ≡ length o.cells.values → Rests j x rs z 0 → All Worded rs → Right 0 p o.cells done rs →
    k.count + cells_in 0 p o.cells done rs ≤ length o.cells.addresses →
    Reads j o (done ++ rs) (strip (wrote_all k rs) z)
unfolding wrote_all cells_in
fit {done = done} x z k [] h q S.none W.none G.none l = rw (append-nil done) h
fit {j} {o} {done} x z k (r ∷ rs) h q (S.more {c = y} e u m) (W.more w ws) (G.more g gs) l =
    let s = cells-after h q in
    let f = fine_of o.cells k done r s w g (omega arith) in
    let n = takes_one o.cells k done r s w in
    let i = fit y z (wrote_all k (r ∷ [])) rs (reads_snoc r h (rest_read j k x y r e u f)) q m ws gs (omega arith) in
    rw (append_assoc done (r ∷ []) rs, all_two k r rs) at i
fit x z k (r ∷ rs) h q (S.last e u n) ws gs l = absurd (n refl)

-- a row of records and one that is refused behind it
pub record Refuses (j : ℕ) (o : Built) (rs : List Record) (n : ℕ) : Type 0 where
  pub done : List Record
  pub rest : List Record
  pub one : Record
  pub stand : Built
  pub joined : rs ≡ done ++ one ∷ rest
  pub reads : Reads j o done stand
  pub says : read_of j stand one ≡ wrong n

-- the same behind more records
refuses_join : {j : ℕ} {o : Built} {rs ss : List Record} {n : ℕ} → rs ≡ ss → Refuses j o rs n → Refuses j o ss n
refuses_join e h = rw e at h

-- a wrong read
pub refuse_read : {j : ℕ} {o : Built} {done : List Record} (x y : Built) (k : Cells) (r : Record) (rs : List Record) →
    Reads j o done (strip k x) → length o.cells.addresses ≡ length o.cells.values → rest_of j x r ≡ goes y → WrongAt 0 p o.cells done r →
    Refuses j o (done ++ r ∷ rs) 43
refuse_read {j} {o} {done} x y k (ram t a v zero) rs h q e (WrongAt.of_read i n) =
    let s = cells-after h q in
    let f = read-wrong k x t a v (λ w. n (w ∙ s.held_is a)) in
    record { done = done; rest = rs; one = ram t a v 0; stand = strip k x; joined = refl; reads = h; says = ram-refused j k x y t a v 0 43 e f (λ u. omega arith) }
refuse_read {j} {o} {done} x y k (other _ _) rs h q e n = elim n [ ]
refuse_read {j} {o} {done} x y k (timed _ _ _) rs h q e n = elim n [ ]
refuse_read {j} {o} {done} x y k (stack _ _ _ _) rs h q e n = elim n [ ]
refuse_read {j} {o} {done} x y k (ram t a v (suc _)) rs h q e n = elim n [ ]

-- a right read that is one too many
refuse_over : {j : ℕ} {o : Built} {done : List Record} {m : ℕ} (x y : Built) (k : Cells) (r : Record) →
    Reads j o done (strip k x) → length o.cells.addresses ≡ length o.cells.values → rest_of j x r ≡ goes y → over45 x.counts r ≡ m → (m ≡ 0 → ⊥) →
    Worded r → RightAt 0 p o.cells done r → Refuses j o (done ++ (r ∷ [])) m
unfolding over45
refuse_over x y k (other n s) h q e u z w g = absurd (z (sym u))
refuse_over x y k (timed n t s) h q e u z w g = absurd (z (sym u))
refuse_over x y k (stack t i d v) h q e u z w g = absurd (z (sym u))
refuse_over x y k (ram t a v (suc d)) h q e u z w g = absurd (z (sym u))
refuse_over x y k (ram t a v zero) h q e u z (worded_ram i) (of_outside f) = absurd (true_false _ (word_inside a i) f)
refuse_over {j} {o} {done} {m} x y k (ram t a v zero) h q e u z w (RightAt.of_read g) =
    let s = cells-after h q in
    let f = read-fine k x t a v (g ∙ sym (s.held_is a)) in
    record { done = done; rest = []; one = ram t a v 0; stand = strip k x; joined = refl; reads = h; says = ram-refused j k x y t a v 0 m e (f ∙ u) z }

-- where every read is right, the cells suffice, and the last record is one too many, it is refused with its number
pub fit_over : {j m : ℕ} {o : Built} {done : List Record} (x z : Built) (k : Cells) (rs : List Record) → (m ≡ 0 → ⊥) →
    Reads j o done (strip k x) → length o.cells.addresses ≡ length o.cells.values → Rests j x rs z m → All Worded rs → Right 0 p o.cells done rs →
    k.count + cells_in 0 p o.cells done rs ≤ length o.cells.addresses →
    Refuses j o (done ++ rs) m
unfolding cells_in
fit_over x z k [] n h q S.none W.none G.none l = absurd (n refl)
fit_over {j} {m} {o} {done} x z k (r ∷ rs) n h q (S.more {c = y} e u t) (W.more w ws) (G.more g gs) l =
    let s = cells-after h q in
    let f = fine_of o.cells k done r s w g (omega arith) in
    let c = takes_one o.cells k done r s w in
    refuses_join (append_assoc done (r ∷ []) rs) (fit_over y z (wrote_all k (r ∷ [])) rs n (reads_snoc r h (rest_read j k x y r e u f)) q t ws gs (omega arith))
fit_over x z k (r ∷ []) n h q (S.last {c = y} e u i) (W.more w ws) (G.more g gs) l = refuse_over x y k r h q e u i w g

-- a record that takes a cell where there is none
refuse_write : {j : ℕ} {o : Built} {done : List Record} (x y : Built) (k : Cells) (r : Record) (rs : List Record) →
    Reads j o done (strip k x) → length o.cells.addresses ≡ length o.cells.values → rest_of j x r ≡ goes y → Worded r →
    k.count ≤ length o.cells.addresses → length o.cells.addresses < k.count + new_in 0 p o.cells done r →
    Refuses j o (done ++ r ∷ rs) 44
unfolding wrote_all new_in
refuse_write x y k (other n s) rs h q e w l m = absurd (omega arith)
refuse_write x y k (timed n t s) rs h q e w l m = absurd (omega arith)
refuse_write x y k (stack t i d v) rs h q e w l m = absurd (omega arith)
refuse_write x y k (ram t a v zero) rs h q e w l m = absurd (omega arith)
refuse_write {j} {o} {done} x y k (ram t a v (suc d)) rs h q e w l m =
    let s = cells-after h q in
    let n = takes_one o.cells k done (ram t a v (suc d)) s w in
    let f = write-full k x t a v d (write-few j x y t a v d e) (omega (arith, s.room)) in
    record { done = done; rest = rs; one = ram t a v (suc d); stand = strip k x; joined = refl; reads = h; says = ram-refused j k x y t a v (suc d) 44 e f (λ u. omega arith) }

-- where every read is right and the cells do not suffice, one of the records is refused with 44
pub over : {j n : ℕ} {o : Built} {done : List Record} (x z : Built) (k : Cells) (rs : List Record) →
    Reads j o done (strip k x) → length o.cells.addresses ≡ length o.cells.values → Rests j x rs z n → All Worded rs → Right 0 p o.cells done rs →
    k.count ≤ length o.cells.addresses → length o.cells.addresses < k.count + cells_in 0 p o.cells done rs →
    Refuses j o (done ++ rs) 44
unfolding cells_in
over x z k [] h q S.none W.none G.none l m = absurd (omega arith)
over x z k (r ∷ []) h q (S.last {c = y} e u i) (W.more w ws) gs l m = refuse_write x y k r [] h q e w l (omega arith)
over {j} {o = o} {done} x z k (r ∷ rs) h q (S.more {c = y} e u t) (W.more w ws) (G.more g gs) l m =
    go (ltb (length o.cells.addresses) (k.count + new_in 0 p o.cells done r)) refl
    (λ i f. over y z (wrote_all k (r ∷ [])) rs (reads_snoc r h (rest_read j k x y r e u f)) q t ws gs i)
  where
    s : SinceOpen o.cells done k
    s = cells-after h q

    n : (wrote_all k (r ∷ [])).count ≡ k.count + new_in 0 p o.cells done r
    n = takes_one o.cells k done r s w

    go : (u : Bool) → ltb (length o.cells.addresses) (k.count + new_in 0 p o.cells done r) ≡ u →
        ((wrote_all k (r ∷ [])).count ≤ length o.cells.addresses → Fine k r →
        length o.cells.addresses < (wrote_all k (r ∷ [])).count + cells_in 0 p o.cells (done ++ (r ∷ [])) rs → Refuses j o ((done ++ (r ∷ [])) ++ rs) 44) →
        Refuses j o (done ++ r ∷ rs) 44
    go true u i = refuse_write x y k r rs h q e w l (ltb-true _ _ u)
    go false u i =
        let v = ltb-false (length o.cells.addresses) (k.count + new_in 0 p o.cells done r) u in
        refuses_join (append_assoc done (r ∷ []) rs) (i (omega (arith, n)) (fine_of o.cells k done r s w g (omega arith)) (omega (arith, n)))

-- ---- over bytes

-- replay of a log from place i, by the records that stand from there on
pub walk_on : {s : Log} {j i to : ℕ} {b c : Built} {rs : List Record} → Walk s i to rs → Reads j b rs c → replay_from s.revision j b (drop i s.bytes) ≡ replay_from s.revision j c (drop to s.bytes)
walk_on Walk.none W.Reads.none = refl
walk_on {s} {j} {i} {to} {b} (Walk.more n e q l w) (W.Reads.more f h) =
    replay_turn s.revision j b (drop i s.bytes)
    ∙ ap (on_parsed b (λ r t. onward b (λ x. replay_from s.revision j x t) (read_of j b r))) e
    ∙ ap (onward b (λ x. replay_from s.revision j x (drop (i + n) s.bytes))) f
    ∙ walk_on w h

walk-bad : {s : Log} {j i to n : ℕ} {b c : Built} (r : Record) (done rest : List Record) → Walk s i to (done ++ r ∷ rest) → Reads j b done c → read_of j c r ≡ wrong n → replay_from s.revision j b (drop i s.bytes) ≡ bad n
walk-bad {s} {j} {i} {b = b} r [] rest (Walk.more m e q l w) W.Reads.none f =
    replay_turn s.revision j b (drop i s.bytes)
    ∙ ap (on_parsed b (λ r t. onward b (λ x. replay_from s.revision j x t) (read_of j b r))) e
    ∙ ap (onward b (λ x. replay_from s.revision j x (drop (i + m) s.bytes))) f
walk-bad {s} {j} {i} {b = b} r (x ∷ done) rest (Walk.more m e q l w) (W.Reads.more g h) f =
    replay_turn s.revision j b (drop i s.bytes)
    ∙ ap (on_parsed b (λ r t. onward b (λ x. replay_from s.revision j x t) (read_of j b r))) e
    ∙ ap (onward b (λ x. replay_from s.revision j x (drop (i + m) s.bytes))) g
    ∙ walk-bad {i = i + m} r done rest w h f

pub walk_refused : {s : Log} {j i to n : ℕ} {o : Built} {rs : List Record} → Walk s i to rs → Refuses j o rs n → replay_from s.revision j o (drop i s.bytes) ≡ bad n
walk_refused w h = walk-bad h.one h.done h.rest (rw h.joined at w) h.reads h.says

-- ---- where the scan ends

-- a clock that stops the scan stops replay
judged-late : (j t n : ℕ) (x : Built) → judged j t n x ≡ stops → j ≤ t
unfolding judged
judged-late j t n x e = go (ltb t j) (eqb n 0) refl e
  where
    go : (u q : Bool) → ltb t j ≡ u → cond u (cond q (goes x) (wrong n)) stops ≡ stops → j ≤ t
    go true true q h = let y : ◌≡◌ {A = ℕ} 0 1 = cc in absurd (omega arith)
    go true false q h = let y : ◌≡◌ {A = ℕ} 0 1 = cc in absurd (omega arith)
    go false u q h = ltb-false t j q

-- a fault that ends it
judged_faulty : (j t n m : ℕ) (x : Built) → judged j t n x ≡ wrong m → (t < j) × (n ≡ m) × (m ≡ 0 → ⊥)
unfolding judged
judged_faulty j t n m x e = go (ltb t j) (eqb n 0) refl refl e
  where
    go : (u q : Bool) → ltb t j ≡ u → eqb n 0 ≡ q → cond u (cond q (goes x) (wrong n)) stops ≡ wrong m → (t < j) × (n ≡ m) × (m ≡ 0 → ⊥)
    go true true y z h = let i : ◌≡◌ {A = ℕ} 0 1 = cc in absurd (omega arith)
    go true false y z h = let i : n ≡ m = cc in (ltb-true t j y, i, λ k. eqb-false n 0 z (i ∙ k))
    go false u y z h = let i : ◌≡◌ {A = ℕ} 0 1 = cc in absurd (omega arith)

rest-stops : (j : ℕ) (k : Cells) (b : Built) (r : Record) → rest_of j b r ≡ stops → read_of j (strip k b) r ≡ stops
unfolding rest_of read_of
rest-stops j k b (other n s) e = let z : ◌≡◌ {A = ℕ} 0 1 = cc in absurd (omega arith)
rest-stops j k b (timed n t s) e = judged-stops j t _ _ (judged-late j t _ _ e)
rest-stops j k b (stack t q d v) e = judged-stops j t _ _ (judged-late j t _ _ e)
rest-stops j k b (ram t a v d) e = judged-stops j t _ _ (judged-late j t _ _ e)

-- a fault that is found stays where more is looked for behind it
stays-behind : (a b c x n : ℕ) → first_of a (first_of b c) ≡ n → (n ≡ 0 → ⊥) → first_of a (first_of b (first_of c x)) ≡ n
unfolding first_of
stays-behind a b c x n e h = go (eqb a 0) (eqb b 0) (eqb c 0) refl refl refl e
  where
    go : (u q w : Bool) → eqb a 0 ≡ u → eqb b 0 ≡ q → eqb c 0 ≡ w → cond u (cond q c b) a ≡ n → cond u (cond q (cond w x c) b) a ≡ n
    go true true true y z i k = absurd (h (sym k ∙ eqb-true c 0 i))
    go true true false y z i k = k
    go true false w y z i k = k
    go false q w y z i k = k

rest-wrong : (j n : ℕ) (k : Cells) (b : Built) (r : Record) → rest_of j b r ≡ wrong n → read_of j (strip k b) r ≡ wrong n
unfolding rest_of read_of ram_fault write45
rest-wrong j n k b (other m s) e = let z : ◌≡◌ {A = ℕ} 0 1 = cc in absurd (omega arith)
rest-wrong j n k b (timed m t s) e =
    let f = judged_faulty j t _ n _ e in
    judged-wrong j t _ _ f.0 (λ i. f.2 (sym f.1 ∙ i)) ∙ ap wrong f.1
rest-wrong j n k b (stack t q d v) e =
    let f = judged_faulty j t _ n _ e in
    let z : first_of (fields40 d q v) (first_of (clock41 b.counts t) (stack_fault (strip k b) t q d v)) ≡ n = rw (same-stack k b t q d v) f.1 in
    judged-wrong j t _ _ f.0 (λ i. f.2 (sym z ∙ i)) ∙ ap wrong z
rest-wrong j n k b (ram t a v zero) e =
    let f = judged_faulty j t _ n _ e in
    let x = ram_fault (strip k b) t a v 0 in
    let y = ap (λ (u : ℕ). first_of (fields40 0 a v) (first_of (clock41 b.counts t) u)) (sym (first_zero 0 x refl)) in
    let z = y ∙ stays-behind (fields40 0 a v) (clock41 b.counts t) 0 x n f.1 f.2 in
    judged-wrong j t _ _ f.0 (λ i. f.2 (sym z ∙ i)) ∙ ap wrong z
rest-wrong j n k b (ram t a v (suc d)) e =
    let f = judged_faulty j t _ n _ e in
    let z = stays-behind (fields40 (suc d) a v) (clock41 b.counts t) (ram45 b.counts t) _ n f.1 f.2 in
    judged-wrong j t _ _ f.0 (λ i. f.2 (sym z ∙ i)) ∙ ap wrong z

-- replay from the scan's end on
wrong-not : (j n : ℕ) (b : Built) (r : Record) → rest_of j b r ≡ wrong n → n ≡ 0 → ⊥
unfolding rest_of
wrong-not j n b (other m s) e = let z : ◌≡◌ {A = ℕ} 0 1 = cc in absurd (omega arith)
wrong-not j n b (timed m t s) e = (judged_faulty j t _ n _ e).2
wrong-not j n b (stack t q d v) e = (judged_faulty j t _ n _ e).2
wrong-not j n b (ram t a v d) e = (judged_faulty j t _ n _ e).2

-- one turn at a place of the log
turn_at : (s : Log) (i j : ℕ) (b : Built) {q : Parsed} → parse_at s i ≡ q → replay_from s.revision j b (drop i s.bytes) ≡ on_parsed b (λ r u. onward b (λ x. replay_from s.revision j x u) (read_of j b r)) q
turn_at s i j b e = replay_turn s.revision j b (drop i s.bytes) ∙ ap (on_parsed b (λ r u. onward b (λ x. replay_from s.revision j x u) (read_of j b r))) e

pub ends_well : (s : Log) (i j n : ℕ) (k : Cells) (b : Built) → Ends j b (parse_at s i) 0 n → n ≡ 0 → replay_from s.revision j (strip k b) (drop i s.bytes) ≡ fine (strip k b)
ends_well s i j n k b (at_end e) z = turn_at s i j (strip k b) e
ends_well s i j n k b (at_break e) z = absurd (omega arith)
ends_well s i j n k b (at_stop {r = r} {u = u} e f) z = turn_at s i j (strip k b) e ∙ ap (onward (strip k b) (λ x. replay_from s.revision j x u)) (rest-stops j k b r f)
ends_well s i j n k b (at_fault {r = r} e f) z = absurd (wrong-not j n b r f z)
ends_well s i j n k b (at_over m) z = absurd (m refl)

pub ends-bad : (s : Log) (i j n : ℕ) (k : Cells) (b : Built) → Ends j b (parse_at s i) 0 n → (n ≡ 0 → ⊥) → replay_from s.revision j (strip k b) (drop i s.bytes) ≡ bad n
ends-bad s i j n k b (at_end e) z = absurd (z refl)
ends-bad s i j n k b (at_break e) z = turn_at s i j (strip k b) e
ends-bad s i j n k b (at_stop e f) z = absurd (z refl)
ends-bad s i j n k b (at_fault {r = r} {u = u} e f) z = turn_at s i j (strip k b) e ∙ ap (onward (strip k b) (λ x. replay_from s.revision j x u)) (rest-wrong j n k b r f)
ends-bad s i j n k b (at_over m) z = absurd (m refl)
