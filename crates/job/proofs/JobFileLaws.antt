-- Laws of a job file: its records one at a time, how many there can be, their numbers. Assumes nothing.
use mathlib.Core.Path.{◌≡◌, refl, sym, ap, ◌∙◌}
use mathlib.Core.Bool.{Bool, true, false}
use mathlib.Core.List.{List, [], ◌∷◌, ◌++◌, append_assoc, append-nil}
use Prim.Native.Nat.{ℕ, zero, suc, ◌+◌, ◌-◌, ◌*◌, ◌≤◌, ◌<◌}
use native.Mathlib.Omega.{arith}
use native.Mathlib.Nat.{add-zero}
use native.Mathlib.Numerals.{add-one}
use borrow.Author.Tests.{eqb-true, eqb-false, eq-eqb, ne_eqb}
use lib.ListN.{length, take, drop, length-drop, length-append, drop_of_length-le, get_or, set}
use lib.Seq.{drop-drop, take-length, length-take-le}
use lib.Dec.{eqb, ltb}
use Rattle.choices.specs.Choice.{cond, first_of, above_of, differ_of}
use Rattle.choices.proofs.Choice.{first_zero, first-nil, above-not, above-nil, differ_not, differ_nil}
use Rattle.machine_log.proofs.Logged.{logged-front}
use Rattle.machine.specs.Bytes.{number_of}
use Rattle.job.specs.Frame.{kind_in, size_by}
use Rattle.job.specs.Listing.{Put}
use Rattle.job.specs.JobFile.{length_in, piece_kind, piece_size, Piece, piece_in, pieces_in, pieces_of, count_of, numbers_in, column, fault_of, Job, good_job, broken_job, job_of, Wanted, Filled}
use Rattle.std.specs.Prelude.{None, Some, Ok, Err, Result, IsErr, MatchResult}
use borrow.Author.Rules.{rules}
use Rattle.job.specs.declared.job_file.JobFile.{JobFile}
use Rattle.job.specs.declared.job_file.BrokenFile.{BrokenFile}
use Rattle.std.specs.declared.option.Option.{Option}
use Rattle.std.specs.Option.{unwrap_or}
use Rattle.job.specs.declared.job_file.Piece.{Piece as FilePiece}
use Rattle.job.specs.JobFileView.{piece_number, IsWholePiece, IsPiece, HasColumn, Lent, Breaks}
use Rattle.job.proofs.FrameLaws.{size_whole}
use Rattle.job.proofs.ListingLaws.{put-none, put-at, put-more, put_as}

-- ---- lengths

pub length-unknown : (k : ℕ) → (k ≡ 11 → ⊥) → (k ≡ 12 → ⊥) → (k ≡ 13 → ⊥) → (k ≡ 14 → ⊥) → (k ≡ 15 → ⊥) → (k ≡ 16 → ⊥) → (k ≡ 17 → ⊥) → 0 ≡ length_in k
unfolding length_in
length-unknown k a b c d e f g = rw (ne_eqb k 11 a, ne_eqb k 12 b, ne_eqb k 13 c, ne_eqb k 14 d, ne_eqb k 15 e, ne_eqb k 16 f, ne_eqb k 17 g)

-- ---- a record at the start of bytes

above : (n : ℕ) → (n ≡ 0 → ⊥) → 0 < n
above n h = omega arith

pub piece-none : (b : List ℕ) → size_by length_in b ≡ 0 → (0 ≡ piece_kind b) × (b ≡ take (piece_size b) b) × (length b ≡ piece_size b)
unfolding piece_kind piece_size
piece-none b z = let t = eq-eqb (size_by length_in b) 0 z in (rw t, rw t (sym (take-length b)), rw t)

pub piece_some : (b : List ℕ) → 0 < size_by length_in b → (kind_in b ≡ piece_kind b) × (size_by length_in b ≡ piece_size b)
unfolding piece_kind piece_size
piece_some b h = let t = ne_eqb (size_by length_in b) 0 (λ q. omega arith) in (rw t, rw t)

pub size_above : (b : List ℕ) → 0 < length b → 0 < piece_size b
unfolding piece_size
size_above b h = go (eqb (size_by length_in b) 0) refl
  where
    go : (t : Bool) → eqb (size_by length_in b) 0 ≡ t → 0 < cond t (length b) (size_by length_in b)
    go true e = h
    go false e = above _ (eqb-false (size_by length_in b) 0 e)

pub size_fits : (b : List ℕ) → piece_size b ≤ length b
unfolding piece_size
size_fits b = go (eqb (size_by length_in b) 0) refl
  where
    go : (t : Bool) → eqb (size_by length_in b) 0 ≡ t → cond t (length b) (size_by length_in b) ≤ length b
    go true e = omega arith
    go false e = let w = size_whole length_in b (above _ (eqb-false (size_by length_in b) 0 e)) in omega (arith, w.size, w.fits)

-- one of a known kind is whole
kind_size : (b : List ℕ) (k : ℕ) → piece_kind b ≡ k → (k ≡ 0 → ⊥) → piece_size b ≡ length_in k + 2
unfolding piece_kind piece_size
kind_size b k e z = go (eqb (size_by length_in b) 0) refl e
  where
    go : (t : Bool) → eqb (size_by length_in b) 0 ≡ t → cond t 0 (kind_in b) ≡ k → cond t (length b) (size_by length_in b) ≡ length_in k + 2
    go true f g = absurd (z (sym g))
    go false f g = let w = size_whole length_in b (above _ (eqb-false (size_by length_in b) 0 f)) in rw (← g) w.size

-- what the code finds at the start of b
pub piece_is : (b : List ℕ) (o : Option FilePiece) (d r : FilePiece) → IsWholePiece b o → r ≡ unwrap_or o d → piece_number d.kind ≡ 0 → d.bytes.now ≡ b → IsPiece b r
piece_is b None d r h e f g = let p = piece-none b h in rw e (f ∙ p.0, g ∙ p.1, ap length g ∙ p.2)
piece_is b (Some q) d r h e f g = let p = piece_some b h.0 in rw e (h.1 ∙ p.0, h.2 ∙ ap (λ (n : ℕ). take n b) p.1, h.3 ∙ p.1)

-- ---- all records, one at a time

pieces_enough : (f g : ℕ) (b : List ℕ) → length b ≤ f → length b ≤ g → pieces_in f b ≡ pieces_in g b
unfolding pieces_in
pieces_enough zero zero b h k = refl
pieces_enough zero (suc g) [] h k = refl
pieces_enough zero (suc g) (x ∷ b) h k = absurd (omega arith)
pieces_enough (suc f) zero [] h k = refl
pieces_enough (suc f) zero (x ∷ b) h k = absurd (omega arith)
pieces_enough (suc f) (suc g) [] h k = refl
pieces_enough (suc f) (suc g) (x ∷ b) h k =
    let n = piece_size (x ∷ b) in
    let p : 0 < n = size_above (x ∷ b) (omega arith) in
    let l = length-drop n (x ∷ b) in
    ap (λ (qs : List Piece). piece_in (x ∷ b) ∷ qs) (pieces_enough f g (drop n (x ∷ b)) (omega arith) (omega arith))

pub pieces_turn : (b : List ℕ) → 0 < length b → pieces_of b ≡ piece_in b ∷ pieces_of (drop (piece_size b) b)
unfolding pieces_of pieces_in
pieces_turn [] h = absurd (omega arith)
pieces_turn (x ∷ b) h =
    let n = piece_size (x ∷ b) in
    let p : 0 < n = size_above (x ∷ b) (omega arith) in
    let l = length-drop n (x ∷ b) in
    ap (λ (qs : List Piece). piece_in (x ∷ b) ∷ qs) (pieces_enough (length b) (length (drop n (x ∷ b))) (drop n (x ∷ b)) (omega arith) (omega arith))

-- ---- counting

-- the record at the start of b, of the number q, is counted, and c is the rest
pub count-step : (b c : List ℕ) (q k n all : ℕ) (t : Bool) → 0 < length b → q ≡ piece_kind b → eqb q k ≡ t → c ≡ drop (piece_size b) b → n + count_of k (pieces_of b) ≡ all → n + cond t 1 0 + count_of k (pieces_of c) ≡ all
unfolding count_of piece_in
count-step b c q k n all t h e f g i =
    let r : count_of k (pieces_of b) ≡ cond t 1 0 + count_of k (pieces_of c) = rw (pieces_turn b h, g, ← e, f) in
    omega arith

pub shorter : (b c : List ℕ) → 0 < length b → c ≡ drop (piece_size b) b → length c < length b
shorter b c h e = omega (arith, ap length e, length-drop (piece_size b) b, size_above b h)

pub count-all : (b : List ℕ) (k n all : ℕ) → b ≡ [] → n + count_of k (pieces_of b) ≡ all → n ≡ all
unfolding count_of pieces_of pieces_in
count-all b k n all e i = let z : count_of k (pieces_of b) ≡ 0 = rw e in omega arith

-- ---- numbers

pub numbers_length : (n m : ℕ) (b : List ℕ) → length (numbers_in n m b) ≡ m
unfolding numbers_in
numbers_length n zero b = refl
numbers_length n (suc m) b = length-append (numbers_in n m b) _ ∙ rw (numbers_length n m b) (add-one m)

pub put_start : (b : List ℕ) (n : ℕ) {o : List ℕ} {to : ℕ} → Put o o to (numbers_in n 0 b) 0 (to + 0)
unfolding numbers_in
put_start b n {o} {to} = rw (add-zero to) (put-none o to)

-- of a record of another kind none is put
pub put_no : {o : List ℕ} {to : ℕ} (x : List ℕ) (n m : ℕ) (t : Bool) → t ≡ false → Put o o to (numbers_in n (cond t m 0) x) m to
unfolding numbers_in
put_no {o} {to} x n m t e = rw e (put_as (put-none o to) refl (omega arith))

-- one more
pub numbers_more : (n i : ℕ) (b : List ℕ) (v : ℕ) → v ≡ number_of (take n (drop (n * i) b)) → numbers_in n i b ++ (v ∷ []) ≡ numbers_in n (i + 1) b
unfolding numbers_in
numbers_more n i b v e = rw (add-one i, e)

pub put-next : {o o1 : List ℕ} {to : ℕ} (n i v : ℕ) (x : List ℕ) → to ≤ length o → to + i < length o1 → Put o o1 to (numbers_in n i x) i (to + i) → v ≡ number_of (take (n * i + n - n * i) (drop (n * i) x)) →
    Put o (set o1 (to + i) v) to (numbers_in n (i + 1) x) (i + 1) (to + (i + 1))
put-next {o} {o1} {to} n i v x h l p e =
    let f : n * i + n - n * i ≡ n = omega arith in
    put-more h p (put-at o1 (to + i) v (to + (i + 1)) l (omega arith)) (numbers_more n i x v (rw f at e)) refl

-- all of them, where the fields of a record of the column's kind begin
pub put_all_numbers : {o o1 : List ℕ} {to : ℕ} (n i m j : ℕ) (b : List ℕ) (t : Bool) → t ≡ true → j ≡ m → Put o o1 to (numbers_in n j (take (length b - (4 + i)) (drop (4 + i) b))) j (to + j) →
    Put o o1 to (numbers_in n (cond t m 0) (drop i (drop 4 b))) m (to + m)
put_all_numbers {o} {o1} {to} n i m j b t e f p =
    let g : take (length b - (4 + i)) (drop (4 + i) b) ≡ drop i (drop 4 b) = rw (← length-drop (4 + i) b, take-length (drop (4 + i) b)) (sym (drop-drop i 4 b)) in
    rw e (rw (g, f) at p)

-- ---- columns

known : (k : ℕ) → 2 ≤ length_in k → k ≡ 0 → ⊥
unfolding length_in
known k h e = let l : 2 ≤ length_in 0 = rw e at h in omega arith

cond-few : (t : Bool) (a b n : ℕ) → a ≤ n → b ≤ n → cond t a b ≤ n
cond-few true a b n h k = h
cond-few false a b n h k = k

pub length-few : (k : ℕ) → length_in k ≤ 42
unfolding length_in
length-few k =
    cond-few (eqb k 11) 42 _ 42 (omega arith)
    (cond-few (eqb k 12) 12 _ 42 (omega arith)
    (cond-few (eqb k 13) 10 _ 42 (omega arith)
    (cond-few (eqb k 14) 10 _ 42 (omega arith)
    (cond-few (eqb k 15) 42 _ 42 (omega arith) (cond-few (eqb k 16) 18 _ 42 (omega arith) (cond-few (eqb k 17) 6 0 42 (omega arith) (omega arith)))))))

-- the column's numbers of the records in front of the rest c of the file b are written
pub record Columns (b c o o2 : List ℕ) (k i n m to : ℕ) : Type 0 where
  pub words : List ℕ
  pub put : Put o o2 0 words to to
  pub rest : words ++ column k i n m (pieces_of c) ≡ column k i n m (pieces_of b)

pub columns-none : (b o : List ℕ) (k i n m : ℕ) → Columns b b o o k i n m 0
columns-none b o k i n m = record { words = []; put = put-none o 0; rest = refl }

pub columns-all : {b c o o2 : List ℕ} {k i n m to : ℕ} → c ≡ [] → Columns b c o o2 k i n m to → Filled o o2 (column k i n m (pieces_of b)) to
unfolding column pieces_of pieces_in
columns-all {b} {c} {o} {o2} {k} {i} {n} {m} {to} h w =
    let e : w.words ≡ column k i n m (pieces_of b) = sym (append-nil w.words) ∙ ap (λ (x : List ℕ). w.words ++ column k i n m (pieces_of x)) (sym h) ∙ w.rest in
    record { is = rw e at w.put.is; count = rw (← e) (omega (arith, w.put.end)) }

-- the numbers of the record at the start of c
abbrev pub own_numbers : List ℕ → ℕ → ℕ → ℕ → ℕ → List ℕ
own_numbers c k i n m = numbers_in n (cond (eqb (piece_kind c) k) m 0) (drop i (drop 4 (take (piece_size c) c)))

module _ {b o : List ℕ} (c : List ℕ) {k i n m : ℕ} (wanted : Wanted b o k i n m) (here : 0 < length c) where
  column_turn : column k i n m (pieces_of c) ≡ own_numbers c k i n m ++ column k i n m (pieces_of (drop (piece_size c) c))
  unfolding column piece_in
  column_turn = rw (pieces_turn c here)

  -- its fields are as long as the column asks, and its numbers have room
  pub has-column : {o1 : List ℕ} {to : ℕ} → length o1 ≡ length o → Columns b c o o1 k i n m to → HasColumn (take (piece_size c) c) (piece_kind c) o1 k i n m to
  has-column {o1} {to} l w =
      record {
        narrow = wanted.narrow;
        small = omega (arith, wanted.within, length-few k);
        inside = λ e. let z = kind_size c k e (known k (omega (arith, wanted.within))) in omega (arith, wanted.within, length-take-le (piece_size c) c (size_fits c));
        room = λ e.
            let own = own_numbers c k i n m in
            let f = ap length w.rest in
            let g = length-append w.words (column k i n m (pieces_of c)) in
            let h = ap length column_turn in
            let j = length-append own (column k i n m (pieces_of (drop (piece_size c) c))) in
            let q : length own ≡ m = rw (eq-eqb (piece_kind c) k e) (numbers_length n m _) in
            omega (arith, w.put.end, wanted.room);
      }

  pub columns-more : {o1 o2 : List ℕ} {to next : ℕ} → Columns b c o o1 k i n m to → Put o1 o2 to (own_numbers c k i n m) m next → Columns b (drop (piece_size c) c) o o2 k i n m next
  columns-more {o1} {o2} {to} {next} w p =
      let own = own_numbers c k i n m in
      let x = put-more (omega arith) w.put p refl refl in
      record {
        words = w.words ++ own;
        put = put_as x refl (omega (arith, x.end));
        rest = append_assoc w.words own _ ∙ ap (λ (u : List ℕ). w.words ++ u) (sym column_turn) ∙ w.rest;
      }

-- ---- a file without a fault

-- how many records of a kind b can have
count_fits : (f : ℕ) (b : List ℕ) (k : ℕ) → (k ≡ 0 → ⊥) → count_of k (pieces_in f b) * (length_in k + 2) ≤ length b
unfolding pieces_in count_of piece_in
count_fits zero b k z = omega arith
count_fits (suc f) [] k z = omega arith
count_fits (suc f) (x ∷ b) k z = go (eqb (piece_kind s) k) refl (count_fits f (drop (piece_size s) s) k z)
  where
    s : List ℕ
    s = x ∷ b

    go : (t : Bool) → eqb (piece_kind s) k ≡ t → count_of k (pieces_in f (drop (piece_size s) s)) * (length_in k + 2) ≤ length (drop (piece_size s) s) →
        (cond t 1 0 + count_of k (pieces_in f (drop (piece_size s) s))) * (length_in k + 2) ≤ length s
    go true e h =
        let g = kind_size s k (eqb-true (piece_kind s) k e) z in
        omega (arith, size_fits s, length-drop (piece_size s) s)
    go false e h = omega (arith, length-drop (piece_size s) s)

pub count_room : (b : List ℕ) (k : ℕ) → (k ≡ 0 → ⊥) → count_of k (pieces_of b) * (length_in k + 2) ≤ length b
unfolding pieces_of
count_room b k z = count_fits (length b) b k z

pub column-length : (k i n m : ℕ) (qs : List Piece) → length (column k i n m qs) ≡ m * count_of k qs
unfolding column count_of
column-length k i n m [] = omega arith
column-length k i n m (q ∷ qs) = length-append (numbers_in n (cond (eqb q.kind k) m 0) (drop i q.fields)) _ ∙ go (eqb q.kind k) (column-length k i n m qs)
  where
    go : (t : Bool) → length (column k i n m qs) ≡ m * count_of k qs → length (numbers_in n (cond t m 0) (drop i q.fields)) + length (column k i n m qs) ≡ m * (cond t 1 0 + count_of k qs)
    go true h = rw (numbers_length n m (drop i q.fields)) (omega arith)
    go false h = rw (numbers_length n 0 (drop i q.fields)) (omega arith)

-- what document 01 asks of a file
pub record Sound (b : List ℕ) : Type 0 where
  pub short : length b ≤ 65536
  pub start : piece_kind b ≡ 11
  pub digest : count_of 11 (pieces_of b) ≡ 1
  pub slots : count_of 12 (pieces_of b) ≤ 1024
  pub budgets : count_of 17 (pieces_of b) ≤ 1
  pub whole : count_of 0 (pieces_of b) ≡ 0

pub fault_none : (b : List ℕ) → fault_of b ≡ 0 → Sound b
unfolding fault_of
fault_none b h =
    let a = first-nil _ _ h in
    let c = first-nil _ _ a.1 in
    let d = first-nil _ _ c.1 in
    let e = first-nil _ _ d.1 in
    let f = first-nil _ _ e.1 in
    record {
      short = above-nil _ 65536 50 (omega arith) a.0;
      start = differ_nil _ 11 50 (omega arith) c.0;
      digest = differ_nil _ 1 50 (omega arith) d.0;
      slots = above-nil _ 1024 50 (omega arith) e.0;
      budgets = above-nil _ 1 50 (omega arith) f.0;
      whole = differ_nil _ 0 50 (omega arith) f.1;
    }

pub fault_sound : (b : List ℕ) → Sound b → fault_of b ≡ 0
unfolding fault_of
fault_sound b s =
    first_zero _ _ (above-not _ 65536 50 s.short)
    ∙ first_zero _ _ (differ_not _ 11 50 s.start)
    ∙ first_zero _ _ (differ_not _ 1 50 s.digest)
    ∙ first_zero _ _ (above-not _ 1024 50 s.slots)
    ∙ first_zero _ _ (above-not _ 1 50 s.budgets)
    ∙ differ_not _ 0 50 s.whole

data Fifty : ℕ → Type 0 where
  no : Fifty 0
  yes : Fifty 50

cond-fifty : (t : Bool) (a b : ℕ) → Fifty a → Fifty b → Fifty (cond t a b)
cond-fifty true a b h k = h
cond-fifty false a b h k = k

first-fifty : (a b : ℕ) → Fifty a → Fifty b → Fifty (first_of a b)
unfolding first_of
first-fifty a b h k = cond-fifty (eqb a 0) b a k h

above-fifty : (a b : ℕ) → Fifty (above_of a b 50)
unfolding above_of
above-fifty a b = cond-fifty (ltb b a) 50 0 yes no

differ_fifty : (a b : ℕ) → Fifty (differ_of a b 50)
unfolding differ_of
differ_fifty a b = cond-fifty (eqb a b) 0 50 no yes

fault_fifty : (b : List ℕ) → Fifty (fault_of b)
unfolding fault_of
fault_fifty b =
    first-fifty _ _ (above-fifty _ _)
    (first-fifty _ _ (differ_fifty _ _)
    (first-fifty _ _ (differ_fifty _ _)
    (first-fifty _ _ (above-fifty _ _)
    (first-fifty _ _ (above-fifty _ _) (differ_fifty _ _)))))

-- a file that is not sound gets 50
pub fault_other : (b : List ℕ) → (Sound b → ⊥) → fault_of b ≡ 50
fault_other b n = go (fault_of b) (fault_fifty b) refl
  where
    go : (f : ℕ) → Fifty f → fault_of b ≡ f → f ≡ 50
    go f no e = absurd (n (fault_none b e))
    go f yes e = refl

pub wanted : (b o : List ℕ) (k i n m : ℕ) → fault_of b ≡ 0 → n ≤ 8 → i + n * m + 2 ≤ length_in k → m * count_of k (pieces_of b) ≤ length o → Wanted b o k i n m
wanted b o k i n m h l w r = record { short = (fault_none b h).short; narrow = l; within = w; room = rw (column-length k i n m (pieces_of b)) r }

-- all of a slice is filled
pub filled-all : (b b2 ws : List ℕ) (n : ℕ) → Filled b b2 ws n → length b ≤ length ws → b2 ≡ ws
filled-all b b2 ws n f h = f.is ∙ logged-front b ws ∙ rw (drop_of_length-le b {i = length ws} h) (append-nil ws)

-- one word, or what stood there
pub filled_one : (x : ℕ) (b2 ws : List ℕ) (n : ℕ) → Filled (x ∷ []) b2 ws n → length ws ≤ 1 → get_or b2 0 0 ≡ get_or ws 0 x
filled_one x b2 [] n f h = rw (f.is ∙ logged-front (x ∷ []) [])
filled_one x b2 (y ∷ ws) n f h = rw (f.is ∙ logged-front (x ∷ []) (y ∷ ws))

-- the columns that the reader wants
module _ (b o : List ℕ) (h : fault_of b ≡ 0) where
  pub wanted_digest : length o ≡ 5 → Wanted b o 11 0 8 5
  unfolding length_in
  wanted_digest l = wanted b o 11 0 8 5 h (omega arith) (omega arith) (omega (arith, (fault_none b h).digest))

  pub wanted-opcodes : 1024 ≤ length o → Wanted b o 12 0 2 1
  unfolding length_in
  wanted-opcodes l = wanted b o 12 0 2 1 h (omega arith) (omega arith) (omega (arith, (fault_none b h).slots))

  pub wanted_arguments : 1024 ≤ length o → Wanted b o 12 2 8 1
  unfolding length_in
  wanted_arguments l = wanted b o 12 2 8 1 h (omega arith) (omega arith) (omega (arith, (fault_none b h).slots))

  pub wanted_public : 5461 ≤ length o → Wanted b o 13 0 8 1
  unfolding length_in
  wanted_public l = wanted b o 13 0 8 1 h (omega arith) (omega arith) (omega (arith, (fault_none b h).short, count_room b 13 (λ z. omega arith)))

  pub wanted_secret : 5461 ≤ length o → Wanted b o 14 0 8 1
  unfolding length_in
  wanted_secret l = wanted b o 14 0 8 1 h (omega arith) (omega arith) (omega (arith, (fault_none b h).short, count_room b 14 (λ z. omega arith)))

  pub wanted_digests : 7445 ≤ length o → Wanted b o 15 0 8 5
  unfolding length_in
  wanted_digests l = wanted b o 15 0 8 5 h (omega arith) (omega arith) (omega (arith, (fault_none b h).short, count_room b 15 (λ z. omega arith)))

  pub wanted_addresses : 3276 ≤ length o → Wanted b o 16 0 8 1
  unfolding length_in
  wanted_addresses l = wanted b o 16 0 8 1 h (omega arith) (omega arith) (omega (arith, (fault_none b h).short, count_room b 16 (λ z. omega arith)))

  pub wanted_values : 3276 ≤ length o → Wanted b o 16 8 8 1
  unfolding length_in
  wanted_values l = wanted b o 16 8 8 1 h (omega arith) (omega arith) (omega (arith, (fault_none b h).short, count_room b 16 (λ z. omega arith)))

  pub wanted_budget : length o ≡ 1 → Wanted b o 17 0 4 1
  unfolding length_in
  wanted_budget l = wanted b o 17 0 4 1 h (omega arith) (omega arith) (omega (arith, (fault_none b h).budgets))

pub filled-count : {b b2 ws : List ℕ} {n m : ℕ} → Filled b b2 ws n → m ≡ length ws → Filled b b2 ws m
filled-count f e = record { is = f.is; count = e }

-- two columns with one number of each record are as long
pub column-same : (k i n j l : ℕ) (qs : List Piece) → length (column k i n 1 qs) ≡ length (column k j l 1 qs)
column-same k i n j l qs = column-length k i n 1 qs ∙ sym (column-length k j l 1 qs)

pub digest_long : (b : List ℕ) → fault_of b ≡ 0 → 5 ≤ length (column 11 0 8 5 (pieces_of b))
digest_long b h = rw (column-length 11 0 8 5 (pieces_of b)) (omega (arith, (fault_none b h).digest))

pub budget_few : (b : List ℕ) → fault_of b ≡ 0 → length (column 17 0 4 1 (pieces_of b)) ≤ 1
budget_few b h = rw (column-length 17 0 4 1 (pieces_of b)) (omega (arith, (fault_none b h).budgets))

-- ---- the job

pub job_good : (b : List ℕ) → fault_of b ≡ 0 → job_of b ≡ good_job (pieces_of b)
unfolding job_of
job_good b h = rw (eq-eqb (fault_of b) 0 h)

pub job-broken : (b : List ℕ) (n : ℕ) → n ≡ fault_of b → (n ≡ 0 → ⊥) → job_of b ≡ broken_job n
unfolding job_of
job-broken b n e z = rw (← e, ne_eqb n 0 z)

-- a broken file leaves the slices as they were
pub breaks : (b : List ℕ) (l : Lent) (P : JobFile → Type 0) → fault_of b ≡ 50 → (r : Result JobFile BrokenFile) → IsErr r → MatchResult r P (λ _. Breaks (job_of b) l l)
breaks b l P e (Ok x) h = absurd (search rules)
breaks b l P e (Err x) h = record { number = ap (λ (j : Job). j.number) (job-broken b 50 (sym e) (λ z. omega arith)); same = refl }
