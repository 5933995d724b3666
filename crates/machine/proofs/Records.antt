-- A record's bytes are read back as the record; how long they are; a step's records one at a time. Assumes nothing.
use mathlib.Core.Path.{◌≡◌, refl, sym, ap, ◌∙◌}
use mathlib.Core.Bool.{Bool, true, false}
use mathlib.Core.List.{List, [], ◌∷◌, ◌++◌, append_assoc, append-nil}
use Prim.Native.Nat.{ℕ, ◌+◌, ◌-◌, ◌*◌, ◌≤◌, ◌<◌}
use native.Mathlib.Omega.{arith}
use borrow.Author.Tests.{lt-ltb, le-ltb, eq-eqb, ne_eqb}
use lib.ListN.{length, take, drop, length-append, length-drop}
use lib.Seq.{take_at, drop_at}
use lib.Dec.{eqb, ltb}
use Rattle.choices.specs.Choice.{cond}
use Rattle.machine.specs.Bytes.{bytes_of, number_of}
use Rattle.machine.specs.Records.{Record, other, timed, stack, ram, length_of, record_bytes, log_bytes, words_bytes, growing, shrinking, stack_records, record_of, Parsed, ended, broken, found, framed, parse}
use Rattle.machine.proofs.Bytes.{number_back, bytes-length}

-- what its bytes can hold, in a log of revision v
pub data Sized (v : ℕ) : Record → Type 0 where
  sized_other : {k : ℕ} {b : List ℕ} → 1 ≤ k → k ≤ 3 → length_of v k ≡ length b + 2 → Sized v (other k b)
  sized_timed : {k t : ℕ} {b : List ℕ} → 6 ≤ k → k ≤ 7 → t < 4294967296 → length_of v k ≡ length b + 6 → Sized v (timed k t b)
  sized_stack : {t q d x : ℕ} → t < 4294967296 → q < 18446744073709551616 → x < 18446744073709551616 → Sized v (stack t q d x)
  sized_ram : {t a x d : ℕ} → t < 4294967296 → a < 18446744073709551616 → x < 18446744073709551616 → Sized v (ram t a x d)

-- ---- lengths

pub words-bytes-length : (ws : List ℕ) → length (words_bytes ws) ≡ 8 * length ws
unfolding words_bytes
words-bytes-length [] = refl
words-bytes-length (w ∷ ws) = rw (length-append (bytes_of 8 w) (words_bytes ws), bytes-length 8 w) (omega (arith, words-bytes-length ws))

pub other_length : (v k : ℕ) (b : List ℕ) → length_of v k ≡ length b + 2 → length (record_bytes v (other k b)) ≡ length_of v k + 2
unfolding record_bytes bytes_of
other_length v k b e = omega arith

pub timed-length : (v k t : ℕ) (b : List ℕ) → length_of v k ≡ length b + 6 → length (record_bytes v (timed k t b)) ≡ length_of v k + 2
unfolding record_bytes bytes_of
timed-length v k t b e = omega arith

pub stack-length : (v t q d x : ℕ) → length (record_bytes v (stack t q d x)) ≡ 25
unfolding record_bytes bytes_of
stack-length v t q d x = refl

pub ram-length : (v t a x d : ℕ) → length (record_bytes v (ram t a x d)) ≡ 25
unfolding record_bytes bytes_of
ram-length v t a x d = refl

some_bytes : (v : ℕ) (r : Record) → 1 ≤ length (record_bytes v r)
unfolding record_bytes bytes_of
some_bytes v (other k b) = omega arith
some_bytes v (timed k t b) = omega arith
some_bytes v (stack t q d x) = omega arith
some_bytes v (ram t a x d) = omega arith

-- no more records than bytes
pub many_bytes : (v : ℕ) (rs : List Record) → length rs ≤ length (log_bytes v rs)
unfolding log_bytes
many_bytes v [] = omega arith
many_bytes v (r ∷ rs) = rw (length-append (record_bytes v r) (log_bytes v rs)) (omega (arith, some_bytes v r, many_bytes v rs))

-- ---- joined logs

pub log-append : (v : ℕ) (rs ss : List Record) → log_bytes v (rs ++ ss) ≡ log_bytes v rs ++ log_bytes v ss
unfolding log_bytes
log-append v [] ss = refl
log-append v (r ∷ rs) ss = rw (log-append v rs ss) (sym (append_assoc (record_bytes v r) (log_bytes v rs) (log_bytes v ss)))

-- a step that grows only writes, one that shrinks only reads
pub stack-grows : (t : ℕ) (s s2 : List ℕ) (d d2 : ℕ) → d ≤ d2 → stack_records t s s2 d d2 ≡ growing t s2 d (d2 - d)
unfolding stack_records shrinking
stack-grows t s s2 d d2 h = let z : d - d2 ≡ 0 = omega arith in rw z (append-nil _)

pub stack-shrinks : (t : ℕ) (s s2 : List ℕ) (d d2 : ℕ) → d2 ≤ d → stack_records t s s2 d d2 ≡ shrinking t s d (d - d2)
unfolding stack_records growing
stack-shrinks t s s2 d d2 h = let z : d2 - d ≡ 0 = omega arith in rw z

-- ---- reading back

cond_small : (t : Bool) (a b n : ℕ) → a < n → b < n → cond t a b < n
cond_small true a b n h k = h
cond_small false a b n h k = k

pub length-small : (v k : ℕ) → length_of v k < 65536
unfolding length_of
length-small v k =
    cond_small (eqb k 1) 2 _ 65536 (omega arith)
    (cond_small (eqb k 4) 23 _ 65536 (omega arith)
    (cond_small (eqb k 5) 23 _ 65536 (omega arith)
    (cond_small (eqb v 2) _ _ 65536
    (cond_small (eqb k 6) 776 _ 65536 (omega arith) (cond_small (eqb k 7) 24 0 65536 (omega arith) (omega arith)))
    (cond_small (eqb k 2) 772 _ 65536 (omega arith) (cond_small (eqb k 3) 20 0 65536 (omega arith) (omega arith))))))

-- a record of length field n and kind k, whole
frame : (v : ℕ) (b : List ℕ) (n k : ℕ) → number_of (take 2 b) ≡ n → number_of (take 2 (drop 2 b)) ≡ k → length_of v k ≡ n → 2 ≤ n → n + 2 ≤ length b →
    parse v b ≡ found (record_of k (take (n + 2) b)) (drop (n + 2) b)
unfolding parse framed
frame v [] n k e f g h l = absurd (omega arith)
frame v (x ∷ b) n k e f g h l =
    let m : 4 ≤ length (x ∷ b) = omega arith in
    let q : length_of v k ≡ 0 → ⊥ = λ z. omega arith in
    rw (le-ltb (length (x ∷ b)) 4 m, e, f, ne_eqb (length_of v k) 0 q, eq-eqb n (length_of v k) (sym g), le-ltb (length (x ∷ b)) (n + 2) l)

-- a record r whose bytes begin with the length field and the kind k
framed_back : (v k : ℕ) (r : Record) (rest : List ℕ) → k < 65536 → 2 ≤ length_of v k → length (record_bytes v r) ≡ length_of v k + 2 →
    number_of (take 2 (record_bytes v r ++ rest)) ≡ length_of v k → number_of (take 2 (drop 2 (record_bytes v r ++ rest))) ≡ k →
    parse v (record_bytes v r ++ rest) ≡ found (record_of k (record_bytes v r)) rest
framed_back v k r rest small two n e f =
    let l : length_of v k + 2 ≤ length (record_bytes v r ++ rest) = rw (length-append (record_bytes v r) rest) (omega arith) in
    frame v (record_bytes v r ++ rest) (length_of v k) k e f refl two l
    ∙ rw (take_at (record_bytes v r) rest (length_of v k + 2) n, drop_at (record_bytes v r) rest (length_of v k + 2) n)

other_back : (v k : ℕ) (b : List ℕ) → k ≤ 3 → record_of k (record_bytes v (other k b)) ≡ other k b
unfolding record_bytes bytes_of record_of
other_back v k b h =
    let x : k ≡ 4 → ⊥ = λ z. omega arith in
    let y : k ≡ 5 → ⊥ = λ z. omega arith in
    rw (ne_eqb k 4 x, ne_eqb k 5 y, le-ltb 5 k (omega arith))

timed_back : (v k t : ℕ) (b : List ℕ) → 6 ≤ k → t < 4294967296 → record_of k (record_bytes v (timed k t b)) ≡ timed k t b
unfolding record_bytes bytes_of record_of
timed_back v k t b h l =
    let x : k ≡ 4 → ⊥ = λ z. omega arith in
    let y : k ≡ 5 → ⊥ = λ z. omega arith in
    rw (ne_eqb k 4 x, ne_eqb k 5 y, lt-ltb 5 k (omega arith)) (ap (λ (u : ℕ). timed k u b) (number_back 4 t l))

parse-other : (v k : ℕ) (b rest : List ℕ) → 1 ≤ k → k ≤ 3 → length_of v k ≡ length b + 2 → parse v (record_bytes v (other k b) ++ rest) ≡ found (other k b) rest
unfolding record_bytes bytes_of
parse-other v k b rest h i e =
    let small : k < 65536 = omega arith in
    framed_back v k (other k b) rest small (omega arith) (other_length v k b e) (number_back 2 (length_of v k) (length-small v k)) (number_back 2 k small)
    ∙ ap (λ (r : Record). found r rest) (other_back v k b i)

parse-timed : (v k t : ℕ) (b rest : List ℕ) → 6 ≤ k → k ≤ 7 → t < 4294967296 → length_of v k ≡ length b + 6 → parse v (record_bytes v (timed k t b) ++ rest) ≡ found (timed k t b) rest
unfolding record_bytes bytes_of
parse-timed v k t b rest h i l e =
    let small : k < 65536 = omega arith in
    framed_back v k (timed k t b) rest small (omega arith) (timed-length v k t b e) (number_back 2 (length_of v k) (length-small v k)) (number_back 2 k small)
    ∙ ap (λ (r : Record). found r rest) (timed_back v k t b h l)

pub parse-record : (v : ℕ) (r : Record) (rest : List ℕ) → Sized v r → parse v (record_bytes v r ++ rest) ≡ found r rest
unfolding record_bytes bytes_of number_of record_of length_of
parse-record v r rest (sized_other {k = k} {b = b} h i e) = parse-other v k b rest h i e
parse-record v r rest (sized_timed {k = k} {t = t} {b = b} h i l e) = parse-timed v k t b rest h i l e
parse-record v r rest (sized_stack {t = t} {q = q} {d = d} {x = x} h k l) =
    frame v (record_bytes v (stack t q d x) ++ rest) 23 4 refl refl refl (omega arith) (omega arith)
    ∙ (λ i. found (stack (number_back 4 t h i) (number_back 8 q k i) d (number_back 8 x l i)) rest)
parse-record v r rest (sized_ram {t = t} {a = a} {x = x} {d = d} h k l) =
    frame v (record_bytes v (ram t a x d) ++ rest) 23 5 refl refl refl (omega arith) (omega arith)
    ∙ (λ i. found (ram (number_back 4 t h i) (number_back 8 a k i) (number_back 8 x l i) d) rest)

-- what is read leaves less
pub data Shorter (n : ℕ) : Parsed → Type 0 where
  at_end : Shorter n ended
  at_break : Shorter n broken
  at_record : {r : Record} {t : List ℕ} → length t < n → Shorter n (found r t)

shorter-cond : (n : ℕ) (t : Bool) (a b : Parsed) → Shorter n a → Shorter n b → Shorter n (cond t a b)
shorter-cond n true a b h k = h
shorter-cond n false a b h k = k

pub parse-shorter : (v : ℕ) (s : List ℕ) → Shorter (length s) (parse v s)
unfolding parse framed
parse-shorter v [] = at_end
parse-shorter v (x ∷ s) =
    shorter-cond _ (ltb (length (x ∷ s)) 4) broken _ at_break
    (shorter-cond _ (eqb (length_of v k) 0) broken _ at_break
    (shorter-cond _ (eqb n (length_of v k)) _ broken (shorter-cond _ (ltb (length (x ∷ s)) (n + 2)) broken _ at_break (at_record less)) at_break))
  where
    n : ℕ
    n = number_of (take 2 (x ∷ s))

    k : ℕ
    k = number_of (take 2 (drop 2 (x ∷ s)))

    less : length (drop (n + 2) (x ∷ s)) < length (x ∷ s)
    less = rw (length-drop (n + 2) (x ∷ s)) (omega arith)
