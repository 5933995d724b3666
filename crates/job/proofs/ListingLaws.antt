-- Laws of the lines' texts. Assumes nothing.
use mathlib.Core.Path.{◌≡◌, refl, sym, ap, subst, ◌∙◌}
use mathlib.Core.Bool.{Bool, true, false}
use mathlib.Core.List.{List, [], ◌∷◌, ◌++◌, append_assoc, append-nil}
use Prim.Native.Nat.{ℕ, zero, suc, ◌+◌, ◌-◌, ◌/◌, ◌%◌, ◌^◌, ◌≤◌, ◌<◌}
use native.Mathlib.Omega.{arith}
use native.Mathlib.Nat.{pow-succ'}
use native.Mathlib.Numerals.{add-one}
use borrow.Author.Tests.{lt-ltb, le-ltb}
use lib.ListN.{length, get_or, set, take, drop, length-append, drop_of_length-le}
use lib.Seq.{take-suc, take-length, take_at, take_all, drop_at, length-take-le, sets-eq}
use lib.Dec.{eqb, ltb}
use borrow.Rule.Slice.PartMut.{put_mid}
use Rattle.choices.specs.Choice.{cond}
use Rattle.machine_log.specs.Logged.{logged}
use Rattle.machine_log.proofs.Logged.{logged-front, joined, logged_none, put_logged}
use Rattle.std.specs.Fmt.{decimal}
use Rattle.std.specs.Str.{IsAscii, IsUtf8}
use Rattle.std.proofs.lemmas.List.{drop-set}
use Rattle.std.proofs.lemmas.Str.{IsUtf8-from_ascii, IsAscii-append}
use Rattle.std.proofs.lemmas.Str.Ascii.{IsAscii-nil, IsAscii-cons, IsAscii-push}
use Rattle.std.proofs.lemmas.Fmt.{AppendsLastDigit, decimal_from_appends, length-decimal-le, decimal_nonempty, IsAscii-decimal}
use Rattle.job.specs.Listing.{digits_of, decimal_of, field_of, read_text, write_text, stack_text, direction_text, stack_line, counts_of, out_line, Before, Put}
use Rattle.job.specs.Printed.{out_lines}

-- ---- digits

appends : AppendsLastDigit digits_of
unfolding digits_of
appends = record { one = λ k n h. rw (lt-ltb n 10 h); more = λ k n h. rw (le-ltb n 10 h) }

-- more room changes nothing where the number has so few digits
digits_more : (f n : ℕ) → 1 ≤ f → n < 10 ^ f → digits_of (suc f) n ≡ digits_of f n
unfolding digits_of
digits_more zero n h k = absurd (omega arith)
digits_more (suc zero) n h k = rw (lt-ltb n 10 (omega arith))
digits_more (suc (suc f)) n h k = ap (λ (u : List ℕ). cond (ltb n 10) ((48 + n) ∷ []) (u ++ ((48 + n % 10) ∷ []))) (digits_more (suc f) (n / 10) (omega arith) (omega (arith, rw pow-succ' at k)))

digits_ten : (f n : ℕ) → 10 ≤ n → digits_of (suc f) n ≡ digits_of f (n / 10) ++ ((48 + n % 10) ∷ [])
unfolding digits_of
digits_ten f n h = rw (le-ltb n 10 h)

digits_few : (f n : ℕ) → length (digits_of f n) ≤ f
unfolding digits_of
digits_few zero n = omega arith
digits_few (suc f) n = go (ltb n 10) (digits_few f (n / 10))
  where
    go : (t : Bool) → length (digits_of f (n / 10)) ≤ f → length (cond t ((48 + n) ∷ []) (digits_of f (n / 10) ++ ((48 + n % 10) ∷ []))) ≤ suc f
    go true h = omega arith
    go false h = simp length-append (omega arith)

pub decimal_few : (n : ℕ) → length (decimal_of n) ≤ 20
unfolding decimal_of
decimal_few n = digits_few 20 n

pub decimal_one : (n : ℕ) → n < 10 → decimal_of n ≡ (48 + n) ∷ []
unfolding decimal_of digits_of
decimal_one n h = rw (lt-ltb n 10 h)

pub decimal_more : (n : ℕ) → 10 ≤ n → n < 18446744073709551616 → decimal_of (n / 10) ++ ((48 + n % 10) ∷ []) ≡ decimal_of n
unfolding decimal_of
decimal_more n h k = ap (λ (u : List ℕ). u ++ ((48 + n % 10) ∷ [])) (digits_more 19 (n / 10) (omega arith) (omega arith)) ∙ sym (digits_ten 19 n h)

pub decimal_length : (n : ℕ) → 10 ≤ n → n < 18446744073709551616 → length (decimal_of n) ≡ length (decimal_of (n / 10)) + 1
decimal_length n h k = ap length (sym (decimal_more n h k)) ∙ length-append (decimal_of (n / 10)) _

-- std's text of a number is ours
decimal_is : (n : ℕ) → n < 18446744073709551616 → decimal n ≡ decimal_of n
unfolding decimal_of
decimal_is n h = sym (decimal_from_appends digits_of appends 20 n h (length-decimal-le 20 n (omega arith) (omega arith) h))

-- ---- lines

field_is : (n mark : ℕ) (u : List ℕ) → n < 18446744073709551616 → decimal n ++ (mark ∷ u) ≡ field_of n mark ++ u
unfolding field_of
field_is n mark u h = rw (decimal_is n h) (sym (append_assoc (decimal_of n) (mark ∷ []) u))

field_end : (n mark : ℕ) → n < 18446744073709551616 → decimal n ++ (mark ∷ []) ≡ field_of n mark
field_end n mark h = field_is n mark [] h ∙ append-nil (field_of n mark)

pub stack_is : (t q v : ℕ) (d : List ℕ) → t < 18446744073709551616 → q < 18446744073709551616 → v < 18446744073709551616 →
    decimal t ++ (32 ∷ (decimal q ++ (32 ∷ (d ++ (decimal v ++ (10 ∷ [])))))) ≡ field_of t 32 ++ field_of q 32 ++ d ++ field_of v 10
stack_is t q v d h k l =
    rw (field_is t 32 (decimal q ++ (32 ∷ (d ++ (decimal v ++ (10 ∷ []))))) h, field_is q 32 (d ++ (decimal v ++ (10 ∷ []))) k, field_end v 10 l)
    (sym (append_assoc (field_of t 32 ++ field_of q 32) d (field_of v 10) ∙ append_assoc (field_of t 32) (field_of q 32) (d ++ field_of v 10)))

pub out_is : (w : ℕ) → w < 18446744073709551616 → 111 ∷ 117 ∷ 116 ∷ 32 ∷ (decimal w ++ (10 ∷ [])) ≡ out_line w
unfolding out_line
out_is w h = rw (field_end w 10 h)

pub counts_is : (n q d : ℕ) → n < 18446744073709551616 → q < 18446744073709551616 → d < 18446744073709551616 → decimal n ++ (32 ∷ (decimal q ++ (32 ∷ (decimal d ++ (10 ∷ []))))) ≡ counts_of n q d
unfolding counts_of
counts_is n q d h k l =
    rw (field_is n 32 (decimal q ++ (32 ∷ (decimal d ++ (10 ∷ [])))) h, field_is q 32 (decimal d ++ (10 ∷ [])) k, field_end d 10 l)
    (sym (append_assoc (field_of n 32) (field_of q 32) (field_of d 10)))

pub refused_is : (k : ℕ) (c : List ℕ) → k < 18446744073709551616 → decimal k ++ (32 ∷ c) ≡ field_of k 32 ++ c
refused_is k c h = field_is k 32 c h

-- ---- texts

-- one more byte of a text
pub text_more : (s : List ℕ) (i : ℕ) → i < length s → take i s ++ (get_or s i 0 ∷ []) ≡ take (i + 1) s
text_more s i h = rw (add-one i) (sym (take-suc s i 0 h))

pub put-none : (b : List ℕ) (at : ℕ) → Put b b at [] 0 at
put-none b at = record { is = logged_none b at; end = omega arith; few = omega arith }

pub put-at : (b : List ℕ) (at x next : ℕ) → at < length b → next ≡ at + 1 → Put b (set b at x) at (x ∷ []) 1 next
unfolding logged
put-at b at x next h e = record { is = sets-eq (x ∷ []) b at (omega arith); end = e; few = omega arith }

pub put_one : (b : List ℕ) (at x : ℕ) → at < length b → Put b (set b at x) at (x ∷ []) 1 (at + 1)
put_one b at x h = put-at b at x (at + 1) h refl

pub put_all : {b b2 s : List ℕ} {at i next : ℕ} → i ≡ length s → Put b b2 at (take i s) i next → Put b b2 at s (length s) next
put_all {b} {b2} {s} {at} {i} {next} e p =
    let f : take i s ≡ s = rw (e, take-length) in
    record { is = rw f at p.is; end = rw f at p.end; few = omega arith }

-- the same text under another name, of at most m bytes
pub put_as : {b b2 r s : List ℕ} {at n m next : ℕ} → Put b b2 at r n next → r ≡ s → length s ≤ m → Put b b2 at s m next
put_as p e h = record { is = rw e at p.is; end = rw e at p.end; few = h }

-- a text behind another
pub put-more : {b b1 b2 r s u : List ℕ} {at i j m n k : ℕ} → at ≤ length b → Put b b1 at r m i → Put b1 b2 i s n j → r ++ s ≡ u → m + n ≡ k → Put b b2 at u k j
put-more {b} {b1} {b2} {r} {s} {u} {at} {i} {j} {m} {n} {k} h p q g e =
    let l : length r + length s ≡ length u = rw (← g) (sym (length-append r s)) in
    record {
      is = joined b b1 b2 r s u at i h (sym p.end) p.is q.is g;
      end = omega (arith, p.end, q.end);
      few = omega (arith, p.few, q.few);
    }

-- what stands in front of the next place is the text
pub put_front : {b b2 s : List ℕ} {most next : ℕ} → Put b b2 0 s most next → take next b2 ≡ s
put_front {b} {b2} {s} {most} {next} p =
    let e : length s ≡ next = omega (arith, p.end) in
    ap (take next) (p.is ∙ logged-front b s) ∙ take_at s _ next e

-- ---- a text from its end

pub before-none : (b : List ℕ) (end : ℕ) → Before b b end [] end
before-none b end = record { is = refl; place = omega arith }

pub before-at : (b : List ℕ) (end x : ℕ) → 0 < end → end ≤ length b → Before b (set b (end - 1) x) end (x ∷ []) (end - 1)
before-at b end x h l =
    let e : end - 1 + 1 ≡ end = omega arith in
    record { is = drop-set b (end - 1) x (omega arith) ∙ ap (λ (n : ℕ). x ∷ drop n b) e; place = omega arith }

pub before-text : (b s : List ℕ) (end start k : ℕ) → start + length s ≡ end → end ≤ length b → length s ≡ k → Before b (put_mid start k b s) end s start
unfolding logged
before-text b s end start k h l e =
    let long : length (take start b) ≡ start = length-take-le start b (omega arith) in
    record {
      is = ap (drop start) (put_logged b s start k e ∙ append_assoc (take start b) s (drop (start + length s) b)) ∙ drop_at (take start b) _ start long ∙ ap (λ (n : ℕ). s ++ drop n b) h;
      place = h;
    }

-- a text in front of another
pub before-more : {b b1 b2 r s u : List ℕ} {end i j : ℕ} → Before b b1 end r i → Before b1 b2 i s j → s ++ r ≡ u → Before b b2 end u j
before-more {b} {b1} {b2} {r} {s} {u} {end} p q g =
    let l : length s + length r ≡ length u = rw (← g) (sym (length-append s r)) in
    record {
      is = q.is ∙ ap (λ (t : List ℕ). s ++ t) p.is ∙ sym (append_assoc s r (drop end b)) ∙ ap (λ (t : List ℕ). t ++ drop end b) g;
      place = omega (arith, p.place, q.place);
    }

-- what is behind it is the text where nothing stood behind the end
pub before-whole : {b b2 s : List ℕ} {end start n : ℕ} → length b ≡ end → n ≡ length b2 - start → length b2 ≡ end → Before b b2 end s start → take n (drop start b2) ≡ s
before-whole {b} {b2} {s} {end} {start} {n} l e k p =
    let none : drop end b ≡ [] = drop_of_length-le b {i = end} (omega arith) in
    let text : drop start b2 ≡ s = p.is ∙ ap (λ (t : List ℕ). s ++ t) none ∙ append-nil s in
    ap (take n) text ∙ take_all n s (omega (arith, p.place))

-- a digit of a number in front of those behind it
pub digit-before : (v n d : ℕ) (tail : List ℕ) → n < 18446744073709551616 → 10 ≤ n → d ≡ 48 + n % 10 → decimal_of v ≡ decimal_of n ++ tail → decimal_of v ≡ decimal_of (n / 10) ++ (d ∷ tail)
digit-before v n d tail k h e f = f ∙ ap (λ (u : List ℕ). u ++ tail) (sym (decimal_more n h k)) ∙ append_assoc (decimal_of (n / 10)) _ tail ∙ rw e refl

pub digit_first : (v n d : ℕ) (tail : List ℕ) → n < 10 → d ≡ 48 + n → decimal_of v ≡ decimal_of n ++ tail → (d ∷ []) ++ tail ≡ decimal_of v
digit_first v n d tail h e f = sym (f ∙ ap (λ (u : List ℕ). u ++ tail) (decimal_one n h) ∙ rw e refl)

-- there is room for what is left of a number
decimal_some : (n : ℕ) → n < 18446744073709551616 → 0 < length (decimal_of n)
decimal_some n h = rw (← decimal_is n h) (decimal_nonempty n h)

pub digit-room : (v n end start : ℕ) {b b2 : List ℕ} (tail : List ℕ) → n < 18446744073709551616 → 20 ≤ end → decimal_of v ≡ decimal_of n ++ tail → Before b b2 end tail start → 0 < start
digit-room v n end start tail h l e p =
    let all : length (decimal_of v) ≡ length (decimal_of n) + length tail = ap length e ∙ length-append (decimal_of n) tail in
    omega (arith, all, decimal_some n h, decimal_few v, p.place)

pub field_few : (n mark : ℕ) → length (field_of n mark) ≤ 21
unfolding field_of
field_few n mark = omega (arith, decimal_few n, length-append (decimal_of n) (mark ∷ []))

pub direction_few : (d : ℕ) → length (direction_text d) ≤ 6
unfolding direction_text
direction_few d = go (eqb d 0)
  where
    go : (t : Bool) → length (cond t read_text write_text) ≤ 6
    go true = omega arith
    go false = omega arith

pub stack_parts : (t q d v : ℕ) → stack_text ++ (field_of t 32 ++ (field_of q 32 ++ (direction_text d ++ field_of v 10))) ≡ stack_line t q d v
unfolding stack_line
stack_parts t q d v =
    sym (append_assoc (stack_text ++ field_of t 32 ++ field_of q 32) (direction_text d) (field_of v 10)
    ∙ append_assoc (stack_text ++ field_of t 32) (field_of q 32) (direction_text d ++ field_of v 10)
    ∙ append_assoc stack_text (field_of t 32) (field_of q 32 ++ (direction_text d ++ field_of v 10)))

-- ---- a line is text

ascii_field : (n mark : ℕ) → n < 18446744073709551616 → mark < 128 → IsAscii (field_of n mark)
unfolding field_of
ascii_field n mark h l = IsAscii-push (decimal_of n) mark (subst IsAscii (decimal_is n h) (IsAscii-decimal n h)) l

ascii_six : (a b c d e f : ℕ) → a < 128 → b < 128 → c < 128 → d < 128 → e < 128 → f < 128 → IsAscii (a ∷ b ∷ c ∷ d ∷ e ∷ f ∷ [])
ascii_six a b c d e f i j k l m n =
    IsAscii-cons a (b ∷ c ∷ d ∷ e ∷ f ∷ []) i (IsAscii-cons b (c ∷ d ∷ e ∷ f ∷ []) j (IsAscii-cons c (d ∷ e ∷ f ∷ []) k (IsAscii-cons d (e ∷ f ∷ []) l (IsAscii-cons e (f ∷ []) m (IsAscii-cons f [] n IsAscii-nil)))))

ascii_direction : (d : ℕ) → IsAscii (direction_text d)
unfolding direction_text
ascii_direction d = go (eqb d 0)
  where
    go : (t : Bool) → IsAscii (cond t read_text write_text)
    go true = IsAscii-cons 114 (101 ∷ 97 ∷ 100 ∷ 32 ∷ []) (omega arith) (IsAscii-cons 101 (97 ∷ 100 ∷ 32 ∷ []) (omega arith) (IsAscii-cons 97 (100 ∷ 32 ∷ []) (omega arith) (IsAscii-cons 100 (32 ∷ []) (omega arith) (IsAscii-cons 32 [] (omega arith) IsAscii-nil))))
    go false = ascii_six 119 114 105 116 101 32 (omega arith) (omega arith) (omega arith) (omega arith) (omega arith) (omega arith)

pub stack_utf8 : (t q d v : ℕ) → t < 18446744073709551616 → q < 18446744073709551616 → v < 18446744073709551616 → IsUtf8 (stack_line t q d v)
stack_utf8 t q d v h k l =
    subst IsUtf8 (stack_parts t q d v)
    (IsUtf8-from_ascii _
    (IsAscii-append stack_text _ (ascii_six 115 116 97 99 107 32 (omega arith) (omega arith) (omega arith) (omega arith) (omega arith) (omega arith))
    (IsAscii-append (field_of t 32) _ (ascii_field t 32 h (omega arith))
    (IsAscii-append (field_of q 32) _ (ascii_field q 32 k (omega arith))
    (IsAscii-append (direction_text d) _ (ascii_direction d) (ascii_field v 10 l (omega arith)))))))

-- ---- the output's lines

out_append : (s t : List ℕ) → out_lines (s ++ t) ≡ out_lines s ++ out_lines t
unfolding out_lines
out_append [] t = refl
out_append (w ∷ s) t = rw (out_append s t) (sym (append_assoc (out_line w) (out_lines s) (out_lines t)))

pub out_none : (s : List ℕ) → [] ≡ out_lines (take 0 s)
unfolding out_lines
out_none s = refl

-- one more
pub out_more : (s : List ℕ) (i : ℕ) → i < length s → out_lines (take i s) ++ out_line (get_or s i 0) ≡ out_lines (take (i + 1) s)
unfolding out_lines
out_more s i h = sym (ap out_lines (sym (text_more s i h)) ∙ out_append (take i s) (get_or s i 0 ∷ []) ∙ ap (λ (u : List ℕ). out_lines (take i s) ++ u) (append-nil _))
