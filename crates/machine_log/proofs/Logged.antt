-- Laws of bytes and records in the call buffer, each behind the last one. Assumes nothing.
use mathlib.Core.Path.{◌≡◌, refl, sym, ap, ◌∙◌}
use mathlib.Core.Bool.{Bool, true, false}
use mathlib.Core.List.{List, [], ◌∷◌, ◌++◌, map, append_assoc, append-nil}
use Prim.Native.Nat.{ℕ, zero, suc, zero-le, ◌+◌, ◌-◌, ◌/◌, ◌%◌, ◌^◌, ◌≤◌, ◌<◌}
use native.Mathlib.Numerals.{add-one}
use native.Mathlib.Nat.{add-zero}
use native.Mathlib.Omega.{arith}
use borrow.Author.Tests.{ltb-true, ltb-false, eq-eqb, ne_eqb}
use borrow.Rule.Slice.PartMut.{put_mid}
use lib.ListN.{length, take, drop, get_or, length-append, length-take, length-drop, take-append-drop, drop_of_length-le}
use lib.Seq.{drop-drop, take_at, drop_at, take_all, take-suc, get_or-take}
use lib.Dec.{eqb, ltb}
use Rattle.std.specs.Int.{byte_at, bytes_low_first}
use Rattle.std.proofs.Math.Nat.{div-div-eq-div-mul, pow-suc}
use Rattle.std.proofs.lemmas.List.{map-append}
use Rattle.std.proofs.lemmas.Slice.{put_mid-paste}
use Rattle.choices.specs.Choice.{cond}
use Rattle.machine_effects.specs.declared.effect.Access.{Access}
use Rattle.machine_effects.specs.declared.effect.Accesses.{Accesses}
use Rattle.machine_effects.specs.declared.effect.Direction.{Direction}
use Rattle.machine_effects.specs.declared.effect.Direction.TheVariants.{Read, Write}
use Rattle.machine_effects.specs.declared.effect.U32Call.{U32Call}
use Rattle.machine.specs.Lengths.{clock_bytes}
use Rattle.machine.specs.Bytes.{bytes_of}
use Rattle.machine.specs.Effect.{Call, reset, tip5, Effect}
use Rattle.machine.specs.Apply.{depth_after, stack_after}
use Rattle.machine.specs.Machine.{Machine}
use Rattle.machine_effects.specs.EffectView.{u32_of, access_of, first_accesses, accesses_of}
use Rattle.machine.specs.Records.{Record, other, timed, stack, ram, length_of, record_bytes, log_bytes, words_bytes, clocked, call_record, call_records, growing, shrinking, stack_records, records_of}
use Rattle.machine_log.specs.declared.calls.Besides.{Besides}
use Rattle.machine_log.specs.declared.calls.Besides.TheVariants.{Nothing, Reset, First, Last}
use Rattle.machine_log.specs.Logged.{logged, Wrote, WroteAny, FrontAny, head_bytes, tip5_bytes, u32_bytes, tip5_record, u32_record, direction_number, ram_records, access_records}
use Rattle.machine_log.specs.Beside.{with_besides, calls_before, calls_behind}
use Rattle.machine.proofs.Bytes.{bytes-length}
use Rattle.machine.proofs.OpStack.{applied_below}
use Rattle.machine.proofs.Records.{words-bytes-length, log-append, stack-grows, stack-shrinks}

-- ---- bytes at a place

pub logged_none : (b : List ℕ) (at : ℕ) → b ≡ logged b at []
unfolding logged
logged_none b at = rw (add-zero, append-nil, take-append-drop)

pub logged-front : (b r : List ℕ) → logged b 0 r ≡ r ++ drop (length r) b
unfolding logged
logged-front b r = let e : 0 + length r ≡ length r = omega arith in rw e

-- bytes behind others
pub logged-logged : (b r s : List ℕ) (at n : ℕ) → at ≤ length b → at + length r ≡ n → logged (logged b at r) n s ≡ logged b at (r ++ s)
unfolding logged
logged-logged b r s at n h e =
    let l : length (take at b ++ r) ≡ n = simp (length-append, length-take) (omega arith) in
    let x : take n (take at b ++ r ++ drop (at + length r) b) ≡ take at b ++ r = take_at (take at b ++ r) _ n l in
    let y : drop n (take at b ++ r ++ drop (at + length r) b) ≡ drop (at + length r) b = drop_at (take at b ++ r) _ n l in
    let m : at + length r + length s ≡ at + length (r ++ s) = simp length-append (omega arith) in
    let z : drop (n + length s) (take at b ++ r ++ drop (at + length r) b) ≡ drop (at + length (r ++ s)) b =
    sym (drop-drop (length s) n _) ∙ ap (drop (length s)) y ∙ drop-drop (length s) (at + length r) b ∙ ap (λ (k : ℕ). drop k b) m in
    rw (x, z, append_assoc (take at b) r s)

pub joined : (b b1 b2 r s u : List ℕ) (at n : ℕ) → at ≤ length b → at + length r ≡ n → b1 ≡ logged b at r → b2 ≡ logged b1 n s → r ++ s ≡ u → b2 ≡ logged b at u
joined b b1 b2 r s u at n h l e f g = f ∙ ap (λ (x : List ℕ). logged x n s) e ∙ logged-logged b r s at n h l ∙ ap (logged b at) g

-- what comes back of the part behind place at, with r at its start
pub logged_back : (b ys r : List ℕ) (at : ℕ) → at ≤ length b → ys ≡ logged (take (length b - at) (drop at b)) 0 r → take at b ++ (ys ++ drop (length b - at) (drop at b)) ≡ logged b at r
unfolding logged
logged_back b ys r at h e =
    let m : length (drop at b) ≤ length b - at = simp length-drop (omega arith) in
    let z : drop (length b - at) (drop at b) ≡ [] = drop_of_length-le (drop at b) {i = length b - at} m in
    let x : ys ≡ r ++ drop (at + length r) b = e ∙ logged-front _ r ∙ rw (take_all (length b - at) (drop at b) m, drop-drop) in
    rw (z, x, append-nil, append_assoc)

-- ---- stores

pub put_logged : (b r : List ℕ) (at k : ℕ) → length r ≡ k → put_mid at k b r ≡ logged b at r
unfolding logged
put_logged b r at k h = put_mid-paste at k b r r k refl refl (sym h) ∙ rw (take_all k r (omega arith), h)

-- the bytes of a number as std has them
byte_is : (i n : ℕ) → byte_at i n ≡ n / 256 ^ i % 256
byte_is zero n = let e : n ≡ n / 256 ^ 0 = omega arith in ap (λ (x : ℕ). x % 256) e
byte_is (suc i) n = refl

low-bytes : (k i n : ℕ) → bytes_low_first i k n ≡ bytes_of k (n / 256 ^ i)
unfolding bytes_of
low-bytes zero i n = refl
low-bytes (suc k) i n =
    let e : n / 256 ^ suc i ≡ n / 256 ^ i / 256 = ap (λ (x : ℕ). n / x) (pow-suc 256 i) ∙ sym (div-div-eq-div-mul n (256 ^ i) 256) in
    rw (byte_is i n) (ap (λ (r : List ℕ). n / 256 ^ i % 256 ∷ r) (low-bytes k (suc i) n ∙ ap (bytes_of k) e))

low-all : (k n : ℕ) → bytes_low_first 0 k n ≡ bytes_of k n
low-all k n = low-bytes k 0 n ∙ ap (bytes_of k) (omega arith)

-- a number of k bytes, written as std makes them
pub number_put : (k v : ℕ) (b : List ℕ) (at : ℕ) {b2 bytes : List ℕ} → b2 ≡ logged b at bytes → bytes ≡ bytes_low_first 0 k v → b2 ≡ logged b at (bytes_of k v)
number_put k v b at e f = e ∙ ap (logged b at) (f ∙ low-all k v)

pub bytes_two : (v : ℕ) → bytes_of 2 (v % 65536) ≡ bytes_of 2 v
unfolding bytes_of
bytes_two v =
    let a : v % 65536 % 256 ≡ v % 256 = omega arith in
    let b : v % 65536 / 256 % 256 ≡ v / 256 % 256 = omega arith in
    rw (a, b)

-- ---- words

words_append : (s t : List ℕ) → words_bytes (s ++ t) ≡ words_bytes s ++ words_bytes t
unfolding words_bytes
words_append [] t = refl
words_append (w ∷ s) t = rw (words_append s t) (sym (append_assoc (bytes_of 8 w) (words_bytes s) (words_bytes t)))

-- one more word
pub words_more : (s : List ℕ) (i : ℕ) → i < length s → words_bytes (take i s) ++ bytes_of 8 (get_or s i 0) ≡ words_bytes (take (i + 1) s)
unfolding words_bytes
words_more s i h = sym (rw (add-one i, take-suc s i 0 h) (words_append (take i s) (get_or s i 0 ∷ [])) ∙ ap (λ (u : List ℕ). words_bytes (take i s) ++ u) (append-nil _))

-- ---- the parts of a record, one behind the other

-- s behind r at the start
front : (b b1 b2 r s u : List ℕ) (n : ℕ) → length r ≡ n → b1 ≡ logged b 0 r → b2 ≡ logged b1 n s → r ++ s ≡ u → b2 ≡ logged b 0 u
front b b1 b2 r s u n l e f g = joined b b1 b2 r s u 0 n zero-le (omega arith) e f g

-- what stands before the fields, and the fields
head_length : (v t h : ℕ) → length (head_bytes v t h) ≡ 4 + clock_bytes v
unfolding head_bytes clock_bytes bytes_of
head_length v t h = go (eqb v 2)
  where
    go : (u : Bool) → length (cond u (bytes_of 4 (h + 262148) ++ bytes_of 4 t) (bytes_of 4 h)) ≡ 4 + cond u 4 0
    go true = refl
    go false = refl

pub clock_two : (v : ℕ) → v ≡ 2 → clock_bytes v ≡ 4
unfolding clock_bytes
clock_two v e = rw (eq-eqb v 2 e)

pub clock_none : (v : ℕ) → (v ≡ 2 → ⊥) → clock_bytes v ≡ 0
unfolding clock_bytes
clock_none v e = rw (ne_eqb v 2 e)

-- in revision 2, and in any other
pub head_timed : (v t h : ℕ) (b b1 b2 : List ℕ) → v ≡ 2 → b1 ≡ logged b 0 (bytes_of 4 (h + 262148)) → b2 ≡ logged b1 4 (bytes_of 4 t) →
    (b2 ≡ logged b 0 (head_bytes v t h)) × (8 ≡ 4 + clock_bytes v)
unfolding head_bytes
head_timed v t h b b1 b2 e f g =
    let e2 : b2 ≡ logged b 0 (bytes_of 4 (h + 262148) ++ bytes_of 4 t) = front b b1 b2 _ _ _ 4 (bytes-length 4 (h + 262148)) f g refl in
    (rw (eq-eqb v 2 e) e2, omega (arith, clock_two v e))

pub head_plain : (v t h : ℕ) (b b1 : List ℕ) → (v ≡ 2 → ⊥) → b1 ≡ logged b 0 (bytes_of 4 h) → (b1 ≡ logged b 0 (head_bytes v t h)) × (4 ≡ 4 + clock_bytes v)
unfolding head_bytes
head_plain v t h b b1 e f = (rw (ne_eqb v 2 e) f, omega (arith, clock_none v e))

-- kind k as revision 1 has it, of length n; revision 2 has kind k + 4, of length n + 4
headed : (v t k n h : ℕ) (f : List ℕ) → (eqb v 2 ≡ true → length_of v (k + 4) ≡ n + 4) → (eqb v 2 ≡ false → length_of v k ≡ n) →
    bytes_of 2 (n + 4) ++ bytes_of 2 (k + 4) ≡ bytes_of 4 (h + 262148) → bytes_of 2 n ++ bytes_of 2 k ≡ bytes_of 4 h →
    head_bytes v t h ++ f ≡ record_bytes v (clocked v t k f)
unfolding head_bytes clocked record_bytes
headed v t k n h f timed_long plain-long x y = go (eqb v 2) refl
  where
    go : (u : Bool) → eqb v 2 ≡ u → cond u (bytes_of 4 (h + 262148) ++ bytes_of 4 t) (bytes_of 4 h) ++ f ≡ record_bytes v (cond u (timed (k + 4) t f) (other k f))
    go true e = ap (λ (u : List ℕ). u ++ bytes_of 4 t ++ f) (sym x ∙ ap (λ (i : ℕ). bytes_of 2 i ++ bytes_of 2 (k + 4)) (sym (timed_long e)))
    go false e = ap (λ (u : List ℕ). u ++ f) (sym y ∙ ap (λ (i : ℕ). bytes_of 2 i ++ bytes_of 2 k) (sym (plain-long e)))

tip5-headed : (v t : ℕ) (f : List ℕ) → head_bytes v t 131844 ++ f ≡ record_bytes v (clocked v t 2 f)
unfolding length_of bytes_of
tip5-headed v t f = headed v t 2 772 131844 f (λ e. rw e) (λ e. rw e) refl refl

u32-headed : (v t : ℕ) (f : List ℕ) → head_bytes v t 196628 ++ f ≡ record_bytes v (clocked v t 3 f)
unfolding length_of bytes_of
u32-headed v t f = headed v t 3 20 196628 f (λ e. rw e) (λ e. rw e) refl refl

pub reset-written : (b b1 : List ℕ) → b1 ≡ logged b 0 (bytes_of 4 65538) → FrontAny b b1 (other 1 [])
unfolding record_bytes length_of bytes_of
reset-written b b1 e = record { any = λ v. e }

pub tip5-written : (v t o at : ℕ) (trace b b1 b2 b3 : List ℕ) →
    (b1 ≡ logged b 0 (head_bytes v t 131844)) × (at ≡ 4 + clock_bytes v) → b2 ≡ logged b1 at (bytes_of 2 o) → b3 ≡ logged b2 (at + 2) (words_bytes trace) →
    (b3 ≡ logged b 0 (record_bytes v (tip5_record v t o trace))) × (at + 770 ≡ tip5_bytes v)
tip5-written v t o at trace b b1 b2 b3 e f g =
    let h = head_bytes v t 131844 in
    let l : length (h ++ bytes_of 2 o) ≡ at + 2 = simp (length-append, bytes-length) (omega (arith, e.1, head_length v t 131844)) in
    let e2 : b2 ≡ logged b 0 (h ++ bytes_of 2 o) = front b b1 b2 _ _ _ at (head_length v t 131844 ∙ sym e.1) e.0 f refl in
    (front b b2 b3 _ _ _ (at + 2) l e2 g (append_assoc h (bytes_of 2 o) (words_bytes trace) ∙ tip5-headed v t _), omega (arith, e.1))

pub u32-written : (v t at : ℕ) (c : U32Call) (b b1 b2 b3 b4 : List ℕ) →
    (b1 ≡ logged b 0 (head_bytes v t 196628)) × (at ≡ 4 + clock_bytes v) → b2 ≡ logged b1 at (bytes_of 2 c.opcode) → b3 ≡ logged b2 (at + 2) (bytes_of 8 c.left) →
    b4 ≡ logged b3 (at + 10) (bytes_of 8 c.right) → (b4 ≡ logged b 0 (record_bytes v (u32_record v t c))) × (at + 18 ≡ u32_bytes v)
u32-written v t at c b b1 b2 b3 b4 e f g i =
    let h = head_bytes v t 196628 in
    let k = head_length v t 196628 in
    let l : length (h ++ bytes_of 2 c.opcode) ≡ at + 2 = simp (length-append, bytes-length) (omega (arith, e.1, k)) in
    let m : length (h ++ (bytes_of 2 c.opcode ++ bytes_of 8 c.left)) ≡ at + 10 = simp (length-append, bytes-length) (omega (arith, e.1, k)) in
    let e2 : b2 ≡ logged b 0 (h ++ bytes_of 2 c.opcode) = front b b1 b2 _ _ _ at (k ∙ sym e.1) e.0 f refl in
    let e3 : b3 ≡ logged b 0 (h ++ (bytes_of 2 c.opcode ++ bytes_of 8 c.left)) = front b b2 b3 _ _ _ (at + 2) l e2 g (append_assoc h _ _) in
    (front b b3 b4 _ _ _ (at + 10) m e3 i (append_assoc h _ _ ∙ u32-headed v t _), omega (arith, e.1))

pub stack-written : (b b1 b2 b3 b4 b5 : List ℕ) (t q d x : ℕ) →
    b1 ≡ logged b 0 (bytes_of 4 262167) → b2 ≡ logged b1 4 (bytes_of 4 t) → b3 ≡ logged b2 8 (bytes_of 8 q) → b4 ≡ logged b3 16 (d ∷ []) → b5 ≡ logged b4 17 (bytes_of 8 x) →
    FrontAny b b5 (stack t q d x)
unfolding record_bytes bytes_of
stack-written b b1 b2 b3 b4 b5 t q d x e f g h i =
    let e2 : b2 ≡ logged b 0 (bytes_of 4 262167 ++ bytes_of 4 t) = front b b1 b2 _ _ _ 4 refl e f refl in
    let e3 : b3 ≡ logged b 0 (bytes_of 4 262167 ++ bytes_of 4 t ++ bytes_of 8 q) = front b b2 b3 _ _ _ 8 refl e2 g refl in
    let e4 : b4 ≡ logged b 0 (bytes_of 4 262167 ++ bytes_of 4 t ++ bytes_of 8 q ++ (d ∷ [])) = front b b3 b4 _ _ _ 16 refl e3 h refl in
    record { any = λ v. front b b4 b5 _ _ _ 17 refl e4 i refl }

pub ram-written : (b b1 b2 b3 b4 b5 : List ℕ) (t a x d : ℕ) →
    b1 ≡ logged b 0 (bytes_of 4 327703) → b2 ≡ logged b1 4 (bytes_of 4 t) → b3 ≡ logged b2 8 (bytes_of 8 a) → b4 ≡ logged b3 16 (bytes_of 8 x) → b5 ≡ logged b4 24 (d ∷ []) →
    FrontAny b b5 (ram t a x d)
unfolding record_bytes bytes_of
ram-written b b1 b2 b3 b4 b5 t a x d e f g h i =
    let e2 : b2 ≡ logged b 0 (bytes_of 4 327703 ++ bytes_of 4 t) = front b b1 b2 _ _ _ 4 refl e f refl in
    let e3 : b3 ≡ logged b 0 (bytes_of 4 327703 ++ bytes_of 4 t ++ bytes_of 8 a) = front b b2 b3 _ _ _ 8 refl e2 g refl in
    let e4 : b4 ≡ logged b 0 (bytes_of 4 327703 ++ bytes_of 4 t ++ bytes_of 8 a ++ bytes_of 8 x) = front b b3 b4 _ _ _ 16 refl e3 h refl in
    record { any = λ v. front b b4 b5 _ _ _ 24 refl e4 i refl }

-- ---- how long the records are

pub reset-length : (v : ℕ) → length (record_bytes v (other 1 [])) ≡ 4
unfolding record_bytes length_of bytes_of
reset-length v = refl

pub tip5-length : (v t o : ℕ) (trace : List ℕ) → length trace ≡ 96 → length (record_bytes v (tip5_record v t o trace)) ≡ tip5_bytes v
tip5-length v t o trace h =
    ap length (sym (tip5-headed v t _)) ∙ simp (length-append, bytes-length) (omega (arith, head_length v t 131844, words-bytes-length trace))

pub u32-length : (v t : ℕ) (c : U32Call) → length (record_bytes v (u32_record v t c)) ≡ u32_bytes v
u32-length v t c = ap length (sym (u32-headed v t _)) ∙ simp (length-append, bytes-length) (omega (arith, head_length v t 196628))

-- ---- records behind a place

-- what comes back of the part behind a place, with a record at its start
pub record_back : (v : ℕ) (b ys : List ℕ) (r : Record) (at n k : ℕ) → at ≤ length b → length (record_bytes v r) ≡ n → k ≡ n → ys ≡ logged (take (length b - at) (drop at b)) 0 (record_bytes v r) →
    Wrote v b (take at b ++ (ys ++ drop (length b - at) (drop at b))) at (r ∷ []) n (at + k)
unfolding log_bytes
record_back v b ys r at n k h l q e = record { is = logged_back b ys (record_bytes v r) at h e ∙ ap (logged b at) (sym (append-nil (record_bytes v r))); size = ap length (append-nil (record_bytes v r)) ∙ l; end = omega arith }

pub any_back : (b ys : List ℕ) (r : Record) (at n : ℕ) → at ≤ length b → ((v : ℕ) → length (record_bytes v r) ≡ n) → FrontAny (take (length b - at) (drop at b)) ys r →
    WroteAny b (take at b ++ (ys ++ drop (length b - at) (drop at b))) at (r ∷ []) n (at + n)
any_back b ys r at n h l e = record { any = λ v. record_back v b ys r at n n h (l v) refl (e.any v); end = refl }

pub wrote_none : (v : ℕ) (b : List ℕ) (at n : ℕ) (rs : List Record) → [] ≡ rs → 0 ≡ n → Wrote v b b at rs n at
unfolding log_bytes
wrote_none v b at n rs e f = record { is = rw (← e) (logged_none b at); size = rw (← e, ← f); end = omega arith }

pub any_none : (b : List ℕ) (at n : ℕ) (rs : List Record) → [] ≡ rs → 0 ≡ n → WroteAny b b at rs n at
any_none b at n rs e f = record { any = λ v. wrote_none v b at n rs e f; end = omega arith }

-- records behind others
pub wrote-more : {v : ℕ} {b b1 b2 : List ℕ} {at i j m n k : ℕ} {rs ss us : List Record} → at ≤ length b → Wrote v b b1 at rs m i → Wrote v b1 b2 i ss n j → rs ++ ss ≡ us → m + n ≡ k → Wrote v b b2 at us k j
wrote-more {v} {b} {b1} {b2} {at} {i} {j} {m} {n} {k} {rs} {ss} {us} h w x g s =
    let a : log_bytes v rs ++ log_bytes v ss ≡ log_bytes v us = sym (log-append v rs ss) ∙ ap (log_bytes v) g in
    let l : length (log_bytes v rs) + length (log_bytes v ss) ≡ length (log_bytes v us) = rw (← a) (sym (length-append (log_bytes v rs) (log_bytes v ss))) in
    record {
      is = joined b b1 b2 (log_bytes v rs) (log_bytes v ss) (log_bytes v us) at i h (omega (arith, w.size, w.end)) w.is x.is a;
      size = omega (arith, w.size, x.size);
      end = omega (arith, w.end, x.end);
    }

pub any-more : {b b1 b2 : List ℕ} {at i j m n k : ℕ} {rs ss us : List Record} → at ≤ length b → WroteAny b b1 at rs m i → WroteAny b1 b2 i ss n j → rs ++ ss ≡ us → m + n ≡ k → WroteAny b b2 at us k j
any-more h w x g s = record { any = λ v. wrote-more h (w.any v) (x.any v) g s; end = omega (arith, w.end, x.end) }

-- ---- one more of a run

-- the first n of the op stack's records from depth d to depth d2
abbrev pub row_of : ℕ → List ℕ → ℕ → ℕ → ℕ → List Record
row_of t s d d2 n = cond (ltb d d2) (growing t s d n) (shrinking t s d n)

pub row-none : (t : ℕ) (s : List ℕ) (d d2 : ℕ) → [] ≡ row_of t s d d2 0
unfolding growing shrinking
row-none t s d d2 = go (ltb d d2)
  where
    go : (u : Bool) → [] ≡ cond u (growing t s d 0) (shrinking t s d 0)
    go true = refl
    go false = refl

pub row_more : (t : ℕ) (s : List ℕ) (d d2 n : ℕ) {q dir : ℕ} → q ≡ cond (ltb d d2) (d + n) (d - 1 - n) → dir ≡ cond (ltb d d2) 1 0 →
    row_of t s d d2 n ++ (stack t q dir (get_or s (q - 16) 0) ∷ []) ≡ row_of t s d d2 (n + 1)
unfolding growing shrinking
row_more t s d d2 n {q} {dir} e f = rw (add-one n, e, f) (go (ltb d d2))
  where
    go : (u : Bool) → cond u (growing t s d n) (shrinking t s d n) ++ (stack t (cond u (d + n) (d - 1 - n)) (cond u 1 0) (get_or s (cond u (d + n) (d - 1 - n) - 16) 0) ∷ [])
        ≡ cond u (growing t s d (suc n)) (shrinking t s d (suc n))
    go true = refl
    go false = refl

pub row-all : (t : ℕ) (s : List ℕ) (d d2 n : ℕ) → n ≡ d2 - d + (d - d2) → row_of t s d d2 n ≡ stack_records t s s d d2
row-all t s d d2 n e = go (ltb d d2) refl
  where
    go : (u : Bool) → ltb d d2 ≡ u → cond u (growing t s d n) (shrinking t s d n) ≡ stack_records t s s d d2
    go true h = let l = ltb-true d d2 h in let k : n ≡ d2 - d = omega arith in rw k (sym (stack-grows t s s d d2 (omega arith)))
    go false h = let l = ltb-false d d2 h in let k : n ≡ d - d2 = omega arith in rw k (sym (stack-shrinks t s s d d2 l))

pub ram-more : (t : ℕ) (d : Direction) (s : List Access) (n : ℕ) (e : Access) → n < length s →
    ram_records t d s n ++ (ram t (get_or s n e).address (get_or s n e).value (direction_number d) ∷ []) ≡ ram_records t d s (n + 1)
unfolding ram_records
ram-more t d s n e h = rw (add-one n, take-suc s n e h, map-append)

-- all of them: those of a slice u that is the first n
pub ram-all : (t : ℕ) (d : Direction) (s u : List Access) (n i : ℕ) → u ≡ take n s → length u ≡ n → i ≡ length u → (ram_records t d u i ≡ ram_records t d s n) × (i ≡ n)
unfolding ram_records
ram-all t d s u n i e l q =
    let k : i ≡ n = q ∙ l in
    (rw (k, ← e, take_all n u (omega arith)) refl, k)

-- ---- an effect's calls

pub calls-append : (v t : ℕ) (cs ds : List Call) → call_records v t (cs ++ ds) ≡ call_records v t cs ++ call_records v t ds
unfolding call_records
calls-append v t [] ds = refl
calls-append v t (c ∷ cs) ds = rw (calls-append v t cs ds)

pub u32_is : (v t : ℕ) (a : U32Call) → u32_record v t a ∷ [] ≡ call_records v t (u32_of a ∷ [])
unfolding call_records call_record
u32_is v t a = refl

pub tip5_is : (v t o : ℕ) (trace : List ℕ) → tip5_record v t o trace ∷ [] ≡ call_records v t (tip5 o trace ∷ [])
unfolding call_records call_record
tip5_is v t o trace = refl

pub reset_is : (v t : ℕ) → other 1 [] ∷ [] ≡ call_records v t (reset ∷ [])
unfolding call_records call_record
reset_is v t = refl

pub no_calls : (v t : ℕ) → [] ≡ call_records v t []
unfolding call_records
no_calls v t = refl

rams_are : (v t : ℕ) (d : Direction) (s : List Access) → map (λ a. ram t a.address a.value (direction_number d)) s ≡ call_records v t (map (access_of d) s)
unfolding call_records call_record
rams_are v t d [] = refl
rams_are v t Read (x ∷ s) = ap (λ (r : List Record). ram t x.address x.value 0 ∷ r) (rams_are v t Read s)
rams_are v t Write (x ∷ s) = ap (λ (r : List Record). ram t x.address x.value 1 ∷ r) (rams_are v t Write s)

pub row_is : (v t : ℕ) (d : Direction) (s : List Access) (n : ℕ) → ram_records t d s n ≡ call_records v t (first_accesses d s n)
unfolding ram_records first_accesses
row_is v t d s n = rams_are v t d (take n s)

pub accesses_are : (v t : ℕ) (a : Accesses) → access_records t a ≡ call_records v t (accesses_of a)
accesses_are v t a =
    let x = row_is v t Read a.cells a.reads in
    let y = row_is v t Write (drop a.reads a.cells) (a.count - a.reads) in
    (λ i. x i ++ y i) ∙ sym (calls-append v t (first_accesses Read a.cells a.reads) (first_accesses Write (drop a.reads a.cells) (a.count - a.reads)))

-- what is recorded besides, with an effect's calls
pub besides_are : (v t : ℕ) (x : Besides) (cs : List Call) →
    call_records v t (calls_before x) ++ call_records v t cs ++ call_records v t (calls_behind x) ≡ call_records v t (with_besides x cs)
besides_are v t Nothing cs = rw (← no_calls v t) (append-nil (call_records v t cs))
besides_are v t Reset cs = rw (← no_calls v t, append-nil) (sym (calls-append v t (reset ∷ []) cs))
besides_are v t (First o r) cs = rw (← no_calls v t, append-nil) (sym (calls-append v t (tip5 o r.now ∷ []) cs))
besides_are v t (Last o r) cs = rw (← no_calls v t) (sym (calls-append v t cs (tip5 o r.now ∷ [])))

-- the same records by other names
pub wrote_as : {v : ℕ} {b b2 : List ℕ} {at n m next : ℕ} {rs ss : List Record} → Wrote v b b2 at rs n next → rs ≡ ss → n ≡ m → Wrote v b b2 at ss m next
wrote_as {v} {b} {b2} {at} w e f = record { is = w.is ∙ ap (λ (r : List Record). logged b at (log_bytes v r)) e; size = ap (λ (r : List Record). length (log_bytes v r)) (sym e) ∙ w.size ∙ f; end = omega (arith, w.end, f) }

-- ---- the op stack's records

-- the words of a shrinking step's records lie below place k, where the stack before and the stack after are the same
pub shrinking-same : (t : ℕ) (s s2 : List ℕ) (q n k : ℕ) → take k s ≡ take k s2 → 16 + n ≤ q → q - 16 ≤ k → shrinking t s q n ≡ shrinking t s2 q n
unfolding shrinking
shrinking-same t s s2 q zero k e h l = refl
shrinking-same t s s2 q (suc n) k e h l =
    let i : q - 1 - n - 16 < k = omega arith in
    let x : get_or s (q - 1 - n - 16) 0 ≡ get_or s2 (q - 1 - n - 16) 0 =
    sym (get_or-take k s _ 0 i) ∙ ap (λ (u : List ℕ). get_or u (q - 1 - n - 16) 0) e ∙ get_or-take k s2 _ 0 i in
    rw (shrinking-same t s s2 q n k e (omega arith) l, x)

pub stack_same : (t : ℕ) (before after : List ℕ) (d d2 k : ℕ) → take k before ≡ take k after → 16 ≤ d → 16 ≤ d2 → d - 16 ≤ k → stack_records t after after d d2 ≡ stack_records t before after d d2
unfolding stack_records
stack_same t before after d d2 k e h l m = ap (λ (rs : List Record). growing t after d (d2 - d) ++ rs) (go (d - d2) (omega arith))
  where
    go : (n : ℕ) → n ≤ d - 16 → shrinking t after d n ≡ shrinking t before d n
    go n j = sym (shrinking-same t before after d n k e (omega arith) m)

-- the records of a step, by the stack after it alone
pub records_after : (m : Machine) (e : Effect) → 16 ≤ m.state.depth → e.pops ≤ 16 → m.state.depth ≤ length m.memory.op_stack → 16 ≤ depth_after m e → depth_after m e ≤ length m.memory.op_stack →
    call_records m.state.revision m.state.clock e.calls ++ stack_records m.state.clock (stack_after m e) (stack_after m e) m.state.depth (depth_after m e) ≡ records_of m e
unfolding records_of
records_after m e h k l i j =
    let d = m.state.depth in
    let below = applied_below m.memory.op_stack e.words d e.pops (omega arith) l j (d - e.pops) (omega arith) in
    ap (λ (rs : List Record). call_records m.state.revision m.state.clock e.calls ++ rs)
    (stack_same m.state.clock m.memory.op_stack (stack_after m e) d (depth_after m e) (d - e.pops) (sym below) h i (omega arith))

-- ---- what a step gives: the buffer, and how many bytes

pub wrote_buffer : {v : ℕ} {b b2 : List ℕ} {rs : List Record} {n r : ℕ} → Wrote v b b2 0 rs n r → b2 ≡ log_bytes v rs ++ drop (length (log_bytes v rs)) b
wrote_buffer {v} {b} {b2} {rs} w = w.is ∙ logged-front b (log_bytes v rs)

pub wrote-bytes : {v : ℕ} {b b2 : List ℕ} {rs : List Record} {n r : ℕ} → Wrote v b b2 0 rs n r → r ≡ length (log_bytes v rs)
wrote-bytes w = omega (arith, w.size, w.end)
