-- Laws of what the hashing instructions are built of. Assumes nothing.
use Rattle.std.proofs.Common.{◌≡◌, ℕ, ◌+◌, ◌-◌, ◌<◌, ◌≤◌, ◌^◌, zero, suc, refl, sym, ap, ◌∙◌, true, false, List, [], ◌++◌, eqb, length, take, drop, replicate, Result, Ok, Err, arith}
use Rattle.std.specs.Result.{IsErrAnd}
use Rattle.std.proofs.lemmas.List.{get_or-take}
use Rattle.std.proofs.lemmas.Result.{err_from_is_err_and}
use Rattle.std.proofs.Math.Seq.{take_all, take_at, drop-append-add}
use Rattle.std.proofs.lemmas.Slice.{put_mid-paste}
use borrow.Rule.Slice.PartMut.{put_mid}
use borrow.Author.Tests.{le-ltb}
use Rattle.machine.specs.declared.refusal.InstructionError.{InstructionError}
use Rattle.machine.specs.Refusal.{refusal_of, vector_assertion_failed}
use Rattle.machine.specs.Machine.{st}
use Rattle.machine.specs.Effect.{Effect, Decision, acts, refuses, puts, u32_only}
use Rattle.machine.specs.Hashing.{fixed_length, reversed, assert_from}
use Rattle.machine_effects.specs.declared.effect.Effect.{Effect as CodeEffect}
use Rattle.machine_effects.specs.declared.effect.Refused.{Refused}
use Rattle.machine_effects.specs.declared.effect.Refused.TheVariants.{Kept, Dropped}
use Rattle.machine_effects.specs.EffectView.{effect_of, decision_of}
use Rattle.machine_arithmetic.specs.U32.{IsU32}
use Rattle.machine_hashing.specs.declared.hashing.Hashed.{Hashed}
use Rattle.machine_hashing.specs.HashedView.{whole_of, hashed_of, trace_first, traced_first}

-- ---- assert_vector: what is left of the five comparisons

module _ (w : List ℕ) (i : ℕ) (h : i < 5) where
  assert_one : assert_from w i (5 - i) ≡ assert_from w i (suc (5 - (i + 1)))
  assert_one = ap (λ (n : ℕ). assert_from w i n) (omega arith)

  pub assert-more : eqb (st w i) (st w (i + 5)) ≡ true → assert_from w i (5 - i) ≡ assert_from w (i + 1) (5 - (i + 1))
  unfolding assert_from
  assert-more e = assert_one ∙ rw e

  pub assert-refused : eqb (st w i) (st w (i + 5)) ≡ false →
      assert_from w i (5 - i) ≡ refuses (vector_assertion_failed i (st w i) (st w (i + 5)))
  unfolding assert_from
  assert-refused e = assert_one ∙ rw e

pub assert-all : (w : List ℕ) (i : ℕ) → 5 ≤ i → assert_from w i (5 - i) ≡ acts (puts 5 [])
unfolding assert_from
assert-all w i h = let z : 5 - i ≡ 0 = omega arith in rw z

-- ---- what the answers stand for, one law for each

pub hashed-acts : (h : Hashed) {e : Effect} → whole_of h ≡ e → hashed_of (Ok h) ≡ acts e
unfolding hashed_of
hashed-acts h q = ap acts q

pub hashed-refuses : (e : InstructionError) → hashed_of (Err (Kept e)) ≡ refuses (refusal_of e)
unfolding hashed_of
hashed-refuses e = refl

-- a trace before the calls of a decision
pub traced-acts : (o : ℕ) (t : List ℕ) (e : CodeEffect) (h : Hashed) → whole_of h ≡ trace_first o t (effect_of e) → hashed_of (Ok h) ≡ traced_first o t (decision_of (Ok e))
unfolding hashed_of decision_of
traced-acts o t e h q = ap acts q

pub traced-refused : (o : ℕ) (t : List ℕ) (x : Refused) → hashed_of (Err x) ≡ traced_first o t (decision_of (Err x))
unfolding hashed_of decision_of
traced-refused o t (Kept e) = refl
traced-refused o t (Dropped e) = refl

-- at the exit of a `?` where a word is not a u32
pub turned_down : (a b : ℕ) (e : InstructionError) (r : Result Hashed Refused) (d : Decision) → b ≡ a → IsU32 b (Err e) → IsErrAnd r (λ x. x ≡ Kept e) → hashed_of r ≡ u32_only a d
unfolding refusal_of
turned_down a b e r d h u k = let q = err_from_is_err_and r k in rw (q.1, q.2, hashed-refuses e, u.0, h, le-ltb a (2 ^ 32) (rw h at u.1))

-- the first words of a list are the first of any longer part of it
pub reversed-front : (s : List ℕ) (n k : ℕ) → n ≤ k → reversed s n ≡ reversed (take k s) n
unfolding reversed
reversed-front s zero k h = refl
reversed-front s (suc n) k h = rw (get_or-take k s n 0 (omega arith), reversed-front s n k (omega arith))

-- two digests and six ones
pub pair_put : (l r : List ℕ) → length l ≡ 5 → length r ≡ 5 → put_mid 5 5 (l ++ replicate 11 1) r ≡ fixed_length (l ++ r)
pair_put l r h k =
    let d = l ++ replicate 11 1 in
    let y : take 5 r ≡ r = take_all 5 r (omega arith) in
    let t : take 5 d ≡ l = take_at l (replicate 11 1) 5 h in
    let e : length l + 5 ≡ 10 = omega arith in
    let u : drop 10 d ≡ replicate 6 1 = rw e at (drop-append-add l (replicate 11 1) 5) in
    put_mid-paste 5 5 d r r 5 refl refl (sym k) ∙ rw y (λ i. t i ++ r ++ u i)
