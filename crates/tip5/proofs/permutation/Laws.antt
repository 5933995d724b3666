-- The permutation and the trace: their lengths, the last state, and that their elements are words. Assumes nothing.
use mathlib.Core.List.{List, ◌++◌}
use mathlib.Core.Path.{◌≡◌, refl, sym, ap, ◌∙◌}
use Prim.Native.Nat.{ℕ, zero, suc, ◌+◌, ◌*◌, ◌<◌}
use native.Mathlib.Nat.{le_of_eq}
use native.Mathlib.Numerals.{add-one}
use native.Mathlib.Omega.{arith}
use lib.ListN.{length, take, drop, length-append}
use lib.Seq.{take_at, drop_at, length-paste, take-paste, take_all}
use borrow.Rule.Slice.PartMut.{put_mid}
use Rattle.std.proofs.lemmas.Slice.{put_mid-paste}
use Rattle.field.specs.Base.{p}
use Rattle.tip5.specs.Permutation.{state_of, permutation_of, states_of, trace_of}
use Rattle.tip5.specs.Round.{round_of}
use Rattle.tip5.specs.Words.{Words}
use Rattle.tip5.proofs.Tab.{append-below}
use Rattle.tip5.proofs.round.Laws.{round-length, round-words}

pub state-zero : (s : List ℕ) → state_of 0 s ≡ s
unfolding state_of
state-zero s = refl

next-state : (r : ℕ) (s : List ℕ) → state_of (suc r) s ≡ round_of r (state_of r s)
unfolding state_of
next-state r s = refl

-- one round more
pub state-more : (r : ℕ) (s : List ℕ) → state_of (r + 1) s ≡ round_of r (state_of r s)
state-more r s = ap (λ (n : ℕ). state_of n s) (add-one r) ∙ next-state r s

pub states-zero : (s : List ℕ) → states_of 0 s ≡ s
unfolding states_of
states-zero s = refl

next-states : (n : ℕ) (s : List ℕ) → states_of (suc n) s ≡ states_of n s ++ state_of (suc n) s
unfolding states_of
next-states n s = refl

pub states-more : (n : ℕ) (s : List ℕ) → states_of (n + 1) s ≡ states_of n s ++ state_of (n + 1) s
states-more n s = ap (λ (k : ℕ). states_of k s) (add-one n) ∙ next-states n s ∙ ap (λ (k : ℕ). states_of n s ++ state_of k s) (sym (add-one n))

-- ---- lengths

state-length : (n : ℕ) (s : List ℕ) → length s ≡ 16 → length (state_of n s) ≡ 16
state-length zero s h = ap length (state-zero s) ∙ h
state-length (suc n) s h = ap length (next-state n s) ∙ round-length n (state_of n s)

states-length : (n : ℕ) (s : List ℕ) → length s ≡ 16 → length (states_of n s) ≡ 16 * n + 16
states-length zero s h = ap length (states-zero s) ∙ h
states-length (suc n) s h =
    let a = states-length n s h in
    let b = state-length (suc n) s h in
    ap length (next-states n s) ∙ length-append (states_of n s) (state_of (suc n) s) ∙ omega arith

pub permutation-length : (s : List ℕ) → length (permutation_of s) ≡ 16
unfolding permutation_of
permutation-length s = ap length (next-state 4 s) ∙ round-length 4 (state_of 4 s)

pub trace-length : (s : List ℕ) → length s ≡ 16 → length (trace_of s) ≡ 96
unfolding trace_of
trace-length s h = states-length 5 s h

-- the permutation is the trace's last state
pub trace-last : (s : List ℕ) → length s ≡ 16 → drop 80 (trace_of s) ≡ permutation_of s
unfolding trace_of permutation_of
trace-last s h = ap (drop 80) (next-states 4 s) ∙ drop_at (states_of 4 s) (state_of 5 s) 80 (states-length 4 s h)

-- ---- words

state-words : (n : ℕ) (s : List ℕ) → Words s → Words (state_of n s)
state-words zero s h = rw (state-zero s) h
state-words (suc n) s h = rw (next-state n s) (round-words n (state_of n s))

states-words : (n : ℕ) (s : List ℕ) → Words s → Words (states_of n s)
states-words zero s h = rw (states-zero s) h
states-words (suc n) s h = rw (next-states n s) (append-below (states_of n s) (state_of (suc n) s) p (states-words n s h) (state-words (suc n) s h))

-- the permutation gives words, whatever it is given
pub permutation-words : (s : List ℕ) → Words (permutation_of s)
unfolding permutation_of
permutation-words s = rw (next-state 4 s) (round-words 4 (state_of 4 s))

pub trace-words : (s : List ℕ) → Words s → Words (trace_of s)
unfolding trace_of
trace-words s h = states-words 5 s h

-- ---- the loop of `trace`

pub trace-start : (d s e : List ℕ) → d ≡ s → length s ≡ 16 → length e ≡ 80 → (length (d ++ e) ≡ 96) × (s ≡ state_of 0 s) × (take 16 (d ++ e) ≡ states_of 0 s)
trace-start d s e h g l =
    let n : length d ≡ 16 = ap length h ∙ g in
    (length-append d e ∙ omega arith, sym (state-zero s), take_at d e 16 n ∙ h ∙ sym (states-zero s))

-- state r + 1 goes behind the states before it
pub trace-more : (d e s a : List ℕ) (r k : ℕ) → k ≡ 16 → length d ≡ 96 → r < 5 → e ≡ s → s ≡ round_of r (state_of r a) → take (16 * r + 16) d ≡ states_of r a
    → (length (put_mid (16 * r + 16) k d e) ≡ 96) × (s ≡ state_of (r + 1) a) × (take (16 * (r + 1) + 16) (put_mid (16 * r + 16) k d e) ≡ states_of (r + 1) a)
trace-more d e s a r k m h l f is g =
    let long : length s ≡ 16 = ap length is ∙ round-length r (state_of r a) in
    let put = put_mid-paste (16 * r + 16) k d e s 16 f (sym m) (sym long) in
    let next : s ≡ state_of (r + 1) a = is ∙ sym (state-more r a) in
    let at : 16 * (r + 1) + 16 ≡ 16 * r + 16 + 16 = omega arith in (
      ap length put ∙ length-paste d (16 * r + 16) s 16 (omega arith) (omega arith) ∙ h,
      next,
      (λ i. take (at i) (put i)) ∙ take-paste d (16 * r + 16) s 16 (omega arith) (omega arith) ∙ (λ i. g i ++ (take_all 16 s (le_of_eq long) ∙ next) i) ∙ sym (states-more r a),
    )

pub trace-all : (d a : List ℕ) (r : ℕ) → length d ≡ 96 → r ≡ 5 → take (16 * r + 16) d ≡ states_of r a → d ≡ trace_of a
unfolding trace_of
trace-all d a r h l e = sym (take_all 96 d (le_of_eq h)) ∙ sym (ap (λ (n : ℕ). take (16 * n + 16) d) l) ∙ e ∙ ap (λ (n : ℕ). states_of n a) l
