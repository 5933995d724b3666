-- Laws of numbers in bytes and of the records' frame. Assumes nothing.
use mathlib.Core.Path.{◌≡◌, refl, ap, ◌∙◌}
use mathlib.Core.List.{List, [], ◌∷◌, ◌++◌}
use mathlib.Core.Bool.{Bool, true, false}
use Prim.Native.Nat.{ℕ, suc, ◌+◌, ◌-◌, ◌*◌, ◌^◌, ◌≤◌, ◌<◌, zero}
use native.Mathlib.Omega.{arith}
use native.Mathlib.Nat.{pow-succ'}
use borrow.Author.Tests.{eqb-true, eqb-false, ltb-false, lt-ltb, le-ltb, eq-eqb, ne_eqb}
use lib.ListN.{length, get_or, take, drop, length-drop, length-append}
use lib.Dec.{eqb, ltb}
use lib.Seq.{take-length}
use Rattle.std.specs.Prelude.{replicate}
use Rattle.std.specs.Int.{from_le_bytes, w64}
use Rattle.std.proofs.lemmas.List.{length-replicate, drop-replicate}
use Rattle.choices.specs.Choice.{cond}
use Rattle.machine.specs.Bytes.{number_of}
use Rattle.job.specs.Frame.{size_by, kind_in, whole_by}

-- ---- numbers

-- the zeros that are left of eight
pub zeros_behind : (n : ℕ) → n ≤ 8 → drop {A = ℕ} n (0 ∷ 0 ∷ 0 ∷ 0 ∷ 0 ∷ 0 ∷ 0 ∷ 0 ∷ []) ≡ replicate (8 - n) 0
zeros_behind n h = drop-replicate n 8 0

-- zeros behind the bytes change nothing
number_zeros : (b : List ℕ) (n : ℕ) → number_of (b ++ replicate n 0) ≡ number_of b
unfolding number_of
number_zeros [] zero = refl
number_zeros [] (suc n) = let e = number_zeros [] n in omega arith
number_zeros (x ∷ b) n = ap (λ (v : ℕ). x + 256 * v) (number_zeros b n)

-- what eight bytes hold
number_eight : (x : List ℕ) → length x ≡ 8 → from_le_bytes w64 x ≡ number_of x
unfolding number_of
number_eight [] l = absurd (omega arith)
number_eight (a ∷ []) l = absurd (omega arith)
number_eight (a ∷ b ∷ []) l = absurd (omega arith)
number_eight (a ∷ b ∷ c ∷ []) l = absurd (omega arith)
number_eight (a ∷ b ∷ c ∷ d ∷ []) l = absurd (omega arith)
number_eight (a ∷ b ∷ c ∷ d ∷ e ∷ []) l = absurd (omega arith)
number_eight (a ∷ b ∷ c ∷ d ∷ e ∷ f ∷ []) l = absurd (omega arith)
number_eight (a ∷ b ∷ c ∷ d ∷ e ∷ f ∷ g ∷ []) l = absurd (omega arith)
number_eight (a ∷ b ∷ c ∷ d ∷ e ∷ f ∷ g ∷ h ∷ []) l = omega arith
number_eight (a ∷ b ∷ c ∷ d ∷ e ∷ f ∷ g ∷ h ∷ i ∷ x) l = absurd (omega arith)

number_small : (b : List ℕ) → ((i : ℕ) → get_or b i 0 < 256) → number_of b < 256 ^ length b
unfolding number_of
number_small [] h = omega arith
number_small (x ∷ b) h = let e = number_small b (λ i. h (suc i)) in let f = h 0 in rw (pow-succ' 256 (length b)) (omega arith)

-- bytes with zeros behind them
pub number_is : (b x : List ℕ) (r : ℕ) → ((i : ℕ) → get_or b i 0 < 256) → length b ≤ 8 → x ≡ b ++ replicate (8 - length b) 0 → r ≡ from_le_bytes w64 x → (r ≡ number_of b) × (r < 256 ^ length b)
number_is b x r h l e g =
    let z = replicate (8 - length b) 0 in
    let k : length x ≡ 8 = ap length e ∙ length-append b z ∙ rw (length-replicate {A = ℕ} (8 - length b) 0) (omega arith) in
    let f : r ≡ number_of b = g ∙ number_eight x k ∙ ap number_of e ∙ number_zeros b (8 - length b) in
    (f, rw f (number_small b h))

-- ---- the frame

pub whole-none : (b : List ℕ) (n : ℕ) → n ≡ 0 → 0 ≡ whole_by n b
unfolding whole_by
whole-none b n e = rw (eq-eqb n 0 e)

pub whole-other : (b : List ℕ) (n : ℕ) → (n ≡ 0 → ⊥) → (number_of (take 2 b) ≡ n → ⊥) → 0 ≡ whole_by n b
unfolding whole_by
whole-other b n z e = rw (ne_eqb n 0 z, ne_eqb (number_of (take 2 b)) n e)

pub whole-short : (b : List ℕ) (n : ℕ) → (n ≡ 0 → ⊥) → number_of (take 2 b) ≡ n → length b < n + 2 → 0 ≡ whole_by n b
unfolding whole_by
whole-short b n z e h = rw (ne_eqb n 0 z, eq-eqb (number_of (take 2 b)) n e, lt-ltb (length b) (n + 2) h)

pub whole_is : (b : List ℕ) (n : ℕ) → (n ≡ 0 → ⊥) → number_of (take 2 b) ≡ n → n + 2 ≤ length b → whole_by n b ≡ n + 2
unfolding whole_by
whole_is b n z e h = rw (ne_eqb n 0 z, eq-eqb (number_of (take 2 b)) n e, le-ltb (length b) (n + 2) h)

-- ---- the size of a record by its kind

pub size_short : (lengths : ℕ → ℕ) (b : List ℕ) → length b < 4 → size_by lengths b ≡ 0
unfolding size_by
size_short lengths b h = rw (lt-ltb (length b) 4 h)

pub size_is : (lengths : ℕ → ℕ) (b : List ℕ) (k n : ℕ) → 4 ≤ length b → k ≡ kind_in b → n ≡ lengths k → size_by lengths b ≡ whole_by n b
unfolding size_by
size_is lengths b k n h e f = rw (le-ltb (length b) 4 h, ← e, ← f)

pub size_from : (lengths : ℕ → ℕ) (b : List ℕ) (k : ℕ) → kind_in b ≡ k → 0 < lengths k → number_of (take 2 b) ≡ lengths k → 4 ≤ length b → lengths k + 2 ≤ length b → size_by lengths b ≡ lengths k + 2
unfolding size_by whole_by
size_from lengths b k e z f h l =
    let n : lengths k ≡ 0 → ⊥ = λ q. omega arith in
    rw (le-ltb (length b) 4 h, e, ne_eqb (lengths k) 0 n, eq-eqb (number_of (take 2 b)) (lengths k) f, le-ltb (length b) (lengths k + 2) l)

-- what is known of a whole record at the start of b
pub record Whole (lengths : ℕ → ℕ) (b : List ℕ) : Type 0 where
  pub long : 4 ≤ length b
  pub known : 0 < lengths (kind_in b)
  pub field : number_of (take 2 b) ≡ lengths (kind_in b)
  pub size : size_by lengths b ≡ lengths (kind_in b) + 2
  pub fits : lengths (kind_in b) + 2 ≤ length b

above : (n : ℕ) → (n ≡ 0 → ⊥) → 0 < n
above n h = omega arith

pub size_whole : (lengths : ℕ → ℕ) (b : List ℕ) → 0 < size_by lengths b → Whole lengths b
unfolding size_by whole_by
size_whole lengths b h =
    go (ltb (length b) 4) (eqb (lengths (kind_in b)) 0) (eqb (number_of (take 2 b)) (lengths (kind_in b))) (ltb (length b) (lengths (kind_in b) + 2)) refl refl refl refl h
  where
    k : ℕ
    k = lengths (kind_in b)

    go : (t u v w : Bool) → ltb (length b) 4 ≡ t → eqb k 0 ≡ u → eqb (number_of (take 2 b)) k ≡ v → ltb (length b) (k + 2) ≡ w →
        0 < cond t 0 (cond u 0 (cond v (cond w 0 (k + 2)) 0)) → Whole lengths b
    go true u v w e f g i j = absurd (omega arith)
    go false true v w e f g i j = absurd (omega arith)
    go false false false w e f g i j = absurd (omega arith)
    go false false true true e f g i j = absurd (omega arith)
    go false false true false e f g i j =
        record {
          long = ltb-false (length b) 4 e;
          known = above k (eqb-false k 0 f);
          field = eqb-true (number_of (take 2 b)) k g;
          size = rw (e, f, g, i);
          fits = ltb-false (length b) (k + 2) i;
        }

-- ---- what stands behind a record of m bytes

pub rest_is : (b : List ℕ) (m n : ℕ) → m ≡ n → take (length b - m) (drop m b) ≡ drop n b
rest_is b m n e = rw (← length-drop m b, take-length (drop m b), e)
