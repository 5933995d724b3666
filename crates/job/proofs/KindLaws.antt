-- Laws of the kinds' numbers. Assumes nothing.
use Rattle.std.proofs.Common.{◌≡◌, ℕ, ◌≤◌, Bool, true, false, refl, sym, ap, ◌∙◌, arith, rules, eqb, cond, None, Some, Ok, Err, Result}
use borrow.Author.Tests.{eq-eqb, ne_eqb}
use Rattle.std.specs.declared.option.Option.{Option}
use Rattle.std.specs.Option.{option_eq}
use denote.Enum.Bare.{sameb, same_true, same_false}
use Rattle.job.specs.contracts.job_file.Kind.{the_type}
use Rattle.job.specs.declared.job_file.Kind.{Kind}
use Rattle.job.specs.declared.job_file.Kind.TheVariants.{Digest, Slot, PublicWord, SecretWord, SecretDigest, Cell, Budget}
use Rattle.std.specs.Result.{result_ok}
use Rattle.job.specs.declared.job_file.UnknownKind.{UnknownKind}
use Rattle.job.specs.JobFile.{length_in}
use Rattle.job.specs.JobFileView.{kind_number, piece_number, Decodes}

-- the kind of a number, where it is one's
kind_of : ℕ → Kind
kind_of n = cond (eqb n 11) Digest (cond (eqb n 12) Slot (cond (eqb n 13) PublicWord (cond (eqb n 14) SecretWord (cond (eqb n 15) SecretDigest (cond (eqb n 16) Cell Budget)))))

kind_back : (k : Kind) → kind_of (kind_number k) ≡ k
unfolding kind_of
kind_back Digest = refl
kind_back Slot = refl
kind_back PublicWord = refl
kind_back SecretWord = refl
kind_back SecretDigest = refl
kind_back Cell = refl
kind_back Budget = refl

kind_above : (k : Kind) → 11 ≤ kind_number k
kind_above Digest = omega arith
kind_above Slot = omega arith
kind_above PublicWord = omega arith
kind_above SecretWord = omega arith
kind_above SecretDigest = omega arith
kind_above Cell = omega arith
kind_above Budget = omega arith

-- what `==` says of kinds is what their numbers say
pub same-number : (a b : Option Kind) → option_eq (sameb the_type) a b ≡ eqb (piece_number a) (piece_number b)
same-number None None = refl
same-number None (Some y) = sym (ne_eqb 0 (kind_number y) (λ e. let t = kind_above y in absurd (omega arith)))
same-number (Some x) None = sym (ne_eqb (kind_number x) 0 (λ e. let t = kind_above x in absurd (omega arith)))
same-number (Some x) (Some y) = go (sameb the_type x y) refl
  where
    go : (t : Bool) → sameb the_type x y ≡ t → t ≡ eqb (kind_number x) (kind_number y)
    go true e = sym (eq-eqb (kind_number x) (kind_number y) (ap kind_number (same_true the_type (search rules) x y e)))
    go false e = sym (ne_eqb (kind_number x) (kind_number y) (λ q. same_false the_type x y e (sym (kind_back x) ∙ ap kind_of q ∙ kind_back y)))

-- the kind that was read, and that none was
pub decoded : (n : ℕ) (r : Result Kind UnknownKind) (k : Kind) → Decodes n r → result_ok r ≡ Some k → kind_number k ≡ n
decoded n (Ok x) k d e = let f : x ≡ k = cc in rw (← f) d
decoded n (Err x) k d e = absurd (cc)

pub undecoded : (n : ℕ) (r : Result Kind UnknownKind) → Decodes n r → result_ok r ≡ None → length_in n ≡ 0
undecoded n (Ok x) d e = absurd (cc)
undecoded n (Err x) d e = d.1
