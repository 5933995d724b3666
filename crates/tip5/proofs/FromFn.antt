-- An array of what a closure gives of each index, where the closure changes nothing. Assumes nothing.
use Rattle.std.proofs.Common.{◌≡◌, refl, sym, ap, subst, ◌∙◌, ℕ, zero, suc, ◌+◌, ◌<◌, ◌≤◌, List, get_or, arith}
use Rattle.std.proofs.Math.Nat.{eq-or-lt_of_le}
use Rattle.std.proofs.Math.Logic.{⊎_elim}
use Rattle.std.specs.Array.{IsFromFnResultFrom, IsFromFnResult}
use denote.Param.Members.{Mut, Called}
use Rattle.tip5.specs.Tab.{tab}
use Rattle.tip5.proofs.Tab.{tab_of}

module _ {F : Type 0} (g : Mut F (ℕ × Unit {0}) ℕ) (f : F) (h : ℕ → ℕ) (n : ℕ) where
  -- each call gives what h says, and leaves the closure as it is
  abbrev pub Gives : Type 0
  Gives = (i y : ℕ) (q : F) → i < n → Called g f (i, tt) y q → (y ≡ h i) × (q ≡ f)

  made_at : Gives → (q : F) (l : List ℕ) (i m : ℕ) → i + m ≡ n → q ≡ f → IsFromFnResultFrom g q l i m → (k : ℕ) → i ≤ k → k < n → get_or l k 0 ≡ h k
  made_at one q l i zero whole same made k low high = absurd (omega arith)
  made_at one q l i (suc m) whole same made k low high =
      let told = one i made.1 made.0 (omega arith) (subst (λ (x : F). Called g x (i, tt) made.1 made.0) same made.3) in
      ⊎_elim
      (λ (e : i ≡ k). ap (λ (j : ℕ). get_or l j 0) (sym e) ∙ made.2.1 0 ∙ told.0 ∙ ap h e)
      (λ (e : i < k). made_at one made.0 l (i + 1) m (omega arith) told.1 made.4 k (omega arith) high)
      (eq-or-lt_of_le low)

  pub tab_from_fn : (l : List ℕ) → IsFromFnResult g f l n → Gives → l ≡ tab h n
  tab_from_fn l made one = tab_of h n l made.long (λ (k : ℕ) (lt : k < n). made_at one f l 0 n (omega arith) refl made.each k (omega arith) lt)
