-- A list by its elements.
use Rattle.std.specs.Prelude.{◌≡◌, refl, List, [], ◌∷◌, ◌++◌, ℕ, zero, suc}

-- f 0 ∷ f 1 ∷ .. ∷ f (n - 1) ∷ []
unfoldable pub tab : (ℕ → ℕ) → ℕ → List ℕ
tab f zero = []
tab f (suc n) = tab f n ++ (f n ∷ [])

pub tab_zero : (f : ℕ → ℕ) → tab f 0 ≡ []
unfolding tab
tab_zero f = refl

pub tab_suc : (f : ℕ → ℕ) (n : ℕ) → tab f (suc n) ≡ tab f n ++ (f n ∷ [])
unfolding tab
tab_suc f n = refl
