-- That a list holds words is a proposition: any two proofs of it are equal.
use Rattle.std.specs.Prelude.{◌≡◌, refl, ℕ, List, [], ◌∷◌}
use Rattle.std.proofs.Math.Bridge.{le_prop}
use Rattle.machine.specs.Words.{Words, none, more}

pub Words-prop : (s : List ℕ) (x y : Words s) → x ≡ y
Words-prop [] none none = refl
Words-prop (a ∷ s) (more h u) (more k v) = λ i. more (le_prop h k i) (Words-prop s u v i)
