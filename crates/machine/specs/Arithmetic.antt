-- Arithmetic on words and on extension words.
use Rattle.std.specs.Prelude.{ℕ, ◌+◌, Bool, false, List, [], ◌∷◌, eqb}
use Rattle.field.specs.declared.extension.XFieldElement.{XFieldElement}
use Rattle.field.specs.Base.{add_p, mul_p, inverse_p}
use Rattle.field.specs.Extension.{xfe, add_x, mul_x, scale_x, inverse_x}
use Rattle.choices.specs.Choice.{cond}
use Rattle.machine.specs.Refusal.{inverse_of_zero}
use Rattle.machine.specs.Machine.{st}
use Rattle.machine.specs.Effect.{Decision, acts, puts, unless}

unfoldable pub add_of : List ℕ → Decision
add_of w = acts (puts 2 (add_p (st w 0) (st w 1) ∷ []))

unfoldable pub addi_of : List ℕ → ℕ → Decision
addi_of w a = acts (puts 1 (add_p (st w 0) a ∷ []))

unfoldable pub mul_of : List ℕ → Decision
mul_of w = acts (puts 2 (mul_p (st w 0) (st w 1) ∷ []))

unfoldable pub invert_of : List ℕ → Decision
invert_of w = unless (eqb (st w 0) 0) inverse_of_zero (acts (puts 1 (inverse_p (st w 0) ∷ [])))

unfoldable pub eq_of : List ℕ → Decision
eq_of w = acts (puts 2 (cond (eqb (st w 0) (st w 1)) 1 0 ∷ []))

-- ---- extension words: coefficient 0 on top

-- the extension word in ST i to ST (i + 2)
abbrev pub xst : List ℕ → ℕ → XFieldElement
xst w i = xfe (st w i) (st w (i + 1)) (st w (i + 2))

-- its words as they are put on
abbrev pub words_x : XFieldElement → List ℕ
words_x x = x.c2 ∷ x.c1 ∷ x.c0 ∷ []

unfoldable pub zero_x : XFieldElement → Bool
zero_x x = cond (eqb x.c0 0) (cond (eqb x.c1 0) (eqb x.c2 0) false) false

unfoldable pub xx_add_of : List ℕ → Decision
xx_add_of w = acts (puts 6 (words_x (add_x (xst w 0) (xst w 3))))

unfoldable pub xx_mul_of : List ℕ → Decision
xx_mul_of w = acts (puts 6 (words_x (mul_x (xst w 0) (xst w 3))))

unfoldable pub x_invert_of : List ℕ → Decision
x_invert_of w = unless (zero_x (xst w 0)) inverse_of_zero (acts (puts 3 (words_x (inverse_x (xst w 0)))))

unfoldable pub xb_mul_of : List ℕ → Decision
xb_mul_of w = acts (puts 4 (words_x (scale_x (st w 0) (xst w 1))))
