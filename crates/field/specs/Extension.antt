-- Extension words: polynomials c0 + c1 X + c2 X^2 over the words, modulo X^3 - X + 1.
use Rattle.std.specs.Prelude.{ℕ, ◌+◌, ◌*◌, ◌<◌, List, [], ◌∷◌, ◌++◌}
use Rattle.std.specs.Fmt.{decimal}
use Rattle.field.specs.declared.extension.XFieldElement.{XFieldElement}
use Rattle.field.specs.Base.{p, add_p, neg_p, sub_p, mul_p, inverse_p}

abbrev pub xfe : ℕ → ℕ → ℕ → XFieldElement
xfe a b c = record { c0 = a; c1 = b; c2 = c }

-- each coefficient is a word
pub record WordsX (x : XFieldElement) : Type 0 where
  pub low0 : x.c0 < p
  pub low1 : x.c1 < p
  pub low2 : x.c2 < p

-- a word as an extension word
abbrev pub lift_x : ℕ → XFieldElement
lift_x a = xfe a 0 0

unfoldable pub add_x : XFieldElement → XFieldElement → XFieldElement
add_x x y = xfe (add_p x.c0 y.c0) (add_p x.c1 y.c1) (add_p x.c2 y.c2)

unfoldable pub neg_x : XFieldElement → XFieldElement
neg_x x = xfe (neg_p x.c0) (neg_p x.c1) (neg_p x.c2)

unfoldable pub sub_x : XFieldElement → XFieldElement → XFieldElement
sub_x x y = xfe (sub_p x.c0 y.c0) (sub_p x.c1 y.c1) (sub_p x.c2 y.c2)

-- the text of an extension word: [c0 c1 c2]
abbrev pub text_x : XFieldElement → List ℕ
text_x x = 91 ∷ (decimal x.c0 ++ (32 ∷ (decimal x.c1 ++ (32 ∷ (decimal x.c2 ++ (93 ∷ []))))))

-- d0 + d1 X + d2 X^2 + d3 X^3 + d4 X^4 modulo X^3 - X + 1: X^3 is X - 1, and so X^4 is X^2 - X
abbrev pub mod_cubic : ℕ → ℕ → ℕ → ℕ → ℕ → XFieldElement
mod_cubic d0 d1 d2 d3 d4 = xfe (sub_p d0 d3) (sub_p (d1 + d3) d4) (add_p d2 d4)

-- the product of the polynomials, reduced
unfoldable pub mul_x : XFieldElement → XFieldElement → XFieldElement
mul_x x y =
    mod_cubic
    (x.c0 * y.c0)
    (x.c0 * y.c1 + x.c1 * y.c0)
    (x.c0 * y.c2 + x.c1 * y.c1 + x.c2 * y.c0)
    (x.c1 * y.c2 + x.c2 * y.c1)
    (x.c2 * y.c2)

-- the product with a word
unfoldable pub scale_x : ℕ → XFieldElement → XFieldElement
scale_x b x = xfe (mul_p b x.c0) (mul_p b x.c1) (mul_p b x.c2)

-- The adjugate of (a + b X + c X^2): its product with that is a word, the norm (proofs/ExtensionInverse.antt).
unfoldable pub adjugate_x : XFieldElement → XFieldElement
adjugate_x x = adjugate_of x.c0 x.c1 x.c2
  where
    adjugate_of : ℕ → ℕ → ℕ → XFieldElement
    adjugate_of a b c = xfe (sub_p (a * a + 2 * (a * c) + c * c + b * c) (b * b)) (neg_p (a * b + c * c)) (sub_p (b * b) (a * c + c * c))

unfoldable pub norm_x : XFieldElement → ℕ
unfolding mul_x adjugate_x
norm_x x = (mul_x x (adjugate_x x)).c0

-- The adjugate over the norm, and 0 for 0. That an extension word other than 0 times it is 1, and times no other is, are laws (proofs/ExtensionInverse.antt).
unfoldable pub inverse_x : XFieldElement → XFieldElement
inverse_x x = scale_x (inverse_p (norm_x x)) (adjugate_x x)
