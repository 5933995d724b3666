-- The product modulo X^3 - X + 1 and modulo w + 1, with w for -1, so that no difference stands in it. Assumes nothing.
use mathlib.Core.Path.{◌≡◌, refl, sym, ap, ◌∙◌}
use Prim.Native.Nat.{ℕ, suc, ◌+◌, ◌*◌, ◌%◌}
use native.Mathlib.Nat.{add-mul, mul-add, mul_left_comm, add_assoc, add_comm, add_left_comm, mul_assoc, mul_comm, mod-add-mod, add-mod-mod}
use native.Mathlib.Omega.{arith}
use Rattle.field.specs.declared.extension.XFieldElement.{XFieldElement}
use Rattle.field.specs.Extension.{xfe}
use Rattle.field.proofs.Remainder.{linear, same-mod}

-- equal coefficients, equal extension words
pub xfe-path : {a b c d e f : ℕ} → a ≡ d → b ≡ e → c ≡ f → xfe a b c ≡ xfe d e f
xfe-path g h k = λ i. xfe (g i) (h i) (k i)

-- the product before it is reduced
unfoldable pub plain : ℕ → XFieldElement → XFieldElement → XFieldElement
plain w x y =
    xfe
    (x.c0 * y.c0 + w * (x.c1 * y.c2 + x.c2 * y.c1))
    (x.c0 * y.c1 + x.c1 * y.c0 + (x.c1 * y.c2 + x.c2 * y.c1) + w * (x.c2 * y.c2))
    (x.c0 * y.c2 + x.c1 * y.c1 + x.c2 * y.c0 + x.c2 * y.c2)

unfoldable pub reduced : ℕ → XFieldElement → XFieldElement
reduced w x = xfe (x.c0 % suc w) (x.c1 % suc w) (x.c2 % suc w)

unfoldable pub times : ℕ → XFieldElement → XFieldElement → XFieldElement
unfolding plain reduced
times w x y = reduced w (plain w x y)

unfoldable pub plus : ℕ → XFieldElement → XFieldElement → XFieldElement
plus w x y = xfe ((x.c0 + y.c0) % suc w) ((x.c1 + y.c1) % suc w) ((x.c2 + y.c2) % suc w)

-- ---- the product's three, as linear forms of the second factor

form₀ : (w a b c d e f : ℕ) → a * d + w * (b * f + c * e) ≡ a * d + w * c * e + w * b * f
form₀ w a b c d e f = omega arith

form₁ : (w a b c d e f : ℕ) → a * e + b * d + (b * f + c * e) + w * (c * f) ≡ b * d + (a + c) * e + (b + w * c) * f
form₁ w a b c d e f = omega arith

form₂ : (a b c d e f : ℕ) → a * f + b * e + c * d + c * f ≡ c * d + b * e + (a + c) * f
form₂ a b c d e f = omega arith

pub times_forms : (w a b c d e f : ℕ)
    → times w (xfe a b c) (xfe d e f) ≡ xfe ((a * d + w * c * e + w * b * f) % suc w) ((b * d + (a + c) * e + (b + w * c) * f) % suc w) ((c * d + b * e + (a + c) * f) % suc w)
unfolding times plain reduced
times_forms w a b c d e f = xfe-path (same-mod (suc w) _ _ (form₀ w a b c d e f)) (same-mod (suc w) _ _ (form₁ w a b c d e f)) (same-mod (suc w) _ _ (form₂ a b c d e f))

-- ---- commutative, associative, distributive

plain_comm : (w a b c d e f : ℕ) → plain w (xfe a b c) (xfe d e f) ≡ plain w (xfe d e f) (xfe a b c)
unfolding plain
plain_comm w a b c d e f = xfe-path (omega arith) (omega arith) (omega arith)

pub times_comm : (w : ℕ) (x y : XFieldElement) → times w x y ≡ times w y x
unfolding times
times_comm w x y = ap (reduced w) (plain_comm w x.c0 x.c1 x.c2 y.c0 y.c1 y.c2)

-- factors may be reduced
right_forms : (w a b c d e f : ℕ) → times w (xfe a b c) (xfe (d % suc w) (e % suc w) (f % suc w)) ≡ times w (xfe a b c) (xfe d e f)
right_forms w a b c d e f =
    times_forms w a b c (d % suc w) (e % suc w) (f % suc w)
    ∙ xfe-path (linear (suc w) a (w * c) (w * b) d e f) (linear (suc w) b (a + c) (b + w * c) d e f) (linear (suc w) c b (a + c) d e f)
    ∙ sym (times_forms w a b c d e f)

pub times-right : (w : ℕ) (x y : XFieldElement) → times w x (reduced w y) ≡ times w x y
unfolding reduced
times-right w x y = right_forms w x.c0 x.c1 x.c2 y.c0 y.c1 y.c2

pub times-left : (w : ℕ) (x y : XFieldElement) → times w (reduced w x) y ≡ times w x y
times-left w x y = times_comm w (reduced w x) y ∙ times-right w y x ∙ times_comm w y x

-- multiplies out and sorts: for identities past omega's 64 products
ruleset expand = (add-mul, mul-add, mul_assoc, mul_comm, mul_left_comm, add_assoc, add_comm, add_left_comm)

plain_assoc : (w a b c d e f g h k : ℕ) → plain w (plain w (xfe a b c) (xfe d e f)) (xfe g h k) ≡ plain w (xfe a b c) (plain w (xfe d e f) (xfe g h k))
unfolding plain
plain_assoc w a b c d e f g h k = xfe-path (simp expand) (simp expand) (simp expand)

times-plain : (w : ℕ) (x y : XFieldElement) → times w x y ≡ reduced w (plain w x y)
unfolding times
times-plain w x y = refl

pub times_assoc : (w : ℕ) (x y z : XFieldElement) → times w (times w x y) z ≡ times w x (times w y z)
times_assoc w x y z =
    ap (λ (t : XFieldElement). times w t z) (times-plain w x y)
    ∙ times-left w (plain w x y) z
    ∙ times-plain w (plain w x y) z
    ∙ ap (reduced w) (plain_assoc w x.c0 x.c1 x.c2 y.c0 y.c1 y.c2 z.c0 z.c1 z.c2)
    ∙ sym (times-plain w x (plain w y z))
    ∙ sym (times-right w x (plain w y z))
    ∙ ap (times w x) (sym (times-plain w y z))

spread_by : (i j k x y z u v t : ℕ) → i * (x + u) + j * (y + v) + k * (z + t) ≡ i * x + j * y + k * z + (i * u + j * v + k * t)
spread_by i j k x y z u v t = omega arith

spread : (q i j k x y z u v t : ℕ)
    → (i * ((x + u) % q) + j * ((y + v) % q) + k * ((z + t) % q)) % q ≡ ((i * x + j * y + k * z) % q + (i * u + j * v + k * t) % q) % q
spread q i j k x y z u v t =
    linear q i j k (x + u) (y + v) (z + t)
    ∙ same-mod q _ _ (spread_by i j k x y z u v t)
    ∙ sym (mod-add-mod (i * x + j * y + k * z) q (i * u + j * v + k * t))
    ∙ sym (add-mod-mod ((i * x + j * y + k * z) % q) (i * u + j * v + k * t) q)

plus_forms : (w a b c d e f g h k : ℕ)
    → times w (xfe a b c) (xfe ((d + g) % suc w) ((e + h) % suc w) ((f + k) % suc w)) ≡ plus w (times w (xfe a b c) (xfe d e f)) (times w (xfe a b c) (xfe g h k))
unfolding plus
plus_forms w a b c d e f g h k =
    times_forms w a b c ((d + g) % suc w) ((e + h) % suc w) ((f + k) % suc w)
    ∙ xfe-path (spread (suc w) a (w * c) (w * b) d e f g h k) (spread (suc w) b (a + c) (b + w * c) d e f g h k) (spread (suc w) c b (a + c) d e f g h k)
    ∙ sym (λ i. plus w (times_forms w a b c d e f i) (times_forms w a b c g h k i))

pub times-plus : (w : ℕ) (x y z : XFieldElement) → times w x (plus w y z) ≡ plus w (times w x y) (times w x z)
unfolding plus
times-plus w x y z = plus_forms w x.c0 x.c1 x.c2 y.c0 y.c1 y.c2 z.c0 z.c1 z.c2

-- ---- a number's product

lift_forms : (w v a b c : ℕ) → times w (xfe v 0 0) (xfe a b c) ≡ xfe ((v * a) % suc w) ((v * b) % suc w) ((v * c) % suc w)
unfolding times plain reduced
lift_forms w v a b c = xfe-path (same-mod (suc w) _ _ (omega arith)) (same-mod (suc w) _ _ (omega arith)) (same-mod (suc w) _ _ (omega arith))

pub times_lift : (w v : ℕ) (x : XFieldElement) → times w (xfe v 0 0) x ≡ xfe ((v * x.c0) % suc w) ((v * x.c1) % suc w) ((v * x.c2) % suc w)
times_lift w v x = lift_forms w v x.c0 x.c1 x.c2
