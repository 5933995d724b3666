-- Arithmetic on words and on extension words: what holds of the effect that each instruction acts. Assumes nothing.
use mathlib.Core.Path.{refl}
use mathlib.Core.Bool.{Bool, true, false}
use Prim.Native.Nat.{ℕ, ◌<◌}
use native.Mathlib.Omega.{arith}
use lib.ListN.{length}
use lib.Dec.{eqb, lit<}
use Rattle.field.specs.declared.extension.XFieldElement.{XFieldElement}
use Rattle.field.specs.Base.{p}
use Rattle.field.specs.Extension.{WordsX}
use Rattle.field.proofs.Ring.{below}
use Rattle.field.proofs.ExtensionRing.{add_x-words, mul_x-words, scale_x-words}
use Rattle.field.proofs.ExtensionInverse.{inverse_x-words}
use Rattle.choices.specs.Choice.{cond}
use Rattle.machine.specs.Words.{Words, none, more}
use Rattle.machine.specs.Machine.{Machine, st, top}
use Rattle.machine.specs.Arithmetic.{add_of, addi_of, mul_of, invert_of, eq_of, xst, words_x, zero_x, xx_add_of, xx_mul_of, x_invert_of, xb_mul_of}
use Rattle.machine.specs.Sound.{Sound}
use Rattle.machine.proofs.Acts.{Acts, acting, acts-unless}
use Rattle.machine.proofs.Does.{Weights, Does, puts-does}

-- 1 or 0 is a word
pub said_word : (t : Bool) → cond t 1 0 < p
said_word true = lit< tt
said_word false = lit< tt

pub extension_words : (x : XFieldElement) → WordsX x → Words (words_x x)
extension_words x h = more h.low2 (more h.low1 (more h.low0 none))

module _ (per : Weights) (m : Machine) (s : Sound m) (here : m.state.pointer < length m.code.opcodes) where
  pub add-does : Acts (Does per m 0 1 0) (add_of (top m))
  unfolding add_of
  add-does = acting (puts-does per m s here 2 0 1 (more (below _) none) (omega arith) refl)

  pub addi-does : (n : ℕ) → Acts (Does per m 0 0 0) (addi_of (top m) n)
  unfolding addi_of
  addi-does n = acting (puts-does per m s here 1 0 0 (more (below _) none) (omega arith) refl)

  pub mul-does : Acts (Does per m 0 1 0) (mul_of (top m))
  unfolding mul_of
  mul-does = acting (puts-does per m s here 2 0 1 (more (below _) none) (omega arith) refl)

  pub invert-does : Acts (Does per m 0 0 0) (invert_of (top m))
  unfolding invert_of
  invert-does = acts-unless (eqb (st (top m) 0) 0) _ (λ _. acting (puts-does per m s here 1 0 0 (more (below _) none) (omega arith) refl))

  pub eq-does : Acts (Does per m 0 1 0) (eq_of (top m))
  unfolding eq_of
  eq-does = acting (puts-does per m s here 2 0 1 (more (said_word (eqb (st (top m) 0) (st (top m) 1))) none) (omega arith) refl)

  pub xx_add-does : Acts (Does per m 0 3 0) (xx_add_of (top m))
  unfolding xx_add_of
  xx_add-does = acting (puts-does per m s here 6 0 3 (extension_words _ (add_x-words (xst (top m) 0) (xst (top m) 3))) (omega arith) refl)

  pub xx_mul-does : Acts (Does per m 0 3 0) (xx_mul_of (top m))
  unfolding xx_mul_of
  xx_mul-does = acting (puts-does per m s here 6 0 3 (extension_words _ (mul_x-words (xst (top m) 0) (xst (top m) 3))) (omega arith) refl)

  pub x_invert-does : Acts (Does per m 0 0 0) (x_invert_of (top m))
  unfolding x_invert_of
  x_invert-does =
      acts-unless (zero_x (xst (top m) 0)) _ (λ _. acting (puts-does per m s here 3 0 0 (extension_words _ (inverse_x-words (xst (top m) 0))) (omega arith) refl))

  pub xb_mul-does : Acts (Does per m 0 1 0) (xb_mul_of (top m))
  unfolding xb_mul_of
  xb_mul-does = acting (puts-does per m s here 4 0 1 (extension_words _ (scale_x-words (st (top m) 0) (xst (top m) 1))) (omega arith) refl)
