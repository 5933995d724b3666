use native.Mathlib.Omega.{arith}
use Rattle.tip5.proofs.hash.Laws.{padded-before, padded-one, padded-after}
use Rattle.tip5.proofs.hash.padded_word.Goals as goal

pub returns-then-k-input : goal.returns-then-k-input
returns-then-k-input c = padded-before _ _ (omega arith)

pub returns-then-k-input-2 : goal.returns-then-k-input-2
returns-then-k-input-2 c = padded-one _ _ (omega arith)

pub returns-else-k-input-2 : goal.returns-else-k-input-2
returns-else-k-input-2 c = padded-after _ _ (omega arith)
