use mathlib.Core.Path.{refl}
use Rattle.tip5.specs.Matrix.{column, sum_to}
use Rattle.tip5.specs.Split.{coefficients}
use Rattle.tip5.specs.Tab.{tab}
use Rattle.tip5.proofs.matrix.coefficient_table.Goals as goal

pub returns : goal.returns
unfolding coefficients column tab sum_to
returns c = refl
