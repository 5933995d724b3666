-- Lists of words, as a result.
use Rattle.std.specs.Prelude.{List, ℕ}
use Rattle.tip5.specs.Words.{Words}

pub record AreWords (l : List ℕ) : Type 0 where
  pub words : Words l
