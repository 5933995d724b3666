-- Lists of words.
use Rattle.std.specs.Prelude.{List, ℕ, ◌<◌, get_or}
use Rattle.field.specs.Base.{p}

-- each element is below p
abbrev pub Words : List ℕ → Type 0
Words l = (k : ℕ) → get_or l k 0 < p
