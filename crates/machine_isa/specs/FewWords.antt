-- The words of a few.
use Rattle.std.specs.Prelude.{ℕ, List, take}
use Rattle.machine_isa.specs.declared.few.Few.{Few}

abbrev pub words_of : {n : ℕ} → Few n → List ℕ
words_of f = take f.count f.words
