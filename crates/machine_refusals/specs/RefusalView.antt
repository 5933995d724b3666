-- What the code's struct of a refusal stands for.
use Rattle.machine.specs.Refusal.{Refusal}
use Rattle.machine_refusals.specs.declared.refusals.Refusal.{Refusal as RefusalIn}

abbrev pub refusal_in : RefusalIn → Refusal
refusal_in r = record { number = r.number; word0 = r.word0; word1 = r.word1; word2 = r.word2 }
