use Rattle.std.proofs.Common.{◌∙◌, ap}
use Rattle.machine.specs.Effect.{recording}
use Rattle.machine.specs.Hashing.{reversed}
use Rattle.machine_effects.specs.EffectView.{accesses_of}
use Rattle.machine_hashing.proofs.hashing.put_read.Goals as goal

pub returns : goal.returns
unfolding reversed
returns c = c.puts_ram.ensures ∙ ap (recording (accesses_of c.args.row.now.accesses) 5) c.of.ensures.words
