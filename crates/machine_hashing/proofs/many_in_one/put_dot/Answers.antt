use Rattle.std.proofs.Common.{◌∙◌, ap}
use Rattle.machine.specs.Effect.{recording}
use Rattle.machine_effects.specs.EffectView.{accesses_of}
use Rattle.machine_effects.proofs.Effects.{acts_as}
use Rattle.machine_hashing.proofs.many_in_one.put_dot.Goals as goal

pub returns : goal.returns
returns c = acts_as _ (c.puts_ram.ensures ∙ ap (recording (accesses_of c.args.accesses) 5) c.of-words.ensures.words)
