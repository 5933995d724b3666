use Rattle.std.proofs.Common.{◌∙◌, ap, [], ◌∷◌}
use Rattle.machine.specs.Effect.{recording}
use Rattle.machine_effects.specs.EffectView.{u32_of}
use Rattle.machine_effects.proofs.Effects.{acts_as}
use Rattle.machine_arithmetic.proofs.bitwise.put.Goals as goal

pub returns : goal.returns
returns c = acts_as _ (c.puts_u32.ensures ∙ ap (recording (u32_of c.args.call ∷ []) c.args.pops) c.of.ensures.words)
