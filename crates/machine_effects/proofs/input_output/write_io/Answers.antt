use Rattle.std.proofs.Common.{ℕ, List, ap, ◌∙◌, take}
use Rattle.machine.specs.Effect.{Effect, acts, writing}
use Rattle.machine.specs.InputOutput.{write_io_of}
use Rattle.machine_effects.specs.EffectView.{effect_of}
use Rattle.machine_effects.proofs.Effects.{acts_as}
use Rattle.machine_effects.proofs.Window.{top_five, five_of}
use Rattle.machine_effects.proofs.input_output.write_io.Goals as goal

pub returns : goal.returns
unfolding write_io_of effect_of
returns c =
    let w = c.args.w.now.words in
    let n = c.args.n in
    rw (c.st.ensures, c.st-2.ensures, c.st-3.ensures, c.st-4.ensures, c.st-5.ensures)
    (acts_as _ (ap {A = Effect} (λ e. record e { output = take n (five_of w) }) c.takes_off.ensures) ∙ ap (λ (ws : List ℕ). acts (writing n ws)) (top_five w n c.requires))
