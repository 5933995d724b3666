use Rattle.std.proofs.Common.{◌<◌, length, ap, ◌∙◌, Some}
use borrow.Author.Tests.{lt-ltb, le-ltb}
use Rattle.machine.specs.Effect.{Effect, puts}
use Rattle.machine.specs.Refusal.{refusal_of}
use Rattle.machine.specs.InputOutput.{read_io_of}
use Rattle.machine_effects.specs.EffectView.{effect_of, Taken}
use Rattle.machine_effects.proofs.Effects.{acts_as, exits, none_is}
use Rattle.machine_effects.proofs.input_output.read_io.Goals as goal

pub returns-in_err-words : goal.returns-in_err-words
unfolding read_io_of refusal_of
returns-in_err-words c =
    let n = none_is c.first_words.result _ _ c.in_err-words.ensures.value in
    let l : length c.args.left.now < c.args.n = rw n.0 at c.first_words.ensures in
    rw (exits _ c.from_residual.result c.from_residual.ensures.1, n.1, lt-ltb _ _ l)

pub returns : goal.returns
unfolding read_io_of effect_of
returns c =
    let s : Taken c.args.left.now c.args.n (Some c.in_ok-words.words) = rw c.in_ok-words.ensures.ok_part at c.first_words.ensures in
    acts_as _ (ap {A = Effect} (λ e. record e { publics = c.args.n }) (c.puts.ensures ∙ ap (puts 0) s.1)) ∙ rw (le-ltb _ _ s.0)
