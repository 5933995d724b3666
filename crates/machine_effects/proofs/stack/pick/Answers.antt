use Rattle.std.proofs.Common.{◌≡◌, ℕ, List, length, ◌∙◌, ap, rules}
use Rattle.machine.specs.Effect.{acts, puts}
use Rattle.machine.specs.Stack.{pick_of}
use Rattle.machine_effects.proofs.Effects.{acts_as}
use Rattle.machine_effects.proofs.Window.{picked-is}
use Rattle.machine_effects.proofs.stack.pick.Goals as goal

pub returns : goal.returns
unfolding pick_of
returns c =
    let w = c.args.w.now.words in
    let l : length w ≡ 16 = search rules in
    rw (acts_as _ (c.puts.ensures ∙ ap (puts 16) c.of.ensures.words), c.st.ensures, c.copy_within.ensures.after)
    (ap (λ (ws : List ℕ). acts (puts 16 ws)) (picked-is w c.args.i l c.requires))
