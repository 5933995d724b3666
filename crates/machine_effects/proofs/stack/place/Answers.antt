use Rattle.std.proofs.Common.{◌≡◌, ℕ, List, length, ◌∙◌, ap, rules}
use Rattle.machine.specs.Effect.{acts, puts}
use Rattle.machine.specs.Stack.{place_of}
use Rattle.machine_effects.proofs.Effects.{acts_as}
use Rattle.machine_effects.proofs.Window.{placed-is}
use Rattle.machine_effects.proofs.stack.place.Goals as goal

pub returns : goal.returns
unfolding place_of
returns c =
    let w = c.args.w.now.words in
    let l : length w ≡ 16 = search rules in
    rw (acts_as _ (c.puts.ensures ∙ ap (puts 16) c.of.ensures.words), c.st.ensures, c.copy_within.ensures.after)
    (ap (λ (ws : List ℕ). acts (puts 16 ws)) (placed-is w c.args.i l c.requires))
