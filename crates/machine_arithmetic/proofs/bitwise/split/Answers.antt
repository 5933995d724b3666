use Rattle.std.proofs.Common.{◌≡◌, ℕ, ◌∙◌, ◌/◌, ◌%◌, ◌^◌, ap, [], ◌∷◌}
use Rattle.machine.specs.Machine.{st}
use Rattle.machine.specs.Effect.{recording, u32}
use Rattle.machine.specs.Bitwise.{split_of}
use Rattle.machine_effects.proofs.Effects.{acts_as}
use Rattle.machine_arithmetic.proofs.bitwise.split.Goals as goal

pub returns : goal.returns
unfolding split_of
returns c =
    let a = c.st-a.ensures in
    let h : c.high-hi.result ≡ st c.args.w.now.words 0 / 2 ^ 32 = c.high-hi.ensures.0 ∙ ap (λ (x : ℕ). x / 2 ^ 32) a in
    let l : c.low-lo.result ≡ st c.args.w.now.words 0 % 2 ^ 32 = c.low-lo.ensures.0 ∙ ap (λ (x : ℕ). x % 2 ^ 32) a in
    acts_as _ (rw c.new-call.ensures at c.puts_u32.ensures ∙ ap (recording (u32 4 c.low-lo.result c.high-hi.result ∷ []) 1) c.of.ensures.words) ∙ rw (h, l)
