use Rattle.std.proofs.Common.{◌∙◌, ap}
use Rattle.machine.specs.Effect.{puts}
use Rattle.machine.specs.Refusal.{refusal_of}
use Rattle.machine.specs.Hashing.{sponge_squeeze_of, squeezed}
use Rattle.machine_hashing.specs.HashedView.{trace_last}
use Rattle.machine_hashing.proofs.HashedLaws.{hashed-acts, hashed-refuses}
use Rattle.machine_hashing.proofs.hashing.sponge_squeeze.Goals as goal

pub returns-then-not-sponge : goal.returns-then-not-sponge
unfolding sponge_squeeze_of refusal_of
returns-then-not-sponge c = rw (c.into.ensures, hashed-refuses _, c.if-not-sponge.true)

pub returns : goal.returns
unfolding sponge_squeeze_of squeezed
returns c =
    hashed-acts _ (c.last.ensures ∙ ap (trace_last 56 c.trace-t.result) (c.puts.ensures ∙ ap (puts 0) c.of.ensures.words))
    ∙ rw (c.rate.ensures, c.trace-t.ensures.is, c.if-not-sponge.false)
