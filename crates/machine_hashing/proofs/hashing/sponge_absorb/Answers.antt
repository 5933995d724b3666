use Rattle.std.proofs.Common.{◌∙◌, ap}
use Rattle.machine.specs.Refusal.{refusal_of}
use Rattle.machine.specs.Hashing.{sponge_absorb_of, absorbed, from_top}
use Rattle.machine_hashing.specs.HashedView.{trace_last}
use Rattle.machine_hashing.proofs.HashedLaws.{hashed-acts, hashed-refuses}
use Rattle.machine_hashing.proofs.hashing.sponge_absorb.Goals as goal

pub returns-then-not-sponge : goal.returns-then-not-sponge
unfolding sponge_absorb_of refusal_of
returns-then-not-sponge c = rw (c.into.ensures, hashed-refuses _, c.if-not-sponge.true)

pub returns : goal.returns
unfolding sponge_absorb_of absorbed from_top
returns c =
    hashed-acts _ (c.last.ensures ∙ ap (trace_last 34 c.trace-t.result) c.takes_off.ensures)
    ∙ rw (c.trace-t.ensures.is, c.overwritten.ensures, c.top_first.ensures, c.if-not-sponge.false)
