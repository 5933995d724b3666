use Rattle.std.proofs.Common.{◌∙◌, ap, refl, arith}
use Rattle.machine.specs.Refusal.{refusal_of}
use Rattle.machine.specs.Hashing.{sponge_absorb_mem_of, absorbed_mem}
use Rattle.machine_hashing.specs.HashedView.{trace_last}
use Rattle.machine_hashing.proofs.HashedLaws.{hashed-acts, hashed-refuses, reversed-front}
use Rattle.machine_hashing.proofs.hashing.sponge_absorb_mem.Goals as goal

pub returns-then-not-sponge : goal.returns-then-not-sponge
unfolding sponge_absorb_mem_of refusal_of
returns-then-not-sponge c = rw (c.into.ensures, hashed-refuses _, c.if-not-sponge.true)

pub returns : goal.returns
unfolding sponge_absorb_mem_of absorbed_mem
returns c =
    hashed-acts _ (c.last.ensures ∙ ap (trace_last 34 c.trace-t.result) c.put_read.ensures)
    ∙ rw (
      c.trace-t.ensures.is,
      c.overwritten.ensures,
      reversed-front c.read_row-row.result.words 4 10 (omega arith),
      c.read_row-row.ensures.words,
      c.read_row-row.ensures.reads,
      c.read_row-row.ensures.next 10 refl,
      c.st.ensures,
      c.if-not-sponge.false,
    )
