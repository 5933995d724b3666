-- A piece that is written goes behind what was written before.
use Rattle.runjob.proofs.Writing.{wrote-first, wrote-next, wrote-all}
use Rattle.runjob.proofs.print_job.Goals as goal

pub loop-next-init : goal.loop-next-init
loop-next-init g c = wrote-first c.in_ok-next.ensures c.new-text.ensures.bytes (rw c.as_bytes.ensures.value at c.in_ok-write_all.ensures.bytes)

pub loop-next-preserved : goal.loop-next-preserved
loop-next-preserved g c =
    let p = c.in_ok-next-2.ensures in
    wrote-next (rw c.in-Some.is at c.loop-next.invariant) c.clear.ensures.bytes p.1 (rw c.as_bytes-in-Some.ensures.value at c.in_ok-write_all-2.ensures.bytes) p.2 p.3

pub returns : goal.returns
returns g c = wrote-all _ c.in_default.not-Some c.loop-next.invariant
