use Rattle.std.proofs.Common.{arith, sym}
use Rattle.machine.specs.Records.{length_of}
use Rattle.machine.proofs.Records.{length-small}
use Rattle.job.specs.Frame.{whole_by}
use Rattle.job.proofs.FrameLaws.{size_short, size_is}
use Rattle.job.proofs.log_lines.record_in.Goals as goal

pub returns-then-log-lt4 : goal.returns-then-log-lt4
returns-then-log-lt4 c = size_short _ _ c.if-log-lt4.true

pub returns-in_err-length_of : goal.returns-in_err-length_of
unfolding whole_by
returns-in_err-length_of c =
    rw c.from_residual.ensures (size_is (length_of 1) c.args.log.now c.kind_in.result 0 (omega arith) c.kind_in.ensures (sym c.in_err-length_of.ensures))

pub whole_in-requires : goal.whole_in-requires
whole_in-requires c = (c.if-log-lt4.false, rw (c.in_ok-length_of.ensures.0) (length-small 1 c.kind_in.result))

pub returns : goal.returns
returns c = rw (size_is (length_of 1) c.args.log.now c.kind_in.result c.in_ok-length_of.field-0 (omega arith) c.kind_in.ensures c.in_ok-length_of.ensures.0) c.whole_in.ensures
