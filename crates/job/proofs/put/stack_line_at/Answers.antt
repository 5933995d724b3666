use Rattle.std.proofs.Common.{◌≡◌, ◌+◌, ◌-◌, arith, take, drop}
use Rattle.machine.specs.Records.{record_of}
use Rattle.job.specs.Listing.{stack_line}
use Rattle.job.specs.LogLines.{line_of}
use Rattle.job.proofs.ListingLaws.{put_as}
use Rattle.job.proofs.put.stack_line_at.Goals as goal

pub returns : goal.returns
returns c =
    let l = c.stack_line_in-line.result in
    let n : c.args.at + 25 - c.args.at ≡ 25 = omega arith in
    let e : stack_line l.clock l.pointer c.direction_byte-dir.result l.value ≡ line_of (record_of 4 (take 25 (drop c.args.at c.args.log.now))) =
    rw (c.direction_byte-dir.ensures, ← n) c.stack_line_in-line.ensures in
    put_as c.stack_line.ensures e (rw (← e) c.stack_line.ensures.few)
