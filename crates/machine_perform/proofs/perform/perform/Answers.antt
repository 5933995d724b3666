use Rattle.std.proofs.Common.{arith}
use lib.Seq.{length-take-le}
use Rattle.machine.specs.Lent.{memory_of}
use Rattle.machine_perform.proofs.PerformLaws.{performed-is}
use Rattle.machine_perform.proofs.perform.perform.Goals as goal

pub apply-requires : goal.apply-requires
apply-requires c =
    let w = c.args.effect.now.words in
    (c.requires.moves.pops, c.requires.depth, omega (arith, c.requires.deeper, length-take-le w.count w.words w.fits))

pub put_out-requires : goal.put_out-requires
put_out-requires c = c.requires.output

pub write_all-used-requires : goal.write_all-used-requires
write_all-used-requires c = c.requires.writes

pub moved-requires : goal.moved-requires
moved-requires c = c.requires.moves

pub returns-clause-performed : goal.returns-clause-performed
returns-clause-performed c =
    let x = c.args in
    performed-is x.state.now x.effect.now x.pointer x.sponge.now (memory_of x.memory.now) c.moved.result c.write_all-used.result _ _ _ _ _ _
    c.apply.ensures c.change_jumps.ensures.origins c.change_jumps.ensures.destinations c.write_all-used.ensures c.put_out.ensures c.moved.ensures
