use Rattle.std.proofs.Common.{refl}
use Rattle.machine.specs.PlaceA.{opcodes3, arguments4}
use Rattle.machine.proofs.Refused.{handed_on, number_a_some}
use Rattle.machine_place_a.proofs.ChecksLaws.{slots_found, opcodes_more, arguments_more, slots_end}
use Rattle.machine_place_a.proofs.checks.check_slots.Goals as goal

pub loop-i-init : goal.loop-i-init
unfolding opcodes3 arguments4
loop-i-init c = (refl, refl)

pub returns-in_err-check_opcode : goal.returns-in_err-check_opcode
returns-in_err-check_opcode c =
    handed_on _ _ _ _ _ c.from_residual.ensures.1 (slots_found _ _ _ c.loop-i-test.true c.loop-i.invariant.0 c.in_err-check_opcode.ensures (number_a_some _))

pub loop-i-preserved : goal.loop-i-preserved
loop-i-preserved c =
    (opcodes_more _ _ c.loop-i.invariant.0 c.in_ok-check_opcode.ensures, arguments_more _ _ _ _ _ _ c.loop-i.invariant.1 c.check_argument.ensures c.and-arguments.ensures)

pub returns : goal.returns
returns c = slots_end _ _ _ c.loop-i.auto.i-end c.loop-i-test.false c.loop-i.invariant.0 c.loop-i.invariant.1
