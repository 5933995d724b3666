use Rattle.std.proofs.Common.{◌≡◌}
use Rattle.machine.specs.Refusal.{found_a}
use Rattle.machine.specs.PlaceA.{opcodes3, arguments4}
use Rattle.machine_place_a.proofs.checks.check_slots.Given as goal

-- no opcode so far is unknown
abbrev pub invariant-loop-i : goal.invariant-loop-i
invariant-loop-i l = (opcodes3 l.code.opcodes.now l.i ≡ 0) × (found_a l.arguments ≡ arguments4 l.code.opcodes.now l.code.arguments.now l.i)
