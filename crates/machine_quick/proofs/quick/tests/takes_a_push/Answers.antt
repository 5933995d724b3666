use Rattle.std.proofs.Common.{refl, [], arith}
use Rattle.choices.specs.Choice.{first_of, above_of, differ_of}
use Rattle.machine.specs.Words.{word_of2, words_of, zeros_from}
use Rattle.machine.specs.Ram.{cells1, cells2, cells5, falls_of}
use Rattle.machine.specs.Instruction.{table, decode}
use Rattle.machine.specs.PlaceA.{code1, memory1, code2, machine2, opcodes3, arguments4, code34, revision4, machine5, machine_a}
use Rattle.machine.proofs.PlaceA.{machine-sound}
use Rattle.machine_quick.proofs.quick.tests.takes_a_push.Goals as goal

pub quick-requires : goal.quick-requires
unfolding first_of above_of differ_of word_of2 words_of zeros_from cells1 cells2 cells5 falls_of table decode code1 memory1 code2 machine2 opcodes3 arguments4 code34 revision4 machine5 machine_a
quick-requires g c = record { digests = []; output = []; sound = machine-sound _ refl (omega arith) refl; on = refl }
