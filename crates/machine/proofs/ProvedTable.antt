-- Each line of document 01's proved table is answered as expected, by computation. Assumes nothing.
use mathlib.Core.Path.{◌≡◌, refl}
use Rattle.field.specs.Extension.{mul_x}
use Rattle.tip5.specs.SplitAndLookup.{lookup_of}
use Rattle.choices.specs.Choice.{first_of, above_of, differ_of}
use Rattle.machine.specs.Words.{word_of2, words_of, zeros_from}
use Rattle.machine.specs.Ram.{place_from, place_of, stands_at, find, held, cells1, cells2, cells5, fall_of, falls_of}
use Rattle.machine.specs.Instruction.{table, decode, size_of}
use Rattle.machine.specs.Machine.{top_of}
use Rattle.machine.specs.Stack.{pop_of}
use Rattle.machine.specs.Control.{skiz_of}
use Rattle.machine.specs.Memory.{words_by, reads_by, read_mem_of}
use Rattle.machine.specs.Hashing.{from_top, reversed}
use Rattle.machine.specs.Arithmetic.{add_of, xx_mul_of}
use Rattle.machine.specs.Bits.{ones_of, highest_of, either_of}
use Rattle.machine.specs.Bitwise.{split_of, lt_of, xor_of, log2_floor_of, pow_of, div_mod_of, pop_count_of}
use Rattle.machine.specs.Decide.{effect_of, decide_of}
use Rattle.machine.specs.Apply.{applied_stack, touched, performed, dropped, limits_of, settled}
use Rattle.machine.specs.Lengths.{clock_bytes, most_bytes}
use Rattle.machine.specs.PlaceA.{revision4, code1, memory1, buffer1, code2, machine2, opcodes3, arguments4, code34, machine5, machine_a, step_a}
use Rattle.machine.specs.Step.{outcome_by, step_by}
use Rattle.machine.specs.ProvedTable.{standing, asked, stepping, proved_table, seen_in, expected_in}

pub proved_table_lem : seen_in proved_table ≡ expected_in proved_table
unfolding proved_table stepping asked standing outcome_by step_by most_bytes clock_bytes revision4 code1 memory1 buffer1 code2 machine2 opcodes3 arguments4 code34 machine5 machine_a step_a applied_stack touched performed dropped limits_of settled effect_of decide_of split_of lt_of xor_of log2_floor_of pow_of div_mod_of pop_count_of ones_of highest_of either_of add_of xx_mul_of from_top reversed words_by reads_by read_mem_of skiz_of pop_of top_of table decode size_of place_from place_of stands_at find held cells1 cells2 cells5 fall_of falls_of word_of2 words_of zeros_from first_of above_of differ_of mul_x lookup_of
proved_table_lem = refl
