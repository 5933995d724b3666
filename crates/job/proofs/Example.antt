-- Document 01's example, by computation. Assumes nothing.
use mathlib.Core.Path.{◌≡◌, refl, ap, ◌∙◌}
use mathlib.Core.List.{[], ◌∷◌}
use Rattle.choices.specs.Choice.{first_of, above_of, differ_of}
use Rattle.machine.specs.Bytes.{bytes_of, number_of}
use Rattle.machine.specs.Words.{word_of2, words_of, zeros_from}
use Rattle.machine.specs.Ram.{place_from, place_of, stands_at, find, held, cells1, cells2, cells5, fall_of, falls_of}
use Rattle.machine.specs.Instruction.{table, decode, size_of}
use Rattle.machine.specs.Machine.{top_of}
use Rattle.machine.specs.Stack.{push_of}
use Rattle.machine.specs.Control.{halt_of}
use Rattle.machine.specs.InputOutput.{write_io_of}
use Rattle.machine.specs.Hashing.{from_top, reversed}
use Rattle.machine.specs.Arithmetic.{add_of}
use Rattle.machine.specs.Decide.{effect_of, decide_of}
use Rattle.machine.specs.Apply.{applied_stack, touched, performed, limits_of, settled}
use Rattle.machine.specs.PlaceA.{revision4, code1, memory1, code2, opcodes3, arguments4, code34, open_a}
use Rattle.machine.specs.Open.{opened_stack, opened, open_of}
use Rattle.machine.specs.Step.{outcome_by}
use Rattle.machine.specs.Path.{path_by, log_from}
use Rattle.machine.specs.Records.{call_records, growing, shrinking, stack_records, records_of}
use Rattle.machine_log.specs.Logged.{logged}
use Rattle.job.specs.Frame.{kind_in, whole_by, size_by}
use Rattle.job.specs.JobFile.{Job, length_in, file_record, piece_kind, piece_size, piece_in, pieces_in, pieces_of, count_of, numbers_in, column, fault_of, job_of}
use Rattle.job.specs.Example.{digest_record, example_file, example_text}
use Rattle.job.specs.Listing.{digits_of, decimal_of, field_of, direction_text, stack_line, out_line, counts_of, halted_line, refused_line}
use Rattle.job.specs.LogLines.{line_of, lines_of}
use Rattle.job.specs.Printed.{out_lines, end_line, path_lines, run_lines, job_lines, printed_of}

example_job : Job
example_job =
    record {
      number = 0;
      digest = 1 ∷ 2 ∷ 3 ∷ 4 ∷ 5 ∷ [];
      opcodes = 1 ∷ 1 ∷ 1 ∷ 1 ∷ 42 ∷ 19 ∷ 19 ∷ 0 ∷ [];
      arguments = 3 ∷ 3 ∷ 4 ∷ 4 ∷ 0 ∷ 1 ∷ 1 ∷ 0 ∷ [];
      public = [];
      secret = [];
      digests = [];
      addresses = [];
      values = [];
      budget = 16000000;
    }

example_job_lem : job_of example_file ≡ example_job
unfolding example_job example_file file_record length_in piece_kind piece_size piece_in pieces_in pieces_of count_of numbers_in column fault_of job_of kind_in whole_by size_by bytes_of number_of first_of above_of differ_of
example_job_lem = refl

example_lines : job_lines example_job ≡ example_text
unfolding example_job example_text job_lines run_lines path_lines end_line out_lines line_of lines_of digits_of decimal_of field_of direction_text stack_line out_line counts_of halted_line logged call_records growing shrinking stack_records records_of outcome_by path_by log_from opened_stack opened open_of code1 memory1 code2 opcodes3 arguments4 code34 revision4 open_a applied_stack touched performed limits_of settled effect_of decide_of add_of from_top reversed write_io_of halt_of push_of top_of table decode size_of place_from place_of stands_at find held cells1 cells2 cells5 fall_of falls_of word_of2 words_of zeros_from first_of above_of differ_of
example_lines = refl

-- document 01's example, from its bytes to what is printed
pub example : printed_of example_file ≡ example_text
example = ap job_lines example_job_lem ∙ example_lines

-- ---- the longest number

pub twenty_digits : decimal_of 18446744073709551615 ≡ 49 ∷ 56 ∷ 52 ∷ 52 ∷ 54 ∷ 55 ∷ 52 ∷ 52 ∷ 48 ∷ 55 ∷ 51 ∷ 55 ∷ 48 ∷ 57 ∷ 53 ∷ 53 ∷ 49 ∷ 54 ∷ 49 ∷ 53 ∷ []
unfolding decimal_of digits_of
twenty_digits = refl

-- ---- end lines of refusals

-- a file of a digest alone opens an empty program: "end refused 11 0 0 16"
pub digest_alone : printed_of digest_record ≡ 101 ∷ 110 ∷ 100 ∷ 32 ∷ 114 ∷ 101 ∷ 102 ∷ 117 ∷ 115 ∷ 101 ∷ 100 ∷ 32 ∷ 49 ∷ 49 ∷ 32 ∷ 48 ∷ 32 ∷ 48 ∷ 32 ∷ 49 ∷ 54 ∷ 10 ∷ []
unfolding refused_line job_lines run_lines path_lines end_line out_lines line_of lines_of digits_of decimal_of field_of direction_text stack_line out_line counts_of halted_line logged call_records growing shrinking stack_records records_of outcome_by path_by log_from opened_stack opened open_of code1 memory1 code2 opcodes3 arguments4 code34 revision4 open_a applied_stack touched performed limits_of settled effect_of decide_of add_of from_top reversed write_io_of halt_of push_of top_of table decode size_of place_from place_of stands_at find held cells1 cells2 cells5 fall_of falls_of word_of2 words_of zeros_from first_of above_of differ_of file_record length_in piece_kind piece_size piece_in pieces_in pieces_of count_of numbers_in column fault_of job_of kind_in whole_by size_by bytes_of number_of
digest_alone = refl

-- an empty file is broken: "end refused 50 0 0 0"
pub broken_file_lem : printed_of [] ≡ 101 ∷ 110 ∷ 100 ∷ 32 ∷ 114 ∷ 101 ∷ 102 ∷ 117 ∷ 115 ∷ 101 ∷ 100 ∷ 32 ∷ 53 ∷ 48 ∷ 32 ∷ 48 ∷ 32 ∷ 48 ∷ 32 ∷ 48 ∷ 10 ∷ []
unfolding job_lines refused_line counts_of field_of decimal_of digits_of file_record length_in piece_kind piece_size piece_in pieces_in pieces_of count_of numbers_in column fault_of job_of kind_in whole_by size_by bytes_of number_of first_of above_of differ_of
broken_file_lem = refl
