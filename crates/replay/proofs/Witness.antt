-- Demand 3 is not empty: its case is met by a job with a refused call, runs, calls of trace_execution and a read of the op stack, and both halves
-- compute on it. And a log that no job writes. Assumes nothing.
use mathlib.Core.Path.{◌≡◌, refl, ap, ◌∙◌}
use mathlib.Core.List.{List, [], ◌∷◌, ◌++◌}
use Prim.Native.Nat.{ℕ, ◌≤◌}
use native.Mathlib.Omega.{arith}
use lib.ListN.{length, replicate}
use lib.Dec.{lit≤, lit<}
use Rattle.choices.specs.Choice.{cond, first_of, above_of, differ_of}
use Rattle.machine.specs.Bytes.{Bytes, none, more, bytes_of, below_from, is_word}
use Rattle.machine.specs.Lengths.{clock_bytes, most_bytes}
use Rattle.machine.specs.Words.{word_of2, words_of, zeros_from}
use Rattle.machine.specs.Ram.{cells, place_from, place_of, stands_at, find, held, cells1, cells2, cells5, fall_of, falls_of}
use Rattle.machine.specs.Instruction.{table, decode, size_of}
use Rattle.machine.specs.Machine.{Machine, Code, Memory, code, memory, top_of}
use Rattle.machine.specs.Machine as M
use Rattle.machine.specs.Stack.{push_of, pop_of}
use Rattle.machine.specs.Control.{halt_of}
use Rattle.machine.specs.Decide.{effect_of, decide_of}
use Rattle.machine.specs.Apply.{took, applied_stack, touched, performed, limits_of, settled}
use Rattle.machine.specs.PlaceA.{code1, memory1, buffer1, code2, machine2, opcodes3, arguments4, code34, revision4, machine5, machine_a, step_a, open_a}
use Rattle.machine.specs.Open.{opened_stack, opened, open_of}
use Rattle.machine.specs.Step.{outcome_by, step_by}
use Rattle.machine.specs.Path.{the_log, full, stays, step_log, path_by, log_from}
use Rattle.machine.specs.FeeTable.{FeeTable, fee_table, in_row, times_in, wide1, table1, turned64, rows64, lowest_opcode, unpriced65, priced_twice66, table_fault, unpriced, priced}
use Rattle.machine.specs.Run.{call_a, call_by}
use Rattle.machine.specs.Records.{stack, call_records, growing, shrinking, stack_records, records_of, record_bytes, log_bytes}
use Rattle.machine.proofs.RamLaws.{alike_same}
use Rattle.replay.specs.Job.{Ask, step, run, trace, ask_of, job_of, records_of_job, machine_at}
use Rattle.replay.specs.Replay.{tally_at, with_stack, started, word40, fields40, clock41, stack45, stack_fault, stack_turn, judged, read_of, bad, replay_records}
use Rattle.replay.specs.Demand3.{Rebuilt, of_stack, altered, replayed, Case}
use Rattle.replay.proofs.Triton.{demand_3_of_triton}

-- push 7, pop 1, halt
unfoldable pub our_code : Code
our_code = code (1 ∷ 1 ∷ 3 ∷ 3 ∷ 0 ∷ []) (7 ∷ 7 ∷ 1 ∷ 1 ∷ 0 ∷ []) [] [] []

unfoldable pub our_memory : Memory
our_memory = memory (replicate 20 9) [] [] (4 ∷ 0 ∷ []) (8 ∷ 0 ∷ []) []

pub our_digest : List ℕ
our_digest = 1 ∷ 2 ∷ 3 ∷ 4 ∷ 5 ∷ []

unfoldable pub our : Machine
our = opened 1 our_digest our_code our_memory 1

-- one row for all, and none
unfoldable pub one_row : FeeTable
one_row = fee_table (0 ∷ []) (127 ∷ []) (3 ∷ [])

unfoldable pub no_rows : FeeTable
no_rows = fee_table [] [] []

-- a step with no buffer (refused by 1), a run of 0, one with a bad fee table (refused by 65), a trace of 9 with no log (full at once), one with a log for one step, a run of 1 with a good table, a run of 9
unfoldable pub asks : List Ask
asks = step unpriced [] ∷ run unpriced 0 ∷ run (priced no_rows) 9 ∷ trace unpriced 9 [] ∷ trace unpriced 9 (replicate 1024 0) ∷ run (priced one_row) 1 ∷ run unpriced 9 ∷ []

our-opens : open_of unpriced 1 our_digest our_code our_memory 1 ≡ took our
unfolding our our_code our_memory our_digest opened_stack opened open_of code1 memory1 code2 opcodes3 arguments4 code34 revision4 open_a table decode place_from place_of stands_at find held cells1 cells2 cells5 fall_of falls_of word_of2 words_of zeros_from first_of above_of differ_of
our-opens = refl

pub our_records : records_of_job decide_of our asks ≡ stack 0 16 1 5 ∷ stack 1 16 0 5 ∷ []
unfolding our asks our_code our_memory our_digest log_from job_of ask_of path_by most_bytes clock_bytes call_a call_by one_row no_rows in_row times_in wide1 table1 turned64 rows64 lowest_opcode unpriced65 priced_twice66 table_fault step_log log_bytes record_bytes bytes_of step_by buffer1 step_a machine_a machine2 machine5 outcome_by call_records growing shrinking stack_records records_of opened_stack opened code1 memory1 code2 opcodes3 arguments4 code34 revision4 applied_stack touched performed limits_of settled effect_of decide_of push_of pop_of halt_of top_of table decode size_of place_from place_of stands_at find held cells1 cells2 cells5 fall_of falls_of word_of2 words_of zeros_from first_of above_of differ_of
our_records = refl

pub our-steps : length (job_of decide_of our asks) ≡ 3
unfolding our asks our_code our_memory our_digest job_of ask_of path_by most_bytes clock_bytes call_a call_by one_row no_rows in_row times_in wide1 table1 turned64 rows64 lowest_opcode unpriced65 priced_twice66 table_fault step_log log_bytes record_bytes bytes_of step_by buffer1 step_a machine_a machine2 machine5 outcome_by call_records growing shrinking stack_records records_of opened_stack opened code1 memory1 code2 opcodes3 arguments4 code34 revision4 applied_stack touched performed limits_of settled effect_of decide_of push_of pop_of halt_of top_of table decode size_of place_from place_of stands_at find held cells1 cells2 cells5 fall_of falls_of word_of2 words_of zeros_from first_of above_of differ_of
our-steps = refl

-- the first trace takes no step, the second the job's first one
pub our-traced : (ask_of decide_of our (trace unpriced 9 []) ≡ stays (full the_log) our) × (log_from decide_of our (ask_of decide_of our (trace unpriced 9 (replicate 1024 0))).machines ≡ stack 0 16 1 5 ∷ [])
unfolding our our_code our_memory our_digest log_from ask_of path_by most_bytes clock_bytes call_a call_by one_row no_rows in_row times_in wide1 table1 turned64 rows64 lowest_opcode unpriced65 priced_twice66 table_fault step_log log_bytes record_bytes bytes_of step_by buffer1 step_a machine_a machine2 machine5 outcome_by call_records growing shrinking stack_records records_of opened_stack opened code1 memory1 code2 opcodes3 arguments4 code34 revision4 applied_stack touched performed limits_of settled effect_of decide_of push_of pop_of halt_of top_of table decode size_of place_from place_of stands_at find held cells1 cells2 cells5 fall_of falls_of word_of2 words_of zeros_from first_of above_of differ_of
our-traced = (refl, refl)

our-short : length (log_bytes our.state.revision (stack 0 16 1 5 ∷ stack 1 16 0 5 ∷ [])) ≤ 16777216
unfolding log_bytes record_bytes bytes_of
our-short = lit≤ tt

pub our_case : Case decide_of our (M.ram our) asks 2
our_case =
    record {
      fees = unpriced;
      revision = 1;
      digest = our_digest;
      code = our_code;
      memory = our_memory;
      count = 1;
      opens = our-opens;
      same = alike_same (M.ram our);
      short = rw our_records our-short;
      clock = omega (arith, our-steps);
    }

pub our-rebuilt : Rebuilt (replayed our (M.ram our) (log_bytes our.state.revision (records_of_job decide_of our asks)) 2) (machine_at decide_of our asks 2)
our-rebuilt = demand_3_of_triton.rebuilds our (M.ram our) asks 2 our_case

-- the read's value altered to the bytes of 6
abbrev pub six : List ℕ
six = 6 ∷ 0 ∷ 0 ∷ 0 ∷ 0 ∷ 0 ∷ 0 ∷ 0 ∷ []

six-bytes : Bytes six
six-bytes = more (lit< tt) (more (lit< tt) (more (lit< tt) (more (lit< tt) (more (lit< tt) (more (lit< tt) (more (lit< tt) (more (lit< tt) none)))))))

six_word : cond {A = ℕ} (is_word six) 43 40 ≡ 43
unfolding is_word below_from
six_word = refl

six-other : six ≡ bytes_of 8 5 → ⊥
unfolding bytes_of
six-other e = let z : ◌≡◌ {A = ℕ} 6 5 = cc in absurd (omega arith)

pub our_detected : (replayed our (M.ram our) (log_bytes our.state.revision (stack 0 16 1 5 ∷ []) ++ altered our.state.revision (stack 1 16 0 5) six ++ log_bytes our.state.revision []) 2).number ≡ 43
our_detected =
    ap (λ r. r.number) (demand_3_of_triton.detects our (M.ram our) asks 2 our_case (stack 0 16 1 5 ∷ []) [] (stack 1 16 0 5) 5 six our_records (of_stack (lit< tt)) six-bytes refl six-other)
    ∙ six_word

-- a stack write and the matching read within one clock, as a log stitched from two executions has them: no job's, and refused with 45
pub spliced : replay_records 1 (started (0 ∷ 0 ∷ []) (cells 0 [] [])) (stack 0 16 1 5 ∷ stack 0 16 0 5 ∷ []) ≡ bad 45
unfolding replay_records read_of judged fields40 word40 is_word below_from bytes_of clock41 stack_fault stack_turn stack45 tally_at with_stack first_of above_of differ_of
spliced = refl
