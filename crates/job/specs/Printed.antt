-- What runjob prints for a file: the stack lines of the steps that succeeded, the output's lines, the end line.
use Rattle.std.specs.Prelude.{List, [], ◌∷◌, ◌++◌, ℕ, length, take, replicate, eqb}
use Rattle.choices.specs.Choice.{cond}
use Rattle.machine.specs.Machine.{Code, Memory, Machine, code, memory}
use Rattle.machine.specs.Decide.{decide_of}
use Rattle.machine.specs.Apply.{Outcome, took, kept, lost}
use Rattle.machine_log.specs.Logged.{logged}
use Rattle.machine.specs.FeeTable.{unpriced}
use Rattle.machine.specs.Open.{open_of}
use Rattle.machine.specs.Path.{Ending, halted, spent, full, refused, Path, count, unlogged, path_by, log_from}
use Rattle.job.specs.Listing.{out_line, halted_line, spent_line, refused_line}
use Rattle.job.specs.LogLines.{lines_of}
use Rattle.job.specs.JobFile.{Job, job_of}

-- ---- the parts

unfoldable pub out_lines : List ℕ → List ℕ
out_lines [] = []
out_lines (w ∷ ws) = out_line w ++ out_lines ws

-- how a run ended; steps, pointer, depth. A run is never full
unfoldable pub end_line : Ending → ℕ → ℕ → ℕ → List ℕ
end_line halted n q d = halted_line n q d
end_line spent n q d = spent_line n q d
end_line (full w) n q d = []
end_line (refused r) n q d = refused_line r.number n q d

-- where no job was opened the last three are 0
abbrev pub not_opened : ℕ → List ℕ
not_opened k = refused_line k 0 0 0

-- ---- an opened job

abbrev pub output_of : Machine → List ℕ
output_of m = take m.state.outputs m.memory.output

-- the lines of a path p from m; n is how many steps the end line says
unfoldable pub path_lines : ℕ → Machine → Path → List ℕ
path_lines n m p = lines_of (log_from decide_of m p.machines) ++ (out_lines (output_of p.left) ++ end_line p.ending n p.left.state.pointer p.left.state.depth)

unfoldable pub run_lines : ℕ → Machine → List ℕ
run_lines budget m = let p = path_by decide_of unlogged budget m in path_lines (count p) m p

-- ---- a file

abbrev pub code_of : Job → Code
code_of j = code j.opcodes j.arguments j.public j.secret j.digests

-- what runjob lends, with the file's cells in it
abbrev pub memory_of : Job → Memory
memory_of j =
    memory (replicate 4096 0) (replicate 1024 0) (replicate 1024 0) (logged (replicate 4096 0) 0 j.addresses) (logged (replicate 4096 0) 0 j.values) (replicate 4096 0)

abbrev pub on_opened : ℕ → Outcome → List ℕ
on_opened budget (took m) = run_lines budget m
on_opened budget (kept r) = not_opened r.number
on_opened budget (lost r x) = not_opened r.number

unfoldable pub job_lines : Job → List ℕ
job_lines j =
    cond (eqb j.number 0)
    (on_opened j.budget (open_of unpriced 1 j.digest (code_of j) (memory_of j) (length j.addresses)))
    (not_opened j.number)

abbrev pub printed_of : List ℕ → List ℕ
printed_of file = job_lines (job_of file)
