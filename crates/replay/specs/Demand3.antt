-- What demand 3 claims, of an instruction set. What stands in quotation marks are the demand's own words.
use Rattle.std.specs.Prelude.{ℕ, ◌-◌, ◌≤◌, ◌<◌, ◌≡◌, List, [], ◌∷◌, ◌++◌, length, take, replicate}
use Rattle.choices.specs.Choice.{cond}
use Rattle.machine.specs.Lengths.{longest}
use Rattle.machine.specs.Ram.{Cells, cells, Alike}
use Rattle.machine.specs.Machine.{Machine, Code, Memory}
use Rattle.machine.specs.Machine as M
use Rattle.machine.specs.Effect.{Decision}
use Rattle.machine.specs.Decide.{decide_of}
use Rattle.machine.specs.Apply.{took}
use Rattle.machine.specs.Bytes.{Bytes, bytes_of, is_word}
use Rattle.machine.specs.Records.{Record, other, timed, stack, ram, record_bytes, log_bytes}
use Rattle.machine.specs.FeeTable.{Fees}
use Rattle.machine.specs.Open.{open_of}
use Rattle.replay.specs.Replay.{Replayed, replay_of, refuses}
use Rattle.replay.specs.Job.{Ask, job_of, records_of_job, machine_at}

-- the words below the top sixteen, bottom first, and 0 behind them
unfoldable pub under : List ℕ → ℕ → List ℕ
under s depth = take (depth - 16) s ++ replicate (length s - (depth - 16)) 0

-- "rebuilds exactly the RAM after j steps, the stack depth, and every stack word below the top sixteen"
pub record Rebuilt (r : Replayed) (m : Machine) : Type 0 where
  pub succeeds : r.number ≡ 0
  pub depth : r.depth ≡ m.state.depth
  pub used : Alike (cells r.count r.addresses r.values) (M.ram m)
  pub words : r.words ≡ under m.memory.op_stack m.state.depth

-- "any one memory read logged at a clock below j": a record of kind 4 or 5 with direction 0, and its value
pub data Read (j : ℕ) : Record → ℕ → Type 0 where
  of_stack : {t q v : ℕ} → t < j → Read j (stack t q 0 v) v
  of_ram : {t a v : ℕ} → t < j → Read j (ram t a v 0) v

-- the record's bytes in a log of revision v, with these eight in place of its value
unfoldable pub altered : ℕ → Record → List ℕ → List ℕ
altered v (other k b) w = record_bytes v (other k b)
altered v (timed k t b) w = record_bytes v (timed k t b)
altered v (stack t q d x) w = bytes_of 2 23 ++ bytes_of 2 4 ++ bytes_of 4 t ++ bytes_of 8 q ++ (d ∷ w)
altered v (ram t a x d) w = bytes_of 2 23 ++ bytes_of 2 5 ++ bytes_of 4 t ++ bytes_of 8 a ++ w ++ (d ∷ [])

-- "replay from the opening RAM and that log alone, in slices as long as the job's": a stack slice of zeros as long as the op stack; told the
-- revision that the opening chose
abbrev pub replayed : Machine → Cells → List ℕ → ℕ → Replayed
replayed m c log j = replay_of m.state.revision log c (replicate (length m.memory.op_stack) 0) j

module _ (decide : Machine → Decision) where
  -- "every list of step and run calls on a freshly opened job, refused ones included": the demand asks for step and run; trace_execution
  -- and trace_rows are more, and so are fee tables. m is what open left, c the cells lent to replay, whose unused ones are free; "a call log of at most 16 MiB"; "every clock j
  -- from 0 to k"
  pub record Case (m : Machine) (c : Cells) (asks : List Ask) (j : ℕ) : Type 0 where
    pub fees : Fees
    pub revision : ℕ
    pub digest : List ℕ
    pub code : Code
    pub memory : Memory
    pub count : ℕ
    pub opens : open_of fees revision digest code memory count ≡ took m
    pub same : Alike c (M.ram m)
    pub short : length (log_bytes m.state.revision (records_of_job decide m asks)) ≤ longest
    pub clock : j ≤ length (job_of decide m asks)

  pub record Demand3 : Type 0 where
    pub rebuilds :
        (m : Machine) (c : Cells) (asks : List Ask) (j : ℕ) → Case m c asks j →
        Rebuilt (replayed m c (log_bytes m.state.revision (records_of_job decide m asks)) j) (machine_at decide m asks j)
    -- "if the value of any one memory read logged at a clock below j is altered, to any other eight bytes and with all else
    -- kept, replay refuses": with 40 if they are no word's, else with 43
    pub detects :
        (m : Machine) (c : Cells) (asks : List Ask) (j : ℕ) → Case m c asks j →
        (before after : List Record) (r : Record) (v : ℕ) (b : List ℕ) → records_of_job decide m asks ≡ before ++ r ∷ after → Read j r v →
        Bytes b → length b ≡ 8 → (b ≡ bytes_of 8 v → ⊥) →
        replayed m c (log_bytes m.state.revision before ++ altered m.state.revision r b ++ log_bytes m.state.revision after) j
        ≡ refuses (cond (is_word b) 43 40) (replicate (length m.memory.op_stack) 0) c

-- of the real machine
abbrev pub Demand3OfTriton : Type 0
Demand3OfTriton = Demand3 decide_of
