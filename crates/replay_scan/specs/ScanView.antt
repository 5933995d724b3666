-- What the code gives for one record of a scan.
use Rattle.std.specs.Prelude.{ℕ, ◌+◌, ◌<◌, ◌≤◌, ◌≡◌, false, List, [], ◌∷◌, length, Option, Some, None, Result, MatchOption, MatchResult}
use Rattle.choices.specs.Choice.{first_of}
use Rattle.machine.specs.Ram.{Cells}
use Rattle.machine.specs.Records.{Record, timed}
use Rattle.replay_scan.specs.declared.record.Fields.{Fields}
use Rattle.replay_scan.specs.declared.fault.Fault.{Fault}
use Rattle.replay_scan.specs.declared.counts.Counts.{Counts}
use Rattle.replay_scan.specs.declared.scan.Turn.{Turn}
use Rattle.replay_scan.specs.FaultView.{fault_number}
use Rattle.replay_scan.specs.CountsView.{tally_of}
use Rattle.replay.specs.Replay.{Tally, with_stack, Built, built, fields40, clock41, stack45, stack_fault, stack_turn, Verdict, stops, wrong, goes, judged}
use Rattle.replay_scan.specs.Scan.{rest_of, over45, Fine, ram_in}

-- the depth's places are in the stack slice
pub record Places (s : List ℕ) (depth : ℕ) : Type 0 where
  pub low : 16 ≤ depth
  pub high : depth ≤ length s + 16

-- 42 to 45 of a record of the op stack, whose 45 is `over`, whatever the cells are
pub record StackFault (s : List ℕ) (depth : ℕ) (f : Fields) (over n : ℕ) : Type 0 where
  pub is : (l : Tally) (c : Cells) → over ≡ stack45 l f.clock f.dir → n ≡ stack_fault (built l depth s c) f.clock f.place f.dir f.value

-- a write has room, a read a word
pub record Movable (s : List ℕ) (depth : ℕ) (f : Fields) : Type 0 where
  pub places : Places s depth
  pub read : f.dir ≡ 0 → 17 ≤ depth
  pub write : 0 < f.dir → depth < length s + 16

-- what it makes of the stack
pub record Moved (s : List ℕ) (depth : ℕ) (f : Fields) (after : List ℕ) (r : ℕ) : Type 0 where
  pub is : (l : Tally) (c : Cells) → stack_turn (built l depth s c) f.clock f.dir f.value ≡ built (with_stack l f.clock f.dir) r after c
  pub places : Places after r
  pub room : length after ≡ length s

-- what a fault, or none, that ends the scan stands for
abbrev pub ended_by : Option Fault → Verdict
ended_by None = stops
ended_by (Some e) = wrong (fault_number e)

-- a stack or RAM record that has no fault up to 41
pub record OwnFine (j : ℕ) (n : Counts) (f : Fields) : Type 0 where
  pub early : f.clock < j
  pub fields : fields40 f.dir f.place f.value ≡ 0
  pub clock : clock41 (tally_of n) f.clock ≡ 0

-- one that ends the scan, whatever the rest of its faults is
pub record OwnEnds (j : ℕ) (n : Counts) (f : Fields) (e : Option Fault) : Type 0 where
  pub ends : (rest : ℕ) (x : Built) → judged j f.clock (first_of (fields40 f.dir f.place f.value) (first_of (clock41 (tally_of n) f.clock) rest)) x ≡ ended_by e

abbrev pub OwnTurn : ℕ → Counts → Fields → Result Unit (Option Fault) → Type 0
OwnTurn j n f r = MatchResult r (λ _. OwnFine j n f) (OwnEnds j n f)

-- what is counted behind a record whose 45 is `over`: m, unless it is one too many
abbrev pub Behind : ℕ → Tally → Option Counts → Type 0
Behind over m r = MatchOption r (over ≡ 45) (λ n. (over ≡ 0) × (m ≡ tally_of n))

-- a record x that goes on, whatever the cells are
pub record Goes (j : ℕ) (n : Counts) (depth : ℕ) (s : List ℕ) (x : Record) (after : List ℕ) (r : Turn) : Type 0 where
  pub tally : Tally
  pub is : (c : Cells) → rest_of j (built (tally_of n) depth s c) x ≡ goes (built tally r.depth after c)
  pub behind : Behind (over45 (tally_of n) x) tally r.counts
  pub fine : Fine x
  pub quiet : r.ram ≡ false → ram_in (x ∷ []) ≡ 0
  pub places : Places after r.depth
  pub room : length after ≡ length s

-- one that ends the scan, and leaves the stack as it is
pub record Ended (j : ℕ) (n : Counts) (depth : ℕ) (s : List ℕ) (x : Record) (after : List ℕ) (e : Option Fault) : Type 0 where
  pub is : (c : Cells) → rest_of j (built (tally_of n) depth s c) x ≡ ended_by e
  pub kept : after ≡ s

-- what a record x does
abbrev pub Turns : ℕ → Counts → ℕ → List ℕ → Record → List ℕ → Result Turn (Option Fault) → Type 0
Turns j n depth s x after r = MatchResult r (Goes j n depth s x after) (Ended j n depth s x after)

-- the same of a record that leaves the stack as it is
abbrev pub Stays : ℕ → Counts → ℕ → Record → Result Turn (Option Fault) → Type 0
Stays j n depth x r = (s : List ℕ) → Places s depth → Turns j n depth s x s r

-- what a record of kind 6 or 7 with the clock t does, whatever its fields are
abbrev pub Times : ℕ → Counts → ℕ → ℕ → Result Turn (Option Fault) → Type 0
Times j n depth t r = (k : ℕ) (fields : List ℕ) → Stays j n depth (timed k t fields) r
