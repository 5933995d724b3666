-- The path of a machine: the machine after each of its steps, one behind the other, and how it ends. How many steps a call took, what it
-- leaves, its log, and all else that is said of several steps is read off a path.
use Rattle.std.specs.Prelude.{ℕ, zero, suc, ◌-◌, Bool, true, false, List, [], ◌∷◌, ◌++◌, length, ltb}
use Rattle.choices.specs.Choice.{cond}
use Rattle.machine.specs.Lengths.{most_bytes, row_words}
use Rattle.machine.specs.Refusal.{Refusal}
use Rattle.machine.specs.Machine.{Machine}
use Rattle.machine.specs.Effect.{Decision}
use Rattle.machine.specs.Apply.{Outcome, took, kept, lost}
use Rattle.machine.specs.Records.{Record, log_bytes}
use Rattle.machine.specs.Step.{records_in, outcome_by}

-- what has no room for a step: the log for its records, or the table for its row
pub data Full : Type 0 where
  the_log : Full
  the_table : Full

-- how it ends: at a machine that is halted, with the budget spent, with too little room for a step, or with a step that is refused
pub data Ending : Type 0 where
  halted : Ending
  spent : Ending
  full : Full → Ending
  refused : Refusal → Ending

-- the machines after each step; what is left, which is the last machine unless a refused skiz has dropped its word
pub record Path : Type 0 where
  pub machines : List Machine
  pub left : Machine
  pub dropped : Bool
  pub ending : Ending

abbrev pub path : List Machine → Machine → Bool → Ending → Path
path ms m d e = record { machines = ms; left = m; dropped = d; ending = e }

-- how many steps succeeded
abbrev pub count : Path → ℕ
count p = length p.machines

-- no step, or none more
abbrev pub stays : Ending → Machine → Path
stays e m = path [] m false e

-- from m by what comes of its step, and on with k from the machine after it
abbrev pub onward : Machine → (Machine → Path) → Outcome → Path
onward m k (took x) = path (x ∷ (k x).machines) (k x).left (k x).dropped (k x).ending
onward m k (kept r) = stays (refused r) m
onward m k (lost r x) = path [] x true (refused r)

-- ---- where the steps' records and rows go to

-- a slice with so much left, where one is lent
pub data Left : Type 0 where
  unlent : Left
  left_count : ℕ → Left

-- whether less is left than n
abbrev pub lacks : Left → ℕ → Bool
lacks unlent n = false
lacks (left_count k) n = ltb k n

abbrev pub less : Left → ℕ → Left
less unlent n = unlent
less (left_count k) n = left_count (k - n)

-- bytes of a log for the records, words of a table for the rows
pub record Space : Type 0 where
  pub log : Left
  pub table : Left

abbrev pub space : Left → Left → Space
space l t = record { log = l; table = t }

abbrev pub unlogged : Space
unlogged = space unlent unlent

abbrev pub bytes : ℕ → Space
bytes n = space (left_count n) unlent

abbrev pub tabled : ℕ → ℕ → Space
tabled n k = space (left_count n) (left_count k)

-- whether so little is left that no step is tried, of a log of revision v; and what is full then, the log named first
abbrev pub too_little : ℕ → Space → Bool
too_little v s = cond (lacks s.log (most_bytes v)) true (lacks s.table row_words)

abbrev pub full_of : ℕ → Space → Full
full_of v s = cond (lacks s.log (most_bytes v)) the_log the_table

-- behind a step that writes so many bytes, and a row
abbrev pub behind : Space → List ℕ → Space
behind s log = space (less s.log (length log)) (less s.table row_words)

module _ (decide : Machine → Decision) where
  -- the bytes of the records of a step from m
  unfoldable pub step_log : Machine → List ℕ
  step_log m = log_bytes m.state.revision (records_in m (decide m))

  -- at most n steps. Halted is tried before spent, spent before full, and full before a step
  unfoldable pub path_by : Space → ℕ → Machine → Path
  path_by s zero m = stays (cond m.state.halted halted spent) m
  path_by s (suc n) m =
      cond m.state.halted (stays halted m)
      (cond (too_little m.state.revision s) (stays (full (full_of m.state.revision s)) m) (onward m (λ x. path_by (behind s (step_log m)) n x) (outcome_by decide m)))

  -- the records of the steps from m through the machines, as step writes them
  unfoldable pub log_from : Machine → List Machine → List Record
  log_from m [] = []
  log_from m (x ∷ xs) = records_in m (decide m) ++ log_from x xs
