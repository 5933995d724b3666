-- Demand 3, of the real machine: the general theorem with the facts of the 46 effects. Assumes nothing.
use mathlib.Core.Path.{◌≡◌}
use mathlib.Core.List.{List}
use Prim.Native.Nat.{ℕ}
use native.Mathlib.Omega.{arith}
use Rattle.machine.specs.Ram.{Cells}
use Rattle.machine.specs.Machine.{Machine}
use Rattle.machine.specs.Decide.{decide_of}
use Rattle.machine.specs.Records.{log_bytes}
use Rattle.machine.proofs.Facts.{facts}
use Rattle.replay.specs.Job.{Ask, records_of_job}
use Rattle.replay.specs.Demand3.{replayed, Case, Demand3OfTriton}
use Rattle.replay.proofs.Demand3.{demand_3}

pub demand_3_of_triton : Demand3OfTriton
demand_3_of_triton = demand_3 decide_of facts

-- a job's own log never meets 45
pub never_45 : (m : Machine) (c : Cells) (asks : List Ask) (j : ℕ) → Case decide_of m c asks j → (replayed m c (log_bytes m.state.revision (records_of_job decide_of m asks)) j).number ≡ 45 → ⊥
never_45 m c asks j o e = omega (arith, (demand_3_of_triton.rebuilds m c asks j o).succeeds)
