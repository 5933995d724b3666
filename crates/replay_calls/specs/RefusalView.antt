-- Refusals as numbers.
use Rattle.std.specs.Prelude.{ℕ, Result}
use Rattle.machine.specs.Refusal.{number_a, found_by}
use Rattle.replay_scan.specs.declared.fault.Fault.{Fault}
use Rattle.replay_scan.specs.FaultView.{fault_number}
use Rattle.replay_calls.specs.declared.refusal.Refusal.{Refusal}
use Rattle.replay_calls.specs.declared.refusal.Refusal.TheVariants.{Lent, Log}

abbrev pub refusal_number : Refusal → ℕ
refusal_number (Lent e) = number_a e
refusal_number (Log e) = fault_number e

-- 0 where nothing is refused
abbrev pub number_in : {A : Type 0} → Result A Fault → ℕ
number_in = found_by 0 fault_number
