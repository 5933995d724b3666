-- A refusal as its number.
use Rattle.std.specs.Prelude.{ℕ, Option, Some, None}
use Rattle.replay_scan.specs.declared.fault.Fault.{Fault}
use Rattle.replay_scan.specs.declared.fault.Fault.TheVariants.{Malformed, ClockFalls, WrongPlace, WrongRead, NoRoom, TooMany}

abbrev pub fault_number : Fault → ℕ
fault_number Malformed = 40
fault_number ClockFalls = 41
fault_number WrongPlace = 42
fault_number WrongRead = 43
fault_number NoRoom = 44
fault_number TooMany = 45

-- 0 where there is none
abbrev pub fault_or_0 : Option Fault → ℕ
fault_or_0 None = 0
fault_or_0 (Some e) = fault_number e
