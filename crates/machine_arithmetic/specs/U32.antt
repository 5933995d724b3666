-- What a word is as a u32.
use Rattle.std.specs.Prelude.{◌≡◌, ℕ, ◌<◌, ◌≤◌, ◌^◌, Result, Ok, Err}
use Rattle.machine.specs.declared.refusal.InstructionError.{InstructionError}
use Rattle.machine.specs.declared.refusal.InstructionError.TheVariants.{FailedU32Conversion}

-- itself, or else the refusal
abbrev pub IsU32 : ℕ → Result ℕ InstructionError → Type 0
IsU32 a (Ok n) = (n ≡ a) × (a < 2 ^ 32)
IsU32 a (Err e) = (e ≡ FailedU32Conversion a) × (2 ^ 32 ≤ a)
