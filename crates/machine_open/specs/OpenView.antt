-- What the code's answer to open stands for.
use Rattle.std.specs.Prelude.{ℕ, ◌≡◌, false, List, Result, Ok, Err, IsErr}
use Rattle.machine.specs.declared.refusal.InstructionError.{InstructionError}
use Rattle.machine.specs.Refusal.{refusal_of}
use Rattle.machine.specs.declared.state.VMState.{VMState}
use Rattle.machine.specs.Machine.{Code, Memory, machine}
use Rattle.machine.specs.FeeTable.{Fees}
use Rattle.machine.specs.Open.{no_sponge, open_of}
use Rattle.machine.specs.Apply.{Outcome, took, kept}

-- a depth, so many RAM cells used and a revision, all else 0, not halted and with no sponge
abbrev pub registers_of : ℕ → ℕ → ℕ → VMState
registers_of depth n v =
    record {
      clock = 0;
      pointer = 0;
      depth = depth;
      jumps = 0;
      cells = n;
      outputs = 0;
      publics = 0;
      secrets = 0;
      digests = 0;
      sponge = no_sponge;
      halted = false;
      revision = v;
    }

-- what the answer says, with the memory behind the call
abbrev pub opened_in : Code → Memory → Result VMState InstructionError → Outcome
opened_in c m (Ok s) = took (machine s c m)
opened_in c m (Err e) = kept (refusal_of e)

-- the answer, the registers and everything lent are those of open_of; a refusal changes nothing
pub record Opens (f : Fees) (v : ℕ) (digest : List ℕ) (c : Code) (m : Memory) (n : ℕ) (r : Result VMState InstructionError) (after : Memory) : Type 0 where
  pub is : opened_in c after r ≡ open_of f v digest c m n
  pub stays : IsErr r → after ≡ m
