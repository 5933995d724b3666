-- What starting a job relies on, and what it gives.
use Rattle.std.specs.Prelude.{◌≡◌, List, ℕ, ◌≤◌, length, replicate, Result, IfOk}
use Rattle.machine.specs.declared.state.VMState.{VMState}
use Rattle.machine.specs.Machine.{Code, Memory}
use Rattle.job.specs.declared.job_file.JobFile.{JobFile}
use Rattle.job.specs.Printed.{printed_of}
use Rattle.runjob.specs.declared.pending.Pending.{Pending}
use Rattle.runjob.specs.declared.refusals.NotOpened.{NotOpened}
use Rattle.runjob.specs.Pieces.{start_lines}
use Rattle.runjob.specs.PieceView.{Ready}

-- what runjob lends: zeros, as many as document 01 says, and room for the words of any file
pub record Blank (c : Code) (m : Memory) : Type 0 where
  pub opcodes : 1024 ≤ length c.opcodes
  pub arguments : 1024 ≤ length c.arguments
  pub public : 5461 ≤ length c.public
  pub secret : 5461 ≤ length c.secret
  pub digests : 7445 ≤ length c.digests
  pub op_stack : m.op_stack ≡ replicate 4096 0
  pub origins : m.origins ≡ replicate 1024 0
  pub destinations : m.destinations ≡ replicate 1024 0
  pub addresses : m.addresses ≡ replicate 4096 0
  pub values : m.values ≡ replicate 4096 0
  pub output : m.output ≡ replicate 4096 0

-- the file's job, opened with its registers, before its first step
abbrev pub pending_of : JobFile → VMState → Pending
pending_of j s = record { slots = j.slots; publics = j.publics; secrets = j.secrets; digests = j.digests; done = 0; budget = j.budget; state = s }

-- what is left to print is what runjob prints for the file
pub record Starts (file : List ℕ) (r : Result Pending NotOpened) (c : Code) (m : Memory) : Type 0 where
  pub is : printed_of file ≡ start_lines r c m
  pub ready : IfOk r (λ j. Ready j c m)
