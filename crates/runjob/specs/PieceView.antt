-- What a piece relies on, and what it writes.
use Rattle.std.specs.Prelude.{◌≡◌, true, false, List, [], ◌++◌, ℕ, ◌+◌, ◌<◌, ◌≤◌, suc, length, Option, None, Some, IfSome, MatchOption, Result, MatchResult}
use Rattle.std.specs.Io.KnownBytes.{Appends}
use Rattle.machine.specs.Machine.{Code, Memory}
use Rattle.machine.specs.Path.{Ending}
use Rattle.machine.specs.Sound.{Sound}
use Rattle.job.specs.declared.listing.Counts.{Counts}
use Rattle.job.specs.declared.listing.EndLine.{EndLine}
use Rattle.job.specs.ListingView.{end_text}
use Rattle.job.specs.Printed.{end_line, not_opened}
use Rattle.runjob.specs.declared.pending.Pending.{Pending}
use Rattle.runjob.specs.declared.refusals.NotOpened.{NotOpened}
use Rattle.runjob.specs.Refusals.{number_of}
use Rattle.runjob.specs.Pieces.{machine_for, left_lines, is_full}

-- l is the end line of a run that ended so; none where the log was full
abbrev pub EndsWith : Ending → Counts → Option EndLine → Type 0
EndsWith e c l = MatchOption l (is_full e ≡ true) (λ x. (is_full e ≡ false) × (end_text x ≡ end_line e c.steps c.pointer c.depth))

-- the words of the job j are inside what is lent, its machine is sound, with a log of revision 1, and its steps can be counted
pub record Ready (j : Pending) (c : Code) (m : Memory) : Type 0 where
  pub opcodes : j.slots ≤ length c.opcodes
  pub arguments : j.slots ≤ length c.arguments
  pub public : j.publics ≤ length c.public
  pub secret : j.secrets ≤ length c.secret
  pub digests : j.digests ≤ length c.digests
  pub sound : Sound (machine_for j c m)
  pub revision : j.state.revision ≡ 1
  pub steps : j.done + j.budget < 18446744073709551616

-- how many pieces may follow
abbrev pub pieces : Option Pending → ℕ
pieces None = 0
pieces (Some j) = suc j.budget

-- what is left to print of the job j is a text, and behind it what is left of r
pub record Writes (j : Pending) (c : Code) (m : Memory) (r : Option Pending) (n : Memory) (text : List ℕ) : Type 0 where
  pub is : left_lines (Some j) c m ≡ text ++ left_lines r c n
  pub less : pieces r < pieces (Some j)
  pub ready : IfSome r (λ k. Ready k c n)

-- a text grew by the first lines; they, and what is left of r, are what is printed
pub record Begins (old new printed : List ℕ) (r : Option Pending) (c : Code) (m : Memory) : Type 0 where
  pub own : List ℕ
  pub grown : new ≡ old ++ own
  pub is : printed ≡ own ++ left_lines r c m
  pub ready : IfSome r (λ j. Ready j c m)

-- known bytes grew by a text; it, and what is left of r, are what is printed
pub record Wrote (old new : Option (List ℕ)) (printed : List ℕ) (r : Option Pending) (c : Code) (m : Memory) : Type 0 where
  pub text : List ℕ
  pub grown : Appends old new text
  pub is : printed ≡ text ++ left_lines r c m
  pub ready : IfSome r (λ j. Ready j c m)

-- what pieces write one behind the other, each from what the one before it left, while there are more
pub data Prints (c : Code) : Option Pending → Memory → List ℕ → Type 0 where
  none : {m : Memory} → Prints c None m []
  next : {j : Pending} {r : Option Pending} {m n : Memory} {text rest : List ℕ} → Writes j c m r n text → Prints c r n rest → Prints c (Some j) m (text ++ rest)

-- the pieces of a job that was opened, or the line of the refusal
abbrev pub PrintsJob : Code → Result Pending NotOpened → Memory → List ℕ → Type 0
PrintsJob c r m t = MatchResult r (λ j. Prints c (Some j) m t) (λ e. t ≡ not_opened (number_of e))
