-- The stack lines of a log, which is of revision 1: runjob opens its jobs so.
use Rattle.std.specs.Prelude.{List, [], ◌∷◌, ◌++◌, ℕ, zero, suc, length}
use Rattle.machine.specs.Records.{Record, other, timed, stack, ram, Parsed, ended, broken, found, parse}
use Rattle.job.specs.Listing.{stack_line}

-- the records of the op stack give a line each, the others none
unfoldable pub line_of : Record → List ℕ
line_of (other k b) = []
line_of (timed k t b) = []
line_of (stack t q d v) = stack_line t q d v
line_of (ram t a v d) = []

unfoldable pub lines_of : List Record → List ℕ
lines_of [] = []
lines_of (r ∷ rs) = line_of r ++ lines_of rs

-- what follows a reading of bytes
abbrev pub on_record : (Record → List ℕ → List ℕ) → Parsed → List ℕ
on_record k ended = []
on_record k broken = []
on_record k (found r t) = k r t

-- over bytes, up to the first place where no whole record stands; as many records at most as bytes
unfoldable pub lines_in : ℕ → List ℕ → List ℕ
lines_in zero b = []
lines_in (suc f) b = on_record (λ r t. line_of r ++ lines_in f t) (parse 1 b)

unfoldable pub log_lines : List ℕ → List ℕ
log_lines b = lines_in (length b) b
