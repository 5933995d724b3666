-- The kinds of records as numbers.
use Rattle.std.specs.Prelude.{◌≡◌, ◌<◌, ℕ, Result, Option, MatchOption, MatchResult}
use Rattle.machine.specs.Records.{length_of}
use Rattle.machine_log.specs.declared.kinds.RecordKind.{RecordKind}
use Rattle.machine_log.specs.declared.kinds.RecordKind.TheVariants.{Reset, Tip5, U32, Stack, Ram, TimedTip5, TimedU32}
use Rattle.machine_log.specs.declared.kinds.UnknownKind.{UnknownKind}

-- the number that stands in a record's frame
abbrev pub kind_number : RecordKind → ℕ
kind_number Reset = 1
kind_number Tip5 = 2
kind_number U32 = 3
kind_number Stack = 4
kind_number Ram = 5
kind_number TimedTip5 = 6
kind_number TimedU32 = 7

-- the kind of this number, or the number, which is no kind's in any revision
abbrev pub Decodes : ℕ → Result RecordKind UnknownKind → Type 0
Decodes n r = MatchResult r (λ kind. kind_number kind ≡ n) (λ e. (e.0 ≡ n) × ((revision : ℕ) → length_of revision n ≡ 0))

-- the length of a record of kind n, where the revision has this kind
abbrev pub HasLength : ℕ → ℕ → Option ℕ → Type 0
HasLength revision n r = MatchOption r (length_of revision n ≡ 0) (λ size. (size ≡ length_of revision n) × (0 < size))
