-- What the code reads of a log s, at a place.
use Rattle.std.specs.Prelude.{ℕ, ◌+◌, ◌/◌, ◌%◌, ◌<◌, ◌≤◌, ◌≡◌, List, length, take, drop, ltb}
use Rattle.choices.specs.Choice.{cond}
use Rattle.machine.specs.Bytes.{number_of}
use Rattle.machine.specs.Records.{Record, timed, stack, ram, length_of, Parsed, ended, broken, found, record_of}
use Rattle.machine_log.specs.declared.kinds.RecordKind.{RecordKind}
use Rattle.machine_log.specs.Kinds.{kind_number}
use Rattle.replay_scan.specs.Walk.{Log, log_of, parse_at}
use Rattle.replay_scan.specs.declared.record.Log.{Log as LentLog}
use Rattle.replay_scan.specs.declared.record.Frame.{Frame}
use Rattle.replay_scan.specs.declared.record.Head.{Head}
use Rattle.replay_scan.specs.declared.record.Head.TheVariants.{End, Broken, Record as RecordHead}
use Rattle.replay_scan.specs.declared.record.Fields.{Fields}

-- the log that is lent
abbrev pub log_at : LentLog → Log
log_at log = log_of log.revision log.bytes.now

-- the number that n bytes give
unfoldable pub number_at : List ℕ → ℕ → ℕ → ℕ
number_at s at n = number_of (take n (drop at s))

pub record Number (s : List ℕ) (at n bound r : ℕ) : Type 0 where
  pub is : r ≡ number_at s at n
  pub small : r < bound

-- length and kind, two bytes each, as one number
pub record Framed (s : List ℕ) (at r : ℕ) : Type 0 where
  pub size : r % 65536 ≡ number_at s at 2
  pub kind : r / 65536 ≡ number_at s (at + 2) 2

-- that of a record with `left` bytes from its start on
unfoldable pub whole_head : ℕ → RecordKind → ℕ → Head
whole_head left kind size = cond (ltb left (size + 2)) Broken (RecordHead (record { kind = kind; size = size }))

-- what a head says of the bytes s at whose start it stands
unfoldable pub headed : Head → List ℕ → Parsed
headed End s = ended
headed Broken s = broken
headed (RecordHead f) s = found (record_of (kind_number f.kind) (take (f.size + 2) s)) (drop (f.size + 2) s)

-- the record of kind k at a place
abbrev pub record_at : Log → ℕ → ℕ → Record
record_at s at k = record_of k (take (length_of s.revision k + 2) (drop at s.bytes))

-- a frame of a whole record, whose kind the revision has
pub record Whole (s : Log) (at : ℕ) (f : Frame) : Type 0 where
  pub fits : at + f.size + 2 ≤ length s.bytes
  pub sized : f.size ≡ length_of s.revision (kind_number f.kind)
  pub some : 0 < length_of s.revision (kind_number f.kind)

abbrev pub WholeIn : Log → ℕ → Head → Type 0
WholeIn s at End = Unit {0}
WholeIn s at Broken = Unit {0}
WholeIn s at (RecordHead f) = Whole s at f

pub record Headed (s : Log) (at : ℕ) (h : Head) : Type 0 where
  pub is : headed h (drop at s.bytes) ≡ parse_at s at
  pub whole : WholeIn s at h

pub record OfStack (s : List ℕ) (at : ℕ) (f : Fields) : Type 0 where
  pub is : record_of 4 (take 25 (drop at s)) ≡ stack f.clock f.place f.dir f.value
  pub clock : f.clock < 4294967296
  pub place : f.place < 18446744073709551616
  pub value : f.value < 18446744073709551616

pub record OfRam (s : List ℕ) (at : ℕ) (f : Fields) : Type 0 where
  pub is : record_of 5 (take 25 (drop at s)) ≡ ram f.clock f.place f.value f.dir
  pub clock : f.clock < 4294967296
  pub place : f.place < 18446744073709551616
  pub value : f.value < 18446744073709551616

-- a record of kind 6 or 7, whose clock is r
pub record OfTimed (s : Log) (at kind r : ℕ) : Type 0 where
  pub fields : List ℕ
  pub is : record_at s at kind ≡ timed kind r fields
