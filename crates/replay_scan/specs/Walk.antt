-- The records of a part of a log.
use Rattle.std.specs.Prelude.{ℕ, ◌+◌, ◌<◌, ◌≤◌, ◌≡◌, List, [], ◌∷◌, length, drop}
use Rattle.machine.specs.Records.{Record, Parsed, found, parse}

-- a log of a revision
pub record Log : Type 0 where
  pub revision : ℕ
  pub bytes : List ℕ

abbrev pub log_of : ℕ → List ℕ → Log
log_of v s = record { revision = v; bytes = s }

-- what is read at a place of it
abbrev pub parse_at : Log → ℕ → Parsed
parse_at s i = parse s.revision (drop i s.bytes)

-- the records rs stand in s from place i to place to
pub data Walk (s : Log) : ℕ → ℕ → List Record → Type 0 where
  none : {i : ℕ} → Walk s i i []
  more : {i to : ℕ} (n : ℕ) {r : Record} {rs : List Record} → parse_at s i ≡ found r (drop (i + n) s.bytes) → 0 < n → i + n ≤ to → Walk s (i + n) to rs → Walk s i to (r ∷ rs)

-- a place up to which records stand
pub record Walked (s : Log) (to : ℕ) : Type 0 where
  pub records : List Record
  pub walk : Walk s 0 to records
  pub ends : to ≤ length s.bytes
