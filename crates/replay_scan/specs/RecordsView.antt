-- What going over the records of a log gives, from a place on.
use Rattle.std.specs.Prelude.{ℕ, ◌+◌, ◌<◌, ◌≤◌, ◌≡◌, Option, Some, None, Result, Ok, Err}
use Rattle.replay_scan.specs.declared.record.Head.TheVariants.{Broken, Record as RecordHead}
use Rattle.replay_scan.specs.declared.records.Placed.{Placed}
use Rattle.replay_scan.specs.declared.records.Records.{Records}
use Rattle.replay_scan.specs.RecordView.{log_at, Headed}

-- a place where no whole record stands
pub record GivesPlace (s : Records) (at : ℕ) : Type 0 where
  pub place : at ≡ s.at
  pub before : at < s.to
  pub head : Headed (log_at s.log) at Broken

-- the record here; it goes on behind it
pub record GivesRecord (s : Records) (r : Placed) (t : Records) : Type 0 where
  pub place : r.at ≡ s.at
  pub before : r.at < s.to
  pub head : Headed (log_at s.log) r.at (RecordHead r.frame)
  pub next : r.next ≡ r.at + r.frame.size + 2
  pub goes : t.at ≡ r.next
  pub log : t.log ≡ s.log
  pub to : t.to ≡ s.to

-- or none, where nothing is left
abbrev pub Gives : Records → Option (Result Placed ℕ) → Records → Type 0
Gives s None t = s.to ≤ s.at
Gives s (Some (Err at)) t = GivesPlace s at
Gives s (Some (Ok r)) t = GivesRecord s r t
