-- A log's writes brought into the cells, when all of it has passed.
use Rattle.std.specs.Prelude.{ℕ, ◌+◌, ◌*◌, ◌≤◌, ◌≡◌, List, [], length}
use Rattle.machine.specs.Words.{p}
use Rattle.machine.specs.Ram.{Cells}
use Rattle.machine.specs.Records.{Record}
use Rattle.replay_scan.specs.Walk.{Log, Walk}
use Rattle.replay_scan.specs.Scan.{Fines}
use Rattle.replay.specs.LastWrite.{wrote_all}
use Rattle.replay_table.specs.Merge.{Sorted, lacked, Merged}
use Rattle.replay_table.specs.Group.{cells_in, distinct_in}

-- the cells of t have room in c
pub record Fits (c t : Cells) : Type 0 where
  pub into : Sorted c
  pub from : Sorted t
  pub room : c.count + lacked c t t.count ≤ length c.addresses

pub record Brings (c t d : Cells) : Type 0 where
  pub count : d.count ≡ c.count + lacked c t t.count
  pub merged : Merged c t d

-- the records up to `to`, and room for the cells that they take
pub record Fitting (log : Log) (to : ℕ) (c : Cells) : Type 0 where
  pub records : List Record
  pub walk : Walk log 0 to records
  pub ends : to ≤ length log.bytes
  pub fine : Fines records
  pub sorted : Sorted c
  pub room : c.count + cells_in 0 p c [] records ≤ length c.addresses

pub record Written (log : Log) (to : ℕ) (c d : Cells) : Type 0 where
  pub is : (rs : List Record) → Walk log 0 to rs → d ≡ wrote_all c rs

-- in so many groups; `half` is half of the table's room
pub record Few (log : Log) (to half groups : ℕ) : Type 0 where
  pub few : (rs : List Record) → Walk log 0 to rs → groups * half ≤ distinct_in 0 p rs + half
