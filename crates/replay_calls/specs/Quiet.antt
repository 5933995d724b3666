-- What is known of a log whose records need not be looked at for RAM.
use Rattle.std.specs.Prelude.{ℕ, ◌≡◌, Bool, false, List}
use Rattle.machine.specs.Records.{Record}
use Rattle.replay_scan.specs.Walk.{Log, Walk}
use Rattle.replay_scan.specs.Scan.{ram_in}

-- where `some` is false, no record before the place `to` is of RAM
pub record Quiet (log : Log) (to : ℕ) (some : Bool) : Type 0 where
  pub none : some ≡ false → (rs : List Record) → Walk log 0 to rs → ram_in rs ≡ 0
