-- A group's table: the cells that the records `done` wrote to. Most of them stand in t, ascending; the latest in l, where a new
-- one goes with few moves. No address stands in both.
use Rattle.std.specs.Prelude.{ℕ, ◌+◌, ◌/◌, ◌<◌, ◌≤◌, ◌≡◌, Bool, true, false, List, length, get_or}
use Rattle.choices.specs.Choice.{cond}
use Rattle.machine.specs.Ram.{Cells, cells, held, has, stored}
use Rattle.machine.specs.Records.{Record}
use Rattle.replay.specs.LastWrite.{wrote_of, had_of}
use Rattle.replay_table.specs.Group.{inside}
use Rattle.replay_table.specs.Merge.{Sorted, stored_all}

-- the word for an address, x where no cell has it
unfoldable pub seen : Cells → Cells → ℕ → ℕ → ℕ
seen t l a x = cond (has t a) (held t a) (cond (has l a) (held l a) x)

unfoldable pub known : Cells → Cells → ℕ → Bool
known t l a = cond (has t a) true (has l a)

-- the late cells have room in t
pub record Paired (t l : Cells) : Type 0 where
  pub table : Sorted t
  pub late : Sorted l
  pub apart : (a : ℕ) → has t a ≡ true → has l a ≡ false
  pub room : t.count + l.count ≤ length t.addresses

pub record Table (lo hi : ℕ) (done : List Record) (t l : Cells) : Type 0 where
  pub seen_is : (a : ℕ) → inside lo hi a ≡ true → (x : ℕ) → seen t l a x ≡ wrote_of done a x
  pub known_is : (a : ℕ) → inside lo hi a ≡ true → known t l a ≡ had_of done a false
  -- it has no other cells
  pub only : (a : ℕ) → known t l a ≡ true → inside lo hi a ≡ true
  pub cells : Paired t l

-- a write: to the cell that has the address, else among the late ones
pub data Puts (t l : Cells) (a v : ℕ) : Cells → Cells → Type 0 where
  in_table : has t a ≡ true → Puts t l a v (stored t a v) l
  in_late : has t a ≡ false → Puts t l a v t (stored l a v)

-- room for one cell more: there is some; or the late cells, more than sixteen or all that have room, go into t; or that is full then, and the upper half of its cells is left to
-- a later group, which begins with the first of them
pub data Makes (t l : Cells) (hi : ℕ) : Cells → ℕ → ℕ → Type 0 where
  left : l.count < length l.addresses → t.count + l.count < length t.addresses → Makes t l hi t l.count hi
  merged : (l.count < length l.addresses → 16 < l.count) → t.count + l.count < length t.addresses → Makes t l hi (stored_all t l l.count) 0 hi
  halved : t.count + l.count ≡ length t.addresses →
      Makes t l hi (cells (length t.addresses / 2) (stored_all t l l.count).addresses (stored_all t l l.count).values) 0
      (get_or (stored_all t l l.count).addresses (length t.addresses / 2) 0)
