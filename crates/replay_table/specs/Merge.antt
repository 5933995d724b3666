-- Ascending cells brought into others all at once: what it gives is what storing them one behind the other gives.
use Rattle.std.specs.Prelude.{ℕ, zero, suc, ◌+◌, ◌-◌, ◌<◌, ◌≤◌, ◌≡◌, List, length, get_or}
use Rattle.choices.specs.Choice.{cond}
use Rattle.machine.specs.Ram.{Cells, cells, has, stored}
use Rattle.machine_ram.specs.RamView.{Usable}

-- ascending cells, in two slices as long as each other
pub record Sorted (c : Cells) : Type 0 where
  pub usable : Usable c
  pub pair : length c.addresses ≡ length c.values

-- the first k cells of t stored into c
unfoldable pub stored_all : Cells → Cells → ℕ → Cells
stored_all c t zero = c
stored_all c t (suc k) = stored (stored_all c t k) (get_or t.addresses k 0) (get_or t.values k 0)

-- how many of the first k cells of t have an address that c lacks
unfoldable pub lacked : Cells → Cells → ℕ → ℕ
lacked c t zero = 0
lacked c t (suc k) = lacked c t k + cond (has c (get_or t.addresses k 0)) 0 1

-- all cells of t find room in c, which has `total` cells then
pub record Merging (c t : Cells) (total : ℕ) : Type 0 where
  pub into : Sorted c
  pub from : Sorted t
  pub is : total ≡ c.count + lacked c t t.count
  pub room : total ≤ length c.addresses

pub record Merged (c t d : Cells) : Type 0 where
  pub is : d ≡ stored_all c t t.count

-- the cell with the highest address of the first i of c and the first j of t, t's where both have it; how many are then left of each
pub data Topped (c t : Cells) (i j : ℕ) : ℕ → ℕ → ℕ → ℕ → Type 0 where
  of_own : 0 < i → get_or t.addresses (j - 1) 0 < get_or c.addresses (i - 1) 0 → Topped c t i j (get_or c.addresses (i - 1) 0) (get_or c.values (i - 1) 0) (i - 1) j
  of_both : 0 < i → get_or c.addresses (i - 1) 0 ≡ get_or t.addresses (j - 1) 0 → Topped c t i j (get_or t.addresses (j - 1) 0) (get_or t.values (j - 1) 0) (i - 1) (j - 1)
  of_new : (0 < i → get_or c.addresses (i - 1) 0 < get_or t.addresses (j - 1) 0) → Topped c t i j (get_or t.addresses (j - 1) 0) (get_or t.values (j - 1) 0) i (j - 1)

-- a number that no value of the cells changes
pub record Lacked (addresses : List ℕ) (count : ℕ) (keys : List ℕ) (n r : ℕ) : Type 0 where
  pub is : (v w : List ℕ) → r ≡ lacked (cells count addresses v) (cells n keys w) n
  pub few : r ≤ n

-- 1 where an address is lacking
pub record LacksOne (addresses : List ℕ) (count a r : ℕ) : Type 0 where
  pub is : (v : List ℕ) → r ≡ cond (has (cells count addresses v) a) 0 1
  pub one : r ≤ 1
