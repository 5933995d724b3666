-- What the code relies on and promises of a group's table besides the definitions of Table.
use Rattle.std.specs.Prelude.{ℕ, suc, ◌+◌, ◌<◌, ◌≡◌, Bool, true, false, List}
use Rattle.machine.specs.Ram.{Cells, held}
use Rattle.machine.specs.Records.{Record, other, timed, stack, ram}
use Rattle.replay_table.specs.Group.{inside}
use Rattle.replay_table.specs.Table.{seen, Puts}

-- where it says so, there is room for a late cell, and for all of them in the table
pub record Waits (n m most late : ℕ) (r : Bool) : Type 0 where
  pub late_room : r ≡ true → m < late
  pub room : r ≡ true → n + m < most
  -- where it says no though there is room, more than sixteen cells are late: so merging them is paid for by as many new cells
  pub many : r ≡ false → m < late → n + m < most → 16 < m

-- a record, with the table before and after it, and whether it is a wrong read. Reads are looked at where `checking` says so
pub data Touches (checking : Bool) (lo hi : ℕ) (c t l : Cells) : Record → Bool → Cells → Cells → Type 0 where
  by_other : {k : ℕ} {s : List ℕ} → Touches checking lo hi c t l (other k s) false t l
  by_timed : {k x : ℕ} {s : List ℕ} → Touches checking lo hi c t l (timed k x s) false t l
  by_stack : {x q d v : ℕ} → Touches checking lo hi c t l (stack x q d v) false t l
  by_outside : {x a v d : ℕ} → inside lo hi a ≡ false → Touches checking lo hi c t l (ram x a v d) false t l
  by_unchecked : {x a v : ℕ} → checking ≡ false → Touches checking lo hi c t l (ram x a v 0) false t l
  by_right : {x a v : ℕ} → v ≡ seen t l a (held c a) → inside lo hi a ≡ true → Touches checking lo hi c t l (ram x a v 0) false t l
  by_wrong : {x a v : ℕ} → checking ≡ true → inside lo hi a ≡ true → (v ≡ seen t l a (held c a) → ⊥) → Touches checking lo hi c t l (ram x a v 0) true t l
  by_write : {x a v d : ℕ} {u m : Cells} → inside lo hi a ≡ true → Puts t l a v u m → Touches checking lo hi c t l (ram x a v (suc d)) false u m
