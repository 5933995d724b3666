-- RAM: cells in two lists, of addresses and of values, of which the first so many are used, ascending by address. Everything
-- above goes by find, held, stored and the conditions at the end, and looks behind none of them.
use Rattle.std.specs.Prelude.{ℕ, zero, suc, ◌+◌, ◌-◌, ◌<◌, min, ◌≡◌, Bool, true, false, List, length, get_or, set, eqb, ltb}
use Rattle.choices.specs.Choice.{cond, first_of, above_of, differ_of}
use Rattle.machine.specs.Words.{words_of}
use Rattle.machine.specs.Lengths.{too_long}

pub record Cells : Type 0 where
  pub count : ℕ
  pub addresses : List ℕ
  pub values : List ℕ

abbrev pub cells : ℕ → List ℕ → List ℕ → Cells
cells n a v = record { count = n; addresses = a; values = v }

-- where an address has its cell, or where its new cell goes
pub data Found : Type 0 where
  at : ℕ → Found
  absent : ℕ → Found

-- the first of f places from i on whose element is not below a; i + f where all are
unfoldable pub place_from : List ℕ → ℕ → ℕ → ℕ → ℕ
place_from s a zero i = i
place_from s a (suc f) i = cond (ltb (get_or s i 0) a) (place_from s a f (suc i)) i

-- the place of an address: the first used cell whose address is not below it
unfoldable pub place_of : Cells → ℕ → ℕ
place_of c a = place_from c.addresses a c.count 0

-- whether a used cell at a place has an address
unfoldable pub stands_at : Cells → ℕ → ℕ → Bool
stands_at c i a = cond (ltb i c.count) (eqb (get_or c.addresses i 0) a) false

unfoldable pub find : Cells → ℕ → Found
find c a = cond (stands_at c (place_of c a) a) (at (place_of c a)) (absent (place_of c a))

abbrev pub has_at : Found → Bool
has_at (at i) = true
has_at (absent i) = false

-- whether an address has a cell
unfoldable pub has : Cells → ℕ → Bool
has c a = has_at (find c a)

-- 'a read of an absent address gives 0'
abbrev pub held_at : Cells → Found → ℕ
held_at c (at i) = get_or c.values i 0
held_at c (absent i) = 0

-- the word at an address
unfoldable pub held : Cells → ℕ → ℕ
held c a = held_at c (find c a)

-- the n elements from i on one place up, over the one behind them
unfoldable pub moved_up : List ℕ → ℕ → ℕ → List ℕ
moved_up s i zero = s
moved_up s i (suc n) = set (moved_up s (suc i) n) (suc i) (get_or s i 0)

-- x put in at place i of the n used ones: those from i on move up by one, the unused ones behind keep their words
unfoldable pub inserted : List ℕ → ℕ → ℕ → ℕ → List ℕ
inserted s n i x = set (moved_up s i (n - i)) i x

abbrev pub stored_at : Cells → ℕ → ℕ → Found → Cells
stored_at c a v (at i) = cells c.count c.addresses (set c.values i v)
stored_at c a v (absent i) = cells (c.count + 1) (inserted c.addresses c.count i a) (inserted c.values c.count i v)

-- the cells after a write
unfoldable pub stored : Cells → ℕ → ℕ → Cells
stored c a v = stored_at c a v (find c a)

-- the same used cells in order, in slices as long; the unused cells may differ
pub record Alike (c d : Cells) : Type 0 where
  pub count : c.count ≡ d.count
  pub addresses : (i : ℕ) → i < c.count → get_or c.addresses i 0 ≡ get_or d.addresses i 0
  pub values : (i : ℕ) → i < c.count → get_or c.values i 0 ≡ get_or d.values i 0
  pub room : length c.addresses ≡ length d.addresses
  pub pair : length c.values ≡ length d.values

-- ---- what place A asks of cells

unfoldable pub cells1 : Cells → ℕ
cells1 c = first_of (too_long c.addresses) (first_of (too_long c.values) (differ_of (length c.addresses) (length c.values) 1))

-- used: the places below the count that the slice has
unfoldable pub cells2 : Cells → ℕ
cells2 c = first_of (words_of c.addresses (min c.count (length c.addresses))) (words_of c.values (min c.count (length c.values)))

-- 5 where x is not below y
unfoldable pub fall_of : ℕ → ℕ → ℕ
fall_of x y = cond (ltb x y) 0 5

-- 5 where one of the first n elements is not below its neighbour
unfoldable pub falls_of : List ℕ → ℕ → ℕ
falls_of s zero = 0
falls_of s (suc n) = first_of (falls_of s n) (fall_of (get_or s n 0) (get_or s (suc n) 0))

-- n used cells have n - 1 pairs of neighbours
unfoldable pub cells5 : Cells → ℕ
cells5 c = first_of (above_of c.count (length c.addresses) 5) (falls_of c.addresses (c.count - 1))
