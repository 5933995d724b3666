-- What RAM's code relies on and promises besides the definitions of Ram.
use Rattle.std.specs.Prelude.{◌≡◌, ℕ, ◌+◌, ◌-◌, ◌<◌, ◌≤◌, Bool, true, List, length, slice_index, Result, Ok, Err}
use Rattle.machine.specs.Ram.{Cells, cells, Found, at, absent, place_from, find, stored, falls_of}

-- what a search relies on: the used addresses are there, and ascend
pub record Ordered (s : List ℕ) (n : ℕ) : Type 0 where
  pub within : n ≤ length s
  pub ascending : falls_of s (n - 1) ≡ 0

-- the same of cells, whose used values are there too
pub record Usable (c : Cells) : Type 0 where
  pub ordered : Ordered c.addresses c.count
  pub values : c.count ≤ length c.values

-- the place of an address, and the word there where it is a used one
pub record Spotted (s : List ℕ) (n a i x : ℕ) : Type 0 where
  pub is : i ≡ place_from s a n 0
  pub within : i ≤ n
  pub word : i < n → x ≡ slice_index s i

-- two tests of a place, where they are true: what stands before it is below an address; what stands there, if it is a used one, is not
pub record Above (s : List ℕ) (i a : ℕ) (r : Bool) : Type 0 where
  pub is : r ≡ true → 0 < i → slice_index s (i - 1) < a

pub record Below (s : List ℕ) (n i a : ℕ) (r : Bool) : Type 0 where
  pub is : r ≡ true → i < n → a ≤ slice_index s i

-- a guess that is said to be right is the place
pub record Guessed (s : List ℕ) (n a i : ℕ) (r : Bool) : Type 0 where
  pub is : r ≡ true → i ≡ place_from s a n 0
  pub within : r ≡ true → i ≤ n

-- the code's answer
abbrev pub found_of : Result ℕ ℕ → Found
found_of (Ok i) = at i
found_of (Err i) = absent i

-- the place of a found cell is a used one, and that of a new cell is a used one or the first unused one
abbrev pub PlacedIn : ℕ → Result ℕ ℕ → Type 0
PlacedIn n (Ok i) = i < n
PlacedIn n (Err i) = i ≤ n

pub record Looked (addresses : List ℕ) (n a : ℕ) (r : Result ℕ ℕ) : Type 0 where
  pub is : (v : List ℕ) → found_of r ≡ find (cells n addresses v) a
  pub place : PlacedIn n r

-- there is room for a write: only an address not yet held takes a cell
pub record Room (c : Cells) (a v : ℕ) : Type 0 where
  pub ordered : Ordered c.addresses c.count
  pub pair : length c.addresses ≡ length c.values
  pub fits : (stored c a v).count ≤ length c.addresses

pub record Stored (c : Cells) (a v : ℕ) (d : Cells) : Type 0 where
  pub is : d ≡ stored c a v
  pub more : d.count ≤ c.count + 1
