-- The records' frame, which a log and a job file share: a length of what follows it, a kind, fields.
use Rattle.std.specs.Prelude.{◌≡◌, List, ℕ, ◌+◌, ◌<◌, length, take, drop, eqb, ltb, MatchOption}
use Rattle.std.specs.declared.option.Option.{Option}
use Rattle.std.specs.Borrow.{Bor}
use Rattle.choices.specs.Choice.{cond}
use Rattle.machine.specs.Bytes.{number_of}

-- the kind of the record at the start of b
unfoldable pub kind_in : List ℕ → ℕ
kind_in b = number_of (take 2 (drop 2 b))

-- how long that record is in all, where n is its kind's length; 0 if it is cut short or has another length, or if n is 0
unfoldable pub whole_by : ℕ → List ℕ → ℕ
whole_by n b = cond (eqb n 0) 0 (cond (eqb (number_of (take 2 b)) n) (cond (ltb (length b) (n + 2)) 0 (n + 2)) 0)

-- the same by the kinds' lengths; fewer than four bytes are no record
unfoldable pub size_by : (ℕ → ℕ) → List ℕ → ℕ
size_by lengths b = cond (ltb (length b) 4) 0 (whole_by (lengths (kind_in b)) b)

-- r is the record of n bytes at the start of b; none where n is 0
abbrev pub Stands : ℕ → List ℕ → Option (Bor (List ℕ)) → Type 0
Stands n b r = MatchOption r (n ≡ 0) (λ s. (0 < n) × (s.now ≡ take n b) × (length s.now ≡ n))
