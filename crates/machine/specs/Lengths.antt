-- Place A's number 1 over one slice, the bytes of a step by the log's revision, and the words of a row.
use Rattle.std.specs.Prelude.{ℕ, ◌+◌, List, length, eqb}
use Rattle.choices.specs.Choice.{cond, above_of}

-- 'No lent slice has more than 16,777,216 elements'
abbrev pub longest : ℕ
longest = 16777216

abbrev pub too_long : List ℕ → ℕ
too_long s = above_of (length s) longest 1

-- the bytes of the clock that Tip5 and U32 records have in a log of revision v
unfoldable pub clock_bytes : ℕ → ℕ
clock_bytes v = cond (eqb v 2) 4 0

-- 'One step writes at most 1,024 bytes', 'a revision 2 step up to 1,028': the longest have one such record
unfoldable pub most_bytes : ℕ → ℕ
most_bytes v = 1024 + clock_bytes v

-- the words of a row of the processor table
abbrev pub row_words : ℕ
row_words = 37
