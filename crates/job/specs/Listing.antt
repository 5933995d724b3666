-- The lines that runjob prints, as bytes of ASCII.
use Rattle.std.specs.Prelude.{◌≡◌, List, [], ◌∷◌, ◌++◌, ℕ, zero, suc, ◌+◌, ◌/◌, ◌%◌, ◌≤◌, length, drop, eqb, ltb}
use Rattle.choices.specs.Choice.{cond}
use Rattle.machine_log.specs.Logged.{logged}

-- ---- numbers in plain decimal

-- the digits of n, of which there are at most f: those of n / 10, then n % 10
unfoldable pub digits_of : ℕ → ℕ → List ℕ
digits_of zero n = []
digits_of (suc f) n = cond (ltb n 10) ((48 + n) ∷ []) (digits_of f (n / 10) ++ ((48 + n % 10) ∷ []))

-- a number of 64 bits has at most twenty
unfoldable pub decimal_of : ℕ → List ℕ
decimal_of n = digits_of 20 n

-- a number, and the byte behind it
unfoldable pub field_of : ℕ → ℕ → List ℕ
field_of n mark = decimal_of n ++ (mark ∷ [])

-- behind a number stands a space (32), or the line's end (10)
abbrev pub spaced : ℕ → List ℕ
spaced n = field_of n 32

abbrev pub line_end : ℕ → List ℕ
line_end n = field_of n 10

-- ---- texts, each with the space behind it

-- "stack "
abbrev pub stack_text : List ℕ
stack_text = 115 ∷ 116 ∷ 97 ∷ 99 ∷ 107 ∷ 32 ∷ []

-- "read "
abbrev pub read_text : List ℕ
read_text = 114 ∷ 101 ∷ 97 ∷ 100 ∷ 32 ∷ []

-- "write "
abbrev pub write_text : List ℕ
write_text = 119 ∷ 114 ∷ 105 ∷ 116 ∷ 101 ∷ 32 ∷ []

-- "out "
abbrev pub out_text : List ℕ
out_text = 111 ∷ 117 ∷ 116 ∷ 32 ∷ []

-- "end halted "
abbrev pub halted_text : List ℕ
halted_text = 101 ∷ 110 ∷ 100 ∷ 32 ∷ 104 ∷ 97 ∷ 108 ∷ 116 ∷ 101 ∷ 100 ∷ 32 ∷ []

-- "end spent "
abbrev pub spent_text : List ℕ
spent_text = 101 ∷ 110 ∷ 100 ∷ 32 ∷ 115 ∷ 112 ∷ 101 ∷ 110 ∷ 116 ∷ 32 ∷ []

-- "end refused "
abbrev pub refused_text : List ℕ
refused_text = 101 ∷ 110 ∷ 100 ∷ 32 ∷ 114 ∷ 101 ∷ 102 ∷ 117 ∷ 115 ∷ 101 ∷ 100 ∷ 32 ∷ []

-- direction 0 is a read
unfoldable pub direction_text : ℕ → List ℕ
direction_text d = cond (eqb d 0) read_text write_text

-- ---- lines

-- clock, pointer, direction, value
unfoldable pub stack_line : ℕ → ℕ → ℕ → ℕ → List ℕ
stack_line t q d v = stack_text ++ spaced t ++ spaced q ++ direction_text d ++ line_end v

unfoldable pub out_line : ℕ → List ℕ
out_line w = out_text ++ line_end w

-- steps, pointer, depth: what every end line ends in
unfoldable pub counts_of : ℕ → ℕ → ℕ → List ℕ
counts_of n q d = spaced n ++ spaced q ++ line_end d

unfoldable pub halted_line : ℕ → ℕ → ℕ → List ℕ
halted_line n q d = halted_text ++ counts_of n q d

unfoldable pub spent_line : ℕ → ℕ → ℕ → List ℕ
spent_line n q d = spent_text ++ counts_of n q d

-- the refusal's number first
unfoldable pub refused_line : ℕ → ℕ → ℕ → ℕ → List ℕ
refused_line k n q d = refused_text ++ spaced k ++ counts_of n q d

-- ---- what a writer does: b2 has a text from place start on, and behind it what b has from place end on

pub record Before (b b2 : List ℕ) (end : ℕ) (text : List ℕ) (start : ℕ) : Type 0 where
  pub is : drop start b2 ≡ text ++ drop end b
  pub place : start + length text ≡ end

-- b2 is b with a text from place at on, of at most so many bytes; next is the place behind it

pub record Put (b b2 : List ℕ) (at : ℕ) (text : List ℕ) (most next : ℕ) : Type 0 where
  pub is : b2 ≡ logged b at text
  pub end : next ≡ at + length text
  pub few : length text ≤ most
