-- What the structs of a job file stand for, what its reader is lent, and what it gives back of the job.
use Rattle.std.specs.Prelude.{◌≡◌, List, [], ℕ, ◌+◌, ◌*◌, ◌<◌, ◌≤◌, length, take, drop, None, Some, MatchOption, MatchResult}
use Rattle.std.specs.declared.option.Option.{Option}
use Rattle.std.specs.declared.result.Result.{Result}
use Rattle.job.specs.declared.job_file.JobFile.{JobFile}
use Rattle.job.specs.declared.job_file.Kind.{Kind}
use Rattle.job.specs.declared.job_file.Kind.TheVariants.{Digest, Slot, PublicWord, SecretWord, SecretDigest, Cell, Budget}
use Rattle.job.specs.declared.job_file.UnknownKind.{UnknownKind}
use Rattle.job.specs.declared.job_file.Piece.{Piece}
use Rattle.job.specs.declared.job_file.Words.{Words}
use Rattle.job.specs.Frame.{kind_in, size_by}
use Rattle.job.specs.JobFile.{Job, length_in, piece_kind, piece_size, Filled}

-- ---- kinds

-- the number that stands for a kind
abbrev pub kind_number : Kind → ℕ
kind_number Digest = 11
kind_number Slot = 12
kind_number PublicWord = 13
kind_number SecretWord = 14
kind_number SecretDigest = 15
kind_number Cell = 16
kind_number Budget = 17

-- of a record: 0 where no whole one stands
abbrev pub piece_number : Option Kind → ℕ
piece_number None = 0
piece_number (Some k) = kind_number k

-- r is the kind with the number n, or n, which is no kind's
abbrev pub Decodes : ℕ → Result Kind UnknownKind → Type 0
Decodes n r = MatchResult r (λ k. kind_number k ≡ n) (λ e. (e.0 ≡ n) × (length_in n ≡ 0))

-- ---- records

-- o is the whole record at the start of b; none where none stands
abbrev pub IsWholePiece : List ℕ → Option Piece → Type 0
IsWholePiece b o =
    MatchOption o (size_by length_in b ≡ 0)
    (λ p. (0 < size_by length_in b) × (piece_number p.kind ≡ kind_in b) × (p.bytes.now ≡ take (size_by length_in b) b) × (length p.bytes.now ≡ size_by length_in b))

-- p is the record at the start of b
abbrev pub IsPiece : List ℕ → Piece → Type 0
IsPiece b p = (piece_number p.kind ≡ piece_kind b) × (p.bytes.now ≡ take (piece_size b) b) × (length p.bytes.now ≡ piece_size b)

-- r is it, and c what stands behind it; none, and nothing, where b is empty
abbrev pub NextPiece : List ℕ → Option Piece → List ℕ → Type 0
NextPiece b r c = MatchOption r ((b ≡ []) × (c ≡ [])) (λ p. (0 < length b) × IsPiece b p × (c ≡ drop (piece_size b) b))

-- a record of the bytes b and the number q has m numbers of n bytes each from byte i of its fields on, if it is of kind k, and they have room in o at place to
pub record HasColumn (b : List ℕ) (q : ℕ) (o : List ℕ) (k i n m to : ℕ) : Type 0 where
  pub narrow : n ≤ 8
  pub small : i ≤ 42
  pub inside : q ≡ k → 4 + i + n * m ≤ length b
  pub room : q ≡ k → to + m ≤ length o

-- ---- the slices

-- the slices, in the order in which the reader takes them
pub record Lent : Type 0 where
  pub opcodes : List ℕ
  pub arguments : List ℕ
  pub public : List ℕ
  pub secret : List ℕ
  pub digests : List ℕ
  pub addresses : List ℕ
  pub values : List ℕ

abbrev pub lent : List ℕ → List ℕ → List ℕ → List ℕ → List ℕ → List ℕ → List ℕ → Lent
lent o a u s d x v = record { opcodes = o; arguments = a; public = u; secret = s; digests = d; addresses = x; values = v }

-- what they hold
abbrev pub words_of : Words → Lent
words_of w = lent w.opcodes.now w.arguments.now w.public.now w.secret.now w.digests.now w.addresses.now w.values.now

-- they are the same slices
pub record SameSlices (w w2 : Words) : Type 0 where
  pub opcodes : w2.opcodes.ghost_name ≡ w.opcodes.ghost_name
  pub arguments : w2.arguments.ghost_name ≡ w.arguments.ghost_name
  pub public : w2.public.ghost_name ≡ w.public.ghost_name
  pub secret : w2.secret.ghost_name ≡ w.secret.ghost_name
  pub digests : w2.digests.ghost_name ≡ w.digests.ghost_name
  pub addresses : w2.addresses.ghost_name ≡ w.addresses.ghost_name
  pub values : w2.values.ghost_name ≡ w.values.ghost_name

-- and as long as they were
pub record SameLengths (l l2 : Lent) : Type 0 where
  pub opcodes : length l2.opcodes ≡ length l.opcodes
  pub arguments : length l2.arguments ≡ length l.arguments
  pub public : length l2.public ≡ length l.public
  pub secret : length l2.secret ≡ length l.secret
  pub digests : length l2.digests ≡ length l.digests
  pub addresses : length l2.addresses ≡ length l.addresses
  pub values : length l2.values ≡ length l.values

-- they hold whatever 65,536 bytes and 1,024 slots can say
pub record Room (l : Lent) : Type 0 where
  pub opcodes : 1024 ≤ length l.opcodes
  pub arguments : 1024 ≤ length l.arguments
  -- 12 bytes a word
  pub public : 5461 ≤ length l.public
  pub secret : 5461 ≤ length l.secret
  -- 44 bytes for five words
  pub digests : 7445 ≤ length l.digests
  -- 20 bytes a cell
  pub addresses : 3276 ≤ length l.addresses
  pub values : 3276 ≤ length l.values

-- the job j is in r and at the start of the slices; the rest of them is as it was
pub record Says (j : Job) (r : JobFile) (l l2 : Lent) : Type 0 where
  pub number : j.number ≡ 0
  pub digest : r.digest ≡ j.digest
  pub opcodes : Filled l.opcodes l2.opcodes j.opcodes r.slots
  pub arguments : Filled l.arguments l2.arguments j.arguments r.slots
  pub public : Filled l.public l2.public j.public r.publics
  pub secret : Filled l.secret l2.secret j.secret r.secrets
  pub digests : Filled l.digests l2.digests j.digests r.digests
  pub addresses : Filled l.addresses l2.addresses j.addresses r.cells
  pub values : Filled l.values l2.values j.values r.cells
  pub budget : r.budget ≡ j.budget

-- the file is broken, and the slices are as they were
pub record Breaks (j : Job) (l l2 : Lent) : Type 0 where
  pub number : j.number ≡ 50
  pub same : l2 ≡ l
