-- A job file: the job that its bytes say, or that it is broken (50).
use Rattle.std.specs.Prelude.{◌≡◌, List, [], ◌∷◌, ◌++◌, ℕ, zero, suc, ◌+◌, ◌*◌, ◌≤◌, length, get_or, take, drop, eqb}
use Rattle.choices.specs.Choice.{cond, first_in, above_of, differ_of}
use Rattle.machine.specs.Bytes.{bytes_of, number_of}
use Rattle.machine_log.specs.Logged.{logged}
use Rattle.job.specs.Frame.{kind_in, size_by}

-- ---- records

-- the length of what follows the length field, by kind; 0 for an unknown kind
unfoldable pub length_in : ℕ → ℕ
length_in k =
    -- digest, slot (opcode 2, argument 8), public word, secret word
    cond (eqb k 11) 42 (cond (eqb k 12) 12 (cond (eqb k 13) 10 (cond (eqb k 14) 10
    -- secret digest, RAM address and value, budget
    (cond (eqb k 15) 42 (cond (eqb k 16) 18 (cond (eqb k 17) 6 0))))))

-- the kind of the record at the start of b; 0 where no whole record stands
unfoldable pub piece_kind : List ℕ → ℕ
piece_kind b = cond (eqb (size_by length_in b) 0) 0 (kind_in b)

-- how many bytes it takes; all that are left where no whole record stands
unfoldable pub piece_size : List ℕ → ℕ
piece_size b = cond (eqb (size_by length_in b) 0) (length b) (size_by length_in b)

pub record Piece : Type 0 where
  pub kind : ℕ
  pub fields : List ℕ

unfoldable pub piece_in : List ℕ → Piece
piece_in b = record { kind = piece_kind b; fields = drop 4 (take (piece_size b) b) }

-- the records of b, at most f of them
unfoldable pub pieces_in : ℕ → List ℕ → List Piece
pieces_in zero b = []
pieces_in (suc f) [] = []
pieces_in (suc f) (x ∷ b) = piece_in (x ∷ b) ∷ pieces_in f (drop (piece_size (x ∷ b)) (x ∷ b))

-- there are no more than bytes. Where one is cut short, of an unknown kind or of a length not its kind's, one of kind 0 ends the list
unfoldable pub pieces_of : List ℕ → List Piece
pieces_of b = pieces_in (length b) b

-- how a file is written: length, kind, fields
unfoldable pub file_record : ℕ → List ℕ → List ℕ
file_record k fields = bytes_of 2 (length_in k) ++ bytes_of 2 k ++ fields

unfoldable pub file_bytes : List Piece → List ℕ
file_bytes [] = []
file_bytes (q ∷ qs) = file_record q.kind q.fields ++ file_bytes qs

-- how many are of kind k
unfoldable pub count_of : ℕ → List Piece → ℕ
count_of k [] = 0
count_of k (q ∷ qs) = cond (eqb q.kind k) 1 0 + count_of k qs

-- ---- numbers

-- m numbers of n bytes each at the start of b
unfoldable pub numbers_in : ℕ → ℕ → List ℕ → List ℕ
numbers_in n zero b = []
numbers_in n (suc m) b = numbers_in n m b ++ (number_of (take n (drop (n * m) b)) ∷ [])

-- of each record of kind k, in order: m numbers of n bytes, from byte i of its fields on
unfoldable pub column : ℕ → ℕ → ℕ → ℕ → List Piece → List ℕ
column k i n m [] = []
column k i n m (q ∷ qs) = numbers_in n (cond (eqb q.kind k) m 0) (drop i q.fields) ++ column k i n m qs

-- ---- the job

pub record Job : Type 0 where
  pub number : ℕ
  pub digest : List ℕ
  pub opcodes : List ℕ
  pub arguments : List ℕ
  pub public : List ℕ
  pub secret : List ℕ
  -- five words a digest
  pub digests : List ℕ
  pub addresses : List ℕ
  pub values : List ℕ
  pub budget : ℕ

-- 50: more than 65,536 bytes, or 1,024 slots; not one digest, or not first; more than one budget; a record of kind 0
unfoldable pub fault_of : List ℕ → ℕ
fault_of b =
    first_in
    (above_of (length b) 65536 50
    ∷ differ_of (piece_kind b) 11 50
    ∷ differ_of (count_of 11 (pieces_of b)) 1 50
    ∷ above_of (count_of 12 (pieces_of b)) 1024 50
    ∷ above_of (count_of 17 (pieces_of b)) 1 50
    ∷ differ_of (count_of 0 (pieces_of b)) 0 50
    ∷ [])

-- what an absent record of kind 17 means
abbrev pub default_budget : ℕ
default_budget = 16000000

abbrev pub good_job : List Piece → Job
good_job qs =
    record {
      number = 0;
      digest = column 11 0 8 5 qs;
      opcodes = column 12 0 2 1 qs;
      arguments = column 12 2 8 1 qs;
      public = column 13 0 8 1 qs;
      secret = column 14 0 8 1 qs;
      digests = column 15 0 8 5 qs;
      addresses = column 16 0 8 1 qs;
      values = column 16 8 8 1 qs;
      budget = get_or (column 17 0 4 1 qs) 0 default_budget;
    }

abbrev pub broken_job : ℕ → Job
broken_job n =
    record {
      number = n;
      digest = 0 ∷ 0 ∷ 0 ∷ 0 ∷ 0 ∷ [];
      opcodes = [];
      arguments = [];
      public = [];
      secret = [];
      digests = [];
      addresses = [];
      values = [];
      budget = 0;
    }

unfoldable pub job_of : List ℕ → Job
job_of b = cond (eqb (fault_of b) 0) (good_job (pieces_of b)) (broken_job (fault_of b))

-- ---- what the reader relies on and does

-- a column of a file b that has room in o: m numbers of n bytes lie within the fields of kind k, from byte i on
pub record Wanted (b o : List ℕ) (k i n m : ℕ) : Type 0 where
  pub short : length b ≤ 65536
  pub narrow : n ≤ 8
  pub within : i + n * m + 2 ≤ length_in k
  pub room : length (column k i n m (pieces_of b)) ≤ length o

-- b2 is b with words at its start; n is how many
pub record Filled (b b2 words : List ℕ) (n : ℕ) : Type 0 where
  pub is : b2 ≡ logged b 0 words
  pub count : n ≡ length words
