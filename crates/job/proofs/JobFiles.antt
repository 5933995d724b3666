-- What a job file is: sound, or broken with 50; and a file that is written record by record is read back. Assumes nothing.
use mathlib.Core.Path.{◌≡◌, refl, sym, ap, ◌∙◌}
use mathlib.Core.List.{List, [], ◌∷◌, ◌++◌}
use Prim.Native.Nat.{ℕ, ◌+◌, ◌<◌}
use native.Mathlib.Omega.{arith}
use borrow.Author.Tests.{ne_eqb}
use lib.ListN.{length, drop, length-append}
use lib.Seq.{take_at, drop_at}
use Rattle.machine.specs.Bytes.{bytes_of}
use Rattle.machine.proofs.Bytes.{number_back}
use Rattle.job.specs.Frame.{kind_in, size_by}
use Rattle.job.specs.JobFile.{length_in, piece_kind, piece_size, Piece, piece_in, pieces_in, pieces_of, file_record, file_bytes, count_of, good_job, job_of}
use Rattle.job.proofs.FrameLaws.{size_from}
use Rattle.job.proofs.JobFileLaws.{length-few, pieces_turn, Sound, fault_sound, fault_other, job_good, job-broken}

-- ---- sound, or broken

-- a sound file says its job
pub sound-job : (b : List ℕ) → Sound b → job_of b ≡ good_job (pieces_of b)
sound-job b s = job_good b (fault_sound b s)

-- any other gets 50
pub other-job : (b : List ℕ) → (Sound b → ⊥) → (job_of b).number ≡ 50
other-job b n = let e = fault_other b n in ap (λ j. j.number) (job-broken b 50 (sym e) (λ z. omega arith))

-- more than 65,536 bytes, and more than 1,024 slots
pub too_long_lem : (b : List ℕ) → 65536 < length b → (job_of b).number ≡ 50
too_long_lem b h = other-job b (λ s. omega (arith, s.short))

pub too_many : (b : List ℕ) → 1024 < count_of 12 (pieces_of b) → (job_of b).number ≡ 50
too_many b h = other-job b (λ s. omega (arith, s.slots))

-- ---- written and read back

-- a record whose fields are as long as its kind wants
pub record Formed (q : Piece) : Type 0 where
  pub known : 0 < length_in q.kind
  pub small : q.kind < 65536
  pub long : length_in q.kind ≡ length q.fields + 2

pub data AllFormed : List Piece → Type 0 where
  none : AllFormed []
  more : {q : Piece} {qs : List Piece} → Formed q → AllFormed qs → AllFormed (q ∷ qs)

-- at the start of a file
module _ (k : ℕ) (fields rest : List ℕ) (known : 0 < length_in k) (small : k < 65536) (long : length_in k ≡ length fields + 2) where
  record_long : length (file_record k fields) ≡ length_in k + 2
  unfolding file_record bytes_of
  record_long = omega arith

  record_size : size_by length_in (file_record k fields ++ rest) ≡ length_in k + 2
  unfolding file_record bytes_of kind_in
  record_size =
      let l = length-append (file_record k fields) rest in
      let n : length_in k < 65536 = omega (arith, length-few k) in
      size_from length_in (file_record k fields ++ rest) k (number_back 2 k small) known (number_back 2 (length_in k) n) (omega (arith, record_long)) (omega (arith, record_long))

  record_kind : piece_kind (file_record k fields ++ rest) ≡ k
  unfolding piece_kind kind_in file_record bytes_of
  record_kind =
      let z : size_by length_in (file_record k fields ++ rest) ≡ 0 → ⊥ = λ e. omega (arith, record_size) in
      rw (ne_eqb (size_by length_in (file_record k fields ++ rest)) 0 z) (number_back 2 k small)

  piece_size_lem : piece_size (file_record k fields ++ rest) ≡ length_in k + 2
  unfolding piece_size
  piece_size_lem =
      let z : size_by length_in (file_record k fields ++ rest) ≡ 0 → ⊥ = λ e. omega (arith, record_size) in
      rw (ne_eqb (size_by length_in (file_record k fields ++ rest)) 0 z) record_size

  record_fields : drop 4 (file_record k fields) ≡ fields
  unfolding file_record bytes_of
  record_fields = refl

  pub pieces-record : pieces_of (file_record k fields ++ rest) ≡ record { kind = k; fields = fields } ∷ pieces_of rest
  unfolding piece_in
  pieces-record =
      pieces_turn (file_record k fields ++ rest) (omega (arith, length-append (file_record k fields) rest, record_long))
      ∙ rw (record_kind, piece_size_lem, take_at (file_record k fields) rest (length_in k + 2) record_long, drop_at (file_record k fields) rest (length_in k + 2) record_long, record_fields)

-- a file that is written record by record is read back
pub pieces_back : {qs : List Piece} → AllFormed qs → pieces_of (file_bytes qs) ≡ qs
unfolding file_bytes pieces_of pieces_in
pieces_back none = refl
pieces_back (more {q = q} {qs = qs} f a) = pieces-record q.kind q.fields (file_bytes qs) f.known f.small f.long ∙ ap (λ (us : List Piece). q ∷ us) (pieces_back a)
