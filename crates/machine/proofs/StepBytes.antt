-- The bytes of a step's records are those that the table says of the log's revision, and at most 1,024, or 1,028 in revision 2. Assumes nothing.
use mathlib.Core.Path.{◌≡◌, refl, ap, ◌∙◌}
use mathlib.Core.Bool.{Bool, true, false}
use mathlib.Core.List.{List, [], ◌∷◌, ◌++◌}
use Prim.Native.Nat.{ℕ, zero, suc, ◌+◌, ◌-◌, ◌*◌, ◌≤◌}
use native.Mathlib.Omega.{arith}
use lib.ListN.{length, length-append}
use lib.Dec.{eqb}
use Rattle.choices.specs.Choice.{cond}
use Rattle.machine.specs.Lengths.{clock_bytes, most_bytes}
use Rattle.machine.specs.Ram.{Cells}
use Rattle.machine.specs.Instruction.{Row, Change, grows, shrinks, grows_by_argument, shrinks_by_argument, table, known, decode, grown_by, shrunk_by, bytes_in, argument_fault}
use Rattle.machine.specs.Machine.{Machine}
use Rattle.machine.specs.Machine as M
use Rattle.machine.specs.Effect.{Call, Effect, acts}
use Rattle.machine.specs.Decide.{opcode_of, argument_of, decide_of}
use Rattle.machine.specs.Apply.{depth_after, stack_after}
use Rattle.machine.specs.Records.{Record, other, timed, stack, record_bytes, log_bytes, clocked, call_record, call_records, growing, shrinking, stack_records, records_of}
use Rattle.machine.specs.Sound.{Sound, Honest}
use Rattle.machine.proofs.Bytes.{bytes-length}
use Rattle.machine.proofs.Records.{words-bytes-length, stack-length, ram-length}
use Rattle.machine.proofs.Does.{Weights, weights, per_byte, call_sizes}
use Rattle.machine.proofs.Weighed.{size_in, all_small, row-few}
use Rattle.machine.proofs.Facts.{Done, done}

-- ---- records

other_length : (v k : ℕ) (b : List ℕ) → length (record_bytes v (other k b)) ≡ 4 + length b
unfolding record_bytes
other_length v k b = simp (length-append, bytes-length) (omega arith)

clocked-length : (v t k : ℕ) (b : List ℕ) → length (record_bytes v (clocked v t k b)) ≡ 4 + clock_bytes v + length b
unfolding record_bytes clocked clock_bytes
clocked-length v t k b = go (eqb v 2)
  where
    go : (u : Bool) → length (record_bytes v (cond u (timed (k + 4) t b) (other k b))) ≡ 4 + cond u 4 0 + length b
    go true = simp (length-append, bytes-length) (omega arith)
    go false = simp (length-append, bytes-length) (omega arith)

log-length : (v : ℕ) (a b : List Record) → length (log_bytes v (a ++ b)) ≡ length (log_bytes v a) + length (log_bytes v b)
unfolding log_bytes
log-length v [] b = omega arith
log-length v (r ∷ a) b = simp (length-append, log-length v a b) (omega arith)

-- an instruction's own calls
calls-length : {c : Cells} {cs : List Call} (v t : ℕ) → Honest c cs → length (log_bytes v (call_records v t cs)) ≡ call_sizes v cs
unfolding log_bytes call_records call_record
calls-length v t Honest.none = refl
calls-length v t (Honest.resets h) = simp (length-append, other_length, calls-length v t h) (omega arith)
calls-length v t (Honest.traces {t = trace} l h) = simp (length-append, clocked-length, bytes-length, words-bytes-length, calls-length v t h) (omega arith)
calls-length v t (Honest.u32s h) = simp (length-append, clocked-length, bytes-length, calls-length v t h) (omega arith)
calls-length v t (Honest.reads i j k h) = simp (length-append, ram-length, calls-length v t h) (omega arith)
calls-length v t (Honest.writes i j h) = simp (length-append, ram-length, calls-length v t h) (omega arith)

one_length : (v t q d x : ℕ) → length (log_bytes v (stack t q d x ∷ [])) ≡ 25
unfolding log_bytes
one_length v t q d x = simp (length-append, stack-length)

growing-length : (v t : ℕ) (s : List ℕ) (q n : ℕ) → length (log_bytes v (growing t s q n)) ≡ 25 * n
unfolding growing log_bytes
growing-length v t s q zero = refl
growing-length v t s q (suc n) = log-length v (growing t s q n) _ ∙ rw (growing-length v t s q n, one_length) (omega arith)

shrinking-length : (v t : ℕ) (s : List ℕ) (q n : ℕ) → length (log_bytes v (shrinking t s q n)) ≡ 25 * n
unfolding shrinking log_bytes
shrinking-length v t s q zero = refl
shrinking-length v t s q (suc n) = log-length v (shrinking t s q n) _ ∙ rw (shrinking-length v t s q n, one_length) (omega arith)

pub stack_records_length : (v t : ℕ) (s after : List ℕ) (d d2 : ℕ) → length (log_bytes v (stack_records t s after d d2)) ≡ 25 * (d2 - d) + 25 * (d - d2)
unfolding stack_records
stack_records_length v t s after d d2 = simp (log-length, growing-length, shrinking-length)

-- the depth changes one way, so by as much as the row says
moved : (c : Change) (n d k l : ℕ) → k ≤ d → l + shrunk_by c n ≡ k + grown_by c n → 25 * (d - k + l - d) + 25 * (d - (d - k + l)) ≡ 25 * (grown_by c n + shrunk_by c n)
moved (grows g) n d k l h e = omega arith
moved (shrinks g) n d k l h e = omega arith
moved grows_by_argument n d k l h e = omega arith
moved shrinks_by_argument n d k l h e = omega arith

-- ---- a step's records

-- an effect's own calls, and the places that the stack wins or loses below the top sixteen
pub records_length : (m : Machine) (e : Effect) → Honest (M.ram m) e.calls →
    length (log_bytes m.state.revision (records_of m e)) ≡ call_sizes m.state.revision e.calls + (25 * (depth_after m e - m.state.depth) + 25 * (m.state.depth - depth_after m e))
unfolding records_of
records_length m e h =
    log-length m.state.revision (call_records m.state.revision m.state.clock e.calls) _
    ∙ rw (calls-length m.state.revision m.state.clock h, stack_records_length m.state.revision m.state.clock m.memory.op_stack (stack_after m e) m.state.depth (depth_after m e))

done-bytes : (m : Machine) → Sound m → (e : Effect) (k : Done (per_byte m.state.revision) m e) → length (log_bytes m.state.revision (records_of m e)) ≡ bytes_in m.state.revision k.row (argument_of m)
unfolding bytes_in
done-bytes m s e k =
    records_length m e k.does.own.calls
    ∙ (omega (arith, k.does.own.sizes, moved k.row.change (argument_of m) m.state.depth e.pops (length e.words) (omega (arith, k.does.own.pops, s.deep)) k.does.own.change))

pub step-bytes : (m : Machine) → Sound m → (e : Effect) → decide_of m ≡ acts e → (r : Row) → decode (opcode_of m) ≡ known r →
    length (log_bytes m.state.revision (records_of m e)) ≡ bytes_in m.state.revision r (argument_of m)
step-bytes m s e h r q = go (done (per_byte m.state.revision) m s e h)
  where
    go : Done (per_byte m.state.revision) m e → length (log_bytes m.state.revision (records_of m e)) ≡ bytes_in m.state.revision r (argument_of m)
    go k = let y : k.row ≡ r = cc k.is in done-bytes m s e k ∙ ap (λ (z : Row). bytes_in m.state.revision z (argument_of m)) y

-- ---- at most 1,024, and a clock in revision 2

-- c is how many bytes a clock takes
abbrev per_clock : ℕ → Weights
per_clock c = weights 4 (774 + c) (22 + c) 25 25

small_without : all_small (per_clock 0) 1024 ≡ true
unfolding table
small_without = refl

small_with : all_small (per_clock 4) 1028 ≡ true
unfolding table
small_with = refl

pub bytes-few : (v op n : ℕ) (r : Row) → decode op ≡ known r → argument_fault r.argument n ≡ 0 → bytes_in v r n ≤ most_bytes v
unfolding bytes_in most_bytes clock_bytes
bytes-few v op n r e h = go (eqb v 2)
  where
    go : (t : Bool) → size_in (per_clock (cond t 4 0)) r n ≤ 1024 + cond t 4 0
    go true = row-few (per_clock 4) 1028 small_with op n r e h
    go false = row-few (per_clock 0) 1024 small_without op n r e h

pub step-few : (m : Machine) → Sound m → (e : Effect) → decide_of m ≡ acts e → length (log_bytes m.state.revision (records_of m e)) ≤ most_bytes m.state.revision
step-few m s e h = go (done (per_byte m.state.revision) m s e h)
  where
    go : Done (per_byte m.state.revision) m e → length (log_bytes m.state.revision (records_of m e)) ≤ most_bytes m.state.revision
    go k = omega (arith, done-bytes m s e k, bytes-few m.state.revision (opcode_of m) (argument_of m) k.row k.is k.allowed)
