-- The calls as records: their bytes, the records of a step, a record read from bytes. v is the revision of the log: 1 has kinds 1 to 5, 2 has
-- kinds 1, 4, 5, 6 and 7, where 6 and 7 are 2 and 3 with a clock put first among the fields.
use Rattle.std.specs.Prelude.{ℕ, zero, suc, ◌+◌, ◌-◌, List, [], ◌∷◌, ◌++◌, length, get_or, take, drop, eqb, ltb}
use Rattle.choices.specs.Choice.{cond}
use Rattle.machine.specs.Bytes.{bytes_of, number_of}
use Rattle.machine.specs.Machine.{Machine}
use Rattle.machine.specs.Effect.{Call, reset, tip5, u32, ram_read, ram_write, Effect}
use Rattle.machine.specs.Apply.{depth_after, stack_after}

-- Direction 1 is a write, 0 a read. Replay only measures kinds 1 to 3, and 6 and 7 but for the clock, so their fields are bytes here.
pub data Record : Type 0 where
  -- kind and fields: 1 sponge reset, 2 Tip5, 3 U32
  other : ℕ → List ℕ → Record
  -- kind, clock and the fields behind it: 6 Tip5, 7 U32
  timed : ℕ → ℕ → List ℕ → Record
  -- clock, pointer, direction, value
  stack : ℕ → ℕ → ℕ → ℕ → Record
  -- clock, address, value, direction
  ram : ℕ → ℕ → ℕ → ℕ → Record

-- the length of what follows the length field, by kind; 0 for a kind that the revision does not have
unfoldable pub length_of : ℕ → ℕ → ℕ
length_of v k =
    cond (eqb k 1) 2
    (cond (eqb k 4) 23
    (cond (eqb k 5) 23
    (cond (eqb v 2) (cond (eqb k 6) 776 (cond (eqb k 7) 24 0)) (cond (eqb k 2) 772 (cond (eqb k 3) 20 0)))))

-- length, kind, fields
unfoldable pub record_bytes : ℕ → Record → List ℕ
record_bytes v (other k b) = bytes_of 2 (length_of v k) ++ bytes_of 2 k ++ b
record_bytes v (timed k t b) = bytes_of 2 (length_of v k) ++ bytes_of 2 k ++ bytes_of 4 t ++ b
record_bytes v (stack t q d x) = bytes_of 2 23 ++ bytes_of 2 4 ++ bytes_of 4 t ++ bytes_of 8 q ++ (d ∷ bytes_of 8 x)
record_bytes v (ram t a x d) = bytes_of 2 23 ++ bytes_of 2 5 ++ bytes_of 4 t ++ bytes_of 8 a ++ bytes_of 8 x ++ (d ∷ [])

unfoldable pub log_bytes : ℕ → List Record → List ℕ
log_bytes v [] = []
log_bytes v (r ∷ rs) = record_bytes v r ++ log_bytes v rs

-- ---- the records of a step

-- eight bytes for each word
unfoldable pub words_bytes : List ℕ → List ℕ
words_bytes [] = []
words_bytes (w ∷ ws) = bytes_of 8 w ++ words_bytes ws

-- kind 2 or 3 with these fields, at a clock: in revision 2 kind 6 or 7, with the clock
unfoldable pub clocked : ℕ → ℕ → ℕ → List ℕ → Record
clocked v t k b = cond (eqb v 2) (timed (k + 4) t b) (other k b)

-- an instruction's own call, at a clock
unfoldable pub call_record : ℕ → ℕ → Call → Record
call_record v t reset = other 1 []
call_record v t (tip5 opcode trace) = clocked v t 2 (bytes_of 2 opcode ++ words_bytes trace)
call_record v t (u32 opcode left right) = clocked v t 3 (bytes_of 2 opcode ++ bytes_of 8 left ++ bytes_of 8 right)
call_record v t (ram_read a x) = ram t a x 0
call_record v t (ram_write a x) = ram t a x 1

unfoldable pub call_records : ℕ → ℕ → List Call → List Record
call_records v t [] = []
call_records v t (c ∷ cs) = call_record v t c ∷ call_records v t cs

-- n writes from pointer q upward: pointer q stands for the word at index q - 16 of s, the stack after the step
unfoldable pub growing : ℕ → List ℕ → ℕ → ℕ → List Record
growing t s q zero = []
growing t s q (suc n) = growing t s q n ++ (stack t (q + n) 1 (get_or s (q + n - 16) 0) ∷ [])

-- n reads from pointer q - 1 downward; s is the stack before the step
unfoldable pub shrinking : ℕ → List ℕ → ℕ → ℕ → List Record
shrinking t s q zero = []
shrinking t s q (suc n) = shrinking t s q n ++ (stack t (q - 1 - n) 0 (get_or s (q - 1 - n - 16) 0) ∷ [])

-- the op-stack records of a step from depth d to depth d2: writes for the places won below the top sixteen, or reads for those lost
unfoldable pub stack_records : ℕ → List ℕ → List ℕ → ℕ → ℕ → List Record
stack_records t before after d d2 = growing t after d (d2 - d) ++ shrinking t before d (d - d2)

-- the instruction's own calls, then those of the op stack
unfoldable pub records_of : Machine → Effect → List Record
records_of m e =
    call_records m.state.revision m.state.clock e.calls
    ++ stack_records m.state.clock m.memory.op_stack (stack_after m e) m.state.depth (depth_after m e)

-- ---- a record read from bytes

-- the fields of a whole record b of kind k
unfoldable pub record_of : ℕ → List ℕ → Record
record_of k b =
    cond (eqb k 4) (stack (number_of (take 4 (drop 4 b))) (number_of (take 8 (drop 8 b))) (get_or b 16 0) (number_of (take 8 (drop 17 b))))
    (cond (eqb k 5) (ram (number_of (take 4 (drop 4 b))) (number_of (take 8 (drop 8 b))) (number_of (take 8 (drop 16 b))) (get_or b 24 0))
    (cond (ltb 5 k) (timed k (number_of (take 4 (drop 4 b))) (drop 8 b)) (other k (drop 4 b))))

pub data Parsed : Type 0 where
  -- nothing is left
  ended : Parsed
  -- cut short, of a kind that the revision does not have, or of a length not its kind's
  broken : Parsed
  -- a record and the bytes behind it
  found : Record → List ℕ → Parsed

-- a record of length field n and kind k at the start of b
unfoldable pub framed : ℕ → ℕ → ℕ → List ℕ → Parsed
framed v n k b =
    cond (eqb (length_of v k) 0) broken
    (cond (eqb n (length_of v k))
    (cond (ltb (length b) (n + 2)) broken (found (record_of k (take (n + 2) b)) (drop (n + 2) b)))
    broken)

unfoldable pub parse : ℕ → List ℕ → Parsed
parse v [] = ended
parse v (x ∷ b) = cond (ltb (length (x ∷ b)) 4) broken (framed v (number_of (take 2 (x ∷ b))) (number_of (take 2 (drop 2 (x ∷ b)))) (x ∷ b))
