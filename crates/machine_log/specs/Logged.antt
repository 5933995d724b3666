-- Records in the call buffer, each behind the last one.
use Rattle.std.specs.Prelude.{◌≡◌, List, ◌++◌, ℕ, ◌+◌, ◌-◌, ◌*◌, ◌≤◌, length, map, take, drop, eqb}
use Rattle.machine_effects.specs.declared.effect.Effect.{Effect}
use Rattle.machine_effects.specs.declared.effect.Access.{Access}
use Rattle.machine_effects.specs.declared.effect.Accesses.{Accesses}
use Rattle.machine_effects.specs.declared.effect.Direction.{Direction}
use Rattle.machine_effects.specs.declared.effect.Direction.TheVariants.{Read, Write}
use Rattle.machine_effects.specs.declared.effect.U32Calls.{U32Calls}
use Rattle.machine_effects.specs.declared.effect.U32Calls.TheVariants.{Zero, One, Two}
use Rattle.machine_effects.specs.declared.effect.U32Call.{U32Call}
use Rattle.choices.specs.Choice.{cond}
use Rattle.machine.specs.Lengths.{clock_bytes}
use Rattle.machine.specs.Bytes.{bytes_of}
use Rattle.machine.specs.Records.{Record, ram, record_bytes, log_bytes, words_bytes, clocked}

-- b with the bytes r from place at on
unfoldable pub logged : List ℕ → ℕ → List ℕ → List ℕ
logged b at r = take at b ++ r ++ drop (at + length r) b

-- b2 is b with records from place at on, as a log of revision v has them; they take n bytes, and the next place is next
pub record Wrote (v : ℕ) (b b2 : List ℕ) (at : ℕ) (rs : List Record) (n next : ℕ) : Type 0 where
  pub is : b2 ≡ logged b at (log_bytes v rs)
  pub size : length (log_bytes v rs) ≡ n
  pub end : next ≡ at + n

-- records of which every revision has the same bytes: those of kinds 1, 4 and 5
pub record WroteAny (b b2 : List ℕ) (at : ℕ) (rs : List Record) (n next : ℕ) : Type 0 where
  pub any : (v : ℕ) → Wrote v b b2 at rs n next
  pub end : next ≡ at + n

-- one such record at the start
pub record FrontAny (b b2 : List ℕ) (r : Record) : Type 0 where
  pub any : (v : ℕ) → b2 ≡ logged b 0 (record_bytes v r)

-- what stands before the fields of kind 2 or 3, h being length + 65536 * kind; revision 2 has both larger by 4, and a clock
unfoldable pub head_bytes : ℕ → ℕ → ℕ → List ℕ
head_bytes v t h = cond (eqb v 2) (bytes_of 4 (h + 262148) ++ bytes_of 4 t) (bytes_of 4 h)

-- the bytes of a Tip5 and of a U32 record
abbrev pub tip5_bytes : ℕ → ℕ
tip5_bytes v = 774 + clock_bytes v

abbrev pub u32_bytes : ℕ → ℕ
u32_bytes v = 22 + clock_bytes v

-- the record of a trace, at a clock
abbrev pub tip5_record : ℕ → ℕ → ℕ → List ℕ → Record
tip5_record v t opcode trace = clocked v t 2 (bytes_of 2 opcode ++ words_bytes trace)

-- the record of a call of the U32 table
abbrev pub u32_record : ℕ → ℕ → U32Call → Record
u32_record v t c = clocked v t 3 (bytes_of 2 c.opcode ++ bytes_of 8 c.left ++ bytes_of 8 c.right)

-- how many calls of the U32 table there are
abbrev pub u32_count : U32Calls → ℕ
u32_count Zero = 0
u32_count (One a) = 1
u32_count (Two a b) = 2

abbrev pub direction_number : Direction → ℕ
direction_number Read = 0
direction_number Write = 1

-- the first n accesses of RAM of a list, in one direction
unfoldable pub ram_records : ℕ → Direction → List Access → ℕ → List Record
ram_records t d s n = map (λ a. ram t a.address a.value (direction_number d)) (take n s)

-- those of an effect: the reads, then the writes
abbrev pub access_records : ℕ → Accesses → List Record
access_records t a = ram_records t Read a.cells a.reads ++ ram_records t Write (drop a.reads a.cells) (a.count - a.reads)

-- how many bytes an effect's calls take in a log of revision v, and a change of the depth
abbrev pub call_bytes : ℕ → Effect → ℕ
call_bytes v e = u32_bytes v * u32_count e.u32s + 25 * e.accesses.count

abbrev pub stack_bytes : ℕ → ℕ → ℕ
stack_bytes d d2 = 25 * (d2 - d) + 25 * (d - d2)

-- both depths are at least 16 and within the stack
pub record Deep (s : List ℕ) (d d2 : ℕ) : Type 0 where
  pub low : 16 ≤ d
  pub low2 : 16 ≤ d2
  pub high : d ≤ length s
  pub high2 : d2 ≤ length s
