-- Document 01's proved table: what is asked and what is expected. That each line is answered so is one theorem (proofs/ProvedTable.antt).
-- A line asks a step of a machine with one slot, by its opcode and argument, at a depth, with words on top, ST 0 first. The clock is
-- 7, so that a step right at clock 0 alone is excluded.
use Rattle.std.specs.Prelude.{ℕ, ◌-◌, ◌^◌, false, List, [], ◌∷◌, ◌++◌, length, replicate}
use Rattle.field.specs.Base.{p}
use Rattle.tip5.specs.SplitAndLookup.{lookup_of}
use Rattle.machine.specs.Refusal.{Refusal, instruction_pointer_overflow, op_stack_too_shallow, failed_u32_conversion, logarithm_of_zero}
use Rattle.machine.specs.Machine.{Machine, machine, top}
use Rattle.machine.specs.Effect.{Call, u32, ram_read, Decision, acts, refuses, drops}
use Rattle.machine.specs.Hashing.{from_top, reversed}
use Rattle.machine.specs.Decide.{decide_of}
use Rattle.machine.specs.Apply.{Outcome, took, kept, lost}
use Rattle.machine.specs.Open.{no_sponge}
use Rattle.machine.specs.FeeTable.{unpriced}
use Rattle.machine.specs.Step.{step_of}

-- what comes of it
pub data Answer : Type 0 where
  -- the step succeeds: the depth then, the words on top, ST 0 first, and its own calls
  leaves : ℕ → List ℕ → List Call → Answer
  -- the step is refused: with what, and the depth then
  turns_down : Refusal → ℕ → Answer
  -- a number
  is : ℕ → Answer

-- a stack of 32 words, so many of them used, with these on top
unfoldable pub standing : ℕ → List ℕ → List ℕ
standing depth words = replicate (depth - length words) 0 ++ reversed words (length words) ++ replicate (32 - depth) 0

unfoldable pub asked : ℕ → ℕ → ℕ → List ℕ → Machine
asked opcode argument depth words =
    machine
    (record {
      clock = 7;
      pointer = 0;
      depth = depth;
      jumps = 0;
      cells = 0;
      outputs = 0;
      publics = 0;
      secrets = 0;
      digests = 0;
      sponge = no_sponge;
      halted = false;
      revision = 1;
    })
    (record {
      opcodes = opcode ∷ [];
      arguments = argument ∷ [];
      public = [];
      secret = [];
      digests = [];
    })
    (record {
      op_stack = standing depth words;
      origins = [];
      destinations = [];
      addresses = [];
      values = [];
      output = [];
    })

abbrev pub calls_in : Decision → List Call
calls_in (acts e) = e.calls
calls_in (refuses r) = []
calls_in (drops r) = []

abbrev pub answered : ℕ → Machine → Outcome → Answer
answered n m (took x) = leaves x.state.depth (from_top (top x) 0 n) (calls_in (decide_of m))
answered n m (kept r) = turns_down r m.state.depth
answered n m (lost r x) = turns_down r x.state.depth

-- the step that a machine takes, of which the top n words are looked at
unfoldable pub stepping : ℕ → Machine → Answer
stepping n m = answered n m (step_of unpriced m (replicate 1024 0)).outcome

pub record Line : Type 0 where
  pub seen : Answer
  pub expected : Answer

abbrev line : Answer → Answer → Line
line s e = record { seen = s; expected = e }

unfoldable pub proved_table : List Line
proved_table =
    -- add of p - 1 and 1 is 0
    line (stepping 1 (asked 42 0 18 ((p - 1) ∷ 1 ∷ []))) (leaves 17 (0 ∷ []) [])
    -- div_mod of 7 by 2 leaves 1 over 3 and records lt(1, 2), split(7, 3)
    ∷ line (stepping 2 (asked 20 0 18 (7 ∷ 2 ∷ []))) (leaves 18 (1 ∷ 3 ∷ []) (u32 6 1 2 ∷ u32 4 7 3 ∷ []))
    -- lt of 2^32 - 1 and 0 is 0
    ∷ line (stepping 1 (asked 6 0 18 ((2 ^ 32 - 1) ∷ 0 ∷ []))) (leaves 17 (0 ∷ []) (u32 6 (2 ^ 32 - 1) 0 ∷ []))
    -- xor of 6 and 3 is 5, records and(6, 3)
    ∷ line (stepping 1 (asked 22 0 18 (6 ∷ 3 ∷ []))) (leaves 17 (5 ∷ []) (u32 14 6 3 ∷ []))
    -- log_2_floor: 1 gives 0, 2^32 - 1 gives 31, 0 gives 22
    ∷ line (stepping 1 (asked 12 0 17 (1 ∷ []))) (leaves 17 (0 ∷ []) (u32 12 1 0 ∷ []))
    ∷ line (stepping 1 (asked 12 0 17 ((2 ^ 32 - 1) ∷ []))) (leaves 17 (31 ∷ []) (u32 12 (2 ^ 32 - 1) 0 ∷ []))
    ∷ line (stepping 1 (asked 12 0 17 (0 ∷ []))) (turns_down logarithm_of_zero 17)
    -- pop_count of 2^32 gives 13
    ∷ line (stepping 1 (asked 28 0 17 ((2 ^ 32) ∷ []))) (turns_down (failed_u32_conversion (2 ^ 32)) 17)
    -- pow of 0 to 0 is 1
    ∷ line (stepping 1 (asked 30 0 18 (0 ∷ 0 ∷ []))) (leaves 17 (1 ∷ []) (u32 30 0 0 ∷ []))
    -- split of p - 1 has high 2^32 - 1, low 0
    ∷ line (stepping 2 (asked 4 0 17 ((p - 1) ∷ []))) (leaves 18 (0 ∷ (2 ^ 32 - 1) ∷ []) (u32 4 0 (2 ^ 32 - 1) ∷ []))
    -- pop 1 at depth 16 gives 12, at 17 succeeds
    ∷ line (stepping 0 (asked 3 1 16 [])) (turns_down op_stack_too_shallow 16)
    ∷ line (stepping 0 (asked 3 1 17 [])) (leaves 16 [] [])
    -- read_mem 2 at 0 ends at p - 2
    ∷ line (stepping 1 (asked 57 2 17 (0 ∷ []))) (leaves 19 ((p - 2) ∷ []) (ram_read 0 0 ∷ ram_read (p - 1) 0 ∷ []))
    -- skiz on 0 in the last slot at depth 17 gives 11 and depth 16
    ∷ line (stepping 0 (asked 2 0 17 (0 ∷ []))) (turns_down instruction_pointer_overflow 16)
    -- X^2 times X is X - 1
    ∷ line (stepping 3 (asked 74 0 22 (0 ∷ 0 ∷ 1 ∷ 0 ∷ 1 ∷ 0 ∷ []))) (leaves 19 ((p - 1) ∷ 1 ∷ 0 ∷ []) [])
    -- lookup 1 is 7, 255 is 255
    ∷ line (is (lookup_of 1)) (is 7)
    ∷ line (is (lookup_of 255)) (is 255)
    ∷ []

abbrev pub seen_in : List Line → List Answer
seen_in [] = []
seen_in (l ∷ ls) = l.seen ∷ seen_in ls

abbrev pub expected_in : List Line → List Answer
expected_in [] = []
expected_in (l ∷ ls) = l.expected ∷ expected_in ls
