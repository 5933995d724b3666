-- The six helper variables of a machine before its step; those not named are 0.
use Rattle.std.specs.Prelude.{ℕ, ◌+◌, ◌/◌, ◌%◌, ◌^◌, List, [], ◌∷◌, ◌++◌, length, get_or, replicate, take, eqb, ltb}
use Rattle.field.specs.Base.{add_p, sub_p, inverse_p}
use Rattle.choices.specs.Choice.{cond}
use Rattle.machine.specs.Instruction.{Instruction, Row, Decoded, known, unknown, decode}
use Rattle.machine.specs.Instruction as I
use Rattle.machine.specs.Ram.{held}
use Rattle.machine.specs.Machine.{Machine, st, top, ram, digests_left}
use Rattle.machine.specs.Memory.{words_up}
use Rattle.machine.specs.Decide.{opcode_of, argument_of}
use Rattle.machine.specs.Given.{Given, given_of}

-- up to six words, and zeros behind them
abbrev pub filled : List ℕ → List ℕ
filled s = take 6 (s ++ replicate 6 0)

-- the argument's digits 0 to 3
unfoldable pub argument_bits : ℕ → List ℕ
argument_bits n = n % 2 ∷ n / 2 % 2 ∷ n / 4 % 2 ∷ n / 8 % 2 ∷ []

-- the next slot's opcode; 1 where there is none
unfoldable pub next_opcode : List ℕ → ℕ → ℕ
next_opcode opcodes pointer = cond (ltb (pointer + 1) (length opcodes)) (get_or opcodes (pointer + 1) 0) 1

unfoldable pub opcode_parts : ℕ → List ℕ
opcode_parts o = o % 2 ∷ o / 2 % 4 ∷ o / 8 % 4 ∷ o / 32 % 4 ∷ o / 128 ∷ []

unfoldable pub split_helper : ℕ → ℕ
split_helper x = cond (eqb (x % 2 ^ 32) 0) 0 (inverse_p (sub_p (x / 2 ^ 32) 0xffff_ffff))

-- five words; zeros where less are left
unfoldable pub next_digest : List ℕ → List ℕ
next_digest left = cond (ltb (length left) 5) (replicate 5 0) (take 5 left)

-- of an instruction with the argument n, before the machine m takes its step
unfoldable pub helpers_of : Instruction → ℕ → Machine → List ℕ
helpers_of I.pop n m = argument_bits n
helpers_of I.divine n m = argument_bits n
helpers_of I.pick n m = argument_bits n
helpers_of I.place n m = argument_bits n
helpers_of I.dup n m = argument_bits n
helpers_of I.swap n m = argument_bits n
helpers_of I.read_mem n m = argument_bits n
helpers_of I.write_mem n m = argument_bits n
helpers_of I.read_io n m = argument_bits n
helpers_of I.write_io n m = argument_bits n
helpers_of I.skiz n m = inverse_p (st (top m) 0) ∷ opcode_parts (next_opcode m.code.opcodes m.state.pointer)
helpers_of I.recurse_or_return n m = inverse_p (sub_p (st (top m) 6) (st (top m) 5)) ∷ []
helpers_of I.sponge_absorb_mem n m = words_up (ram m) (add_p (st (top m) 0) 4) 6
helpers_of I.merkle_step n m = next_digest (digests_left m) ++ (st (top m) 5 % 2 ∷ [])
helpers_of I.merkle_step_mem n m = words_up (ram m) (st (top m) 7) 5 ++ (st (top m) 5 % 2 ∷ [])
helpers_of I.split n m = split_helper (st (top m) 0) ∷ []
helpers_of I.eq n m = inverse_p (sub_p (st (top m) 1) (st (top m) 0)) ∷ []
helpers_of I.xx_dot_step n m = words_up (ram m) (st (top m) 0) 3 ++ words_up (ram m) (st (top m) 1) 3
helpers_of I.xb_dot_step n m = held (ram m) (st (top m) 0) ∷ words_up (ram m) (st (top m) 1) 3
helpers_of I.push n m = []
helpers_of I.halt n m = []
helpers_of I.nop n m = []
helpers_of I.call n m = []
helpers_of I.return n m = []
helpers_of I.recurse n m = []
helpers_of I.assert n m = []
helpers_of I.hash n m = []
helpers_of I.assert_vector n m = []
helpers_of I.sponge_init n m = []
helpers_of I.sponge_absorb n m = []
helpers_of I.sponge_squeeze n m = []
helpers_of I.add n m = []
helpers_of I.addi n m = []
helpers_of I.mul n m = []
helpers_of I.invert n m = []
helpers_of I.lt n m = []
helpers_of I.and n m = []
helpers_of I.xor n m = []
helpers_of I.log_2_floor n m = []
helpers_of I.pow n m = []
helpers_of I.div_mod n m = []
helpers_of I.pop_count n m = []
helpers_of I.xx_add n m = []
helpers_of I.xx_mul n m = []
helpers_of I.x_invert n m = []
helpers_of I.xb_mul n m = []

abbrev pub helpers_in : Decoded → ℕ → Machine → List ℕ
helpers_in unknown n m = []
helpers_in (known r) n m = helpers_of r.instruction n m

-- outside the program they are zeros
unfoldable pub helpers_at : Machine → List ℕ
helpers_at m = filled (cond (ltb m.state.pointer (length m.code.opcodes)) (helpers_in (decode (opcode_of m)) (argument_of m) m) [])

abbrev pub helper_variables_of : Machine → Given
helper_variables_of m = given_of m 6 (helpers_at m)
