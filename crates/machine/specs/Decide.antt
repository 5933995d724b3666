-- Places B and C: what the next instruction does, or its refusal.
use Rattle.std.specs.Prelude.{ℕ, ◌+◌, length, get_or, ltb}
use Rattle.choices.specs.Choice.{cond}
use Rattle.machine.specs.Refusal.{plainly, machine_halted, instruction_pointer_overflow, op_stack_too_shallow}
use Rattle.machine.specs.Instruction.{Instruction, Row, Decoded, known, unknown, decode, grown_by, shrunk_by}
use Rattle.machine.specs.Instruction as I
use Rattle.machine.specs.Machine.{Machine, top, ram, jump_top, public_left, secret_left, digests_left}
use Rattle.machine.specs.Effect.{Decision, refuses, unless}
use Rattle.machine.specs.Stack.{push_of, pop_of, divine_of, pick_of, place_of, dup_of, swap_of}
use Rattle.machine.specs.Control.{halt_of, nop_of, skiz_of, call_of, return_of, recurse_of, recurse_or_return_of, assert_of}
use Rattle.machine.specs.Memory.{read_mem_of, write_mem_of}
use Rattle.machine.specs.Hashing.{hash_of, assert_vector_of, sponge_init_of, sponge_absorb_of, sponge_absorb_mem_of, sponge_squeeze_of}
use Rattle.machine.specs.Arithmetic.{add_of, addi_of, mul_of, invert_of, eq_of, xx_add_of, xx_mul_of, x_invert_of, xb_mul_of}
use Rattle.machine.specs.Bitwise.{split_of, lt_of, and_of, xor_of, log2_floor_of, pow_of, div_mod_of, pop_count_of}
use Rattle.machine.specs.InputOutput.{read_io_of, write_io_of}
use Rattle.machine.specs.ManyInOne.{merkle_step_of, merkle_step_mem_of, xx_dot_step_of, xb_dot_step_of}

-- the opcode and the argument in the slot at the pointer
abbrev pub opcode_of : Machine → ℕ
opcode_of m = get_or m.code.opcodes m.state.pointer 0

abbrev pub argument_of : Machine → ℕ
argument_of m = get_or m.code.arguments m.state.pointer 0

-- the instruction with the argument n
unfoldable pub effect_of : Instruction → ℕ → Machine → Decision
effect_of I.pop n m = pop_of n
effect_of I.push n m = push_of n
effect_of I.divine n m = divine_of n (secret_left m)
effect_of I.pick n m = pick_of (top m) n
effect_of I.place n m = place_of (top m) n
effect_of I.dup n m = dup_of (top m) n
effect_of I.swap n m = swap_of (top m) n
effect_of I.halt n m = halt_of
effect_of I.nop n m = nop_of
effect_of I.skiz n m = skiz_of m.code.opcodes m.state.pointer (top m)
effect_of I.call n m = call_of m.state.pointer n
effect_of I.return n m = return_of (jump_top m)
effect_of I.recurse n m = recurse_of (jump_top m)
effect_of I.recurse_or_return n m = recurse_or_return_of (top m) (jump_top m)
effect_of I.assert n m = assert_of (top m)
effect_of I.read_mem n m = read_mem_of (ram m) (top m) n
effect_of I.write_mem n m = write_mem_of (top m) n
effect_of I.hash n m = hash_of (top m)
effect_of I.assert_vector n m = assert_vector_of (top m)
effect_of I.sponge_init n m = sponge_init_of
effect_of I.sponge_absorb n m = sponge_absorb_of m.state.sponge (top m)
effect_of I.sponge_absorb_mem n m = sponge_absorb_mem_of m.state.sponge (ram m) (top m)
effect_of I.sponge_squeeze n m = sponge_squeeze_of m.state.sponge
effect_of I.add n m = add_of (top m)
effect_of I.addi n m = addi_of (top m) n
effect_of I.mul n m = mul_of (top m)
effect_of I.invert n m = invert_of (top m)
effect_of I.eq n m = eq_of (top m)
effect_of I.split n m = split_of (top m)
effect_of I.lt n m = lt_of (top m)
effect_of I.and n m = and_of (top m)
effect_of I.xor n m = xor_of (top m)
effect_of I.log_2_floor n m = log2_floor_of (top m)
effect_of I.pow n m = pow_of (top m)
effect_of I.div_mod n m = div_mod_of (top m)
effect_of I.pop_count n m = pop_count_of (top m)
effect_of I.xx_add n m = xx_add_of (top m)
effect_of I.xx_mul n m = xx_mul_of (top m)
effect_of I.x_invert n m = x_invert_of (top m)
effect_of I.xb_mul n m = xb_mul_of (top m)
effect_of I.read_io n m = read_io_of n (public_left m)
effect_of I.write_io n m = write_io_of (top m) n
effect_of I.merkle_step n m = merkle_step_of (digests_left m) (top m)
effect_of I.merkle_step_mem n m = merkle_step_mem_of (ram m) (top m)
effect_of I.xx_dot_step n m = xx_dot_step_of (ram m) (top m)
effect_of I.xb_dot_step n m = xb_dot_step_of (ram m) (top m)

-- 12 where the depth behind it would be under 16; an unknown opcode does not pass place A
abbrev pub decide_in : Decoded → ℕ → Machine → Decision
decide_in unknown n m = refuses (plainly 3)
decide_in (known r) n m =
    unless (ltb (m.state.depth + grown_by r.change n) (16 + shrunk_by r.change n)) op_stack_too_shallow (effect_of r.instruction n m)

unfoldable pub decide_of : Machine → Decision
decide_of m =
    unless m.state.halted machine_halted
    (cond (ltb m.state.pointer (length m.code.opcodes)) (decide_in (decode (opcode_of m)) (argument_of m) m) (refuses instruction_pointer_overflow))
