-- `machine_decide::decide::act` meets its contract: each arm is its instruction, and the rest is no instruction.
use mathlib.Core.Path.{refl, sym, ap}
use mathlib.Core.List.{[], ◌∷◌}
use lib.Dec.{eqb}
use borrow.Author.Tests.{eqb-true}
use Rattle.machine.specs.Refusal.{refusal_of}
use Rattle.machine.specs.Instruction.{Decoded, table, decode}
use Rattle.machine.specs.Decide.{effect_of}
use Rattle.machine_effects.specs.EffectView.{decision_of}
use Rattle.machine_isa.proofs.TableLaws.{rest}
use Rattle.machine.proofs.Words.{words_get_d}
use Rattle.machine_decide.specs.DecideView.{hashes, act_in}
use Rattle.machine_decide.proofs.DecideLaws.{words_allowed, place_allowed, hashing_in, undecoded}
use Rattle.machine_decide.proofs.decide.act.Goals as goal

pub divine-requires : goal.divine-requires
unfolding decode table
divine-requires c = words_allowed _ (rw c.in-9.is at c.requires.reliable.allowed)

pub pick-requires : goal.pick-requires
unfolding decode table
pick-requires c = place_allowed _ (rw c.in-17.is at c.requires.reliable.allowed)

pub place-requires : goal.place-requires
unfolding decode table
place-requires c = place_allowed _ (rw c.in-25.is at c.requires.reliable.allowed)

pub dup-requires : goal.dup-requires
unfolding decode table
dup-requires c = place_allowed _ (rw c.in-33.is at c.requires.reliable.allowed)

pub swap-requires : goal.swap-requires
unfolding decode table
swap-requires c = place_allowed _ (rw c.in-41.is at c.requires.reliable.allowed)

pub skiz-requires : goal.skiz-requires
skiz-requires c = c.requires.reliable.inside

pub call-requires : goal.call-requires
call-requires c = c.requires.reliable.pointer

pub read_mem-requires : goal.read_mem-requires
unfolding decode table
read_mem-requires c = (words_get_d 15 c.requires.reliable.words, words_allowed _ (rw c.in-57.is at c.requires.reliable.allowed))

pub write_mem-requires : goal.write_mem-requires
unfolding decode table
write_mem-requires c = (c.requires.reliable.words, words_allowed _ (rw c.in-11.is at c.requires.reliable.allowed))

pub addi-requires : goal.addi-requires
addi-requires c = (c.requires.reliable.words, c.requires.reliable.argument)

pub add-requires : goal.add-requires
add-requires c = c.requires.reliable.words

pub invert-requires : goal.invert-requires
invert-requires c = c.requires.reliable.words

pub xx_add-requires : goal.xx_add-requires
xx_add-requires c = c.requires.reliable.words

pub xx_mul-requires : goal.xx_mul-requires
xx_mul-requires c = c.requires.reliable.words

pub x_invert-requires : goal.x_invert-requires
x_invert-requires c = c.requires.reliable.words

pub xb_mul-requires : goal.xb_mul-requires
xb_mul-requires c = c.requires.reliable.words

pub xx_dot_step-requires : goal.xx_dot_step-requires
xx_dot_step-requires c = c.requires.reliable.words

pub xb_dot_step-requires : goal.xb_dot_step-requires
xb_dot_step-requires c = c.requires.reliable.words

pub read_io-requires : goal.read_io-requires
unfolding decode table
read_io-requires c = words_allowed _ (rw c.in-73.is at c.requires.reliable.allowed)

pub write_io-requires : goal.write_io-requires
unfolding decode table
write_io-requires c = words_allowed _ (rw c.in-19.is at c.requires.reliable.allowed)

pub returns-in-3 : goal.returns-in-3
unfolding effect_of decode table
returns-in-3 c = record { is = λ m s. rw c.in-3.is c.pop.ensures }

pub returns-in-1 : goal.returns-in-1
unfolding effect_of decode table
returns-in-1 c = record { is = λ m s. rw c.in-1.is c.push.ensures }

pub returns-in-9 : goal.returns-in-9
unfolding effect_of decode table
returns-in-9 c = record { is = λ m s. rw (c.in-9.is, s.secret) c.divine.ensures }

pub returns-in-17 : goal.returns-in-17
unfolding effect_of decode table
returns-in-17 c = record { is = λ m s. rw (c.in-17.is, s.top) c.pick.ensures }

pub returns-in-25 : goal.returns-in-25
unfolding effect_of decode table
returns-in-25 c = record { is = λ m s. rw (c.in-25.is, s.top) c.place.ensures }

pub returns-in-33 : goal.returns-in-33
unfolding effect_of decode table
returns-in-33 c = record { is = λ m s. rw (c.in-33.is, s.top) c.dup.ensures }

pub returns-in-41 : goal.returns-in-41
unfolding effect_of decode table
returns-in-41 c = record { is = λ m s. rw (c.in-41.is, s.top) c.swap.ensures }

pub returns-in-0 : goal.returns-in-0
unfolding effect_of decode table
returns-in-0 c = record { is = λ m s. rw c.in-0.is c.halt.ensures }

pub returns-in-8 : goal.returns-in-8
unfolding effect_of decode table
returns-in-8 c = record { is = λ m s. rw c.in-8.is c.nop.ensures }

pub returns-in-2 : goal.returns-in-2
unfolding effect_of decode table
returns-in-2 c = record { is = λ m s. rw (c.in-2.is, s.opcodes, s.pointer, s.top) c.skiz.ensures }

pub returns-in-49 : goal.returns-in-49
unfolding effect_of decode table
returns-in-49 c = record { is = λ m s. rw (c.in-49.is, s.pointer) c.call.ensures }

pub returns-in-16 : goal.returns-in-16
unfolding effect_of decode table
returns-in-16 c = record { is = λ m s. rw (c.in-16.is, s.jump) c.return_from_call.ensures }

pub returns-in-24 : goal.returns-in-24
unfolding effect_of decode table
returns-in-24 c = record { is = λ m s. rw (c.in-24.is, s.jump) c.recurse.ensures }

pub returns-in-32 : goal.returns-in-32
unfolding effect_of decode table
returns-in-32 c = record { is = λ m s. rw (c.in-32.is, s.top, s.jump) c.recurse_or_return.ensures }

pub returns-in-10 : goal.returns-in-10
unfolding effect_of decode table
returns-in-10 c = record { is = λ m s. rw (c.in-10.is, s.top) c.assert.ensures }

pub returns-in-57 : goal.returns-in-57
unfolding effect_of decode table
returns-in-57 c = record { is = λ m s. rw (c.in-57.is, s.cells, s.top) c.read_mem.ensures }

pub returns-in-11 : goal.returns-in-11
unfolding effect_of decode table
returns-in-11 c = record { is = λ m s. rw (c.in-11.is, s.top) c.write_mem.ensures }

pub returns-in-26 : goal.returns-in-26
unfolding effect_of decode table
returns-in-26 c = record { is = λ m s. rw (c.in-26.is, s.top) c.assert_vector.ensures }

pub returns-in-42 : goal.returns-in-42
unfolding effect_of decode table
returns-in-42 c = record { is = λ m s. rw (c.in-42.is, s.top) c.add.ensures }

pub returns-in-65 : goal.returns-in-65
unfolding effect_of decode table
returns-in-65 c = record { is = λ m s. rw (c.in-65.is, s.top) c.addi.ensures }

pub returns-in-50 : goal.returns-in-50
unfolding effect_of decode table
returns-in-50 c = record { is = λ m s. rw (c.in-50.is, s.top) c.mul.ensures }

pub returns-in-64 : goal.returns-in-64
unfolding effect_of decode table
returns-in-64 c = record { is = λ m s. rw (c.in-64.is, s.top) c.invert.ensures }

pub returns-in-58 : goal.returns-in-58
unfolding effect_of decode table
returns-in-58 c = record { is = λ m s. rw (c.in-58.is, s.top) c.eq.ensures }

pub returns-in-4 : goal.returns-in-4
unfolding effect_of decode table
returns-in-4 c = record { is = λ m s. rw (c.in-4.is, s.top) c.split.ensures }

pub returns-in-6 : goal.returns-in-6
unfolding effect_of decode table
returns-in-6 c = record { is = λ m s. rw (c.in-6.is, s.top) c.lt.ensures }

pub returns-in-14 : goal.returns-in-14
unfolding effect_of decode table
returns-in-14 c = record { is = λ m s. rw (c.in-14.is, s.top) c.and.ensures }

pub returns-in-22 : goal.returns-in-22
unfolding effect_of decode table
returns-in-22 c = record { is = λ m s. rw (c.in-22.is, s.top) c.xor.ensures }

pub returns-in-12 : goal.returns-in-12
unfolding effect_of decode table
returns-in-12 c = record { is = λ m s. rw (c.in-12.is, s.top) c.log_2_floor.ensures }

pub returns-in-30 : goal.returns-in-30
unfolding effect_of decode table
returns-in-30 c = record { is = λ m s. rw (c.in-30.is, s.top) c.pow.ensures }

pub returns-in-20 : goal.returns-in-20
unfolding effect_of decode table
returns-in-20 c = record { is = λ m s. rw (c.in-20.is, s.top) c.div_mod.ensures }

pub returns-in-28 : goal.returns-in-28
unfolding effect_of decode table
returns-in-28 c = record { is = λ m s. rw (c.in-28.is, s.top) c.pop_count.ensures }

pub returns-in-66 : goal.returns-in-66
unfolding effect_of decode table
returns-in-66 c = record { is = λ m s. rw (c.in-66.is, s.top) c.xx_add.ensures }

pub returns-in-74 : goal.returns-in-74
unfolding effect_of decode table
returns-in-74 c = record { is = λ m s. rw (c.in-74.is, s.top) c.xx_mul.ensures }

pub returns-in-72 : goal.returns-in-72
unfolding effect_of decode table
returns-in-72 c = record { is = λ m s. rw (c.in-72.is, s.top) c.x_invert.ensures }

pub returns-in-82 : goal.returns-in-82
unfolding effect_of decode table
returns-in-82 c = record { is = λ m s. rw (c.in-82.is, s.top) c.xb_mul.ensures }

pub returns-in-73 : goal.returns-in-73
unfolding effect_of decode table
returns-in-73 c = record { is = λ m s. rw (c.in-73.is, s.public) c.read_io.ensures }

pub returns-in-19 : goal.returns-in-19
unfolding effect_of decode table
returns-in-19 c = record { is = λ m s. rw (c.in-19.is, s.top) c.write_io.ensures }

pub returns-in-80 : goal.returns-in-80
unfolding effect_of decode table
returns-in-80 c = record { is = λ m s. rw (c.in-80.is, s.cells, s.top) c.xx_dot_step.ensures }

pub returns-in-88 : goal.returns-in-88
unfolding effect_of decode table
returns-in-88 c = record { is = λ m s. rw (c.in-88.is, s.cells, s.top) c.xb_dot_step.ensures }

pub returns-in_default : goal.returns-in_default
unfolding effect_of decode table hashes refusal_of decision_of
returns-in_default c =
    let h = c.args.h.now in
    let e = undecoded h.opcode (rest eqb eqb-true hashing_in 1 ((88 ∷ []) ∷ (80 ∷ []) ∷ (19 ∷ []) ∷ (73 ∷ []) ∷ (82 ∷ []) ∷ (72 ∷ []) ∷ (74 ∷ []) ∷ (66 ∷ []) ∷ (28 ∷ []) ∷ (20 ∷ []) ∷ (30 ∷ []) ∷ (12 ∷ []) ∷ (22 ∷ []) ∷ (14 ∷ []) ∷ (6 ∷ []) ∷ (4 ∷ []) ∷ (58 ∷ []) ∷ (64 ∷ []) ∷ (50 ∷ []) ∷ (65 ∷ []) ∷ (42 ∷ []) ∷ (26 ∷ []) ∷ (11 ∷ []) ∷ (57 ∷ []) ∷ (10 ∷ []) ∷ (32 ∷ []) ∷ (24 ∷ []) ∷ (16 ∷ []) ∷ (49 ∷ []) ∷ (2 ∷ []) ∷ (8 ∷ []) ∷ (0 ∷ []) ∷ (41 ∷ []) ∷ (33 ∷ []) ∷ (25 ∷ []) ∷ (17 ∷ []) ∷ (9 ∷ []) ∷ (1 ∷ []) ∷ (3 ∷ []) ∷ []) table refl tt h.opcode c.in_default.in_default-own.rest) c.requires.plain in
    record { is = λ m s. sym (ap (λ (d : Decoded). act_in d h.argument m) e) }
