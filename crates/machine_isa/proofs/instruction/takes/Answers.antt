use mathlib.Core.Path.{refl, sym}
use mathlib.Core.List.{[], ◌∷◌}
use Rattle.std.proofs.Common.{Some, None}
use Rattle.machine.specs.Instruction.{table, decode, any, nothing, place_of_stack, words}
use Rattle.machine_isa.specs.InstructionView.{argument_in}
use Rattle.machine_isa.proofs.TableLaws.{arm, rest, same_argument, argument-sound}
use Rattle.machine_isa.proofs.instruction.takes.Goals as goal

pub returns-in-0 : goal.returns-in-0
unfolding decode table
returns-in-0 c = sym (arm same_argument argument-sound (λ op. argument_in (decode op)) (Some nothing) (0 ∷ 2 ∷ 4 ∷ 6 ∷ 8 ∷ 10 ∷ 12 ∷ 14 ∷ 16 ∷ 18 ∷ 20 ∷ 22 ∷ []) tt _ c.in-0.is)

pub returns-in-24 : goal.returns-in-24
unfolding decode table
returns-in-24 c = sym (arm same_argument argument-sound (λ op. argument_in (decode op)) (Some nothing) (24 ∷ 26 ∷ 28 ∷ 30 ∷ 32 ∷ 34 ∷ 36 ∷ 40 ∷ 42 ∷ 44 ∷ 48 ∷ []) tt _ c.in-24.is)

pub returns-in-50 : goal.returns-in-50
unfolding decode table
returns-in-50 c = sym (arm same_argument argument-sound (λ op. argument_in (decode op)) (Some nothing) (50 ∷ 56 ∷ 58 ∷ 64 ∷ 66 ∷ 72 ∷ 74 ∷ 80 ∷ 82 ∷ 88 ∷ []) tt _ c.in-50.is)

pub returns-in-3 : goal.returns-in-3
unfolding decode table
returns-in-3 c = sym (arm same_argument argument-sound (λ op. argument_in (decode op)) (Some words) (3 ∷ 9 ∷ 11 ∷ 19 ∷ 57 ∷ 73 ∷ []) tt _ c.in-3.is)

pub returns-in-17 : goal.returns-in-17
unfolding decode table
returns-in-17 c = sym (arm same_argument argument-sound (λ op. argument_in (decode op)) (Some place_of_stack) (17 ∷ 25 ∷ 33 ∷ 41 ∷ []) tt _ c.in-17.is)

pub returns-in-1 : goal.returns-in-1
unfolding decode table
returns-in-1 c = sym (arm same_argument argument-sound (λ op. argument_in (decode op)) (Some any) (1 ∷ 49 ∷ 65 ∷ []) tt _ c.in-1.is)

pub returns-in_default : goal.returns-in_default
unfolding decode table
returns-in_default c = sym (rest same_argument argument-sound argument_in None ((1 ∷ 49 ∷ 65 ∷ []) ∷ (17 ∷ 25 ∷ 33 ∷ 41 ∷ []) ∷ (3 ∷ 9 ∷ 11 ∷ 19 ∷ 57 ∷ 73 ∷ []) ∷ (50 ∷ 56 ∷ 58 ∷ 64 ∷ 66 ∷ 72 ∷ 74 ∷ 80 ∷ 82 ∷ 88 ∷ []) ∷ (24 ∷ 26 ∷ 28 ∷ 30 ∷ 32 ∷ 34 ∷ 36 ∷ 40 ∷ 42 ∷ 44 ∷ 48 ∷ []) ∷ (0 ∷ 2 ∷ 4 ∷ 6 ∷ 8 ∷ 10 ∷ 12 ∷ 14 ∷ 16 ∷ 18 ∷ 20 ∷ 22 ∷ []) ∷ []) table refl tt _ c.in_default.in_default-own.rest)
