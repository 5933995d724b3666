use mathlib.Core.Path.{refl, sym}
use mathlib.Core.List.{[], ◌∷◌}
use Rattle.machine.specs.Instruction.{table, decode, grows, grows_by_argument, shrinks, shrinks_by_argument}
use Rattle.machine_isa.specs.InstructionView.{change_in}
use Rattle.machine_isa.proofs.TableLaws.{arm, rest, same_change, change-sound}
use Rattle.machine_isa.proofs.instruction.change_by.Goals as goal

pub returns-in-0 : goal.returns-in-0
unfolding decode table
returns-in-0 c = sym (arm same_change change-sound (λ op. change_in (decode op)) (grows 0) (0 ∷ 8 ∷ 12 ∷ 16 ∷ 20 ∷ 24 ∷ 28 ∷ 32 ∷ 36 ∷ 40 ∷ 44 ∷ 48 ∷ 64 ∷ 72 ∷ 80 ∷ 88 ∷ []) tt _ c.in-0.is)

pub returns-in-17 : goal.returns-in-17
unfolding decode table
returns-in-17 c = sym (arm same_change change-sound (λ op. change_in (decode op)) (grows 0) (17 ∷ 25 ∷ 41 ∷ 49 ∷ 65 ∷ []) tt _ c.in-17.is)

pub returns-in-1 : goal.returns-in-1
unfolding decode table
returns-in-1 c = sym (arm same_change change-sound (λ op. change_in (decode op)) (grows 1) (1 ∷ 4 ∷ 33 ∷ []) tt _ c.in-1.is)

pub returns-in-56 : goal.returns-in-56
unfolding decode table
returns-in-56 c = sym (arm same_change change-sound (λ op. change_in (decode op)) (grows 10) (56 ∷ []) tt _ c.in-56.is)

pub returns-in-2 : goal.returns-in-2
unfolding decode table
returns-in-2 c = sym (arm same_change change-sound (λ op. change_in (decode op)) (shrinks 1) (2 ∷ 6 ∷ 10 ∷ 14 ∷ 22 ∷ 30 ∷ 42 ∷ 50 ∷ 58 ∷ 82 ∷ []) tt _ c.in-2.is)

pub returns-in-66 : goal.returns-in-66
unfolding decode table
returns-in-66 c = sym (arm same_change change-sound (λ op. change_in (decode op)) (shrinks 3) (66 ∷ 74 ∷ []) tt _ c.in-66.is)

pub returns-in-18 : goal.returns-in-18
unfolding decode table
returns-in-18 c = sym (arm same_change change-sound (λ op. change_in (decode op)) (shrinks 5) (18 ∷ 26 ∷ []) tt _ c.in-18.is)

pub returns-in-34 : goal.returns-in-34
unfolding decode table
returns-in-34 c = sym (arm same_change change-sound (λ op. change_in (decode op)) (shrinks 10) (34 ∷ []) tt _ c.in-34.is)

pub returns-in-9 : goal.returns-in-9
unfolding decode table
returns-in-9 c = sym (arm same_change change-sound (λ op. change_in (decode op)) grows_by_argument (9 ∷ 57 ∷ 73 ∷ []) tt _ c.in-9.is)

pub returns-in-3 : goal.returns-in-3
unfolding decode table
returns-in-3 c = sym (arm same_change change-sound (λ op. change_in (decode op)) shrinks_by_argument (3 ∷ 11 ∷ 19 ∷ []) tt _ c.in-3.is)

pub returns-in_default : goal.returns-in_default
unfolding decode table
returns-in_default c = sym (rest same_change change-sound change_in (grows 0) ((3 ∷ 11 ∷ 19 ∷ []) ∷ (9 ∷ 57 ∷ 73 ∷ []) ∷ (34 ∷ []) ∷ (18 ∷ 26 ∷ []) ∷ (66 ∷ 74 ∷ []) ∷ (2 ∷ 6 ∷ 10 ∷ 14 ∷ 22 ∷ 30 ∷ 42 ∷ 50 ∷ 58 ∷ 82 ∷ []) ∷ (56 ∷ []) ∷ (1 ∷ 4 ∷ 33 ∷ []) ∷ (17 ∷ 25 ∷ 41 ∷ 49 ∷ 65 ∷ []) ∷ (0 ∷ 8 ∷ 12 ∷ 16 ∷ 20 ∷ 24 ∷ 28 ∷ 32 ∷ 36 ∷ 40 ∷ 44 ∷ 48 ∷ 64 ∷ 72 ∷ 80 ∷ 88 ∷ []) ∷ []) table refl tt _ c.in_default.in_default-own.rest)
