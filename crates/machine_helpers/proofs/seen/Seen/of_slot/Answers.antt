use mathlib.Core.Path.{◌≡◌, refl, sym, ap}
use mathlib.Core.List.{[], List, ◌∷◌}
use Prim.Native.Nat.{ℕ}
use lib.ListN.{length}
use lib.Dec.{eqb}
use borrow.Author.Tests.{eqb-true}
use Rattle.machine.specs.Instruction.{table, decode}
use Rattle.machine.specs.HelperVariables.{filled, helpers_of, helpers_in}
use Rattle.machine_isa.proofs.TableLaws.{rest}
use Rattle.machine_helpers.proofs.HelpersLaws.{each_of, no_words}
use Rattle.machine_helpers.proofs.seen.Seen.of_slot.Goals as goal

pub returns-in-3 : goal.returns-in-3
unfolding helpers_of decode table
returns-in-3 c =
    let a = c.args in
    let e = c.argument_bits.ensures in
    let ks : List ℕ = 3 ∷ 9 ∷ 11 ∷ 17 ∷ 19 ∷ 25 ∷ 33 ∷ 41 ∷ 57 ∷ 73 ∷ [] in
    record { is = λ m s. each_of (λ op. c.argument_bits.result ≡ filled (helpers_in (decode op) a.argument m)) ks (e, (e, (e, (e, (e, (e, (e, (e, (e, (e, tt)))))))))) a.opcode c.in-3.is }

pub returns-in-2 : goal.returns-in-2
unfolding helpers_of decode table
returns-in-2 c = record { is = λ m s. rw (c.in-2.is, s.opcodes, s.pointer, s.top) c.skiz.ensures }

pub returns-in-32 : goal.returns-in-32
unfolding helpers_of decode table
returns-in-32 c = record { is = λ m s. rw (c.in-32.is, s.top) c.recurse_or_return.ensures }

pub returns-in-48 : goal.returns-in-48
unfolding helpers_of decode table
returns-in-48 c = record { is = λ m s. rw (c.in-48.is, s.cells, s.top) c.sponge_absorb_mem.ensures }

pub returns-in-36 : goal.returns-in-36
unfolding helpers_of decode table
returns-in-36 c = record { is = λ m s. rw (c.in-36.is, s.digests, s.top) c.merkle_step.ensures }

pub returns-in-44 : goal.returns-in-44
unfolding helpers_of decode table
returns-in-44 c = record { is = λ m s. rw (c.in-44.is, s.cells, s.top) c.merkle_step_mem.ensures }

pub returns-in-4 : goal.returns-in-4
unfolding helpers_of decode table
returns-in-4 c = record { is = λ m s. rw (c.in-4.is, s.top) c.split.ensures }

pub returns-in-58 : goal.returns-in-58
unfolding helpers_of decode table
returns-in-58 c = record { is = λ m s. rw (c.in-58.is, s.top) c.eq.ensures }

pub returns-in-80 : goal.returns-in-80
unfolding helpers_of decode table
returns-in-80 c = record { is = λ m s. rw (c.in-80.is, s.cells, s.top) c.xx_dot_step.ensures }

pub returns-in-88 : goal.returns-in-88
unfolding helpers_of decode table
returns-in-88 c = record { is = λ m s. rw (c.in-88.is, s.cells, s.top) c.xb_dot_step.ensures }

pub returns-in_default : goal.returns-in_default
unfolding helpers_of decode table
returns-in_default c =
    let a = c.args in
    let arms : List (List ℕ) = (88 ∷ []) ∷ (80 ∷ []) ∷ (58 ∷ []) ∷ (4 ∷ []) ∷ (44 ∷ []) ∷ (36 ∷ []) ∷ (48 ∷ []) ∷ (32 ∷ []) ∷ (2 ∷ []) ∷ (3 ∷ 9 ∷ 11 ∷ 17 ∷ 19 ∷ 25 ∷ 33 ∷ 41 ∷ 57 ∷ 73 ∷ []) ∷ [] in
    record { is = λ m s. sym (ap (λ (l : List ℕ). filled l) (no_words (helpers_in (decode a.opcode) a.argument m) (rest eqb eqb-true (λ d. length (helpers_in d a.argument m)) 0 arms table refl tt a.opcode c.in_default.in_default-own.rest))) }
