use native.Mathlib.Omega.{arith}
use mathlib.Core.Path.{refl, sym, ◌∙◌}
use Rattle.machine_step.proofs.AdvanceLaws.{refused_before, stands_on}
use Rattle.machine_step.proofs.advance.advance.Goals as goal

pub place_b-requires : goal.place_b-requires
place_b-requires c =
    let s = c.requires.sound in
    record { pair = s.code.slots; words = s.code.arguments; depth = omega (arith, s.op_stack.used, s.op_stack.few) }

pub returns-in-Err-clause-advanced : goal.returns-in-Err-clause-advanced
returns-in-Err-clause-advanced c = refused_before c.requires c.in-Err.ensures

pub bounds-code-state : goal.bounds-code-state
bounds-code-state c = (stands_on c.requires c.in_default.ensures refl).inside

pub advance_hashing-requires : goal.advance_hashing-requires
advance_hashing-requires c = stands_on c.requires c.in_default.ensures (sym c.hashes.ensures ∙ c.if-hashes.true)

pub advance_plain-requires : goal.advance_plain-requires
advance_plain-requires c = stands_on c.requires c.in_default.ensures (sym c.hashes.ensures ∙ c.if-hashes.false)

pub offset_bounds-code-state : goal.offset_bounds-code-state
offset_bounds-code-state c = omega (arith, (stands_on c.requires c.in_default.ensures refl).inside, c.requires.sound.code.slots_few)
