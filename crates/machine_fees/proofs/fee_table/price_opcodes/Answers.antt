use Rattle.std.proofs.Common.{refl, sym, ◌∙◌, arith}
use Rattle.machine_fees.proofs.FeeLaws.{pass_none, pass_known, pass_unknown, pass_all}
use Rattle.machine_fees.proofs.fee_table.price_opcodes.Goals as goal
use Rattle.machine_fees.proofs.fee_table.price_opcodes.Goals.{then-is_known, else-is_known}

pub loop-opcode-init : goal.loop-opcode-init
loop-opcode-init c = pass_none _ _ c.requires.prices

pub loop-opcode-preserved : goal.loop-opcode-preserved
loop-opcode-preserved c =
    elim c.if-is_known.branch [
      | then-is_known w ↦
          rw (w.prices-is, w.gap-is, w.twice-is)
          (pass_known _ _ _ _ _ _ _ _ w.find_row-found.result c.requires.shaped c.loop-opcode.invariant c.loop-opcode-test.true (sym c.is_known.ensures ∙ w.if-is_known.true) w.find_row-found.ensures
          (w.or-gap.ensures ∙ rw w.then_some.ensures refl) (w.or-twice.ensures ∙ rw w.then_some-then-is_known.ensures refl) w.fee.ensures)
      | else-is_known w ↦ rw (w.prices-is, w.gap-is, w.twice-is) (pass_unknown _ _ _ _ _ c.loop-opcode.invariant (sym c.is_known.ensures ∙ w.if-is_known.false))
    ]

pub returns : goal.returns
returns c = pass_all _ _ _ c.loop-opcode.opcode _ _ c.loop-opcode.invariant (omega (arith, c.loop-opcode.auto.opcode-end, c.loop-opcode-test.false)) c.check_opcodes.ensures
