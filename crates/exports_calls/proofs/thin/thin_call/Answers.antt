use Rattle.std.proofs.Common.{arith}
use Rattle.exports_words.proofs.CallsLaws.{answered}
use Rattle.exports_calls.proofs.ThinCallLaws.{thin-called, thin_misfits}
use Rattle.exports_calls.proofs.thin.thin_call.Goals as goal

pub returns-then-answer-ne7-clause-gives : goal.returns-then-answer-ne7-clause-gives
returns-then-answer-ne7-clause-gives c = thin_misfits _ _ _ _ _ c.if-answer-ne7.true

pub write_answer-requires : goal.write_answer-requires
write_answer-requires c = omega (arith, c.if-answer-ne7.false)

pub returns-clause-gives : goal.returns-clause-gives
returns-clause-gives c =
    thin-called _ _ _ _ _ c.if-answer-ne7.false c.from.ensures c.step-priced.ensures.steps.steps c.step_report-report.ensures (answered _ c.if-answer-ne7.false c.write_answer.ensures) c.registers_in.ensures
