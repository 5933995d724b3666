use Rattle.std.proofs.Common.{refl}
use Rattle.exports_words.proofs.CallsLaws.{fitting_some, fitting_none, few_words, said, answered}
use Rattle.exports_calls.proofs.StepCallLaws.{step-called, step_misfits}
use Rattle.exports_calls.proofs.step.step_call.Goals as goal

pub turn_down-requires : goal.turn_down-requires
turn_down-requires c = few_words _ c.answer_words-n.ensures

pub returns-in-None-clause-gives : goal.returns-in-None-clause-gives
returns-in-None-clause-gives c =
    step_misfits _ _ _ _ _ _ refl (fitting_none _ _ _ _ c.answer_words-n.ensures c.in-None.ensures) (said _ c.answer_words-n.ensures c.turn_down.ensures)

pub write_registers-requires : goal.write_registers-requires
write_registers-requires c = (fitting_some _ _ _ _ _ c.answer_words-n.ensures c.in-Some.ensures).registers.long

pub write_answer-requires : goal.write_answer-requires
write_answer-requires c = few_words _ (fitting_some _ _ _ _ _ c.answer_words-n.ensures c.in-Some.ensures).answer

pub returns-clause-gives : goal.returns-clause-gives
returns-clause-gives c =
    let f = fitting_some _ _ _ _ _ c.answer_words-n.ensures c.in-Some.ensures in
    step-called _ _ _ _ _ _ refl f.fits f.state c.step-priced.ensures.steps.steps c.step-priced.ensures.steps.row c.step_report-report.ensures c.write_registers.ensures (answered _ f.answer c.write_answer.ensures)
