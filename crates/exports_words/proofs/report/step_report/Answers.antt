use Rattle.std.specs.Prelude.{Result}
use Rattle.std.proofs.Common.{sym, ap, ◌∙◌}
use Rattle.machine.specs.declared.refusal.InstructionError.{InstructionError}
use Rattle.machine_perform.specs.AnswerView.{answer_in}
use Rattle.exports_words.specs.Report.{step_report}
use Rattle.exports_words.proofs.report.step_report.Goals as goal

pub returns-in-Ok : goal.returns-in-Ok
returns-in-Ok c = c.unrefused.ensures ∙ ap (λ (x : Result (Unit {0}) InstructionError). step_report (answer_in x) c.args.bytes c.args.row) (sym c.in-Ok.is)

pub returns-in-Err : goal.returns-in-Err
returns-in-Err c = c.refused.ensures ∙ ap (λ (x : Result (Unit {0}) InstructionError). step_report (answer_in x) c.args.bytes c.args.row) (sym c.in-Err.is)
