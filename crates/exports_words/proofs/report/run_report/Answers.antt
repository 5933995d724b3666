use mathlib.Core.Path.{sym, ap, ◌∙◌}
use Rattle.machine_steps.specs.declared.answer.Ending.{Ending}
use Rattle.machine_steps.specs.RanView.{ending_in}
use Rattle.exports_words.specs.Report.{run_report}
use Rattle.exports_words.proofs.report.run_report.Goals as goal

pub returns-in-Halted : goal.returns-in-Halted
returns-in-Halted c = c.unrefused.ensures ∙ ap (λ (x : Ending). run_report (ending_in x) c.args.count c.args.bytes c.args.fee) (sym c.in-Halted.is)

pub returns-in-Spent : goal.returns-in-Spent
returns-in-Spent c = c.unrefused-in-Spent.ensures ∙ ap (λ (x : Ending). run_report (ending_in x) c.args.count c.args.bytes c.args.fee) (sym c.in-Spent.is)

pub returns-in-Full : goal.returns-in-Full
returns-in-Full c = c.unrefused-in-Full.ensures ∙ ap (λ (x : Ending). run_report (ending_in x) c.args.count c.args.bytes c.args.fee) (sym c.in-Full.is)

pub returns-in-TableFull : goal.returns-in-TableFull
returns-in-TableFull c = c.unrefused-in-TableFull.ensures ∙ ap (λ (x : Ending). run_report (ending_in x) c.args.count c.args.bytes c.args.fee) (sym c.in-TableFull.is)

pub returns-in-Refused : goal.returns-in-Refused
returns-in-Refused c = c.refused.ensures ∙ ap (λ (x : Ending). run_report (ending_in x) c.args.count c.args.bytes c.args.fee) (sym c.in-Refused.is)
