use mathlib.Core.Path.{ap}
use Rattle.machine.specs.Refusal.{Refusal}
use Rattle.exports_words.specs.Report.{report}
use Rattle.exports_words.proofs.report.refused.Goals as goal

pub returns : goal.returns
returns c = ap (λ (x : Refusal). report 3 x c.args.steps c.args.bytes c.args.price) c.from-refusal.ensures
