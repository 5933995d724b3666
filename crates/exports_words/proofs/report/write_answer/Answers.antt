use Rattle.exports_words.specs.Report.{answer_of}
use Rattle.exports_words.proofs.ReportLaws.{first-words}
use mathlib.Core.Path.{refl}
use Rattle.exports_words.proofs.report.write_answer.Goals as goal

pub returns : goal.returns
unfolding answer_of
returns c =
    first-words c.args.answer.now _ _ _ refl c.copy.ensures
