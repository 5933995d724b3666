use Rattle.std.proofs.Common.{arith, sym}
use Rattle.exports_words.proofs.CallsLaws.{answered}
use Rattle.exports_calls.proofs.OpenCallLaws.{open_fits-facts, open_called, open_misfits}
use Rattle.exports_calls.proofs.open.open_call.Goals as goal

pub returns-then-not-open_fits-clause-gives : goal.returns-then-not-open_fits-clause-gives
returns-then-not-open_fits-clause-gives c = open_misfits _ _ _ _ _ _ _ _ c.open_fits.ensures c.if-not-open_fits.true c.turn_down.ensures

pub read_digest-words-requires : goal.read_digest-words-requires
read_digest-words-requires c = (open_fits-facts _ _ _ c.open_fits.ensures c.if-not-open_fits.false).digest

pub write_opened-requires : goal.write_opened-requires
write_opened-requires c = (open_fits-facts _ _ _ c.open_fits.ensures c.if-not-open_fits.false).registers

pub write_answer-requires : goal.write_answer-requires
write_answer-requires c = omega (arith, (open_fits-facts _ _ _ c.open_fits.ensures c.if-not-open_fits.false).answer)

pub returns-clause-gives : goal.returns-clause-gives
returns-clause-gives c =
    open_called _ _ _ _ _ _ _ _ c.open_fits.ensures c.if-not-open_fits.false c.read_digest-words.ensures c.open-opened.ensures.opens c.open_report-report.ensures c.write_opened.ensures
    (answered _ (open_fits-facts _ _ _ c.open_fits.ensures c.if-not-open_fits.false).answer c.write_answer.ensures)
