use Rattle.std.proofs.Common.{◌∙◌}
use Rattle.machine.proofs.Refused.{handed_on, number_a_some}
use Rattle.machine_place_a.proofs.ChecksLaws.{words_left, words_found, words_done}
use Rattle.machine_place_a.proofs.checks.check_words.Goals as goal

pub loop-piece-preserved : goal.loop-piece-preserved
loop-piece-preserved c =
    let steps = c.in-Some.ensures.steps in
    (steps.0 ∙ c.loop-piece.invariant.0, words_left _ _ _ steps.1.0 c.in_ok-check_piece.ensures c.loop-piece.invariant.1)

pub returns-in_err-check_piece : goal.returns-in_err-check_piece
returns-in_err-check_piece c =
    handed_on _ _ _ _ _ c.from_residual.ensures.1 (words_found _ _ _ _ c.in-Some.ensures.steps.1.0 c.in_err-check_piece.ensures (number_a_some _) c.loop-piece.invariant.1)

pub returns : goal.returns
returns c = words_done _ c.in-None.ensures.steps.1.0 c.loop-piece.invariant.1
