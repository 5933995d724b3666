use Rattle.std.proofs.Common.{◌∙◌, rules}
use Rattle.machine.proofs.Refused.{handed_on, number_a_some}
use Rattle.machine_place_a.proofs.ChecksLaws.{zeros_start, zeros_left, zeros_found, zeros_done}
use Rattle.machine_place_a.proofs.checks.check_unused.Goals as goal

pub loop-piece-init : goal.loop-piece-init
loop-piece-init c = (search rules, zeros_start _ _ _ c.min.result (search rules) c.min.ensures)

pub loop-piece-preserved : goal.loop-piece-preserved
loop-piece-preserved c =
    let steps = c.in-Some.ensures.steps in
    (steps.0 ∙ c.loop-piece.invariant.0, zeros_left _ _ _ steps.1.0 c.in_ok-check_zeros.ensures c.loop-piece.invariant.1)

pub returns-in_err-check_zeros : goal.returns-in_err-check_zeros
returns-in_err-check_zeros c =
    handed_on _ _ _ _ _ c.from_residual.ensures.1 (zeros_found _ _ _ _ c.in-Some.ensures.steps.1.0 c.in_err-check_zeros.ensures (number_a_some _) c.loop-piece.invariant.1)

pub returns : goal.returns
returns c = zeros_done _ c.in-None.ensures.steps.1.0 c.loop-piece.invariant.1
