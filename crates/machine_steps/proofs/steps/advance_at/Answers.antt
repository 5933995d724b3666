use Rattle.machine_steps.proofs.StepsLaws.{advanced_stepped, advanced-refused}
use Rattle.machine_steps.proofs.steps.advance_at.Goals as goal

pub returns-in_err-stepped-clause-stepped : goal.returns-in_err-stepped-clause-stepped
returns-in_err-stepped-clause-stepped c =
    advanced-refused c.requires c.advance-stepped.ensures.advanced _ c.in_err-stepped.was c.from_residual.ensures.1

pub returns-clause-stepped : goal.returns-clause-stepped
returns-clause-stepped c =
    advanced_stepped c.requires c.advance-stepped.ensures.advanced c.in_ok-stepped.was
