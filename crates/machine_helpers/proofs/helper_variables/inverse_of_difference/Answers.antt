use Rattle.machine_helpers.proofs.helper_variables.inverse_of_difference.Goals as goal

pub returns : goal.returns
returns c = rw (c.inverse_or_zero.ensures, c.sub.ensures)
