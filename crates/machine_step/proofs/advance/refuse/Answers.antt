use Rattle.machine_step.proofs.AdvanceLaws.{refused-kept, refused-dropped}
use Rattle.machine_step.proofs.advance.refuse.Goals as goal

pub returns-in-Kept-clause-refused : goal.returns-in-Kept-clause-refused
returns-in-Kept-clause-refused c = refused-kept c.in-Kept.is

pub returns-in-Dropped-clause-refused : goal.returns-in-Dropped-clause-refused
returns-in-Dropped-clause-refused c = refused-dropped c.in-Dropped.is c.drop_top.ensures
