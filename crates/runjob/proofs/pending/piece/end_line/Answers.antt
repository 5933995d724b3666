use Rattle.std.proofs.Common.{refl, ap, ℕ}
use Rattle.job.specs.Listing.{refused_line}
use Rattle.job.specs.Printed.{end_line}
use Rattle.runjob.proofs.pending.piece.end_line.Goals as goal

pub returns-in-Halted : goal.returns-in-Halted
unfolding end_line
returns-in-Halted c = rw c.in-Halted.is (refl, refl)

pub returns-in-Spent : goal.returns-in-Spent
unfolding end_line
returns-in-Spent c = rw c.in-Spent.is (refl, refl)

pub returns-in-Refused : goal.returns-in-Refused
unfolding end_line
returns-in-Refused c = rw c.in-Refused.is (refl, ap (λ (k : ℕ). refused_line k c.args.counts.steps c.args.counts.pointer c.args.counts.depth) c.number.ensures)
