use Rattle.std.proofs.Common.{refl, ◌∙◌}
use Rattle.job.proofs.FrameLaws.{rest_is}
use Rattle.job.proofs.LogLinesLaws.{whole_start, four_long}
use Rattle.job.proofs.log_lines.RecordsIterator.next.Goals as goal

pub kind_in-kind-requires : goal.kind_in-kind-requires
kind_in-kind-requires c = (whole_start c.args.self.now.0.now _ refl c.in_ok-bytes.ensures.0).0

pub parsed-requires : goal.parsed-requires
parsed-requires c = λ e. c.in_ok-bytes.ensures.2 ∙ four_long c.args.self.now.0.now _ _ refl c.in_ok-bytes.ensures.0 c.kind_in-kind.ensures e

pub returns-clause-steps : goal.returns-clause-steps
returns-clause-steps c =
    let h = c.in_ok-bytes.ensures in
    (h.0, rw (c.kind_in-kind.ensures, h.1) at c.parsed.ensures, rest_is c.args.self.now.0.now _ _ h.2)
