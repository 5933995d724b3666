use mathlib.Core.Path.{◌≡◌, sym, ◌∙◌}
use native.Mathlib.Omega.{arith}
use lib.ListN.{drop}
use Rattle.job.specs.Frame.{kind_in}
use Rattle.job.proofs.LogLinesLaws.{whole-place, place_four, line-none}
use Rattle.job.proofs.ListingLaws.{put_as, put-none}
use Rattle.job.proofs.put.line_at.Goals as goal

pub kind_at-requires : goal.kind_at-requires
kind_at-requires c =
    let a = c.args in
    (whole-place a.log.now a.at a.n c.requires.0 c.requires.1 c.requires.2).0

pub stack_line_at-requires : goal.stack_line_at-requires
stack_line_at-requires c =
    let a = c.args in
    let w = whole-place a.log.now a.at a.n c.requires.0 c.requires.1 c.requires.2 in
    let e = place_four a.log.now a.at a.n _ c.requires.0 c.requires.1 c.requires.2 c.kind_at.ensures c.if-kind_at-eq4.true in
    (omega (arith, w.2), omega (arith, c.requires.3))

pub returns-then-kind_at-eq4 : goal.returns-then-kind_at-eq4
returns-then-kind_at-eq4 c =
    let a = c.args in
    let e = place_four a.log.now a.at a.n _ c.requires.0 c.requires.1 c.requires.2 c.kind_at.ensures c.if-kind_at-eq4.true in
    let f : kind_in (drop a.at a.log.now) ≡ 4 = sym c.kind_at.ensures ∙ c.if-kind_at-eq4.true in
    put_as c.stack_line_at.ensures (rw (e, f)) (rw (e, f) c.stack_line_at.ensures.few)

pub returns-else-kind_at-eq4 : goal.returns-else-kind_at-eq4
returns-else-kind_at-eq4 c =
    let e = line-none _ _ (λ z. c.if-kind_at-eq4.false (c.kind_at.ensures ∙ z)) in
    put_as (put-none _ _) e (rw (← e) (omega arith))
