use Rattle.std.proofs.Common.{◌≡◌, refl, sym, ◌∙◌, arith, length, add-zero}
use Rattle.machine_perform.specs.PerformView.{fresh_of}
use Rattle.machine_perform.proofs.LimitsLaws.{fresh_turn}
use Rattle.machine_perform.proofs.limits.fresh.Goals as goal
use Rattle.machine_perform.proofs.limits.fresh.Goals.{in-Ok, in-Err}

pub loop-i-init : goal.loop-i-init
unfolding fresh_of
loop-i-init c = (omega arith, refl)

pub loop-i-preserved : goal.loop-i-preserved
loop-i-preserved c =
    elim c.match-new_cell.branch [
      | in-Ok w ↦ rw w.more-is (omega (arith, c.loop-i.invariant.0), sym (add-zero c.loop-i.more) ∙ fresh_turn _ _ _ _ c.loop-i.invariant.1 w.in-Ok.ensures)
      | in-Err w ↦ rw w.more-is (omega (arith, c.loop-i.invariant.0), fresh_turn _ _ _ _ c.loop-i.invariant.1 w.in-Err.ensures)
    ]

pub returns : goal.returns
returns c =
    let e : c.loop-i.i ≡ length c.args.writes.now = omega arith in
    rw e at c.loop-i.invariant.1
