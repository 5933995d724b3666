use Rattle.std.proofs.Common.{arith}
use Rattle.machine_ram.proofs.RamView.{narrowed-all, turn_half, turn_none, turn_last}
use Rattle.machine_ram.proofs.addresses.Addresses.search.Goals as goal

pub loop-left-init : goal.loop-left-init
loop-left-init c = narrowed-all _ _ _

pub loop-left-preserved : goal.loop-left-preserved
loop-left-preserved c =
    rw (c.toward-from.ensures, c.behind-last.ensures)
    (turn_half _ _ _ _ _ _ c.args.self.now.ordered c.loop-left-test.true c.loop-left.invariant)

pub returns-then-left-eq0 : goal.returns-then-left-eq0
returns-then-left-eq0 c = turn_none _ _ _ _ _ _ (omega (arith, c.if-left-eq0.true)) c.loop-left.invariant

pub returns : goal.returns
returns c =
    rw (c.toward.ensures, c.behind.ensures)
    (turn_last _ _ _ _ _ _ c.args.self.now.ordered c.loop-left-test.false c.if-left-eq0.false c.loop-left.invariant)
