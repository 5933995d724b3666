use Rattle.std.proofs.lemmas.Result.{err_from_is_err_and}
use mathlib.Core.Path.{refl}
use native.Mathlib.Omega.{arith}
use Rattle.replay_scan.proofs.ScanLaws.{ram-off, ram-wrong, ram-over, ram-few, ram-goes}
use Rattle.replay_scan.proofs.scan.ram_turn.Goals as goal

pub returns-in_err-own_turn : goal.returns-in_err-own_turn
returns-in_err-own_turn c = let p = err_from_is_err_and c.from_residual.result c.from_residual.ensures.1 in rw (p.1, p.2) (ram-off _ _ _ _ c.in_err-own_turn.ensures)

pub returns-then-f-ne0 : goal.returns-then-f-ne0
returns-then-f-ne0 c =
    ram-wrong _ _ _ _ c.in_ok-own_turn.ensures c.at-here.result c.at-here.ensures c.ram_over.result c.ram_over.ensures c.if-ram_over.true c.if-f-ne0.true

pub returns-then-ram_over : goal.returns-then-ram_over
returns-then-ram_over c =
    ram-over _ _ _ _ c.in_ok-own_turn.ensures c.at-here.result c.at-here.ensures c.ram_over.result c.ram_over.ensures c.if-ram_over.true c.if-f-ne0.false (omega arith) (omega arith)

pub invariant_of-behind : goal.invariant_of-behind
invariant_of-behind c =
    record {
      few_stacks = c.at-here.result.few_stacks;
      few_rams = ram-few c.args.clock _ c.args.depth c.args.f c.in_ok-own_turn.ensures c.at-here.result c.at-here.ensures c.ram_over.result c.ram_over.ensures c.if-ram_over.false;
    }

pub returns : goal.returns
returns c =
    ram-goes _ _ _ _ c.in_ok-own_turn.ensures c.at-here.result c.at-here.ensures c.ram_over.result c.ram_over.ensures c.if-ram_over.false refl (omega arith) (omega arith)
