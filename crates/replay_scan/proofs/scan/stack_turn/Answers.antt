use Rattle.std.proofs.lemmas.Result.{err_from_is_err_and}
use mathlib.Core.Path.{refl}
use Rattle.replay_scan.proofs.ScanLaws.{stack_off, stack-wrong, stack-movable, stack-few, stack-goes}
use Rattle.replay_scan.proofs.scan.stack_turn.Goals as goal

pub returns-in_err-own_turn : goal.returns-in_err-own_turn
returns-in_err-own_turn c = let p = err_from_is_err_and c.from_residual.result c.from_residual.ensures.1 in rw (p.1, p.2) (stack_off _ _ _ _ _ c.in_err-own_turn.ensures)

pub returns-in-Some : goal.returns-in-Some
returns-in-Some c =
    stack-wrong _ _ _ _ _ c.in_ok-own_turn.ensures c.requires c.at-here.result c.at-here.ensures c.stack_over.result c.stack_over.ensures _ c.in-Some.ensures

pub invariant_of-behind : goal.invariant_of-behind
invariant_of-behind c =
    record {
      few_stacks = stack-few c.args.clock _ _ _ c.args.f c.in_ok-own_turn.ensures c.requires c.at-here.result c.at-here.ensures c.stack_over.result c.stack_over.ensures c.in_default.ensures;
      few_rams = c.at-here.result.few_rams;
    }

pub stack_move-requires : goal.stack_move-requires
stack_move-requires c =
    stack-movable _ _ _ _ _ c.in_ok-own_turn.ensures c.requires c.at-here.result c.at-here.ensures c.stack_over.result c.stack_over.ensures c.in_default.ensures

pub returns : goal.returns
returns c =
    stack-goes _ _ _ _ _ c.in_ok-own_turn.ensures c.requires c.at-here.result c.at-here.ensures c.stack_over.result c.stack_over.ensures c.in_default.ensures refl c.stack_move.ensures
