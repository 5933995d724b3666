use Rattle.std.proofs.Common.{rules, ◌≡◌, ◌<◌, length, arith}
use Rattle.machine_fees.proofs.FeeLaws.{behind_a}
use Rattle.machine_vm.proofs.StepLaws.{step_number, stands, stepped, step_turned}
use Rattle.machine_vm.proofs.step.checked.Goals as goal

pub advance-requires : goal.advance-requires
advance-requires c =
    let sixteen : length c.args.state.sponge.words ≡ 16 = search rules in
    let early : c.args.state.clock < 4294967296 = search rules in
    stands _ _ _ sixteen early (step_number _ _ _ c.look.ensures c.check_step-handed.ensures) (behind_a c.in-Ok.ensures)

pub returns-in-Ok-clause-steps : goal.returns-in-Ok-clause-steps
returns-in-Ok-clause-steps c = stepped _ _ _ (step_number _ _ _ c.look.ensures c.check_step-handed.ensures) (behind_a c.in-Ok.ensures) c.advance.ensures.advanced

pub returns-in-Err-clause-steps : goal.returns-in-Err-clause-steps
returns-in-Err-clause-steps c = step_turned _ _ _ (step_number _ _ _ c.look.ensures c.check_step-handed.ensures) (behind_a c.in-Err.ensures)
