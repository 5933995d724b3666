use Rattle.std.proofs.Common.{rules, ◌≡◌, ◌∙◌, ◌<◌, length, sym}
use Rattle.machine_fees.proofs.FeeLaws.{behind_a}
use Rattle.machine_steps.specs.StepsView.{StandingIn, StepsOn}
use Rattle.machine_vm.proofs.RunLaws.{call_number, prices_are, call_stands, call_accepted, call_turned}
use Rattle.machine_vm.proofs.call.checked.Goals as goal

pub steps-requires : goal.steps-requires
steps-requires c =
    let sixteen : length c.args.state.sponge.words ≡ 16 = search rules in
    let early : c.args.state.clock < 4294967296 = search rules in
    rw (c.and.ensures, prices_are _ _)
    (call_stands _ c.args.budget _ c.requires.unasked (call_number _ _ c.requires.unasked c.look.ensures c.check_lent-handed.ensures) (behind_a c.in-Ok.ensures) sixteen early)

pub returns-in-Ok-clause-calls : goal.returns-in-Ok-clause-calls
returns-in-Ok-clause-calls c =
    let sixteen : length c.args.state.sponge.words ≡ 16 = search rules in
    let early : c.args.state.clock < 4294967296 = search rules in
    let e = call_number _ _ c.requires.unasked c.look.ensures c.check_lent-handed.ensures in
    let s = call_stands _ c.args.budget _ c.requires.unasked e (behind_a c.in-Ok.ensures) sixteen early in
    call_accepted _ _ _ c.requires.unasked e (behind_a c.in-Ok.ensures) s.sound (rw (c.and.ensures, prices_are _ _) at c.steps.ensures.steps)

pub returns-in-Err-clause-calls : goal.returns-in-Err-clause-calls
returns-in-Err-clause-calls c = call_turned _ _ _ c.requires.unasked (call_number _ _ c.requires.unasked c.look.ensures c.check_lent-handed.ensures) (behind_a c.in-Err.ensures)
