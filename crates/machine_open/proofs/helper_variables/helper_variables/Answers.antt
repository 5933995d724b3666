use Rattle.std.proofs.Common.{rules, ◌≡◌, length}
use Rattle.machine_helpers.proofs.HelpersLaws.{sound-helpable}
use Rattle.machine_open.proofs.GivenLaws.{accepted_sound, given_is, given_turned}
use Rattle.machine_open.proofs.helper_variables.helper_variables.Goals as goal

pub returns-in_err-check_machine : goal.returns-in_err-check_machine
returns-in_err-check_machine c = given_turned _ _ _ 6 _ c.in_err-check_machine.ensures c.from_residual.ensures.1

pub helpers-requires : goal.helpers-requires
helpers-requires c =
    let sixteen : length c.args.state.sponge.words ≡ 16 = search rules in
    sound-helpable _ (accepted_sound _ c.in_ok-check_machine.ensures sixteen (search rules))

pub returns : goal.returns
returns c = given_is _ c.in_ok-check_machine.ensures 6 c.helpers.ensures.own
