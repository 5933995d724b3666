use Rattle.std.proofs.Common.{rules, ◌≡◌, refl, length}
use Rattle.machine_rows.proofs.RowLaws.{sound-rowable}
use Rattle.machine_open.proofs.GivenLaws.{accepted_sound, given_is, given_turned}
use Rattle.machine_open.proofs.processor_row.processor_row.Goals as goal

pub returns-in_err-check_machine : goal.returns-in_err-check_machine
returns-in_err-check_machine c = given_turned _ _ _ 37 _ c.in_err-check_machine.ensures c.from_residual.ensures.1

pub write_row-requires : goal.write_row-requires
write_row-requires c =
    let sixteen : length c.args.state.sponge.words ≡ 16 = search rules in
    (refl, sound-rowable _ (accepted_sound _ c.in_ok-check_machine.ensures sixteen (search rules)))

pub returns : goal.returns
returns c = given_is _ c.in_ok-check_machine.ensures 37 c.write_row.ensures.own
