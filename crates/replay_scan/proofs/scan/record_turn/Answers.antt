use native.Mathlib.Omega.{arith}
use Rattle.replay_scan.specs.RecordView.{log_at}
use Rattle.replay_scan.proofs.Rows.{timed_long}
use Rattle.replay_scan.proofs.ScanLaws.{stack_size, ram_size, turn_stack, turn_ram, turn_timed, turn_other, timed-kind, other-kind}
use Rattle.replay_scan.proofs.scan.record_turn.Goals as goal

pub stack_fields-requires : goal.stack_fields-requires
stack_fields-requires c = omega (arith, rw (c.in-Stack.is, stack_size c.args.log.revision) at c.requires.0)

pub ram_fields-requires : goal.ram_fields-requires
ram_fields-requires c = omega (arith, rw (c.in-Ram.is, ram_size c.args.log.revision) at c.requires.0)

pub timed_clock-requires : goal.timed_clock-requires
timed_clock-requires c =
    let k = timed-kind _ c.in-TimedTip5.is in
    (c.requires.0, timed_long c.args.log.revision _ k c.requires.1, k)

pub returns-in-Stack : goal.returns-in-Stack
returns-in-Stack c = rw c.in-Stack.is (turn_stack (log_at c.args.log) _ _ _ _ _ _ _ c.stack_fields.result c.stack_fields.ensures c.stack_turn.ensures)

pub returns-in-Ram : goal.returns-in-Ram
returns-in-Ram c = rw c.in-Ram.is (turn_ram (log_at c.args.log) _ _ _ _ _ _ c.ram_fields.result c.ram_fields.ensures c.requires.2 c.ram_turn.ensures)

pub returns-in-TimedTip5 : goal.returns-in-TimedTip5
returns-in-TimedTip5 c = turn_timed (log_at c.args.log) _ _ _ _ _ _ _ _ c.timed_clock.ensures c.requires.2 c.timed_turn.ensures

pub returns-in-Reset : goal.returns-in-Reset
returns-in-Reset c = turn_other (log_at c.args.log) _ _ _ _ _ _ (other-kind _ c.in-Reset.is) c.requires.2
