use Rattle.std.proofs.Common.{refl, sym, rules}
use Rattle.replay_scan.proofs.ScanLaws.{fault_some}
use Rattle.replay_calls.proofs.Deciding.{call-refused, opens, scans, call-wrong, call-right}
use Rattle.replay_calls.proofs.QuietLaws.{scan_quiet}
use Rattle.replay_calls.proofs.call.replay.Goals as goal

pub returns-in_err-check_replay_seen-clause-replayed : goal.returns-in_err-check_replay_seen-clause-replayed
returns-in_err-check_replay_seen-clause-replayed c =
    let k = c.look-opening.ensures in
    call-refused _ _ _ _ c.args.clock _ _ (rw (k.addresses, k.values, k.count) at c.in_err-check_replay_seen.ensures) c.from_residual.ensures.1

pub by_table-requires : goal.by_table-requires
by_table-requires c =
    let k = c.look-opening.ensures in
    (scans c.scan_log-scan.ensures (opens _ _ _ _ (sym (rw (k.addresses, k.values, k.count) at c.in_ok-check_replay_seen.ensures))), scan_quiet c.scan_log-scan.ensures)

pub returns-in-Err-clause-replayed : goal.returns-in-Err-clause-replayed
returns-in-Err-clause-replayed c =
    let k = c.look-opening.ensures in
    let t = c.in-Err.ensures.rebuilds in
    call-wrong _ _ _ _ _ _ _ _ (sym (rw (k.addresses, k.values, k.count) at c.in_ok-check_replay_seen.ensures)) c.scan_log-scan.ensures t.decides _ refl _ (t.kept (fault_some c.in-Err.fault)) _ c.scan_log-scan.auto.words (c.fill.ensures.after (search rules))

pub returns-clause-replayed : goal.returns-clause-replayed
returns-clause-replayed c =
    let k = c.look-opening.ensures in
    let t = c.in_default.ensures.rebuilds in
    call-right _ _ _ _ _ _ _ _ (sym (rw (k.addresses, k.values, k.count) at c.in_ok-check_replay_seen.ensures)) c.scan_log-scan.ensures t.decides refl _ (t.written refl)
