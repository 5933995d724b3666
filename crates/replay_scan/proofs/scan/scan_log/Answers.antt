use native.Mathlib.Omega.{arith}
use mathlib.Core.Path.{◌≡◌, refl, ◌∙◌}
use lib.ListN.{length}
use Rattle.replay_scan.proofs.Heads.{head_end}
use Rattle.replay_scan.proofs.Scans.{going_start, scan_end, scan_broken, scan_off, scan_goes, scan_over}
use Rattle.replay_scan.proofs.scan.scan_log.Goals as goal

pub loop-record-init : goal.loop-record-init
loop-record-init c =
    let r = c.records-record-items.ensures in
    rw c.into_iter-record-iterator.ensures.into_iter_gives
    (record {
      can = rw (r.to, r.log) (omega arith);
      finite = tt;
      log = r.log;
      to = r.to;
      within = rw r.at (omega arith);
      places = record { low = omega arith; high = omega arith };
      room = refl;
      going = rw r.at (going_start _ _ _ _ c.none-counts.ensures);
    })

pub returns-in-Err : goal.returns-in-Err
returns-in-Err c =
    let i = c.loop-record.invariant in
    let b = rw (c.in-Err.is, i.log) at c.in-Some.ensures.steps in
    rw b.place (scan_broken i.going i.within (rw b.place at b.head))

pub returns-in-Err-record_turn : goal.returns-in-Err-record_turn
returns-in-Err-record_turn c =
    let i = c.loop-record.invariant in
    let b = rw (c.in-Ok.is, i.log) at c.in-Some.ensures.steps in
    rw b.place (scan_off i.going i.within _ (rw b.place at b.head) (rw b.place at c.in-Err-record_turn.ensures))

pub returns-in-None-counts : goal.returns-in-None-counts
returns-in-None-counts c =
    let i = c.loop-record.invariant in
    let b = rw (c.in-Ok.is, i.log) at c.in-Some.ensures.steps in
    rw (b.next, b.place) (scan_over i.going (rw b.place at b.head) (rw b.place at c.in-Ok-record_turn.ensures) _ refl c.in-None-counts.is)

pub loop-record-preserved : goal.loop-record-preserved
loop-record-preserved c =
    let i = c.loop-record.invariant in
    let t = c.in-Ok-record_turn.ensures in
    let b = rw (c.in-Ok.is, i.log, i.to) at c.in-Some.ensures.steps in
    record {
      can = c.in-Some.ensures.goes.keeps;
      finite = tt;
      log = b.log;
      to = b.to;
      within = rw (b.goes, b.next) b.head.whole.fits;
      places = t.places;
      room = t.room ∙ i.room;
      going = rw (b.goes, b.next, b.place) (scan_goes i.going (rw b.place at b.head) (rw b.place at t) _ refl _ c.in-Some-counts.is);
    }

pub returns : goal.returns
returns c =
    let i = c.loop-record.invariant in
    let b = rw i.to at c.in-None.ensures.steps in
    let e : c.loop-record.record-iterator.at ≡ length c.args.log.bytes.now = omega (arith, b, i.within) in
    rw (← e) (scan_end i.going i.within (head_end _ _ (omega (arith, e))))
