use Rattle.replay_scan.proofs.ScanLaws.{own-late, own_40, own_41, own-goes}
use Rattle.replay_scan.proofs.scan.own_turn.Goals as goal

pub returns-then-clock-f : goal.returns-then-clock-f
returns-then-clock-f c = own-late _ _ _ c.if-clock-f.true

pub returns-then-not-fields_fit : goal.returns-then-not-fields_fit
returns-then-not-fields_fit c =
    own_40 _ _ _ c.fields_fit.result c.fields_fit.ensures c.if-clock-f.false c.if-not-fields_fit.true

pub returns-then-f-counts : goal.returns-then-f-counts
returns-then-f-counts c =
    own_41 _ _ _ c.fields_fit.result c.fields_fit.ensures c.if-clock-f.false c.if-not-fields_fit.false c.if-f-counts.true

pub returns : goal.returns
returns c =
    own-goes _ _ _ c.fields_fit.result c.fields_fit.ensures c.if-clock-f.false c.if-not-fields_fit.false c.if-f-counts.false
