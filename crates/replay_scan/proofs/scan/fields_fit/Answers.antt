use Rattle.replay_scan.proofs.ScanLaws.{wrong-way, wrong-place, right-place}
use native.Mathlib.Omega.{arith}
use Rattle.replay_scan.proofs.scan.fields_fit.Goals as goal

pub returns-then-f-gt1 : goal.returns-then-f-gt1
returns-then-f-gt1 c =
    wrong-way _ _ _ c.if-f-gt1.true

pub returns-then-f-gt18446744069414584320 : goal.returns-then-f-gt18446744069414584320
returns-then-f-gt18446744069414584320 c =
    wrong-place _ _ _ c.if-f-gt1.false (omega (arith, c.if-f-gt18446744069414584320.true)) (omega arith)

pub returns : goal.returns
returns c =
    right-place _ _ _ c.if-f-gt1.false c.if-f-gt18446744069414584320.false (omega arith)
