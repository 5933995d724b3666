use Prim.Native.Nat.{◌<◌}
use native.Mathlib.Omega.{arith}
use Rattle.replay_scan.proofs.ScanLaws.{moved-read, moved-write}
use Rattle.replay_scan.proofs.scan.stack_move.Goals as goal

pub bounds-words-depth : goal.bounds-words-depth
bounds-words-depth c = omega (arith, c.requires.read c.if-f-eq0.true, c.requires.places.high)

pub returns-then-f-eq0 : goal.returns-then-f-eq0
returns-then-f-eq0 c = moved-read _ _ _ c.requires c.if-f-eq0.true

pub bounds-words-depth-2 : goal.bounds-words-depth-2
bounds-words-depth-2 c = let d : 0 < c.args.f.dir = omega arith in omega (arith, c.requires.write d, c.requires.places.low)

pub returns : goal.returns
returns c = moved-write _ _ _ c.requires c.if-f-eq0.false
