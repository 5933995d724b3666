use mathlib.Core.Path.{refl}
use native.Mathlib.Omega.{arith}
use Rattle.replay_scan.proofs.Heads.{head_broken}
use Rattle.replay_scan.proofs.records.RecordsIterator.next.Goals as goal

pub returns-in-End : goal.returns-in-End
returns-in-End c =
    let l = c.if-self-at.false in
    let b = head_broken _ _ _ (omega (arith, c.requires)) c.head_at.ensures c.in-End.is in
    record { steps = record { place = refl; before = l; head = b }; goes = record { on = λ _. (c.requires, tt, omega arith); keeps = c.requires; rests = λ _. tt } }
