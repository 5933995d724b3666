use Rattle.replay_scan.proofs.ScanLaws.{write-elsewhere, write-full, write-no_room, write-fits, shallow_fault, read-elsewhere, read-wrong, read-full, read-fits}
use Rattle.replay_scan.proofs.scan.stack_fault.Goals as goal

pub returns-then-place-depth : goal.returns-then-place-depth
returns-then-place-depth c = write-elsewhere _ _ _ _ c.if-f-ne0.true c.if-place-depth.true

pub returns-then-over : goal.returns-then-over
returns-then-over c = rw c.if-over.true (write-full _ _ _ c.if-f-ne0.true c.if-place-depth.false)

pub returns-then-words-depth : goal.returns-then-words-depth
returns-then-words-depth c = rw c.if-over.false (write-no_room _ _ _ c.if-f-ne0.true c.if-place-depth.false c.if-words-depth.true)

pub returns-then-f-ne0 : goal.returns-then-f-ne0
returns-then-f-ne0 c = rw c.if-over.false (write-fits _ _ _ c.if-f-ne0.true c.if-place-depth.false c.if-words-depth.false)

pub returns-then-depth-lt17 : goal.returns-then-depth-lt17
returns-then-depth-lt17 c = shallow_fault _ _ _ _ c.if-f-ne0.false c.if-depth-lt17.true

pub returns-then-place-depth-2 : goal.returns-then-place-depth-2
returns-then-place-depth-2 c = read-elsewhere _ _ _ _ c.if-f-ne0.false c.if-depth-lt17.false c.if-place-depth-2.true

pub returns-then-f-words : goal.returns-then-f-words
returns-then-f-words c = read-wrong _ _ _ _ c.if-f-ne0.false c.if-depth-lt17.false c.if-place-depth-2.false c.if-f-words.true

pub returns-then-over-2 : goal.returns-then-over-2
returns-then-over-2 c = rw c.if-over-2.true (read-full _ _ _ c.if-f-ne0.false c.if-depth-lt17.false c.if-place-depth-2.false c.if-f-words.false)

pub returns : goal.returns
returns c = rw c.if-over-2.false (read-fits _ _ _ c.if-f-ne0.false c.if-depth-lt17.false c.if-place-depth-2.false c.if-f-words.false)
