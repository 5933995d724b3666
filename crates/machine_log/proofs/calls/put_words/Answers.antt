use Rattle.std.proofs.Common.{◌≡◌, ◌+◌, ◌*◌, take, length, get_or, arith}
use Rattle.std.proofs.lemmas.List.{length-take-le}
use Rattle.std.proofs.Math.Seq.{take-length}
use Rattle.machine.specs.Records.{words_bytes}
use Rattle.machine.proofs.Records.{words-bytes-length}
use Rattle.machine_log.proofs.Logged.{logged_none, joined, words_more, number_put}
use Rattle.machine_log.proofs.calls.put_words.Goals as goal

pub loop-i-init : goal.loop-i-init
unfolding words_bytes
loop-i-init c = logged_none _ _

pub loop-i-preserved : goal.loop-i-preserved
loop-i-preserved c =
    let l = c.loop-i in
    let a = c.args in
    let n : a.at + length (words_bytes (take l.i a.words.now)) ≡ a.at + 8 * l.i = rw (words-bytes-length, length-take-le l.i a.words.now (omega arith)) in
    joined _ _ _ _ _ _ _ _ (omega arith) n l.invariant (number_put 8 (get_or a.words.now l.i 0) _ _ c.put.ensures c.to_le_bytes.ensures) (words_more a.words.now l.i (omega arith))

pub returns : goal.returns
returns c =
    let a = c.args in
    let e : c.loop-i.i ≡ length a.words.now = omega arith in
    let f : take c.loop-i.i a.words.now ≡ a.words.now = rw (e, take-length) in
    rw (← f) c.loop-i.invariant
