use native.Mathlib.Omega.{arith}
use Rattle.machine_log.proofs.Logged.{clock_two, head_timed, head_plain, tip5-written, number_put}
use Rattle.machine_log.proofs.calls.tip5_record.Goals as goal

pub put_words-requires : goal.put_words-requires
put_words-requires c = omega (arith, clock_two _ c.if-revision-eq2.true)

pub returns-then-revision-eq2 : goal.returns-then-revision-eq2
returns-then-revision-eq2 c =
    tip5-written _ _ _ 8 _ _ _ _ _
    (head_timed _ _ 131844 _ _ _ c.if-revision-eq2.true
    (number_put 4 393992 _ _ c.put.ensures c.to_le_bytes.ensures)
    (number_put 4 c.args.clock _ _ c.put-then-revision-eq2.ensures c.to_le_bytes-then-revision-eq2.ensures))
    c.put_opcode.ensures c.put_words.ensures

pub returns : goal.returns
returns c =
    tip5-written _ _ _ 4 _ _ _ _ _
    (head_plain _ _ 131844 _ _ c.if-revision-eq2.false (number_put 4 131844 _ _ c.put-2.ensures c.to_le_bytes-2.ensures))
    c.put_opcode-2.ensures c.put_words-2.ensures
