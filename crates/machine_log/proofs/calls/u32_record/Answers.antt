use native.Mathlib.Omega.{arith}
use Rattle.machine_log.proofs.Logged.{clock_two, head_timed, head_plain, u32-written, number_put}
use Rattle.machine_log.proofs.calls.u32_record.Goals as goal

pub put-requires-then-revision-eq2-3 : goal.put-requires-then-revision-eq2-3
put-requires-then-revision-eq2-3 c = (omega arith, omega (arith, clock_two _ c.if-revision-eq2.true))

pub returns-then-revision-eq2 : goal.returns-then-revision-eq2
returns-then-revision-eq2 c =
    let a = c.args in
    u32-written _ _ 8 _ _ _ _ _ _
    (head_timed _ _ 196628 _ _ _ c.if-revision-eq2.true
    (number_put 4 458776 _ _ c.put.ensures c.to_le_bytes.ensures)
    (number_put 4 a.clock _ _ c.put-then-revision-eq2.ensures c.to_le_bytes-then-revision-eq2.ensures))
    c.put_opcode.ensures
    (number_put 8 a.call.left _ _ c.put-then-revision-eq2-2.ensures c.to_le_bytes-then-revision-eq2-2.ensures)
    (number_put 8 a.call.right _ _ c.put-then-revision-eq2-3.ensures c.to_le_bytes-then-revision-eq2-3.ensures)

pub returns : goal.returns
returns c =
    let a = c.args in
    u32-written _ _ 4 _ _ _ _ _ _
    (head_plain _ _ 196628 _ _ c.if-revision-eq2.false (number_put 4 196628 _ _ c.put-2.ensures c.to_le_bytes-2.ensures))
    c.put_opcode-2.ensures
    (number_put 8 a.call.left _ _ c.put-3.ensures c.to_le_bytes-3.ensures)
    (number_put 8 a.call.right _ _ c.put-4.ensures c.to_le_bytes-4.ensures)
