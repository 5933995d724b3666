use Rattle.std.proofs.Common.{ap, ◌∙◌, [], ◌∷◌}
use Rattle.machine_log.specs.Logged.{logged}
use Rattle.machine_log.proofs.Logged.{stack-written, number_put}
use Rattle.machine_log.proofs.calls.stack_record.Goals as goal

pub returns : goal.returns
returns c =
    let a = c.args in
    stack-written _ _ _ _ _ _ _ _ _ _
    (number_put 4 262167 _ _ c.put.ensures c.to_le_bytes.ensures)
    (number_put 4 a.clock _ _ c.put-2.ensures c.to_le_bytes-2.ensures)
    (number_put 8 a.pointer _ _ c.put-3.ensures c.to_le_bytes-3.ensures)
    (c.put-4.ensures ∙ ap (λ n. logged c.put-3.new.b 16 (n ∷ [])) c.number.ensures)
    (number_put 8 a.value _ _ c.put-5.ensures c.to_le_bytes-4.ensures)
