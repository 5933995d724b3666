use Rattle.std.proofs.Common.{ap, ◌∙◌, [], ◌∷◌}
use Rattle.machine_log.specs.Logged.{logged}
use Rattle.machine_log.proofs.Logged.{ram-written, number_put}
use Rattle.machine_log.proofs.calls.ram_record.Goals as goal

pub returns : goal.returns
returns c =
    let a = c.args in
    ram-written _ _ _ _ _ _ _ _ _ _
    (number_put 4 327703 _ _ c.put.ensures c.to_le_bytes.ensures)
    (number_put 4 a.clock _ _ c.put-2.ensures c.to_le_bytes-2.ensures)
    (number_put 8 a.access.address _ _ c.put-3.ensures c.to_le_bytes-3.ensures)
    (number_put 8 a.access.value _ _ c.put-4.ensures c.to_le_bytes-4.ensures)
    (c.put-5.ensures ∙ ap (λ n. logged c.put-4.new.b 24 (n ∷ [])) c.number.ensures)
