use Rattle.std.proofs.Common.{◌≡◌, length, ◌∙◌, rules, arith}
use Rattle.std.proofs.Math.Seq.{take_all}
use Rattle.machine_helpers.proofs.HelpersLaws.{took}
use Rattle.machine_helpers.proofs.seen.Seen.merkle_step.Goals as goal

pub returns : goal.returns
returns c =
    let d = c.next_digest-d.result in
    let l : length d ≡ 5 = search rules in
    let q = took d _ 5 (omega arith) (take_all 5 d (omega arith) ∙ c.next_digest-d.ensures) in
    rw (q, c.st.ensures)
