use Rattle.std.proofs.Common.{◌≡◌, ◌++◌, List, ℕ, take, rules, arith, refl, ap, ◌∙◌, append_assoc, string_bytes}
use Rattle.job.specs.LogLines.{log_lines}
use Rattle.job.specs.ListingView.{end_text}
use Rattle.job.specs.Printed.{out_lines}
use Rattle.runjob.proofs.PieceLaws.{piece-holds, piece-full, piece-ended}
use Rattle.runjob.proofs.pending.piece.piece.Goals as goal

pub shared_ref_as_front-log : goal.shared_ref_as_front-log
shared_ref_as_front-log c = search (rules, (piece-holds _ _ _ _ _ _ _ c.requires (search rules) c.trace_execution-t.ensures.traces).0)

pub overflow_add-done : goal.overflow_add-done
overflow_add-done c = omega (arith, (piece-holds _ _ _ _ _ _ _ c.requires (search rules) c.trace_execution-t.ensures.traces).2)

pub overflow_sub-result : goal.overflow_sub-result
overflow_sub-result c = (piece-holds _ _ _ _ _ _ _ c.requires (search rules) c.trace_execution-t.ensures.traces).3

pub shared_ref_as_front-words : goal.shared_ref_as_front-words
shared_ref_as_front-words c = omega (arith, (piece-holds _ _ _ _ _ _ _ c.requires (search rules) c.trace_execution-t.ensures.traces).1)

pub returns-in-None : goal.returns-in-None
returns-in-None c =
    let log = take c.trace_execution-t.result.bytes c.trace_execution-t.new.b in
    (log_lines log, search rules, piece-full _ _ _ _ _ _ _ c.requires (search rules) c.trace_execution-t.ensures.traces c.in-None.ensures, refl)

pub returns-in_ok-write-in-Some : goal.returns-in_ok-write-in-Some
returns-in_ok-write-in-Some c =
    let t = c.trace_execution-t.result in
    let log = take t.bytes c.trace_execution-t.new.b in
    let words = take t.state.outputs c.trace_execution-t.new.memory.output.now in
    let ends = end_text c.in-Some.end in
    let e1 : string_bytes c.write.new.self ≡ string_bytes c.args.text.now ++ log_lines log = search rules in
    let e2 : string_bytes c.write-in-Some.new.self ≡ string_bytes c.write.new.self ++ (out_lines words ++ ends) = search rules in (
      log_lines log ++ (out_lines words ++ ends),
      e2 ∙ ap (λ (u : List ℕ). u ++ (out_lines words ++ ends)) e1 ∙ append_assoc (string_bytes c.args.text.now) (log_lines log) (out_lines words ++ ends),
      piece-ended _ _ _ _ _ _ _ c.requires (search rules) c.trace_execution-t.ensures.traces c.in-Some.ensures.0 c.in-Some.ensures.1 refl,
      refl,
    )
