use Rattle.std.proofs.lemmas.Result.{err_from_is_err_and}
use Rattle.machine_hashing.proofs.HashedLaws.{traced-acts, traced-refused}
use Rattle.machine_hashing.proofs.hashing.trace_first.Goals as goal

pub returns-in_err-decided : goal.returns-in_err-decided
returns-in_err-decided c =
    let q = err_from_is_err_and c.from_residual.result c.from_residual.ensures.1 in
    rw (q.1, q.2, c.in_err-decided.was) (traced-refused _ _ _)

pub returns : goal.returns
returns c = rw c.in_ok-decided.was (traced-acts _ _ _ _ c.first.ensures)
