use Rattle.std.proofs.Common.{refl, arith}
use Rattle.runjob.proofs.StartLaws.{filled-inside, opening-kept, starts_opened, starts_refused, starts_so}
use Rattle.runjob.proofs.pending.start.start.Goals as goal

pub returns-in_err-j : goal.returns-in_err-j
returns-in_err-j c = starts_so _ _ _ c.in_err-j.ensures.job c.from_residual.ensures.1

pub shared_ref_as_front-code : goal.shared_ref_as_front-code
shared_ref_as_front-code c = omega (arith, filled-inside c.in_ok-j.ensures.job.opcodes, c.in_ok-j.ensures.lengths.opcodes)

pub shared_ref_as_front-code-2 : goal.shared_ref_as_front-code-2
shared_ref_as_front-code-2 c = omega (arith, filled-inside c.in_ok-j.ensures.job.arguments, c.in_ok-j.ensures.lengths.arguments)

pub shared_ref_as_front-code-3 : goal.shared_ref_as_front-code-3
shared_ref_as_front-code-3 c = omega (arith, filled-inside c.in_ok-j.ensures.job.public, c.in_ok-j.ensures.lengths.public)

pub shared_ref_as_front-code-4 : goal.shared_ref_as_front-code-4
shared_ref_as_front-code-4 c = omega (arith, filled-inside c.in_ok-j.ensures.job.secret, c.in_ok-j.ensures.lengths.secret)

pub shared_ref_as_front-code-5 : goal.shared_ref_as_front-code-5
shared_ref_as_front-code-5 c = omega (arith, filled-inside c.in_ok-j.ensures.job.digests, c.in_ok-j.ensures.lengths.digests)

pub returns-in_err-state : goal.returns-in_err-state
returns-in_err-state c =
    let b = c.requires.blank in
    starts_refused _ _ _ _ c.in_ok-j.ensures.job _ b.op_stack b.origins b.destinations b.output b.addresses b.values refl refl _ _ _ c.in_err-state.ensures.opens c.from_residual-in_err-state.ensures.1

pub returns : goal.returns
returns c =
    let b = c.requires.blank in
    starts_opened _ _ _ _ c.in_ok-j.ensures.job _ b.op_stack b.origins b.destinations b.output b.addresses b.values refl refl _ _ c.in_ok-state.ensures.opens (opening-kept c.in_ok-state.ensures.lent) (omega arith)
