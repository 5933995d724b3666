use Rattle.std.proofs.Common.{◌∙◌}
use borrow.Author.Tests.{lt-ltb, le-ltb}
use Rattle.machine.specs.Refusal.{refusal_of}
use Rattle.machine.specs.ManyInOne.{merkle_step_of}
use Rattle.machine_arithmetic.proofs.Checked.{goes_on}
use Rattle.machine_hashing.proofs.HashedLaws.{hashed-acts, hashed-refuses, turned_down}
use Rattle.machine_hashing.proofs.many_in_one.merkle_step.Goals as goal

pub returns-in_err-as_u32 : goal.returns-in_err-as_u32
unfolding merkle_step_of
returns-in_err-as_u32 c = turned_down _ _ _ _ _ c.st.ensures c.in_err-as_u32.ensures c.from_residual.ensures.1

pub returns-then-left-lt5 : goal.returns-then-left-lt5
unfolding merkle_step_of refusal_of
returns-then-left-lt5 c =
    rw (c.into.ensures, hashed-refuses _, goes_on _ _ _ _ c.st.ensures c.in_ok-as_u32.ensures, lt-ltb _ _ c.if-left-lt5.true)

pub returns : goal.returns
unfolding merkle_step_of
returns c =
    hashed-acts _ c.stepped.ensures
    ∙ rw (c.merkle_trace.ensures, goes_on _ _ _ _ c.st.ensures c.in_ok-as_u32.ensures, le-ltb _ _ c.if-left-lt5.false)
