use Rattle.std.proofs.Common.{refl, sym, ◌∙◌, eq-eqb}
use borrow.Author.Tests.{ne_eqb}
use Rattle.machine.specs.Refusal.{refusal_of}
use Rattle.machine.specs.Hashing.{assert_vector_of}
use Rattle.machine_effects.proofs.Effects.{acts_as, refuses-as}
use Rattle.machine_hashing.proofs.HashedLaws.{assert-refused, assert-more, assert-all}
use Rattle.machine_hashing.proofs.hashing.assert_vector.Goals as goal

pub loop-i-init : goal.loop-i-init
unfolding assert_vector_of
loop-i-init c = refl

pub returns-then-a-b : goal.returns-then-a-b
unfolding refusal_of
returns-then-a-b c =
    rw (c.into.ensures, refuses-as _, c.st-a.ensures, c.st-b.ensures)
    (sym (assert-refused c.args.w.now.words c.loop-i.i c.loop-i-test.true (rw (← c.st-a.ensures, ← c.st-b.ensures) (ne_eqb _ _ c.if-a-b.true))) ∙ c.loop-i.invariant)

pub loop-i-preserved : goal.loop-i-preserved
loop-i-preserved c =
    sym (assert-more c.args.w.now.words c.loop-i.i c.loop-i-test.true (rw (← c.st-a.ensures, ← c.st-b.ensures) (eq-eqb _ _ c.if-a-b.false))) ∙ c.loop-i.invariant

pub returns : goal.returns
returns c =
    acts_as _ c.takes_off.ensures ∙ sym (assert-all c.args.w.now.words c.loop-i.i c.loop-i-test.false) ∙ c.loop-i.invariant
