use Rattle.std.proofs.Common.{arith, eq-eqb}
use borrow.Author.Tests.{ne_eqb}
use Rattle.machine.specs.Refusal.{refusal_of}
use Rattle.machine.specs.Control.{skiz_of}
use Rattle.machine.proofs.Rows.{size_small}
use Rattle.machine_effects.proofs.Effects.{acts_as, drops-as}
use Rattle.machine_effects.proofs.control.skiz.Goals as goal

pub returns-then-st-ne0 : goal.returns-then-st-ne0
unfolding skiz_of
returns-then-st-ne0 c = rw (acts_as _ c.takes_off.ensures, ← c.st.ensures, ne_eqb _ _ c.if-st-ne0.true)

pub overflow_add-next-in-Some : goal.overflow_add-next-in-Some
overflow_add-next-in-Some c = omega (arith, c.in-Some.ensures.lookup.3, c.size.ensures, size_small c.in-Some.opcode.now)

pub returns-in-Some : goal.returns-in-Some
unfolding skiz_of
returns-in-Some c =
    let h = c.in-Some.ensures.lookup in
    rw (acts_as _ c.goes.ensures, c.size.ensures, ← c.st.ensures, eq-eqb _ _ c.if-st-ne0.false, ← h.0, ← h.4 (omega arith) 0)

pub returns-in-None : goal.returns-in-None
unfolding skiz_of refusal_of
returns-in-None c = rw (drops-as _, ← c.st.ensures, eq-eqb _ _ c.if-st-ne0.false, ← c.in-None.ensures.lookup.0)
