use Rattle.std.proofs.Common.{◌≡◌, ◌∙◌, eq-eqb}
use borrow.Author.Tests.{ne_eqb}
use Rattle.machine.specs.Machine.{st}
use Rattle.machine.specs.Refusal.{refusal_of}
use Rattle.machine.specs.Bitwise.{log2_floor_of}
use Rattle.machine_effects.proofs.Effects.{refuses-as}
use Rattle.machine_arithmetic.proofs.Checked.{turned_down, goes_on}
use Rattle.machine_arithmetic.proofs.bitwise.log_2_floor.Goals as goal

pub returns-in_err-a : goal.returns-in_err-a
unfolding log2_floor_of
returns-in_err-a c = turned_down _ _ _ _ _ c.st.ensures c.in_err-a.ensures c.from_residual.ensures.1

pub returns-then-a-eq0 : goal.returns-then-a-eq0
unfolding log2_floor_of refusal_of
returns-then-a-eq0 c =
    let a : c.in_ok-a.a ≡ st c.args.w.now.words 0 = c.in_ok-a.ensures.0 ∙ c.st.ensures in
    rw (c.into.ensures, refuses-as _, goes_on _ _ _ _ c.st.ensures c.in_ok-a.ensures, ← a, eq-eqb _ _ c.if-a-eq0.true)

pub returns : goal.returns
unfolding log2_floor_of
returns c =
    let a : c.in_ok-a.a ≡ st c.args.w.now.words 0 = c.in_ok-a.ensures.0 ∙ c.st.ensures in
    c.put.ensures ∙ rw (c.new.ensures, c.highest.ensures, c.from.ensures, goes_on _ _ _ _ c.st.ensures c.in_ok-a.ensures, ← a, ne_eqb _ _ c.if-a-eq0.false)
