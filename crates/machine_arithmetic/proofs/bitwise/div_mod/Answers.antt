use Rattle.std.proofs.Common.{◌≡◌, ◌∙◌, ap, sym, eq-eqb}
use borrow.Author.Tests.{ne_eqb}
use Rattle.machine.specs.Machine.{st}
use Rattle.machine.specs.Effect.{recording}
use Rattle.machine.specs.Refusal.{refusal_of}
use Rattle.machine.specs.Bitwise.{div_mod_of}
use Rattle.machine_effects.proofs.Effects.{acts_as, refuses-as}
use Rattle.machine_arithmetic.proofs.Checked.{turned_down, goes_on}
use Rattle.machine_arithmetic.proofs.bitwise.div_mod.Goals as goal

pub returns-in_err-n : goal.returns-in_err-n
unfolding div_mod_of
returns-in_err-n c = turned_down _ _ _ _ _ c.st-above.ensures c.in_err-n.ensures c.from_residual.ensures.1

pub returns-in_err-d : goal.returns-in_err-d
unfolding div_mod_of
returns-in_err-d c =
    turned_down _ _ _ _ _ c.st-below.ensures c.in_err-d.ensures c.from_residual-in_err-d.ensures.1
    ∙ sym (goes_on _ _ _ _ c.st-above.ensures c.in_ok-n.ensures)

pub returns-then-d-eq0 : goal.returns-then-d-eq0
unfolding div_mod_of refusal_of
returns-then-d-eq0 c =
    let d : c.in_ok-d.d ≡ st c.args.w.now.words 1 = c.in_ok-d.ensures.0 ∙ c.st-below.ensures in
    rw (
      c.into.ensures,
      refuses-as _,
      goes_on _ _ _ _ c.st-above.ensures c.in_ok-n.ensures,
      goes_on _ _ _ _ c.st-below.ensures c.in_ok-d.ensures,
      ← d,
      eq-eqb _ _ c.if-d-eq0.true,
    )

pub returns : goal.returns
unfolding div_mod_of
returns c =
    let n : c.in_ok-n.n ≡ st c.args.w.now.words 0 = c.in_ok-n.ensures.0 ∙ c.st-above.ensures in
    let d : c.in_ok-d.d ≡ st c.args.w.now.words 1 = c.in_ok-d.ensures.0 ∙ c.st-below.ensures in
    acts_as _ (c.puts_u32.ensures ∙ ap (recording _ 2) c.of.ensures.words)
    ∙ rw (
      c.new-less.ensures,
      c.new-whole.ensures,
      goes_on _ _ _ _ c.st-above.ensures c.in_ok-n.ensures,
      goes_on _ _ _ _ c.st-below.ensures c.in_ok-d.ensures,
      c.from-r.ensures,
      c.from-q.ensures,
      ← n,
      ← d,
      ← c.in_ok-n.ensures.0,
      ← c.in_ok-d.ensures.0,
      ne_eqb _ _ c.if-d-eq0.false,
    )
