use Rattle.std.proofs.Common.{◌≡◌, ◌∙◌, sym}
use Rattle.machine.specs.Machine.{st}
use Rattle.machine.specs.Bitwise.{pow_of}
use Rattle.machine_arithmetic.proofs.Checked.{turned_down, goes_on}
use Rattle.machine_arithmetic.proofs.bitwise.pow.Goals as goal

pub returns-in_err-e : goal.returns-in_err-e
unfolding pow_of
returns-in_err-e c = turned_down _ _ _ _ _ c.st.ensures c.in_err-e.ensures c.from_residual.ensures.1

pub returns : goal.returns
unfolding pow_of
returns c =
    let e : c.in_ok-e.e ≡ st c.args.w.now.words 1 = c.in_ok-e.ensures.0 ∙ c.st.ensures in
    c.put.ensures ∙ rw (c.new.ensures, c.mod_pow.ensures, c.from-exponent.ensures, e, c.st-b.ensures) (sym (goes_on _ _ _ _ c.st.ensures c.in_ok-e.ensures))
