use Rattle.std.proofs.Common.{◌≡◌, ◌∙◌, sym}
use Rattle.machine.specs.Machine.{st}
use Rattle.machine.specs.Bitwise.{pop_count_of}
use Rattle.machine_arithmetic.proofs.Checked.{turned_down, goes_on}
use Rattle.machine_arithmetic.proofs.bitwise.pop_count.Goals as goal

pub returns-in_err-a : goal.returns-in_err-a
unfolding pop_count_of
returns-in_err-a c = turned_down _ _ _ _ _ c.st.ensures c.in_err-a.ensures c.from_residual.ensures.1

pub returns : goal.returns
unfolding pop_count_of
returns c =
    let a : c.in_ok-a.a ≡ st c.args.w.now.words 0 = c.in_ok-a.ensures.0 ∙ c.st.ensures in
    c.put.ensures ∙ rw (c.new.ensures, c.ones.ensures, c.from.ensures, a) (sym (goes_on _ _ _ _ c.st.ensures c.in_ok-a.ensures))
