use Rattle.std.proofs.Common.{◌≡◌, ◌∙◌, sym}
use Rattle.machine.specs.Machine.{st}
use Rattle.machine_arithmetic.proofs.Checked.{not-u32, turned_down, goes_on}
use Rattle.machine_arithmetic.proofs.bitwise.of_two.Goals as goal

pub returns-in_err-a : goal.returns-in_err-a
returns-in_err-a g c = (
  0,
  (λ h l. absurd (not-u32 _ _ _ c.st.ensures c.in_err-a.ensures h)),
  turned_down _ _ _ _ _ c.st.ensures c.in_err-a.ensures c.from_residual.ensures.1,
)

pub returns-in_err-b : goal.returns-in_err-b
returns-in_err-b g c = (
  0,
  (λ h l. absurd (not-u32 _ _ _ c.st-2.ensures c.in_err-b.ensures l)),
  turned_down _ _ _ _ _ c.st-2.ensures c.in_err-b.ensures c.from_residual-in_err-b.ensures.1
      ∙ sym (goes_on _ _ _ _ c.st.ensures c.in_ok-a.ensures),
)

pub returns : goal.returns
returns g c =
    let w = c.args.w.now.words in
    let a : c.in_ok-a.a ≡ st w 0 = c.in_ok-a.ensures.0 ∙ c.st.ensures in
    let b : c.in_ok-b.b ≡ st w 1 = c.in_ok-b.ensures.0 ∙ c.st-2.ensures in (
      c.operation.result,
      (λ h l. rw (← a, ← b) c.operation.ensures),
      c.put.ensures
          ∙ rw (c.new-call.ensures, c.from.ensures, c.from-2.ensures, a, b) (sym (goes_on _ _ _ _ c.st.ensures c.in_ok-a.ensures ∙ goes_on _ _ _ _ c.st-2.ensures c.in_ok-b.ensures)),
    )
