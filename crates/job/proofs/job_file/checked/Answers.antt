use Rattle.std.proofs.Common.{sym, ◌∙◌, arith}
use borrow.Author.Tests.{eqb-true, eqb-false}
use Rattle.job.proofs.JobFileLaws.{fault_other, fault_sound}
use Rattle.job.proofs.job_file.checked.Goals as goal

pub returns-then-file-gt65536 : goal.returns-then-file-gt65536
returns-then-file-gt65536 c = fault_other _ (λ s. omega (arith, s.short, c.if-file-gt65536.true))

pub returns-then-not-same_kind : goal.returns-then-not-same_kind
returns-then-not-same_kind c = fault_other _ (λ s. eqb-false _ _ (sym c.same_kind.ensures ∙ c.if-not-same_kind.true) (c.first.ensures.0 ∙ s.start))

pub returns-then-count-ne1 : goal.returns-then-count-ne1
returns-then-count-ne1 c = fault_other _ (λ s. c.if-count-ne1.true (c.count.ensures ∙ s.digest))

pub returns-then-count-gt1024 : goal.returns-then-count-gt1024
returns-then-count-gt1024 c = fault_other _ (λ s. omega (arith, s.slots, c.count-2.ensures, c.if-count-gt1024.true))

pub returns-then-count-gt1 : goal.returns-then-count-gt1
returns-then-count-gt1 c = fault_other _ (λ s. omega (arith, s.budgets, c.count-3.ensures, c.if-count-gt1.true))

pub returns-then-count-ne0 : goal.returns-then-count-ne0
returns-then-count-ne0 c = fault_other _ (λ s. c.if-count-ne0.true (c.count-4.ensures ∙ s.whole))

pub returns : goal.returns
returns c =
    fault_sound _
    (record {
      short = c.if-file-gt65536.false;
      start = sym c.first.ensures.0 ∙ eqb-true _ _ (sym c.same_kind.ensures ∙ c.if-not-same_kind.false);
      digest = sym c.count.ensures ∙ c.if-count-ne1.false;
      slots = omega (arith, c.count-2.ensures, c.if-count-gt1024.false);
      budgets = omega (arith, c.count-3.ensures, c.if-count-gt1.false);
      whole = sym c.count-4.ensures ∙ c.if-count-ne0.false;
    })
