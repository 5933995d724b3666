use Rattle.std.proofs.Common.{refl}
use Rattle.machine_fees.proofs.FeeLaws.{zeros_priceable}
use Rattle.machine_vm.proofs.StepLaws.{taken-shaped, names_row}
use Rattle.machine_vm.proofs.step.step.Goals as goal

pub checked-stepped-requires-in-Some : goal.checked-stepped-requires-in-Some
checked-stepped-requires-in-Some c = λ _. zeros_priceable

pub row_named-row-requires : goal.row_named-row-requires
row_named-row-requires c = taken-shaped (rw c.in-Some.is at c.checked-stepped-in-Some.ensures.steps)

pub returns-in-Some-clause-steps : goal.returns-in-Some-clause-steps
returns-in-Some-clause-steps c =
    rw c.in-Some.is (record {
      steps = rw c.in-Some.is at c.checked-stepped-in-Some.ensures.steps;
      row = names_row (rw c.in-Some.is at c.checked-stepped-in-Some.ensures.steps) refl c.opcode_at-opcode.ensures c.row_named-row.ensures;
    })
