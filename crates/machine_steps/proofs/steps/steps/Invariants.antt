use Rattle.std.proofs.Common.{◌≡◌, ◌-◌, length}
use Rattle.std.specs.Option.{option_copied}
use Rattle.machine.specs.Machine.{machine}
use Rattle.machine.specs.Lent.{code_of, memory_of, Keeps}
use Rattle.machine_rows.specs.RowView.{RowTaken}
use Rattle.machine_steps.specs.StepsView.{price_by}
use Rattle.machine_steps.proofs.StepsLaws.{Going}
use Rattle.machine_steps.proofs.steps.steps.Given as goal

abbrev pub invariant-loop-count : goal.invariant-loop-count
invariant-loop-count l =
    record {
      going : Going l.recording l.tabling (price_by (option_copied l.prices)) l.budget l.initial.b l.initial.table (machine l.initial.now (code_of l.code) (memory_of l.initial.memory))
          (machine l.now (code_of l.code) (memory_of l.memory)) l.count l.at l.filled l.fee l.b l.table;
      row : RowTaken l.tabling (machine l.now (code_of l.code) (memory_of l.memory)) l.row;
      long : length l.row ≡ 37;
      lent : Keeps l.initial.memory l.memory;
    }

abbrev pub decreases-loop-count : goal.decreases-loop-count
decreases-loop-count l = l.budget - l.count
