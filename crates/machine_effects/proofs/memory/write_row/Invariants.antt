use Rattle.std.proofs.Common.{◌≡◌, ◌++◌, ◌+◌, ◌*◌, ◌-◌, length}
use Rattle.field.specs.Base.{add_p}
use Rattle.machine.specs.Memory.{writes_up}
use Rattle.machine_effects.specs.declared.effect.Direction.TheVariants.{Write}
use Rattle.machine_effects.specs.EffectView.{first_accesses}
use Rattle.machine_effects.proofs.memory.write_row.Given as goal

abbrev pub invariant-loop-i : goal.invariant-loop-i
invariant-loop-i l =
    (length l.cells ≡ 10)
    × (l.address ≡ add_p l.start (l.i * 1))
    × (first_accesses Write l.cells l.i ++ writes_up l.w.words (l.i + 1) l.address (l.n - l.i) ≡ writes_up l.w.words 1 l.start l.n)
