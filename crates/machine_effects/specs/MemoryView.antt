-- What the code's rows of RAM accesses promise.
use Rattle.std.specs.Prelude.{ℕ, ◌*◌, ◌≡◌, List, take}
use Rattle.field.specs.Base.{add_p}
use Rattle.machine.specs.Ram.{Cells}
use Rattle.machine.specs.Memory.{words_by, reads_by, writes_up}
use Rattle.machine_effects.specs.declared.effect.Accesses.{Accesses}
use Rattle.machine_effects.specs.declared.memory.Row.{Row}
use Rattle.machine_effects.specs.EffectView.{accesses_of}

-- the reads at a, a + d, a + 2 d, ..; the address behind them is given for a k, since omega cannot read n * (p - 1)
pub record ReadBy (d : ℕ) (c : Cells) (a n : ℕ) (r : Row) : Type 0 where
  pub reads : accesses_of r.accesses ≡ reads_by d c a n
  pub words : take n r.words ≡ words_by d c a n
  pub next : (k : ℕ) → k ≡ n * d → r.next ≡ add_p a k

-- the writes of ST 1, ST 2, .. from a on, and the address behind them
pub record Written (w : List ℕ) (a n : ℕ) (r : Accesses) (next : ℕ) : Type 0 where
  pub writes : accesses_of r ≡ writes_up w 1 a n
  pub after : next ≡ add_p a n
