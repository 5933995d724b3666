-- open: the machine before the first step, with a log of the revision chosen.
use Rattle.std.specs.Prelude.{ℕ, ◌-◌, false, List, ◌∷◌, length, get_or, replicate, eqb}
use Rattle.tip5.specs.declared.sponge.Sponge.{Sponge}
use Rattle.choices.specs.Choice.{cond}
use Rattle.machine.specs.Machine.{Code, Memory, Machine, machine}
use Rattle.machine.specs.Apply.{Outcome, took, kept}
use Rattle.machine.specs.PlaceA.{open_a}
use Rattle.machine.specs.FeeTable.{Fees, checked}

-- no sponge, and its words 0
abbrev pub no_sponge : Sponge
no_sponge = record { words = replicate 16 0; set = false }

-- depth 16, the program digest reversed at the bottom (ST 11 is its word 0), zeros above
unfoldable pub opened_stack : List ℕ → List ℕ → List ℕ
opened_stack digest s = get_or digest 4 0 ∷ get_or digest 3 0 ∷ get_or digest 2 0 ∷ get_or digest 1 0 ∷ get_or digest 0 0 ∷ replicate (length s - 5) 0

unfoldable pub opened : ℕ → List ℕ → Code → Memory → ℕ → Machine
opened v digest c m n =
    machine
    (record {
      clock = 0;
      pointer = 0;
      depth = 16;
      jumps = 0;
      cells = n;
      outputs = 0;
      publics = 0;
      secrets = 0;
      digests = 0;
      sponge = no_sponge;
      halted = false;
      revision = v;
    })
    c
    (record {
      op_stack = opened_stack digest m.op_stack;
      origins = replicate (length m.origins) 0;
      destinations = replicate (length m.destinations) 0;
      addresses = m.addresses;
      values = m.values;
      output = m.output;
    })

-- a refused open changes nothing that is lent. A fee table is looked at and not kept
unfoldable pub open_of : Fees → ℕ → List ℕ → Code → Memory → ℕ → Outcome
open_of f v digest c m n = let a = checked f (open_a v digest c m n) in cond (eqb a.number 0) (took (opened v digest c m n)) (kept a)
