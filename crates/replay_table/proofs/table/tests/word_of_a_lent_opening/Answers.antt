use mathlib.Core.Path.{refl}
use native.Mathlib.Omega.{arith}
use Rattle.std.proofs.Common.{◌≡◌, ℕ, true, false, [], ◌∷◌}
use Rattle.choices.specs.Choice.{first_of}
use Rattle.machine.specs.Ram.{cells, has, find, stands_at, place_of, place_from, fall_of, falls_of}
use Rattle.machine_ram.proofs.Order.{has_where}
use Rattle.replay_table.proofs.TableLaws.{sorted_by}
use Rattle.replay_table.proofs.table.tests.word_of_a_lent_opening.Goals as goal

only-five : (a : ℕ) → has (cells 1 (5 ∷ 0 ∷ []) (50 ∷ 0 ∷ [])) a ≡ true → 5 ≡ a
only-five a h =
    let w = has_where (cells 1 (5 ∷ 0 ∷ []) (50 ∷ 0 ∷ [])) a h in
    let z : place_of (cells 1 (5 ∷ 0 ∷ []) (50 ∷ 0 ∷ [])) a ≡ 0 = omega (arith, w.0) in
    rw z at w.1

five-late : has (cells 1 (7 ∷ []) (70 ∷ [])) 5 ≡ false
unfolding has find stands_at place_of place_from
five-late = refl

pub word_at-requires : goal.word_at-requires
unfolding fall_of falls_of first_of
word_at-requires g c = (
  record {
    table = sorted_by _ (omega arith) refl refl;
    late = sorted_by _ (omega arith) refl refl;
    apart = λ a h. rw (← only-five a h) five-late;
    room = omega arith;
  },
  sorted_by _ (omega arith) refl refl,
)
