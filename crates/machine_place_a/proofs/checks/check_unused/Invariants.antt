use Rattle.std.proofs.Common.{◌≡◌, length}
use Rattle.std.specs.Slice.Iter.{chunks_rest, chunks_size}
use Rattle.machine.specs.Words.{zeros_from}
use Rattle.machine.specs.PlaceA.{unused5}
use Rattle.machine_place_a.proofs.checks.check_unused.Given as goal

-- what is wrong is wrong with what is left
abbrev pub invariant-loop-piece : goal.invariant-loop-piece
invariant-loop-piece l = (chunks_size l.piece-iterator ≡ 256) × (zeros_from (chunks_rest l.piece-iterator) 0 (length (chunks_rest l.piece-iterator)) ≡ unused5 l.words l.used)
