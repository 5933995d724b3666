use Rattle.std.proofs.Common.{◌≡◌, length}
use Rattle.std.specs.Slice.Iter.{chunks_rest, chunks_size}
use Rattle.machine.specs.Words.{words_of}
use Rattle.machine_place_a.proofs.checks.check_words.Given as goal

-- what is wrong is wrong with what is left
abbrev pub invariant-loop-piece : goal.invariant-loop-piece
invariant-loop-piece l = (chunks_size l.piece-iterator ≡ 256) × (words_of (chunks_rest l.piece-iterator) (length (chunks_rest l.piece-iterator)) ≡ words_of l.words (length l.words))
