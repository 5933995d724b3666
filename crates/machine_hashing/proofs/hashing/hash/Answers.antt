use Rattle.std.proofs.Common.{◌∙◌, ap}
use Rattle.machine.specs.Effect.{puts}
use Rattle.machine.specs.Hashing.{from_top, hashed, hash_of}
use Rattle.machine_hashing.specs.HashedView.{trace_first}
use Rattle.machine_hashing.proofs.HashedLaws.{hashed-acts}
use Rattle.machine_hashing.proofs.hashing.hash.Goals as goal

pub returns : goal.returns
unfolding hash_of hashed from_top
returns c =
    hashed-acts _ (c.first.ensures ∙ ap (trace_first 18 c.trace-t.result) (c.puts.ensures ∙ ap (puts 10) c.of.ensures.words))
    ∙ rw (c.digest.ensures, c.trace-t.ensures.is, c.overwritten.ensures, c.top_first.ensures)
