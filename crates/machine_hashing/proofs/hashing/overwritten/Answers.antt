use Rattle.std.proofs.Common.{ℕ, List, ◌++◌, ap, drop}
use Rattle.machine_hashing.proofs.hashing.overwritten.Goals as goal

pub returns : goal.returns
returns c = ap (λ (t : List ℕ). t ++ drop 10 c.args.rest) c.copy_from_slice.ensures.after
