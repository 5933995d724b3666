use Rattle.machine_hashing.proofs.HashedLaws.{pair_put}
use Rattle.machine_hashing.proofs.many_in_one.pair.Goals as goal

pub returns : goal.returns
returns c =
    rw (c.copy_from_slice-2.ensures.after, c.copy_from_slice.ensures.after) (pair_put c.args.left.now c.args.right.now c.requires.0 c.requires.1)
