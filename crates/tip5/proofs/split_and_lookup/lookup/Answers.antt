use Rattle.tip5.proofs.split_and_lookup.Laws.{lookups-at}
use Rattle.tip5.proofs.split_and_lookup.lookup.Goals as goal

pub returns : goal.returns
returns c = rw (c.lookup_table.ensures, c.from.ensures) (lookups-at c.args.b c.ranges.b.fits)
