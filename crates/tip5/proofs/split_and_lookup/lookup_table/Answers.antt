use mathlib.Core.Path.{refl}
use Rattle.tip5.specs.SplitAndLookup.{lookup_of, lookups}
use Rattle.tip5.specs.Tab.{tab}
use Rattle.tip5.proofs.split_and_lookup.lookup_table.Goals as goal

pub returns : goal.returns
unfolding lookups lookup_of tab
returns c = refl
