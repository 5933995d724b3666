use Rattle.std.proofs.Common.{◌-◌, get_or, rules}
use Rattle.tip5.specs.Tab.{tab}
use Rattle.tip5.proofs.FromFn.{tab_from_fn}
use Rattle.machine.specs.Hashing.{reversed}
use Rattle.machine_hashing.proofs.hashing.rate.Goals as goal

pub returns : goal.returns
unfolding tab reversed
returns c = tab_from_fn _ _ (λ i. get_or c.args.s (9 - i) 0) 10 _ c.from_fn.ensures.items (λ i y q lt k. search rules)
