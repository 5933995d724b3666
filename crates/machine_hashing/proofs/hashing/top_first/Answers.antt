use Rattle.std.proofs.Common.{rules}
use Rattle.machine.specs.Machine.{st}
use Rattle.tip5.specs.Tab.{tab}
use Rattle.tip5.proofs.FromFn.{tab_from_fn}
use Rattle.machine.specs.Hashing.{from_top}
use Rattle.machine_hashing.proofs.hashing.top_first.Goals as goal

pub returns : goal.returns
unfolding tab from_top
returns c = tab_from_fn _ _ (λ i. st c.args.w.now.words i) 16 _ c.from_fn.ensures.items (λ i y q lt k. search rules)
