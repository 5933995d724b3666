use Rattle.std.proofs.Common.{rules}
use Rattle.tip5.specs.Sbox.{sbox_layer_of}
use Rattle.tip5.proofs.FromFn.{tab_from_fn}
use Rattle.tip5.proofs.sbox.sbox_layer.Goals as goal

pub returns : goal.returns
unfolding sbox_layer_of
returns c = tab_from_fn _ _ _ _ _ c.from_fn.ensures.items (λ i y q lt k. search rules)
