use Rattle.std.proofs.Common.{ltb, arith, rules}
use Rattle.std.proofs.lemmas.Grind.{common_steps}
use Rattle.std.proofs.lemmas.List.Sorted.{answers_always}
use Rattle.machine_ram.proofs.RamView.{falls_by}
use Rattle.machine_ram.proofs.ram.is_ascending.Goals as goal

pub returns : goal.returns
returns c = falls_by _ _ _ c.requires (grind (arith, common_steps)) _ (c.is_sorted_by.ensures.cases ltb (answers_always _ _ _ (λ f a r f' k. search rules)))
