use Rattle.std.proofs.Common.{subst}
use Rattle.machine_ram.specs.RamView.{Above}
use Rattle.machine_ram.proofs.RamView.{guess_by}
use Rattle.machine_ram.proofs.addresses.Addresses.right.Goals as goal

pub returns-then-above : goal.returns-then-above
returns-then-above c =
    guess_by _ _ _ _ _ c.args.self.now.ordered c.if-self-guess.false (subst (Above _ _ _) c.if-above.true c.above.ensures) c.below.ensures
