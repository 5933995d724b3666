use Rattle.machine_fees.proofs.FeeLaws.{zeros_priceable}
use Rattle.machine_vm.proofs.call.call.Goals as goal

pub checked-requires-in-Some : goal.checked-requires-in-Some
checked-requires-in-Some c = record { unasked = c.requires; prices = rw c.in-Some.is zeros_priceable }
