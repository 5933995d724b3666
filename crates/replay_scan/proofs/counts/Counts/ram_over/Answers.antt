use Rattle.replay_scan.proofs.ScanLaws.{over-rams}
use Rattle.replay_scan.proofs.counts.Counts.ram_over.Goals as goal

pub returns : goal.returns
returns c = over-rams _
