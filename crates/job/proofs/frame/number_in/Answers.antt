use mir.Val.{Fits}
use mir.Syntax.{w8}
use Rattle.std.proofs.Common.{ℕ, ◌<◌}
use Rattle.job.proofs.FrameLaws.{number_is}
use Rattle.job.proofs.frame.number_in.Goals as goal

-- a byte
small : (n : ℕ) → Fits w8 n → n < 256
small n h = h.fits

pub returns : goal.returns
returns c = number_is c.args.bytes.now c.padded.result _ (λ i. small _ (c.type_inv.bytes i)) c.requires c.padded.ensures c.from_le_bytes.ensures
