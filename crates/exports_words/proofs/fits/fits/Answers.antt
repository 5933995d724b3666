use mathlib.Core.Path.{sym, ◌∙◌}
use Rattle.exports_words.proofs.RegistersLaws.{readable-facts}
use Rattle.exports_words.proofs.fits.fits.Goals as goal

pub read_registers-requires : goal.read_registers-requires
read_registers-requires c = readable-facts _ (sym c.readable.ensures ∙ c.if-readable.true)
