use Rattle.exports_words.specs.Registers.{state_of}
use Rattle.exports_words.proofs.RegistersLaws.{read-words}
use Rattle.exports_words.proofs.registers.read_registers.Goals as goal

pub returns : goal.returns
unfolding state_of
returns c =
    rw (read-words c.args.registers.now c.copy.new.dst c.requires.long c.copy.ensures)
