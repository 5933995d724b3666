use borrow.Author.Rules.{rules}
use native.Mathlib.Omega.{arith}
use mathlib.Core.Path.{◌≡◌, ◌∙◌}
use lib.ListN.{length}
use Rattle.exports_words.proofs.RegistersLaws.{write_state, byte_mark}
use Rattle.exports_words.proofs.registers.write_registers.Goals as goal

pub copy-requires-2 : goal.copy-requires-2
copy-requires-2 c =
    let w = c.args.state.sponge.words in
    let sixteen : length w ≡ 16 = search rules in
    (omega (arith, c.copy.auto, c.requires), omega arith)

pub returns : goal.returns
returns c =
    let sixteen : length c.args.state.sponge.words ≡ 16 = search rules in
    write_state c.args.state c.args.registers.now c.copy.new.dst c.copy-2.new.dst c.copy-3.new.dst c.requires sixteen
    (c.from.ensures ∙ byte_mark _) (c.from-2.ensures ∙ byte_mark _) c.copy.ensures c.copy-2.ensures c.copy-3.ensures
