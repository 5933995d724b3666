use Rattle.std.proofs.Common.{refl, rules, ◌∙◌}
use Rattle.machine.specs.ProcessorRow.{processor_row_of}
use Rattle.exports_words.proofs.CallsLaws.{fitting_some, fitting_none}
use Rattle.exports_calls.proofs.GivenCallLaws.{given-called, given_misfits}
use Rattle.exports_calls.proofs.processor_row.row_call.Goals as goal

pub write_given-requires : goal.write_given-requires
write_given-requires c = (search rules, (fitting_some _ _ _ _ _ refl c.in-Some.ensures).answer)

pub returns-in-Some : goal.returns-in-Some
returns-in-Some c =
    let f = fitting_some _ _ _ 37 _ refl c.in-Some.ensures in
    given-called 37 processor_row_of _ _ _ _ refl f.fits f.state (c.write_given.ensures ∙ c.processor_row.ensures) refl

pub returns-in-None : goal.returns-in-None
returns-in-None c = given_misfits 37 processor_row_of _ _ _ _ refl (fitting_none _ _ _ _ refl c.in-None.ensures) c.zero_words.ensures
