use Rattle.std.proofs.Common.{refl, ap, eq-eqb}
use Rattle.machine.specs.Refusal.{Refusal}
use Rattle.exports_calls.specs.GivenCall.{zeroed}
use Rattle.exports_calls.proofs.given.write_given.Goals as goal

pub returns-in-Err : goal.returns-in-Err
unfolding zeroed
returns-in-Err g c = rw (c.in-Err.is, ap (λ (r : Refusal). r.number) c.from.ensures, c.zero_words.ensures, eq-eqb _ _ c.requires) refl
