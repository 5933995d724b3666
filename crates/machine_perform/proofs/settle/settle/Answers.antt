use Rattle.std.proofs.Common.{refl, sym, arith}
use Rattle.machine.specs.Refusal.{refusal_of}
use Rattle.machine_perform.proofs.SettleLaws.{no_code, settled-took, settled-kept}
use Rattle.machine.proofs.Refused.{number_d_some}
use Rattle.machine_perform.proofs.settle.settle.Goals as goal

pub limits-room-requires : goal.limits-room-requires
limits-room-requires c = rw c.look.ensures c.requires.fit

pub perform-requires : goal.perform-requires
perform-requires c = c.requires.ready no_code (sym (rw c.look.ensures at (c.in-Ok.ensures.is no_code)))

pub returns-in-Ok-clause-settled : goal.returns-in-Ok-clause-settled
returns-in-Ok-clause-settled c = record { is = λ o. settled-took _ _ _ _ (sym (rw c.look.ensures at (c.in-Ok.ensures.is o))) (c.perform.ensures.performed.is o) }

pub returns-in-Err-clause-settled : goal.returns-in-Err-clause-settled
unfolding refusal_of
returns-in-Err-clause-settled c = record { is = λ o. settled-kept _ _ _ _ (rw c.look.ensures at (c.in-Err.ensures.is o)) (λ z. omega (arith, number_d_some c.in-Err.error)) refl }
