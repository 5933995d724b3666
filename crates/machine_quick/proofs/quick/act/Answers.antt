-- `machine_quick::quick::act` meets its contract: each arm is its instruction, and the rest does not act.
use Rattle.machine.specs.Instruction.{table, decode}
use Rattle.machine.specs.Decide.{effect_of}
use Rattle.machine_decide.proofs.DecideLaws.{place_allowed}
use Rattle.machine_quick.proofs.QuickLaws.{refused-not}
use Rattle.machine_quick.proofs.quick.act.Goals as goal

pub pick-requires : goal.pick-requires
unfolding decode table
pick-requires c = place_allowed _ (rw c.in-17.is at c.requires.allowed)

pub place-requires : goal.place-requires
unfolding decode table
place-requires c = place_allowed _ (rw c.in-25.is at c.requires.allowed)

pub dup-requires : goal.dup-requires
unfolding decode table
dup-requires c = place_allowed _ (rw c.in-33.is at c.requires.allowed)

pub swap-requires : goal.swap-requires
unfolding decode table
swap-requires c = place_allowed _ (rw c.in-41.is at c.requires.allowed)

pub skiz-requires : goal.skiz-requires
skiz-requires c = c.requires.inside

pub add-requires : goal.add-requires
add-requires c = c.requires.words

pub addi-requires : goal.addi-requires
addi-requires c = (c.requires.words, c.requires.argument)

pub returns-in-3 : goal.returns-in-3
unfolding effect_of decode table
returns-in-3 c = record { is = λ e t. record { is = λ m s. rw c.in-3.is c.pop.ensures } }

pub returns-in-1 : goal.returns-in-1
unfolding effect_of decode table
returns-in-1 c = record { is = λ e t. record { is = λ m s. rw c.in-1.is c.push.ensures } }

pub returns-in-17 : goal.returns-in-17
unfolding effect_of decode table
returns-in-17 c = record { is = λ e t. record { is = λ m s. rw (c.in-17.is, s.top) c.pick.ensures } }

pub returns-in-25 : goal.returns-in-25
unfolding effect_of decode table
returns-in-25 c = record { is = λ e t. record { is = λ m s. rw (c.in-25.is, s.top) c.place.ensures } }

pub returns-in-33 : goal.returns-in-33
unfolding effect_of decode table
returns-in-33 c = record { is = λ e t. record { is = λ m s. rw (c.in-33.is, s.top) c.dup.ensures } }

pub returns-in-41 : goal.returns-in-41
unfolding effect_of decode table
returns-in-41 c = record { is = λ e t. record { is = λ m s. rw (c.in-41.is, s.top) c.swap.ensures } }

pub returns-in-8 : goal.returns-in-8
unfolding effect_of decode table
returns-in-8 c = record { is = λ e t. record { is = λ m s. rw c.in-8.is c.nop.ensures } }

pub returns-in-2 : goal.returns-in-2
unfolding effect_of decode table
returns-in-2 c = record { is = λ e t. record { is = λ m s. rw (c.in-2.is, s.opcodes, s.pointer, s.top) c.skiz.ensures } }

pub returns-in-24 : goal.returns-in-24
unfolding effect_of decode table
returns-in-24 c = record { is = λ e t. record { is = λ m s. rw (c.in-24.is, s.jump) c.recurse.ensures } }

pub returns-in-10 : goal.returns-in-10
unfolding effect_of decode table
returns-in-10 c = record { is = λ e t. record { is = λ m s. rw (c.in-10.is, s.top) c.assert.ensures } }

pub returns-in-42 : goal.returns-in-42
unfolding effect_of decode table
returns-in-42 c = record { is = λ e t. record { is = λ m s. rw (c.in-42.is, s.top) c.add.ensures } }

pub returns-in-65 : goal.returns-in-65
unfolding effect_of decode table
returns-in-65 c = record { is = λ e t. record { is = λ m s. rw (c.in-65.is, s.top) c.addi.ensures } }

pub returns-in-50 : goal.returns-in-50
unfolding effect_of decode table
returns-in-50 c = record { is = λ e t. record { is = λ m s. rw (c.in-50.is, s.top) c.mul.ensures } }

pub returns-in-58 : goal.returns-in-58
unfolding effect_of decode table
returns-in-58 c = record { is = λ e t. record { is = λ m s. rw (c.in-58.is, s.top) c.eq.ensures } }

pub returns-in_default : goal.returns-in_default
returns-in_default c = record { is = λ e t. absurd (refused-not t) }
