-- `machine_decide::decide::act_hashing` meets its contract: each arm is its instruction, and there is no rest.
use mathlib.Core.Path.{sym, ◌∙◌}
use mathlib.Core.Bool.{true≢false}
use Rattle.machine.specs.Instruction.{table, decode}
use Rattle.machine.specs.Decide.{effect_of}
use Rattle.machine.proofs.Words.{words_get_d}
use Rattle.machine_decide.proofs.DecideLaws.{not_hashing}
use Rattle.machine_decide.proofs.decide.act_hashing.Goals as goal

pub sponge_absorb_mem-requires : goal.sponge_absorb_mem-requires
sponge_absorb_mem-requires c = words_get_d 15 c.requires.words

pub merkle_step_mem-requires : goal.merkle_step_mem-requires
merkle_step_mem-requires c = words_get_d 8 c.requires.words

pub returns-in-18 : goal.returns-in-18
unfolding effect_of decode table
returns-in-18 c = record { is = λ n m s e. rw (c.in-18.is, s.top) c.hash.ensures }

pub returns-in-40 : goal.returns-in-40
unfolding effect_of decode table
returns-in-40 c = record { is = λ n m s e. rw c.in-40.is c.sponge_init.ensures }

pub returns-in-34 : goal.returns-in-34
unfolding effect_of decode table
returns-in-34 c = record { is = λ n m s e. rw (c.in-34.is, e, s.top) c.sponge_absorb.ensures }

pub returns-in-48 : goal.returns-in-48
unfolding effect_of decode table
returns-in-48 c = record { is = λ n m s e. rw (c.in-48.is, e, s.cells, s.top) c.sponge_absorb_mem.ensures }

pub returns-in-56 : goal.returns-in-56
unfolding effect_of decode table
returns-in-56 c = record { is = λ n m s e. rw (c.in-56.is, e) c.sponge_squeeze.ensures }

pub returns-in-36 : goal.returns-in-36
unfolding effect_of decode table
returns-in-36 c = record { is = λ n m s e. rw (c.in-36.is, s.digests, s.top) c.merkle_step.ensures }

pub returns-in-44 : goal.returns-in-44
unfolding effect_of decode table
returns-in-44 c = record { is = λ n m s e. rw (c.in-44.is, s.cells, s.top) c.merkle_step_mem.ensures }

pub returns-in_default : goal.returns-in_default
returns-in_default c = absurd (true≢false (sym c.requires.hashing ∙ not_hashing _ c.in_default.in_default-own.rest))
