use Rattle.std.proofs.Common.{refl, sym}
use Rattle.machine.proofs.OpStack.{top-words}
use Rattle.machine_decide.proofs.DecideLaws.{sound-usable}
use Rattle.machine_decide.proofs.handed.hand_over_hash.Goals as goal

pub of-top-requires : goal.of-top-requires
of-top-requires c = (c.requires.sound.deep, c.requires.sound.op_stack.used)

pub left-digests-requires : goal.left-digests-requires
left-digests-requires c = c.requires.sound.digests

pub invariant_of-ram : goal.invariant_of-ram
invariant_of-ram c = record { usable = sound-usable _ c.requires.sound }

pub returns-clause-reliable : goal.returns-clause-reliable
returns-clause-reliable c = rw c.of-top.ensures (top-words c.args.state.now.depth c.requires.sound.op_stack.words)

pub returns-clause-shows : goal.returns-clause-shows
returns-clause-shows c = record { top = sym c.of-top.ensures; digests = sym c.left-digests.ensures; cells = refl }
