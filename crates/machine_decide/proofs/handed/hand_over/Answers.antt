use Rattle.std.proofs.Common.{refl, sym, length}
use Rattle.machine.specs.Machine.{jump_top}
use Rattle.machine.proofs.OpStack.{top-words}
use Rattle.machine.proofs.Rows.{argument-at}
use Rattle.machine.proofs.Words.{words_get_d}
use Rattle.machine_decide.proofs.DecideLaws.{sound-usable}
use Rattle.machine_decide.proofs.handed.hand_over.Goals as goal

pub of-top-requires : goal.of-top-requires
of-top-requires c = (c.requires.sound.deep, c.requires.sound.op_stack.used)

pub left-public-requires : goal.left-public-requires
left-public-requires c = c.requires.sound.publics

pub left-secret-requires : goal.left-secret-requires
left-secret-requires c = c.requires.sound.secrets

pub last_entry-jump-requires : goal.last_entry-jump-requires
last_entry-jump-requires c = (c.requires.sound.origins.used, c.requires.sound.destinations.used)

pub invariant_of-ram : goal.invariant_of-ram
invariant_of-ram c = record { usable = sound-usable _ c.requires.sound }

pub returns-clause-reliable : goal.returns-clause-reliable
returns-clause-reliable c =
    let s = c.args.state.now in
    let o = c.args.code.now.opcodes.now in
    let a = c.args.code.now.arguments.now in
    let m = c.requires.sound in
    record {
      words = rw c.of-top.ensures (top-words s.depth m.op_stack.words);
      inside = c.requires.inside;
      pointer = m.pointer;
      argument = words_get_d s.pointer m.code.arguments;
      allowed = argument-at o a (length o) s.pointer c.requires.inside m.code.allowed;
    }

pub returns-clause-shows : goal.returns-clause-shows
unfolding jump_top
returns-clause-shows c =
    record {
      top = sym c.of-top.ensures;
      pointer = refl;
      opcodes = refl;
      public = sym c.left-public.ensures;
      secret = sym c.left-secret.ensures;
      jump = sym c.last_entry-jump.ensures;
      cells = refl;
    }
