use Rattle.std.proofs.Common.{arith}
use Rattle.machine_quick.proofs.quick.change.Goals as goal

pub apply-requires : goal.apply-requires
apply-requires c = (c.requires.pops, c.requires.depth, omega (arith, c.if-op_stack-depth.false))

pub next-requires : goal.next-requires
next-requires c = omega (arith, c.requires.pointer)

pub returns : goal.returns
returns c =
    record {
      still = c.quiet.ensures.is c.if-not-quiet.false;
      clock = omega (arith, c.if-state-gt4294967294.false);
      deeper = omega (arith, c.if-op_stack-depth.false);
      depth = omega arith;
      pointer = c.next.ensures;
      stack = c.apply.ensures;
    }

pub overflow_add-depth : goal.overflow_add-depth
overflow_add-depth c = omega (arith, c.requires.pops, c.requires.grows, c.requires.depth, c.requires.few)
