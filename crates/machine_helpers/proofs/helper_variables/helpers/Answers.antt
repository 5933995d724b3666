use Rattle.std.proofs.Common.{◌≡◌, ◌-◌, ◌*◌, length, take, drop, refl, sym, arith, length-drop}
use Rattle.std.proofs.Math.Seq.{take_all}
use Rattle.machine.specs.Machine.{machine}
use Rattle.machine.specs.Lent.{code_of, seen}
use Rattle.machine.proofs.OpStack.{top-words}
use Rattle.machine_helpers.proofs.HelpersLaws.{of_machine}
use Rattle.machine_helpers.proofs.helper_variables.helpers.Goals as goal

pub invariant_of-seen : goal.invariant_of-seen
invariant_of-seen c =
    record { words = rw c.of-top.ensures (top-words c.args.state.now.depth c.requires.words); slots = c.requires.slots }

pub returns : goal.returns
returns c =
    let a = c.args in
    let s = a.code.now.digests.now in
    let n = 5 * a.state.now.digests in
    let d = drop n s in
    let e : take (length s - n) d ≡ d = take_all _ d (simp length-drop (omega arith)) in
    let k = of_machine (machine a.state.now (code_of a.code.now) (seen a.memory.now)) c.helpers.ensures (record { top = sym c.of-top.ensures; pointer = refl; opcodes = refl; arguments = refl; digests = sym e; cells = refl }) in
    record { own = k.0; alike = k.1 }
