use native.Mathlib.Omega.{arith}
use borrow.Author.Tests.{le-ltb}
use lib.ListN.{get_or}
use Rattle.machine.proofs.Words.{words_get_d}
use Rattle.machine_decide.specs.PlaceBView.{place_b}
use Rattle.machine_decide.proofs.PlaceBLaws.{grown_few, shrunk_few, b_here, shallow-is, shallow-not}
use Rattle.machine_decide.proofs.place_b.place_b.Goals as goal

pub returns-then-state : goal.returns-then-state
unfolding place_b
returns-then-state c = rw c.if-state.true

pub returns-then-at-code : goal.returns-then-at-code
unfolding place_b
returns-then-at-code c = rw (c.if-state.false, le-ltb _ _ c.if-at-code.true)

pub returns-then-state-grown : goal.returns-then-state-grown
returns-then-state-grown c = b_here _ _ _ c.if-state.false c.if-at-code.false (shallow-is _ _ _ c.depth_change-grown.ensures.grown c.depth_change-grown.ensures.shrunk c.if-state-grown.true)

pub returns-else-state-grown : goal.returns-else-state-grown
returns-else-state-grown c = b_here _ _ _ c.if-state.false c.if-at-code.false (shallow-not _ _ _ c.depth_change-grown.ensures.grown c.depth_change-grown.ensures.shrunk c.if-state-grown.false)

pub overflow_add-state : goal.overflow_add-state
overflow_add-state c =
    let a = c.args in
    let n = words_get_d a.state.now.pointer c.requires.words in
    omega (arith, c.requires.depth, c.depth_change-grown.ensures.grown, grown_few (get_or a.code.now.opcodes.now a.state.now.pointer 0) (get_or a.code.now.arguments.now a.state.now.pointer 0), n)

pub overflow_add-shrunk : goal.overflow_add-shrunk
overflow_add-shrunk c =
    let a = c.args in
    let n = words_get_d a.state.now.pointer c.requires.words in
    omega (arith, c.depth_change-grown.ensures.shrunk, shrunk_few (get_or a.code.now.opcodes.now a.state.now.pointer 0) (get_or a.code.now.arguments.now a.state.now.pointer 0), n)
