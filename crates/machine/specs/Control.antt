-- The instructions that say what comes next.
use Rattle.std.specs.Prelude.{ℕ, ◌+◌, true, List, [], length, get_or, eqb, ltb}
use Rattle.choices.specs.Choice.{cond}
use Rattle.machine.specs.Refusal.{instruction_pointer_overflow, jump_stack_is_empty, assertion_failed}
use Rattle.machine.specs.Instruction.{size_of}
use Rattle.machine.specs.Machine.{st, JumpTop, empty, entry}
use Rattle.machine.specs.Effect.{Decision, acts, refuses, drops, onward, to, stays, pushes, pops, keeps, puts, goes}

unfoldable pub halt_of : Decision
halt_of =
    acts (record { pops = 0; words = []; next = onward; halts = true; jump = stays; publics = 0; secrets = 0; digests = 0; output = []; sponge = keeps; calls = [] })

unfoldable pub nop_of : Decision
nop_of = acts (puts 0 [])

-- on 0 the instruction in the next slot is skipped; where there is no such slot the word stays dropped
unfoldable pub skiz_of : List ℕ → ℕ → List ℕ → Decision
skiz_of opcodes pointer w =
    cond (eqb (st w 0) 0)
    (cond (ltb (pointer + 1) (length opcodes))
    (acts (goes 1 (to (pointer + 1 + size_of (get_or opcodes (pointer + 1) 0))) stays))
    (drops instruction_pointer_overflow))
    (acts (goes 1 onward stays))

unfoldable pub call_of : ℕ → ℕ → Decision
call_of pointer destination = acts (goes 0 (to destination) (pushes (pointer + 2) destination))

unfoldable pub return_of : JumpTop → Decision
return_of empty = refuses jump_stack_is_empty
return_of (entry origin destination) = acts (goes 0 (to origin) pops)

unfoldable pub recurse_of : JumpTop → Decision
recurse_of empty = refuses jump_stack_is_empty
recurse_of (entry origin destination) = acts (goes 0 (to destination) stays)

unfoldable pub recurse_or_return_of : List ℕ → JumpTop → Decision
unfolding return_of recurse_of
recurse_or_return_of w jump = cond (eqb (st w 5) (st w 6)) (return_of jump) (recurse_of jump)

unfoldable pub assert_of : List ℕ → Decision
assert_of w = cond (eqb (st w 0) 1) (acts (puts 1 [])) (refuses (assertion_failed (st w 0)))
