-- The instructions that move words of the op stack. w is the top sixteen words, bottom first.
use Rattle.std.specs.Prelude.{ℕ, ◌-◌, List, [], ◌∷◌, ◌++◌, length, take, drop, set, ltb}
use Rattle.machine.specs.Refusal.{empty_secret_input}
use Rattle.machine.specs.Machine.{st}
use Rattle.machine.specs.Effect.{Effect, Decision, acts, drawing, puts, unless}

unfoldable pub push_of : ℕ → Decision
push_of a = acts (puts 0 (a ∷ []))

unfoldable pub pop_of : ℕ → Decision
pop_of n = acts (puts n [])

-- takes n secret words and puts them on, the first taken lowest
abbrev pub divined : ℕ → List ℕ → Effect
divined n left = drawing 0 n 0 [] 0 (take n left)

unfoldable pub divine_of : ℕ → List ℕ → Decision
divine_of n left = unless (ltb (length left) n) (empty_secret_input (length left)) (acts (divined n left))

-- ST i is taken out and put on top
unfoldable pub picked : List ℕ → ℕ → List ℕ
picked w i = take (15 - i) w ++ drop (16 - i) w ++ (st w i ∷ [])

unfoldable pub pick_of : List ℕ → ℕ → Decision
pick_of w i = acts (puts 16 (picked w i))

-- ST 0 is taken off and put in so that it becomes ST i
unfoldable pub placed : List ℕ → ℕ → List ℕ
placed w i = take (15 - i) w ++ (st w 0 ∷ take i (drop (15 - i) w))

unfoldable pub place_of : List ℕ → ℕ → Decision
place_of w i = acts (puts 16 (placed w i))

unfoldable pub dup_of : List ℕ → ℕ → Decision
dup_of w i = acts (puts 0 (st w i ∷ []))

-- ST 0 and ST i change places
unfoldable pub swapped : List ℕ → ℕ → List ℕ
swapped w i = set (set w 15 (st w i)) (15 - i) (st w 0)

unfoldable pub swap_of : List ℕ → ℕ → Decision
swap_of w i = acts (puts 16 (swapped w i))
