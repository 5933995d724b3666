-- The instructions that read and write RAM. Addresses go on modulo p.
use Rattle.std.specs.Prelude.{ℕ, zero, suc, ◌+◌, ◌-◌, List, [], ◌∷◌, ◌++◌}
use Rattle.field.specs.Base.{p, add_p, sub_p}
use Rattle.machine.specs.Ram.{Cells, held}
use Rattle.machine.specs.Machine.{st}
use Rattle.machine.specs.Effect.{Call, ram_read, ram_write, Decision, acts, recording}

-- the n words at a, a + d, a + 2 d, ..
unfoldable pub words_by : ℕ → Cells → ℕ → ℕ → List ℕ
words_by d c a zero = []
words_by d c a (suc n) = held c a ∷ words_by d c (add_p a d) n

-- their reads
unfoldable pub reads_by : ℕ → Cells → ℕ → ℕ → List Call
reads_by d c a zero = []
reads_by d c a (suc n) = ram_read a (held c a) ∷ reads_by d c (add_p a d) n

-- at a, a + 1, ..
abbrev pub words_up : Cells → ℕ → ℕ → List ℕ
words_up c a n = words_by 1 c a n

abbrev pub reads_up : Cells → ℕ → ℕ → List Call
reads_up c a n = reads_by 1 c a n

-- at a, a - 1, ..: modulo p one less is p - 1 more
abbrev pub down : ℕ
down = p - 1

abbrev pub words_down : Cells → ℕ → ℕ → List ℕ
words_down c a n = words_by down c a n

abbrev pub reads_down : Cells → ℕ → ℕ → List Call
reads_down c a n = reads_by down c a n

-- the writes of ST i, ST (i + 1), .. to a, a + 1, ..
unfoldable pub writes_up : List ℕ → ℕ → ℕ → ℕ → List Call
writes_up w i a zero = []
writes_up w i a (suc n) = ram_write a (st w i) ∷ writes_up w (i + 1) (add_p a 1) n

-- _ m becomes _ v1 .. vn (m - n)
unfoldable pub read_mem_of : Cells → List ℕ → ℕ → Decision
read_mem_of c w n = acts (recording (reads_down c (st w 0) n) 1 (words_down c (st w 0) n ++ (sub_p (st w 0) n ∷ [])))

-- _ vn .. v1 m becomes _ (m + n)
unfoldable pub write_mem_of : List ℕ → ℕ → Decision
write_mem_of w n = acts (recording (writes_up w 1 (st w 0) n) (n + 1) (add_p (st w 0) n ∷ []))
