-- Replay of RAM's records for a group of addresses: those from lo on and below hi. c are the opening's cells, `done` the
-- records before.
use Rattle.std.specs.Prelude.{ℕ, zero, suc, ◌+◌, ◌≡◌, Bool, true, false, List, [], ◌∷◌, ◌++◌, ltb}
use Rattle.choices.specs.Choice.{cond}
use Rattle.machine.specs.Ram.{Cells, cells, held, has}
use Rattle.machine.specs.Records.{Record, other, timed, stack, ram}
use Rattle.replay.specs.LastWrite.{wrote_of, had_of}

unfoldable pub inside : ℕ → ℕ → ℕ → Bool
inside lo hi a = cond (ltb a lo) false (ltb a hi)

-- ---- cells that the records take

-- 1 for a write to an address of the group that has no cell yet
unfoldable pub new_in : ℕ → ℕ → Cells → List Record → Record → ℕ
new_in lo hi c done (other k s) = 0
new_in lo hi c done (timed k t s) = 0
new_in lo hi c done (stack t q d v) = 0
new_in lo hi c done (ram t a v zero) = 0
new_in lo hi c done (ram t a v (suc d)) = cond (inside lo hi a) (cond (had_of done a (has c a)) 0 1) 0

unfoldable pub cells_in : ℕ → ℕ → Cells → List Record → List Record → ℕ
cells_in lo hi c done [] = 0
cells_in lo hi c done (r ∷ rs) = new_in lo hi c done r + cells_in lo hi c (done ++ (r ∷ [])) rs

-- ---- reads

-- a read in the group has the word held; nothing is asked of other records
pub data RightAt (lo hi : ℕ) (c : Cells) (done : List Record) : Record → Type 0 where
  of_other : {k : ℕ} {s : List ℕ} → RightAt lo hi c done (other k s)
  is_of_timed : {k t : ℕ} {s : List ℕ} → RightAt lo hi c done (timed k t s)
  is_of_stack : {t q d v : ℕ} → RightAt lo hi c done (stack t q d v)
  of_write : {t a v d : ℕ} → RightAt lo hi c done (ram t a v (suc d))
  of_outside : {t a v : ℕ} → inside lo hi a ≡ false → RightAt lo hi c done (ram t a v 0)
  of_read : {t a v : ℕ} → v ≡ wrote_of done a (held c a) → RightAt lo hi c done (ram t a v 0)

pub data WrongAt (lo hi : ℕ) (c : Cells) (done : List Record) : Record → Type 0 where
  of_read : {t a v : ℕ} → inside lo hi a ≡ true → (v ≡ wrote_of done a (held c a) → ⊥) → WrongAt lo hi c done (ram t a v 0)

-- records in a row
pub data Right (lo hi : ℕ) (c : Cells) : List Record → List Record → Type 0 where
  none : {done : List Record} → Right lo hi c done []
  more : {done : List Record} {r : Record} {rs : List Record} → RightAt lo hi c done r → Right lo hi c (done ++ (r ∷ [])) rs → Right lo hi c done (r ∷ rs)

-- what comes behind the records that are right: nothing, or a wrong read
pub data Stop (lo hi : ℕ) (c : Cells) (done : List Record) : List Record → Type 0 where
  at_end : Stop lo hi c done []
  at_wrong : {r : Record} {rs : List Record} → WrongAt lo hi c done r → Stop lo hi c done (r ∷ rs)

-- of the records rs those of `done` are right, and no more
pub record Came (lo hi : ℕ) (c : Cells) (rs done : List Record) : Type 0 where
  pub rest : List Record
  pub joined : rs ≡ done ++ rest
  pub right : Right lo hi c [] done
  pub stop : Stop lo hi c done rest

-- ---- addresses

abbrev pub no_cells : Cells
no_cells = cells 0 [] []

-- how many addresses of the group the records write to
unfoldable pub distinct_in : ℕ → ℕ → List Record → ℕ
distinct_in lo hi rs = cells_in lo hi no_cells [] rs
