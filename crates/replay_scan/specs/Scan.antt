-- Replay without RAM's words: frames, clocks, fields and the stack. Of a RAM record only what it says by itself is looked at.
use Rattle.std.specs.Prelude.{◌≡◌, false, List, [], ◌∷◌, ℕ, zero, suc, ◌<◌, ◌≤◌, length}
use Rattle.choices.specs.Choice.{first_of}
use Rattle.machine.specs.Words.{p}
use Rattle.machine.specs.Ram.{Cells}
use Rattle.machine.specs.Records.{Record, other, timed, stack, ram, Parsed, ended, broken, found}
use Rattle.replay_scan.specs.declared.scan.Scan.{Scan}
use Rattle.replay_scan.specs.FaultView.{fault_or_0}
use Rattle.replay.specs.Replay.{Tally, tally_at, with_ram, Built, built, started, fields40, clock41, ram45, stack_fault, stack_turn, Verdict, stops, wrong, goes, judged}
use Rattle.replay_scan.specs.Walk.{Log, parse_at, Walk}

-- 45 of a RAM write
unfoldable pub write45 : Tally → ℕ → ℕ → ℕ
write45 n t zero = 0
write45 n t (suc d) = ram45 n t

-- read_of without what needs RAM's words, or comes behind that: 43 and 45 of a RAM read, 44 of a write, and the write itself
unfoldable pub rest_of : ℕ → Built → Record → Verdict
rest_of j b (other k s) = goes b
rest_of j b (timed k t s) = judged j t (clock41 b.counts t) (built (tally_at b.counts t) b.depth b.words b.cells)
rest_of j b (stack t q d v) = judged j t (first_of (fields40 d q v) (first_of (clock41 b.counts t) (stack_fault b t q d v))) (stack_turn b t d v)
rest_of j b (ram t a v d) = judged j t (first_of (fields40 d a v) (first_of (clock41 b.counts t) (write45 b.counts t d))) (built (with_ram b.counts t) b.depth b.words b.cells)

-- 45 of a RAM read: the scan then ends behind it, since 43 of the same read comes before
unfoldable pub over45 : Tally → Record → ℕ
over45 n (other k s) = 0
over45 n (timed k t s) = 0
over45 n (stack t q d v) = 0
over45 n (ram t a v zero) = ram45 n t
over45 n (ram t a v (suc d)) = 0

-- a row of records that go on; 45 behind it where its last one is a RAM read too many, else 0
pub data Rests (j : ℕ) : Built → List Record → Built → ℕ → Type 0 where
  none : {b : Built} → Rests j b [] b 0
  more : {b c d : Built} {r : Record} {rs : List Record} {n : ℕ} → rest_of j b r ≡ goes c → over45 b.counts r ≡ 0 → Rests j c rs d n → Rests j b (r ∷ rs) d n
  last : {b c : Built} {r : Record} {n : ℕ} → rest_of j b r ≡ goes c → over45 b.counts r ≡ n → (n ≡ 0 → ⊥) → Rests j b (r ∷ []) c n

-- a RAM record has words for address and value, and a direction of 0 or 1
pub data Fine : Record → Type 0 where
  of_other : {k : ℕ} {s : List ℕ} → Fine (other k s)
  is_of_timed : {k t : ℕ} {s : List ℕ} → Fine (timed k t s)
  is_of_stack : {t q d v : ℕ} → Fine (stack t q d v)
  is_of_ram : {t a v d : ℕ} → a < p → v < p → d ≤ 1 → Fine (ram t a v d)

pub data Fines : List Record → Type 0 where
  none : Fines []
  more : {r : Record} {rs : List Record} → Fine r → Fines rs → Fines (r ∷ rs)

-- how many records are of RAM
unfoldable pub ram_in : List Record → ℕ
ram_in [] = 0
ram_in (other k s ∷ rs) = ram_in rs
ram_in (timed k t s ∷ rs) = ram_in rs
ram_in (stack t q d v ∷ rs) = ram_in rs
ram_in (ram t a v d ∷ rs) = suc (ram_in rs)

-- why it ends at a place whose bytes give t, and its number then; m is what the row before has behind it
pub data Ends (j : ℕ) (b : Built) (t : Parsed) : ℕ → ℕ → Type 0 where
  at_end : t ≡ ended → Ends j b t 0 0
  at_break : t ≡ broken → Ends j b t 0 40
  at_stop : {r : Record} {u : List ℕ} → t ≡ found r u → rest_of j b r ≡ stops → Ends j b t 0 0
  at_fault : {n : ℕ} {r : Record} {u : List ℕ} → t ≡ found r u → rest_of j b r ≡ wrong n → Ends j b t 0 n
  at_over : {m : ℕ} → (m ≡ 0 → ⊥) → Ends j b t m m

-- a scan of a log up to clock j, with a stack slice s that is `after` then: the records before its end go on, whatever the
-- cells are
pub record Scanned (log : Log) (s : List ℕ) (j : ℕ) (after : List ℕ) (r : Scan) : Type 0 where
  pub records : List Record
  pub counts : Tally
  pub over : ℕ
  pub walk : Walk log 0 r.end records
  pub inside : r.end ≤ length log.bytes
  pub fine : Fines records
  pub rests : (c : Cells) → Rests j (started s c) records (built counts r.depth after c) over
  pub quiet : r.ram ≡ false → ram_in records ≡ 0
  pub ends : (c : Cells) → Ends j (built counts r.depth after c) (parse_at log r.end) over (fault_or_0 r.fault)
