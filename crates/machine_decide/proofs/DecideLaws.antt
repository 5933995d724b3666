-- What place A allows of arguments, that an opcode of no instruction is not decoded, and what an instruction is handed of a sound
-- machine. Assumes nothing.
use mathlib.Core.Path.{◌≡◌, refl, subst}
use mathlib.Core.Bool.{Bool, true, false}
use mathlib.Core.List.{List, [], ◌∷◌}
use Prim.Native.Nat.{ℕ, ◌≤◌, ◌<◌}
use native.Mathlib.Omega.{arith}
use borrow.Author.Tests.{ltb-false, eqb-true, eq-eqb, ne_eqb}
use mathlib.Core.Logic.{inl, inr}
use lib.Dec.{eqb, ltb}
use Rattle.choices.specs.Choice.{cond}
use Rattle.machine.specs.Instruction.{Row, words, place_of_stack, table, Decoded, known, unknown, decode_in, decode, argument_fault}
use Rattle.machine.specs.Machine.{Machine, ram, jump_top}
use Rattle.machine.specs.Sound.{Sound}
use Rattle.machine_ram.specs.RamView.{Usable}
use Rattle.machine_decide.specs.DecideView.{is_one, hashes, plain_alike, hash_alike, Shows, ShowsHash}
use Rattle.machine_decide.specs.declared.handed.Handed.{Handed}
use Rattle.machine_decide.specs.declared.handed.HandedHash.{HandedHash}
use Rattle.machine_isa.proofs.TableLaws.{OneOf, Rest}

pub words_allowed : (n : ℕ) → argument_fault words n ≡ 0 → n ≤ 5
words_allowed n e = go (ltb n 1) (ltb 5 n) refl e
  where
    go : (s t : Bool) → ltb 5 n ≡ t → ◌≡◌ {A = ℕ} (cond s 4 (cond t 4 0)) 0 → n ≤ 5
    go true t q h = absurd (omega arith)
    go false true q h = absurd (omega arith)
    go false false q h = ltb-false 5 n q

pub place_allowed : (n : ℕ) → argument_fault place_of_stack n ≡ 0 → n < 16
place_allowed n e = go (ltb 15 n) refl e
  where
    go : (t : Bool) → ltb 15 n ≡ t → ◌≡◌ {A = ℕ} (cond t 4 0) 0 → n < 16
    go true q h = absurd (omega arith)
    go false q h = omega (arith, ltb-false 15 n q)

-- ---- opcodes

row_opcode : (rs : List Row) (op : ℕ) (r : Row) → decode_in rs op ≡ known r → r.opcode ≡ op
row_opcode [] op r e = let z : ◌≡◌ {A = ℕ} 0 1 = cc in absurd (omega arith)
row_opcode (q ∷ rs) op r e = go (eqb q.opcode op) refl e (row_opcode rs op r)
  where
    go : (t : Bool) → eqb q.opcode op ≡ t → cond t (known q) (decode_in rs op) ≡ known r → (decode_in rs op ≡ known r → r.opcode ≡ op) → r.opcode ≡ op
    go true h k ih = let y : q ≡ r = cc in subst (λ (x : Row). x.opcode ≡ op) y (eqb-true q.opcode op h)
    go false h k ih = ih k

pub decoded_opcode : (op : ℕ) (r : Row) → decode op ≡ known r → r.opcode ≡ op
unfolding decode
decoded_opcode op r e = row_opcode table op r e

-- 1 where there is no instruction, or one that hashes
abbrev pub hashing_in : Decoded → ℕ
hashing_in unknown = 1
hashing_in (known r) = cond (hashes r.opcode) 1 0

pub undecoded : (op : ℕ) → hashing_in (decode op) ≡ 1 → hashes op ≡ false → decode op ≡ unknown
unfolding decode
undecoded op e h = go (decode_in table op) refl e
  where
    go : (d : Decoded) → decode_in table op ≡ d → hashing_in d ≡ 1 → d ≡ unknown
    go unknown q k = refl
    go (known r) q k =
        let o = row_opcode table op r q in
        let z : hashes r.opcode ≡ false = rw o h in
        let y : ◌≡◌ {A = ℕ} 0 1 = rw z at k in
        absurd (omega arith)

pub one_is : (ks : List ℕ) (x : ℕ) → OneOf x ks → is_one x ks ≡ true
one_is [] x h = absurd h
one_is (k ∷ []) x h = rw (eq-eqb x k h)
one_is (k ∷ l ∷ ks) x (inl h) = rw (eq-eqb x k h)
one_is (k ∷ l ∷ ks) x (inr h) = go (eqb x k) (one_is (l ∷ ks) x h)
  where
    go : (t : Bool) → is_one x (l ∷ ks) ≡ true → cond t true (is_one x (l ∷ ks)) ≡ true
    go true e = refl
    go false e = e

pub one_not : (ks : List ℕ) (x : ℕ) → (OneOf x ks → ⊥) → is_one x ks ≡ false
one_not [] x h = refl
one_not (k ∷ []) x h = rw (ne_eqb x k h)
one_not (k ∷ l ∷ ks) x h =
    let n : x ≡ k → ⊥ = λ e. h (inl e) in
    rw (ne_eqb x k n) (one_not (l ∷ ks) x (λ e. h (inr e)))

-- an opcode in none of the arms of the instructions that hash
pub not_hashing : (op : ℕ) → Rest op ((44 ∷ []) ∷ (36 ∷ []) ∷ (56 ∷ []) ∷ (48 ∷ []) ∷ (34 ∷ []) ∷ (40 ∷ []) ∷ (18 ∷ []) ∷ []) → hashes op ≡ false
unfolding hashes
not_hashing op (((((((u, a), b), c), d), e), f), g) =
    rw (ne_eqb op 18 a, ne_eqb op 34 c, ne_eqb op 36 f, ne_eqb op 40 b, ne_eqb op 44 g, ne_eqb op 48 d, ne_eqb op 56 e)

-- ---- RAM of a sound machine

pub sound-usable : (m : Machine) → Sound m → Usable (ram m)
sound-usable m s = record { ordered = record { within = s.cells.used; ascending = s.cells.ascending }; values = omega (arith, s.cells.used, s.cells.pair) }

-- ---- what machines show that are alike

pub shows_alike : (m : Machine) (h : Handed) (digests output : List ℕ) → Shows m h → Shows (plain_alike m digests output) h
unfolding jump_top
shows_alike m h digests output s =
    record { top = s.top; pointer = s.pointer; opcodes = s.opcodes; public = s.public; secret = s.secret; jump = s.jump; cells = s.cells }

pub shows-alike-hash : (m : Machine) (h : HandedHash) (arguments public secret origins destinations output : List ℕ) → ShowsHash m h →
    ShowsHash (hash_alike m arguments public secret origins destinations output) h
shows-alike-hash m h arguments public secret origins destinations output s = record { top = s.top; digests = s.digests; cells = s.cells }
