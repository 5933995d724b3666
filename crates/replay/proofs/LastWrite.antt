-- The word held after records is that of their last write to the address, else the opening's; and so for whether there is
-- a cell, and for the cells. Assumes nothing.
use mathlib.Core.Path.{◌≡◌, refl, sym, ◌∙◌}
use mathlib.Core.List.{List, ◌∷◌}
use Prim.Native.Nat.{ℕ, zero, suc, ◌≤◌}
use native.Mathlib.Omega.{arith}
use lib.ListN.{length}
use Rattle.machine.specs.Ram.{Cells, held, has, stored}
use Rattle.machine.specs.Records.{Record, other, timed, stack, ram}
use Rattle.choices.proofs.Choice.{first-nil, above-nil}
use Rattle.machine.proofs.RamLaws.{stored_addresses, stored_values, held-stored, has-stored}
use Rattle.replay.specs.Replay.{Built, stack_turn, ram_turn, ram_fault, goes, read_of}
use Rattle.replay.specs.LastWrite.{wrote_of, had_of, wrote_all}
use Rattle.replay.proofs.Verdicts.{Reads, none, more, judged-went}

-- what one record that is read does to the cells
pub data Turned (c : Cells) : Record → Cells → Type 0 where
  by_other : {k : ℕ} {s : List ℕ} → Turned c (other k s) c
  by_timed : {k t : ℕ} {s : List ℕ} → Turned c (timed k t s) c
  by_stack : {t q d v : ℕ} → Turned c (stack t q d v) c
  by_read : {t a v : ℕ} → Turned c (ram t a v 0) c
  by_write : {t a v d : ℕ} → (stored c a v).count ≤ length c.addresses → Turned c (ram t a v (suc d)) (stored c a v)

pub turned : (j : ℕ) (b c : Built) (r : Record) → read_of j b r ≡ goes c → Turned b.cells r c.cells
unfolding read_of ram_turn stack_turn ram_fault
turned j b c (other k s) e = let y : b ≡ c = cc in rw (← y) by_other
turned j b c (timed k t s) e = rw (← (judged-went j t _ _ c e).1) by_timed
turned j b c (stack t q zero v) e = rw (← (judged-went j t _ _ c e).1) by_stack
turned j b c (stack t q (suc d) v) e = rw (← (judged-went j t _ _ c e).1) by_stack
turned j b c (ram t a v zero) e = rw (← (judged-went j t _ _ c e).1) by_read
turned j b c (ram t a v (suc d)) e =
    let k = judged-went j t _ _ c e in
    let x = first-nil _ _ (first-nil _ _ k.0).1 in
    rw (← k.1) (by_write (above-nil _ _ 44 (omega arith) (first-nil _ _ x.1).1))

-- ---- one record

module _ (rs : List Record) (a : ℕ) where
  wrote_one : {k m : Cells} {x : Record} → Turned k x m → length k.addresses ≡ length k.values → wrote_of rs a (held m a) ≡ wrote_of (x ∷ rs) a (held k a)
  unfolding wrote_of
  wrote_one by_other p = refl
  wrote_one by_timed p = refl
  wrote_one by_stack p = refl
  wrote_one by_read p = refl
  wrote_one {k} (by_write {a = b} {v = v} r) p = rw (held-stored k b v r p a)

  had_one : {k m : Cells} {x : Record} → Turned k x m → length k.addresses ≡ length k.values → had_of rs a (has m a) ≡ had_of (x ∷ rs) a (has k a)
  unfolding had_of
  had_one by_other p = refl
  had_one by_timed p = refl
  had_one by_stack p = refl
  had_one by_read p = refl
  had_one {k} (by_write {a = b} {v = v} r) p = rw (has-stored k b v r p a)

all_one : {k m : Cells} {x : Record} (rs : List Record) → Turned k x m → wrote_all m rs ≡ wrote_all k (x ∷ rs)
unfolding wrote_all
all_one rs by_other = refl
all_one rs by_timed = refl
all_one rs by_stack = refl
all_one rs by_read = refl
all_one rs (by_write r) = refl

turned-room : {k m : Cells} {x : Record} → Turned k x m → length m.addresses ≡ length k.addresses
turned-room by_other = refl
turned-room by_timed = refl
turned-room by_stack = refl
turned-room by_read = refl
turned-room {k} (by_write {a = b} {v = v} r) = stored_addresses k b v

turned_pair : {k m : Cells} {x : Record} → Turned k x m → length k.addresses ≡ length k.values → length m.addresses ≡ length m.values
turned_pair by_other p = p
turned_pair by_timed p = p
turned_pair by_stack p = p
turned_pair by_read p = p
turned_pair {k} (by_write {a = b} {v = v} r) p = stored_addresses k b v ∙ p ∙ sym (stored_values k b v)

-- ---- records in a row

-- all that the cells d say after the records rs, from the opening's cells c and the records
pub record SinceOpen (c : Cells) (rs : List Record) (d : Cells) : Type 0 where
  pub held_is : (a : ℕ) → held d a ≡ wrote_of rs a (held c a)
  pub has_is : (a : ℕ) → has d a ≡ had_of rs a (has c a)
  pub is : d ≡ wrote_all c rs
  pub room : length d.addresses ≡ length c.addresses
  pub pair : length d.addresses ≡ length d.values

pub cells-after : {j : ℕ} {b c : Built} {rs : List Record} → Reads j b rs c → length b.cells.addresses ≡ length b.cells.values → SinceOpen b.cells rs c.cells
unfolding wrote_of had_of wrote_all
cells-after none p = record { held_is = λ a. refl; has_is = λ a. refl; is = refl; room = refl; pair = p }
cells-after {j} {b} (more {c = c} {r = r} {rs = rs} e h) p =
    let t = turned j b c r e in
    let k = cells-after h (turned_pair t p) in
    record {
      held_is = λ a. k.held_is a ∙ wrote_one rs a t p;
      has_is = λ a. k.has_is a ∙ had_one rs a t p;
      is = k.is ∙ all_one rs t;
      room = k.room ∙ turned-room t;
      pair = k.pair;
    }
