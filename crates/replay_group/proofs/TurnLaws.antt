-- A record for a group, by the fields that are read. Assumes nothing.
use mathlib.Core.Path.{◌≡◌, refl, sym, ◌∙◌}
use mathlib.Core.Bool.{Bool, true, false, not}
use native.Mathlib.Omega.{arith}
use mathlib.Core.List.{List}
use Prim.Native.Nat.{ℕ, zero, suc}
use borrow.Author.Tests.{ne_eqb, eqb-true, eqb-false}
use lib.Dec.{eqb, ltb}
use Rattle.choices.specs.Choice.{cond}
use Rattle.machine.specs.Ram.{Cells, held}
use Rattle.machine.specs.Records.{Record, ram, length_of, record_of}
use Rattle.machine_log.specs.Kinds.{kind_number}
use Rattle.machine_log.specs.declared.kinds.RecordKind.{RecordKind}
use Rattle.machine_log.specs.declared.kinds.RecordKind.TheVariants.{Reset, Tip5, U32, Stack, Ram as RamKind, TimedTip5, TimedU32}
use Rattle.replay_scan.specs.declared.record.Fields.{Fields}
use Rattle.replay_scan.specs.RecordView.{record_at, OfRam}
use Rattle.replay_scan.specs.Walk.{Log}
use Rattle.replay_table.specs.Group.{inside}
use Rattle.replay_table.specs.Table.{seen, Puts}
use Rattle.replay_table.specs.TableView.{Touches, by_other, by_timed, by_stack, by_outside, by_unchecked, by_right, by_wrong, by_write}

pub ram_long : (v : ℕ) → length_of v 5 ≡ 23
unfolding length_of
ram_long v = refl

pub other-kind : (k : RecordKind) → (k ≡ RamKind → ⊥) → kind_number k ≡ 5 → ⊥
other-kind Reset h e = omega arith
other-kind Tip5 h e = omega arith
other-kind U32 h e = omega arith
other-kind Stack h e = omega arith
other-kind RamKind h e = h refl
other-kind TimedTip5 h e = omega arith
other-kind TimedU32 h e = omega arith

module _ (b : Bool) (lo hi : ℕ) (c t l : Cells) where
  pub not-ram : (kind : ℕ) (s : List ℕ) → (kind ≡ 5 → ⊥) → Touches b lo hi c t l (record_of kind s) false t l
  unfolding record_of
  not-ram kind s h = rw (ne_eqb kind 5 h) (go (eqb kind 4) by_stack (go (ltb 5 kind) by_timed by_other))
    where
      go : (x : Bool) {q r : Record} → Touches b lo hi c t l q false t l → Touches b lo hi c t l r false t l → Touches b lo hi c t l (cond x q r) false t l
      go true f g = f
      go false f g = g

  module _ (s : Log) {at : ℕ} (kind : ℕ) (f : Fields) (k : kind ≡ 5) (o : OfRam s.bytes at f) where
    ram-is : record_at s at kind ≡ ram f.clock f.place f.value f.dir
    unfolding length_of
    ram-is = rw k o.is

    pub ram_outside : inside lo hi f.place ≡ false → Touches b lo hi c t l (record_at s at kind) false t l
    ram_outside e = rw ram-is (by_outside e)

    pub ram-write : {u m : Cells} → inside lo hi f.place ≡ true → (f.dir ≡ 0 → ⊥) → Puts t l f.place f.value u m → Touches b lo hi c t l (record_at s at kind) false u m
    ram-write {u} {m} e h p = rw ram-is (go f.dir h)
      where
        go : (d : ℕ) → (d ≡ 0 → ⊥) → Touches b lo hi c t l (ram f.clock f.place f.value d) false u m
        go zero h = absurd (h refl)
        go (suc d) h = by_write e p

    module _ (d : f.dir ≡ 0) where
      pub ram_unchecked : b ≡ false → Touches b lo hi c t l (record_at s at kind) false t l
      ram_unchecked e = rw (ram-is, d) (by_unchecked e)

      pub ram-right : f.value ≡ seen t l f.place (held c f.place) → inside lo hi f.place ≡ true → Touches b lo hi c t l (record_at s at kind) false t l
      ram-right h e = rw (ram-is, d) (by_right h e)

      pub ram-wrong : b ≡ true → inside lo hi f.place ≡ true → (f.value ≡ seen t l f.place (held c f.place) → ⊥) → Touches b lo hi c t l (record_at s at kind) true t l
      ram-wrong h e n = rw (ram-is, d) (by_wrong h e n)

      -- a read that is looked at
      pub ram-read : (word : ℕ) → b ≡ true → inside lo hi f.place ≡ true → word ≡ seen t l f.place (held c f.place) → Touches b lo hi c t l (record_at s at kind) (not (eqb f.value word)) t l
      ram-read word h e w = go (eqb f.value word) refl
        where
          go : (x : Bool) → eqb f.value word ≡ x → Touches b lo hi c t l (record_at s at kind) (not x) t l
          go true q = ram-right (eqb-true f.value word q ∙ w) e
          go false q = ram-wrong h e (λ z. eqb-false f.value word q (z ∙ sym w))
