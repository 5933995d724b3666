-- RAM after an instruction's calls: its size, that it stays sound, and that it holds the last word written. Assumes nothing.
use mathlib.Core.Path.{◌≡◌, refl, sym, ◌∙◌}
use mathlib.Core.List.{List, [], ◌∷◌}
use Prim.Native.Nat.{ℕ, ◌≤◌, ◌<◌}
use native.Mathlib.Omega.{arith}
use lib.ListN.{length}
use lib.Dec.{eqb}
use Rattle.field.specs.Base.{p}
use Rattle.choices.specs.Choice.{cond}
use Rattle.machine.specs.Ram.{Cells, held, stored, Alike}
use Rattle.machine.specs.Effect.{Call, reset, tip5, u32, ram_read, ram_write}
use Rattle.machine.specs.Apply.{touched}
use Rattle.machine.specs.Sound.{SoundCells, Honest}
use Rattle.machine.proofs.RamLaws.{stored_more, stored_addresses, stored_values, stored-words, stored_addresses_words, stored-ascending, held-stored, alike-stored}

pub touched-more : (cs : List Call) (c : Cells) → c.count ≤ (touched c cs).count
unfolding touched
touched-more [] c = omega arith
touched-more (reset ∷ cs) c = touched-more cs c
touched-more (tip5 o t ∷ cs) c = touched-more cs c
touched-more (u32 o l r ∷ cs) c = touched-more cs c
touched-more (ram_read a v ∷ cs) c = touched-more cs c
touched-more (ram_write a v ∷ cs) c = omega (arith, touched-more cs (stored c a v), stored_more c a v)

pub touched_addresses : (cs : List Call) (c : Cells) → length (touched c cs).addresses ≡ length c.addresses
unfolding touched
touched_addresses [] c = refl
touched_addresses (reset ∷ cs) c = touched_addresses cs c
touched_addresses (tip5 o t ∷ cs) c = touched_addresses cs c
touched_addresses (u32 o l r ∷ cs) c = touched_addresses cs c
touched_addresses (ram_read a v ∷ cs) c = touched_addresses cs c
touched_addresses (ram_write a v ∷ cs) c = touched_addresses cs (stored c a v) ∙ stored_addresses c a v

pub touched_values : (cs : List Call) (c : Cells) → length (touched c cs).values ≡ length c.values
unfolding touched
touched_values [] c = refl
touched_values (reset ∷ cs) c = touched_values cs c
touched_values (tip5 o t ∷ cs) c = touched_values cs c
touched_values (u32 o l r ∷ cs) c = touched_values cs c
touched_values (ram_read a v ∷ cs) c = touched_values cs c
touched_values (ram_write a v ∷ cs) c = touched_values cs (stored c a v) ∙ stored_values c a v

pub touched-alike : (cs : List Call) {c d : Cells} → Alike c d → Alike (touched c cs) (touched d cs)
unfolding touched
touched-alike [] h = h
touched-alike (reset ∷ cs) h = touched-alike cs h
touched-alike (tip5 o t ∷ cs) h = touched-alike cs h
touched-alike (u32 o l r ∷ cs) h = touched-alike cs h
touched-alike (ram_read a v ∷ cs) h = touched-alike cs h
touched-alike (ram_write a v ∷ cs) h = touched-alike cs (alike-stored h a v)

-- the room that a write needs, from the room that all calls need
first_fits : (c : Cells) (a v : ℕ) (cs : List Call) → (touched (stored c a v) cs).count ≤ length c.addresses → (stored c a v).count ≤ length c.addresses
first_fits c a v cs h = omega (arith, touched-more cs (stored c a v))

-- ---- sound cells stay sound

pub stored-sound : {c : Cells} (a v : ℕ) → a < p → v < p → (stored c a v).count ≤ length c.addresses → SoundCells c → SoundCells (stored c a v)
stored-sound {c} a v h k r s =
    let x = stored_addresses c a v in
    let y = stored_values c a v in
    record {
      pair = x ∙ s.pair ∙ sym y;
      few = rw x s.few;
      used = rw x r;
      addresses = stored_addresses_words c a v h r s.addresses;
      values = stored-words c a v k (omega (arith, s.pair)) s.values;
      ascending = stored-ascending c a v r s.pair s.ascending;
    }

pub touched-sound : {c : Cells} {cs : List Call} → Honest c cs → (touched c cs).count ≤ length c.addresses → SoundCells c → SoundCells (touched c cs)
unfolding touched
touched-sound Honest.none f s = s
touched-sound (Honest.resets g) f s = touched-sound g f s
touched-sound (Honest.traces _ g) f s = touched-sound g f s
touched-sound (Honest.u32s g) f s = touched-sound g f s
touched-sound (Honest.reads _ _ _ g) f s = touched-sound g f s
touched-sound {c} (Honest.writes {cs = cs} {a = a} {v = v} h k g) f s =
    touched-sound g (rw (stored_addresses c a v) f) (stored-sound a v h k (first_fits c a v cs f) s)

-- ---- the word held is that of the last write to its address, else the word before

-- the last word that the calls write to the address a, x where they write none
unfoldable pub wrote_of : List Call → ℕ → ℕ → ℕ
wrote_of [] a x = x
wrote_of (reset ∷ cs) a x = wrote_of cs a x
wrote_of (tip5 o t ∷ cs) a x = wrote_of cs a x
wrote_of (u32 o l r ∷ cs) a x = wrote_of cs a x
wrote_of (ram_read b v ∷ cs) a x = wrote_of cs a x
wrote_of (ram_write b v ∷ cs) a x = wrote_of cs a (cond (eqb a b) v x)

pub held-touched : (cs : List Call) (c : Cells) → (touched c cs).count ≤ length c.addresses → length c.addresses ≡ length c.values → (a : ℕ) → held (touched c cs) a ≡ wrote_of cs a (held c a)
unfolding touched wrote_of
held-touched [] c f u a = refl
held-touched (reset ∷ cs) c f u a = held-touched cs c f u a
held-touched (tip5 o t ∷ cs) c f u a = held-touched cs c f u a
held-touched (u32 o l r ∷ cs) c f u a = held-touched cs c f u a
held-touched (ram_read b v ∷ cs) c f u a = held-touched cs c f u a
held-touched (ram_write b v ∷ cs) c f u a =
    let x = stored_addresses c b v in
    held-touched cs (stored c b v) (rw x f) (x ∙ u ∙ sym (stored_values c b v)) a ∙ rw (held-stored c b v (first_fits c b v cs f) u a)
