-- What the buffer holds where records were written, and where none were. Assumes nothing.
use mathlib.Core.Path.{◌≡◌, refl, sym, subst}
use mathlib.Core.Bool.{Bool, true, false}
use mathlib.Core.List.{List}
use Prim.Native.Nat.{ℕ}
use native.Mathlib.Omega.{arith}
use Rattle.machine.specs.Records.{Record}
use Rattle.machine_log.specs.Logged.{Wrote, WroteAny}
use Rattle.machine_log.proofs.Logged.{logged_none, wrote_buffer, wrote-bytes}
use Rattle.machine_step.specs.RecordsView.{Recorded, RecordedAt}

pub recorded_some : {t : Bool} {v : ℕ} {b b2 : List ℕ} {rs us : List Record} {n r : ℕ} → t ≡ true → rs ≡ us → Wrote v b b2 0 rs n r → Recorded t v b b2 us r
recorded_some {t} {v} {b} {b2} {rs} {us} {n} {r} e f w =
    subst (λ (x : Bool). Recorded x v b b2 us r) (sym e)
    (subst (λ (x : List Record). Recorded true v b b2 x r) f (record { buffer = wrote_buffer w; bytes = wrote-bytes w }))

pub recorded-none : {t : Bool} {v : ℕ} {b : List ℕ} {rs : List Record} → t ≡ false → Recorded t v b b rs 0
recorded-none {t} {v} {b} {rs} e = subst (λ (x : Bool). Recorded x v b b rs 0) (sym e) (record { buffer = refl; bytes = refl })

pub moved_some : {t : Bool} {b b2 : List ℕ} {at : ℕ} {rs : List Record} {n r : ℕ} → t ≡ true → WroteAny b b2 at rs n r → RecordedAt t b b2 at rs r
moved_some {t} {b} {b2} {at} {rs} {n} {r} e w = subst (λ (x : Bool). RecordedAt x b b2 at rs r) (sym e) (record { buffer = λ v. (w.any v).is; place = λ v. omega (arith, (w.any v).size, w.end) })

pub moved_none : {t : Bool} {b : List ℕ} {at : ℕ} {rs : List Record} → t ≡ false → RecordedAt t b b at rs at
moved_none {t} {b} {at} {rs} e = subst (λ (x : Bool). RecordedAt x b b at rs at) (sym e) (record { buffer = λ v. logged_none b at; place = λ v. omega arith })
