-- Records none of which is of RAM: every read is right, no cell is taken, and none is written. Assumes nothing.
use mathlib.Core.Path.{◌≡◌, refl, ap, ◌∙◌}
use mathlib.Core.Bool.{Bool, false}
use mathlib.Core.List.{List, [], ◌∷◌, ◌++◌}
use Prim.Native.Nat.{ℕ}
use native.Mathlib.Omega.{arith}
use Rattle.machine.specs.Words.{p}
use Rattle.machine.specs.Ram.{Cells}
use Rattle.machine.specs.Records.{Record, other, timed, stack, ram}
use Rattle.replay.specs.LastWrite.{wrote_all}
use Rattle.replay_scan.specs.declared.scan.Scan.{Scan}
use Rattle.replay_scan.specs.Walk.{Log}
use Rattle.replay_scan.specs.Scan.{Scanned, ram_in}
use Rattle.replay_table.specs.Group.{Right, of_other, is_of_timed, is_of_stack, new_in, cells_in}
use Rattle.replay_table.specs.Group as G
use Rattle.replay_group.specs.Decided.{passes, Scans, Rebuilds}
use Rattle.replay_calls.specs.Quiet.{Quiet}
use Rattle.replay_scan.proofs.Walks.{walk_same}

right-quiet : (lo hi : ℕ) (c : Cells) (done rs : List Record) → ram_in rs ≡ 0 → Right lo hi c done rs
unfolding ram_in
right-quiet lo hi c done [] h = G.none
right-quiet lo hi c done (other k s ∷ rs) h = G.more of_other (right-quiet lo hi c (done ++ (other k s ∷ [])) rs h)
right-quiet lo hi c done (timed k t s ∷ rs) h = G.more is_of_timed (right-quiet lo hi c (done ++ (timed k t s ∷ [])) rs h)
right-quiet lo hi c done (stack t q d v ∷ rs) h = G.more is_of_stack (right-quiet lo hi c (done ++ (stack t q d v ∷ [])) rs h)
right-quiet lo hi c done (ram t a v d ∷ rs) h = absurd (omega arith)

cells-quiet : (lo hi : ℕ) (c : Cells) (done rs : List Record) → ram_in rs ≡ 0 → cells_in lo hi c done rs ≡ 0
unfolding ram_in cells_in new_in
cells-quiet lo hi c done [] h = refl
cells-quiet lo hi c done (other k s ∷ rs) h = omega (arith, cells-quiet lo hi c (done ++ (other k s ∷ [])) rs h)
cells-quiet lo hi c done (timed k t s ∷ rs) h = omega (arith, cells-quiet lo hi c (done ++ (timed k t s ∷ [])) rs h)
cells-quiet lo hi c done (stack t q d v ∷ rs) h = omega (arith, cells-quiet lo hi c (done ++ (stack t q d v ∷ [])) rs h)
cells-quiet lo hi c done (ram t a v d ∷ rs) h = absurd (omega arith)

wrote-quiet : (c : Cells) (rs : List Record) → ram_in rs ≡ 0 → c ≡ wrote_all c rs
unfolding ram_in wrote_all
wrote-quiet c [] h = refl
wrote-quiet c (other k s ∷ rs) h = wrote-quiet c rs h
wrote-quiet c (timed k t s ∷ rs) h = wrote-quiet c rs h
wrote-quiet c (stack t q d v ∷ rs) h = wrote-quiet c rs h
wrote-quiet c (ram t a v d ∷ rs) h = absurd (omega arith)

-- the scan's number stays, and the cells
pub rebuilt-quiet : {log : Log} {to number : ℕ} {some : Bool} {c : Cells} → Scans log to c → Quiet log to some → some ≡ false → Rebuilds log to number c number c
rebuilt-quiet {c = c} s q e =
    record {
      decides =
          record {
            decided =
                λ rs w.
                let n = q.none e rs w in
                passes (right-quiet 0 p c [] rs n) (omega (arith, cells-quiet 0 p c [] rs n, s.sorted.usable.ordered.within));
          };
      written = λ z. record { is = λ rs w. wrote-quiet c rs (q.none e rs w) };
      kept = λ z. refl;
    }

pub scan_quiet : {log : Log} {s after : List ℕ} {j : ℕ} {r : Scan} → Scanned log s j after r → Quiet log r.end r.ram
scan_quiet h = record { none = λ e rs w. ap ram_in (walk_same w h.walk) ∙ h.quiet e }
