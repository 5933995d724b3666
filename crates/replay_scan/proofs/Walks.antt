-- The records between two places of a log. Assumes nothing.
use mathlib.Core.Path.{◌≡◌, refl, sym, ap, subst, ◌∙◌}
use mathlib.Core.Bool.{Bool, true, false}
use mathlib.Core.List.{List, [], ◌∷◌, ◌++◌}
use Prim.Native.Nat.{ℕ, ◌+◌, ◌-◌, ◌≤◌, ◌<◌}
use native.Mathlib.Omega.{arith}
use borrow.Author.Tests.{ltb-true, ltb-false}
use lib.ListN.{length, drop, length-drop, drop_of_length-le}
use lib.Dec.{ltb}
use Rattle.machine.specs.Records.{Record, found, parse}
use Rattle.replay_scan.specs.Walk.{Log, parse_at, Walk}

pub walk_within : {s : Log} {i k : ℕ} {rs : List Record} → Walk s i k rs → i ≤ k
walk_within Walk.none = omega arith
walk_within (Walk.more n e p l w) = omega arith

pub walk-append : {s : Log} {i k : ℕ} {rs : List Record} (n : ℕ) {r : Record} → Walk s i k rs → parse_at s k ≡ found r (drop (k + n) s.bytes) → 0 < n → Walk s i (k + n) (rs ++ (r ∷ []))
walk-append {k = k} n Walk.none e h = let l : k + n ≤ k + n = omega arith in Walk.more n e h l Walk.none
walk-append {i = i} {k = k} n (Walk.more m f p l w) e h = let x : i + m ≤ k + n = omega arith in Walk.more m f p x (walk-append n w e h)

-- nothing stands past the end
walk_past : {s : Log} {i k : ℕ} {rs : List Record} → Walk s i k rs → length s.bytes ≤ i → rs ≡ []
unfolding parse
walk_past Walk.none h = refl
walk_past {s} (Walk.more n e p l w) h =
    let y = rw (drop_of_length-le s.bytes h) at e in
    let z : ◌≡◌ {A = ℕ} 0 1 = cc y in absurd (omega arith)

same_length : (s : List ℕ) (a b : ℕ) → drop a s ≡ drop b s → length s - a ≡ length s - b
same_length s a b e = sym (length-drop a s) ∙ ap length e ∙ length-drop b s

-- two walks that read the same bytes behind their first records have the same records behind them
walk-rest : {s : Log} {a b to : ℕ} {rs ss : List Record} → (Walk s a to ss → rs ≡ ss) → Walk s a to rs → Walk s b to ss → length s.bytes - a ≡ length s.bytes - b → rs ≡ ss
walk-rest {s} {a} {b} {to} {rs} {ss} ih w v z = go (ltb a (length s.bytes)) refl
  where
    go : (t : Bool) → ltb a (length s.bytes) ≡ t → rs ≡ ss
    go true e =
        let l : a < length s.bytes = ltb-true a (length s.bytes) e in
        let q : a ≡ b = omega arith in
        ih (rw q v)
    go false e =
        let l : length s.bytes ≤ a = ltb-false a (length s.bytes) e in
        let k : length s.bytes ≤ b = omega arith in
        walk_past w l ∙ sym (walk_past v k)

walks-alike : {s : Log} {i k j to : ℕ} {rs ss : List Record} → Walk s i k rs → Walk s j to ss → i ≡ j → k ≡ to → rs ≡ ss
walks-alike Walk.none Walk.none g h = refl
walks-alike Walk.none (Walk.more n e p l w) g h = absurd (omega (arith, walk_within w))
walks-alike (Walk.more n e p l w) Walk.none g h = absurd (omega (arith, walk_within w))
walks-alike {s} {i} {k} {j} {to} (Walk.more n {r = r} {rs = rs} e p l w) (Walk.more m {r = q} {rs = ss} f o t v) g h =
    let x : r ≡ q = cc in
    let y : drop (i + n) s.bytes ≡ drop (j + m) s.bytes = cc in
    let u : Walk s (j + m) k ss = subst (λ (z : ℕ). Walk s (j + m) z ss) (sym h) v in
    let z : rs ≡ ss = walk-rest (λ u. walks-alike w u refl refl) w u (same_length s.bytes (i + n) (j + m) y) in
    ap (λ (h : Record). h ∷ rs) x ∙ ap (λ (t : List Record). q ∷ t) z

-- the records between two places are these and no others
pub walk_same : {s : Log} {i k : ℕ} {rs ss : List Record} → Walk s i k rs → Walk s i k ss → rs ≡ ss
walk_same w v = walks-alike w v refl refl
