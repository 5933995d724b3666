-- Right reads and new cells: for one record more, for the first part of a row, for two groups that stand side by side, and
-- for the opening's cells seen through a table. Assumes nothing.
use mathlib.Core.Path.{◌≡◌, refl, sym, ap, ◌∙◌}
use mathlib.Core.Bool.{Bool, true, false}
use mathlib.Core.List.{List, [], ◌∷◌, ◌++◌, append_assoc, append-nil}
use Prim.Native.Nat.{ℕ, zero, suc, ◌+◌, ◌≤◌, ◌<◌}
use native.Mathlib.Omega.{arith}
use borrow.Author.Tests.{ne_eqb, lt-ltb, le-ltb, ltb-true, ltb-false}
use lib.ListN.{length}
use lib.Dec.{eqb, ltb}
use Rattle.choices.specs.Choice.{cond}
use Rattle.machine.specs.Ram.{Cells, has}
use Rattle.machine.specs.Records.{Record, other, timed, stack, ram}
use Rattle.replay.specs.LastWrite.{had_of}
use Rattle.replay_table.specs.Group.{inside, new_in, cells_in, RightAt, of_other, is_of_timed, is_of_stack, of_write, of_outside, WrongAt, Right, none, more, Stop, at_end, at_wrong}

-- ---- inside

pub apart : true ≡ false → ⊥
apart e = let z : ◌≡◌ {A = ℕ} 0 1 = cc in omega arith

pub inside_true : (lo hi a : ℕ) → inside lo hi a ≡ true → (lo ≤ a) × (a < hi)
unfolding inside
inside_true lo hi a e = go (ltb a lo) refl e
  where
    go : (t : Bool) → ltb a lo ≡ t → cond t false (ltb a hi) ≡ true → (lo ≤ a) × (a < hi)
    go true q h = let z : ◌≡◌ {A = ℕ} 0 1 = cc in absurd (omega arith)
    go false q h = (ltb-false a lo q, ltb-true a hi h)

pub inside_in : (lo hi a : ℕ) → lo ≤ a → a < hi → inside lo hi a ≡ true
unfolding inside
inside_in lo hi a l h = rw (le-ltb a lo l, lt-ltb a hi h)

pub inside-below : (lo hi a : ℕ) → a < lo → inside lo hi a ≡ false
unfolding inside
inside-below lo hi a l = rw (lt-ltb a lo l)

pub inside-above : (lo hi a : ℕ) → hi ≤ a → inside lo hi a ≡ false
unfolding inside
inside-above lo hi a l = go (ltb a lo)
  where
    go : (t : Bool) → cond t false (ltb a hi) ≡ false
    go true = refl
    go false = le-ltb a hi l

pub other_address : (lo hi a b : ℕ) → inside lo hi a ≡ true → inside lo hi b ≡ false → eqb a b ≡ false
other_address lo hi a b e f = ne_eqb a b (λ z. apart (sym e ∙ ap (inside lo hi) z ∙ f))

-- two groups side by side
module _ (lo mid hi : ℕ) (l : lo ≤ mid) (h : mid ≤ hi) where
  pub wider_left : (a : ℕ) → inside lo mid a ≡ true → inside lo hi a ≡ true
  wider_left a e =
      let k = inside_true lo mid a e in
      inside_in lo hi a k.0 (omega arith)

  pub wider_right : (a : ℕ) → inside mid hi a ≡ true → inside lo hi a ≡ true
  wider_right a e =
      let k = inside_true mid hi a e in
      inside_in lo hi a (omega arith) k.1

  pub outside_both : (a : ℕ) → inside lo mid a ≡ false → inside mid hi a ≡ false → inside lo hi a ≡ false
  outside_both a e f = go (ltb a lo) refl
    where
      up : (t : Bool) → ltb a hi ≡ t → lo ≤ a → inside lo hi a ≡ false
      up true q k = middle (ltb a mid) refl
        where
          middle : (t : Bool) → ltb a mid ≡ t → inside lo hi a ≡ false
          middle true r = absurd (apart (sym (inside_in lo mid a k (ltb-true a mid r)) ∙ e))
          middle false r = absurd (apart (sym (inside_in mid hi a (ltb-false a mid r) (ltb-true a hi q)) ∙ f))
      up false q k = inside-above lo hi a (ltb-false a hi q)

      go : (t : Bool) → ltb a lo ≡ t → inside lo hi a ≡ false
      go true q = inside-below lo hi a (ltb-true a lo q)
      go false q = up (ltb a hi) refl (ltb-false a lo q)

  -- a number for the addresses of a group
  join_one : (a n : ℕ) → cond (inside lo mid a) n 0 + cond (inside mid hi a) n 0 ≡ cond (inside lo hi a) n 0
  join_one a n = go (inside lo mid a) (inside mid hi a) refl refl
    where
      go : (t u : Bool) → inside lo mid a ≡ t → inside mid hi a ≡ u → cond t n 0 + cond u n 0 ≡ cond (inside lo hi a) n 0
      go true true e f =
          let x = inside_true lo mid a e in
          let y = inside_true mid hi a f in
          absurd (omega arith)
      go true false e f = rw (wider_left a e) (omega arith)
      go false true e f = rw (wider_right a f) (omega arith)
      go false false e f = rw (outside_both a e f)

  -- ---- reads

  right-both-at : {c : Cells} {done : List Record} {r : Record} → RightAt lo mid c done r → RightAt mid hi c done r → RightAt lo hi c done r
  right-both-at of_other y = of_other
  right-both-at is_of_timed y = is_of_timed
  right-both-at is_of_stack y = is_of_stack
  right-both-at of_write y = of_write
  right-both-at (RightAt.of_read e) y = RightAt.of_read e
  right-both-at (of_outside {a = a} e) (of_outside f) = of_outside (outside_both a e f)
  right-both-at (of_outside e) (RightAt.of_read f) = RightAt.of_read f

  pub right-both : {c : Cells} {done rs : List Record} → Right lo mid c done rs → Right mid hi c done rs → Right lo hi c done rs
  right-both none y = none
  right-both (more x xs) (more y ys) = more (right-both-at x y) (right-both xs ys)

  wrong-left : {c : Cells} {done : List Record} {r : Record} → WrongAt lo mid c done r → WrongAt lo hi c done r
  wrong-left (WrongAt.of_read {a = a} e n) = WrongAt.of_read (wider_left a e) n

  pub stop-right : {c : Cells} {done : List Record} {r : Record} → WrongAt mid hi c done r → WrongAt lo hi c done r
  stop-right (WrongAt.of_read {a = a} e n) = WrongAt.of_read (wider_right a e) n

  pub stop-left : {c : Cells} {done rest : List Record} → Stop lo mid c done rest → Stop lo hi c done rest
  stop-left at_end = at_end
  stop-left (at_wrong w) = at_wrong (wrong-left w)

  -- ---- new cells

  new_both : (c : Cells) (done : List Record) (r : Record) → new_in lo mid c done r + new_in mid hi c done r ≡ new_in lo hi c done r
  unfolding new_in
  new_both c done (other k s) = refl
  new_both c done (timed k t s) = refl
  new_both c done (stack t q d v) = refl
  new_both c done (ram t a v zero) = refl
  new_both c done (ram t a v (suc d)) = join_one a (cond (had_of done a (has c a)) 0 1)

  pub cells-both : (c : Cells) (done rs : List Record) → cells_in lo mid c done rs + cells_in mid hi c done rs ≡ cells_in lo hi c done rs
  unfolding cells_in
  cells-both c done [] = refl
  cells-both c done (r ∷ rs) = omega (arith, new_both c done r, cells-both c (done ++ (r ∷ [])) rs)

-- ---- rows put together, and their first parts

module _ {lo hi : ℕ} {c : Cells} where
  pub right_snoc : {done xs : List Record} {r : Record} → Right lo hi c done xs → RightAt lo hi c (done ++ xs) r → Right lo hi c done (xs ++ (r ∷ []))
  right_snoc none y = more (rw append-nil at y) none
  right_snoc {done} {r = r} (more {r = x} {rs = xs} h k) y = more h (right_snoc {r = r} k (rw (append_assoc done (x ∷ []) xs) y))

  pub right-first : {done : List Record} (xs ys : List Record) → Right lo hi c done (xs ++ ys) → Right lo hi c done xs
  right-first [] ys h = none
  right-first (x ∷ xs) ys (more h k) = more h (right-first xs ys k)

-- what is right for a group is right for a smaller one
module _ (lo mid hi : ℕ) (h : mid ≤ hi) {c : Cells} where
  right-less-at : {done : List Record} {r : Record} → RightAt lo hi c done r → RightAt lo mid c done r
  right-less-at of_other = of_other
  right-less-at is_of_timed = is_of_timed
  right-less-at is_of_stack = is_of_stack
  right-less-at of_write = of_write
  right-less-at (RightAt.of_read e) = RightAt.of_read e
  right-less-at (of_outside {a = a} e) = of_outside (go (inside lo mid a) refl)
    where
      go : (x : Bool) → inside lo mid a ≡ x → inside lo mid a ≡ false
      go true f =
          let k = inside_true lo mid a f in
          absurd (apart (sym (inside_in lo hi a k.0 (omega arith)) ∙ e))
      go false f = f

  pub right-less : {done rs : List Record} → Right lo hi c done rs → Right lo mid c done rs
  right-less none = none
  right-less (more x xs) = more (right-less-at x) (right-less xs)

module _ (lo hi : ℕ) (c : Cells) where
  pub cells-append : (done xs ys : List Record) → cells_in lo hi c done (xs ++ ys) ≡ cells_in lo hi c done xs + cells_in lo hi c (done ++ xs) ys
  unfolding cells_in
  cells-append done [] ys = rw append-nil (omega arith)
  cells-append done (x ∷ xs) ys = omega (arith, cells-append (done ++ (x ∷ [])) xs ys, ap (λ (d : List Record). cells_in lo hi c d ys) (append_assoc done (x ∷ []) xs))

  new_few : (done : List Record) (r : Record) → new_in lo hi c done r ≤ 1
  unfolding new_in
  new_few done (other k s) = omega arith
  new_few done (timed k t s) = omega arith
  new_few done (stack t q d v) = omega arith
  new_few done (ram t a v zero) = omega arith
  new_few done (ram t a v (suc d)) = go (inside lo hi a) (had_of done a (has c a))
    where
      go : (t u : Bool) → cond t (cond u 0 1) 0 ≤ 1
      go true true = omega arith
      go true false = omega arith
      go false u = omega arith

  pub cells-few : (done rs : List Record) → cells_in lo hi c done rs ≤ length rs
  unfolding cells_in
  cells-few done [] = omega arith
  cells-few done (r ∷ rs) = omega (arith, new_few done r, cells-few (done ++ (r ∷ [])) rs)
