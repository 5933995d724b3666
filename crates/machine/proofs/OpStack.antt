-- Laws of the op stack: what is put, what a step leaves below the words that it popped, that the rest stays 0, and the top
-- sixteen. Assumes nothing.
use mathlib.Core.Path.{◌≡◌, refl, sym, ap, ◌∙◌}
use mathlib.Core.Bool.{Bool, true, false}
use mathlib.Core.List.{List, ◌++◌}
use Prim.Native.Nat.{ℕ, ◌+◌, ◌-◌, ◌≤◌, ◌<◌}
use native.Mathlib.Omega.{arith}
use borrow.Author.Tests.{ltb-true, ltb-false}
use lib.ListN.{length, take, drop, get_or, replicate, length-take, length-append, length-drop, length-replicate, get_or-replicate, get_or-append}
use lib.Seq.{take-append-le, take-take, length-paste, length_paste_head, get_or-append-add, get_or-drop, get_or-take, length-take-le}
use lib.Dec.{ltb}
use Rattle.field.specs.Base.{p}
use Rattle.machine.specs.Words.{Words}
use Rattle.machine.specs.Machine.{top_of}
use Rattle.machine.specs.Apply.{put, applied_stack}
use Rattle.machine.specs.Sound.{SoundStack}
use Rattle.machine.proofs.Words.{words_append, words_take, words-drop, words_zeros, words_get_d}

-- ---- words put at a place

pub put-length : (s w : List ℕ) (at : ℕ) → at + length w ≤ length s → length (put s at w) ≡ length s
put-length s w at h = length-paste s at w (length w) h (omega arith)

pub put-words : (s w : List ℕ) (at : ℕ) → Words s → Words w → Words (put s at w)
put-words s w at b c = words_append (words_append (words_take at b) (words_take (length w) c)) (words-drop (at + length w) b)

pub put-below : (s w : List ℕ) (at n : ℕ) → n ≤ at → at ≤ length s → take n (put s at w) ≡ take n s
put-below s w at n h l =
    let x : n ≤ length (take at s) = simp length-take (omega arith) in
    let y : n ≤ length (take at s ++ take (length w) w) = simp length-append (omega arith) in
    take-append-le n (take at s ++ take (length w) w) _ y ∙ take-append-le n (take at s) (take (length w) w) x ∙ take-take n at s h

pub put-above : (s w : List ℕ) (at i : ℕ) → at ≤ length s → at + length w ≤ i → get_or (put s at w) i 0 ≡ get_or s i 0
put-above s w at i h l =
    let n = length w in
    let m = length_paste_head s at w n h (omega arith) in
    let e : i ≡ length (take at s ++ take n w) + (i - (at + n)) = omega arith in
    let f : at + n + (i - (at + n)) ≡ i = omega arith in
    ap (λ (x : ℕ). get_or (put s at w) x 0) e ∙ get_or-append-add (take at s ++ take n w) (drop (at + n) s) (i - (at + n)) 0 ∙ get_or-drop (at + n) s (i - (at + n)) 0 ∙ ap (λ (x : ℕ). get_or s x 0) f

pub put_within : (s w : List ℕ) (at i : ℕ) → at ≤ length s → i < length w → get_or (put s at w) (at + i) 0 ≡ get_or w i 0
put_within s w at i h l =
    let n = length w in
    let x : at + i < length (take at s ++ take n w) = rw (length_paste_head s at w n h (omega arith)) (omega arith) in
    let y : at + i ≡ length (take at s) + i = ap (λ (q : ℕ). q + i) (sym (length-take-le at s h)) in
    get_or-append (take at s ++ take n w) (drop (at + n) s) 0 (at + i) x
    ∙ ap (λ (q : ℕ). get_or (take at s ++ take n w) q 0) y ∙ get_or-append-add (take at s) (take n w) i 0 ∙ get_or-take n w i 0 l

-- ---- the stack after a step

pub applied_words : (s w : List ℕ) (d n : ℕ) → Words s → Words w → Words (applied_stack s d n w)
unfolding applied_stack
applied_words s w d n b c = put-words _ _ (d - n + length w) (put-words s w (d - n) b c) (words_zeros (n - length w))

module _ (s w : List ℕ) (d n : ℕ) (deep : n ≤ d) (high : d ≤ length s) (room : d - n + length w ≤ length s) where
  zeros_length : length {A = ℕ} (replicate (n - length w) 0) ≡ n - length w
  zeros_length = length-replicate (n - length w) 0

  first-length : length (put s (d - n) w) ≡ length s
  first-length = put-length s w (d - n) room

  pub applied_length : length (applied_stack s d n w) ≡ length s
  unfolding applied_stack
  applied_length = put-length (put s (d - n) w) (replicate (n - length w) 0) (d - n + length w) (rw (zeros_length, first-length) (omega arith)) ∙ first-length

  -- below the popped words nothing changes
  pub applied_below : (k : ℕ) → k ≤ d - n → take k (applied_stack s d n w) ≡ take k s
  unfolding applied_stack
  applied_below k h =
      let y : d - n + length w ≤ length (put s (d - n) w) = rw first-length room in
      put-below (put s (d - n) w) (replicate (n - length w) 0) (d - n + length w) k (omega arith) y ∙ put-below s w (d - n) k h (omega arith)

  -- behind the new depth stand zeros, where they stood behind the old one
  pub applied_rest : ((i : ℕ) → d ≤ i → get_or s i 0 ≡ 0) → (i : ℕ) → d - n + length w ≤ i → get_or (applied_stack s d n w) i 0 ≡ 0
  unfolding applied_stack
  applied_rest z i l = go (ltb i (to + (n - length w))) refl
    where
      to : ℕ
      to = d - n + length w

      zs : List ℕ
      zs = replicate (n - length w) 0

      fits : to ≤ length (put s (d - n) w)
      fits = rw first-length room

      go : (b : Bool) → ltb i (to + (n - length w)) ≡ b → get_or (put (put s (d - n) w) to zs) i 0 ≡ 0
      go true q =
          let x : i < to + (n - length w) = ltb-true i (to + (n - length w)) q in
          let m : i - to < n - length w = omega arith in
          let e : i ≡ to + (i - to) = omega arith in
          ap (λ (k : ℕ). get_or (put (put s (d - n) w) to zs) k 0) e ∙ put_within (put s (d - n) w) zs to (i - to) fits (rw zeros_length m) ∙ get_or-replicate (n - length w) (i - to) 0 0 m
      go false q =
          let x : to + (n - length w) ≤ i = ltb-false i (to + (n - length w)) q in
          put-above (put s (d - n) w) zs to i fits (rw zeros_length x) ∙ put-above s w (d - n) i (omega arith) (omega arith) ∙ z i (omega arith)

-- a sound stack stays one
pub applied_sound : (s w : List ℕ) (d n : ℕ) → n ≤ d → d - n + length w ≤ length s → Words w → SoundStack s d → SoundStack (applied_stack s d n w) (d - n + length w)
applied_sound s w d n deep room b h =
    let e = applied_length s w d n deep h.used room in
    record {
      few = rw e h.few;
      used = rw e room;
      words = applied_words s w d n h.words b;
      rest = applied_rest s w d n deep h.used room h.rest;
    }

-- ---- the top sixteen

pub top-length : (s : List ℕ) (d : ℕ) → 16 ≤ d → d ≤ length s → length (top_of s d) ≡ 16
unfolding top_of
top-length s d h l = simp (length-take, length-drop) (omega arith)

pub top-words : {s : List ℕ} (d : ℕ) → Words s → Words (top_of s d)
unfolding top_of
top-words d b = words_take 16 (words-drop (d - 16) b)

pub top-at : (s : List ℕ) (d i : ℕ) → i < 16 → get_or (top_of s d) i 0 ≡ get_or s (d - 16 + i) 0
unfolding top_of
top-at s d i h = get_or-take 16 (drop (d - 16) s) i 0 h ∙ get_or-drop (d - 16) s i 0

-- ST i is the word i places below the top of the stack
pub top-st : (s : List ℕ) (d i : ℕ) → 16 ≤ d → i < 16 → get_or (top_of s d) (15 - i) 0 ≡ get_or s (d - 1 - i) 0
top-st s d i h l =
    let e : d - 16 + (15 - i) ≡ d - 1 - i = omega arith in
    top-at s d (15 - i) (omega arith) ∙ ap (λ (x : ℕ). get_or s x 0) e

pub top_word : {s : List ℕ} (d i : ℕ) → Words s → get_or (top_of s d) i 0 < p
top_word d i b = words_get_d i (top-words d b)
