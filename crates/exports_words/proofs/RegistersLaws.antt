-- The registers and the state are two writings of one thing; what the code of both makes. Assumes nothing.
use mir.Val.{bool_byte}
use mathlib.Core.Path.{◌≡◌, refl, sym, ap, ◌∙◌}
use mathlib.Core.Bool.{Bool, true, false, true≢false}
use mathlib.Core.List.{List, [], ◌∷◌, ◌++◌, append-nil}
use Prim.Native.Nat.{ℕ, zero, suc, ◌+◌, ◌-◌, ◌<◌}
use native.Mathlib.Omega.{arith}
use borrow.Author.Tests.{eqb-true, ltb-true}
use lib.ListN.{length, get_or, take, drop, replicate, length-append, length-drop, take-append-drop, drop_of_length-le}
use lib.Seq.{paste, drop-cons, drop-drop, take_all, take_at, drop_at}
use lib.Dec.{eqb}
use Rattle.machine.specs.declared.state.VMState.{VMState}
use Rattle.choices.specs.Choice.{cond}
use Rattle.exports_words.specs.Registers.{mark, registers_of, state_of, Readable, readable_of}

-- ---- a mark

mark_back : (t : Bool) → eqb (mark t) 1 ≡ t
mark_back true = refl
mark_back false = refl

back_mark : (n : ℕ) → n < 2 → mark (eqb n 1) ≡ n
back_mark zero h = refl
back_mark (suc zero) h = refl
back_mark (suc (suc n)) h = absurd (omega arith)

-- ---- there and back

last_word : (w : List ℕ) (x n : ℕ) → length w ≡ n → get_or (w ++ (x ∷ [])) n 0 ≡ x
last_word [] x n l = rw (← l)
last_word (y ∷ w) x zero l = absurd (omega arith)
last_word (y ∷ w) x (suc n) l = last_word w x n (omega arith)

-- the sponge has sixteen words by its type
pub state_registers : (s : VMState) → length s.sponge.words ≡ 16 → state_of (registers_of s) ≡ s
unfolding registers_of state_of
state_registers s l =
    rw (mark_back s.halted, mark_back s.sponge.set, take_at s.sponge.words (s.revision ∷ []) 16 l, last_word s.sponge.words s.revision 16 l)

-- the sponge's words, and the last one
last-words : (w : List ℕ) → length w ≡ 28 → take 16 (drop 11 w) ++ (get_or w 27 0 ∷ []) ≡ drop 11 w
last-words w l =
    let e : drop 28 w ≡ [] = drop_of_length-le w {i = 28} (omega arith) in
    let f : drop 16 (drop 11 w) ≡ get_or w 27 0 ∷ [] = drop-drop 16 11 w ∙ drop-cons w 27 0 (omega arith) ∙ ap (λ (x : List ℕ). get_or w 27 0 ∷ x) e in
    ap (λ (x : List ℕ). take 16 (drop 11 w) ++ x) (sym f) ∙ take-append-drop 16 (drop 11 w)

-- the words of a readable slice are those of its state
pub registers_state : (w : List ℕ) → Readable w → registers_of (state_of w) ≡ w
unfolding registers_of state_of
registers_state w h =
    let l = h.long in
    rw (back_mark (get_or w 9 0) h.halted, back_mark (get_or w 10 0) h.set, last-words w l)
    (rw (
      sym (drop-cons w 10 0 (omega arith)),
      sym (drop-cons w 9 0 (omega arith)),
      sym (drop-cons w 8 0 (omega arith)),
      sym (drop-cons w 7 0 (omega arith)),
      sym (drop-cons w 6 0 (omega arith)),
      sym (drop-cons w 5 0 (omega arith)),
      sym (drop-cons w 4 0 (omega arith)),
      sym (drop-cons w 3 0 (omega arith)),
      sym (drop-cons w 2 0 (omega arith)),
      sym (drop-cons w 1 0 (omega arith)),
      sym (drop-cons w 0 0 (omega arith)),
    ))

-- ---- the test

pub both : {t u : Bool} → cond t u false ≡ true → (t ≡ true) × (u ≡ true)
both {t = true} {u = u} h = (refl, h)
both {t = false} {u = u} h = absurd (true≢false (sym h))

pub readable-facts : (w : List ℕ) → readable_of w ≡ true → Readable w
unfolding readable_of
readable-facts w h =
    let a = both h in
    let b = both a.1 in
    let d = both b.1 in
    record { long = eqb-true _ _ a.0; clock = ltb-true _ _ b.0; halted = ltb-true _ _ d.0; set = ltb-true _ _ d.1 }

-- ---- reading and writing

-- sixteen words filled
pub read-words : (w r : List ℕ) → length w ≡ 28 → r ≡ paste (replicate 16 0) 0 (take (length w - 11) (drop 11 w)) 16 → r ≡ take 16 (drop 11 w)
read-words w r l e =
    let k : length (drop 11 w) ≡ length w - 11 = length-drop 11 w in
    e ∙ rw (take_all (length w - 11) (drop 11 w) (omega arith)) (append-nil (take 16 (drop 11 w)))

-- n words behind the first i, which are a
write-more : (r s t a w : List ℕ) (i n : ℕ) → length a ≡ i → length w ≡ n → s ≡ a ++ drop i r → t ≡ paste s i w n → t ≡ a ++ w ++ drop (i + n) r
write-more r s t a w i n l m e f =
    let x : take i s ≡ a = ap (take i) e ∙ take_at a (drop i r) i l in
    let y : take n w ≡ w = take_all n w (omega arith) in
    let z : drop (i + n) s ≡ drop (i + n) r = sym (drop-drop n i s) ∙ ap (drop n) (ap (drop i) e ∙ drop_at a (drop i r) i l) ∙ drop-drop n i r in
    f ∙ rw (x, y, z)

-- eleven words, sixteen behind them and one more
write-words : (r s t u h w : List ℕ) (x : ℕ) → length r ≡ 28 → length h ≡ 11 → length w ≡ 16 → s ≡ paste r 0 h 11 → t ≡ paste s 11 w 16 → u ≡ paste t 27 (x ∷ []) 1 → u ≡ h ++ w ++ (x ∷ [])
write-words r s t u h w x l m n e f g =
    let a : s ≡ h ++ drop 11 r = e ∙ ap (λ (y : List ℕ). y ++ drop 11 r) (take_all 11 h (omega arith)) in
    let b : t ≡ h ++ w ++ drop 27 r = write-more r s t h w 11 16 m n a f in
    let c : length (h ++ w) ≡ 27 = length-append h w ∙ omega arith in
    let d : drop 28 r ≡ [] = drop_of_length-le r {i = 28} (omega arith) in
    write-more r t u (h ++ w) (x ∷ []) 27 1 c refl b g ∙ rw d (append-nil (h ++ w ++ (x ∷ [])))

pub write_state : (s : VMState) (r t u q : List ℕ) {h k : ℕ} → length r ≡ 28 → length s.sponge.words ≡ 16 → h ≡ mark s.halted → k ≡ mark s.sponge.set →
    t ≡ paste r 0 (s.clock ∷ s.pointer ∷ s.depth ∷ s.jumps ∷ s.cells ∷ s.outputs ∷ s.publics ∷ s.secrets ∷ s.digests ∷ h ∷ k ∷ []) 11 →
    u ≡ paste t 11 s.sponge.words 16 → q ≡ paste u 27 (s.revision ∷ []) 1 → q ≡ registers_of s
unfolding registers_of
write_state s r t u q {h} {k} l n a b e f g =
    write-words r t u q (s.clock ∷ s.pointer ∷ s.depth ∷ s.jumps ∷ s.cells ∷ s.outputs ∷ s.publics ∷ s.secrets ∷ s.digests ∷ h ∷ k ∷ []) s.sponge.words s.revision l refl n e f g
    ∙ rw (a, b)

-- a mark as std makes a number of it
pub byte_mark : (t : Bool) → bool_byte t ≡ mark t
byte_mark true = refl
byte_mark false = refl
