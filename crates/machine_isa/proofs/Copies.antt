-- Laws of the op stack after words are put and what is freed is cleared. Assumes nothing.
use Rattle.std.proofs.Common.{◌≡◌, ℕ, ◌+◌, ◌-◌, ◌≤◌, List, length, take, replicate, ap, ◌∙◌, arith}
use Rattle.std.proofs.lemmas.List.{length-take-le, length-replicate}
use Rattle.std.proofs.Math.Seq.{paste, take_all}
use Rattle.machine.specs.Apply.{put, applied_stack}

-- the first n words of a list, put
pub copy_put : (s : List ℕ) (at : ℕ) (w : List ℕ) (n : ℕ) → n ≤ length w → paste s at w n ≡ put s at (take n w)
copy_put s at w n h =
    let e : length (take n w) ≡ n = length-take-le n w h in
    let f : length (take n w) ≤ n = omega arith in
    rw (e, take_all n (take n w) f)

-- words put, and what is freed cleared
pub applied_is : (s w : List ℕ) (d n c r : ℕ) → c ≤ length w → r ≡ n - c → paste (paste s (d - n) w c) (d - n + c) (replicate r 0) r ≡ applied_stack s d n (take c w)
unfolding applied_stack
applied_is s w d n c r h e =
    let l : length (take c w) ≡ c = length-take-le c w h in
    let z : r ≤ length {A = ℕ} (replicate r 0) = rw length-replicate (omega arith) in
    let y : take r (replicate {A = ℕ} r 0) ≡ replicate r 0 = take_all r (replicate r 0) (rw length-replicate (omega arith)) in
    ap (λ (x : List ℕ). paste x (d - n + c) (replicate r 0) r) (copy_put s (d - n) w c h)
    ∙ copy_put (put s (d - n) (take c w)) (d - n + c) (replicate r 0) r z
    ∙ rw (y, e, l)
