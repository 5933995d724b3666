use Rattle.std.proofs.Common.{◌≡◌, ℕ, ◌+◌, ◌-◌, ◌∙◌, List, replicate, set, get_or, arith, ap, refl}
use Rattle.std.proofs.lemmas.List.Edits.{paste_more, fill_from_more}
use Rattle.std.proofs.Math.Seq.{paste, paste-zero}
use Rattle.machine_isa.proofs.Copies.{applied_is}
use Rattle.machine_isa.proofs.op_stack.apply.Goals as goal

pub loop-i-preserved : goal.loop-i-preserved
loop-i-preserved c =
    let a = c.args in
    let w = a.words.now.words in
    let at = a.depth - a.pops in
    let i = c.loop-i.i in
    ap (λ (t : List ℕ). set t (at + i) (get_or w i 0)) c.loop-i.invariant ∙ paste_more a.stack.now at w i 0 (omega arith) (omega arith)

pub loop-j-init : goal.loop-j-init
loop-j-init c =
    let n = c.args.words.now.count in
    let z : n - n ≡ 0 = omega arith in
    (omega arith, rw z (paste-zero c.loop-i.stack (c.args.depth - c.args.pops + n) (replicate 0 0)))

pub loop-j-preserved : goal.loop-j-preserved
loop-j-preserved c =
    let a = c.args in
    let n = a.words.now.count in
    let j = c.loop-j.j in
    let e : a.depth - a.pops + j ≡ a.depth - a.pops + n + (j - n) = omega arith in
    let f : j + 1 - n ≡ j - n + 1 = omega arith in (
      omega arith,
      rw (e, f, c.loop-j.invariant.1) (fill_from_more c.loop-i.stack (a.depth - a.pops + n) (j - n) 0 (omega arith)),
    )

pub returns : goal.returns
returns c =
    let a = c.args in
    let n = a.words.now.count in
    let r = a.pops - n in
    let i : c.loop-i.i ≡ n = omega arith in
    let j : c.loop-j.j - n ≡ r = omega arith in
    rw j at c.loop-j.invariant.1
    ∙ ap (λ (t : List ℕ). paste t (a.depth - a.pops + n) (replicate r 0) r) (rw i at c.loop-i.invariant)
    ∙ applied_is a.stack.now a.words.now.words a.depth a.pops n r (omega arith) refl
