use Rattle.std.proofs.Common.{◌≡◌, sym, ◌∙◌, ℕ, ◌+◌, ◌*◌, ◌≤◌, get_or, arith}
use Rattle.tip5.specs.Matrix.{sum_zero}
use Rattle.tip5.specs.Split.{coefficients, term_of}
use Rattle.tip5.proofs.matrix.Laws.{coefficients-below, term-below}
use Rattle.tip5.proofs.matrix.SumTo.{sum_more}
use Rattle.tip5.proofs.matrix.dot.Goals as goal

small : (w at x : ℕ) → w ≡ get_or coefficients at 0 → x ≤ 0x3_ffff_ffff → w * x ≤ 0x1f_ffff * 0x3_ffff_ffff
small w at x e h = term-below w x (rw e (coefficients-below at)) (omega arith)

pub loop-j-init : goal.loop-j-init
loop-j-init g c = (omega arith, sym (sum_zero _))

pub loop-j-preserved : goal.loop-j-preserved
loop-j-preserved g c =
    let l = c.loop-j in
    let x = c.args.x.now in
    let m = small _ _ (get_or x l.j 0) c.coefficient.ensures (omega (arith, c.requires.2 l.j)) in
    (omega arith, (λ n. l.invariant.1 n + c.coefficient.ensures n * get_or x l.j 0) ∙ sym (sum_more (term_of c.args.at x) l.j))

pub overflow_mul-sum : goal.overflow_mul-sum
overflow_mul-sum g c = let m = small _ _ (get_or c.args.x.now c.loop-j.j 0) c.coefficient.ensures (omega (arith, c.requires.2 c.loop-j.j)) in omega arith

pub overflow_add-sum : goal.overflow_add-sum
overflow_add-sum g c = let m = small _ _ (get_or c.args.x.now c.loop-j.j 0) c.coefficient.ensures (omega (arith, c.requires.2 c.loop-j.j)) in omega arith
