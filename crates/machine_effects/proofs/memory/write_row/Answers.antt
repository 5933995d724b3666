use Rattle.std.proofs.Common.{◌≡◌, ℕ, ◌+◌, ◌*◌, ◌-◌, rules, ap, ◌∙◌, arith}
use Rattle.std.proofs.lemmas.List.{length-set}
use Rattle.field.specs.Base.{add_p}
use Rattle.machine_effects.specs.declared.effect.Direction.TheVariants.{Write}
use Rattle.machine_effects.specs.EffectView.{first_accesses}
use Rattle.machine_effects.proofs.MemoryView.{all-writes, accesses_turn, writes_up_lem, writes-none, done, start, by_next, by_first}
use Rattle.machine_effects.proofs.memory.write_row.Goals as goal

pub loop-i-init : goal.loop-i-init
loop-i-init c =
    let a = c.args in
    let e : a.n - 0 ≡ a.n = omega arith in
    (search rules, by_first 1 a.start c.requires.0, rw e (start Write _ _))

pub loop-i-preserved : goal.loop-i-preserved
loop-i-preserved c =
    let l = c.loop-i in
    let a = c.args in
    let q = l.invariant in
    let f = c.requires.1 in
    let h = c.loop-i-test.true in
    let r = rw (writes_up_lem a.w.now.words l.address a.n l.i h, ← c.add-address.ensures) at q.2 in (
      simp length-set q.0,
      by_next 1 a.start l.i q.1 c.add-address.ensures,
      accesses_turn Write l.cells (record { address = l.address; value = c.st-value.result }) l.i _ _ (omega (arith, q.0)) (rw c.st-value.ensures r),
    )

pub returns : goal.returns
returns c =
    let l = c.loop-i in
    let a = c.args in
    let e : l.i ≡ a.n = omega arith in
    let f : l.i * 1 ≡ a.n = omega arith in
    record {
      writes = all-writes l.cells a.n ∙ done (λ (i : ℕ). first_accesses Write l.cells i) l.i a.n e (writes-none a.w.now.words (l.i + 1) l.address a.n l.i (omega arith)) l.invariant.2;
      after = l.invariant.1 ∙ ap (λ (i : ℕ). add_p a.start i) f;
    }
