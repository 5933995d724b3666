use Rattle.std.proofs.Common.{◌≡◌, ℕ, ◌*◌, rules, ap, sym, ◌∙◌, arith}
use Rattle.machine_effects.proofs.MemoryView.{all-reads, reading_start, reading_turn, reads-all, words-all}
use Rattle.machine_effects.proofs.memory.read_row.Goals as goal

pub loop-i-init : goal.loop-i-init
loop-i-init c = reading_start _ _ _ _ c.requires.0 (search rules) (search rules)

pub loop-i-preserved : goal.loop-i-preserved
loop-i-preserved c = reading_turn c.loop-i.invariant c.loop-i-test.true c.requires.2 c.read_near-value.ensures c.add-address.ensures

pub returns : goal.returns
returns c =
    let l = c.loop-i in
    let e : l.i ≡ c.args.n = omega arith in
    record {
      reads = all-reads l.cells c.args.n ∙ reads-all l.invariant e;
      words = words-all l.invariant e;
      next = λ k q. l.invariant.next k (q ∙ ap (λ (j : ℕ). j * c.args.step) (sym e));
    }
