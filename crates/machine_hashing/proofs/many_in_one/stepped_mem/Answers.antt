use Rattle.std.proofs.Common.{◌∙◌, ap}
use Rattle.machine.specs.Hashing.{reversed}
use Rattle.machine_hashing.specs.HashedView.{trace_first}
use Rattle.machine_hashing.proofs.many_in_one.stepped_mem.Goals as goal

pub returns : goal.returns
unfolding reversed
returns c =
    c.first.ensures
    ∙ ap (trace_first 18 c.args.trace) c.put_step-effect.ensures
    ∙ rw (c.of.ensures.words, c.parent_words-p.ensures, c.st-i.ensures, c.st.ensures)
