use Rattle.std.proofs.Common.{◌∙◌, ap}
use Rattle.machine.specs.ManyInOne.{merkle_stepped}
use Rattle.machine_hashing.specs.HashedView.{trace_first}
use Rattle.machine_hashing.proofs.many_in_one.stepped.Goals as goal

pub returns : goal.returns
unfolding merkle_stepped
returns c =
    c.first.ensures
    ∙ ap (trace_first 18 c.args.trace) c.put_step-effect.ensures
    ∙ rw (c.none.ensures, c.of-words.ensures.words, c.parent_words.ensures, c.st-i.ensures)
