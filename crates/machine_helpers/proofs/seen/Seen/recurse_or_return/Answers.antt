use Rattle.machine_helpers.proofs.seen.Seen.recurse_or_return.Goals as goal

pub returns : goal.returns
returns c = rw (c.inverse_of_difference.ensures, c.word.ensures.value, c.word-2.ensures.value)
