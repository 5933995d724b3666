use Rattle.machine_arithmetic.proofs.arithmetic.element.Goals as goal

pub returns-clause-is : goal.returns-clause-is
returns-clause-is c = rw (c.word.ensures.value, c.word-2.ensures.value, c.word-3.ensures.value)
