use Rattle.machine_hashing.proofs.many_in_one.element_at.Goals as goal

pub returns : goal.returns
returns c = rw (c.read_near-c2.ensures, c.add-2.ensures, c.read_near-c1.ensures, c.add.ensures, c.read_near-c0.ensures)
