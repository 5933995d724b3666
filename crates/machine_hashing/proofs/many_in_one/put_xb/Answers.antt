use Rattle.machine_hashing.proofs.many_in_one.put_xb.Goals as goal

pub returns : goal.returns
returns c =
    rw (
      c.put_dot.ensures,
      c.of.ensures,
      c.new.ensures,
      c.new-2.ensures,
      c.new-3.ensures,
      c.new-4.ensures,
      c.add-4.ensures,
      c.add-3.ensures,
      c.add-2.ensures,
      c.add.ensures,
    )
