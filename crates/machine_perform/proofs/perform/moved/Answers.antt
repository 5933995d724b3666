use Rattle.machine_perform.proofs.perform.moved.Goals as goal

pub returns : goal.returns
returns c = rw (c.jumps_after-jumps.ensures, c.as_slice.ensures, c.as_slice-2.ensures)
