use native.Mathlib.Omega.{arith}
use Rattle.replay_scan.proofs.ScanLaws.{stack_size, ram_size}
use Rattle.replay_job.proofs.alter.alter_record.Goals as goal

pub bounds-log-at : goal.bounds-log-at
bounds-log-at g c = omega (arith, rw (c.in-Stack.is, stack_size 1) at c.requires.sized, c.requires.fits)

pub alter_read-requires : goal.alter_read-requires
alter_read-requires g c = omega (arith, rw (c.in-Stack.is, stack_size 1) at c.requires.sized, c.requires.fits)

pub bounds-log-at-in-Ram-1 : goal.bounds-log-at-in-Ram-1
bounds-log-at-in-Ram-1 g c = omega (arith, rw (c.in-Ram.is, ram_size 1) at c.requires.sized, c.requires.fits)

pub alter_read-requires-in-Ram : goal.alter_read-requires-in-Ram
alter_read-requires-in-Ram g c = omega (arith, rw (c.in-Ram.is, ram_size 1) at c.requires.sized, c.requires.fits)
