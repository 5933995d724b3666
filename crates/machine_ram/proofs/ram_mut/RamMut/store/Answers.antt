use Rattle.std.proofs.Common.{sym, ap, ◌∙◌, subst, arith}
use Rattle.machine_ram.specs.LentCells.{cells_of_mut}
use Rattle.machine_ram.specs.RamView.{found_of, PlacedIn}
use Rattle.machine_ram.proofs.RamView.{write-at, write-absent, absent_more}
use Rattle.machine_ram.proofs.ram_mut.RamMut.store.Goals as goal

pub insert-requires : goal.insert-requires
insert-requires c =
    let i = c.in-Err.is in
    let a = c.args in
    let f = c.requires.1 in
    let h = subst (PlacedIn _) i f.place in
    let m = absent_more (cells_of_mut a.self.now) a.address a.value _ (ap found_of (sym i) ∙ f.is a.self.now.values.now) in
    (h, omega (arith, m, c.requires.0.fits))

pub insert-requires-in-Err : goal.insert-requires-in-Err
insert-requires-in-Err c =
    let i = c.in-Err.is in
    let a = c.args in
    let f = c.requires.1 in
    let h = subst (PlacedIn _) i f.place in
    let m = absent_more (cells_of_mut a.self.now) a.address a.value _ (ap found_of (sym i) ∙ f.is a.self.now.values.now) in
    (h, omega (arith, m, c.requires.0.fits, c.requires.0.pair))

pub returns-in-Ok-clause-stored : goal.returns-in-Ok-clause-stored
returns-in-Ok-clause-stored c =
    let a = c.args in
    record {
      is = write-at (cells_of_mut a.self.now) a.address a.value _ (ap found_of (sym c.in-Ok.is) ∙ c.requires.1.is a.self.now.values.now);
      more = omega arith;
    }

pub returns-in-Err-clause-stored : goal.returns-in-Err-clause-stored
returns-in-Err-clause-stored c =
    let a = c.args in
    record {
      is =
          rw (c.insert-in-Err.ensures, c.insert.ensures)
          (write-absent (cells_of_mut a.self.now) a.address a.value _ (ap found_of (sym c.in-Err.is) ∙ c.requires.1.is a.self.now.values.now));
      more = omega arith;
    }
