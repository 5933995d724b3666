use Rattle.std.proofs.Common.{◌∙◌, refl}
use Rattle.machine.specs.ManyInOne.{merkle_stepped_mem, merkle_step_mem_of}
use Rattle.machine_arithmetic.proofs.Checked.{goes_on}
use Rattle.machine_hashing.proofs.HashedLaws.{hashed-acts, turned_down}
use Rattle.machine_hashing.proofs.many_in_one.merkle_step_mem.Goals as goal

pub returns-in_err-as_u32 : goal.returns-in_err-as_u32
unfolding merkle_step_mem_of
returns-in_err-as_u32 c = turned_down _ _ _ _ _ c.st.ensures c.in_err-as_u32.ensures c.from_residual.ensures.1

pub returns : goal.returns
unfolding merkle_step_mem_of merkle_stepped_mem
returns c =
    hashed-acts _ c.stepped_mem.ensures
    ∙ rw (
      c.merkle_trace-t.ensures,
      c.read_row-row.ensures.words,
      c.read_row-row.ensures.reads,
      c.read_row-row.ensures.next 5 refl,
      c.st-2.ensures,
      goes_on _ _ _ _ c.st.ensures c.in_ok-as_u32.ensures,
    )
