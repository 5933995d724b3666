use Rattle.std.proofs.Common.{◌≡◌, ◌∙◌, length, drop, rules, arith, length-drop}
use Rattle.std.proofs.Math.Seq.{take_all}
use Rattle.machine_hashing.proofs.hashing.last_state.Goals as goal

pub returns : goal.returns
returns c =
    let l : length c.args.trace.now ≡ 96 = search rules in
    c.copy_from_slice.ensures.after ∙ take_all 16 (drop 80 c.args.trace.now) (simp length-drop (omega arith))
