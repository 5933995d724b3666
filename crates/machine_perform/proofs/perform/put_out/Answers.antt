use Rattle.std.proofs.Common.{◌≡◌, ◌+◌, ◌-◌, length, take, refl, sym, arith}
use Rattle.std.proofs.lemmas.Slice.{put_mid-paste}
use Rattle.machine_perform.proofs.perform.put_out.Goals as goal

pub returns : goal.returns
returns c =
    let w = c.args.words.now in
    let at = c.args.at in
    let z = take w.count w.words in
    let e : at + length z - at ≡ length z = omega arith in
    rw (c.copy_from_slice.ensures.after, c.as_slice-s.ensures) (put_mid-paste at _ c.args.output.now z z (length z) refl (sym e) refl)
