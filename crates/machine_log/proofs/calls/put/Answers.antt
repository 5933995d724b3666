use Rattle.std.proofs.Common.{◌≡◌, ◌+◌, ◌-◌, ◌∙◌, sym, arith, length, rules}
use Rattle.machine_log.proofs.Logged.{put_logged}
use Rattle.machine_log.proofs.calls.put.Goals as goal

pub returns : goal.returns
returns g c =
    let e : c.args.at + g.row.K - c.args.at ≡ g.row.K = omega arith in
    let l : length c.args.bytes ≡ g.row.K = search rules in
    rw c.copy_from_slice.ensures.after (put_logged c.args.b.now c.args.bytes c.args.at _ (l ∙ sym e))
