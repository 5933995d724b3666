use Rattle.std.proofs.Common.{◌≡◌, sym, ◌∙◌, refl, ap, arith}
use Rattle.job.specs.Frame.{whole_by, size_by}
use Rattle.job.specs.JobFile.{length_in}
use Rattle.job.specs.JobFileView.{kind_number}
use Rattle.job.proofs.FrameLaws.{size_short, size_is, whole-none}
use Rattle.job.proofs.KindLaws.{decoded, undecoded}
use Rattle.job.proofs.job_file.whole.Goals as goal

pub returns-then-file-lt4 : goal.returns-then-file-lt4
returns-then-file-lt4 c = size_short _ _ c.if-file-lt4.true

pub returns-in_err-kind : goal.returns-in_err-kind
returns-in_err-kind c =
    let e : length_in c.kind_in.result ≡ 0 = undecoded _ _ c.try_from.ensures (sym c.ok.ensures.value ∙ c.in_err-kind.was) in
    rw c.from_residual.ensures (size_is length_in c.args.file.now c.kind_in.result 0 (omega arith) c.kind_in.ensures (sym e) ∙ sym (whole-none c.args.file.now 0 refl))

pub returns-in_err-bytes : goal.returns-in_err-bytes
returns-in_err-bytes c =
    let e : kind_number c.in_ok-kind.kind ≡ c.kind_in.result = decoded _ _ _ c.try_from.ensures (sym c.ok.ensures.value ∙ c.in_ok-kind.was) in
    rw c.from_residual-in_err-bytes.ensures (size_is length_in c.args.file.now c.kind_in.result _ (omega arith) c.kind_in.ensures (c.length.ensures.0 ∙ ap length_in e) ∙ c.in_err-bytes.ensures)

pub returns : goal.returns
returns c =
    let e : kind_number c.in_ok-kind.kind ≡ c.kind_in.result = decoded _ _ _ c.try_from.ensures (sym c.ok.ensures.value ∙ c.in_ok-kind.was) in
    let s : size_by length_in c.args.file.now ≡ whole_by c.length.result c.args.file.now = size_is length_in c.args.file.now c.kind_in.result _ (omega arith) c.kind_in.ensures (c.length.ensures.0 ∙ ap length_in e) in
    let h = c.in_ok-bytes.ensures in
    (rw s h.0, e ∙ c.kind_in.ensures, rw s h.1, rw s h.2)
