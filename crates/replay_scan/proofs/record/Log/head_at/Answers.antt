use mathlib.Core.Path.{refl, sym, ◌∙◌}
use native.Mathlib.Omega.{arith}
use Rattle.replay_scan.proofs.Heads.{head_end, head_short, head_kind, head_size, head_whole, head_stack, head_ram}
use Rattle.replay_scan.proofs.record.Log.head_at.Goals as goal

pub returns-then-left-eq0 : goal.returns-then-left-eq0
returns-then-left-eq0 c = head_end _ _ c.if-left-eq0.true

pub returns-then-left-lt4 : goal.returns-then-left-lt4
returns-then-left-lt4 c = head_short _ _ c.if-left-eq0.false c.if-left-lt4.true

pub returns-then-frame-eq-STACK_FRAME : goal.returns-then-frame-eq-STACK_FRAME
returns-then-frame-eq-STACK_FRAME c =
    rw c.whole.ensures (head_stack _ _ _ c.if-left-lt4.false c.frame_at-frame.ensures c.if-frame-eq-STACK_FRAME.true)

pub returns-then-frame-eq-RAM_FRAME : goal.returns-then-frame-eq-RAM_FRAME
returns-then-frame-eq-RAM_FRAME c =
    rw c.whole-then-frame-eq-RAM_FRAME.ensures (head_ram _ _ _ c.if-left-lt4.false c.frame_at-frame.ensures c.if-frame-eq-RAM_FRAME.true)

pub returns-in_default : goal.returns-in_default
returns-in_default c =
    head_kind _ _ _ c.if-left-lt4.false c.frame_at-frame.ensures (rw c.from.ensures at (c.in_default.ensures.1 c.args.self.revision))

pub returns-in_default-length : goal.returns-in_default-length
returns-in_default-length c =
    head_kind _ _ _ c.if-left-lt4.false c.frame_at-frame.ensures (rw (c.in-Ok.ensures, c.from.ensures) at c.in_default-length.ensures)

pub returns-then-size-want : goal.returns-then-size-want
returns-then-size-want c =
    let w = rw (c.in-Ok.ensures, c.from.ensures) at c.in-Some.ensures in
    head_size _ _ _ c.if-left-lt4.false c.frame_at-frame.ensures (λ e. omega (arith, w.0, w.1)) (λ e. c.if-size-want.true (e ∙ sym w.0))

pub returns : goal.returns
returns c =
    let w = rw (c.in-Ok.ensures, c.from.ensures) at c.in-Some.ensures in
    rw c.whole-2.ensures (head_whole _ _ _ c.if-left-lt4.false c.frame_at-frame.ensures (λ e. omega (arith, w.0, w.1)) _ _ (c.in-Ok.ensures ∙ c.from.ensures) refl (c.if-size-want.false ∙ w.0))
