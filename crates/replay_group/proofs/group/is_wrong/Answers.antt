use native.Mathlib.Omega.{arith}
use mathlib.Core.Path.{refl, sym, ◌∙◌}
use Rattle.replay_table.proofs.KeptLaws.{table_same}
use Rattle.replay_group.proofs.TurnLaws.{ram_long, other-kind, not-ram, ram_outside, ram-write, ram_unchecked, ram-read}
use Rattle.replay_group.proofs.group.is_wrong.Goals as goal

pub returns-in_default : goal.returns-in_default
returns-in_default c =
    record { touches = not-ram _ _ _ _ _ _ _ _ (other-kind _ c.in_default.not-Ram); count = refl; kept = table_same _ }

pub ram_fields-f-requires : goal.ram_fields-f-requires
ram_fields-f-requires c = omega (arith, rw (c.in-Ram.is, ram_long c.args.log.revision) at c.requires.0)

pub returns-then-not-has-clause-touches : goal.returns-then-not-has-clause-touches
returns-then-not-has-clause-touches c =
    rw c.in-Ram.is (ram_outside _ _ _ _ _ _ _ _ _ refl c.ram_fields-f.ensures (sym c.has.ensures ∙ c.if-not-has.true))

pub returns-then-f-ne0-clause-touches : goal.returns-then-f-ne0-clause-touches
returns-then-f-ne0-clause-touches c =
    rw c.in-Ram.is (ram-write _ _ _ _ _ _ _ _ _ refl c.ram_fields-f.ensures (sym c.has.ensures ∙ c.if-not-has.false) c.if-f-ne0.true c.put.ensures.puts)

pub returns-in-Some-clause-touches : goal.returns-in-Some-clause-touches
returns-in-Some-clause-touches c =
    rw (c.in-Ram.is, c.in-Some.is) (ram-read _ _ _ _ _ _ _ _ _ refl c.ram_fields-f.ensures c.if-f-ne0.false c.word_at_seen.result refl (sym c.has.ensures ∙ c.if-not-has.false) c.word_at_seen.ensures)

pub returns-in-None-clause-touches : goal.returns-in-None-clause-touches
returns-in-None-clause-touches c =
    rw (c.in-Ram.is, c.in-None.is) (ram_unchecked _ _ _ _ _ _ _ _ _ refl c.ram_fields-f.ensures c.if-f-ne0.false refl)
