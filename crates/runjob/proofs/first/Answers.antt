use Rattle.std.proofs.Common.{ap, sym, ◌∙◌, ◌++◌, [], List, ℕ, append-nil, rules}
use Rattle.job.specs.Printed.{not_opened}
use Rattle.runjob.proofs.PieceLaws.{left-none}
use Rattle.runjob.proofs.first.Goals as goal

pub returns-in-Ok : goal.returns-in-Ok
returns-in-Ok c = record { own = []; grown = sym (append-nil _); is = c.in-Ok.ensures.is; ready = c.in-Ok.ensures.ready }

pub returns-in_ok-write-in-Err : goal.returns-in_ok-write-in-Err
returns-in_ok-write-in-Err c =
    let text = not_opened c.number.result in
    record {
      own = text;
      grown = search rules;
      is = c.in-Err.ensures.is ∙ ap not_opened (sym c.number.ensures) ∙ sym (append-nil text) ∙ ap (λ (u : List ℕ). text ++ u) (sym (left-none _ _));
      ready = tt;
    }
