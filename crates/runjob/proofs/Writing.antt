-- A job that is printed piece by piece to a writer: what was written so far, and what is left. Assumes nothing.
use Rattle.std.proofs.Common.{◌≡◌, ℕ, List, [], ◌++◌, refl, sym, ap, ◌∙◌, append_assoc, append-nil, subst, Option, None, Some}
use Rattle.std.specs.Io.KnownBytes.{Appends}
use Rattle.std.proofs.KnownBytes.{Appends-trans}
use Rattle.machine.specs.Machine.{Code, Memory}
use Rattle.runjob.specs.declared.pending.Pending.{Pending}
use Rattle.runjob.specs.PieceView.{Begins, Writes, Wrote}
use Rattle.runjob.proofs.PieceLaws.{left-none}

pub wrote-first : {a b : Option (List ℕ)} {old new printed : List ℕ} {r : Option Pending} {c : Code} {m : Memory} → Begins old new printed r c m → old ≡ [] → Appends a b new → Wrote a b printed r c m
wrote-first {a} {b} s e h = record { text = s.own; grown = subst (Appends a b) (s.grown ∙ ap (λ (u : List ℕ). u ++ s.own) e) h; is = s.is; ready = s.ready }

pub wrote-piece : {a b d : Option (List ℕ)} {printed text : List ℕ} {j : Pending} {r : Option Pending} {c : Code} {m n : Memory} → Wrote a b printed (Some j) c m → Appends b d text → Writes j c m r n text → Wrote a d printed r c n
wrote-piece {a} {b} {d} {printed} {text} {j} {r} {c} {m} {n} w h p =
    record {
      text = w.text ++ text;
      grown = Appends-trans a b d w.text text w.grown h;
      is = w.is ∙ ap (λ (u : List ℕ). w.text ++ u) p.is ∙ sym (append_assoc w.text text _);
      ready = p.ready;
    }

pub wrote-next : {a b d : Option (List ℕ)} {old new own printed : List ℕ} {j : Pending} {r : Option Pending} {c c2 : Code} {m n : Memory} → Wrote a b printed (Some j) c m → old ≡ [] → new ≡ old ++ own → Appends b d new → Writes j c m r n own → c2 ≡ c → Wrote a d printed r c2 n
wrote-next {b = b} {d} {own = own} {printed} {r = r} {n = n} w e f h p g = rw g (wrote-piece w (subst (Appends b d) (f ∙ ap (λ (u : List ℕ). u ++ own) e) h) p)

pub wrote-all : {a b : Option (List ℕ)} {printed : List ℕ} {c : Code} {m : Memory} (r : Option Pending) → ((j : Pending) → r ≡ Some j → ⊥) → Wrote a b printed r c m → Appends a b printed
wrote-all {a} {b} {c = c} {m} None h w = subst (Appends a b) (sym (w.is ∙ ap (λ (u : List ℕ). w.text ++ u) (left-none c m) ∙ append-nil w.text)) w.grown
wrote-all (Some j) h w = absurd (h j refl)
