use Rattle.std.proofs.Common.{◌≡◌, ℕ, ◌<◌, false, length, eqb, sym, ◌∙◌, arith, rules}
use borrow.Author.Tests.{eqb-false}
use Rattle.job.proofs.JobFileLaws.{size_above}
use Rattle.job.proofs.job_file.PiecesIterator.next.Goals as goal

above : (n : ℕ) → eqb n 0 ≡ false → 0 < n
above n h = let e = eqb-false n 0 h in omega arith

pub returns-clause-goes : goal.returns-clause-goes
returns-clause-goes c =
    let h : 0 < length c.args.self.now.0.now = above _ (sym c.is_empty.ensures ∙ c.if-is_empty.false) in
    let e = size_above c.args.self.now.0.now h in
    let f = c.first-piece.ensures.2 in
    search (rules, e, f)
