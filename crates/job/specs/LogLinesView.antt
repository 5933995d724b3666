-- What the structs of a log's lines stand for.
use Rattle.std.specs.Prelude.{◌≡◌, List, [], ℕ, ◌<◌, take, drop, MatchOption}
use Rattle.std.specs.declared.option.Option.{Option}
use Rattle.machine.specs.Records.{length_of, record_of}
use Rattle.job.specs.declared.log_lines.Record.{Record}
use Rattle.job.specs.declared.log_lines.Record.TheVariants.{Stack, Other}
use Rattle.job.specs.Frame.{kind_in, size_by}
use Rattle.job.specs.ListingView.{stack_text_of}
use Rattle.job.specs.LogLines.{line_of}

abbrev pub text_of : Record → List ℕ
text_of (Stack l) = stack_text_of l
text_of Other = []

-- r is the line of the record at the start of b, and c what stands behind it; none, and b, where no whole one stands
abbrev pub NextRecord : List ℕ → Option Record → List ℕ → Type 0
NextRecord b r c =
    let n = size_by (length_of 1) b in
    MatchOption r ((n ≡ 0) × (c ≡ b)) (λ x. (0 < n) × (text_of x ≡ line_of (record_of (kind_in b) (take n b))) × (c ≡ drop n b))
