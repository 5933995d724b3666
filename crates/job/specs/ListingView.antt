-- What the structs of the lines stand for.
use Rattle.std.specs.Prelude.{List, ℕ}
use Rattle.job.specs.declared.listing.Direction.{Direction}
use Rattle.job.specs.declared.listing.Direction.TheVariants.{Read, Write}
use Rattle.job.specs.declared.listing.StackLine.{StackLine}
use Rattle.job.specs.declared.listing.Counts.{Counts}
use Rattle.job.specs.declared.listing.EndLine.{EndLine}
use Rattle.job.specs.declared.listing.EndLine.TheVariants.{Halted, Spent, Refused}
use Rattle.job.specs.Listing.{stack_line, counts_of, halted_line, spent_line, refused_line}

abbrev pub direction_number : Direction → ℕ
direction_number Read = 0
direction_number Write = 1

abbrev pub stack_text_of : StackLine → List ℕ
stack_text_of l = stack_line l.clock l.pointer (direction_number l.direction) l.value

abbrev pub counts_text : Counts → List ℕ
counts_text c = counts_of c.steps c.pointer c.depth

abbrev pub end_text : EndLine → List ℕ
end_text (Halted c) = halted_line c.steps c.pointer c.depth
end_text (Spent c) = spent_line c.steps c.pointer c.depth
end_text (Refused k c) = refused_line k c.steps c.pointer c.depth
