-- What the code's answers to the helper call and to the row call stand for.
use Rattle.std.specs.Prelude.{ℕ, List, replicate, Result, Ok, Err}
use Rattle.machine.specs.declared.refusal.PlaceA.{PlaceA}
use Rattle.machine.specs.Refusal.{number_a}
use Rattle.machine.specs.Given.{Given, given}

-- k words, or the number with as many zeros
abbrev pub given_in : ℕ → Result (List ℕ) PlaceA → Given
given_in k (Ok words) = given 0 words
given_in k (Err e) = given (number_a e) (replicate k 0)
