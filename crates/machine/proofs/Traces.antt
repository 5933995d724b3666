-- A trace of sixteen words is six states of words. Assumes nothing.
use mathlib.Core.Path.{◌≡◌}
use mathlib.Core.List.{List}
use Prim.Native.Nat.{ℕ}
use lib.ListN.{length}
use Rattle.tip5.specs.Permutation.{trace_of}
use Rattle.tip5.proofs.permutation.Laws as tip5
use Rattle.machine.specs.Words.{Words}
use Rattle.machine.proofs.Words.{words_get_d, words-all}

pub trace-length : (s : List ℕ) → length s ≡ 16 → length (trace_of s) ≡ 96
trace-length s h = tip5.trace-length s h

pub trace-words : (s : List ℕ) → length s ≡ 16 → Words s → Words (trace_of s)
trace-words s h b = words-all (trace_of s) (λ k l. tip5.trace-words s (λ i. words_get_d i b) k)
