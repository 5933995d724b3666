use Rattle.std.proofs.Common.{◌≡◌, take}
use Rattle.machine.specs.Records.{words_bytes}
use Rattle.machine_log.specs.Logged.{logged}
use Rattle.machine_log.proofs.calls.put_words.Given as goal

abbrev pub invariant-loop-i : goal.invariant-loop-i
invariant-loop-i l = l.b ≡ logged l.initial.b l.at (words_bytes (take l.i l.words))
