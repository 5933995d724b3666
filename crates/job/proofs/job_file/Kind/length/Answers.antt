use Rattle.std.proofs.Common.{refl, arith}
use Rattle.job.specs.JobFile.{length_in}
use Rattle.job.proofs.job_file.Kind.length.Goals as goal

pub returns-in-Digest : goal.returns-in-Digest
unfolding length_in
returns-in-Digest c = rw c.in-Digest.is (refl, omega arith)

pub returns-in-Slot : goal.returns-in-Slot
unfolding length_in
returns-in-Slot c = rw c.in-Slot.is (refl, omega arith)

pub returns-in-PublicWord : goal.returns-in-PublicWord
unfolding length_in
returns-in-PublicWord c = rw c.in-PublicWord.is (refl, omega arith)

pub returns-in-SecretWord : goal.returns-in-SecretWord
unfolding length_in
returns-in-SecretWord c = rw c.in-SecretWord.is (refl, omega arith)

pub returns-in-SecretDigest : goal.returns-in-SecretDigest
unfolding length_in
returns-in-SecretDigest c = rw c.in-SecretDigest.is (refl, omega arith)

pub returns-in-Cell : goal.returns-in-Cell
unfolding length_in
returns-in-Cell c = rw c.in-Cell.is (refl, omega arith)

pub returns-in-Budget : goal.returns-in-Budget
unfolding length_in
returns-in-Budget c = rw c.in-Budget.is (refl, omega arith)
