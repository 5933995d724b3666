-- Replay over a log's bytes is replay over its records; one turn over bytes, without fuel. Assumes nothing.
use mathlib.Core.Path.{◌≡◌, refl, ap, ◌∙◌}
use mathlib.Core.List.{List, [], ◌∷◌}
use Prim.Native.Nat.{ℕ, zero, suc, ◌≤◌, ◌<◌}
use native.Mathlib.Omega.{arith}
use lib.ListN.{length}
use Rattle.machine.specs.Bytes.{Bytes, bytes_of, number_of}
use Rattle.machine.specs.Records.{Record, other, timed, stack, ram, record_bytes, log_bytes, Parsed, ended, broken, found, parse}
use Rattle.machine.proofs.Bytes.{bytes_back}
use Rattle.machine.proofs.Records.{Sized, sized_other, sized_timed, sized_stack, sized_ram, parse-record, Shorter, at_end, at_break, at_record, parse-shorter}
use Rattle.replay.specs.Replay.{Built, Verdict, stops, wrong, goes, read_of, Went, onward, on_parsed, replay_records, replay_bytes}
use Rattle.replay.specs.Demand3.{altered}
use Rattle.replay.proofs.Verdicts.{All, none, more}
use Rattle.replay.proofs.Alter.{changed}

onward-same : (b : Built) (k l : Built → Went) (v : Verdict) → ((x : Built) → k x ≡ l x) → onward b k v ≡ onward b l v
onward-same b k l stops h = refl
onward-same b k l (wrong n) h = refl
onward-same b k l (goes x) h = h x

pub bytes_replay : (v f j : ℕ) (b : Built) {rs : List Record} → All (Sized v) rs → length rs ≤ f → replay_bytes v f j b (log_bytes v rs) ≡ replay_records j b rs
unfolding replay_bytes replay_records log_bytes parse
bytes_replay v zero j b none h = refl
bytes_replay v (suc f) j b none h = refl
bytes_replay v zero j b (more p l) h = absurd (omega arith)
bytes_replay v (suc f) j b (more {r = r} {rs = rs} p l) h =
    let m : length rs ≤ f = omega arith in
    ap (on_parsed b (λ r t. onward b (λ x. replay_bytes v f j x t) (read_of j b r))) (parse-record v r (log_bytes v rs) p)
    ∙ onward-same b _ _ (read_of j b r) (λ x. bytes_replay v f j x l m)

-- ---- one turn

parsed-same : (n : ℕ) (b : Built) (k l : Record → List ℕ → Went) (q : Parsed) → Shorter n q → ((r : Record) (t : List ℕ) → length t < n → k r t ≡ l r t) → on_parsed b k q ≡ on_parsed b l q
parsed-same n b k l ended at_end h = refl
parsed-same n b k l broken at_break h = refl
parsed-same n b k l (found r t) (at_record m) h = h r t m

fuel_enough : (v f g j : ℕ) (b : Built) (s : List ℕ) → length s ≤ f → length s ≤ g → replay_bytes v f j b s ≡ replay_bytes v g j b s
unfolding replay_bytes parse
fuel_enough v zero zero j b s h k = refl
fuel_enough v zero (suc g) j b [] h k = refl
fuel_enough v zero (suc g) j b (x ∷ s) h k = absurd (omega arith)
fuel_enough v (suc f) zero j b [] h k = refl
fuel_enough v (suc f) zero j b (x ∷ s) h k = absurd (omega arith)
fuel_enough v (suc f) (suc g) j b s h k =
    parsed-same (length s) b _ _ (parse v s) (parse-shorter v s) (λ r t m. onward-same b _ _ (read_of j b r) (λ x. fuel_enough v f g j x t (omega arith) (omega arith)))

-- replay of the bytes s of a log of revision v, from b on
unfoldable pub replay_from : ℕ → ℕ → Built → List ℕ → Went
replay_from v j b s = replay_bytes v (length s) j b s

pub replay_turn : (v j : ℕ) (b : Built) (s : List ℕ) → replay_from v j b s ≡ on_parsed b (λ r t. onward b (λ x. replay_from v j x t) (read_of j b r)) (parse v s)
unfolding replay_from replay_bytes
replay_turn v j b s =
    let u : length s ≤ suc (length s) = omega arith in
    let w : length s ≤ length s = omega arith in
    fuel_enough v (length s) (suc (length s)) j b s w u
    ∙ parsed-same (length s) b _ _ (parse v s) (parse-shorter v s) (λ r t m. onward-same b _ _ (read_of j b r) (λ x. fuel_enough v (length s) (length t) j x t (omega arith) (omega arith)))

-- ---- other eight bytes in place of a value

-- they make the bytes of the record with the number that they give
pub altered-is : (v : ℕ) (r : Record) (b : List ℕ) → Bytes b → length b ≡ 8 → altered v r b ≡ record_bytes v (changed r (number_of b))
unfolding altered record_bytes changed
altered-is v r b h e = go r
  where
    f : bytes_of 8 (number_of b) ≡ b
    f = rw (← e) (bytes_back h)

    go : (x : Record) → altered v x b ≡ record_bytes v (changed x (number_of b))
    go (other k s) = refl
    go (timed k t s) = refl
    go (stack t q d x) = rw f
    go (ram t a x d) = rw f

-- with its own eight bytes a record is as it was
pub altered-same-stack : (v t q d x : ℕ) → altered v (stack t q d x) (bytes_of 8 x) ≡ record_bytes v (stack t q d x)
unfolding altered record_bytes
altered-same-stack v t q d x = refl

pub altered-same-ram : (v t a x d : ℕ) → altered v (ram t a x d) (bytes_of 8 x) ≡ record_bytes v (ram t a x d)
unfolding altered record_bytes
altered-same-ram v t a x d = refl

pub changed-length : (v : ℕ) (r : Record) (x : ℕ) → length (record_bytes v (changed r x)) ≡ length (record_bytes v r)
unfolding record_bytes changed bytes_of
changed-length v (other k b) x = refl
changed-length v (timed k t b) x = refl
changed-length v (stack t q d y) x = refl
changed-length v (ram t a y d) x = refl

pub changed-sized : (v : ℕ) (r : Record) (x : ℕ) → x < 18446744073709551616 → Sized v r → Sized v (changed r x)
unfolding changed
changed-sized v r x h (sized_other i j k) = sized_other i j k
changed-sized v r x h (sized_timed i j k l) = sized_timed i j k l
changed-sized v r x h (sized_stack i j k) = sized_stack i j h
changed-sized v r x h (sized_ram i j k) = sized_ram i j h
