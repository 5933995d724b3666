-- Which decision the code's answer of a hashing instruction stands for.
use Rattle.std.specs.Prelude.{ℕ, List, [], ◌∷◌, ◌++◌, Option, Some, None, Result, Ok, Err}
use Rattle.tip5.specs.declared.sponge.Sponge.{Sponge}
use Rattle.machine_effects.specs.declared.effect.Refused.{Refused}
use Rattle.machine_effects.specs.declared.effect.Refused.TheVariants.{Kept, Dropped}
use Rattle.machine_hashing.specs.declared.hashing.Hashed.{Hashed}
use Rattle.machine_hashing.specs.declared.hashing.Recorded.{Recorded}
use Rattle.machine_hashing.specs.declared.hashing.Recorded.TheVariants.{Reset, First, Last}
use Rattle.machine.specs.Refusal.{refusal_of}
use Rattle.machine.specs.Effect.{Call, reset, tip5, SpongeChange, keeps, becomes, Effect, Decision, acts, refuses, drops}
use Rattle.machine.specs.Hashing.{sponged}
use Rattle.machine_effects.specs.EffectView.{effect_of}

-- the effect e with this change of the sponge and these calls
abbrev pub with_sponge : Effect → SpongeChange → List Call → Effect
with_sponge e s cs =
    record {
      pops = e.pops;
      words = e.words;
      next = e.next;
      halts = e.halts;
      jump = e.jump;
      publics = e.publics;
      secrets = e.secrets;
      digests = e.digests;
      output = e.output;
      sponge = s;
      calls = cs;
    }

-- what is recorded, with an effect's own calls
abbrev pub recorded_with : Recorded → List Call → List Call
recorded_with Reset cs = reset ∷ cs
recorded_with (First o t) cs = tip5 o t ∷ cs
recorded_with (Last o t) cs = cs ++ (tip5 o t ∷ [])

abbrev pub sponge_change : Option Sponge → SpongeChange
sponge_change (Some s) = becomes s
sponge_change None = keeps

abbrev pub hashed_calls : Hashed → List Call → List Call
hashed_calls h cs = recorded_with h.recorded cs

abbrev pub hashed_effect : Hashed → Effect → Effect
hashed_effect h e = with_sponge e (sponge_change h.sponge) (hashed_calls h e.calls)

abbrev pub whole_of : Hashed → Effect
whole_of h = hashed_effect h (effect_of h.effect)

unfoldable pub hashed_of : Result Hashed Refused → Decision
hashed_of (Ok h) = acts (whole_of h)
hashed_of (Err (Kept r)) = refuses (refusal_of r)
hashed_of (Err (Dropped r)) = drops (refusal_of r)

-- ---- what they are built of: effects to which a trace is added

-- under an opcode, a trace before the other calls
abbrev pub trace_first : ℕ → List ℕ → Effect → Effect
trace_first o t e = with_sponge e keeps (tip5 o t ∷ e.calls)

-- the same of a decision
abbrev pub traced_first : ℕ → List ℕ → Decision → Decision
traced_first o t (acts e) = acts (trace_first o t e)
traced_first o t (refuses r) = refuses r
traced_first o t (drops r) = drops r

-- under an opcode, a trace behind the other calls; its last state becomes the sponge
abbrev pub trace_last : ℕ → List ℕ → Effect → Effect
trace_last o t e = with_sponge e (sponged t) (e.calls ++ (tip5 o t ∷ []))
