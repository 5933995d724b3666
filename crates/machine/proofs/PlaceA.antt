-- What place A accepts is a sound machine, and a sound machine is accepted; what open leaves is one. Assumes nothing.
use mathlib.Core.Path.{◌≡◌, refl, sym, ap, ◌∙◌}
use mathlib.Core.Bool.{Bool, true, false}
use mathlib.Core.List.{List, ◌∷◌}
use Prim.Native.Nat.{ℕ, zero, suc, ◌-◌, ◌/◌, ◌%◌, ◌≤◌, ◌<◌, min}
use native.Mathlib.Omega.{arith}
use borrow.Author.Tests.{eqb-true, eqb-false, ltb-true, ltb-false}
use lib.ListN.{length, get_or, replicate, length-replicate, get_or-eq_default}
use lib.Seq.{get_or-take}
use lib.Dec.{eqb, ltb, lit<, lit≤}
use Rattle.field.specs.Base.{p}
use Rattle.machine.specs.Words.{more, words_of}
use Rattle.machine.specs.Refusal.{Refusal}
use Rattle.machine.specs.Ram.{Cells, cells, cells1, cells2, cells5}
use Rattle.machine.specs.Machine.{Code, Memory, Machine, ram}
use Rattle.machine.specs.Apply.{took, kept}
use Rattle.machine.specs.PlaceA.{longest, code1, memory1, code2, used2, machine2, code34, unused5, machine5, machine_a, open_a}
use Rattle.machine.specs.FeeTable.{Fees, checked}
use Rattle.machine.specs.Open.{opened_stack, opened, open_of}
use Rattle.machine.specs.Sound.{SoundCode, SoundCells, SoundStack, Sound}
use Rattle.choices.proofs.Choice.{first_zero, first-nil, above-not, above-nil, differ_not, differ_nil}
use Rattle.machine.proofs.Words.{words_get_d, words-all, words_zeros, zeros_get_d, word_nil, word_fine, words-at, words-nil, words-whole, words_test, words_used, zeros_nil, zeros_fine}
use Rattle.machine.proofs.FeeTable.{checked-number}
use Rattle.machine.proofs.Refused.{open_accepts, open_refuses}

-- ---- cells

pub cells-sound : (c : Cells) → cells1 c ≡ 0 → cells2 c ≡ 0 → cells5 c ≡ 0 → SoundCells c
unfolding cells1 cells2 cells5
cells-sound c h k l =
    let a = first-nil _ _ h in
    let q : length c.addresses ≡ length c.values = differ_nil _ _ 1 (omega arith) (first-nil _ _ a.1).1 in
    let u : c.count ≤ length c.addresses = above-nil _ _ 5 (omega arith) (first-nil _ _ l).0 in
    let m : min c.count (length c.addresses) ≡ c.count = omega arith in
    let n : min c.count (length c.values) ≡ c.count = omega arith in
    record {
      pair = q;
      few = above-nil _ _ 1 (omega arith) a.0;
      used = u;
      addresses = words-nil c.addresses c.count u (rw m at (first-nil _ _ k).0);
      values = words-nil c.values c.count (omega arith) (rw n at (first-nil _ _ k).1);
      ascending = (first-nil _ _ l).1;
    }

pub cells1-fine : (c : Cells) → SoundCells c → cells1 c ≡ 0
unfolding cells1
cells1-fine c s =
    first_zero _ _ (above-not (length c.addresses) longest 1 s.few)
    ∙ first_zero _ _ (above-not (length c.values) longest 1 (omega (arith, s.few, s.pair)))
    ∙ differ_not (length c.addresses) (length c.values) 1 s.pair

pub cells2-fine : (c : Cells) → SoundCells c → cells2 c ≡ 0
unfolding cells2
cells2-fine c s =
    first_zero _ _ (words_used c.addresses c.count (min c.count (length c.addresses)) (omega arith) s.addresses)
    ∙ words_used c.values c.count (min c.count (length c.values)) (omega arith) s.values

pub cells5-fine : (c : Cells) → SoundCells c → cells5 c ≡ 0
unfolding cells5
cells5-fine c s = first_zero _ _ (above-not c.count (length c.addresses) 5 s.used) ∙ s.ascending

-- ---- program and inputs

pub code-sound : (c : Code) → code1 c ≡ 0 → code2 c ≡ 0 → code34 c ≡ 0 → SoundCode c
unfolding code1 code2 code34
code-sound c h k l =
    let a = first-nil _ _ h in
    let a2 = first-nil _ _ a.1 in
    let a3 = first-nil _ _ a2.1 in
    let a4 = first-nil _ _ a3.1 in
    let a5 = first-nil _ _ a4.1 in
    let a6 = first-nil _ _ a5.1 in
    let b = first-nil _ _ k in
    let b2 = first-nil _ _ b.1 in
    let b3 = first-nil _ _ b2.1 in
    record {
      slots = differ_nil _ _ 1 (omega arith) a6.0;
      slots_few = above-nil _ _ 1 (omega arith) a.0;
      public_few = above-nil _ _ 1 (omega arith) a3.0;
      secret_few = above-nil _ _ 1 (omega arith) a4.0;
      digests_few = above-nil _ _ 1 (omega arith) a5.0;
      fives = differ_nil _ _ 1 (omega arith) a6.1;
      arguments = words-whole c.arguments b.0;
      public = words-whole c.public b2.0;
      secret = words-whole c.secret b3.0;
      digests = words-whole c.digests b3.1;
      known = (first-nil _ _ l).0;
      allowed = (first-nil _ _ l).1;
    }

code1-fine : (c : Code) → SoundCode c → code1 c ≡ 0
unfolding code1
code1-fine c s =
    first_zero _ _ (above-not (length c.opcodes) longest 1 s.slots_few)
    ∙ first_zero _ _ (above-not (length c.arguments) longest 1 (rw (← s.slots) s.slots_few))
    ∙ first_zero _ _ (above-not (length c.public) longest 1 s.public_few)
    ∙ first_zero _ _ (above-not (length c.secret) longest 1 s.secret_few)
    ∙ first_zero _ _ (above-not (length c.digests) longest 1 s.digests_few)
    ∙ first_zero _ _ (differ_not (length c.opcodes) (length c.arguments) 1 s.slots)
    ∙ differ_not (length c.digests % 5) 0 1 s.fives

code2-fine : (c : Code) → SoundCode c → code2 c ≡ 0
unfolding code2
code2-fine c s =
    first_zero _ _ (words_test (length c.arguments) s.arguments)
    ∙ first_zero _ _ (words_test (length c.public) s.public)
    ∙ first_zero _ _ (words_test (length c.secret) s.secret)
    ∙ words_test (length c.digests) s.digests

code34-fine : (c : Code) → SoundCode c → code34 c ≡ 0
unfolding code34
code34-fine c s = first_zero _ _ s.known ∙ s.allowed

-- ---- stacks

stack-sound : (s : List ℕ) (n : ℕ) → length s ≤ longest → n ≤ length s → used2 s n ≡ 0 → unused5 s n ≡ 0 → SoundStack s n
stack-sound s n f u w z = record { few = f; used = u; words = words-all s (λ i l. word i (ltb i n) refl); rest = rest }
  where
    rest : (i : ℕ) → n ≤ i → get_or s i 0 ≡ 0
    rest i h = go (ltb i (length s)) refl
      where
        go : (t : Bool) → ltb i (length s) ≡ t → get_or s i 0 ≡ 0
        go true e = zeros_nil s n (length s - n) z i h (omega (arith, ltb-true i (length s) e))
        go false e = get_or-eq_default s 0 (ltb-false i (length s) e)

    m : min n (length s) ≡ n
    m = omega arith

    word : (i : ℕ) (t : Bool) → ltb i n ≡ t → get_or s i 0 < p
    word i true e =
        rw (← get_or-take n s i 0 (ltb-true i n e)) (words_get_d i (words-nil s n u (rw m at w)))
    word i false e = rw (rest i (ltb-false i n e)) (lit< tt)

stack2_fine : (s : List ℕ) (n : ℕ) → SoundStack s n → used2 s n ≡ 0
stack2_fine s n h = words_test (min n (length s)) h.words

stack5_fine : (s : List ℕ) (n : ℕ) → SoundStack s n → unused5 s n ≡ 0
stack5_fine s n h = zeros_fine s n (length s - n) (λ k l q. h.rest k l)

-- ---- the lent memory's lengths

record Lengths (m : Memory) : Type 0 where
  stack_few : length m.op_stack ≤ longest
  stack_deep : 16 ≤ length m.op_stack
  origins_few : length m.origins ≤ longest
  destinations_few : length m.destinations ≤ longest
  paired : length m.origins ≡ length m.destinations
  ones : cells1 (cells 0 m.addresses m.values) ≡ 0
  output_few : length m.output ≤ longest

memory-lengths : (m : Memory) → memory1 m ≡ 0 → Lengths m
unfolding memory1
memory-lengths m h =
    let a = first-nil _ _ h in
    let b = first-nil _ _ a.1 in
    let c = first-nil _ _ b.1 in
    let d = first-nil _ _ c.1 in
    let e = first-nil _ _ d.1 in
    let f = first-nil _ _ e.1 in
    record {
      stack_few = above-nil _ _ 1 (omega arith) a.0;
      stack_deep = above-nil _ _ 1 (omega arith) b.0;
      origins_few = above-nil _ _ 1 (omega arith) c.0;
      destinations_few = above-nil _ _ 1 (omega arith) d.0;
      paired = differ_nil _ _ 1 (omega arith) e.0;
      ones = f.0;
      output_few = above-nil _ _ 1 (omega arith) f.1;
    }

-- ---- the machine

-- the sponge has sixteen words and the clock 32 bits by their types
pub machine-sound : (m : Machine) → length m.state.sponge.words ≡ 16 → m.state.clock < 4294967296 → machine_a m ≡ 0 → Sound m
unfolding machine_a machine2 machine5 cells1
machine-sound m sixteen clock h =
    let a = first-nil _ _ h in
    let one = first-nil _ _ a.0 in
    let b = first-nil _ _ a.1 in
    let c = first-nil _ _ b.1 in
    let d = first-nil _ _ c.1 in
    let l = memory-lengths m.memory one.1 in
    let t = first-nil _ _ b.0 in
    let t2 = first-nil _ _ t.1 in
    let t3 = first-nil _ _ t2.1 in
    let t4 = first-nil _ _ t3.1 in
    let t5 = first-nil _ _ t4.1 in
    let t6 = first-nil _ _ t5.1 in
    let f = first-nil _ _ d.1 in
    let f2 = first-nil _ _ f.1 in
    let f3 = first-nil _ _ f2.1 in
    let f4 = first-nil _ _ f3.1 in
    let f5 = first-nil _ _ f4.1 in
    let f6 = first-nil _ _ f5.1 in
    let f7 = first-nil _ _ f6.1 in
    let f8 = first-nil _ _ f7.1 in
    let f9 = first-nil _ _ f8.1 in
    let f10 = first-nil _ _ f9.1 in
    let high : m.state.depth ≤ length m.memory.op_stack = above-nil _ _ 5 (omega arith) f2.0 in
    let jumps : m.state.jumps ≤ length m.memory.origins = above-nil _ _ 5 (omega arith) f3.0 in
    let jumps2 : m.state.jumps ≤ length m.memory.destinations = rw (← l.paired) jumps in
    let taken : m.state.digests ≤ length m.code.digests / 5 = above-nil _ _ 5 (omega arith) f7.0 in
    record {
      code = code-sound m.code one.0 t.0 c.0;
      deep = above-nil _ _ 5 (omega arith) f.0;
      op_stack = stack-sound m.memory.op_stack m.state.depth l.stack_few high t2.0 f8.0;
      origins = stack-sound m.memory.origins m.state.jumps l.origins_few jumps t3.0 f9.0;
      destinations = stack-sound m.memory.destinations m.state.jumps l.destinations_few jumps2 t4.0 f10.0;
      paired = l.paired;
      cells = cells-sound (ram m) l.ones t5.0 f10.1;
      output_few = l.output_few;
      outputs = above-nil _ _ 5 (omega arith) f4.0;
      publics = above-nil _ _ 5 (omega arith) f5.0;
      secrets = above-nil _ _ 5 (omega arith) f6.0;
      digests = omega arith;
      sponge = record { sixteen = sixteen; words = words-whole m.state.sponge.words (rw sixteen t6.0) };
      pointer = word_nil m.state.pointer t6.1;
      clock = clock;
      revision = d.0;
    }

memory1-fine : (m : Machine) → Sound m → memory1 m.memory ≡ 0
unfolding memory1 cells1
memory1-fine m s =
    first_zero _ _ (above-not (length m.memory.op_stack) longest 1 s.op_stack.few)
    ∙ first_zero _ _ (above-not 16 (length m.memory.op_stack) 1 (omega (arith, s.deep, s.op_stack.used)))
    ∙ first_zero _ _ (above-not (length m.memory.origins) longest 1 s.origins.few)
    ∙ first_zero _ _ (above-not (length m.memory.destinations) longest 1 s.destinations.few)
    ∙ first_zero _ _ (differ_not (length m.memory.origins) (length m.memory.destinations) 1 s.paired)
    ∙ first_zero _ _ (cells1-fine (ram m) s.cells)
    ∙ above-not (length m.memory.output) longest 1 s.output_few

machine2-fine : (m : Machine) → Sound m → machine2 m ≡ 0
unfolding machine2
machine2-fine m s =
    first_zero _ _ (code2-fine m.code s.code)
    ∙ first_zero _ _ (stack2_fine m.memory.op_stack m.state.depth s.op_stack)
    ∙ first_zero _ _ (stack2_fine m.memory.origins m.state.jumps s.origins)
    ∙ first_zero _ _ (stack2_fine m.memory.destinations m.state.jumps s.destinations)
    ∙ first_zero _ _ (cells2-fine (ram m) s.cells)
    ∙ first_zero _ _ (words_test 16 s.sponge.words)
    ∙ word_fine m.state.pointer s.pointer

machine5-fine : (m : Machine) → Sound m → machine5 m ≡ 0
unfolding machine5
machine5-fine m s =
    let d : m.state.digests ≤ length m.code.digests / 5 = omega (arith, s.digests) in
    first_zero _ _ (above-not 16 m.state.depth 5 s.deep)
    ∙ first_zero _ _ (above-not m.state.depth (length m.memory.op_stack) 5 s.op_stack.used)
    ∙ first_zero _ _ (above-not m.state.jumps (length m.memory.origins) 5 s.origins.used)
    ∙ first_zero _ _ (above-not m.state.outputs (length m.memory.output) 5 s.outputs)
    ∙ first_zero _ _ (above-not m.state.publics (length m.code.public) 5 s.publics)
    ∙ first_zero _ _ (above-not m.state.secrets (length m.code.secret) 5 s.secrets)
    ∙ first_zero _ _ (above-not m.state.digests (length m.code.digests / 5) 5 d)
    ∙ first_zero _ _ (stack5_fine m.memory.op_stack m.state.depth s.op_stack)
    ∙ first_zero _ _ (stack5_fine m.memory.origins m.state.jumps s.origins)
    ∙ first_zero _ _ (stack5_fine m.memory.destinations m.state.jumps s.destinations)
    ∙ cells5-fine (ram m) s.cells

pub machine-accepted : (m : Machine) → Sound m → machine_a m ≡ 0
unfolding machine_a
machine-accepted m s =
    first_zero _ _ (first_zero _ _ (code1-fine m.code s.code) ∙ memory1-fine m s)
    ∙ first_zero _ _ (machine2-fine m s)
    ∙ first_zero _ _ (code34-fine m.code s.code)
    ∙ first_zero _ _ s.revision
    ∙ machine5-fine m s

-- ---- open

zeros_sound : (n : ℕ) → n ≤ longest → SoundStack (replicate n 0) 0
zeros_sound n h = record {
  few = rw (length-replicate {A = ℕ} n 0) h;
  used = omega arith;
  words = words_zeros n;
  rest = λ i _. zeros_get_d n i;
}

opened-rest : (a b c d e n i : ℕ) → 16 ≤ i → get_or (a ∷ b ∷ c ∷ d ∷ e ∷ replicate n 0) i 0 ≡ 0
opened-rest a b c d e n zero h = absurd (omega arith)
opened-rest a b c d e n (suc zero) h = absurd (omega arith)
opened-rest a b c d e n (suc (suc zero)) h = absurd (omega arith)
opened-rest a b c d e n (suc (suc (suc zero))) h = absurd (omega arith)
opened-rest a b c d e n (suc (suc (suc (suc zero)))) h = absurd (omega arith)
opened-rest a b c d e n (suc (suc (suc (suc (suc i))))) h = zeros_get_d n i

stack-opened : (g s : List ℕ) → 16 ≤ length s → length s ≤ longest → words_of g 5 ≡ 0 → SoundStack (opened_stack g s) 16
unfolding opened_stack
stack-opened g s l k h =
    let e : length {A = ℕ} (replicate (length s - 5) 0) ≡ length s - 5 = length-replicate (length s - 5) 0 in
    record {
      few = omega arith;
      used = omega arith;
      words = more (w 4 (lit< tt)) (more (w 3 (lit< tt)) (more (w 2 (lit< tt)) (more (w 1 (lit< tt)) (more (w 0 (lit< tt)) (words_zeros (length s - 5))))));
      rest = opened-rest (get_or g 4 0) (get_or g 3 0) (get_or g 2 0) (get_or g 1 0) (get_or g 0 0) (length s - 5);
    }
  where
    w : (i : ℕ) → i < 5 → get_or g i 0 < p
    w i q = words-at g 5 i q h

pub opened-sound : (v : ℕ) (g : List ℕ) (c : Code) (m : Memory) (n : ℕ) → open_a v g c m n ≡ 0 → Sound (opened v g c m n)
unfolding open_a opened cells1
opened-sound v g c m n h =
    let a = first-nil _ _ h in
    let one = first-nil _ _ a.0 in
    let b = first-nil _ _ a.1 in
    let t = first-nil _ _ b.0 in
    let t2 = first-nil _ _ t.1 in
    let f = first-nil _ _ b.1 in
    let f2 = first-nil _ _ f.1 in
    let l = memory-lengths m one.1 in
    record {
      code = code-sound c one.0 t.0 f.0;
      deep = lit≤ tt;
      op_stack = stack-opened g m.op_stack l.stack_deep l.stack_few t2.0;
      origins = zeros_sound (length m.origins) l.origins_few;
      destinations = zeros_sound (length m.destinations) l.destinations_few;
      paired = ap (λ (k : ℕ). length {A = ℕ} (replicate k 0)) l.paired;
      cells = cells-sound (cells n m.addresses m.values) l.ones t2.1 f2.1;
      output_few = l.output_few;
      outputs = omega arith;
      publics = omega arith;
      secrets = omega arith;
      digests = omega arith;
      sponge = record { sixteen = refl; words = words_zeros 16 };
      pointer = lit< tt;
      clock = lit< tt;
      revision = f2.0;
    }

-- what a successful open gives, with a log of revision v
pub record Opened (v : ℕ) (m : Machine) : Type 0 where
  pub sound : Sound m
  pub clock : m.state.clock ≡ 0
  pub depth : m.state.depth ≡ 16
  pub revision : m.state.revision ≡ v

module _ (f : Fees) (v : ℕ) (g : List ℕ) (c : Code) (m : Memory) (n : ℕ) (x : Machine) where
  -- what is found wrong
  abbrev wrong : Refusal
  wrong = checked f (open_a v g c m n)

  open_took : open_of f v g c m n ≡ took x → (open_a v g c m n ≡ 0) × (opened v g c m n ≡ x)
  open_took e = go (eqb wrong.number 0) refl
    where
      go : (t : Bool) → eqb wrong.number 0 ≡ t → (open_a v g c m n ≡ 0) × (opened v g c m n ≡ x)
      go true q =
          let z = eqb-true wrong.number 0 q in
          let k : took (opened v g c m n) ≡ took x = sym (open_accepts f v g c m n z) ∙ e in
          (checked-number f (open_a v g c m n) z, cc)
      go false q =
          let k : kept wrong ≡ took x = sym (open_refuses f v g c m n (eqb-false wrong.number 0 q)) ∙ e in
          let z : ◌≡◌ {A = ℕ} 0 1 = cc in
          absurd (omega arith)

  pub open_sound : open_of f v g c m n ≡ took x → Opened v x
  unfolding opened
  open_sound e =
      let k = open_took e in
      rw (← k.1) (record { sound = opened-sound v g c m n k.0; clock = refl; depth = refl; revision = refl })
