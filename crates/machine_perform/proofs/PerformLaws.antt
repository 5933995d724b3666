-- Laws of an effect's performance: a row of writes turn by turn, what the parts of the machine come to, and that effects with
-- a trace perform as those without. Assumes nothing.
use mathlib.Core.Path.{◌≡◌, refl, sym, ap, ◌∙◌}
use mathlib.Core.List.{List, [], ◌∷◌, ◌++◌, map}
use Prim.Native.Nat.{ℕ, suc, ◌+◌, ◌-◌, ◌*◌, ◌≤◌, ◌<◌}
use native.Mathlib.Numerals.{add-one}
use native.Mathlib.Omega.{arith}
use lib.ListN.{length, take, drop, get_or, length-drop}
use lib.Seq.{length-take-le}
use Rattle.tip5.specs.declared.sponge.Sponge.{Sponge}
use Rattle.machine.specs.declared.state.VMState.{VMState}
use Rattle.machine_effects.specs.declared.effect.Effect.{Effect as CodeEffect}
use Rattle.machine_effects.specs.declared.effect.Access.{Access}
use Rattle.machine_effects.specs.declared.effect.Accesses.{Accesses}
use Rattle.machine_effects.specs.declared.effect.Direction.{Direction}
use Rattle.machine_effects.specs.declared.effect.Direction.TheVariants.{Read, Write}
use Rattle.machine_effects.specs.declared.effect.U32Calls.{U32Calls}
use Rattle.machine_effects.specs.declared.effect.U32Calls.TheVariants.{Zero, One, Two}
use Rattle.machine_hashing.specs.declared.hashing.Hashed.{Hashed}
use Rattle.machine_hashing.specs.declared.hashing.Recorded.{Recorded}
use Rattle.machine_hashing.specs.declared.hashing.Recorded.TheVariants.{Reset, First, Last}
use Rattle.machine.specs.Ram.{Cells, cells, stored}
use Rattle.machine_ram.specs.RamView.{Ordered, Room, Stored}
use Rattle.machine_ram.specs.LentCells.{Keeps}
use Rattle.machine_ram.specs.declared.ram_mut.RamMut.{RamMut}
use Rattle.machine.specs.Machine.{Memory, memory, Machine, ram}
use Rattle.machine.specs.Effect.{Call, reset, tip5, u32, ram_read, ram_write, SpongeChange, keeps, Effect}
use Rattle.machine_effects.specs.EffectView.{u32s_of, access_of, accesses_of, first_accesses, jump_of, effect_of}
use Rattle.machine_log.specs.Logged.{u32_bytes, u32_count, call_bytes}
use Rattle.machine_hashing.specs.HashedView.{with_sponge, recorded_with, sponge_change, hashed_effect}
use Rattle.machine.specs.Apply.{put, applied_stack, origins_after, destinations_after, touched, pointer_after, sponge_after, performed_at, performed, limits_of}
use Rattle.machine_perform.specs.PerformView.{WritesRow, Fit, moved_to, Ready, Performed}
use Rattle.machine.specs.Sound.{Sound, Facts}
use Rattle.machine.proofs.Touched.{touched_addresses, touched_values}
use Rattle.machine.proofs.Preserved.{limits_fit}
use Rattle.machine.proofs.Does.{call_sizes}
use Rattle.machine_perform.proofs.LimitsLaws.{writes_touch, writes_start, writes_end, writes_more}
use Rattle.machine_ram.proofs.RamView.{stored-ordered}

-- ---- a row of writes: the first i are made

pub keeps_same : (a : RamMut) → Keeps a a
keeps_same a = record { addresses = refl; values = refl }

pub keeps_on : {a b c : RamMut} → Keeps a b → Keeps b c → Keeps a c
keeps_on h k = record { addresses = k.addresses ∙ h.addresses; values = k.values ∙ h.values }

pub record Wrote (c : Cells) (w : List Access) (i : ℕ) (d : Cells) : Type 0 where
  pub is : d ≡ touched c (first_accesses Write w i)
  pub ordered : Ordered d.addresses d.count

pub wrote_none : {c : Cells} {w : List Access} → WritesRow c w → Wrote c w 0 c
wrote_none {c} {w} r = record { is = writes_start w c; ordered = r.ordered }

module _ {c : Cells} {w : List Access} {i : ℕ} {d : Cells} (r : WritesRow c w) (h : i < length w) (k : Wrote c w i d) where
  pub wrote_room : (e : Access) {x : Access} → x ≡ get_or w i e → Room d x.address x.value
  wrote_room e {x} q =
      let ad : length d.addresses ≡ length c.addresses = ap (λ (z : Cells). length z.addresses) k.is ∙ touched_addresses (first_accesses Write w i) c in
      let vs : length d.values ≡ length c.values = ap (λ (z : Cells). length z.values) k.is ∙ touched_values (first_accesses Write w i) c in
      let s : (stored d x.address x.value).count ≡ (touched c (first_accesses Write w (suc i))).count =
      ap (λ (z : Cells). (stored z x.address x.value).count) k.is ∙ ap (λ (z : Access). (stored (touched c (first_accesses Write w i)) z.address z.value).count) q
      ∙ ap (λ (z : Cells). z.count) (sym (writes_end w c i e h)) in
      let m = writes_more w c (suc i) (length w) h (omega arith) in
      record {
        ordered = k.ordered;
        pair = ad ∙ r.pair ∙ sym vs;
        fits = rw s (omega (arith, m, r.fits, ad));
      }

  pub wrote_turn : (e : Access) {x : Access} {b : Cells} → x ≡ get_or w i e → Stored d x.address x.value b → Wrote c w (i + 1) b
  wrote_turn e {x} q s =
      record {
        is =
            s.is ∙ ap (λ (z : Cells). stored z x.address x.value) k.is ∙ ap (λ (z : Access). stored (touched c (first_accesses Write w i)) z.address z.value) q
            ∙ rw add-one (sym (writes_end w c i e h));
        ordered = stored-ordered (wrote_room e q) s;
      }

-- ---- the parts of the machine

pub performed-is : (s : VMState) (e : CodeEffect) (q : ℕ) (sponge : Sponge) (m : Memory) (r : VMState) (n : ℕ) (stack origins destinations addresses values output : List ℕ) →
    stack ≡ applied_stack m.op_stack s.depth e.pops (take e.words.count e.words.words) →
    origins ≡ origins_after m.origins s.jumps (jump_of e.jump) →
    destinations ≡ destinations_after m.destinations s.jumps (jump_of e.jump) →
    cells n addresses values ≡ touched (cells s.cells m.addresses m.values) (accesses_of e.accesses) →
    output ≡ put m.output s.outputs (take e.output.count e.output.words) →
    r ≡ moved_to s e q sponge n →
    Performed s e q sponge m r (memory stack origins destinations addresses values output)
unfolding effect_of
performed-is s e q sponge m r n stack origins destinations addresses values output hs ho hd hc hw hr =
    let t = writes_touch e (cells s.cells m.addresses m.values) ∙ sym hc in
    record {
      is = λ c. rw (hr, hs, ho, hd, hw, t);
    }

-- the effect keeps the sponge
pub performed-plain : (m : Machine) (e : CodeEffect) → performed m (effect_of e) ≡ performed_at m (effect_of e) (pointer_after m (effect_of e).next) m.state.sponge
unfolding performed effect_of
performed-plain m e = refl

-- ---- effects with a trace: the sponge's calls do not touch RAM

trace_touch : (cs : List Call) (o : ℕ) (t : List ℕ) (c : Cells) → touched c (cs ++ (tip5 o t ∷ [])) ≡ touched c cs
unfolding touched
trace_touch [] o t c = refl
trace_touch (reset ∷ cs) o t c = trace_touch cs o t c
trace_touch (tip5 p s ∷ cs) o t c = trace_touch cs o t c
trace_touch (u32 p l r ∷ cs) o t c = trace_touch cs o t c
trace_touch (ram_read a v ∷ cs) o t c = trace_touch cs o t c
trace_touch (ram_write a v ∷ cs) o t c = trace_touch cs o t (stored c a v)

recorded_touch : (r : Recorded) (cs : List Call) (c : Cells) → touched c (recorded_with r cs) ≡ touched c cs
unfolding touched
recorded_touch Reset cs c = refl
recorded_touch (First o t) cs c = refl
recorded_touch (Last o t) cs c = trace_touch cs o t c

module _ (m : Machine) (h : Hashed) (e : Effect) where
  pub hashed_performs : performed m (hashed_effect h e) ≡ performed_at m e (pointer_after m e.next) (sponge_after m.state.sponge (sponge_change h.sponge))
  unfolding performed
  hashed_performs = rw (recorded_touch h.recorded e.calls (ram m))

  pub hashed_limits : limits_of m (hashed_effect h e) ≡ limits_of m e
  unfolding limits_of
  hashed_limits = rw (recorded_touch h.recorded e.calls (ram m))

-- ---- what a sound machine and the facts of an effect give

pub sizes_append : (v : ℕ) (xs ys : List Call) → call_sizes v (xs ++ ys) ≡ call_sizes v xs + call_sizes v ys
sizes_append v [] ys = omega arith
sizes_append v (x ∷ xs) ys = omega (arith, sizes_append v xs ys)

accesses_sizes : (v : ℕ) (d : Direction) (xs : List Access) → call_sizes v (map (access_of d) xs) ≡ 25 * length xs
accesses_sizes v d [] = refl
accesses_sizes v Read (x ∷ xs) = omega (arith, accesses_sizes v Read xs)
accesses_sizes v Write (x ∷ xs) = omega (arith, accesses_sizes v Write xs)

row_bytes : (v : ℕ) (d : Direction) (s : List Access) (n : ℕ) → n ≤ length s → call_sizes v (first_accesses d s n) ≡ 25 * n
unfolding first_accesses
row_bytes v d s n h = accesses_sizes v d (take n s) ∙ ap (λ (k : ℕ). 25 * k) (length-take-le n s h)

accesses_bytes : (v : ℕ) (a : Accesses) → a.reads ≤ a.count → a.count ≤ length a.cells → call_sizes v (accesses_of a) ≡ 25 * a.count
accesses_bytes v a o h =
    let s = drop a.reads a.cells in
    let l : length s ≡ length a.cells - a.reads = length-drop a.reads a.cells in
    let m : a.count - a.reads ≤ length s = omega (arith, l) in
    sizes_append v (first_accesses Read a.cells a.reads) (first_accesses Write s (a.count - a.reads))
    ∙ omega (arith, row_bytes v Read a.cells a.reads (omega (arith, o, h)), row_bytes v Write s (a.count - a.reads) m)

pub fit_of : (m : Machine) (e : CodeEffect) → Sound m → e.pops ≤ 16 → Fit m.state e m.memory
fit_of m e s p = record {
  pops = omega (arith, s.deep);
  depth = s.op_stack.used;
  stack_few = s.op_stack.few;
  jumps = s.origins.used;
  jumps_few = s.origins.few;
  ordered = record { within = s.cells.used; ascending = s.cells.ascending };
  pair = s.cells.pair;
  cells_few = s.cells.few;
  written = s.outputs;
  output_few = s.output_few;
}

pub ready_of : (m : Machine) (e : CodeEffect) (change : SpongeChange) (cs : List Call) → Sound m → Facts m (with_sponge (effect_of e) change cs) → limits_of m (effect_of e) ≡ 0 → Ready m.state e m.memory
unfolding effect_of
ready_of m e change cs s f l =
    let g = limits_fit m (effect_of e) l in
    record {
      moves = record {
        pops = omega (arith, s.deep, f.pops);
        depth = omega (arith, s.op_stack.used, s.op_stack.few);
        jumps = omega (arith, s.origins.used, s.origins.few);
        outputs = omega (arith, s.outputs, s.output_few);
        publics = omega (arith, f.publics, s.code.public_few);
        secrets = omega (arith, f.secrets, s.code.secret_few);
        digests = omega (arith, f.digests, s.code.digests_few);
        clock = g.clock;
      };
      depth = s.op_stack.used;
      deeper = g.depth;
      writes = record {
        ordered = record { within = s.cells.used; ascending = s.cells.ascending };
        pair = s.cells.pair;
        fits = rw (← writes_touch e (ram m)) g.cells;
      };
      output = g.output;
    }

pub ready-plain : (m : Machine) (e : CodeEffect) → Sound m → Facts m (effect_of e) → limits_of m (effect_of e) ≡ 0 → Ready m.state e m.memory
unfolding effect_of
ready-plain m e s f l = ready_of m e keeps (effect_of e).calls s f l

-- ---- the bytes of an effect's calls, exactly

u32s_bytes : (v : ℕ) (u : U32Calls) → call_sizes v (u32s_of u) ≡ u32_bytes v * u32_count u
u32s_bytes v Zero = omega arith
u32s_bytes v (One a) = omega arith
u32s_bytes v (Two a b) = omega arith

pub call-bytes : (v : ℕ) (e : CodeEffect) → call_sizes v (effect_of e).calls ≡ call_bytes v e
unfolding effect_of
call-bytes v e = sizes_append v (u32s_of e.u32s) (accesses_of e.accesses) ∙ omega (arith, u32s_bytes v e.u32s, accesses_bytes v e.accesses e.accesses.reads_first (omega (arith, e.accesses.fits, e.accesses.long)))
