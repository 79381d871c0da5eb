-- What always holds of both graphs' runs from the entry.
use Rattle.std.proofs.Common.{◌≡◌, ◌∙◌, ℕ, ◌-◌, ◌%◌, ◌≤◌, ◌<◌, ◌^◌, ◌&&◌, ◌||◌, Bool, true, false, if◌then◌else◌, List, [], ◌∷◌, Option, Some, None, unwrap_or, refl, sym, ap, subst, inl, inr, arith}
use Rattle.std.specs.List.{All}
use Rattle.std.specs.FinMap.{get}
use Rattle.std.proofs.lemmas.Bool.{cases_Bool, cases_lt, lt-ltb, le-ltb, eq-eqb, and_from, or_left, or_right}
use Rattle.memory_spec.specs.Memory.{byte_at}
use Rattle.memory_spec.specs.Zones.{Zone}
use Rattle.rv_machine_spec.specs.Machine.{Machine, IsMachine, read_register}
use Rattle.term_core_spec.specs.declared.Width.TheVariants.{W32}
use Rattle.term_core_spec.specs.declared.Variable.{Variable}
use Rattle.term_core_spec.specs.Term.{Term, equal, open_term}
use Rattle.graph_core_spec.specs.TransitionSystem.{after}
use Rattle.term_core_spec.specs.Value.{Value, Number, Bytes, Assignment}
use Rattle.path_cond_spec.specs.Passages.{holds}
use Rattle.elf_read_spec.specs.Image.{Image, fixed_byte}
use Rattle.graph_core_spec.specs.Graph.{Node, Graphs, node_at}
use Rattle.graph_core_spec.specs.Variables.{own_bindings}
use Rattle.decompile_laws.specs.Together.{Numbering, Corresponds, corresponds, at_tail_landing, at_home, StepTogether, ReturnTogether, run}
use Rattle.graph_core_spec.specs.Run.{State, Waiting, Running, Returned, Failed, has_failed, has_returned, is_shared, is_zone_end, system_of}
use Rattle.graph_core_spec.specs.Fixed.{has_byte, holds_byte, AlwaysHoldsFixed}
use Rattle.decompile_spec.specs.State.{Alike, entry_register}
use Rattle.sim_rules_spec.specs.Points.{Convention, values_in, values_at, outermost_values, all_hold, binary_memory, source_memory, bounded, nothing, entry_zone, source_zone}
use Rattle.sim_rules_spec.specs.Systems.{entry_holds, source_always}
use Rattle.sim_rules_spec.specs.Calling.{word}
use Rattle.c_graph_spec.specs.State.{zone_low, zone_high}
use Rattle.c_graph_spec.specs.SourceGraph.{body_number, graphs_of}
use Rattle.sim_rules_spec.proofs.Truths.{pass_all}
use Rattle.agreement_laws.specs.EntryFrame.{Pair, place_of, convention_of, entry_frame, entry_premises}
use Rattle.agreement_laws.specs.Statements.{binary_entry, source_entry}
use Rattle.sim_inline_laws.proofs.Steady.{stays_so}
use Rattle.agreement_laws.proofs.ZoneEnds.{never_bound}
use Rattle.agreement_laws.proofs.Premises.{all_more, word_line, zone_holds}
use Rattle.agreement_laws.proofs.ReadBack.{open_value}
use Rattle.agreement_laws.proofs.Entry.{Never, Below, EntryIs, entry_stays}

-- a memory has no byte from 2 ^ 32 on
pub none_far : (m : Machine) → IsMachine m → (a : ℕ) → 2 ^ 32 ≤ a → byte_at m.memory a ≡ 0
unfolding byte_at
none_far m is a far = by (get m.memory a) refl
  where
    by : (o : Option ℕ) → get m.memory a ≡ o → unwrap_or o 0 ≡ 0
    by None e = refl
    by (Some b) e = absurd (let cell = (is.cells a b e).0 in omega arith)

pub far_byte : (m : Machine) → IsMachine m → (at : ℕ) → has_byte (Bytes (byte_at m.memory)) at (bounded nothing at) ≡ true
far_byte m is at = elim (cases_lt at (2 ^ 32)) [
  | inl near ↦ ap (λ (b : Bool). has_byte (Bytes (byte_at m.memory)) at (if b then None else Some 0)) (lt-ltb at (2 ^ 32) near)
  | inr far ↦ ap (λ (b : Bool). has_byte (Bytes (byte_at m.memory)) at (if b then None else Some 0)) (le-ltb at (2 ^ 32) far) ∙ eq-eqb (byte_at m.memory at) 0 (none_far m is at far)
]

-- the source's memory has the fixed bytes, and none from 2 ^ 32 on
pub fixed_bytes : (m : Machine) → IsMachine m → (fixed : ℕ → Option ℕ) → ((at byte : ℕ) → fixed at ≡ Some byte → byte_at m.memory at ≡ byte)
    → (at : ℕ) → has_byte (Bytes (byte_at m.memory)) at (bounded fixed at) ≡ true
fixed_bytes m is fixed has at = elim (cases_lt at (2 ^ 32)) [
  | inl near ↦ ap (λ (b : Bool). has_byte (Bytes (byte_at m.memory)) at (if b then fixed at else Some 0)) (lt-ltb at (2 ^ 32) near) ∙ by (fixed at) refl
  | inr far ↦ ap (λ (b : Bool). has_byte (Bytes (byte_at m.memory)) at (if b then fixed at else Some 0)) (le-ltb at (2 ^ 32) far) ∙ eq-eqb (byte_at m.memory at) 0 (none_far m is at far)
]
  where
    by : (o : Option ℕ) → fixed at ≡ o → has_byte (Bytes (byte_at m.memory)) at o ≡ true
    by None e = refl
    by (Some byte) e = eq-eqb (byte_at m.memory at) byte (has at byte e)

-- ---- a variable that the outermost function never binds, in the state of a run

module _ (u : Variable) (own : is_shared u ≡ false) (x : Value) (graphs : Graphs) (outermost : ℕ)
    (never : (n : ℕ) (node : Node) → node_at graphs outermost n ≡ Some node → Never u (own_bindings node)) where
  deeper : (f : Waiting) (below : List Waiting) → Below u own x graphs outermost never f below → outermost_values f.values below u ≡ x
  deeper f [] h = h.1
  deeper f (k ∷ below) h =
      ap (λ (shared : Bool). if shared then f.values u else outermost_values k.values below u) own ∙ deeper k below h

  pub values_entry : (s : State) → EntryIs u own x graphs outermost never s → has_failed s ≡ false → values_in s u ≡ x
  values_entry (Running g n values []) h live = h.1
  values_entry (Running g n values (f ∷ below)) h live =
      ap (λ (shared : Bool). if shared then values u else outermost_values f.values below u) own ∙ deeper f below h
  values_entry (Returned values) h live = h
  values_entry Failed h live = absurd (let bad : true ≡ false = live in cc)

-- the values of a state that a machine corresponds to
values_of_state : State → Assignment → Assignment
values_of_state (Running g n values below) other = values
values_of_state s other = other

alike_there : (image : Image) (entry : ℕ) (n : Numbering) (home : ℕ) (m : Machine) (begun : ℕ) (s : State) → Corresponds image entry n home m begun s
    → (g node : ℕ) (values : Assignment) (below : List Waiting) → s ≡ Running g node values below → Alike m values
unfolding values_of_state
alike_there image entry n home m _ _ (corresponds function size at begun back v waiting reaches size_is here in_run_ups alike began are) g node values below e =
    subst (Alike m) (ap (λ (s : State). values_of_state s v) e) alike
alike_there image entry n home m _ _ (at_tail_landing graph at v waiting lands alike rest) g node values below e =
    subst (Alike m) (ap (λ (s : State). values_of_state s v) e) alike
alike_there image entry n home m _ _ (at_home v there alike) g node values below e = absurd (let bad : true ≡ false = ap has_returned e in cc)

not_failed : (s : State) → s ≡ Failed → (g node : ℕ) (values : Assignment) (below : List Waiting) → s ≡ Running g node values below → ⊥
not_failed s failed g node values below e = let bad : true ≡ false = sym (ap has_failed failed) ∙ ap has_failed e in cc

module _ (p : Pair) (had : ℕ → ℕ) (a : Assignment)
    (never : (r n : ℕ) (node : Node) → node_at p.graphs (p.numbering.graph_number p.entry) n ≡ Some node → Never (entry_register r) (own_bindings node))
    (begins : (r : ℕ) → a (entry_register r) ≡ Number W32 (had r))
    (premises : (s : Assignment) → ((r : ℕ) → s (entry_register r) ≡ Number W32 (had r)) → All (λ (line : Term). holds s line ≡ true) (entry_premises p))
    (room : p.stack ≤ had 2) (below : had 2 < 2 ^ 32) where
  abbrev called : Convention
  called = convention_of p (record { low = had 2 - p.stack; high = had 2 })

  -- a state of the run has the registers at entry
  pub entries_there : (k : ℕ) (s : State) → run p.graphs p.numbering p.entry a k ≡ s → has_failed s ≡ false → (r : ℕ) → values_in s (entry_register r) ≡ Number W32 (had r)
  entries_there k s e live r =
      values_entry (entry_register r) refl (Number W32 (had r)) p.graphs (p.numbering.graph_number p.entry) (never r) s
      (subst (λ (t : State). EntryIs (entry_register r) refl (Number W32 (had r)) p.graphs (p.numbering.graph_number p.entry) (never r) t) e
      (entry_stays (entry_register r) refl (Number W32 (had r)) p.graphs (p.numbering.graph_number p.entry) (never r) k (binary_entry p a) (refl, begins r))) live

  abbrev pub lines_hold : ℕ → State → Bool
  lines_hold at s =
      entry_holds (entry_frame p) at s Failed && (has_failed s || all_hold (entry_zone (convention_of p (record { low = had 2 - p.stack; high = had 2 }))) at s Failed)

  pub lines_there : (k : ℕ) (s : State) → run p.graphs p.numbering p.entry a k ≡ s → has_failed s ≡ false → (at : ℕ) → lines_hold at s ≡ true
  lines_there k s e live at =
      let there : Assignment = values_at at s Failed in
      and_from (entry_holds (entry_frame p) at s Failed) (has_failed s || all_hold (entry_zone called) at s Failed)
      (or_right (has_failed s) (all_hold (entry_premises p) at s Failed)
      (pass_all (λ (line : Term). holds there line) (entry_premises p) (premises there (entries_there k s e live))))
      (or_right (has_failed s) (all_hold (entry_zone called) at s Failed)
      (pass_all (λ (line : Term). holds there line) (entry_zone called) (zone_holds p had room below there (entries_there k s e live))))

module _ (p : Pair) (m : Machine) (a : Assignment) (stop : ℕ) (steps : StepTogether p.image p.entry p.numbering p.graphs m a stop)
    (home : ReturnTogether p.image p.entry p.numbering p.graphs m a) (aligned : read_register m 1 % 4 ≡ 0) where
  byte_there : (now : Machine) (values : Assignment) → IsMachine now → Alike now values → (at : ℕ) → has_byte (values binary_memory) at (bounded nothing at) ≡ true
  byte_there now values is alike at = ap (λ (v : Value). has_byte v at (bounded nothing at)) alike.bytes ∙ far_byte now is at

  -- the memory of each machine has no byte from 2 ^ 32 on
  pub far_there : (k at : ℕ) → holds_byte (bounded nothing) binary_memory at (run p.graphs p.numbering p.entry a k) ≡ true
  far_there k at = by (run p.graphs p.numbering p.entry a k) refl
    where
      by : (s : State) → run p.graphs p.numbering p.entry a k ≡ s → holds_byte (bounded nothing) binary_memory at s ≡ true
      by Failed e = refl
      by (Returned values) e = let back = home.graphs_return k values e in byte_there back.2.final values back.2.sound.is_machine back.2.alike at
      by (Running g node values below) e = elim (steps.graphs_lead k) [
        | inl failed ↦ absurd (not_failed _ failed g node values below e)
        | inr more ↦ elim more [
          | inl returning ↦ absurd (returning.0 aligned)
          | inr there ↦ byte_there there.2.now values there.2.sound.is_machine
              (alike_there p.image p.entry p.numbering (read_register m 1) there.2.now there.2.begun _ there.2.alike g node values below e) at
        ]
      ]

-- ---- the source

module _ (p : Pair) (zone : Zone) (b : Assignment) (low : b zone_low ≡ Number W32 zone.low) (high : b zone_high ≡ Number W32 zone.high)
    (fixed : AlwaysHoldsFixed (graphs_of p.unit (place_of p)) (body_number p.body.name p.unit.bodies) (bounded (fixed_byte p.image)) source_memory (source_entry p b)) where
  abbrev graphs : Graphs
  graphs = graphs_of p.unit (place_of p)

  abbrev outermost : ℕ
  outermost = body_number p.body.name p.unit.bodies

  abbrev source_lines : List Term
  source_lines = source_zone (convention_of p zone)

  -- no node of the unit's graphs binds an end of the zone
  stays : (k : ℕ) (s : State) → after (system_of graphs outermost) k (source_entry p b) ≡ s → has_failed s ≡ false → (u : Variable) → is_zone_end u ≡ true → is_shared u ≡ true
      → (x : Value) → b u ≡ x → values_in s u ≡ x
  stays k s e live u end shared x begins =
      subst (λ (t : State). values_in t u ≡ x) e
      (stays_so graphs u (never_bound p.unit (place_of p) u end shared) x outermost k 0 b begins (ap has_failed e ∙ live))

  zone_there : (k : ℕ) (s : State) → after (system_of graphs outermost) k (source_entry p b) ≡ s → has_failed s ≡ false → (at : ℕ) → all_hold source_lines at Failed s ≡ true
  zone_there k s e live at =
      let there : Assignment = values_at at Failed s in
      pass_all (λ (line : Term). holds there line) source_lines
      (all_more (λ (line : Term). holds there line ≡ true) (equal (open_term zone_low) (word zone.low)) (equal (open_term zone_high) (word zone.high) ∷ [])
      (word_line there (open_term zone_low) zone.low (open_value there zone_low ∙ stays k s e live zone_low refl refl (Number W32 zone.low) low))
      (all_more (λ (line : Term). holds there line ≡ true) (equal (open_term zone_high) (word zone.high)) []
      (word_line there (open_term zone_high) zone.high (open_value there zone_high ∙ stays k s e live zone_high refl refl (Number W32 zone.high) high))
      (λ i d lt. absurd (omega (arith, lt)))))

  pub always_source : (k at : ℕ) → source_always (convention_of p zone) at (after (system_of graphs outermost) k (source_entry p b)) ≡ true
  always_source k at =
      let s : State = after (system_of graphs outermost) k (source_entry p b) in
      and_from (holds_byte (bounded (fixed_byte p.image)) source_memory at s) (has_failed s || all_hold source_lines at Failed s) (fixed k at)
      (elim (cases_Bool (has_failed s)) [
        | inl bad ↦ or_left (has_failed s) (all_hold source_lines at Failed s) bad
        | inr live ↦ or_right (has_failed s) (all_hold source_lines at Failed s) (zone_there k s refl live at)
      ])
