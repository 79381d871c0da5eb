-- A function whose frame at the entry is simulated is right as the callee of every call of it.
use Rattle.std.proofs.Common.{◌≡◌, ◌≢◌, ◌∙◌, ◌⊎◌, ℕ, ◌+◌, ◌-◌, ◌%◌, ◌^◌, ◌<◌, ◌≤◌, ◌==◌, ◌&&◌, ◌||◌, zero, suc, Bool, true, false, not, if◌then◌else◌, List, [], ◌∷◌, ◌++◌, length, map, slice_get, Contains, Option, Some, None, nat_lt, nat_le, refl, sym, ap, subst, inl, inr, arith}
use Rattle.std.specs.Prelude.{ℤ, IfSome, is_some}
use Rattle.std.specs.List.{All, list_all, list_any}
use Rattle.std.specs.Option.{option_or}
use Rattle.std.proofs.Math.Path.{fun_ext}
use Rattle.std.proofs.Math.Nat.{mod-eq_of_lt}
use Rattle.std.proofs.lemmas.Bool.{cases_Bool, cases_lt, or_cases, and_parts, lt-ltb, ltb-true, leb-true, eqb-true}
use Rattle.std.proofs.lemmas.Nat.{and_mask}
use Rattle.std.proofs.lemmas.Option.{slice_get_within}
use Rattle.std.proofs.lemmas.List.Elements.{All-head, All-tail, All-contains}
use Rattle.memory_spec.specs.Memory.{Memory, byte_at}
use Rattle.memory_spec.specs.Zones.{Zone}
use Rattle.memory_spec.specs.Runs as memory
use Rattle.elf_read_spec.specs.Image.{fixed_byte, global_pointer}
use Rattle.elf_read_spec.proofs.Runs.{runs_are_fixed}
use Rattle.rv_machine_spec.specs.Arithmetic as machine
use Rattle.term_core_spec.specs.declared.Width.TheVariants.{W32}
use Rattle.term_core_spec.specs.declared.WordOperator.TheVariants as operator
use Rattle.term_core_spec.specs.Term.{Term, equal, less, not_term, open_term, subtract, bit_and as and_words}
use Rattle.term_core_spec.specs.Value.{Value, Number, Bytes, Assignment, IsAssignment, value, operation, low_bits, overlaid, laid_over}
use Rattle.term_core_spec.proofs.Sorts.{as_word, as_memory}
use Rattle.path_cond_spec.specs.Passages.{holds}
use Rattle.graph_core_spec.specs.TransitionSystem.{TransitionSystem, after}
use Rattle.graph_core_spec.specs.Simulation.{IsStart}
use Rattle.graph_core_spec.specs.Graph.{Binding, Call, Graph}
use Rattle.graph_core_spec.specs.Run.{State, Running, Returned, Failed, entered, has_failed, system_of, is_truth}
use Rattle.graph_core_spec.specs.Fixed.{has_byte, holds_byte}
use Rattle.graph_core_spec.proofs.Sorts.{entered_sorted}
use Rattle.decompile_spec.specs.Blocks.{Entrance}
use Rattle.decompile_spec.specs.State.{register, entry_register}
use Rattle.decompile_laws.proofs.Values.{words_evaluates, less_evaluates, not_evaluates}
use Rattle.c_types_spec.specs.declared.Scalar.{Scalar}
use Rattle.c_types_spec.specs.Core.{Body}
use Rattle.c_run_spec.specs.Accesses.{in_zone}
use Rattle.c_run_spec.specs.Calls.{locals_at_entry}
use Rattle.c_graph_spec.specs.State.{local, zone_low, zone_high, result}
use Rattle.c_graph_spec.specs.SourceGraph.{body_number, graph_of, graphs_of}
use Rattle.c_graph_laws.specs.Together.{Alike, HasLocal}
use Rattle.c_graph_laws.proofs.Extents.{IsPlain}
use Rattle.c_graph_laws.proofs.KeptBytes.{node_valid}
use Rattle.proof_tree_spec.specs.Cuts.{across}
use Rattle.proof_tree_spec.specs.Frames.{Start, Goal, Hold, Frame}
use Rattle.sim_rules_spec.specs.Points.{Convention, values_at, all_hold, with_memory, same_byte, binary_memory, source_memory, bounded, nothing, entry_zone, source_zone}
use Rattle.sim_rules_spec.specs.Calling as calling
use Rattle.sim_rules_spec.specs.Calling.{word, at_entry, global_pointer_lines, outside_zone, zone_from}
use Rattle.sim_rules_spec.specs.Calls.{CallPair, BeginsWell, begun_at, callee_lines, machine_register}
use Rattle.sim_rules_spec.specs.Crossing.{AreCallsAt, CalleesAgree, GivesBack, begins, pair_of}
use Rattle.sim_rules_spec.specs.Systems.{Relation, frame_over, hold_over, entry_holds, IsBinaryFine, IsSourceFine}
use Rattle.sim_rules_spec.proofs.Start.{holds_fixed}
use Rattle.sim_rules_spec.proofs.Truths.{all_left, all_right, all_mapped, all_pass}
use Rattle.agreement_laws.specs.Callers.{function_of, argument_lines, callee_of, Base, frame_in, HasSet, BindsCall}
use Rattle.agreement_laws.specs.EntryFrame.{Pair, place_of, convention_of, run_of, entry_premises, result_term, widened, registers}
use Rattle.agreement_laws.specs.Statements.{IsPair, IsSimulatedAtEntry, binary_entry, source_entry}
use Rattle.agreement_laws.proofs.Arguments.{arguments_in, Flags, Passes, have_types, locals_there, passed_there, widened_there, values_there}
use Rattle.agreement_laws.proofs.Begun.{IsBegun, stack_of}
use Rattle.agreement_laws.proofs.Bound.{BeginsAt, call_begins, tail_begins, flags_begin, low_begins, high_begins, memory_begins, any_contains}
use Rattle.agreement_laws.proofs.CalleeRuns.{same_run, first_return, callee_safe, callee_far}
use Rattle.agreement_laws.proofs.Called.{IsGiven, never_fails, given_forth, given_back}
use Rattle.agreement_laws.proofs.Lines.{not_less, within, word_value, no_rest, not_below, equal_back, either_line, gp_is, zero_past, same_fixed}
use Rattle.agreement_laws.proofs.MadeMemory.{made_memory}
use Rattle.agreement_laws.proofs.Opening.{fact_value}
use Rattle.agreement_laws.proofs.Pairs.{code, runs_are, typed_body, plain, fixed_below, keeps_fixed, body_there}
use Rattle.agreement_laws.proofs.Premises.{IsCalled}
use Rattle.agreement_laws.proofs.ReadBack.{open_value, line_value, zone_from_is}

-- ---- runs of fixed bytes

-- a byte that runs have is in one of them
in_run : (runs : List memory.Run) (at byte : ℕ) → memory.fixed_byte runs at ≡ Some byte
    → (run : memory.Run) × Contains runs run × (run.start ≤ at) × (at < run.start + length run.bytes)
unfolding memory.fixed_byte
in_run [] at byte e = absurd (cc)
in_run (run ∷ runs) at byte e = by (memory.byte_in run at) refl e (in_run runs at byte)
  where
    by : (o : Option ℕ) → memory.byte_in run at ≡ o → option_or o (memory.fixed_byte runs at) ≡ Some byte
        → (memory.fixed_byte runs at ≡ Some byte → (found_run : memory.Run) × Contains runs found_run × (found_run.start ≤ at) × (at < found_run.start + length found_run.bytes))
        → (found_run : memory.Run) × Contains (run ∷ runs) found_run × (found_run.start ≤ at) × (at < found_run.start + length found_run.bytes)
    by None is e later = let there = later e in
        (there.0, (suc there.1.0, (let lt = there.1.1 in omega arith), there.1.2), there.2, there.3)
    by (Some here) is e later = elim (cases_Bool (nat_le run.start at)) [
      | inl from ↦
          let start : run.start ≤ at = leb-true run.start at from in
          let got : slice_get run.bytes (at - run.start) ≡ Some here = sym (ap (λ (b : Bool). if b then slice_get run.bytes (at - run.start) else None) from) ∙ is in
          let short = slice_within run.bytes (at - run.start) here got in
          (run, (0, omega arith, refl), start, omega arith)
      | inr before ↦ absurd (let none : None ≡ Some here = sym (ap (λ (b : Bool). if b then slice_get run.bytes (at - run.start) else None) before) ∙ is in cc)
    ]
      where
        slice_within : (xs : List ℕ) (i b : ℕ) → slice_get xs i ≡ Some b → i < length xs
        slice_within [] i b e = absurd (cc)
        slice_within (y ∷ xs) zero b e = omega arith
        slice_within (y ∷ xs) (suc i) b e = let less = slice_within xs i b e in omega arith

difference : (m n : ℕ) → n ≤ m → m < 2 ^ 32 → low_bits 32 (m + (2 ^ 32 - low_bits 32 n)) ≡ m - n
difference m n less below =
    let small : n % 2 ^ 32 ≡ n = mod-eq_of_lt (omega arith) in
    ap (λ (k : ℕ). (m + (2 ^ 32 - k)) % 2 ^ 32) small ∙ (omega arith)

module _ (q : Pair) (base : Base) (entry stack : ℕ) (body : Body) (zone : Zone) (known : Relation) (start : Start) (goals : List Goal) (holds_at : List Hold) (call landing : Hold)
    (calls : AreCallsAt (frame_in q base start goals holds_at) (hold_over (convention_of q zone) call) (hold_over (convention_of q zone) landing))
    (binary_set : HasSet q.graphs base.binary) (source_set : HasSet (graphs_of q.unit (place_of q)) base.source)
    (is : IsPair (function_of q entry stack body)) (simulated : IsSimulatedAtEntry (function_of q entry stack body))
    (binary_callee : calls.binary.callee ≡ q.numbering.graph_number entry) (source_callee : calls.source.callee ≡ body_number body.name q.unit.bodies)
    (no_outputs : calls.binary_outputs ≡ [])
    (binds : BindsCall (function_of q entry stack body)
    (pair_of (frame_in q base start goals holds_at) (hold_over (convention_of q zone) call) (hold_over (convention_of q zone) landing) calls))
    (x y : Assignment)
    (begin : IsStart (across (frame_over (convention_of q zone) known (frame_in q base start goals holds_at)) (entry_holds (frame_in q base start goals holds_at))
    (hold_over (convention_of q zone) call) (hold_over (convention_of q zone) landing))
    (IsBinaryFine (convention_of q zone) (frame_in q base start goals holds_at)) (IsSourceFine (convention_of q zone) (frame_in q base start goals holds_at))
    (Running base.binary.outermost call.nodes.binary x []) (Running base.source.outermost call.nodes.source y []))
    (well : BeginsWell (convention_of q zone) (pair_of (frame_in q base start goals holds_at) (hold_over (convention_of q zone) call) (hold_over (convention_of q zone) landing) calls)
    (callee_of (function_of q entry stack body)) x y) where
  abbrev p : Pair
  p = function_of q entry stack body

  abbrev f : Frame
  f = frame_in q base start goals holds_at

  abbrev c : Convention
  c = convention_of q zone

  abbrev pair : CallPair
  pair = pair_of f (hold_over c call) (hold_over c landing) calls

  abbrev x_start : State
  x_start = Running base.binary.outermost call.nodes.binary x []

  abbrev y_start : State
  y_start = Running base.source.outermost call.nodes.source y []

  abbrev a : Assignment
  a = entered calls.binary_inputs x

  abbrev b : Assignment
  b = entered calls.source_inputs y

  ranged_x : IsAssignment x
  ranged_x = begin.binary_fine.kept.sorted.0

  ranged_y : IsAssignment y
  ranged_y = begin.source_fine.kept.sorted.0

  ranged_a : IsAssignment a
  ranged_a = entered_sorted calls.binary_inputs x (node_valid f.binary.graphs begin.binary_fine.kept.valid f.binary.outermost call.nodes.binary
      (Call calls.binary.callee calls.binary_inputs calls.binary_outputs landing.nodes.binary) calls.binary.here).1.0 ranged_x

  ranged_b : IsAssignment b
  ranged_b = entered_sorted calls.source_inputs y (node_valid f.source.graphs begin.source_fine.kept.valid f.source.outermost call.nodes.source
      (Call calls.source.callee calls.source_inputs calls.source_outputs landing.nodes.source) calls.source.here).1.0 ranged_y

  begins_a : BeginsAt x a
  begins_a = elim binds.binary [
    | inl linked ↦ subst (λ (list : List Binding). BeginsAt x (entered list x)) (sym linked.1) (call_begins x linked.0)
    | inr tail ↦ subst (λ (list : List Binding). BeginsAt x (entered list x)) (sym tail) (tail_begins x)
  ]

  -- ---- the registers where the callee begins, and at the caller's entry

  word_at : (r : ℕ) → (n : ℕ) × (a (entry_register r) ≡ Number W32 n) × (n < 2 ^ 32)
  word_at r = as_word W32 (a (entry_register r)) (ranged_a (entry_register r))

  had : ℕ → ℕ
  had r = (word_at r).0

  entries : (r : ℕ) → a (entry_register r) ≡ Number W32 (had r)
  unfolding had
  entries r = (word_at r).1

  had_below : (r : ℕ) → had r < 2 ^ 32
  unfolding had
  had_below r = (word_at r).2

  register_is : (r : ℕ) → Contains registers r → a (register r) ≡ Number W32 (had r)
  register_is r among = All-contains (λ (r : ℕ). a (register r) ≡ a (entry_register r)) registers r begins_a.begun among ∙ entries r

  caller_at : (r : ℕ) → (n : ℕ) × (x (entry_register r) ≡ Number W32 n) × (n < 2 ^ 32)
  caller_at r = as_word W32 (x (entry_register r)) (ranged_x (entry_register r))

  first_had : ℕ → ℕ
  first_had r = (caller_at r).0

  first_is : (r : ℕ) → x (entry_register r) ≡ Number W32 (first_had r)
  unfolding first_had
  first_is r = (caller_at r).1

  first_below : (r : ℕ) → first_had r < 2 ^ 32
  unfolding first_had
  first_below r = (caller_at r).2

  -- ---- what always holds of the caller

  abbrev e : Assignment
  e = values_at 0 x_start Failed

  binary_parts : (holds_byte (bounded nothing) binary_memory 0 x_start ≡ true) × (all_hold (entry_premises q) 0 x_start Failed ≡ true) × (all_hold (entry_zone c) 0 x_start Failed ≡ true)
  unfolding after
  binary_parts =
      let one = and_parts (holds_byte (bounded nothing) binary_memory 0 x_start)
      (all_hold (entry_premises q) 0 x_start Failed && all_hold (entry_zone c) 0 x_start Failed) (begin.binary_fine.held 0 0) in
      let two = and_parts (all_hold (entry_premises q) 0 x_start Failed) (all_hold (entry_zone c) 0 x_start Failed) one.1 in
      (one.0, two.0, two.1)

  source_parts : (at : ℕ) → (has_byte (y source_memory) at (bounded (fixed_byte q.image) at) ≡ true) × (all_hold (source_zone c) at Failed y_start ≡ true)
  unfolding after
  source_parts at =
      let parts = and_parts (has_byte (y source_memory) at (bounded (fixed_byte q.image) at)) (all_hold (source_zone c) at Failed y_start) (begin.source_fine.held 0 at) in
      (parts.0, parts.1)

  abbrev EntryHolds : Term → Type 0
  EntryHolds line = holds e line ≡ true

  abbrev run_lines : List Term
  run_lines = if nat_lt 0 q.stack then map (outside_zone q.stack) (map run_of q.numbering.runs) else []

  abbrev from_third : List Term
  from_third = not_term (less (at_entry 2) (word q.stack)) ∷ (global_pointer_lines (global_pointer q.image) ++ run_lines)

  abbrev from_second : List Term
  from_second = equal (and_words (at_entry 2) (word 15)) (word 0) ∷ from_third

  entry_lines : All EntryHolds from_third
  entry_lines = All-tail EntryHolds (equal (and_words (at_entry 2) (word 15)) (word 0)) from_third
      (All-tail EntryHolds (equal (and_words (at_entry 1) (word 3)) (word 0)) from_second
      (all_pass (λ (line : Term). holds e line) (entry_premises q) binary_parts.1))

  last_lines : All EntryHolds (global_pointer_lines (global_pointer q.image) ++ run_lines)
  last_lines = All-tail EntryHolds (not_term (less (at_entry 2) (word q.stack))) (global_pointer_lines (global_pointer q.image) ++ run_lines) entry_lines

  caller_room : q.stack ≤ first_had 2
  caller_room = not_below e (at_entry 2) (word q.stack) (first_had 2) q.stack (open_value e (entry_register 2) ∙ first_is 2) (word_value e q.stack)
      (All-head EntryHolds (not_term (less (at_entry 2) (word q.stack))) (global_pointer_lines (global_pointer q.image) ++ run_lines) entry_lines)

  caller_gp : IfSome (global_pointer q.image) (λ v. first_had 3 ≡ v)
  caller_gp = gp_is e (global_pointer q.image) (first_had 3) (first_is 3) (all_left EntryHolds (global_pointer_lines (global_pointer q.image)) run_lines last_lines)

  zone_lines_hold : All EntryHolds (entry_zone c)
  zone_lines_hold = all_pass (λ (line : Term). holds e line) (entry_zone c) binary_parts.2

  from_value : (s : Assignment) → s (entry_register 2) ≡ x (entry_register 2) → value s c.zone_from ≡ Number W32 (first_had 2 - q.stack)
  from_value s same = zone_from_is s (first_had 2) q.stack caller_room (first_below 2) (same ∙ first_is 2)

  to_value : (s : Assignment) → s (entry_register 2) ≡ x (entry_register 2) → value s c.zone_to ≡ Number W32 (first_had 2)
  to_value s same = open_value s (entry_register 2) ∙ same ∙ first_is 2

  low_end : first_had 2 - q.stack ≡ zone.low
  low_end = equal_back e c.zone_from (word zone.low) (first_had 2 - q.stack) zone.low (from_value e refl) (word_value e zone.low)
      (All-head EntryHolds (equal c.zone_from (word zone.low)) (equal c.zone_to (word zone.high) ∷ []) zone_lines_hold)

  high_end : first_had 2 ≡ zone.high
  high_end = equal_back e c.zone_to (word zone.high) (first_had 2) zone.high (to_value e refl) (word_value e zone.high)
      (All-head EntryHolds (equal c.zone_to (word zone.high)) [] (All-tail EntryHolds (equal c.zone_from (word zone.low)) (equal c.zone_to (word zone.high) ∷ []) zone_lines_hold))

  -- no byte of the zone is fixed
  free : (address : ℕ) → zone.low ≤ address → address < zone.high → fixed_byte q.image address ≡ None
  free address from below = by (fixed_byte q.image address) refl
    where
      some_stack : 0 < q.stack
      some_stack = let low = low_end in let high = high_end in let room = caller_room in omega arith

      lines : All EntryHolds (map (outside_zone q.stack) (map run_of q.numbering.runs))
      lines = subst (λ (t : Bool). All EntryHolds (if t then map (outside_zone q.stack) (map run_of q.numbering.runs) else [])) (lt-ltb 0 q.stack some_stack)
          (all_right EntryHolds (global_pointer_lines (global_pointer q.image)) run_lines last_lines)

      apart : (run : memory.Run) → Contains q.numbering.runs run → (first_had 2 ≤ run.start) ⊎ (run.start + length run.bytes - 1 < first_had 2 - q.stack)
      apart run among =
          let line = All-contains (λ (r : memory.Run). EntryHolds (outside_zone q.stack (run_of r))) q.numbering.runs run
          (all_mapped (λ (r : calling.Run). EntryHolds (outside_zone q.stack r)) run_of q.numbering.runs
          (all_mapped EntryHolds (outside_zone q.stack) (map run_of q.numbering.runs) lines)) among in
          elim (either_line e (not_term (less (word run.start) (at_entry 2))) (less (word (run.start + length run.bytes - 1)) (zone_from q.stack))
          (not (nat_lt run.start (first_had 2))) (nat_lt (run.start + length run.bytes - 1) (first_had 2 - q.stack))
          (not_evaluates e (less (word run.start) (at_entry 2)) (nat_lt run.start (first_had 2))
          (less_evaluates e (word run.start) (at_entry 2) run.start (first_had 2) (word_value e run.start) (open_value e (entry_register 2) ∙ first_is 2)))
          (less_evaluates e (word (run.start + length run.bytes - 1)) (zone_from q.stack) (run.start + length run.bytes - 1) (first_had 2 - q.stack)
          (word_value e (run.start + length run.bytes - 1)) (from_value e refl)) line) [
            | inl beyond ↦ inl (not_less run.start (first_had 2) beyond)
            | inr ahead ↦ inr (ltb-true (run.start + length run.bytes - 1) (first_had 2 - q.stack) ahead)
          ]

      by : (o : Option ℕ) → fixed_byte q.image address ≡ o → o ≡ None
      by None is_none = refl
      by (Some byte) is_some =
          let there = in_run q.numbering.runs address byte (runs_are_fixed q.image q.numbering.runs (runs_are p is) address ∙ is_some) in
          let low = low_end in
          let high = high_end in
          let from_start = there.2 in
          let before_end = there.3 in
          elim (apart there.0 there.1) [
            | inl beyond ↦ absurd (omega arith)
            | inr ahead ↦ absurd (omega arith)
          ]

  -- ---- what holds where the callee begins

  abbrev s : ℕ → Assignment
  s at = begun_at pair at x y

  abbrev Holds : ℕ → Term → Type 0
  Holds at line = holds (s at) line ≡ true

  well_lines : (at : ℕ) → All (Holds at) (with_memory c (callee_lines c (callee_of p)))
  well_lines at = all_pass (λ (line : Term). holds (s at) line) (with_memory c (callee_lines c (callee_of p))) (well at)

  abbrev sixth : List Term
  sixth = equal (calling.register 3) (at_entry 3) ∷ []

  abbrev fifth : List Term
  fifth = not_term (less c.zone_to (calling.register 2)) ∷ sixth

  abbrev fourth : List Term
  fourth = not_term (less (subtract (calling.register 2) c.zone_from) (word stack)) ∷ fifth

  abbrev third : List Term
  third = not_term (less (calling.register 2) c.zone_from) ∷ fourth

  abbrev second : List Term
  second = equal (and_words (calling.register 2) (word 15)) (word 0) ∷ third

  abbrev lines_of_call : List Term
  lines_of_call = equal (and_words (calling.register 1) (word 3)) (word 0) ∷ second

  abbrev arguments_of_call : List Term
  arguments_of_call = argument_lines 0 body.signature.parameters

  call_lines : All (Holds 0) (arguments_of_call ++ lines_of_call)
  call_lines = all_left (Holds 0) (arguments_of_call ++ lines_of_call) (same_byte c ∷ []) (well_lines 0)

  one : All (Holds 0) lines_of_call
  one = all_right (Holds 0) arguments_of_call lines_of_call call_lines

  two : All (Holds 0) second
  two = All-tail (Holds 0) (equal (and_words (calling.register 1) (word 3)) (word 0)) second one

  three : All (Holds 0) third
  three = All-tail (Holds 0) (equal (and_words (calling.register 2) (word 15)) (word 0)) third two

  four : All (Holds 0) fourth
  four = All-tail (Holds 0) (not_term (less (calling.register 2) c.zone_from)) fourth three

  five : All (Holds 0) fifth
  five = All-tail (Holds 0) (not_term (less (subtract (calling.register 2) c.zone_from) (word stack))) fifth four

  six : All (Holds 0) sixth
  six = All-tail (Holds 0) (not_term (less c.zone_to (calling.register 2))) sixth five

  value_of : (r : ℕ) → Contains registers r → value (s 0) (calling.register r) ≡ Number W32 (had r)
  value_of r among = open_value (s 0) (register r) ∙ register_is r among

  low_room : zone.low ≤ had 2
  low_room =
      subst (λ (n : ℕ). n ≤ had 2) low_end
      (not_below (s 0) (calling.register 2) c.zone_from (had 2) (first_had 2 - q.stack) (value_of 2 (1, omega arith, refl)) (from_value (s 0) refl)
      (All-head (Holds 0) (not_term (less (calling.register 2) c.zone_from)) fourth three))

  stack_inside : stack ≤ had 2 - zone.low
  unfolding operation
  stack_inside =
      let room = low_room in
      let below = had_below 2 in
      let less_is = not_below (s 0) (subtract (calling.register 2) c.zone_from) (word stack) (low_bits 32 (had 2 + (2 ^ 32 - low_bits 32 zone.low))) stack
      (words_evaluates (s 0) operator.Subtract (calling.register 2) c.zone_from (had 2) zone.low (value_of 2 (1, omega arith, refl))
      (from_value (s 0) refl ∙ ap (Number W32) low_end)) (word_value (s 0) stack)
      (All-head (Holds 0) (not_term (less (subtract (calling.register 2) c.zone_from) (word stack))) fifth four) in
      subst (λ (n : ℕ). stack ≤ n) (difference (had 2) zone.low room below) less_is

  high_inside : had 2 ≤ zone.high
  high_inside =
      subst (λ (n : ℕ). had 2 ≤ n) high_end
      (not_below (s 0) c.zone_to (calling.register 2) (first_had 2) (had 2) (to_value (s 0) refl) (value_of 2 (1, omega arith, refl))
      (All-head (Holds 0) (not_term (less c.zone_to (calling.register 2))) sixth five))

  same_gp : had 3 ≡ first_had 3
  same_gp = equal_back (s 0) (calling.register 3) (at_entry 3) (had 3) (first_had 3) (value_of 3 (2, omega arith, refl)) (open_value (s 0) (entry_register 3) ∙ first_is 3)
      (All-head (Holds 0) (equal (calling.register 3) (at_entry 3)) [] six)

  called : IsCalled p had
  called = record {
    return_aligned = no_rest (s 0) (calling.register 1) 3 4 (had 1) (λ n. and_mask n 2) (value_of 1 (0, omega arith, refl))
        (All-head (Holds 0) (equal (and_words (calling.register 1) (word 3)) (word 0)) second one);
    stack_aligned = no_rest (s 0) (calling.register 2) 15 16 (had 2) (λ n. and_mask n 4) (value_of 2 (1, omega arith, refl))
        (All-head (Holds 0) (equal (and_words (calling.register 2) (word 15)) (word 0)) third two);
    stack_room = let inside_it = stack_inside in omega arith;
    stack_below = had_below 2;
    gp = subst (λ (n : ℕ). IfSome (global_pointer q.image) (λ v. n ≡ v)) (sym same_gp) caller_gp;
    zone_free = λ address from below.
        let inside_it = stack_inside in
        let room = low_room in
        let top = high_inside in
        free address (omega arith) (omega arith);
  }

  -- ---- the call in C

  arguments : List ℤ
  arguments = arguments_in b 0 body.signature.parameters

  others : List Scalar
  others = (typed_body p is).begun.0

  split : body.locals ≡ body.signature.parameters ++ others
  unfolding others
  split = (typed_body p is).begun.1

  passes_from : (number : ℕ) (types : List Scalar) → All IsPlain types → All (Holds 0) (argument_lines number types) → Passes a b number types
  passes_from number [] are all = tt
  passes_from number (type ∷ types) are all = (
    sym (fact_value (s 0) (record { variable = register (10 + number); term = widened type (local number type) })
        (All-head (Holds 0) (equal (calling.register (10 + number)) (widened type (local number type))) (argument_lines (suc number) types) all))
        ∙ widened_there b ranged_b (s 0) (local number type) number type (All-head IsPlain type types are) refl,
    passes_from (suc number) types (All-tail IsPlain type types are)
        (All-tail (Holds 0) (equal (calling.register (10 + number)) (widened type (local number type))) (argument_lines (suc number) types) all),
  )

  passes : Passes a b 0 body.signature.parameters
  passes = passes_from 0 body.signature.parameters (plain p is) (all_left (Holds 0) arguments_of_call lines_of_call call_lines)

  flags : Flags b 0 body.signature.parameters others
  flags = flags_begin y body.signature.parameters calls.source_inputs binds.source others

  zone_there : (low high : Term) (m n : ℕ) → value (values_at 0 Failed y_start) low ≡ Number W32 m → value (values_at 0 Failed y_start) high ≡ Number W32 n
      → list_all (λ (line : Term). holds (values_at 0 Failed y_start) line) (equal low (word zone.low) ∷ equal high (word zone.high) ∷ []) ≡ true
      → (m ≡ zone.low) × (n ≡ zone.high)
  zone_there low high m n em en h =
      let there = values_at 0 Failed y_start in
      let parts = and_parts (holds there (equal low (word zone.low))) (holds there (equal high (word zone.high)) && true) h in
      let last = and_parts (holds there (equal high (word zone.high))) true parts.1 in
      (equal_back there low (word zone.low) m zone.low em (word_value there zone.low) parts.0, equal_back there high (word zone.high) n zone.high en (word_value there zone.high) last.0)

  source_ends : (y zone_low ≡ Number W32 zone.low) × (y zone_high ≡ Number W32 zone.high)
  source_ends =
      let low = as_word W32 (y zone_low) (ranged_y zone_low) in
      let high = as_word W32 (y zone_high) (ranged_y zone_high) in
      let there = values_at 0 Failed y_start in
      let same = zone_there (open_term zone_low) (open_term zone_high) low.0 high.0 (open_value there zone_low ∙ low.1) (open_value there zone_high ∙ high.1) (source_parts 0).1 in
      (low.1 ∙ ap (Number W32) same.0, high.1 ∙ ap (Number W32) same.1)

  begun_in_c : (b zone_low ≡ y zone_low) × (b zone_high ≡ y zone_high) × (b source_memory ≡ y source_memory)
  begun_in_c = (
    low_begins y body.signature.parameters calls.source_inputs binds.source,
    high_begins y body.signature.parameters calls.source_inputs binds.source,
    memory_begins y body.signature.parameters calls.source_inputs binds.source,
  )

  -- ---- memories

  old_a : (bytes : ℕ → ℕ) × (x binary_memory ≡ Bytes bytes) × ((i : ℕ) → bytes i < 2 ^ 8)
  old_a = as_memory (x binary_memory) (ranged_x binary_memory)

  old_b : (bytes : ℕ → ℕ) × (y source_memory ≡ Bytes bytes) × ((i : ℕ) → bytes i < 2 ^ 8)
  old_b = as_memory (y source_memory) (ranged_y source_memory)

  caller_far : (k i : ℕ) → holds_byte (bounded nothing) binary_memory i (after (system_of base.binary.graphs base.binary.outermost) k x_start) ≡ true
  caller_far k i =
      let z : State = after (system_of base.binary.graphs base.binary.outermost) k x_start in
      (and_parts (holds_byte (bounded nothing) binary_memory i z) (entry_holds f i z Failed && (has_failed z || all_hold (entry_zone c) i z Failed)) (begin.binary_fine.held k i)).0

  far_a : (i : ℕ) → has_byte (Bytes old_a.0) i (bounded nothing i) ≡ true
  unfolding after
  far_a i = sym (ap (λ (u : Value). has_byte u i (bounded nothing i)) old_a.1) ∙ caller_far 0 i

  fixed_b : (i : ℕ) → has_byte (Bytes old_b.0) i (bounded (fixed_byte q.image) i) ≡ true
  fixed_b i = sym (ap (λ (u : Value). has_byte u i (bounded (fixed_byte q.image) i)) old_b.1) ∙ (source_parts i).0

  binary_bytes : (made : Memory) × ((i : ℕ) → byte_at made i ≡ old_a.0 i)
  binary_bytes = made_memory old_a.0 old_a.2 (λ i past. zero_past nothing old_a.0 i past (far_a i))

  source_bytes : (made : Memory) × ((i : ℕ) → byte_at made i ≡ old_b.0 i)
  source_bytes = made_memory old_b.0 old_b.2 (λ i past. zero_past (fixed_byte q.image) old_b.0 i past (fixed_b i))

  memory_is : a binary_memory ≡ Bytes (byte_at binary_bytes.0)
  memory_is = begins_a.memory_is ∙ old_a.1 ∙ ap Bytes (fun_ext (λ i. sym (binary_bytes.1 i)))

  other_is : b source_memory ≡ Bytes (byte_at source_bytes.0)
  other_is = begun_in_c.2 ∙ old_b.1 ∙ ap Bytes (fun_ext (λ i. sym (source_bytes.1 i)))

  same_below : (i : ℕ) → i < 2 ^ 32 → in_zone zone i ≡ false → old_a.0 i ≡ old_b.0 i
  same_below i short out =
      let line = All-head (Holds i) (same_byte c) [] (all_right (Holds i) (callee_lines c (callee_of p)) (same_byte c ∷ []) (well_lines i)) in
      let low : i % 2 ^ 32 ≡ i = mod-eq_of_lt short in
      let value_is = line_value c old_a.0 old_b.0 zone.low zone.high (s i) i (begins_a.memory_is ∙ old_a.1) (begun_in_c.2 ∙ old_b.1) (ap (Number W32) low)
      (from_value (s i) refl ∙ ap (Number W32) low_end) (to_value (s i) refl ∙ ap (Number W32) high_end) in
      elim (or_cases (not (nat_lt i zone.low) && nat_lt i zone.high) (old_a.0 (low_bits 32 i) == old_b.0 (low_bits 32 i)) (sym (ap is_truth value_is) ∙ line)) [
        | inl there ↦
            let parts = and_parts (not (nat_lt i zone.low)) (nat_lt i zone.high) there in
            absurd (let bad : true ≡ false = sym (within zone.low zone.high i (not_less i zone.low parts.0) (ltb-true i zone.high parts.1)) ∙ out in cc)
        | inr equal_bytes ↦ ap old_a.0 (sym low) ∙ eqb-true (old_a.0 (low_bits 32 i)) (old_b.0 (low_bits 32 i)) equal_bytes ∙ ap old_b.0 low
      ]

  same : (i : ℕ) → in_zone zone i ≡ false → byte_at source_bytes.0 i ≡ byte_at binary_bytes.0 i
  same i out = source_bytes.1 i ∙ (elim (cases_lt i (2 ^ 32)) [
    | inl short ↦ sym (same_below i short out)
    | inr past ↦ zero_past (fixed_byte q.image) old_b.0 i past (fixed_b i) ∙ sym (zero_past nothing old_a.0 i past (far_a i))
  ]) ∙ sym (binary_bytes.1 i)

  fixed_there : (i : ℕ) → has_byte (Bytes (byte_at binary_bytes.0)) i (bounded (fixed_byte q.image) i) ≡ true
  fixed_there i = elim (cases_Bool (in_zone zone i)) [
    | inr out ↦ same_fixed old_b.0 (byte_at binary_bytes.0) i (bounded (fixed_byte q.image) i) (sym (source_bytes.1 i) ∙ same i out) (fixed_b i)
    | inl there ↦
        let parts = and_parts (nat_le zone.low i) (nat_lt i zone.high) there in
        let below : i < zone.high = ltb-true i zone.high parts.1 in
        let top = high_end in
        let limit = first_below 2 in
        let none = free i (leb-true zone.low i parts.0) below in
        ap (λ (bit : Bool). has_byte (Bytes (byte_at binary_bytes.0)) i (if bit then fixed_byte q.image i else Some 0)) (lt-ltb i (2 ^ 32) (omega arith))
        ∙ ap (λ (o : Option ℕ). has_byte (Bytes (byte_at binary_bytes.0)) i o) none
  ]

  alike : Alike p.body.locals (locals_at_entry p.body.locals arguments) source_bytes.0 zone b
  unfolding arguments
  alike = record {
    sorted = ranged_b;
    local_is = λ number type v g h.
        let zero_more : 0 + number ≡ number = omega arith in
        subst (λ (n : ℕ). HasLocal b n type v) zero_more
        (locals_there b ranged_b 0 body.signature.parameters others (plain p is) flags number type v
        (subst (λ (locals : List Scalar). slice_get locals number ≡ Some type) split g)
        (subst (λ (locals : List Scalar). slice_get (locals_at_entry locals (arguments_in b 0 body.signature.parameters)) number ≡ Some v) split h));
    local_there = λ number type g. values_there body.locals (arguments_in b 0 body.signature.parameters) number type g;
    memory_is = other_is;
    low_is = begun_in_c.0 ∙ source_ends.0;
    high_is = begun_in_c.1 ∙ source_ends.1;
  }

  -- ---- runs of the callees

  abbrev binary_begins : State
  binary_begins = begins f.binary call.nodes.binary calls.binary_inputs calls.binary_outputs landing.nodes.binary calls.binary x

  abbrev source_begins : State
  source_begins = begins f.source call.nodes.source calls.source_inputs calls.source_outputs landing.nodes.source calls.source y

  some_same : (o : Option Graph) (g h : Graph) → o ≡ Some g → o ≡ Some h → g ≡ h
  some_same o g h i j = cc

  abbrev code_number : ℕ
  code_number = q.numbering.graph_number entry

  abbrev own_number : ℕ
  own_number = body_number body.name q.unit.bodies

  body_graph_there : slice_get (graphs_of q.unit (place_of q)) own_number ≡ Some (graph_of q.unit (place_of q) body)
  body_graph_there = body_there (graph_of q.unit (place_of q)) q.unit.bodies body.name body is.body_is

  code_less : code_number < length q.graphs
  code_less = slice_get_within q.graphs code_number (code p is).0 (code p is).1

  own_less : own_number < length (graphs_of q.unit (place_of q))
  own_less = slice_get_within (graphs_of q.unit (place_of q)) own_number (graph_of q.unit (place_of q) body) body_graph_there

  binary_begins_is : binary_begins ≡ binary_entry p a
  binary_begins_is =
      let own = code p is in
      let same_graph : calls.binary.graph ≡ own.0 = some_same (slice_get base.binary.graphs calls.binary.callee) calls.binary.graph own.0 calls.binary.there
      (ap (slice_get base.binary.graphs) binary_callee ∙ (binary_set.there code_number code_less ∙ own.1)) in
      ap (λ (g : ℕ). Running g calls.binary.graph.entry a []) binary_callee
      ∙ ap (λ (n : ℕ). Running code_number n a []) (ap (λ (g : Graph). g.entry) same_graph ∙ own.2.entry_is)

  first_entry : (graph_of q.unit (place_of q) body).entry ≡ 0
  unfolding graph_of
  first_entry = refl

  source_begins_is : source_begins ≡ source_entry p b
  source_begins_is =
      let same_graph : calls.source.graph ≡ graph_of q.unit (place_of q) body = some_same (slice_get base.source.graphs calls.source.callee) calls.source.graph
      (graph_of q.unit (place_of q) body) calls.source.there
      (ap (slice_get base.source.graphs) source_callee ∙ (source_set.there own_number own_less ∙ body_graph_there)) in
      ap (λ (g : ℕ). Running g calls.source.graph.entry b []) source_callee
      ∙ ap (λ (n : ℕ). Running own_number n b []) (ap (λ (g : Graph). g.entry) same_graph ∙ first_entry)

  abbrev outer : TransitionSystem State
  outer = system_of base.binary.graphs base.binary.outermost

  abbrev outer_source : TransitionSystem State
  outer_source = system_of base.source.graphs base.source.outermost

  abbrev inner : TransitionSystem State
  inner = system_of q.graphs code_number

  abbrev inner_source : TransitionSystem State
  inner_source = system_of (graphs_of q.unit (place_of q)) own_number

  -- at each moment both runs of a callee are in one state, or the one in the set has failed
  binary_both : (k : ℕ) → (after outer k binary_begins ≡ after inner k (binary_entry p a)) ⊎ ((after inner k (binary_entry p a) ≡ Failed) × (after outer (suc k) binary_begins ≡ Failed))
  binary_both k =
      let there : (j : ℕ) → after outer j binary_begins ≡ after (system_of base.binary.graphs code_number) j (binary_entry p a) =
      λ j. ap (after outer j) binary_begins_is ∙ same_run base.binary.graphs base.binary.outermost code_number j (binary_entry p a) in
      elim (binary_set.run code_number code_less (q.numbering.node_number entry Entrance) a k) [
        | inl is_same ↦ inl (there k ∙ is_same)
        | inr fails ↦ inr (fails.0, there (suc k) ∙ fails.1)
      ]

  source_both : (k : ℕ) → (after outer_source k source_begins ≡ after inner_source k (source_entry p b)) ⊎ ((after inner_source k (source_entry p b) ≡ Failed) × (after outer_source (suc k) source_begins ≡ Failed))
  source_both k =
      let there : (j : ℕ) → after outer_source j source_begins ≡ after (system_of base.source.graphs own_number) j (source_entry p b) =
      λ j. ap (after outer_source j) source_begins_is ∙ same_run base.source.graphs base.source.outermost own_number j (source_entry p b) in
      elim (source_set.run own_number own_less 0 b k) [
        | inl is_same ↦ inl (there k ∙ is_same)
        | inr fails ↦ inr (fails.0, there (suc k) ∙ fails.1)
      ]

  far : (k i : ℕ) → holds_byte (bounded nothing) binary_memory i (after inner k (binary_entry p a)) ≡ true
  far k i = elim (binary_both k) [
    | inl is_same ↦ subst (λ (z : State). holds_byte (bounded nothing) binary_memory i z ≡ true) is_same
        (callee_far f.binary call.nodes.binary calls.binary_inputs calls.binary_outputs landing.nodes.binary calls.binary x no_outputs caller_far k i)
    | inr fails ↦ ap (holds_byte (bounded nothing) binary_memory i) fails.0
  ]

  source_lives : (k : ℕ) → after outer_source k source_begins ≡ Failed → ⊥
  source_lives k failed =
      callee_safe f.source call.nodes.source calls.source_inputs calls.source_outputs landing.nodes.source calls.source y
      (λ n running. begin.source_safe n n (omega arith) running) k failed

  unbroken : (k : ℕ) → after inner_source k (source_entry p b) ≡ Failed → ⊥
  unbroken k failed = elim (source_both k) [
    | inl is_same ↦ source_lives k (is_same ∙ failed)
    | inr fails ↦ source_lives (suc k) fails.1
  ]

  source_same : (k : ℕ) → after outer_source k source_begins ≡ after inner_source k (source_entry p b)
  source_same k = elim (source_both k) [
    | inl is_same ↦ is_same
    | inr fails ↦ absurd (unbroken k fails.0)
  ]

  begun : IsBegun p had binary_bytes.0 arguments a
  unfolding arguments
  begun = record {
    ranged = ranged_a;
    entries = entries;
    registers_are = begins_a.begun;
    memory_is = memory_is;
    passed = λ i v g.
        let zero_more : 0 + i ≡ i = omega arith in
        subst (λ (n : ℕ). a (register (10 + n)) ≡ Number W32 (machine.word v)) zero_more (passed_there a b 0 body.signature.parameters passes i v g);
    typed = have_types b ranged_b 0 body.signature.parameters (plain p is);
    called = called;
    fixed = fixed_there;
    far = far;
  }

  low_inside : zone.low ≤ had 2 - p.stack
  low_inside = let inside_it = stack_inside in let room = low_room in omega arith

  binary_lives : (k : ℕ) → has_failed (after inner k (binary_entry p a)) ≡ false
  binary_lives k = never_fails p is simulated had zone source_bytes.0 binary_bytes.0 arguments a b begun alike low_inside high_inside same unbroken k

  binary_same : (k : ℕ) → after outer k binary_begins ≡ after inner k (binary_entry p a)
  binary_same k = elim (binary_both k) [
    | inl is_same ↦ is_same
    | inr fails ↦ absurd (let bad : true ≡ false = sym (ap has_failed fails.0) ∙ binary_lives k in cc)
  ]

  -- ---- what they give back

  module _ (t u : ℕ) (r d : Assignment) (given : IsGiven p had zone binary_bytes.0 r d) (r_is : after inner t (binary_entry p a) ≡ Returned r)
      (d_is : after inner_source u (source_entry p b) ≡ Returned d) where
    left : (bytes : ℕ → ℕ) × (r binary_memory ≡ Bytes bytes) × ((i : ℕ) → bytes i < 2 ^ 8)
    left = as_memory (r binary_memory) (given.binary_ranged binary_memory)

    right : (bytes : ℕ → ℕ) × (d source_memory ≡ Bytes bytes) × ((i : ℕ) → bytes i < 2 ^ 8)
    right = as_memory (d source_memory) (given.source_ranged source_memory)

    left_far : (i : ℕ) → has_byte (Bytes left.0) i (bounded nothing i) ≡ true
    left_far i =
        sym (ap (λ (v : Value). has_byte v i (bounded nothing i)) left.1)
        ∙ subst (λ (z : State). holds_byte (bounded nothing) binary_memory i z ≡ true) r_is (far t i)

    source_there : (i : ℕ) → has_byte (b source_memory) i (bounded (fixed_byte q.image) i) ≡ true
    source_there i = ap (λ (v : Value). has_byte v i (bounded (fixed_byte q.image) i)) (begun_in_c.2 ∙ old_b.1) ∙ fixed_b i

    right_far : (i : ℕ) → has_byte (Bytes right.0) i (bounded (fixed_byte q.image) i) ≡ true
    right_far i =
        sym (ap (λ (v : Value). has_byte v i (bounded (fixed_byte q.image) i)) right.1)
        ∙ subst (λ (z : State). holds_byte (bounded (fixed_byte q.image)) source_memory i z ≡ true) d_is (keeps_fixed p is b ranged_b source_there u i)

    abbrev from_sp : ℕ
    from_sp = had 2 - stack

    sp_is : x (register 2) ≡ Number W32 (had 2)
    sp_is = sym (begins_a.same 2 (λ e. omega arith)) ∙ register_is 2 (1, omega arith, refl)

    bottom_is : value x (subtract (calling.register 2) (word stack)) ≡ Number W32 from_sp
    unfolding operation
    bottom_is =
        let inside_it = stack_inside in
        words_evaluates x operator.Subtract (calling.register 2) (word stack) (had 2) stack (open_value x (register 2) ∙ sp_is) (word_value x stack)
        ∙ ap (Number W32) (difference (had 2) stack (omega arith) (had_below 2))

    laid : (i : ℕ) → overlaid right.0 (overlaid old_a.0 left.0 from_sp (had 2)) zone.low zone.high i ≡ left.0 i
    laid i = by (in_zone zone i) refl
      where
        by : (t : Bool) → in_zone zone i ≡ t → overlaid right.0 (overlaid old_a.0 left.0 from_sp (had 2)) zone.low zone.high i ≡ left.0 i
        by false out =
            ap (λ (bit : Bool). if bit then overlaid old_a.0 left.0 from_sp (had 2) i else right.0 i) out
            ∙ (elim (cases_lt i (2 ^ 32)) [
              | inl short ↦ sym (given.outside left.0 right.0 i left.1 right.1 short out)
              | inr past ↦ zero_past (fixed_byte q.image) right.0 i past (right_far i) ∙ sym (zero_past nothing left.0 i past (left_far i))
            ])
        by true there =
            ap (λ (bit : Bool). if bit then overlaid old_a.0 left.0 from_sp (had 2) i else right.0 i) there
            ∙ inner_by (in_zone (stack_of p had) i) refl
          where
            inner_by : (t : Bool) → in_zone (stack_of p had) i ≡ t → overlaid old_a.0 left.0 from_sp (had 2) i ≡ left.0 i
            inner_by true own = ap (λ (bit : Bool). if bit then left.0 i else old_a.0 i) own
            inner_by false own =
                let parts = and_parts (nat_le zone.low i) (nat_lt i zone.high) there in
                let below : i < zone.high = ltb-true i zone.high parts.1 in
                let top = high_end in
                let limit = first_below 2 in
                ap (λ (bit : Bool). if bit then left.0 i else old_a.0 i) own
                ∙ sym (binary_bytes.1 i) ∙ sym (given.between left.0 i left.1 (omega arith) there own)

    laid_value : laid_over (d source_memory) (laid_over (x binary_memory) (r binary_memory) (value x (subtract (calling.register 2) (word stack))) (x (register 2)))
        (value x c.zone_from) (value x c.zone_to) ≡ r binary_memory
    laid_value =
        all_values (d source_memory) (x binary_memory) (r binary_memory) (value x (subtract (calling.register 2) (word stack))) (x (register 2)) (value x c.zone_from) (value x c.zone_to)
        right.1 old_a.1 left.1 bottom_is sp_is (from_value x refl ∙ ap (Number W32) low_end) (to_value x refl ∙ ap (Number W32) high_end)
        ∙ ap Bytes (fun_ext laid) ∙ sym left.1
      where
        all_values : (m n k f g low high : Value) → m ≡ Bytes right.0 → n ≡ Bytes old_a.0 → k ≡ Bytes left.0 → f ≡ Number W32 from_sp → g ≡ Number W32 (had 2)
            → low ≡ Number W32 zone.low → high ≡ Number W32 zone.high
            → laid_over m (laid_over n k f g) low high ≡ Bytes (overlaid right.0 (overlaid old_a.0 left.0 from_sp (had 2)) zone.low zone.high)
        all_values m n k f g low high em en ek ef eg el eh = rw (em, en, ek, ef, eg, el, eh) refl

    result_given : (o : Option Scalar) → o ≡ body.signature.result → (t : Term) → result_term o ≡ Some t → r (machine_register 10) ≡ value d t
    result_given None e t h = absurd (cc)
    result_given (Some type) e t h =
        let same_term : widened type (result type) ≡ t = cc in
        given.result_is d type (sym e) refl ∙ ap (value d) same_term

    gives_back : GivesBack c (callee_of p) x r d
    gives_back = (
      given.binary_ranged,
      given.source_ranged,
      record {
        result = λ t h. result_given body.signature.result refl t h;
        kept = λ k is_kept.
            let among = any_contains calling.kept_registers k is_kept in
            given.kept k among ∙ sym (entries k) ∙ sym (begun_kept k among) ∙ begins_a.same k (not_one k among);
        memory = laid_value;
        fixed = holds_fixed (fixed_byte q.image) (fixed_below p is) (d source_memory)
            (λ i. ap (λ (v : Value). has_byte v i (bounded (fixed_byte q.image) i)) right.1 ∙ right_far i);
      },
    )
      where
        in_all : (k : ℕ) → Contains calling.kept_registers k → (nat_le 2 k && nat_lt k 32) ≡ true
        in_all k among = All-contains (λ (j : ℕ). (nat_le 2 j && nat_lt j 32) ≡ true) calling.kept_registers k
            (all_pass (λ (j : ℕ). nat_le 2 j && nat_lt j 32) calling.kept_registers refl) among

        not_one : (k : ℕ) → Contains calling.kept_registers k → k ≢ 1
        not_one k among is_one = let least : 2 ≤ k = leb-true 2 k (and_parts (nat_le 2 k) (nat_lt k 32) (in_all k among)).0 in omega arith

        begun_kept : (k : ℕ) → Contains calling.kept_registers k → a (register k) ≡ a (entry_register k)
        begun_kept k among =
            All-contains (λ (j : ℕ). a (register j) ≡ a (entry_register j)) registers k begins_a.begun
            (any_contains registers k
            (All-contains (λ (j : ℕ). list_any (λ (i : ℕ). i == j) registers ≡ true) calling.kept_registers k
            (all_pass (λ (j : ℕ). list_any (λ (i : ℕ). i == j) registers) calling.kept_registers refl) among))

  pub agree : CalleesAgree f.binary f.source (GivesBack c (callee_of p) x) binary_begins source_begins
  agree = record {
    safe = λ k. ap has_failed (binary_same k) ∙ binary_lives k;
    forth = λ t r returns.
        let r_is = sym (binary_same t) ∙ returns.now in
        let there = given_forth p is simulated had zone source_bytes.0 binary_bytes.0 arguments a b begun alike low_inside high_inside same unbroken t r r_is in
        let first = first_return base.source.graphs base.source.outermost there.0 source_begins there.1 (source_same there.0 ∙ there.2) in
        (first.0, there.1, first.1, gives_back t there.0 r there.1 there.3 r_is there.2);
    back = λ u d returns.
        let d_is = sym (source_same u) ∙ returns.now in
        let there = given_back p is simulated had zone source_bytes.0 binary_bytes.0 arguments a b begun alike low_inside high_inside same unbroken u d d_is in
        let first = first_return base.binary.graphs base.binary.outermost there.0 binary_begins there.1 (binary_same there.0 ∙ there.2) in
        (first.0, there.1, first.1, gives_back there.0 u there.1 d there.3 there.2 d_is);
  }
