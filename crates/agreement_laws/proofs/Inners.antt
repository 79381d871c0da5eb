-- What a function whose frame at the entry is simulated gives to its callers.
use Rattle.std.proofs.Common.{◌≡◌, ◌∙◌, ℕ, ◌+◌, ◌-◌, ◌%◌, ◌^◌, ◌<◌, ◌≤◌, ◌==◌, ◌&&◌, ◌||◌, suc, Bool, true, false, not, if◌then◌else◌, List, [], ◌∷◌, ◌++◌, map, slice_get, Contains, Option, Some, None, nat_lt, nat_le, refl, sym, ap, subst, inl, inr, arith}
use Rattle.std.specs.Prelude.{ℤ}
use Rattle.std.specs.List.{All}
use Rattle.std.proofs.Math.Path.{fun_ext}
use Rattle.std.proofs.Math.Nat.{mod-eq_of_lt}
use Rattle.std.proofs.lemmas.Bool.{cases_Bool, cases_lt, or_cases, or_left, or_right, and_parts, and_from, lt-ltb, le-ltb, le-leb, ltb-true, leb-true, eqb-true, eq-eqb, false_from_ne_true}
use Rattle.std.proofs.lemmas.Nat.{and_mask}
use Rattle.std.proofs.lemmas.List.Elements.{All-append, All-head, All-tail}
use Rattle.memory_spec.specs.Memory.{Memory, byte_at}
use Rattle.memory_spec.specs.Zones.{Zone, InZone}
use Rattle.elf_read_spec.specs.Image.{fixed_byte, global_pointer}
use Rattle.rv_machine_spec.specs.Arithmetic as machine
use Rattle.term_core_spec.specs.declared.Width.TheVariants.{W32}
use Rattle.term_core_spec.specs.Term.{Term, equal, less, not_term, open_term, bit_and as and_words}
use Rattle.term_core_spec.specs.Value.{Value, Number, Bytes, Assignment, IsAssignment, low_bits}
use Rattle.term_core_spec.proofs.Sorts.{as_word, as_memory}
use Rattle.path_cond_spec.specs.Passages.{holds}
use Rattle.graph_core_spec.specs.TransitionSystem.{TransitionSystem, after}
use Rattle.graph_core_spec.specs.Simulation.{IsStart, IsRelated, Agree, EndsAlike, both_return}
use Rattle.graph_core_spec.specs.Run.{State, Returned, Failed, has_returned, has_failed, system_of, is_truth}
use Rattle.graph_core_spec.specs.Fixed.{has_byte, holds_byte}
use Rattle.decompile_spec.specs.Blocks.{Entrance}
use Rattle.decompile_spec.specs.State.{register, entry_register}
use Rattle.c_types_spec.specs.declared.Scalar.{Scalar}
use Rattle.c_run_spec.specs.Accesses.{in_zone}
use Rattle.c_run_spec.specs.Calls.{locals_at_entry}
use Rattle.c_graph_spec.specs.State.{zone_low, zone_high, result}
use Rattle.c_graph_spec.specs.SourceGraph.{body_number, graphs_of}
use Rattle.c_graph_laws.specs.Together.{Alike, HasLocal}
use Rattle.sim_rules_spec.specs.Points.{Convention, values_at, all_hold, with_memory, same_byte, binary_memory, source_memory, bounded, nothing, entry_zone, source_zone}
use Rattle.sim_rules_spec.specs.Calling as calling
use Rattle.sim_rules_spec.specs.Calling.{word, at_entry, global_pointer_lines}
use Rattle.sim_rules_spec.specs.Systems.{relation, entry_holds, IsBinaryFine, IsSourceFine}
use Rattle.sim_rules_spec.proofs.Start.{running_at}
use Rattle.sim_rules_spec.proofs.Truths.{all_left, all_right, all_mapped, all_pass, pass_all}
use Rattle.agreement_laws.specs.EntryFrame.{Pair, Fact, place_of, lines_of, result_term, widened, argument_facts, registers, binary_facts, local_facts}
use Rattle.agreement_laws.specs.Inner.{inner_convention, inner_premises, inner_zone_facts, inner_known, inner_frame, is_kept, has_there, before_here, before_kept, inner_over, Inner}
use Rattle.agreement_laws.specs.Statements.{IsPair, IsSimulatedAtEntry, binary_entry, source_entry}
use Rattle.agreement_laws.proofs.Arguments.{arguments_in, Has, Flags, Passes, have_types, locals_there, passed_there, flags_there, passes_there, values_there}
use Rattle.agreement_laws.proofs.Begun.{IsBegun}
use Rattle.agreement_laws.proofs.Agreed.{returned_is, returned_stays}
use Rattle.agreement_laws.proofs.Called.{IsGiven, never_fails, given_forth, given_back}
use Rattle.agreement_laws.proofs.Ends.{stops_back, not_back, first_back}
use Rattle.agreement_laws.proofs.Facts.{FactHolds, equal_itself}
use Rattle.agreement_laws.proofs.Lines.{not_less, within, word_value, no_rest, not_below, gp_is, zero_past, same_fixed}
use Rattle.agreement_laws.proofs.MadeMemory.{made_memory}
use Rattle.agreement_laws.proofs.Opening.{fact_value}
use Rattle.agreement_laws.proofs.Pairs.{typed_body, plain}
use Rattle.agreement_laws.proofs.Premises.{IsCalled, all_more}
use Rattle.agreement_laws.proofs.ReadBack.{open_value, line_value}

module _ (p : Pair) (is : IsPair p) (simulated : IsSimulatedAtEntry p) (wide : Zone) (high : wide.high < 2 ^ 32)
    (free : (address : ℕ) → InZone wide address → fixed_byte p.image address ≡ None) (before : ℕ → ℕ) (a b : Assignment)
    (start : IsStart (inner_over p wide before) (IsBinaryFine (inner_convention p wide) (inner_frame p wide)) (IsSourceFine (inner_convention p wide) (inner_frame p wide))
    (binary_entry p a) (source_entry p b)) where
  abbrev c : Convention
  c = inner_convention p wide

  abbrev s : ℕ → Assignment
  s q = values_at q (binary_entry p a) (source_entry p b)

  ranged_a : IsAssignment a
  ranged_a = start.binary_fine.kept.sorted.0

  ranged_b : IsAssignment b
  ranged_b = start.source_fine.kept.sorted.0

  word_at : (r : ℕ) → (n : ℕ) × (a (entry_register r) ≡ Number W32 n) × (n < 2 ^ 32)
  word_at r = as_word W32 (a (entry_register r)) (ranged_a (entry_register r))

  had : ℕ → ℕ
  had r = (word_at r).0

  entries : (r : ℕ) → a (entry_register r) ≡ Number W32 (had r)
  unfolding had
  entries r = (word_at r).1

  had_below : (r : ℕ) → had r < 2 ^ 32
  unfolding had
  had_below r = (word_at r).2

  -- ---- what is known

  abbrev facts : List Fact
  facts = binary_facts p ++ (local_facts 0 p.body.signature.parameters p.body.locals ++ inner_zone_facts wide)

  premise_parts : (q : ℕ) → (before_here before q (binary_entry p a) (source_entry p b) ≡ true)
      × (inner_known p wide q (binary_entry p a) (source_entry p b) ≡ true) × (all_hold (inner_premises p wide) q (binary_entry p a) (source_entry p b) ≡ true)
  premise_parts q =
      let first = and_parts (before_here before q (binary_entry p a) (source_entry p b))
      (inner_known p wide q (binary_entry p a) (source_entry p b) && all_hold (inner_premises p wide) q (binary_entry p a) (source_entry p b)) (start.premise q) in
      let second = and_parts (inner_known p wide q (binary_entry p a) (source_entry p b)) (all_hold (inner_premises p wide) q (binary_entry p a) (source_entry p b)) first.1 in
      (first.0, second.0, second.1)

  abbrev Holds : ℕ → Term → Type 0
  Holds q line = holds (s q) line ≡ true

  known_lines : (q : ℕ) → All (Holds q) (lines_of facts ++ same_byte c ∷ [])
  known_lines q = all_pass (λ (line : Term). holds (s q) line) (lines_of facts ++ same_byte c ∷ []) (premise_parts q).1

  known_facts : All (FactHolds (s 0)) facts
  known_facts =
      all_mapped (Holds 0) (λ (fact : Fact). equal (open_term fact.variable) fact.term) facts
      (all_left (Holds 0) (lines_of facts) (same_byte c ∷ []) (known_lines 0))

  values : All (Has (s 0)) facts
  values i d lt = fact_value (s 0) _ (known_facts i d lt)

  binary_values : All (Has (s 0)) (binary_facts p)
  binary_values = all_left (Has (s 0)) (binary_facts p) (local_facts 0 p.body.signature.parameters p.body.locals ++ inner_zone_facts wide) values

  source_values : All (Has (s 0)) (local_facts 0 p.body.signature.parameters p.body.locals ++ inner_zone_facts wide)
  source_values = all_right (Has (s 0)) (binary_facts p) (local_facts 0 p.body.signature.parameters p.body.locals ++ inner_zone_facts wide) values

  abbrev at_entry_fact : ℕ → Fact
  at_entry_fact r = record { variable = register r; term = at_entry r }

  argument_values : All (Has (s 0)) (argument_facts 0 p.body.signature.parameters)
  argument_values = all_left (Has (s 0)) (argument_facts 0 p.body.signature.parameters) (map at_entry_fact registers) binary_values

  registers_are : All (λ (r : ℕ). a (register r) ≡ a (entry_register r)) registers
  registers_are i d lt =
      sym (all_mapped (Has (s 0)) at_entry_fact registers (all_right (Has (s 0)) (argument_facts 0 p.body.signature.parameters) (map at_entry_fact registers) binary_values) i d lt)
      ∙ open_value (s 0) (entry_register _)

  local_values : All (Has (s 0)) (local_facts 0 p.body.signature.parameters p.body.locals)
  local_values = all_left (Has (s 0)) (local_facts 0 p.body.signature.parameters p.body.locals) (inner_zone_facts wide) source_values

  zone_values : All (Has (s 0)) (inner_zone_facts wide)
  zone_values = all_right (Has (s 0)) (local_facts 0 p.body.signature.parameters p.body.locals) (inner_zone_facts wide) source_values

  low_is : b zone_low ≡ Number W32 wide.low
  low_is =
      sym (All-head (Has (s 0)) (record { variable = zone_low; term = word wide.low }) (record { variable = zone_high; term = word wide.high } ∷ []) zone_values)
      ∙ word_value (s 0) wide.low

  high_is : b zone_high ≡ Number W32 wide.high
  high_is =
      sym (All-head (Has (s 0)) (record { variable = zone_high; term = word wide.high }) []
      (All-tail (Has (s 0)) (record { variable = zone_low; term = word wide.low }) (record { variable = zone_high; term = word wide.high } ∷ []) zone_values))
      ∙ word_value (s 0) wide.high

  -- ---- the premises

  abbrev third : List Term
  third = not_term (less (word wide.high) (at_entry 2)) ∷ global_pointer_lines (global_pointer p.image)

  abbrev second : List Term
  second = not_term (less (at_entry 2) (word (wide.low + p.stack))) ∷ third

  abbrev first : List Term
  first = equal (and_words (at_entry 2) (word 15)) (word 0) ∷ second

  premise_lines : All (Holds 0) (inner_premises p wide)
  premise_lines = all_pass (λ (line : Term). holds (s 0) line) (inner_premises p wide) (premise_parts 0).2

  after_one : All (Holds 0) first
  after_one = All-tail (Holds 0) (equal (and_words (at_entry 1) (word 3)) (word 0)) first premise_lines

  after_two : All (Holds 0) second
  after_two = All-tail (Holds 0) (equal (and_words (at_entry 2) (word 15)) (word 0)) second after_one

  after_three : All (Holds 0) third
  after_three = All-tail (Holds 0) (not_term (less (at_entry 2) (word (wide.low + p.stack)))) third after_two

  room : wide.low + p.stack ≤ had 2
  room =
      not_below (s 0) (at_entry 2) (word (wide.low + p.stack)) (had 2) (wide.low + p.stack) (open_value (s 0) (entry_register 2) ∙ entries 2) (word_value (s 0) (wide.low + p.stack))
      (All-head (Holds 0) (not_term (less (at_entry 2) (word (wide.low + p.stack)))) third after_two)

  inside : had 2 ≤ wide.high
  inside =
      not_below (s 0) (word wide.high) (at_entry 2) wide.high (had 2) (word_value (s 0) wide.high) (open_value (s 0) (entry_register 2) ∙ entries 2)
      (All-head (Holds 0) (not_term (less (word wide.high) (at_entry 2))) (global_pointer_lines (global_pointer p.image)) after_three)

  called : IsCalled p had
  called = record {
    return_aligned = no_rest (s 0) (at_entry 1) 3 4 (had 1) (λ n. and_mask n 2) (open_value (s 0) (entry_register 1) ∙ entries 1) (All-head (Holds 0) (equal (and_words (at_entry 1) (word 3)) (word 0)) first premise_lines);
    stack_aligned = no_rest (s 0) (at_entry 2) 15 16 (had 2) (λ n. and_mask n 4) (open_value (s 0) (entry_register 2) ∙ entries 2) (All-head (Holds 0) (equal (and_words (at_entry 2) (word 15)) (word 0)) second after_one);
    stack_room = let enough = room in omega arith;
    stack_below = had_below 2;
    gp = gp_is (s 0) (global_pointer p.image) (had 3) (entries 3) (All-tail (Holds 0) (not_term (less (word wide.high) (at_entry 2))) (global_pointer_lines (global_pointer p.image)) after_three);
    zone_free = λ address from below.
        let enough = room in
        let top = inside in
        free address (record { from = omega arith; below = omega arith });
  }

  -- ---- memories

  binary_far : (k q : ℕ) → holds_byte (bounded nothing) binary_memory q (after (system_of p.graphs (p.numbering.graph_number p.entry)) k (binary_entry p a)) ≡ true
  binary_far k q =
      let x : State = after (system_of p.graphs (p.numbering.graph_number p.entry)) k (binary_entry p a) in
      (and_parts (holds_byte (bounded nothing) binary_memory q x)
      (entry_holds (inner_frame p wide) q x Failed && (has_failed x || all_hold (entry_zone c) q x Failed)) (start.binary_fine.held k q)).0

  source_fixed : (q : ℕ) → has_byte (b source_memory) q (bounded (fixed_byte p.image) q) ≡ true
  unfolding after
  source_fixed q =
      (and_parts (has_byte (b source_memory) q (bounded (fixed_byte p.image) q)) (source_words q) (start.source_fine.held 0 q)).0
    where
      source_words : ℕ → Bool
      source_words q = has_failed (source_entry p b) || all_hold (source_zone c) q Failed (source_entry p b)

  old_a : (bytes : ℕ → ℕ) × (a binary_memory ≡ Bytes bytes) × ((q : ℕ) → bytes q < 2 ^ 8)
  old_a = as_memory (a binary_memory) (ranged_a binary_memory)

  old_b : (bytes : ℕ → ℕ) × (b source_memory ≡ Bytes bytes) × ((q : ℕ) → bytes q < 2 ^ 8)
  old_b = as_memory (b source_memory) (ranged_b source_memory)

  far_a : (q : ℕ) → has_byte (Bytes old_a.0) q (bounded nothing q) ≡ true
  unfolding after
  far_a q = sym (ap (λ (u : Value). has_byte u q (bounded nothing q)) old_a.1) ∙ binary_far 0 q

  fixed_b : (q : ℕ) → has_byte (Bytes old_b.0) q (bounded (fixed_byte p.image) q) ≡ true
  fixed_b q = sym (ap (λ (u : Value). has_byte u q (bounded (fixed_byte p.image) q)) old_b.1) ∙ source_fixed q

  memory : (made : Memory) × ((q : ℕ) → byte_at made q ≡ old_a.0 q)
  memory = made_memory old_a.0 old_a.2 (λ q past. zero_past nothing old_a.0 q past (far_a q))

  other : (made : Memory) × ((q : ℕ) → byte_at made q ≡ old_b.0 q)
  other = made_memory old_b.0 old_b.2 (λ q past. zero_past (fixed_byte p.image) old_b.0 q past (fixed_b q))

  memory_is : a binary_memory ≡ Bytes (byte_at memory.0)
  memory_is = old_a.1 ∙ ap Bytes (fun_ext (λ q. sym (memory.1 q)))

  other_is : b source_memory ≡ Bytes (byte_at other.0)
  other_is = old_b.1 ∙ ap Bytes (fun_ext (λ q. sym (other.1 q)))

  -- outside the zone they are the same
  same_below : (q : ℕ) → q < 2 ^ 32 → in_zone wide q ≡ false → old_a.0 q ≡ old_b.0 q
  same_below q short out =
      let line = All-head (Holds q) (same_byte c) [] (all_right (Holds q) (lines_of facts) (same_byte c ∷ []) (known_lines q)) in
      let low : q % 2 ^ 32 ≡ q = mod-eq_of_lt short in
      let value_is = line_value c old_a.0 old_b.0 wide.low wide.high (s q) q old_a.1 old_b.1 (ap (Number W32) low) (word_value (s q) wide.low) (word_value (s q) wide.high) in
      elim (or_cases (not (nat_lt q wide.low) && nat_lt q wide.high) (old_a.0 (low_bits 32 q) == old_b.0 (low_bits 32 q)) (sym (ap is_truth value_is) ∙ line)) [
        | inl there ↦
            let parts = and_parts (not (nat_lt q wide.low)) (nat_lt q wide.high) there in
            absurd (let bad : true ≡ false = sym (within wide.low wide.high q (not_less q wide.low parts.0) (ltb-true q wide.high parts.1)) ∙ out in cc)
        | inr equal_bytes ↦ ap old_a.0 (sym low) ∙ eqb-true (old_a.0 (low_bits 32 q)) (old_b.0 (low_bits 32 q)) equal_bytes ∙ ap old_b.0 low
      ]

  same : (q : ℕ) → in_zone wide q ≡ false → byte_at other.0 q ≡ byte_at memory.0 q
  same q out = other.1 q ∙ (elim (cases_lt q (2 ^ 32)) [
    | inl short ↦ sym (same_below q short out)
    | inr past ↦ zero_past (fixed_byte p.image) old_b.0 q past (fixed_b q) ∙ sym (zero_past nothing old_a.0 q past (far_a q))
  ]) ∙ sym (memory.1 q)

  fixed_there : (q : ℕ) → has_byte (Bytes (byte_at memory.0)) q (bounded (fixed_byte p.image) q) ≡ true
  fixed_there q = elim (cases_Bool (in_zone wide q)) [
    | inr out ↦ same_fixed old_b.0 (byte_at memory.0) q (bounded (fixed_byte p.image) q) (sym (other.1 q) ∙ same q out) (fixed_b q)
    | inl there ↦
        let parts = and_parts (nat_le wide.low q) (nat_lt q wide.high) there in
        let below : q < wide.high = ltb-true q wide.high parts.1 in
        let none = free q (record { from = leb-true wide.low q parts.0; below = below }) in
        ap (λ (bit : Bool). has_byte (Bytes (byte_at memory.0)) q (if bit then fixed_byte p.image q else Some 0)) (lt-ltb q (2 ^ 32) (omega arith))
        ∙ ap (λ (o : Option ℕ). has_byte (Bytes (byte_at memory.0)) q o) none
  ]

  -- ---- the call

  arguments : List ℤ
  arguments = arguments_in b 0 p.body.signature.parameters

  others : List Scalar
  others = (typed_body p is).begun.0

  split : p.body.locals ≡ p.body.signature.parameters ++ others
  unfolding others
  split = (typed_body p is).begun.1

  local_facts_split : All (Has (s 0)) (local_facts 0 p.body.signature.parameters (p.body.signature.parameters ++ others))
  local_facts_split = subst (λ (locals : List Scalar). All (Has (s 0)) (local_facts 0 p.body.signature.parameters locals)) split local_values

  flags : Flags b 0 p.body.signature.parameters others
  flags = flags_there b ranged_b (s 0) (λ n t. refl) (λ n. refl) 0 p.body.signature.parameters others local_facts_split

  passes : Passes a b 0 p.body.signature.parameters
  passes = passes_there b ranged_b (s 0) (λ n t. refl) (λ n. refl) a (λ r. refl) 0 p.body.signature.parameters others (plain p is) local_facts_split argument_values

  alike : Alike p.body.locals (locals_at_entry p.body.locals arguments) other.0 wide b
  unfolding arguments
  alike = record {
    sorted = ranged_b;
    local_is = λ number type v e f.
        let zero_more : 0 + number ≡ number = omega arith in
        subst (λ (n : ℕ). HasLocal b n type v) zero_more
        (locals_there b ranged_b 0 p.body.signature.parameters others (plain p is) flags number type v
        (subst (λ (locals : List Scalar). slice_get locals number ≡ Some type) split e)
        (subst (λ (locals : List Scalar). slice_get (locals_at_entry locals (arguments_in b 0 p.body.signature.parameters)) number ≡ Some v) split f));
    local_there = λ number type e. values_there p.body.locals (arguments_in b 0 p.body.signature.parameters) number type e;
    memory_is = other_is;
    low_is = low_is;
    high_is = high_is;
  }

  begun : IsBegun p had memory.0 arguments a
  unfolding arguments
  begun = record {
    ranged = ranged_a;
    entries = entries;
    registers_are = registers_are;
    memory_is = memory_is;
    passed = λ i v e.
        let zero_more : 0 + i ≡ i = omega arith in
        subst (λ (n : ℕ). a (register (10 + n)) ≡ Number W32 (machine.word v)) zero_more
        (passed_there a b 0 p.body.signature.parameters passes i v e);
    typed = have_types b ranged_b 0 p.body.signature.parameters (plain p is);
    called = called;
    fixed = fixed_there;
    far = binary_far;
  }

  low_inside : wide.low ≤ had 2 - p.stack
  low_inside = let enough = room in omega arith

  -- ---- runs

  abbrev binary_system : TransitionSystem State
  binary_system = system_of p.graphs (p.numbering.graph_number p.entry)

  abbrev source_system : TransitionSystem State
  source_system = system_of (graphs_of p.unit (place_of p)) (body_number p.body.name p.unit.bodies)

  unbroken : (k : ℕ) → after source_system k (source_entry p b) ≡ Failed → ⊥
  unbroken k e =
      let fine = start.source_safe k k (omega arith)
      (not_back source_system (returned_stays (graphs_of p.unit (place_of p))) k (source_entry p b) (ap has_returned e)) in
      let bad : true ≡ false = sym (ap has_failed e) ∙ fine in cc

  module _ (r d : Assignment) (given : IsGiven p had wide memory.0 r d) where
    abbrev w : ℕ → Assignment
    w q = values_at q (Returned r) (Returned d)

    abbrev Gives : ℕ → Term → Type 0
    Gives q line = holds (w q) line ≡ true

    left_r : (bytes : ℕ → ℕ) × (r binary_memory ≡ Bytes bytes) × ((q : ℕ) → bytes q < 2 ^ 8)
    left_r = as_memory (r binary_memory) (given.binary_ranged binary_memory)

    left_d : (bytes : ℕ → ℕ) × (d source_memory ≡ Bytes bytes) × ((q : ℕ) → bytes q < 2 ^ 8)
    left_d = as_memory (d source_memory) (given.source_ranged source_memory)

    result_hold : (q : ℕ) (o : Option Scalar) → o ≡ p.body.signature.result → All (Gives q) (calling.result_lines (result_term o))
    result_hold q None e = λ i d lt. absurd (omega (arith, lt))
    result_hold q (Some type) e =
        let ten = as_word W32 (r (register 10)) (given.binary_ranged (register 10)) in
        all_more (Gives q) (equal (calling.register 10) (widened type (result type))) []
        (equal_itself (w q) (calling.register 10) (widened type (result type)) W32 ten.0 (open_value (w q) (register 10) ∙ ten.1)
        (sym (given.result_is (w q) type (sym e) refl) ∙ ten.1))
        (λ i d lt. absurd (omega (arith, lt)))

    registers_hold : (q : ℕ) (list : List ℕ) → ((k : ℕ) → Contains list k → Contains calling.kept_registers k)
        → All (Gives q) (map (λ (k : ℕ). equal (calling.register k) (at_entry k)) list)
    registers_hold q [] each = λ i d lt. absurd (omega (arith, lt))
    registers_hold q (k ∷ list) each =
        all_more (Gives q) (equal (calling.register k) (at_entry k)) (map (λ (k : ℕ). equal (calling.register k) (at_entry k)) list)
        (equal_itself (w q) (calling.register k) (at_entry k) W32 (had k) (open_value (w q) (register k) ∙ given.kept k (each k (0, omega arith, refl)))
        (open_value (w q) (entry_register k) ∙ given.entries k))
        (registers_hold q list (λ n among. each n (suc among.0, (let lt = among.1 in omega arith), among.2)))

    byte_holds : (at : ℕ) → Gives at (same_byte c)
    byte_holds at =
        let q : ℕ = low_bits 32 at in
        let short : q < 2 ^ 32 = omega arith in
        let low : q % 2 ^ 32 ≡ q = mod-eq_of_lt short in
        let value_is = line_value c left_r.0 left_d.0 wide.low wide.high (w at) q left_r.1 left_d.1 refl (word_value (w at) wide.low) (word_value (w at) wide.high) in
        ap is_truth value_is ∙ (elim (cases_Bool (in_zone wide q)) [
          | inl there ↦
              let parts = and_parts (nat_le wide.low q) (nat_lt q wide.high) there in
              or_left (not (nat_lt q wide.low) && nat_lt q wide.high) (left_r.0 (low_bits 32 q) == left_d.0 (low_bits 32 q))
              (and_from (not (nat_lt q wide.low)) (nat_lt q wide.high) (ap not (le-ltb q wide.low (leb-true wide.low q parts.0))) parts.1)
          | inr out ↦
              or_right (not (nat_lt q wide.low) && nat_lt q wide.high) (left_r.0 (low_bits 32 q) == left_d.0 (low_bits 32 q))
              (eq-eqb (left_r.0 (low_bits 32 q)) (left_d.0 (low_bits 32 q))
              (ap left_r.0 low ∙ given.outside left_r.0 left_d.0 q left_r.1 left_d.1 short out ∙ ap left_d.0 (sym low)))
        ])

    relation_holds : (at : ℕ) → relation c c.returns at (Returned r) (Returned d) ≡ true
    relation_holds at =
        let kept_lines : List Term = map (λ (k : ℕ). equal (calling.register k) (at_entry k)) calling.kept_registers in
        pass_all (λ (line : Term). holds (w at) line) (with_memory c c.returns)
        (All-append (Gives at) c.returns (same_byte c ∷ [])
        (All-append (Gives at) (calling.result_lines (result_term p.body.signature.result)) kept_lines (result_hold at p.body.signature.result refl)
        (registers_hold at calling.kept_registers (λ k among. among)))
        (all_more (Gives at) (same_byte c) [] (byte_holds at) (λ i d lt. absurd (omega (arith, lt)))))

    -- the bytes of the zone beside the function's stack are as before
    before_holds : (at : ℕ) → before_kept p wide before at (Returned r) (Returned d) ≡ true
    before_holds at = by (is_kept p.stack wide (Number W32 (had 2)) at) refl
      where
        to : (t : Bool) → is_kept p.stack wide (Number W32 (had 2)) at ≡ t → (not t || has_there before at (r binary_memory)) ≡ true
            → before_kept p wide before at (Returned r) (Returned d) ≡ true
        to t e h =
            ap (λ (u : Value). not (is_kept p.stack wide u at) || has_there before at (r binary_memory)) (given.entries 2)
            ∙ ap (λ (bit : Bool). not bit || has_there before at (r binary_memory)) e ∙ h

        by : (t : Bool) → is_kept p.stack wide (Number W32 (had 2)) at ≡ t → before_kept p wide before at (Returned r) (Returned d) ≡ true
        by false e = to false e refl
        by true e =
            let parts = and_parts (in_zone wide at) (not (nat_le (had 2) (at + p.stack) && nat_lt at (had 2))) e in
            let below : at < wide.high = ltb-true at wide.high (and_parts (nat_le wide.low at) (nat_lt at wide.high) parts.0).1 in
            let short : at < 2 ^ 32 = omega arith in
            let outside : in_zone (record { low = had 2 - p.stack; high = had 2 }) at ≡ false =
            false_from_ne_true (in_zone (record { low = had 2 - p.stack; high = had 2 }) at) (λ there.
            let both = and_parts (nat_le (had 2 - p.stack) at) (nat_lt at (had 2)) there in
            let from : had 2 - p.stack ≤ at = leb-true (had 2 - p.stack) at both.0 in
            let again : (nat_le (had 2) (at + p.stack) && nat_lt at (had 2)) ≡ true =
            and_from (nat_le (had 2) (at + p.stack)) (nat_lt at (had 2)) (le-leb (had 2) (at + p.stack) (omega arith)) both.1 in
            let bad : true ≡ false = sym parts.1 ∙ ap not again in cc) in
            let byte_is : left_r.0 at ≡ old_a.0 at = given.between left_r.0 at left_r.1 short parts.0 outside ∙ memory.1 at in
            let there : has_there before at (Bytes old_a.0) ≡ true = sym (ap (λ (u : Value). has_there before at u) old_a.1) ∙ (premise_parts at).0 in
            to true e (ap (λ (u : Value). has_there before at u) left_r.1 ∙ ap (λ (n : ℕ). n == before at) byte_is ∙ there)

    related : IsRelated (inner_over p wide before).returns (Returned r) (Returned d)
    related at =
        and_from (before_kept p wide before at (Returned r) (Returned d)) (relation c c.returns at (Returned r) (Returned d)) (before_holds at) (relation_holds at)

  alike_ends : (x y : State) (r d : Assignment) → x ≡ Returned r → y ≡ Returned d → IsGiven p had wide memory.0 r d → EndsAlike (inner_over p wide before) x y
  alike_ends x y r d ex ey given =
      both_return (ap has_returned ex) (ap has_returned ey)
      (subst (λ (z : State). IsRelated (inner_over p wide before).returns z y) (sym ex)
      (subst (λ (z : State). IsRelated (inner_over p wide before).returns (Returned r) z) (sym ey) (related r d given)))

  pub agree : (n : ℕ) → Agree (inner_over p wide before) n (binary_entry p a) (source_entry p b)
  agree n = record {
    safe = λ k le running.
        never_fails p is simulated had wide other.0 memory.0 arguments a b begun alike low_inside inside same unbroken k;
    forth = λ t le stops.
        let end = returned_is (after binary_system t (binary_entry p a)) (stops_back binary_system (returned_stays p.graphs) t (binary_entry p a) stops.now) in
        let found = given_forth p is simulated had wide other.0 memory.0 arguments a b begun alike low_inside inside same unbroken t end.0 end.1 in
        let first_time = first_back source_system (returned_stays (graphs_of p.unit (place_of p))) found.0 (source_entry p b) (ap has_returned found.2) in (
          first_time.0,
          first_time.1,
          alike_ends (after binary_system t (binary_entry p a)) (after source_system first_time.0 (source_entry p b)) end.0 found.1 end.1
              (sym first_time.2 ∙ found.2) found.3,
        );
    back = λ u le stops.
        let end = returned_is (after source_system u (source_entry p b)) (stops_back source_system (returned_stays (graphs_of p.unit (place_of p))) u (source_entry p b) stops.now) in
        let found = given_back p is simulated had wide other.0 memory.0 arguments a b begun alike low_inside inside same unbroken u end.0 end.1 in
        let first_time = first_back binary_system (returned_stays p.graphs) found.0 (binary_entry p a) (ap has_returned found.2) in (
          first_time.0,
          first_time.1,
          alike_ends (after binary_system first_time.0 (binary_entry p a)) (after source_system u (source_entry p b)) found.1 end.0
              (sym first_time.2 ∙ found.2) end.1 found.3,
        );
  }

abbrev Starts : Pair → Zone → (ℕ → ℕ) → State → State → Type 0
Starts p wide before x y =
    IsStart (inner_over p wide before) (IsBinaryFine (inner_convention p wide) (inner_frame p wide)) (IsSourceFine (inner_convention p wide) (inner_frame p wide)) x y

pub simulated_inner : (p : Pair) → IsPair p → IsSimulatedAtEntry p → Inner p
simulated_inner p is simulated wide high free before x y start n =
    let at_x = running_at p.graphs (p.numbering.graph_number p.entry) (p.numbering.node_number p.entry Entrance) x start.binary_at in
    let at_y = running_at (graphs_of p.unit (place_of p)) (body_number p.body.name p.unit.bodies) 0 y start.source_at in
    inl (subst (λ (u : State). Agree (inner_over p wide before) n u y) (sym at_x.1)
    (subst (λ (u : State). Agree (inner_over p wide before) n (binary_entry p at_x.0) u) (sym at_y.1)
    (agree p is simulated wide high free before at_x.0 at_y.0
    (subst (λ (u : State). Starts p wide before (binary_entry p at_x.0) u) at_y.1 (subst (λ (u : State). Starts p wide before u y) at_x.1 start)) n)))
