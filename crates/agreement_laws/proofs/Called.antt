-- A call of a function whose frame at the entry is simulated, in a C run in which a wider zone is barred.
use Rattle.std.proofs.Common.{◌≡◌, ◌∙◌, ◌⊎◌, ℕ, ◌-◌, ◌%◌, ◌^◌, ◌<◌, ◌≤◌, ◌==◌, ◌&&◌, Bool, true, false, not, List, [], ◌∷◌, map, Contains, Option, Some, None, nat_lt, nat_le, refl, sym, ap, subst, inl, inr, arith}
use Rattle.std.specs.Prelude.{ℤ}
use Rattle.std.specs.List.{All}
use Rattle.std.proofs.lemmas.Bool.{or_cases, or_left, and_parts, ltb-true, leb-true, eqb-true, false_from_ne_true}
use Rattle.std.proofs.lemmas.List.Elements.{All-contains, All-head}
use Rattle.std.proofs.Math.Nat.{mod-eq_of_lt}
use Rattle.memory_spec.specs.Memory.{Memory, byte_at}
use Rattle.memory_spec.specs.Zones.{Zone}
use Rattle.term_core_spec.specs.declared.Width.TheVariants.{W32}
use Rattle.term_core_spec.specs.Term.{Term, equal, open_term}
use Rattle.term_core_spec.specs.Value.{Number, Bytes, Assignment, IsAssignment, value, low_bits}
use Rattle.path_cond_spec.specs.Passages.{holds}
use Rattle.graph_core_spec.specs.TransitionSystem.{TransitionSystem, after}
use Rattle.graph_core_spec.specs.Simulation.{IsStart, IsRelated}
use Rattle.graph_core_spec.specs.Run.{State, Returned, Failed, has_returned, has_failed, system_of, is_truth}
use Rattle.graph_core_spec.specs.Sorts.{IsState}
use Rattle.graph_core_spec.proofs.Sorts.{run_sorted}
use Rattle.decompile_spec.specs.Blocks.{Entrance}
use Rattle.decompile_spec.specs.State.{register, entry_register}
use Rattle.c_types_spec.specs.declared.Scalar.{Scalar}
use Rattle.c_types_spec.specs.Values.{bits_of}
use Rattle.c_run_spec.specs.declared.Guard.{Guard}
use Rattle.c_run_spec.specs.Setting.{Setting}
use Rattle.c_run_spec.specs.Accesses.{in_zone}
use Rattle.c_run_spec.specs.Calls.{Outcome, More, Broke, Back, c_run, locals_at_entry}
use Rattle.c_run_laws.specs.Statements.{AreAlike, IsSameOutcome, barring, IsInside}
use Rattle.c_run_laws.proofs.Laws.{zone_unread, narrow_zone, barred_stay}
use Rattle.c_graph_spec.specs.State.{width_of, result}
use Rattle.c_graph_spec.specs.SourceGraph.{body_number, graphs_of}
use Rattle.c_graph_laws.specs.Together as c
use Rattle.c_graph_laws.specs.Together.{Alike, RunTogether, ReturnsAlike, gives_none, gives_some, setting_at}
use Rattle.c_graph_laws.proofs.Together.{together}
use Rattle.c_graph_laws.proofs.ValidGraphs.{all_valid}
use Rattle.c_graph_laws.proofs.Extents.{ResultExtent, full, scalar}
use Rattle.c_graph_laws.proofs.Divisions.{at_width_is}
use Rattle.c_graph_laws.proofs.Bits.{bits_back}
use Rattle.proof_tree_spec.specs.Cuts.{both}
use Rattle.sim_rules_spec.specs.Points.{values_at, all_hold, with_memory, same_byte, binary_memory, source_memory}
use Rattle.sim_rules_spec.specs.Calling as calling
use Rattle.sim_rules_spec.specs.Systems.{relation, IsBinaryFine, IsSourceFine}
use Rattle.sim_rules_spec.proofs.Truths.{all_left, all_right, all_mapped, all_pass}
use Rattle.agreement_laws.specs.EntryFrame.{Pair, place_of, convention_of, result_term, widened, entry_frame, entry_opening, entry_premises}
use Rattle.agreement_laws.specs.Statements.{IsPair, IsSimulatedAtEntry, binary_entry, source_entry}
use Rattle.agreement_laws.proofs.Agreed.{returned_is, failed_apart, returned_stays}
use Rattle.agreement_laws.proofs.Begun.{IsBegun, stack_of, source_of, like_source, premise, binary_fine, source_fine}
use Rattle.agreement_laws.proofs.Ends.{whole, safe, forth, back}
use Rattle.agreement_laws.proofs.Fine.{entries_there}
use Rattle.agreement_laws.proofs.Lines.{not_less, within, same_bytes}
use Rattle.agreement_laws.proofs.Opening.{fact_value}
use Rattle.agreement_laws.proofs.Pairs.{runs_are, extents, never_entry, failed_is, binary_at, source_at}
use Rattle.agreement_laws.proofs.Premises.{premises_hold}
use Rattle.agreement_laws.proofs.ReadBack.{open_value, line_value, zone_from_is}

-- ---- results

-- where two states have the same result, it has one word
same_result : (s t at : Assignment) (o : Option Scalar) (v : Option ℤ) → ResultExtent o → c.Gives s o v → c.Gives t o v → (type : Scalar) → o ≡ Some type
    → at (result type) ≡ t (result type) → value s (widened type (result type)) ≡ value at (widened type (result type))
same_result s t at None None plain one other type e there = absurd (cc)
same_result s t at None (Some v) plain one other type e there = elim one [ ]
same_result s t at (Some u) None plain one other type e there = elim one [ ]
same_result s t at (Some u) (Some v) plain (gives_some _ _ one) (gives_some _ _ other) type e there =
    let same : u ≡ type = cc in
    let bits : one.bits ≡ other.bits = sym (bits_back u plain one.bits one.below) ∙ ap (bits_of u.width) (sym one.value_is ∙ other.value_is) ∙ bits_back u plain other.bits other.below in
    let here : at (result u) ≡ t (result u) = subst (λ (r : Scalar). at (result r) ≡ t (result r)) (sym same) there in
    subst (λ (r : Scalar). value s (widened r (result r)) ≡ value at (widened r (result r))) same
    (at_width_is s u (scalar 32 false) plain (full false) (open_term (result u)) one.bits (open_value s (result u) ∙ one.word)
    ∙ sym (at_width_is at u (scalar 32 false) plain (full false) (open_term (result u)) one.bits (open_value at (result u) ∙ here ∙ other.word ∙ ap (Number (width_of u)) (sym bits))))

-- ---- what is given back

-- values r of the binary and s of the source with which a function has returned: the result, widened, is in x10; the
-- registers that a callee saves are as they were; memories are equal outside the wide zone, and in it but for the
-- function's stack the binary's is as it was
pub record IsGiven (p : Pair) (had : ℕ → ℕ) (wide : Zone) (memory : Memory) (r s : Assignment) : Type 0 where
  pub binary_ranged : IsAssignment r
  pub source_ranged : IsAssignment s
  pub result_is : (at : Assignment) (type : Scalar) → p.body.signature.result ≡ Some type → at (result type) ≡ s (result type)
      → r (register 10) ≡ value at (widened type (result type))
  pub kept : (k : ℕ) → Contains calling.kept_registers k → r (register k) ≡ Number W32 (had k)
  pub entries : (k : ℕ) → r (entry_register k) ≡ Number W32 (had k)
  pub outside : (left right : ℕ → ℕ) (q : ℕ) → r binary_memory ≡ Bytes left → s source_memory ≡ Bytes right → q < 2 ^ 32 → in_zone wide q ≡ false → left q ≡ right q
  pub between : (left : ℕ → ℕ) (q : ℕ) → r binary_memory ≡ Bytes left → q < 2 ^ 32 → in_zone wide q ≡ true → in_zone (stack_of p had) q ≡ false → left q ≡ byte_at memory q

module _ (p : Pair) (is : IsPair p) (simulated : IsSimulatedAtEntry p) (had : ℕ → ℕ) (wide : Zone) (other memory : Memory) (arguments : List ℤ) (a b : Assignment)
    (begun : IsBegun p had memory arguments a) (alike : Alike p.body.locals (locals_at_entry p.body.locals arguments) other wide b)
    (low_inside : wide.low ≤ had 2 - p.stack) (high_inside : had 2 ≤ wide.high)
    (same : (q : ℕ) → in_zone wide q ≡ false → byte_at other q ≡ byte_at memory q) where
  abbrev narrow : Zone
  narrow = stack_of p had

  abbrev z : Assignment
  z = source_of p had memory arguments

  abbrev binary_system : TransitionSystem State
  binary_system = system_of p.graphs (p.numbering.graph_number p.entry)

  abbrev source_system : TransitionSystem State
  source_system = system_of (graphs_of p.unit (place_of p)) (body_number p.body.name p.unit.bodies)

  abbrev pub binary_run : ℕ → State
  binary_run t = after binary_system t (binary_entry p a)

  abbrev pub source_run : ℕ → State
  source_run u = after source_system u (source_entry p b)

  abbrev narrow_run : ℕ → State
  narrow_run u = after source_system u (source_entry p z)

  -- ---- the C runs

  abbrev setting : Setting
  setting = setting_at p.unit (place_of p) wide

  wide_runs : RunTogether p.unit (place_of p) wide p.body.name p.body arguments other b
  wide_runs = together p.unit (place_of p) wide p.body.name p.body arguments other b
      (record { typed = is.typed; sizes = is.sizes; placed = is.placed; body_is = is.body_is; bodies = is.bodies; alike = alike })

  narrow_runs : RunTogether p.unit (place_of p) narrow p.body.name p.body arguments memory z
  narrow_runs = together p.unit (place_of p) narrow p.body.name p.body arguments memory z
      (record { typed = is.typed; sizes = is.sizes; placed = is.placed; body_is = is.body_is; bodies = is.bodies; alike = like_source p is had memory arguments a begun })

  abbrev wide_outcome : ℕ → Outcome
  wide_outcome n = c_run setting p.body.name arguments other n

  abbrev middle_outcome : ℕ → Outcome
  middle_outcome n = c_run setting p.body.name arguments memory n

  abbrev narrow_outcome : ℕ → Outcome
  narrow_outcome n = c_run (barring setting narrow) p.body.name arguments memory n

  -- both need more turns, or return the same value and memories that are equal outside the wide zone
  data Same (n : ℕ) : Type 0 where
    both_more : wide_outcome n ≡ More → narrow_outcome n ≡ More → Same n
    both_back : (v : Option ℤ) (left right : Memory) → wide_outcome n ≡ Back v left → middle_outcome n ≡ Back v right → narrow_outcome n ≡ Back v right
        → AreAlike setting left right → Same n

  inside : IsInside narrow wide
  inside q h =
      let parts = and_parts (nat_le (had 2 - p.stack) q) (nat_lt q (had 2)) h in
      let from : had 2 - p.stack ≤ q = leb-true (had 2 - p.stack) q parts.0 in
      let below : q < had 2 = ltb-true q (had 2) parts.1 in
      within wide.low wide.high q (omega arith) (omega arith)

  module _ (unbroken : (k : ℕ) → source_run k ≡ Failed → ⊥) where
    outcomes : (n : ℕ) → Same n
    outcomes n = by (wide_outcome n) refl (zone_unread setting p.body.name arguments other memory n same)
      where
        narrowed : narrow_outcome n ≡ middle_outcome n ⊎ ((guard : Guard) × (offset : ℕ) × (middle_outcome n ≡ Broke guard offset))
        narrowed = elim (narrow_zone setting narrow p.body.name arguments memory n inside) [
          | inl bad ↦ inr (_, bad.0, bad.1)
          | inr same ↦ inl same
        ]

        by : (o : Outcome) → wide_outcome n ≡ o → IsSameOutcome setting o (middle_outcome n) → Same n
        by More e s = elim narrowed [
          | inl e_narrow ↦ both_more e (e_narrow ∙ s)
          | inr bad ↦ absurd (let both : More ≡ Broke bad.0 bad.1 = sym s ∙ bad.2 in cc)
        ]
        by (Broke guard offset) e s = absurd (let failed = wide_runs.breaks n guard offset e in unbroken failed.0 failed.1)
        by (Back v left) e s = elim narrowed [
          | inl e_narrow ↦ both_back v left s.0 e s.1 (e_narrow ∙ s.1) s.2
          | inr bad ↦ absurd (let both : Back v s.0 ≡ Broke bad.0 bad.1 = sym s.1 ∙ bad.2 in cc)
        ]

    narrow_safe : (k : ℕ) → has_failed (narrow_run k) ≡ false
    narrow_safe k = false_from_ne_true (has_failed (narrow_run k)) (λ bad.
        let broke = narrow_runs.fails k (failed_is (narrow_run k) bad) in
        never broke.0 broke.1 broke.2 broke.3 (outcomes broke.0))
      where
        never : (n : ℕ) (guard : Guard) (offset : ℕ) → narrow_outcome n ≡ Broke guard offset → Same n → ⊥
        never n guard offset e (both_more wide_is narrow_is) = let bad : More ≡ Broke guard offset = sym narrow_is ∙ e in cc
        never n guard offset e (both_back v left right wide_is middle_is narrow_is near) = let bad : Back v right ≡ Broke guard offset = sym narrow_is ∙ e in cc

    -- ---- the simulation

    abbrev at_start : ℕ → State → State → Bool
    at_start = both (entry_opening p narrow).known (all_hold (entry_premises p))

    abbrev at_return : ℕ → State → State → Bool
    at_return = relation (convention_of p narrow) (convention_of p narrow).returns

    start : IsStart (whole binary_system source_system (p.numbering.node_number p.entry Entrance) 0 at_start at_return)
        (IsBinaryFine (convention_of p narrow) (entry_frame p)) (IsSourceFine (convention_of p narrow) (entry_frame p)) (binary_entry p a) (source_entry p z)
    start = record {
      binary_at = binary_at p is a;
      source_at = source_at p is z;
      premise = premise p is had memory arguments a begun;
      binary_fine = binary_fine p is had memory arguments a begun;
      source_fine = source_fine p is had memory arguments a begun;
      binary_kept = λ n k le running i d lt. absurd (omega (arith, lt));
      source_kept = λ n k le running i d lt. absurd (omega (arith, lt));
      source_safe = λ n k le running. narrow_safe k;
    }

    pub never_fails : (t : ℕ) → has_failed (binary_run t) ≡ false
    never_fails t =
        safe binary_system source_system (p.numbering.node_number p.entry Entrance) 0 at_start at_return (returned_stays p.graphs) (returned_stays (graphs_of p.unit (place_of p)))
        (IsBinaryFine (convention_of p narrow) (entry_frame p)) (IsSourceFine (convention_of p narrow) (entry_frame p)) (simulated narrow) (binary_entry p a) (source_entry p z) start failed_apart t

    over : (t : ℕ) (r : Assignment) → binary_run t ≡ Returned r → (u : ℕ) × (s : Assignment) × (narrow_run u ≡ Returned s) × IsRelated at_return (Returned r) (Returned s)
    over t r e =
        let there = forth binary_system source_system (p.numbering.node_number p.entry Entrance) 0 at_start at_return (returned_stays p.graphs) (returned_stays (graphs_of p.unit (place_of p)))
        (IsBinaryFine (convention_of p narrow) (entry_frame p)) (IsSourceFine (convention_of p narrow) (entry_frame p)) (simulated narrow) (binary_entry p a) (source_entry p z) start t (ap has_returned e) in
        let found = returned_is (narrow_run there.0) there.1 in
        (there.0, found.0, found.1, subst (λ (x : State). IsRelated at_return x (Returned found.0)) e (subst (λ (y : State). IsRelated at_return (binary_run t) y) found.1 there.2))

    under : (u : ℕ) (s : Assignment) → narrow_run u ≡ Returned s → (t : ℕ) × (r : Assignment) × (binary_run t ≡ Returned r) × IsRelated at_return (Returned r) (Returned s)
    under u s e =
        let there = back binary_system source_system (p.numbering.node_number p.entry Entrance) 0 at_start at_return (returned_stays p.graphs) (returned_stays (graphs_of p.unit (place_of p)))
        (IsBinaryFine (convention_of p narrow) (entry_frame p)) (IsSourceFine (convention_of p narrow) (entry_frame p)) (simulated narrow) (binary_entry p a) (source_entry p z) start u (ap has_returned e) in
        let found = returned_is (binary_run there.0) there.1 in
        (there.0, found.0, found.1, subst (λ (y : State). IsRelated at_return (Returned found.0) y) e (subst (λ (x : State). IsRelated at_return x (narrow_run u)) found.1 there.2))

    -- ---- what is given back

    module _ (t u : ℕ) (r s' s : Assignment) (n : ℕ) (v : Option ℤ) (left right : Memory) (e : binary_run t ≡ Returned r) (e_source : source_run u ≡ Returned s) (related : IsRelated at_return (Returned r) (Returned s'))
        (narrow_gives : ReturnsAlike p.body v right s') (wide_gives : ReturnsAlike p.body v left s) (middle_is : middle_outcome n ≡ Back v right) (near : AreAlike setting left right) where
      abbrev values : ℕ → Assignment
      values at = values_at at (Returned r) (Returned s')

      abbrev Holds : ℕ → Term → Type 0
      Holds at line = holds (values at) line ≡ true

      lines : (at : ℕ) → All (Holds at) (with_memory (convention_of p narrow) (convention_of p narrow).returns)
      lines at = all_pass (λ (line : Term). holds (values at) line) (with_memory (convention_of p narrow) (convention_of p narrow).returns) (related at)

      return_lines : All (Holds 0) (convention_of p narrow).returns
      return_lines = all_left (Holds 0) (convention_of p narrow).returns (same_byte (convention_of p narrow) ∷ []) (lines 0)

      abbrev as_at_entry : ℕ → Term
      as_at_entry k = equal (calling.register k) (calling.at_entry k)

      entry_is : (k : ℕ) → r (entry_register k) ≡ Number W32 (had k)
      entry_is k = entries_there p had a (never_entry p is) begun.entries (premises_hold p had (runs_are p is) begun.called) begun.called.stack_room begun.called.stack_below t (Returned r) e refl k

      kept_is : (k : ℕ) → Contains calling.kept_registers k → r (register k) ≡ Number W32 (had k)
      kept_is k among =
          let all = all_mapped (Holds 0) as_at_entry calling.kept_registers
          (all_right (Holds 0) (calling.result_lines (result_term p.body.signature.result)) (map as_at_entry calling.kept_registers) return_lines) in
          sym (fact_value (values 0) (record { variable = register k; term = calling.at_entry k }) (All-contains (λ (k : ℕ). Holds 0 (as_at_entry k)) calling.kept_registers k all among))
          ∙ open_value (values 0) (entry_register k) ∙ entry_is k

      result_of : (o : Option Scalar) → All (Holds 0) (calling.result_lines (result_term o)) → (type : Scalar) → o ≡ Some type
          → r (register 10) ≡ value (values 0) (widened type (result type))
      result_of None all type is = absurd (cc)
      result_of (Some u) all type is =
          let same : u ≡ type = cc in
          subst (λ (w : Scalar). r (register 10) ≡ value (values 0) (widened w (result w))) same
          (sym (fact_value (values 0) (record { variable = register 10; term = widened u (result u) }) (All-head (Holds 0) (equal (calling.register 10) (widened u (result u))) [] all)))

      -- outside the function's stack the binary has the bytes that the narrow run leaves
      byte_is : (bytes : ℕ → ℕ) (q : ℕ) → r binary_memory ≡ Bytes bytes → q < 2 ^ 32 → in_zone narrow q ≡ false → bytes q ≡ byte_at right q
      byte_is bytes q is_bytes short out =
          let line = All-head (Holds q) (same_byte (convention_of p narrow)) [] (all_right (Holds q) (convention_of p narrow).returns (same_byte (convention_of p narrow) ∷ []) (lines q)) in
          let low : q % 2 ^ 32 ≡ q = mod-eq_of_lt short in
          let value_is = line_value (convention_of p narrow) bytes (byte_at right) (had 2 - p.stack) (had 2) (values q) q
          is_bytes narrow_gives.memory_is (ap (Number W32) low) (zone_from_is (values q) (had 2) p.stack begun.called.stack_room begun.called.stack_below (entry_is 2))
          (open_value (values q) (entry_register 2) ∙ entry_is 2) in
          elim (or_cases (not (nat_lt q (had 2 - p.stack)) && nat_lt q (had 2)) (bytes (low_bits 32 q) == byte_at right (low_bits 32 q)) (sym (ap is_truth value_is) ∙ line)) [
            | inl there ↦
                let parts = and_parts (not (nat_lt q (had 2 - p.stack))) (nat_lt q (had 2)) there in
                absurd (let bad : true ≡ false = sym (within (had 2 - p.stack) (had 2) q (not_less q (had 2 - p.stack) parts.0) (ltb-true q (had 2) parts.1)) ∙ out in cc)
            | inr equal_bytes ↦ ap bytes (sym low) ∙ eqb-true (bytes (low_bits 32 q)) (byte_at right (low_bits 32 q)) equal_bytes ∙ ap (byte_at right) low
          ]

      narrow_too : (q : ℕ) → in_zone wide q ≡ false → in_zone narrow q ≡ false
      narrow_too q out = false_from_ne_true (in_zone narrow q) (λ there. let bad : true ≡ false = sym (inside q there) ∙ out in cc)

      given : IsGiven p had wide memory r s
      given = record {
        binary_ranged = subst IsState e (run_sorted p.graphs (p.numbering.graph_number p.entry) is.binary_valid t (binary_entry p a) (begun.ranged, tt));
        source_ranged = subst IsState e_source (run_sorted (graphs_of p.unit (place_of p)) (body_number p.body.name p.unit.bodies)
            (all_valid p.unit (place_of p) is.placed is.typed is.sizes) u (source_entry p b) (alike.sorted, tt));
        result_is = λ at type has there.
            result_of p.body.signature.result (all_left (Holds 0) (calling.result_lines (result_term p.body.signature.result)) (map as_at_entry calling.kept_registers) return_lines) type has
            ∙ same_result (values 0) s at p.body.signature.result v (extents p is).result (values_give p.body.signature.result v narrow_gives.value_is) wide_gives.value_is type has there;
        kept = kept_is;
        entries = entry_is;
        outside = λ bytes others q is_bytes is_others short out.
            byte_is bytes q is_bytes short (narrow_too q out) ∙ sym (near q out) ∙ same_bytes (byte_at left) others (sym wide_gives.memory_is ∙ is_others) q;
        between = λ bytes q is_bytes short there out.
            byte_is bytes q is_bytes short out ∙ barred_stay setting p.body.name arguments memory right n v middle_is q (or_left (in_zone wide q) (setting.is_fixed q) there);
      }
        where
          values_give : (o : Option Scalar) (w : Option ℤ) → c.Gives s' o w → c.Gives (values 0) o w
          values_give _ _ gives_none = gives_none
          values_give _ _ (gives_some type w has) = gives_some type w (record { bits = has.bits; below = has.below; word = has.word; value_is = has.value_is })

    -- where the binary returns the source does, and the other way round
    pub given_forth : (t : ℕ) (r : Assignment) → binary_run t ≡ Returned r → (u : ℕ) × (s : Assignment) × (source_run u ≡ Returned s) × IsGiven p had wide memory r s
    given_forth t r e =
        let there = over t r e in
        let back_is = narrow_runs.returns there.0 there.1 there.2 in
        by back_is.0 back_is.1 back_is.2 back_is.3 (outcomes back_is.0) there.1 there.3 back_is.4
      where
        by : (n : ℕ) (v : Option ℤ) (right : Memory) → narrow_outcome n ≡ Back v right → Same n → (s' : Assignment) → IsRelated at_return (Returned r) (Returned s')
            → ReturnsAlike p.body v right s' → (u : ℕ) × (s : Assignment) × (source_run u ≡ Returned s) × IsGiven p had wide memory r s
        by n v right is_back (both_more wide_is narrow_is) s' related gives = absurd (let bad : More ≡ Back v right = sym narrow_is ∙ is_back in cc)
        by n v right is_back (both_back w left middle wide_is middle_is narrow_is near) s' related gives =
            let same_back : Back w middle ≡ Back v right = sym narrow_is ∙ is_back in
            let same_value : w ≡ v = cc in
            let same_memory : middle ≡ right = cc in
            let source = wide_runs.gives_back n w left wide_is in (
              source.0,
              source.1,
              source.2,
              given t source.0 r s' source.1 n w left middle e source.2 related
                  (subst (λ (m : Memory). ReturnsAlike p.body w m s') (sym same_memory) (subst (λ (o : Option ℤ). ReturnsAlike p.body o right s') (sym same_value) gives))
                  source.3 middle_is near,
            )

    pub given_back : (u : ℕ) (s : Assignment) → source_run u ≡ Returned s → (t : ℕ) × (r : Assignment) × (binary_run t ≡ Returned r) × IsGiven p had wide memory r s
    given_back u s e =
        let back_is = wide_runs.returns u s e in
        by back_is.0 back_is.1 back_is.2 back_is.3 back_is.4 (outcomes back_is.0)
      where
        by : (n : ℕ) (v : Option ℤ) (left : Memory) → wide_outcome n ≡ Back v left → ReturnsAlike p.body v left s → Same n
            → (t : ℕ) × (r : Assignment) × (binary_run t ≡ Returned r) × IsGiven p had wide memory r s
        by n v left is_back gives (both_more wide_is narrow_is) = absurd (let bad : More ≡ Back v left = sym wide_is ∙ is_back in cc)
        by n v left is_back gives (both_back w first right wide_is middle_is narrow_is near) =
            let same_back : Back w first ≡ Back v left = sym wide_is ∙ is_back in
            let same_value : w ≡ v = cc in
            let same_memory : first ≡ left = cc in
            let narrow_back = narrow_runs.gives_back n w right narrow_is in
            let there = under narrow_back.0 narrow_back.1 narrow_back.2 in (
              there.0,
              there.1,
              there.2,
              given there.0 u there.1 narrow_back.1 s n w first right there.2 e there.3 narrow_back.3
                  (subst (λ (m : Memory). ReturnsAlike p.body w m s) (sym same_memory) (subst (λ (o : Option ℤ). ReturnsAlike p.body o left s) (sym same_value) gives))
                  middle_is near,
            )
