-- What the lines of the return relation say of the machine and of what C gives back.
use Rattle.std.proofs.Common.{◌≡◌, ◌∙◌, ℕ, ◌+◌, ◌-◌, ◌%◌, ◌^◌, ◌<◌, ◌≤◌, ◌==◌, ◌&&◌, ◌||◌, zero, suc, Bool, true, false, not, List, [], ◌∷◌, Contains, map, Option, Some, None, nat_lt, refl, sym, ap, subst, inl, inr, arith}
use Rattle.std.specs.Prelude.{ℤ, pos, negsuc}
use Rattle.std.specs.List.{All}
use Rattle.std.proofs.lemmas.Bool.{or_cases, and_parts, ltb-true, ltb-false, eqb-true}
use Rattle.std.proofs.lemmas.List.Elements.{All-contains, All-head}
use Rattle.std.proofs.Math.Nat.{mod-eq_of_lt}
use Rattle.memory_spec.specs.Memory.{Memory, byte_at}
use Rattle.memory_spec.specs.Zones.{InZone}
use Rattle.rv_machine_spec.specs.Arithmetic as machine
use Rattle.rv_machine_spec.specs.Machine.{Machine, read_register}
use Rattle.term_core_spec.specs.declared.Width.TheVariants.{W32}
use Rattle.term_core_spec.specs.declared.WordOperator.TheVariants as operator
use Rattle.term_core_spec.specs.declared.Variable.{Variable}
use Rattle.term_core_spec.specs.Term.{Term, equal, open_term}
use Rattle.term_core_spec.specs.Value.{Number, Bytes, Truth, Assignment, value, unary_value, binary_value, low_bits, operation}
use Rattle.graph_core_spec.specs.Simulation.{IsRelated}
use Rattle.path_cond_spec.specs.Passages.{holds}
use Rattle.graph_core_spec.specs.Run.{Returned, is_truth}
use Rattle.decompile_spec.specs.State.{Alike, entry_register}
use Rattle.decompile_laws.proofs.Values.{equal_evaluates, words_evaluates}
use Rattle.c_types_spec.specs.declared.Scalar.{Scalar}
use Rattle.c_types_spec.specs.Values.{bits_of}
use Rattle.c_graph_spec.specs.State.{result}
use Rattle.c_graph_laws.proofs.Extents.{ResultExtent, full, scalar}
use Rattle.c_graph_laws.specs.Together as c
use Rattle.c_graph_laws.specs.Together.{ReturnsAlike, gives_none, gives_some}
use Rattle.c_graph_laws.proofs.Divisions.{at_width_is}
use Rattle.c_graph_laws.proofs.Bits.{bits_resized}
use Rattle.sim_rules_spec.specs.Points.{Convention, values_at, with_memory, same_byte, binary_memory, source_memory, address}
use Rattle.sim_rules_spec.specs.Calling as calling
use Rattle.sim_rules_spec.specs.Systems.{relation}
use Rattle.sim_rules_spec.proofs.Truths.{all_left, all_right, all_mapped, all_pass}
use Rattle.validity_spec.specs.Convention.{Gives, ArePassed, dead_stack, kept_registers, result_words}
use Rattle.agreement_laws.specs.EntryFrame.{Pair, convention_of, result_term, widened}

equal_back : (s : Assignment) (x y : Term) (a b : ℕ) → value s x ≡ Number W32 a → value s y ≡ Number W32 b → holds s (equal x y) ≡ true → a ≡ b
equal_back s x y a b ex ey h = eqb-true a b (sym (ap is_truth (equal_evaluates s x y a b ex ey)) ∙ h)

pub open_value : (s : Assignment) (v : Variable) → value s (open_term v) ≡ s v
unfolding value
open_value s v = refl

pub bits_word : (v : ℤ) → bits_of 32 v ≡ machine.word v
bits_word (pos n) = refl
bits_word (negsuc n) = refl

pub line_value : (c : Convention) (ab mb : ℕ → ℕ) (from to : ℕ) (a : Assignment) (q : ℕ) → a binary_memory ≡ Bytes ab → a source_memory ≡ Bytes mb → a address ≡ Number W32 q
    → value a c.zone_from ≡ Number W32 from → value a c.zone_to ≡ Number W32 to
    → value a (same_byte c) ≡ Truth ((not (nat_lt q from) && nat_lt q to) || (ab (low_bits 32 q) == mb (low_bits 32 q)))
unfolding value unary_value binary_value
line_value c ab mb from to a q ea em eq ef et = rw (ea, em, eq, ef, et) refl

-- the stack pointer less the stack
pub zone_from_is : (s : Assignment) (sp stack : ℕ) → stack ≤ sp → sp < 2 ^ 32 → s (entry_register 2) ≡ Number W32 sp
    → value s (calling.zone_from stack) ≡ Number W32 (sp - stack)
unfolding operation value
zone_from_is s sp stack room below e =
    words_evaluates s operator.Subtract (calling.at_entry 2) (calling.word stack) sp stack e refl
    ∙ ap (Number W32) (difference sp stack room below)
  where
    difference : (sp stack : ℕ) → stack ≤ sp → sp < 2 ^ 32 → low_bits 32 (sp + (2 ^ 32 - low_bits 32 stack)) ≡ sp - stack
    difference sp stack room below =
        let small : stack % 2 ^ 32 ≡ stack = mod-eq_of_lt (omega arith) in
        ap (λ (n : ℕ). (sp + (2 ^ 32 - n)) % 2 ^ 32) small ∙ (omega arith)

are_registers : (r : ℕ) → Contains kept_registers r → (1 ≤ r) × (r < 32)
are_registers r among =
    let parts = and_parts (nat_lt 0 r) (nat_lt r 32)
    (All-contains (λ (r : ℕ). (nat_lt 0 r && nat_lt r 32) ≡ true) kept_registers r (all_pass (λ (r : ℕ). nat_lt 0 r && nat_lt r 32) kept_registers refl) among) in
    (ltb-true 0 r parts.0, ltb-true r 32 parts.1)

module _ (p : Pair) (m final : Machine) (there other : Assignment) (entries : (r : ℕ) → there (entry_register r) ≡ Number W32 (read_register m r))
    (alike : Alike final there) (room : p.stack ≤ read_register m 2) (below : read_register m 2 < 2 ^ 32)
    (related : IsRelated (relation (convention_of p (dead_stack m p.stack)) (convention_of p (dead_stack m p.stack)).returns) (Returned there) (Returned other)) where
  abbrev values : ℕ → Assignment
  values at = values_at at (Returned there) (Returned other)

  abbrev Holds : ℕ → Term → Type 0
  Holds at line = holds (values at) line ≡ true

  lines : (at : ℕ) → All (Holds at) (with_memory (convention_of p (dead_stack m p.stack)) (convention_of p (dead_stack m p.stack)).returns)
  lines at = all_pass (λ (line : Term). holds (values at) line) (with_memory (convention_of p (dead_stack m p.stack)) (convention_of p (dead_stack m p.stack)).returns) (related at)

  return_lines : All (Holds 0) (convention_of p (dead_stack m p.stack)).returns
  return_lines = all_left (Holds 0) (convention_of p (dead_stack m p.stack)).returns (same_byte (convention_of p (dead_stack m p.stack)) ∷ []) (lines 0)

  abbrev results : List Term
  results = calling.result_lines (result_term p.body.signature.result)

  abbrev as_at_entry : ℕ → Term
  as_at_entry r = equal (calling.register r) (calling.at_entry r)

  kept : (r : ℕ) → Contains kept_registers r → read_register final r ≡ read_register m r
  kept r among =
      let all = all_mapped (Holds 0) as_at_entry calling.kept_registers (all_right (Holds 0) results (map as_at_entry calling.kept_registers) return_lines) in
      let in_range = are_registers r among in
      equal_back (values 0) (calling.register r) (calling.at_entry r) (read_register final r) (read_register m r)
      (open_value (values 0) _ ∙ alike.registers r (λ is. let bad : 1 ≤ 0 = subst (λ (n : ℕ). 1 ≤ n) is in_range.0 in omega arith) in_range.1)
      (open_value (values 0) _ ∙ entries r)
      (All-contains (λ (r : ℕ). Holds 0 (as_at_entry r)) kept_registers r all among)

  passed : (type : Option Scalar) (v : Option ℤ) → ResultExtent type → c.Gives other type v → All (Holds 0) (calling.result_lines (result_term type))
      → ArePassed final (result_words type v)
  passed None None plain gives_none all = λ i n e. absurd (cc)
  passed None (Some v) plain none all = elim none [ ]
  passed (Some type) None plain none all = elim none [ ]
  passed (Some type) (Some v) plain (gives_some _ _ has) all = words
    where
      t32 : Scalar
      t32 = scalar 32 false

      there_is : read_register final 10 ≡ machine.word v
      there_is = equal_back (values 0) (calling.register 10) (widened type (result type)) (read_register final 10) (machine.word v)
          (open_value (values 0) _ ∙ alike.registers 10 (λ is. omega arith) (omega arith))
          (at_width_is (values 0) type (scalar 32 false) plain (full false) (open_term (result type)) has.bits (open_value (values 0) (result type) ∙ has.word)
          ∙ ap (Number W32) (sym (bits_resized type (scalar 32 false) plain (full false) has.bits has.below) ∙ ap (bits_of 32) (sym has.value_is) ∙ bits_word v))
          (All-head (Holds 0) _ [] all)

      words : ArePassed final (machine.word v ∷ [])
      words zero n e = there_is ∙ (let same : machine.word v ≡ n = cc in same)
      words (suc i) n e = absurd (cc)

  byte_is : (memory : Memory) → other source_memory ≡ Bytes (byte_at memory) → (at : ℕ) → at < 2 ^ 32 → (InZone (dead_stack m p.stack) at → ⊥)
      → byte_at final.memory at ≡ byte_at memory at
  byte_is memory is at short outside =
      let line = All-head (Holds at) (same_byte (convention_of p (dead_stack m p.stack))) [] (all_right (Holds at) (convention_of p (dead_stack m p.stack)).returns (same_byte (convention_of p (dead_stack m p.stack)) ∷ []) (lines at)) in
      let low : at % 2 ^ 32 ≡ at = mod-eq_of_lt short in
      let value_is = line_value (convention_of p (dead_stack m p.stack)) (byte_at final.memory) (byte_at memory) (read_register m 2 - p.stack) (read_register m 2) (values at) at
      alike.bytes is (ap (Number W32) low) (zone_from_is (values at) (read_register m 2) p.stack room below (entries 2)) (open_value (values at) _ ∙ entries 2) in
      elim (or_cases (not (nat_lt at (read_register m 2 - p.stack)) && nat_lt at (read_register m 2)) (byte_at final.memory (low_bits 32 at) == byte_at memory (low_bits 32 at))
      (sym (ap is_truth value_is) ∙ line)) [
        | inl inside ↦
            let parts = and_parts (not (nat_lt at (read_register m 2 - p.stack))) (nat_lt at (read_register m 2)) inside in
            absurd (outside (record { from = not_less at (read_register m 2 - p.stack) parts.0; below = ltb-true at (read_register m 2) parts.1 }))
        | inr same ↦
            ap (byte_at final.memory) (sym low) ∙ eqb-true (byte_at final.memory (low_bits 32 at)) (byte_at memory (low_bits 32 at)) same ∙ ap (byte_at memory) low
      ]
    where
      not_less : (a b : ℕ) → not (nat_lt a b) ≡ true → b ≤ a
      not_less a b h = by (nat_lt a b) refl h
        where
          by : (t : Bool) → nat_lt a b ≡ t → not t ≡ true → b ≤ a
          by true e h = absurd (let bad : false ≡ true = h in cc)
          by false e h = ltb-false a b e

  pub reads : (v : Option ℤ) (memory : Memory) → ResultExtent p.body.signature.result → ReturnsAlike p.body v memory other
      → Gives m final (dead_stack m p.stack) (result_words p.body.signature.result v) memory
  reads v memory plain back = record {
    result_given = passed p.body.signature.result v plain back.value_is (all_left (Holds 0) results (map as_at_entry calling.kept_registers) return_lines);
    memory_given = byte_is memory back.memory_is;
    registers_kept = kept;
  }
