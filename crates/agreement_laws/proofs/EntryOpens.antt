-- The opening of the frame at the entry: its terms are well sorted, and two states of which it is known have their values.
use Rattle.std.proofs.Common.{◌≡◌, ℕ, suc, ◌+◌, ◌^◌, ◌<◌, Bool, true, false, if◌then◌else◌, List, [], ◌∷◌, map, Some, refl, sym, ap, subst}
use Rattle.std.specs.List.{All}
use Rattle.std.proofs.lemmas.List.Elements.{All-nil, All-cons, All-append, All-head, All-tail}
use Rattle.memory_spec.specs.Zones.{Zone}
use Rattle.elf_read_spec.specs.Image.{fixed_byte}
use Rattle.term_core_spec.specs.declared.Sort.{Sort}
use Rattle.term_core_spec.specs.declared.Sort.TheVariants as sort
use Rattle.term_core_spec.specs.declared.Variable.{Variable}
use Rattle.term_core_spec.specs.Same.{same_variable}
use Rattle.term_core_spec.proofs.Same.{variable-same}
use Rattle.term_core_spec.specs.Sort.{sort_of, sort_of_atom}
use Rattle.term_core_spec.specs.Term.{Term, open_term, truth}
use Rattle.term_core_spec.specs.Value.{Assignment, IsAssignment, IsOfSort, value}
use Rattle.term_core_spec.specs.Substitution.{State as Terms, values_of}
use Rattle.term_core_spec.proofs.Soundness.{value-sort}
use Rattle.decompile_spec.specs.State as code
use Rattle.c_types_spec.specs.declared.Scalar.{Scalar}
use Rattle.c_graph_spec.specs.State.{local, is_set, zone_low, zone_high}
use Rattle.c_graph_laws.proofs.Extents.{IsPlain, full, scalar}
use Rattle.c_graph_laws.proofs.Sorted.{at_width_sorted}
use Rattle.proof_tree_spec.specs.Frames.{Frame}
use Rattle.sim_rules_spec.specs.Calling.{zone_from, at_entry}
use Rattle.sim_rules_spec.specs.Rules.{at_cut}
use Rattle.sim_rules_spec.specs.Proper.{Opens}
use Rattle.sim_rules_spec.proofs.AtCut.{cuts_open}
use Rattle.sim_rules_spec.proofs.Calling.{is_convention}
use Rattle.agreement_laws.specs.EntryFrame.{Pair, Fact, given, convention_of, result_term, entry_opening, parameter, widened, argument_facts, registers, binary_facts, local_facts, zone_facts, source_facts}
use Rattle.agreement_laws.specs.Statements.{IsPair}
use Rattle.agreement_laws.proofs.Opening.{opened}
use Rattle.agreement_laws.proofs.Pairs.{plain, fixed_below}
use Rattle.agreement_laws.proofs.ReadBack.{open_value}

-- the term has the variable's sort
abbrev IsSortedFact : Fact → Type 0
IsSortedFact fact = sort_of fact.term ≡ Some fact.variable.sort

open_sorted : (v : Variable) → sort_of (open_term v) ≡ Some v.sort
unfolding sort_of sort_of_atom
open_sorted v = refl

truth_sorted : (b : Bool) → sort_of (truth b) ≡ Some sort.Truth
unfolding sort_of sort_of_atom
truth_sorted b = refl

one_fact : (v : Variable) (t : Term) (facts : List Fact) → sort_of t ≡ Some v.sort → All IsSortedFact facts → All IsSortedFact (record { variable = v; term = t } ∷ facts)
one_fact v t facts is rest = All-cons IsSortedFact (record { variable = v; term = t }) facts is rest

arguments_sorted : (number : ℕ) (types : List Scalar) → All IsPlain types → All IsSortedFact (argument_facts number types)
arguments_sorted number [] are = All-nil IsSortedFact
arguments_sorted number (type ∷ types) are =
    one_fact (code.register (10 + number)) (widened type (parameter number type)) (argument_facts (suc number) types)
    (at_width_sorted type (scalar 32 false) (All-head IsPlain type types are) (full false) (open_term (parameter number type)) (open_sorted (parameter number type)))
    (arguments_sorted (suc number) types (All-tail IsPlain type types are))

registers_sorted : (list : List ℕ) → All IsSortedFact (map (λ (r : ℕ). record { variable = code.register r; term = at_entry r }) list)
registers_sorted [] = All-nil IsSortedFact
registers_sorted (r ∷ list) =
    one_fact (code.register r) (at_entry r) (map (λ (r : ℕ). record { variable = code.register r; term = at_entry r }) list) (open_sorted (code.entry_register r)) (registers_sorted list)

locals_sorted : (number : ℕ) (parameters locals : List Scalar) → All IsSortedFact (local_facts number parameters locals)
locals_sorted number parameters [] = All-nil IsSortedFact
locals_sorted number [] (type ∷ locals) =
    one_fact (is_set number) (truth false) (local_facts (suc number) [] locals) (truth_sorted false) (locals_sorted (suc number) [] locals)
locals_sorted number (parameter_type ∷ parameters) (type ∷ locals) =
    one_fact (is_set number) (truth true) (record { variable = local number parameter_type; term = open_term (parameter number parameter_type) } ∷ local_facts (suc number) parameters locals)
    (truth_sorted true)
    (one_fact (local number parameter_type) (open_term (parameter number parameter_type)) (local_facts (suc number) parameters locals)
    (open_sorted (parameter number parameter_type)) (locals_sorted (suc number) parameters locals))

-- values of well-sorted terms have their sorts
given_sorted : (a : Assignment) → IsAssignment a → (facts : List Fact) (rest : Terms) → All IsSortedFact facts → IsAssignment (values_of a rest)
    → IsAssignment (values_of a (given facts rest))
given_sorted a ranged [] rest are others = others
given_sorted a ranged (fact ∷ facts) rest are others = λ v.
    by v (same_variable v fact.variable) refl (given_sorted a ranged facts rest (All-tail IsSortedFact fact facts are) others v)
  where
    by : (v : Variable) (b : Bool) → same_variable v fact.variable ≡ b → IsOfSort v.sort (value a (given facts rest v))
        → IsOfSort v.sort (value a (if b then fact.term else given facts rest v))
    by v true e later =
        subst (λ (s : Sort). IsOfSort s (value a fact.term)) (ap (λ (w : Variable). w.sort) (sym (variable-same v fact.variable e)))
        (value-sort a ranged fact.term fact.variable.sort (All-head IsSortedFact fact facts are))
    by v false e later = later

plain_values : (a : Assignment) → IsAssignment a → IsAssignment (values_of a open_term)
plain_values a ranged v = subst (IsOfSort v.sort) (sym (open_value a v)) (ranged v)

pub entry_opens : (p : Pair) (zone : Zone) (f : Frame) → IsPair p → p.stack < 2 ^ 32 → Opens (convention_of p zone) f (entry_opening p zone)
entry_opens p zone f is small =
    let convention = is_convention p.stack zone.low zone.high (result_term p.body.signature.result) (fixed_byte p.image) small (fixed_below p is) in
    let cut = cuts_open (convention_of p zone) f convention in
    record {
      fixed_below = fixed_below p is;
      binary_sorts = λ a ranged. given_sorted a ranged (binary_facts p) (at_cut (convention_of p zone)).binary
          (All-append IsSortedFact (argument_facts 0 p.body.signature.parameters) (map (λ (r : ℕ). record { variable = code.register r; term = at_entry r }) registers)
          (arguments_sorted 0 p.body.signature.parameters (plain p is)) (registers_sorted registers)) (cut.binary_sorts a ranged);
      source_sorts = λ a ranged. given_sorted a ranged (source_facts p) open_term
          (All-append IsSortedFact (local_facts 0 p.body.signature.parameters p.body.locals) (zone_facts p.stack) (locals_sorted 0 p.body.signature.parameters p.body.locals)
          (one_fact zone_low (zone_from p.stack) (record { variable = zone_high; term = at_entry 2 } ∷ []) convention.from_word
          (one_fact zone_high (at_entry 2) [] convention.to_word (All-nil IsSortedFact)))) (plain_values a ranged);
      opened = λ x y live_x live_y known fine_x fine_y at. opened p zone f convention x y live_x live_y known fine_x fine_y at;
    }
