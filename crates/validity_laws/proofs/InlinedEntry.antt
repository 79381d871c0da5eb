-- Where the frame at the entry of a function is simulated over graphs with calls inlined, it is over the function's graphs.
use Rattle.std.proofs.Common.{◌≡◌, ◌∙◌, inl, inr, ℕ, suc, ◌+◌, ◌<◌, Bool, true, false, if◌then◌else◌, refl, sym, ap, subst, arith, List, [], ◌∷◌, ◌++◌, length, map, get_or, All, Option, Some, None, slice_get}
use Rattle.std.specs.Prelude.{nat_lt}
use Rattle.std.proofs.lemmas.List.Elements.{All-nil, All-cons, All-append, All-map, All-weaker}
use Rattle.std.proofs.lemmas.Option.{same_Some, slice_get-get_or, slice_get_within}
use Rattle.memory_spec.specs.Zones.{Zone}
use Rattle.term_core_spec.specs.declared.Width.{Width}
use Rattle.term_core_spec.specs.declared.Width.TheVariants.{W32}
use Rattle.term_core_spec.specs.declared.Variable.{Variable}
use Rattle.term_core_spec.specs.Sort.{bits}
use Rattle.term_core_spec.specs.Term.{Term, Occurs, equal, open_term, truth, sign_extend, zero_extend, low}
use Rattle.graph_core_spec.specs.Graph.{Graph}
use Rattle.decompile_spec.specs.Blocks.{Entrance}
use Rattle.decompile_spec.specs.CodeGraph.{entrance}
use Rattle.decompile_spec.specs.State.{register, entry_register}
use Rattle.c_types_spec.specs.declared.Scalar.{Scalar}
use Rattle.c_graph_spec.specs.State.{local, is_set, zone_low, zone_high, result}
use Rattle.c_graph_spec.specs.Values.{at_width}
use Rattle.c_graph_spec.specs.SourceGraph.{body_number, graph_of, graphs_of}
use Rattle.agreement_laws.proofs.ZoneEnds.{never_bound}
use Rattle.graph_inline_spec.specs.Inlining.{TermSpeaksOf}
use Rattle.proof_tree_spec.specs.Frames.{Side, Frame}
use Rattle.sim_rules_spec.specs.Points.{Convention, all_hold, with_memory, same_byte, entry_zone, source_zone}
use Rattle.sim_rules_spec.specs.Calling.{zone_from, at_entry, word, kept_registers, result_lines}
use Rattle.sim_rules_spec.specs.Calling as calling
use Rattle.sim_rules_spec.specs.Systems.{IsSimulated}
use Rattle.sim_inline_laws.specs.Frames.{Stays, IsNeverBound, IsWhole}
use Rattle.sim_inline_laws.specs.Runs.{IsOfFunction}
use Rattle.sim_inline_laws.specs.Unfolding.{Inlinable, Functions, AreInlinable}
use Rattle.sim_inline_laws.proofs.Beside.{node_in}
use Rattle.sim_inline_laws.proofs.Binary.{binary_sound}
use Rattle.sim_inline_laws.proofs.Source.{source_sound}
use Rattle.agreement_laws.specs.EntryFrame.{Pair, Fact, place_of, convention_of, result_term, widened, parameter, argument_facts, registers, binary_facts, local_facts, zone_facts, source_facts, lines_of, entry_premises, entry_frame}
use Rattle.agreement_laws.specs.Callers.{Base, frame_in}
use Rattle.agreement_laws.specs.Statements.{IsPair}
use Rattle.agreement_laws.proofs.Pairs.{code, body_there, never_entry}
use Rattle.validity_laws.specs.Inlined.{is_own_of_source, IsInlinedSide, as_it_is, inlined, IsInlined}
use Rattle.validity_laws.proofs.EntryLines.{IsOfEntry, are_of_entry}
use Rattle.sim_rules_spec.specs.Points.{is_binary}

-- ---- terms of the function's own variables

abbrev IsHere : Term → Type 0
IsHere t = (v : Variable) → Occurs v t → v.instance ≡ 0

open_here : (u : Variable) → u.instance ≡ 0 → IsHere (open_term u)
unfolding Occurs
open_here u is v o = ap (λ (w : Variable). w.instance) o ∙ is

word_here : (n : ℕ) → IsHere (word n)
unfolding Occurs
word_here n v o = absurd o

truth_here : (t : Bool) → IsHere (truth t)
unfolding Occurs
truth_here t v o = absurd o

equal_here : (a b : Term) → IsHere a → IsHere b → IsHere (equal a b)
unfolding Occurs
equal_here a b h k v (inl o) = h v o
equal_here a b h k v (inr o) = k v o

either_here : (c : Bool) (a b : Term) → IsHere a → IsHere b → IsHere (if c then a else b)
either_here true a b h k = h
either_here false a b h k = k

signed_here : (w : Width) (x : Term) → IsHere x → IsHere (sign_extend w x)
unfolding Occurs
signed_here w x h v o = h v o

unsigned_here : (w : Width) (x : Term) → IsHere x → IsHere (zero_extend w x)
unfolding Occurs
unsigned_here w x h v o = h v o

low_here : (w : Width) (x : Term) → IsHere x → IsHere (low w x)
unfolding Occurs
low_here w x h v o = h v o

width_here : (type : Scalar) (w : Width) (x : Term) → IsHere x → IsHere (at_width type w x)
width_here type w x h =
    either_here (nat_lt type.width (bits w)) _ _ (either_here type.is_signed (sign_extend w x) (zero_extend w x) (signed_here w x h) (unsigned_here w x h))
    (either_here (nat_lt (bits w) type.width) (low w x) x (low_here w x h) h)

low_end_here : (stack : ℕ) → IsHere (zone_from stack)
unfolding Occurs
low_end_here stack v (inl o) = ap (λ (w : Variable). w.instance) o
low_end_here stack v (inr o) = absurd o

entry_here : (r : ℕ) → IsHere (at_entry r)
entry_here r = open_here (entry_register r) refl

-- ---- facts and lines

abbrev IsFactHere : Fact → Type 0
IsFactHere fact = (fact.variable.instance ≡ 0) × IsHere fact.term

arguments_here : (number : ℕ) (types : List Scalar) → All IsFactHere (argument_facts number types)
arguments_here number [] = All-nil IsFactHere
arguments_here number (type ∷ types) =
    All-cons IsFactHere (record { variable = register (10 + number); term = widened type (parameter number type) }) (argument_facts (suc number) types)
    (refl, width_here type W32 (open_term (parameter number type)) (open_here (parameter number type) refl)) (arguments_here (suc number) types)

locals_here : (number : ℕ) (parameters locals : List Scalar) → All IsFactHere (local_facts number parameters locals)
locals_here number parameters [] = All-nil IsFactHere
locals_here number [] (type ∷ locals) =
    All-cons IsFactHere (record { variable = is_set number; term = truth false }) (local_facts (suc number) [] locals) (refl, truth_here false) (locals_here (suc number) [] locals)
locals_here number (parameter_type ∷ parameters) (type ∷ locals) =
    All-cons IsFactHere (record { variable = is_set number; term = truth true })
    (record { variable = local number parameter_type; term = open_term (parameter number parameter_type) } ∷ local_facts (suc number) parameters locals) (refl, truth_here true)
    (All-cons IsFactHere (record { variable = local number parameter_type; term = open_term (parameter number parameter_type) }) (local_facts (suc number) parameters locals)
    (refl, open_here (parameter number parameter_type) refl) (locals_here (suc number) parameters locals))

module _ (q : Pair) where
  facts_here : All IsFactHere (binary_facts q ++ source_facts q)
  facts_here =
      All-append IsFactHere (binary_facts q) (source_facts q)
      (All-append IsFactHere (argument_facts 0 q.body.signature.parameters) (map (λ (r : ℕ). record { variable = register r; term = at_entry r }) registers)
      (arguments_here 0 q.body.signature.parameters)
      (All-map IsFactHere (λ (r : ℕ). record { variable = register r; term = at_entry r }) registers (λ k d less. (refl, entry_here (get_or registers k d)))))
      (All-append IsFactHere (local_facts 0 q.body.signature.parameters q.body.locals) (zone_facts q.stack) (locals_here 0 q.body.signature.parameters q.body.locals)
      (All-cons IsFactHere (record { variable = zone_low; term = zone_from q.stack }) (record { variable = zone_high; term = at_entry 2 } ∷ []) (refl, low_end_here q.stack)
      (All-cons IsFactHere (record { variable = zone_high; term = at_entry 2 }) [] (refl, entry_here 2) (All-nil IsFactHere))))

  module _ (zone : Zone) where
    abbrev c : Convention
    c = convention_of q zone

    byte_here : IsHere (same_byte c)
    unfolding Occurs
    byte_here v (inl (inl (inl o))) = ap (λ (w : Variable). w.instance) o
    byte_here v (inl (inl (inr o))) = low_end_here q.stack v o
    byte_here v (inl (inr (inl o))) = ap (λ (w : Variable). w.instance) o
    byte_here v (inl (inr (inr o))) = entry_here 2 v o
    byte_here v (inr (inl (inl o))) = ap (λ (w : Variable). w.instance) o
    byte_here v (inr (inl (inr o))) = ap (λ (w : Variable). w.instance) o
    byte_here v (inr (inr (inl o))) = ap (λ (w : Variable). w.instance) o
    byte_here v (inr (inr (inr o))) = ap (λ (w : Variable). w.instance) o

    memory_here : (lines : List Term) → All IsHere lines → All IsHere (with_memory c lines)
    memory_here lines all = All-append IsHere lines (same_byte c ∷ []) all (All-cons IsHere (same_byte c) [] byte_here (All-nil IsHere))

    -- what is known at the entry
    abbrev pub known_lines : List Term
    known_lines = with_memory c (lines_of (binary_facts q ++ source_facts q))

    known_here : All IsHere known_lines
    known_here =
        memory_here (lines_of (binary_facts q ++ source_facts q))
        (All-map IsHere (λ (fact : Fact). equal (open_term fact.variable) fact.term) (binary_facts q ++ source_facts q)
        (All-weaker IsFactHere (λ (fact : Fact). IsHere (equal (open_term fact.variable) fact.term))
        (λ fact is. equal_here (open_term fact.variable) fact.term (open_here fact.variable is.0) is.1) (binary_facts q ++ source_facts q) facts_here))

    premises_here : All IsHere (entry_premises q)
    premises_here i d lt v o = let is = are_of_entry q i d lt v o in ap (λ (w : Variable). w.instance) is.1

    result_here : (o : Option Scalar) → All IsHere (result_lines (result_term o))
    result_here None = All-nil IsHere
    result_here (Some type) =
        All-cons IsHere (equal (calling.register 10) (widened type (result type))) []
        (equal_here (calling.register 10) (widened type (result type)) (open_here (register 10) refl) (width_here type W32 (open_term (result type)) (open_here (result type) refl))) (All-nil IsHere)

    returns_here : All IsHere c.returns
    returns_here =
        All-append IsHere (result_lines (result_term q.body.signature.result)) (map (λ (r : ℕ). equal (calling.register r) (at_entry r)) kept_registers) (result_here q.body.signature.result)
        (All-map IsHere (λ (r : ℕ). equal (calling.register r) (at_entry r)) kept_registers
        (λ k d less. equal_here (calling.register (get_or kept_registers k d)) (at_entry (get_or kept_registers k d)) (open_here (register (get_or kept_registers k d)) refl) (entry_here (get_or kept_registers k d))))

    of_function : (lines : List Term) → All IsHere lines → All (TermSpeaksOf IsOfFunction) lines
    of_function lines all = All-weaker IsHere (TermSpeaksOf IsOfFunction) (λ t here v o. let is = here v o in inr (omega (arith, is))) lines all

    -- ---- frames

    abbrev frame_at : Base → Side → Side → Frame
    frame_at b binary source = frame_in q (record b { binary = binary; source = source }) (entry_frame q).start [] []

    is_whole : (b : Base) (binary source : Side) → IsWhole c (frame_at b binary source)
    is_whole b binary source = record {
      no_goals = refl;
      no_binary_bounds = refl;
      no_source_bounds = refl;
      no_holds = refl;
      returns = of_function (with_memory c c.returns) (memory_here c.returns returns_here);
    }

    zone_of_entry : All IsOfEntry (entry_zone c)
    unfolding Occurs
    zone_of_entry =
        All-cons IsOfEntry (equal (zone_from q.stack) (word zone.low)) (equal (at_entry 2) (word zone.high) ∷ []) low_of
        (All-cons IsOfEntry (equal (at_entry 2) (word zone.high)) [] high_of (All-nil IsOfEntry))
      where
        low_of : IsOfEntry (equal (zone_from q.stack) (word zone.low))
        low_of v (inl (inl o)) = (2, o)
        low_of v (inl (inr o)) = absurd o
        low_of v (inr o) = absurd o

        high_of : IsOfEntry (equal (at_entry 2) (word zone.high))
        high_of v (inl o) = (2, o)
        high_of v (inr o) = absurd o

    module _ (is : IsPair q) (b : Base) where
      -- ---- the binary

      module _ (functions : Functions) (function : Inlinable) (set : AreInlinable q.graphs functions) (named : functions (q.numbering.graph_number q.entry) ≡ Some function) where
        graph_there : slice_get q.graphs (q.numbering.graph_number q.entry) ≡ Some function.graph
        graph_there = set.there (q.numbering.graph_number q.entry) function named

        entry_stays : (r : ℕ) → Stays function.graph (entry_register r)
        entry_stays r = record {
          own = refl;
          of_function = omega arith;
          unbound = λ k d less. never_entry q is r k (get_or function.graph.nodes k d)
              (node_in q.graphs (q.numbering.graph_number q.entry) function.graph k graph_there ∙ slice_get-get_or function.graph.nodes k d less);
        }

        lines_stay : All (TermSpeaksOf (Stays function.graph)) (entry_premises q ++ entry_zone c)
        lines_stay =
            All-weaker IsOfEntry (TermSpeaksOf (Stays function.graph)) (λ t of v o. let from = of v o in subst (Stays function.graph) (sym from.1) (entry_stays from.0)) (entry_premises q ++ entry_zone c)
            (All-append IsOfEntry (entry_premises q) (entry_zone c) (are_of_entry q) zone_of_entry)

        code_start : q.numbering.node_number q.entry Entrance < length function.graph.nodes
        code_start =
            let same_graph : function.graph ≡ (code q is).0 = same_Some function.graph (code q is).0 (sym graph_there ∙ (code q is).1) in
            subst (λ (g : Graph). q.numbering.node_number q.entry Entrance < length g.nodes) (sym same_graph)
            (slice_get_within (code q is).0.nodes (q.numbering.node_number q.entry Entrance) _ ((code q is).2.there Entrance _ entrance))

      plain_binary : (new : Side) → IsInlinedSide is_binary (entry_frame q).binary new → (source : Side) → IsSimulated c (all_hold known_lines) (frame_at b new source)
          → IsSimulated c (all_hold known_lines) (frame_at b (entry_frame q).binary source)
      plain_binary _ as_it_is source simulated = simulated
      plain_binary _ (inlined functions function free own set kinds named unfolds) source simulated =
          binary_sound c known_lines (frame_at b (entry_frame q).binary source) functions function free own (is_whole b (entry_frame q).binary source)
          (record { set = set; outermost = named; start_there = code_start functions function set named }) unfolds (lines_stay functions function set named) simulated

      -- ---- the source

      zone_bound : All (TermSpeaksOf (IsNeverBound (graphs_of q.unit (place_of q)))) (source_zone c)
      unfolding Occurs
      zone_bound =
          All-cons (TermSpeaksOf (IsNeverBound (graphs_of q.unit (place_of q)))) (equal (open_term zone_low) (word zone.low)) (equal (open_term zone_high) (word zone.high) ∷ [])
          (end_bound zone_low zone.low (never_bound q.unit (place_of q) zone_low refl refl))
          (All-cons (TermSpeaksOf (IsNeverBound (graphs_of q.unit (place_of q)))) (equal (open_term zone_high) (word zone.high)) []
          (end_bound zone_high zone.high (never_bound q.unit (place_of q) zone_high refl refl)) (All-nil _))
        where
          end_bound : (v : Variable) (n : ℕ) → IsNeverBound (graphs_of q.unit (place_of q)) v → TermSpeaksOf (IsNeverBound (graphs_of q.unit (place_of q))) (equal (open_term v) (word n))
          end_bound v n never w (inl o) = subst (IsNeverBound (graphs_of q.unit (place_of q))) (sym o) never
          end_bound v n never w (inr o) = absurd o

      source_start : (functions : Functions) (set : AreInlinable (graphs_of q.unit (place_of q)) functions) (function : Inlinable) → functions (body_number q.body.name q.unit.bodies) ≡ Some function → 0 < length function.graph.nodes
      unfolding graph_of
      source_start functions set function named =
          let same_graph : function.graph ≡ graph_of q.unit (place_of q) q.body =
          same_Some function.graph (graph_of q.unit (place_of q) q.body) (sym (set.there (body_number q.body.name q.unit.bodies) function named) ∙ body_there (graph_of q.unit (place_of q)) q.unit.bodies q.body.name q.body is.body_is) in
          subst (λ (g : Graph). 0 < length g.nodes) (sym same_graph) (omega arith)

      plain_source : (new : Side) → IsInlinedSide is_own_of_source (entry_frame q).source new
          → IsSimulated c (all_hold known_lines) (frame_at b (entry_frame q).binary new)
          → IsSimulated c (all_hold known_lines) (frame_at b (entry_frame q).binary (entry_frame q).source)
      plain_source _ as_it_is simulated = simulated
      plain_source _ (inlined functions function free own set kinds named unfolds) simulated =
          source_sound c known_lines (frame_at b (entry_frame q).binary (entry_frame q).source) functions function free own (is_whole b (entry_frame q).binary (entry_frame q).source)
          (record { set = set; outermost = named; start_there = source_start functions set function named }) unfolds zone_bound simulated

      -- ---- both

      pub at_entry_too : IsInlined q b → IsSimulated c (all_hold known_lines) (frame_in q b (entry_frame q).start [] [])
          → IsSimulated c (all_hold known_lines) (entry_frame q)
      at_entry_too inlined_both simulated =
          plain_source b.source inlined_both.source (plain_binary b.binary inlined_both.binary b.source simulated)
