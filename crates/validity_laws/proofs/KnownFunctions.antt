-- What lines that inline calls read of functions is right, where it is what their graphs have.
use Rattle.std.proofs.Common.{◌≡◌, ◌∙◌, ℕ, ◌==◌, ◌||◌, Bool, true, false, refl, sym, ap, subst, arith, List, [], ◌∷◌, All, Contains, Option, Some, None}
use Rattle.std.specs.Prelude.{not, slice_get, option_map, IsSome}
use Rattle.std.proofs.lemmas.Bool.{and_parts, eqb-true}
use Rattle.std.proofs.lemmas.Option.{same_Some, slice_get-map}
use Rattle.std.proofs.lemmas.List.Elements.{All-nil, All-cons, All-contains, All-filter, All-weaker, filter_passes}
use Rattle.term_core_spec.specs.declared.Family.{Family}
use Rattle.term_core_spec.specs.declared.Family.TheVariants as family
use Rattle.term_core_spec.specs.declared.Sort.{Sort}
use Rattle.term_core_spec.specs.declared.Variable.{Variable}
use Rattle.term_core_spec.specs.Sort.{is_memory}
use Rattle.term_core_spec.specs.Same.{same_variable}
use Rattle.term_core_spec.proofs.Same.{variable-same}
use Rattle.graph_core_spec.specs.Graph.{Graph}
use Rattle.graph_core_spec.specs.Run.{is_shared}
use Rattle.graph_core_spec.specs.Variables.{variables, with_variables}
use Rattle.graph_inline_spec.specs.Inlining.{IsOwn}
use Rattle.decompile_spec.specs.CodeGraph.{IsCodeGraph}
use Rattle.decompile_laws.specs.Together.{setting}
use Rattle.code_reach_spec.specs.Faults.{HasNoFault}
use Rattle.c_types_spec.specs.declared.Scalar.{Scalar}
use Rattle.c_types_spec.specs.Core.{Body}
use Rattle.c_graph_spec.specs.State.{memory, result}
use Rattle.c_graph_spec.specs.SourceGraph.{body_number, graph_of, graphs_of}
use Rattle.sim_rules_spec.specs.Points.{is_binary, is_source}
use Rattle.sim_rules_spec.proofs.Start.{all_at}
use Rattle.sim_inline_laws.proofs.OfKind.{IsKindNode}
use Rattle.agreement_laws.specs.EntryFrame.{Pair, place_of}
use Rattle.agreement_laws.proofs.Pairs.{code}
use Rattle.cert_check_lines_spec.specs.Parts.{CodeFunction, SourceFunction}
use Rattle.validity_laws.specs.Inlined.{is_own_of_source}
use Rattle.validity_laws.specs.Derivation.{pair_for, AreSides, IsFunction}
use Rattle.validity_laws.specs.OwnVariables.{own_variables, result_words, code_function, source_function, functions_of}
use Rattle.validity_laws.specs.Accepted.{IsKnown, FunctionsAreKnown}
use Rattle.validity_laws.proofs.CodeSpeaks.{of_binary, code_is_first}
use Rattle.validity_laws.proofs.SourceSpeaks.{is_source_memory, is_spoken, is_first}
use Rattle.validity_laws.proofs.SourceGraphs.{IsFirstGraph, source_is_first}
use Rattle.validity_laws.proofs.PlainLines.{scalars}
use Rattle.validity_laws.proofs.Functions.{is_pair}
use Rattle.validity_laws.proofs.OwnVariables.{variables_all, own_listed, listed_more, more_all, still_there, more_there}
use Rattle.validity_laws.proofs.Accepted.{of_body}

-- what is made of a part that is there
made : {X F : Type 0} (make : X → F) (o : Option X) (f : F) → option_map make o ≡ Some f → (x : X) × (o ≡ Some x) × (make x ≡ f)
made make None f e = absurd (cc)
made make (Some x) f e = (x, refl, same_Some (make x) f e)

some_made : {X F : Type 0} (make : X → F) (o : Option X) (x : X) → o ≡ Some x → IsSome (option_map make o)
some_made {X = X} make o x e = subst (λ (p : Option X). IsSome (option_map make p)) (sym e) refl

is_not : (b : Bool) → not b ≡ true → b ≡ false
is_not true e = absurd (let bad : false ≡ true = e in cc)
is_not false e = refl

-- ---- own variables

-- variables of a graph that are of the function itself, and not shared, are its own
module _ (K : Variable → Bool) (at_first : (v : Variable) → K v ≡ true → v.instance ≡ 0) (g : Graph) (speaks : All (IsKindNode K) g.nodes) where
  kinds_there : All (λ (v : Variable). K v ≡ true) (own_variables g)
  kinds_there = All-filter (λ (v : Variable). not (is_shared v)) (λ (v : Variable). K v ≡ true) (variables g) (variables_all K g speaks)

  own_there : All (λ (v : Variable). is_shared v ≡ false) (own_variables g)
  own_there =
      All-weaker (λ (v : Variable). not (is_shared v) ≡ true) (λ (v : Variable). is_shared v ≡ false) (λ v is. is_not (is_shared v) is) (own_variables g)
      (filter_passes (λ (v : Variable). not (is_shared v)) (variables g))

  all_own : All IsOwn (own_variables g)
  all_own k d less = (own_there k d less, at_first _ (kinds_there k d less))

-- ---- code

binary_first : (v : Variable) → of_binary v ≡ true → v.instance ≡ 0
binary_first v is = eqb-true v.instance 0 (and_parts (is_binary v.family) (v.instance == 0) is).1

binary_kind : (v : Variable) → of_binary v ≡ true → is_binary v.family ≡ true
binary_kind v is = (and_parts (is_binary v.family) (v.instance == 0) is).0

module _ (q : Pair) (sides : AreSides q) (firsts : List (List (ℕ × ℕ))) where
  code_speaks : (number : ℕ) (g : Graph) → slice_get q.graphs number ≡ Some g → All (IsKindNode of_binary) g.nodes
  code_speaks number g there =
      let of = all_at (λ (h : Graph). (entry : ℕ) × (size : ℕ) × HasNoFault q.image entry size × IsCodeGraph q.image (setting q.numbering entry size) h) q.graphs number g sides.of_code there in
      code_is_first q.image (setting q.numbering of.0 of.1) g of.3

  code_known : (number : ℕ) (f : CodeFunction) → (functions_of q firsts).code number ≡ Some f → IsKnown is_binary q.graphs number f.graph f.own
  code_known number f e =
      let (g, there, same) = made (code_function firsts number) (slice_get q.graphs number) f e in
      let speaks = code_speaks number g there in
      subst (λ (h : CodeFunction). IsKnown is_binary q.graphs number h.graph h.own) same (record {
        there = there;
        all_own = all_own of_binary binary_first g speaks;
        kinds = All-weaker (λ (v : Variable). of_binary v ≡ true) (λ (v : Variable). is_binary v.family ≡ true) (λ v is. binary_kind v is) (own_variables g)
            (kinds_there of_binary binary_first g speaks);
        listed = own_listed g;
      })

-- ---- the source

source_first : (v : Variable) → is_first v ≡ true → v.instance ≡ 0
source_first v is = eqb-true v.instance 0 (and_parts (is_spoken v) (v.instance == 0) is).1

-- what is not shared is no memory
source_kind : (v : Variable) → is_shared v ≡ false → is_first v ≡ true → is_own_of_source v.family ≡ true
source_kind v own is =
    let spoken = (and_parts (is_spoken v) (v.instance == 0) is).0 in
    let parts = and_parts (is_source v.family) (not (is_source_memory v.family) || same_variable v memory) spoken in
    by v.family parts.0 parts.1
  where
    by : (f : Family) → is_source f ≡ true → (not (is_source_memory f) || same_variable v memory) ≡ true → is_own_of_source f ≡ true
    by family.Parameter mine memory_is = refl
    by family.Local mine memory_is = refl
    by family.IsSet mine memory_is = refl
    by family.Further mine memory_is = refl
    by family.SourceMemory mine memory_is =
        let shared : is_shared v ≡ true = ap is_shared (variable-same v memory memory_is) in
        absurd (let bad : true ≡ false = sym shared ∙ own in cc)
    by family.Register mine memory_is = absurd (let bad : false ≡ true = mine in cc)
    by family.Entry mine memory_is = absurd (let bad : false ≡ true = mine in cc)
    by family.BinaryMemory mine memory_is = absurd (let bad : false ≡ true = mine in cc)
    by family.ZoneMemory mine memory_is = absurd (let bad : false ≡ true = mine in cc)
    by family.Address mine memory_is = absurd (let bad : false ≡ true = mine in cc)
    by family.LoadedByte mine memory_is = absurd (let bad : false ≡ true = mine in cc)

result_own : (o : Option Scalar) → All IsOwn (result_words o)
result_own None = All-nil IsOwn
result_own (Some type) = All-cons IsOwn (result type) [] (refl, refl) (All-nil IsOwn)

result_kind : (o : Option Scalar) → All (λ (v : Variable). is_own_of_source v.family ≡ true) (result_words o)
result_kind None = All-nil (λ (v : Variable). is_own_of_source v.family ≡ true)
result_kind (Some type) = All-cons (λ (v : Variable). is_own_of_source v.family ≡ true) (result type) [] refl (All-nil (λ (v : Variable). is_own_of_source v.family ≡ true))

module _ (q : Pair) (sides : AreSides q) (firsts : List (List (ℕ × ℕ))) where
  there_too : (number : ℕ) (b : Body) → slice_get q.unit.bodies number ≡ Some b → slice_get (graphs_of q.unit (place_of q)) number ≡ Some (graph_of q.unit (place_of q) b)
  there_too number b e = slice_get-map (graph_of q.unit (place_of q)) q.unit.bodies number ∙ ap (option_map (graph_of q.unit (place_of q))) e

  source_speaks : (number : ℕ) (b : Body) → slice_get q.unit.bodies number ≡ Some b → All (IsKindNode is_first) (graph_of q.unit (place_of q) b).nodes
  source_speaks number b e =
      all_at IsFirstGraph (graphs_of q.unit (place_of q)) number (graph_of q.unit (place_of q) b) (source_is_first q.unit (place_of q) sides.typed.bodies_typed) (there_too number b e)

  body_known : (number : ℕ) (b : Body) → slice_get q.unit.bodies number ≡ Some b
      → IsKnown is_own_of_source (graphs_of q.unit (place_of q)) number (source_function q b).graph (source_function q b).own
  body_known number b e =
      let g = graph_of q.unit (place_of q) b in
      let speaks = source_speaks number b e in
      let more = result_words b.signature.result in
      record {
        there = there_too number b e;
        all_own = more_all IsOwn (own_variables g) more (all_own is_first source_first g speaks) (result_own b.signature.result);
        kinds = more_all (λ (v : Variable). is_own_of_source v.family ≡ true) (own_variables g) more
            (λ k d less. source_kind _ (own_there is_first source_first g speaks k d less) (kinds_there is_first source_first g speaks k d less)) (result_kind b.signature.result);
        listed = listed_more (own_variables g) (with_variables (own_variables g) more) g (λ v there. still_there (own_variables g) more v there) (own_listed g);
      }

  source_known : (number : ℕ) (f : SourceFunction) → (functions_of q firsts).source number ≡ Some f
      → IsKnown is_own_of_source (graphs_of q.unit (place_of q)) number f.graph f.own
  source_known number f e =
      let (b, there, same) = made (source_function q) (slice_get q.unit.bodies number) f e in
      subst (λ (h : SourceFunction). IsKnown is_own_of_source (graphs_of q.unit (place_of q)) number h.graph h.own) same (body_known number b there)

  result_there : (own : List Variable) (o : Option Scalar) (type : Scalar) → o ≡ Some type → Contains (with_variables own (result_words o)) (result type)
  result_there own o type e =
      subst (λ (p : Option Scalar). Contains (with_variables own (result_words p)) (result type)) (sym e)
      (more_there own (result type ∷ []) (result type) (0, omega arith, refl))

  results_known : (number : ℕ) (f : SourceFunction) (body : Body) (type : Scalar) → (functions_of q firsts).source number ≡ Some f → slice_get q.unit.bodies number ≡ Some body
      → body.signature.result ≡ Some type → Contains f.own (result type)
  results_known number f body type e there has =
      let (b, is, same) = made (source_function q) (slice_get q.unit.bodies number) f e in
      let one : b ≡ body = same_Some b body (sym is ∙ there) in
      subst (λ (h : SourceFunction). Contains h.own (result type)) same
      (result_there (own_variables (graph_of q.unit (place_of q) b)) b.signature.result type (ap (λ (c : Body). c.signature.result) one ∙ has))

pub functions_known : FunctionsAreKnown
functions_known q firsts functions sides numbered are = record {
  code = code_known q sides firsts;
  source = source_known q sides firsts;
  numbered = numbered;
  results = results_known q sides firsts;
  words = λ number f e.
      let (b, is, same) = made (source_function q) (slice_get q.unit.bodies number) f e in
      subst (λ (h : SourceFunction). All (λ (t : Sort). is_memory t ≡ false) h.locals) same (scalars b.locals);
  code_there = λ g among.
      let pair = is_pair q g sides (All-contains (IsFunction q) functions g are.each among) in
      some_made (code_function firsts (q.numbering.graph_number g.entry)) (slice_get q.graphs (q.numbering.graph_number g.entry)) (code (pair_for q g) pair).0 (code (pair_for q g) pair).1;
  source_there = λ g among.
      let is_function = All-contains (IsFunction q) functions g are.each among in
      subst IsSome
      (sym (of_body (source_function q) q.unit.bodies g.body.name g.body is_function.body_is) ∙ slice_get-map (source_function q) q.unit.bodies (body_number g.body.name q.unit.bodies)) refl;
}
