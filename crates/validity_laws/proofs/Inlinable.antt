-- The sets of graphs of both sides, where what is read of their functions is right: calls of these can be inlined.
use Rattle.std.proofs.Common.{◌≡◌, ◌∙◌, inl, inr, ℕ, zero, suc, ◌+◌, ◌≤◌, Bool, true, false, if◌then◌else◌, refl, sym, ap, subst, arith, List, [], ◌∷◌, length, map, All, Contains, Option, Some, None, bytes_eq}
use Rattle.std.specs.Prelude.{slice_get, nat_lt, option_map}
use Rattle.std.specs.Option.{option_map_or}
use Rattle.std.proofs.lemmas.List.Elements.{All-nil, All-cons, All-append, All-head, All-tail}
use Rattle.std.proofs.lemmas.Option.{same_Some}
use Rattle.std.proofs.lemmas.Slice.Eq.{bytes_eq-Decides}
use Rattle.term_core_spec.specs.declared.Variable.{Variable}
use Rattle.term_core_spec.specs.declared.Width.{Width}
use Rattle.term_core_spec.specs.Sort.{bits, is_memory}
use Rattle.term_core_spec.specs.Term.{Term, Occurs, open_term, truth, sign_extend, zero_extend, low}
use Rattle.graph_core_spec.specs.Graph.{Binding, Node, Basic, Cond, Call, Graph, IsValid}
use Rattle.decompile_spec.specs.State.{register, entry_register}
use Rattle.decompile_spec.specs.InstructionTerms.{number}
use Rattle.decompile_spec.specs.Blocks.{entry_binding, other_registers, call_inputs, tail_inputs}
use Rattle.decompile_laws.specs.Together.{setting}
use Rattle.c_token_spec.specs.Words.{entry_of}
use Rattle.c_types_spec.specs.declared.Scalar.{Scalar}
use Rattle.c_types_spec.specs.Core.{FunctionType, Body, Typed}
use Rattle.c_types_spec.specs.HasType.{IsTypedBody}
use Rattle.c_graph_spec.specs.Guards.{Place}
use Rattle.c_graph_spec.specs.Layout.{binding, set_local, result_put}
use Rattle.c_graph_spec.specs.State.{local, is_set, result}
use Rattle.c_graph_spec.specs.Values.{at_width}
use Rattle.c_graph_spec.specs.SourceGraph.{body_number, void_function, setting_of, graph_of, graphs_of}
use Rattle.graph_inline_spec.specs.Inlining.{TermSpeaksOf, IsOfCallee}
use Rattle.sim_inline_laws.specs.Unfolding as inlining
use Rattle.sim_inline_laws.specs.Unfolding.{Inlinable, BindsNoMemory, CallsPlainly, IsPlainGraph, AreInlinable}
use Rattle.agreement_laws.specs.EntryFrame.{Pair, place_of}
use Rattle.agreement_laws.specs.Callers.{IsPassed}
use Rattle.cert_check_lines_spec.specs.Parts.{CodeFunction, SourceFunction, Functions}
use Rattle.validity_laws.specs.Derivation.{Function, AreSides}
use Rattle.validity_laws.specs.Inlined.{is_own_of_source}
use Rattle.validity_laws.specs.Accepted.{AreKnown, IsKnown, code_functions, source_functions}
use Rattle.validity_laws.proofs.CodeSpeaks as code_graphs
use Rattle.validity_laws.proofs.CodeSpeaks.{HasCallNumber, code_call_shape, code_call_number}
use Rattle.validity_laws.proofs.SourceGraphs as source_graphs
use Rattle.validity_laws.proofs.SourceGraphs.{source_call_shape}
use Rattle.validity_laws.proofs.InlinedSource.{passed_from}
use Rattle.sim_rules_spec.specs.Points.{is_binary}

-- ---- the term of a result

module _ (u : Variable) where
  abbrev IsOnly : Term → Type 0
  IsOnly t = (v : Variable) → Occurs v t → v ≡ u

  either_only : (c : Bool) (a b : Term) → IsOnly a → IsOnly b → IsOnly (if c then a else b)
  either_only true a b h k = h
  either_only false a b h k = k

  open_only : IsOnly (open_term u)
  unfolding Occurs
  open_only v o = o

  signed_only : (w : Width) → IsOnly (sign_extend w (open_term u))
  unfolding Occurs
  signed_only w v o = o

  unsigned_only : (w : Width) → IsOnly (zero_extend w (open_term u))
  unfolding Occurs
  unsigned_only w v o = o

  low_only : (w : Width) → IsOnly (low w (open_term u))
  unfolding Occurs
  low_only w v o = o

  width_only : (type : Scalar) (w : Width) → IsOnly (at_width type w (open_term u))
  width_only type w =
      either_only (nat_lt type.width (bits w)) _ _ (either_only type.is_signed (sign_extend w (open_term u)) (zero_extend w (open_term u)) (signed_only w) (unsigned_only w))
      (either_only (nat_lt (bits w) type.width) (low w (open_term u)) (open_term u) (low_only w) open_only)

-- ---- what calls of code bind

abbrev NoMemory : Binding → Type 0
NoMemory b = is_memory b.variable.sort ≡ false

entries_plain : (rs : List ℕ) → BindsNoMemory (map entry_binding rs)
entries_plain [] = All-nil NoMemory
entries_plain (r ∷ rs) = All-cons NoMemory (entry_binding r) (map entry_binding rs) refl (entries_plain rs)

tail_plain : BindsNoMemory tail_inputs
unfolding tail_inputs
tail_plain = entries_plain (1 ∷ other_registers)

call_plain : (back : ℕ) → BindsNoMemory (call_inputs back)
unfolding call_inputs
call_plain back =
    All-cons NoMemory (record { variable = register 1; term = number back }) (record { variable = entry_register 1; term = number back } ∷ map entry_binding other_registers) refl
    (All-cons NoMemory (record { variable = entry_register 1; term = number back }) (map entry_binding other_registers) refl (entries_plain other_registers))

none_plain : (outs : List Binding) → outs ≡ [] → (P : Binding → Type 0) → All P outs
none_plain outs none P = subst (All P) (sym none) (All-nil P)

module _ (count : ℕ) (functions : inlining.Functions) (number : ℕ → ℕ) (numbered : (entry : ℕ) → number entry ≤ count) where
  code_plain : (node : Node) → code_graphs.HasCallShape node → HasCallNumber number node → CallsPlainly count functions node
  code_plain (Basic bindings to) shape is = tt
  code_plain (Cond test on_true on_false) shape is = tt
  code_plain (Call callee ins outs landing) (bound, none) (target, is) = record {
    within = subst (λ (n : ℕ). n ≤ count) (sym is) (numbered target);
    passes = elim bound [
      | inl linked ↦ subst BindsNoMemory (sym linked.1) (call_plain linked.0)
      | inr tail ↦ subst BindsNoMemory (sym tail) tail_plain
    ];
    takes = none_plain outs none NoMemory;
    taken = λ f there. none_plain outs none (λ (b : Binding). TermSpeaksOf (IsOfCallee f.own) b.term);
  }

-- ---- what calls of C bind

passed_plain : (number : ℕ) (types : List Scalar) (ins : List Binding) → IsPassed number types ins → BindsNoMemory ins
passed_plain number [] ins is = subst BindsNoMemory (sym is) (All-nil NoMemory)
passed_plain number (type ∷ types) ins (term, rest, is, later) =
    subst BindsNoMemory (sym is)
    (All-append NoMemory (set_local number type term) rest
    (All-cons NoMemory (binding (local number type) term) (binding (is_set number) (truth true) ∷ []) refl (All-cons NoMemory (binding (is_set number) (truth true)) [] refl (All-nil NoMemory)))
    (passed_plain (suc number) types rest later))

put_plain : (place : Option ℕ) (local_type : ℕ → Scalar) (type : Option Scalar) → BindsNoMemory (result_put place local_type type)
put_plain None local_type type = All-nil NoMemory
put_plain (Some n) local_type None = All-nil NoMemory
put_plain (Some n) local_type (Some type) =
    All-cons NoMemory (binding (local n (local_type n)) _) (binding (is_set n) (truth true) ∷ []) refl (All-cons NoMemory (binding (is_set n) (truth true)) [] refl (All-nil NoMemory))

-- what a call takes is the callee's result
put_speaks : (own : List Variable) (place : Option ℕ) (local_type : ℕ → Scalar) (type : Option Scalar) → ((t : Scalar) → type ≡ Some t → Contains own (result t))
    → All (λ (b : Binding). TermSpeaksOf (IsOfCallee own) b.term) (result_put place local_type type)
unfolding Occurs
put_speaks own None local_type type has = All-nil (λ (b : Binding). TermSpeaksOf (IsOfCallee own) b.term)
put_speaks own (Some n) local_type None has = All-nil (λ (b : Binding). TermSpeaksOf (IsOfCallee own) b.term)
put_speaks own (Some n) local_type (Some type) has =
    All-cons (λ (b : Binding). TermSpeaksOf (IsOfCallee own) b.term) (binding (local n (local_type n)) _) (binding (is_set n) (truth true) ∷ [])
    (λ v o. let is = width_only (result type) type _ v o in subst (IsOfCallee own) (sym is) (inr (has type refl)))
    (All-cons (λ (b : Binding). TermSpeaksOf (IsOfCallee own) b.term) (binding (is_set n) (truth true)) [] (λ v o. absurd o) (All-nil (λ (b : Binding). TermSpeaksOf (IsOfCallee own) b.term)))

-- ---- numbers of bodies

number_within : (name : List ℕ) (bodies : List Body) → body_number name bodies ≤ length bodies
unfolding body_number
number_within name [] = omega arith
number_within name (body ∷ rest) = by (bytes_eq body.name name) (number_within name rest)
  where
    by : (b : Bool) → body_number name rest ≤ length rest → (if b then 0 else body_number name rest + 1) ≤ suc (length rest)
    by true later = omega arith
    by false later = omega (arith, later)

-- the body with the number of a name has the name
named_at : (name : List ℕ) (bodies : List Body) (body : Body) → slice_get bodies (body_number name bodies) ≡ Some body → body.name ≡ name
unfolding body_number
named_at name [] body e = absurd (cc)
named_at name (first ∷ rest) body e = by (bytes_eq first.name name) refl e (named_at name rest body)
  where
    by : (b : Bool) → bytes_eq first.name name ≡ b → slice_get (first ∷ rest) (if b then 0 else body_number name rest + 1) ≡ Some body
        → (slice_get rest (body_number name rest) ≡ Some body → body.name ≡ name) → body.name ≡ name
    by true is e later =
        let same : first ≡ body = same_Some first body e in
        ap (λ (b : Body). b.name) (sym same) ∙ (bytes_eq-Decides first.name name).0 is
    by false is e later =
        let next : body_number name rest + 1 ≡ suc (body_number name rest) = omega arith in
        later (ap (slice_get (first ∷ rest)) (sym next) ∙ e)

body_at : (make : Body → Graph) (bodies : List Body) (n : ℕ) (g : Graph) → slice_get (map make bodies) n ≡ Some g → (body : Body) × (slice_get bodies n ≡ Some body)
body_at make [] n g e = absurd (cc)
body_at make (body ∷ bodies) zero g e = (body, refl)
body_at make (body ∷ bodies) (suc n) g e = body_at make bodies n g e

typed_at : (P : Body → Type 0) (bodies : List Body) (n : ℕ) (body : Body) → All P bodies → slice_get bodies n ≡ Some body → P body
typed_at P [] n body all e = absurd (cc)
typed_at P (first ∷ bodies) zero body all e = subst P (same_Some first body e) (All-head P first bodies all)
typed_at P (first ∷ bodies) (suc n) body all e = typed_at P bodies n body (All-tail P first bodies all) e

same_length : (make : Body → Graph) (bodies : List Body) → length (map make bodies) ≡ length bodies
same_length make [] = refl
same_length make (body ∷ bodies) = ap suc (same_length make bodies)

module _ (unit : Typed) (p : Place) (functions : inlining.Functions) (typed : All (λ (b : Body). IsTypedBody unit b) unit.bodies)
    (there : (number : ℕ) (f : Inlinable) → functions number ≡ Some f → slice_get (graphs_of unit p) number ≡ Some f.graph)
    (results : (number : ℕ) (f : Inlinable) (body : Body) (type : Scalar) → functions number ≡ Some f → slice_get unit.bodies number ≡ Some body → body.signature.result ≡ Some type
    → Contains f.own (result type)) where
  -- the type of a function by its name is that of its body
  type_there : (function : List ℕ) (type : FunctionType) (f : Inlinable) → entry_of unit.functions function ≡ Some type → functions (body_number function unit.bodies) ≡ Some f
      → (t : Scalar) → (option_map_or (λ (u : FunctionType). u) (entry_of unit.functions function) void_function).result ≡ Some t → Contains f.own (result t)
  type_there function type f has is t found =
      let body = body_at (graph_of unit p) unit.bodies (body_number function unit.bodies) f.graph (there (body_number function unit.bodies) f is) in
      let name : body.0.name ≡ function = named_at function unit.bodies body.0 body.1 in
      let declared = (typed_at (λ (b : Body). IsTypedBody unit b) unit.bodies (body_number function unit.bodies) body.0 typed body.1).declared in
      let same : type ≡ body.0.signature = same_Some type body.0.signature (sym has ∙ (ap (entry_of unit.functions) (sym name) ∙ declared)) in
      results (body_number function unit.bodies) f body.0 t is body.1
      (ap (λ (u : FunctionType). u.result) (sym same)
      ∙ (ap (λ (o : Option FunctionType). (option_map_or (λ (u : FunctionType). u) o void_function).result) (sym has) ∙ found))

  source_plain : (body : Body) (node : Node) → source_graphs.HasCallShape unit (setting_of unit p body) node → CallsPlainly (length (graphs_of unit p)) functions node
  source_plain body (Basic bindings to) is = tt
  source_plain body (Cond test on_true on_false) is = tt
  source_plain body (Call callee ins outs landing) is = record {
    within = subst (λ (n : ℕ). n ≤ length (graphs_of unit p)) (sym is.3)
        (subst (λ (n : ℕ). body_number is.0 unit.bodies ≤ n) (sym (same_length (graph_of unit p) unit.bodies)) (number_within is.0 unit.bodies));
    passes = subst BindsNoMemory (sym is.4) (passed_plain 0 _ _ (passed_from (setting_of unit p body) 0 is.1));
    takes = subst BindsNoMemory (sym is.9) (put_plain is.8 (setting_of unit p body).local_type _);
    taken = λ f named. subst (All (λ (b : Binding). TermSpeaksOf (IsOfCallee f.own) b.term)) (sym is.9)
        (put_speaks f.own is.8 (setting_of unit p body).local_type _
        (λ t found. type_there is.0 is.2 f is.5 (ap functions (sym is.3) ∙ named) t found));
  }

  graphs_plain : (bodies : List Body) → All (λ (b : Body). IsTypedBody unit b) bodies → All (IsPlainGraph (length (graphs_of unit p)) functions) (map (graph_of unit p) bodies)
  graphs_plain [] are = All-nil (IsPlainGraph (length (graphs_of unit p)) functions)
  graphs_plain (body ∷ bodies) are =
      All-cons (IsPlainGraph (length (graphs_of unit p)) functions) (graph_of unit p body) (map (graph_of unit p) bodies)
      (λ k d less. source_plain body _ (source_call_shape unit p body (All-head (λ (b : Body). IsTypedBody unit b) body bodies are) k d less))
      (graphs_plain bodies (All-tail (λ (b : Body). IsTypedBody unit b) body bodies are))

-- ---- both sets

-- what is read of a function, by its number
found : {F : Type 0} (make : F → Inlinable) (o : Option F) (f : Inlinable) → option_map make o ≡ Some f → (h : F) × (o ≡ Some h) × (make h ≡ f)
found make None f e = absurd (cc)
found make (Some h) f e = (h, refl, same_Some (make h) f e)

module _ (q : Pair) (sides : AreSides q) (valid : All IsValid q.graphs) (source_valid : All IsValid (graphs_of q.unit (place_of q))) (functions : List Function) (fs : Functions)
    (known : AreKnown q functions fs) where
  abbrev of_code : CodeFunction → Inlinable
  of_code f = record { graph = f.graph; own = f.own }

  abbrev of_source : SourceFunction → Inlinable
  of_source f = record { graph = f.graph; own = f.own }

  code_known : (number : ℕ) (f : Inlinable) → code_functions fs number ≡ Some f → IsKnown is_binary q.graphs number f.graph f.own
  code_known number f e =
      let (h, is, same) = found of_code (fs.code number) f e in
      subst (λ (k : Inlinable). IsKnown is_binary q.graphs number k.graph k.own) same (known.code number h is)

  source_known : (number : ℕ) (f : Inlinable) → source_functions fs number ≡ Some f → IsKnown is_own_of_source (graphs_of q.unit (place_of q)) number f.graph f.own
  source_known number f e =
      let (h, is, same) = found of_source (fs.source number) f e in
      subst (λ (k : Inlinable). IsKnown is_own_of_source (graphs_of q.unit (place_of q)) number k.graph k.own) same (known.source number h is)

  result_known : (number : ℕ) (f : Inlinable) (body : Body) (type : Scalar) → source_functions fs number ≡ Some f → slice_get q.unit.bodies number ≡ Some body
      → body.signature.result ≡ Some type → Contains f.own (result type)
  result_known number f body type e there has =
      let (h, is, same) = found of_source (fs.source number) f e in
      subst (λ (k : Inlinable). Contains k.own (result type)) same (known.results number h body type is there has)

  pub code_inlinable : AreInlinable q.graphs (code_functions fs)
  code_inlinable = record {
    valid = valid;
    calls = λ i d lt.
        let of = sides.of_code i d lt in
        λ k e less. code_plain (length q.graphs) (code_functions fs) q.numbering.graph_number known.numbered _
        (code_call_shape q.image (setting q.numbering of.0 of.1) _ of.3 k e less) (code_call_number q.image (setting q.numbering of.0 of.1) _ of.3 k e less);
    there = λ number f is. (code_known number f is).there;
    own = λ number f is. (code_known number f is).all_own;
    listed = λ number f is. (code_known number f is).listed;
  }

  pub source_inlinable : AreInlinable (graphs_of q.unit (place_of q)) (source_functions fs)
  source_inlinable = record {
    valid = source_valid;
    calls = graphs_plain q.unit (place_of q) (source_functions fs) sides.typed.bodies_typed (λ number f is. (source_known number f is).there) result_known q.unit.bodies sides.typed.bodies_typed;
    there = λ number f is. (source_known number f is).there;
    own = λ number f is. (source_known number f is).all_own;
    listed = λ number f is. (source_known number f is).listed;
  }

  pub code_kinds : (number : ℕ) (f : Inlinable) → code_functions fs number ≡ Some f → All (λ (v : Variable). is_binary v.family ≡ true) f.own
  code_kinds number f is = (code_known number f is).kinds

  pub source_kinds : (number : ℕ) (f : Inlinable) → source_functions fs number ≡ Some f → All (λ (v : Variable). is_own_of_source v.family ≡ true) f.own
  source_kinds number f is = (source_known number f is).kinds
