-- Graphs of code with calls inlined speak of the binary's variables alone, and what their calls bind is what calls of code do.
use Rattle.std.proofs.Common.{◌≡◌, ◌∙◌, inl, inr, ℕ, Bool, true, false, if◌then◌else◌, refl, ap, List, [], ◌∷◌, ◌++◌, map, All}
use Rattle.std.proofs.lemmas.List.Elements.{All-nil}
use Rattle.term_core_spec.specs.declared.Variable.{Variable}
use Rattle.term_core_spec.specs.Substitution.{at_instance, renamed}
use Rattle.graph_core_spec.specs.declared.Next.{Next}
use Rattle.graph_core_spec.specs.Graph.{Binding, Node, Basic, Cond, Call, Graph}
use Rattle.graph_core_spec.specs.Run.{is_shared}
use Rattle.decompile_spec.specs.Blocks.{link, entry_binding, other_registers, call_inputs, tail_inputs}
use Rattle.decompile_laws.specs.Together.{setting}
use Rattle.graph_inline_spec.specs.Naming.{inlined_variable, with_inlined_term, with_inlined_variable}
use Rattle.graph_inline_spec.specs.Inlined.{start_bindings, inlined_node}
use Rattle.graph_inline_spec.specs.Inlining.{IsOwn}
use Rattle.sim_rules_spec.specs.Points.{is_binary}
use Rattle.sim_rules_spec.specs.Proper.{IsOwnNode, IsOwnGraph}
use Rattle.sim_inline_laws.proofs.Kept.{IsKept}
use Rattle.sim_inline_laws.proofs.OfKind.{IsOfKind, IsKindNode, kind_kept}
use Rattle.agreement_laws.specs.EntryFrame.{Pair, entry_frame}
use Rattle.agreement_laws.specs.Callers.{Base}
use Rattle.agreement_laws.specs.Statements.{IsPair}
use Rattle.agreement_laws.proofs.Pairs.{code}
use Rattle.validity_laws.specs.Derivation.{AreSides}
use Rattle.validity_laws.specs.Inlined.{IsInlined}
use Rattle.validity_laws.proofs.CodeSpeaks.{HasCallShape, code_is_own, code_call_shape}
use Rattle.validity_laws.proofs.InlinedSides.{IsSideOf, kept_both, side_is, all_graphs}

-- a variable of the binary
abbrev is_of_binary : Variable → Bool
is_of_binary v = is_binary v.family

named_binary : (instance : ℕ) (v : Variable) → is_of_binary v ≡ true → is_of_binary (inlined_variable instance v) ≡ true
named_binary instance v is = by (is_shared v)
  where
    by : (b : Bool) → is_of_binary (if b then v else at_instance instance v) ≡ true
    by true = is
    by false = is

-- ---- what calls bind

entries_same : (instance : ℕ) (rs : List ℕ) → map (with_inlined_term instance) (map entry_binding rs) ≡ map entry_binding rs
unfolding renamed
entries_same instance [] = refl
entries_same instance (r ∷ rs) = ap (λ (rest : List Binding). entry_binding r ∷ rest) (entries_same instance rs)

tail_same : (instance : ℕ) → map (with_inlined_term instance) tail_inputs ≡ tail_inputs
unfolding tail_inputs
tail_same instance = entries_same instance (1 ∷ other_registers)

call_same : (instance back : ℕ) → map (with_inlined_term instance) (call_inputs back) ≡ call_inputs back
unfolding call_inputs renamed
call_same instance back = ap (λ (rest : List Binding). link back ++ rest) (entries_same instance other_registers)

shape_starts : (instance : ℕ) (own : List Variable) (callee : ℕ) (inputs outputs : List Binding) (landing : ℕ) (to : Next) → All IsOwn own → All (IsOfKind is_of_binary) own
    → HasCallShape (Call callee inputs outputs landing) → HasCallShape (Basic (start_bindings own instance inputs) to)
shape_starts instance own callee inputs outputs landing to are kinds is = tt

shape_body : (instance first last : ℕ) (node : Node) → HasCallShape node → HasCallShape (inlined_node instance first last node)
shape_body instance first last (Basic bindings to) is = tt
shape_body instance first last (Cond test on_true on_false) is = tt
shape_body instance first last (Call callee inputs outputs landing) (inl linked, none) =
    (inl (linked.0, ap (map (with_inlined_term instance)) linked.1 ∙ call_same instance linked.0), ap (map (with_inlined_variable instance)) none)
shape_body instance first last (Call callee inputs outputs landing) (inr tail, none) =
    (inr (ap (map (with_inlined_term instance)) tail ∙ tail_same instance), ap (map (with_inlined_variable instance)) none)

shape_kept : IsKept (IsOfKind is_of_binary) HasCallShape
shape_kept = record {
  starts = shape_starts;
  body = shape_body;
  ends = λ instance callee inputs outputs landing to is. tt;
}

abbrev pub IsCodeNode : Node → Type 0
IsCodeNode node = IsKindNode is_of_binary node × HasCallShape node

code_kept : IsKept (IsOfKind is_of_binary) IsCodeNode
code_kept =
    kept_both (IsOfKind is_of_binary) (IsKindNode is_of_binary) HasCallShape (kind_kept is_of_binary named_binary) shape_kept

-- ---- a function

module _ (q : Pair) (is : IsPair q) (sides : AreSides q) where
  -- a node of code, as one that speaks of a kind
  each_code : All (λ (g : Graph). All IsCodeNode g.nodes) q.graphs
  each_code i d lt =
      let of = sides.of_code i d lt in
      λ k e less. (own_kind _ (code_is_own q.image (setting q.numbering of.0 of.1) _ of.3 k e less), code_call_shape q.image (setting q.numbering of.0 of.1) _ of.3 k e less)
    where
      own_kind : (node : Node) → IsOwnNode is_binary node → IsKindNode is_of_binary node
      own_kind (Basic bindings to) own = own
      own_kind (Cond test on_true on_false) own = own
      own_kind (Call callee inputs outputs landing) own = own

  kind_own : (node : Node) → IsCodeNode node → IsOwnNode is_binary node
  kind_own (Basic bindings to) here = here.0
  kind_own (Cond test on_true on_false) here = here.0
  kind_own (Call callee inputs outputs landing) here = here.0

  module _ (b : Base) (inlined : IsInlined q b) where
    pub code_side : IsSideOf (entry_frame q).binary b.binary IsCodeNode
    code_side = side_is is_binary (entry_frame q).binary (code q is).0 (code q is).1 is.binary_valid IsCodeNode code_kept each_code b.binary inlined.binary

    pub code_speaks : All (IsOwnGraph is_binary) b.binary.graphs
    code_speaks =
        all_graphs is_binary (entry_frame q).binary (code q is).0 (code q is).1 is.binary_valid IsCodeNode code_kept each_code (IsOwnNode is_binary) kind_own (All-nil _) b.binary
        inlined.binary

    pub code_own_node : (node : Node) → IsCodeNode node → IsOwnNode is_binary node
    code_own_node node here = kind_own node here
