-- Bindings and nodes over what was taken of their terms.
use Rattle.std.proofs.Common.{◌≡◌, ◌∙◌, ℕ, zero, suc, ◌+◌, ◌<◌, ◌^◌, Bool, List, [], ◌∷◌, length, map, filter, get_or, Option, Some, None, refl, sym, ap, ap₂, subst, arith}
use Rattle.std.specs.List.{All}
use Rattle.std.proofs.lemmas.List.Elements.{All-head, All-tail, All-cons, All-weaker, All-map}
use Rattle.term_core_spec.specs.declared.Variable.{Variable}
use Rattle.term_core_spec.specs.Term.{Term}
use Rattle.term_bank.specs.Nodes.{tree_at, Holds, Extends}
use Rattle.term_bank.proofs.Substitution.{is_at}
use Rattle.graph_core_spec.specs.declared.Next.{Next}
use Rattle.graph_core_spec.specs.declared.Next.TheVariants as next
use Rattle.graph_core_spec.specs.Graph as spec
use Rattle.graph_core_spec.specs.Graph.{IsNext, IsNode}
use Rattle.graph_core.specs.declared.shared.SharedBinding.{SharedBinding}
use Rattle.graph_core.specs.declared.shared.SharedNode.{SharedNode}
use Rattle.graph_core.specs.declared.shared.SharedNode.TheVariants.{Basic, Cond, Call}
use Rattle.graph_core.specs.Shared.{shared_binding_of, shared_node_of, AreSharedBindings, IsSharedNode}
use Rattle.graph_core.specs.Graphs.{AreShared}
use Rattle.graph_inline.specs.declared.nodes.Placing.{Placing}
use Rattle.graph_inline.specs.Taken.{named_variable, named_term, id_at, IsTaken, AllTaken}
use Rattle.graph_inline.specs.Moved.{moved, moved_shared, BindingsTaken, NodeTaken, NodesTaken, NodeWithin, NodeFits, NextFits, OutputsTaken}
use Rattle.graph_inline.proofs.Taking.{within, taken_later}

module _ (variables terms : Option ℕ) (from trees : List Term) (table : List ℕ) where
  binding_moved : (b : SharedBinding) → IsTaken terms from trees table b.term → shared_binding_of trees (moved_shared variables table b) ≡ moved variables terms (shared_binding_of from b)
  binding_moved b h =
      ap (λ (t : Term). record { variable = named_variable variables b.variable; term = t }) (is_at trees (id_at table b.term) (named_term terms (tree_at from b.term)) h.holds)

  bindings_are : (bindings : List SharedBinding) → BindingsTaken terms from trees table bindings
      → map (shared_binding_of trees) (map (moved_shared variables table) bindings) ≡ map (moved variables terms) (map (shared_binding_of from) bindings)
  bindings_are [] h = refl
  bindings_are (b ∷ bindings) h =
      ap₂ (λ (x : spec.Binding) (xs : List spec.Binding). x ∷ xs) (binding_moved b (h zero b (omega arith)))
      (bindings_are bindings (All-tail (λ (c : SharedBinding). IsTaken terms from trees table c.term) b bindings h))

  pub bindings_moved : (bindings found : List SharedBinding) → BindingsTaken terms from trees table bindings → found ≡ map (moved_shared variables table) bindings
      → AreShared trees (map (moved variables terms) (map (shared_binding_of from) bindings)) found
  bindings_moved bindings found h is =
      subst (λ (l : List SharedBinding). AreShared trees (map (moved variables terms) (map (shared_binding_of from) bindings)) l) (sym is)
      (record {
        within = All-map (λ (b : SharedBinding). b.term < length trees) (moved_shared variables table) bindings
            (All-weaker (λ (b : SharedBinding). IsTaken terms from trees table b.term) (λ (b : SharedBinding). id_at table b.term < length trees)
            (λ b taken. within terms from trees table b.term taken) bindings h);
        are = bindings_are bindings h;
      })

pub listed : (instance : Option ℕ) (from trees : List Term) (table : List ℕ) (bindings : List SharedBinding) → BindingsTaken instance from trees table bindings
    → AreSharedBindings (length table) bindings
listed instance from trees table bindings h =
    All-weaker (λ (b : SharedBinding). IsTaken instance from trees table b.term) (λ (b : SharedBinding). b.term < length table) (λ b taken. taken.listed) bindings h

pub node_within : (instance : Option ℕ) (from trees : List Term) (renamed kept : List ℕ) (node : SharedNode) → NodeTaken instance from trees renamed kept node
    → NodeWithin (length renamed) (length kept) node
node_within instance from trees renamed kept (Basic bindings to) h = listed instance from trees renamed bindings.items h
node_within instance from trees renamed kept (Cond test on_true on_false) h = h.listed
node_within instance from trees renamed kept (Call callee inputs outputs landing) h =
    (listed instance from trees renamed inputs.items h.0, listed None from trees kept outputs.items h.1)

-- ---- as the bank grows

module _ (instance : Option ℕ) (from old new : List Term) (grows : Extends old new) where
  pub all_later : (table : List ℕ) → AllTaken instance from old table → AllTaken instance from new table
  all_later table h = record { count = h.count; each = λ id less. taken_later instance from old new table id grows (h.each id less) }

pub bindings_later : (instance : Option ℕ) (from old new : List Term) → Extends old new → (table : List ℕ) (bindings : List SharedBinding) → BindingsTaken instance from old table bindings
    → BindingsTaken instance from new table bindings
bindings_later instance from old new grows table bindings h =
    All-weaker (λ (b : SharedBinding). IsTaken instance from old table b.term) (λ (b : SharedBinding). IsTaken instance from new table b.term)
    (λ b taken. taken_later instance from old new table b.term grows taken) bindings h

outputs_later : (from old new : List Term) → Extends old new → (table : List ℕ) (node : SharedNode) → OutputsTaken from old table node → OutputsTaken from new table node
outputs_later from old new grows table (Basic bindings to) h = tt
outputs_later from old new grows table (Cond test on_true on_false) h = tt
outputs_later from old new grows table (Call callee inputs outputs landing) h = bindings_later None from old new grows table outputs.items h

-- ---- tables of all terms

pub bindings_taken : (instance : Option ℕ) (from trees : List Term) (table : List ℕ) → AllTaken instance from trees table → (bindings : List SharedBinding) → AreSharedBindings (length from) bindings
    → BindingsTaken instance from trees table bindings
bindings_taken instance from trees table all bindings inside =
    All-weaker (λ (b : SharedBinding). b.term < length from) (λ (b : SharedBinding). IsTaken instance from trees table b.term) (λ b less. all.each b.term less) bindings inside

node_taken : (instance : Option ℕ) (from trees : List Term) (renamed kept : List ℕ) → AllTaken instance from trees renamed → (node : SharedNode) → IsSharedNode (length from) node
    → OutputsTaken from trees kept node → NodeTaken instance from trees renamed kept node
node_taken instance from trees renamed kept all (Basic bindings to) inside outputs = bindings_taken instance from trees renamed all bindings.items inside
node_taken instance from trees renamed kept all (Cond test on_true on_false) inside outputs = all.each test inside
node_taken instance from trees renamed kept all (Call callee ins outs landing) inside outputs = (bindings_taken instance from trees renamed all ins.items inside.0, outputs)

-- the callee's nodes: what their calls take was taken apart
pub callee_taken : (instance : ℕ) (from before trees : List Term) (renamed kept : List ℕ) → Extends before trees → AllTaken (Some instance) from trees renamed → (nodes : List SharedNode)
    → All (IsSharedNode (length from)) nodes → All (OutputsTaken from before kept) nodes → NodesTaken (Some instance) from trees renamed kept nodes
callee_taken instance from before trees renamed kept grows all nodes inside outputs =
    λ k d less. node_taken (Some instance) from trees renamed kept all (get_or nodes k d) (inside k d less)
    (outputs_later from before trees grows kept (get_or nodes k d) (outputs k d less))

-- the caller's nodes
pub caller_taken : (from trees : List Term) (table : List ℕ) → AllTaken None from trees table → (nodes : List SharedNode) → All (IsSharedNode (length from)) nodes → NodesTaken None from trees table table nodes
caller_taken from trees table all nodes inside = λ k d less. by (get_or nodes k d) (inside k d less)
  where
    by : (node : SharedNode) → IsSharedNode (length from) node → NodeTaken None from trees table table node
    by (Basic bindings to) h = bindings_taken None from trees table all bindings.items h
    by (Cond test on_true on_false) h = all.each test h
    by (Call callee inputs outputs landing) h = (bindings_taken None from trees table all inputs.items h.0, bindings_taken None from trees table all outputs.items h.1)

-- ---- numbers of nodes

next_fits : (placing : Placing) (count : ℕ) → placing.first + count < 2 ^ 64 → (to : Next) → IsNext count to → NextFits (Some placing) to
next_fits placing count small (next.At n) h = omega (arith, small, h)
next_fits placing count small next.Ret h = tt
next_fits placing count small next.Err h = tt

node_fits : (placing : Placing) (trees : List Term) (count : ℕ) → placing.first + count < 2 ^ 64 → (x : SharedNode) → IsNode count (shared_node_of trees x) → NodeFits (Some placing) x
node_fits placing trees count small (Basic bindings to) h = next_fits placing count small to h.1
node_fits placing trees count small (Cond test on_true on_false) h = (next_fits placing count small on_true h.1, next_fits placing count small on_false h.2)
node_fits placing trees count small (Call callee inputs outputs landing) h = omega (arith, small, h.2)

pub callee_fits : (placing : Placing) (trees : List Term) (nodes : List SharedNode) (count : ℕ) → placing.first + count < 2 ^ 64
    → All (IsNode count) (map (shared_node_of trees) nodes) → All (NodeFits (Some placing)) nodes
callee_fits placing trees [] count small valid = λ k d less. absurd (omega (arith, less))
callee_fits placing trees (node ∷ nodes) count small valid =
    All-cons (NodeFits (Some placing)) node nodes
    (node_fits placing trees count small node (All-head (IsNode count) (shared_node_of trees node) (map (shared_node_of trees) nodes) valid))
    (callee_fits placing trees nodes count small (All-tail (IsNode count) (shared_node_of trees node) (map (shared_node_of trees) nodes) valid))

pub caller_fits : (nodes : List SharedNode) → All (NodeFits None) nodes
caller_fits nodes = λ k d less. by (get_or nodes k d)
  where
    to_fits : (to : Next) → NextFits None to
    to_fits (next.At n) = tt
    to_fits next.Ret = tt
    to_fits next.Err = tt

    by : (x : SharedNode) → NodeFits None x
    by (Basic bindings to) = to_fits to
    by (Cond test on_true on_false) = (to_fits on_true, to_fits on_false)
    by (Call callee inputs outputs landing) = tt
