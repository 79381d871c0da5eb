-- What a call that adds terms or nodes to a graph answers.
use Rattle.std.specs.Prelude.{◌≡◌, ℕ, List, length, map, Result, IfOk, OnOk, Vec}
use Rattle.std.specs.Global.{Global}
use Rattle.term_core_spec.specs.Term.{Term}
use Rattle.term_bank.specs.Nodes.{tree_at}
use Rattle.graph_core_spec.specs.Graph.{Node, with_nodes}
use Rattle.graph_core.specs.declared.graph.Graph.{Graph}
use Rattle.graph_core.specs.declared.shared.SharedBinding.{SharedBinding}
use Rattle.graph_core.specs.Graphs.{graph_of}
use Rattle.c_graph_terms.specs.Tables.{AreWithin, id_at}

-- the graph, and these nodes after it
abbrev pub Emits : {T E : Type 0} → (old new : Graph) → Result T E → List Node → Type 0
Emits old new result nodes = OnOk result (graph_of new ≡ with_nodes (graph_of old) nodes)

-- the graph has the terms of a bank at these ids, and is as before otherwise
pub record AreImported (old new : Graph) (trees : List Term) (ids : List ℕ) : Type 0 where
  pub within : AreWithin (length new.trees) ids
  pub are : map (tree_at new.trees) ids ≡ trees
  pub same : graph_of new ≡ graph_of old

abbrev pub Imports : {E : Type 0} → (old new : Graph) → Result (Vec ℕ Global) E → List Term → Type 0
Imports old new result trees = IfOk result (λ ids. AreImported old new trees ids.items)

-- a binding with ids in place of the numbers of terms
abbrev pub binding_under : List ℕ → SharedBinding → SharedBinding
binding_under ids b = record { variable = b.variable; term = id_at ids b.term }
