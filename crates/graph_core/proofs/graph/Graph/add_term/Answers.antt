use Rattle.std.proofs.Common.{length, sym, subst}
use Rattle.std.specs.Prelude.{IfOk}
use Rattle.term_bank.specs.Nodes.{IsNode, Holds, build, Extends}
use Rattle.graph_core.specs.declared.graph.Graph.{Graph}
use Rattle.graph_core.proofs.Sorted.{stored_later}
use Rattle.graph_core.proofs.Storing.{graph_kept}
use Rattle.graph_core.proofs.graph.Graph.add_term.Goals as goal

pub add-requires : goal.add-requires
add-requires c = subst (λ (g : Graph). IsNode (length g.trees) c.args.node) (sym c.self.view_is) c.requires

pub invariant_of-self : goal.invariant_of-self
invariant_of-self c = stored_later c.self.inside.bank c.add.new.self c.self.inside.sorts.items c.self.inside.nodes.items c.add.ensures.extends c.self.invariant

pub returns-clause-id : goal.returns-clause-id
returns-clause-id c = subst (λ (g : Graph). IfOk c.add.result (λ i. Holds c.add.new.self i (build g.trees c.args.node))) c.self.view_is c.add.ensures.id

pub returns-clause-extends : goal.returns-clause-extends
returns-clause-extends c = subst (λ (g : Graph). Extends g.trees c.add.new.self) c.self.view_is c.add.ensures.extends

pub returns-clause-kept : goal.returns-clause-kept
returns-clause-kept c =
    graph_kept c.self.inside.bank c.self.inside.nodes.items c.self.inside.entry c.args.self.now c.self.view_is c.add.new.self c.self.inside.sorts.items c.add.ensures.extends c.self.invariant
