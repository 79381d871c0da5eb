use Rattle.std.proofs.Common.{◌≡◌, [], sym, subst}
use Rattle.std.specs.List.{list_any}
use Rattle.term_bank.specs.Nodes.{AreDistinct}
use Rattle.term_bank.specs.Trees.{grown, AreNodes}
use Rattle.term_bank.proofs.Growth.{IsAdded, added, trees_distinct, within_added, length-Extends, with_tree-added}
use Rattle.term_bank.proofs.Same.{itself, node-same}
use Rattle.term_bank.specs.contracts.node.TermNodePartialEq.TheImpl as node_test
use Rattle.term_bank.proofs.bank.Bank.add.Goals as goal

-- what the set holds after the node is inserted
is_added : (c : goal.In_ok-id) → IsAdded c.args.self.now c.insert_full.new.self.keys c.args.node c.in_ok-id.id
is_added c =
    let stored = c.in_ok-id.ensures.stored in
    added (list_any (node_test.ghosts.eq c.args.node) c.self.inside.nodes.keys) c.self.inside.nodes.keys c.insert_full.new.self.keys c.args.self.now c.args.node stored.0 c.in_ok-id.id
    c.self.view_is c.in_ok-id.ensures.keys c.self.invariant.ordered c.requires stored.1 (node-same c.args.node stored.0 stored.2)

are_distinct : (c : goal.In_ok-id) → AreDistinct (grown [] c.insert_full.new.self.keys)
are_distinct c = trees_distinct c.insert_full.new.self.keys (is_added c).nodes node_test.ghosts.eq itself c.insert_full.ensures.unique

pub invariant_of-self-2 : goal.invariant_of-self-2
invariant_of-self-2 c = record { ordered = (is_added c).nodes; distinct = are_distinct c }

pub returns-clause-id : goal.returns-clause-id
returns-clause-id c = (is_added c).holds

pub returns-clause-within : goal.returns-clause-within
returns-clause-within c = within_added _ c.in_ok-id.id _ (is_added c).holds

pub returns-clause-added : goal.returns-clause-added
returns-clause-added c =
    with_tree-added (list_any (node_test.ghosts.eq c.args.node) c.self.inside.nodes.keys) c.self.inside.nodes.keys c.insert_full.new.self.keys c.args.self.now c.args.node c.in_ok-id.id
    c.self.view_is c.in_ok-id.ensures.keys (is_added c).holds (are_distinct c)

pub returns-clause-longer : goal.returns-clause-longer
returns-clause-longer c = length-Extends c.args.self.now _ (is_added c).extends

pub returns-clause-extends : goal.returns-clause-extends
returns-clause-extends c = (is_added c).extends

pub returns-clause-distinct : goal.returns-clause-distinct
returns-clause-distinct c = are_distinct c

pub returns-in_err-id-clause-distinct : goal.returns-in_err-id-clause-distinct
returns-in_err-id-clause-distinct c =
    let unchanged : c.insert_full.new.self.keys ≡ c.self.inside.nodes.keys = c.in_err-id.ensures.err in
    trees_distinct c.insert_full.new.self.keys (subst (AreNodes 0) (sym unchanged) c.self.invariant.ordered) node_test.ghosts.eq itself c.insert_full.ensures.unique
