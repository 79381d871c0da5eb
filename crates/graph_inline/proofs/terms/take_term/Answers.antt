use Rattle.std.proofs.Common.{◌≡◌, ◌∙◌, ℕ, ◌<◌, length, Some, sym, ap, subst, arith}
use Rattle.std.proofs.lemmas.Result.{IfOk-weaker}
use Rattle.term_bank.specs.Nodes.{IsNode, tree_at, build, Holds}
use Rattle.term_bank.specs.Subterms.{arguments_of}
use Rattle.term_bank.proofs.Substitution.{is_at}
use Rattle.graph_inline.specs.Taken.{over, named_term, IsTaken}
use Rattle.graph_inline.specs.Marks.{is_marked}
use Rattle.graph_inline.proofs.Taking.{AllIn, over_within, over_built, each_taken}
use Rattle.graph_inline.proofs.Closing.{arguments_marked}
use Rattle.graph_inline.proofs.terms.take_term.Goals as goal

pub add_term-requires : goal.add_term-requires
add_term-requires c =
    let from = c.args.from.now in
    let node = c.node.result in
    let tree : tree_at from c.args.id ≡ build from node = is_at from c.args.id (build from node) c.node.ensures.tree in
    let marked = arguments_marked from c.args.marks.now c.args.id node c.requires.closed c.if-not-marks-id.false (omega (arith, c.requires.id.0)) c.node.ensures.children tree in
    let all = each_taken c.args.instance from c.args.graph.now.trees c.args.marks.now c.args.table.now c.args.id c.requires.id.1 c.requires.taken (arguments_of node) marked in
    subst (IsNode (length c.args.graph.now.trees)) (sym c.name_node-node.ensures) (over_within c.args.instance from c.args.graph.now.trees c.args.table.now node all)

pub returns-clause-taken : goal.returns-clause-taken
returns-clause-taken c = λ is_marked_here.
    let from = c.args.from.now in
    let node = c.node.result in
    let trees = c.args.graph.now.trees in
    let tree : tree_at from c.args.id ≡ build from node = is_at from c.args.id (build from node) c.node.ensures.tree in
    let marked = arguments_marked from c.args.marks.now c.args.id node c.requires.closed is_marked_here (omega (arith, c.requires.id.0)) c.node.ensures.children tree in
    let all = each_taken c.args.instance from trees c.args.marks.now c.args.table.now c.args.id c.requires.id.1 c.requires.taken (arguments_of node) marked in
    IfOk-weaker c.add_term.result _ _
    (λ i at.
    at ∙ ap Some (ap (build trees) c.name_node-node.ensures ∙ over_built c.args.instance from trees c.args.table.now node all ∙ ap (named_term c.args.instance) (sym tree)))
    c.add_term.ensures.id
