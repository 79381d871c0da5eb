use Rattle.std.proofs.Common.{rules}
use Rattle.term_norm.proofs.Parts.{holds_as, loads_within, load_by}
use Rattle.term_norm.proofs.loads.load_at_hand.Goals as goal

pub load_of_node-requires-clause-node : goal.load_of_node-requires-clause-node
load_of_node-requires-clause-node c = loads_within c.args.runs.now c.args.bank.now c.args.d c.args.walk.now c.requires.loads c.args.walk.now.at c.node.result c.in_ok-node.node c.requires.memory c.node.ensures.children c.in_ok-node.ensures

pub returns-in_err-node-clause-wanted : goal.returns-in_err-node-clause-wanted
returns-in_err-node-clause-wanted c = let wanted = c.in_err-node.ensures c.args.walk.now.at c.node.ensures.children in search (rules, wanted)

pub returns-clause-form : goal.returns-clause-form
returns-clause-form c =
    holds_as c.load_of_node.new.bank c.in_ok-load.load _ _
    (load_by c.args.runs.now c.args.bank.now c.args.d c.args.walk.now c.requires.loads c.args.walk.now.at c.node.result c.in_ok-node.node c.node.ensures.tree c.in_ok-node.ensures)
    c.in_ok-load.ensures.form
