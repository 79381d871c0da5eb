use Rattle.std.proofs.Common.{rules}
use Rattle.term_norm.proofs.Parts.{holds_as, forms_within, form_by}
use Rattle.term_norm.proofs.forms.form_at_hand.Goals as goal

pub normal_node-requires : goal.normal_node-requires
normal_node-requires c = forms_within c.args.runs.now c.args.bank.now c.args.walk.now c.requires.forms c.node.result c.in_ok-node.node c.in_ok-node.ensures

pub returns-in_err-node-clause-wanted : goal.returns-in_err-node-clause-wanted
returns-in_err-node-clause-wanted c = let wanted = c.in_err-node.ensures c.args.walk.now.at c.node.ensures.children in search (rules, wanted)

pub returns-clause-form : goal.returns-clause-form
returns-clause-form c =
    holds_as c.normal_node.new.bank c.in_ok-form.form _ _
    (form_by c.args.runs.now c.args.bank.now c.args.walk.now c.requires.forms c.args.walk.now.at c.node.result c.in_ok-node.node c.node.ensures.tree c.in_ok-node.ensures)
    c.in_ok-form.ensures.form
