use Rattle.std.proofs.Common.{◌∷◌, [], map, ap, ◌∙◌}
use Rattle.std.proofs.lemmas.List.{map-append}
use Rattle.term_core.specs.Values.{value_of}
use Rattle.term_core.specs.Assignment.{assignment_of}
use Rattle.term_bank.specs.Nodes.{node_value}
use Rattle.term_bank.proofs.Values.{AreValues-push}
use Rattle.term_bank.proofs.bank.Bank.eval_all.Goals as goal

pub loop-i-preserved : goal.loop-i-preserved
loop-i-preserved c =
    AreValues-push (assignment_of c.args.assignment.now) c.args.self.now (map value_of c.loop-i.values.items) (map value_of c.push.new.self.items) c.loop-i.i c.node.result (value_of c.in_ok-value.value)
    c.loop-i.invariant c.node.ensures.children c.node.ensures.tree (c.in_ok-value.ensures ∙ ap (λ items. node_value (assignment_of c.args.assignment.now) (map value_of items) c.node.result) c.deref.ensures.value) (ap (map value_of) c.in_ok-push.ensures.items ∙ map-append value_of c.loop-i.values.items (c.in_ok-value.value ∷ []))
