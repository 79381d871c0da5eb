use Rattle.std.proofs.Common.{Some, ap, ◌∙◌, append-nil, [], sym, subst, length}
use Rattle.std.specs.HashMap.{get}
use Rattle.std.specs.Prelude.{nat_eq}
use Rattle.std.proofs.lemmas.Result.{IfOk-weaker}
use Rattle.term_core_spec.specs.Same.{same_variable}
use Rattle.term_bank.specs.Nodes.{IsNode, build}
use Rattle.term_substitution.proofs.Taking.{over_within, over_built, atom_taken}
use Rattle.term_substitution.proofs.moving.put_node.Goals as goal

pub returns-in-Some-clause-tree : goal.returns-in-Some-clause-tree
returns-in-Some-clause-tree c = λ trees terms has taken.
    IfOk-weaker c.put_atom.result _ _
    (λ i at. at ∙ ap Some (atom_taken terms c.args.bank.now trees (get same_variable c.args.state.now) has c.args.node c.in-Some.atom c.in-Some.ensures))
    (c.put_atom.ensures.tree c.args.bank.now ([], sym (append-nil c.args.bank.now)) c.requires.state)

pub add-requires : goal.add-requires
add-requires c =
    subst (IsNode (length c.args.bank.now)) (sym c.over_taken.ensures) (over_within (length c.args.bank.now) (get nat_eq c.args.done.now) c.requires.done c.args.node c.requires.all)

pub returns-in-None-clause-tree : goal.returns-in-None-clause-tree
returns-in-None-clause-tree c = λ trees terms has taken.
    IfOk-weaker c.add.result _ _
    (λ i at. at ∙ ap Some (ap (build c.args.bank.now) c.over_taken.ensures ∙ over_built terms trees c.args.bank.now (get nat_eq c.args.done.now) taken c.args.node c.in-None.ensures c.requires.all))
    c.add.ensures.id
