use Rattle.std.proofs.Common.{◌∙◌, subst}
use Rattle.term_core.specs.Trees.{term_of}
use Rattle.term_substitution.specs.States.{IsAt}
use Rattle.proof_tree.specs.Frames.{terms_of}
use Rattle.sim_rules.proofs.AtStops.{related_is, if_both}
use Rattle.sim_rules.proofs.point.related_if.Goals as goal

pub returns-then-source-clause-tree : goal.returns-then-source-clause-tree
returns-then-source-clause-tree c = λ k a d v w s is.
    let b0 = c.args.bank.now in
    let memory = term_of c.args.memory.now in
    let lines = terms_of c.args.lines.now in
    let p = c.args.binary.now in
    let q = c.args.source.now in
    subst (IsAt c.relation.new.bank c.relation.result) (related_is b0 k a d v w s memory lines p q is ∙ if_both b0 k a d v w s memory lines p q is c.if-binary.true c.if-source.true)
    (c.relation.ensures.tree _ _ is.of_binary.terms is.of_source.terms)
