use Rattle.std.proofs.Common.{Bool, refl, sym, subst}
use Rattle.term_substitution.specs.States.{IsAt}
use Rattle.proof_tree.specs.Frames.{frame_of}
use Rattle.sim_rules.specs.Terms.{conjunction, premises_if}
use Rattle.sim_rules.proofs.denied.given.Goals as goal

pub premises-requires-clause-opening : goal.premises-requires-clause-opening
premises-requires-clause-opening c = c.requires.opening

pub premises-requires-clause-binary : goal.premises-requires-clause-binary
premises-requires-clause-binary c = c.requires.some_binary

pub premises-requires-clause-source : goal.premises-requires-clause-source
premises-requires-clause-source c = c.requires.some_source

pub bounded_premises-requires-clause-opening : goal.bounded_premises-requires-clause-opening
bounded_premises-requires-clause-opening c = c.requires.opening

pub bounded_premises-requires-clause-binary : goal.bounded_premises-requires-clause-binary
bounded_premises-requires-clause-binary c = c.requires.some_binary

pub bounded_premises-requires-clause-source : goal.bounded_premises-requires-clause-source
bounded_premises-requires-clause-source c = c.requires.some_source

pub returns-then-is_source_safe-clause-tree : goal.returns-then-is_source_safe-clause-tree
returns-then-is_source_safe-clause-tree c = λ o a d opening are.
    let f = frame_of c.args.both.now.setup.now.frame.now in
    subst (λ (b : Bool). IsAt c.premises.new.bank c.premises.result (conjunction (premises_if b o f a d))) (sym c.if-is_source_safe.true) (c.premises.ensures.tree o f a d opening refl are.binary are.source)

pub returns-else-is_source_safe-clause-tree : goal.returns-else-is_source_safe-clause-tree
returns-else-is_source_safe-clause-tree c = λ o a d opening are.
    let f = frame_of c.args.both.now.setup.now.frame.now in
    subst (λ (b : Bool). IsAt c.bounded_premises.new.bank c.bounded_premises.result (conjunction (premises_if b o f a d))) (sym c.if-is_source_safe.false)
    (c.bounded_premises.ensures.tree o f a d opening refl are.binary are.source)
