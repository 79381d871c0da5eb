use Rattle.std.proofs.Common.{sym, subst}
use Rattle.term_core.specs.Trees.{term_of}
use Rattle.proof_tree.specs.Frames.{terms_of}
use Rattle.sim_rules.specs.declared.rule.Rule.{Rule}
use Rattle.sim_rules.specs.Replies.{IsAnswer}
use Rattle.sim_rules.specs.Rules.{rule_of}
use Rattle.sim_rules.proofs.Answering.{of_lines, of_term}
use Rattle.sim_rules.proofs.rule.obligations_over.Goals as goal

pub returns-in-Leaf-clause-answer : goal.returns-in-Leaf-clause-answer
returns-in-Leaf-clause-answer c =
    subst (λ (rule : Rule). IsAnswer c.args.bank.now c.leaf.new.bank c.args.setup.now (rule_of rule) c.leaf.result) (sym c.in-Leaf.is) c.leaf.ensures.answer

pub returns-in-Case-clause-answer : goal.returns-in-Case-clause-answer
returns-in-Case-clause-answer c =
    let b = c.args.bank.now in
    let s = c.args.setup.now in
    let r = c.nothing_by.result in
    subst (λ (rule : Rule). IsAnswer b b s (rule_of rule) r) (sym c.in-Case.is) (of_term b s r c.nothing_by.ensures.terms (term_of c.in-Case.test.now) c.nothing_by.ensures.lines c.nothing_by.ensures.fault)

pub returns-in-RestrictBinary-clause-answer : goal.returns-in-RestrictBinary-clause-answer
returns-in-RestrictBinary-clause-answer c =
    subst (λ (rule : Rule). IsAnswer c.args.bank.now c.restrict_binary.new.bank c.args.setup.now (rule_of rule) c.restrict_binary.result) (sym c.in-RestrictBinary.is) c.restrict_binary.ensures.answer

pub returns-in-RestrictSource-clause-answer : goal.returns-in-RestrictSource-clause-answer
returns-in-RestrictSource-clause-answer c =
    subst (λ (rule : Rule). IsAnswer c.args.bank.now c.restrict_source.new.bank c.args.setup.now (rule_of rule) c.restrict_source.result) (sym c.in-RestrictSource.is) c.restrict_source.ensures.answer

pub returns-in-Cut-clause-answer : goal.returns-in-Cut-clause-answer
returns-in-Cut-clause-answer c =
    let b = c.args.bank.now in
    let s = c.args.setup.now in
    let r = c.nothing.result in
    subst (λ (rule : Rule). IsAnswer b b s (rule_of rule) r) (sym c.in-Cut.is)
    (of_lines b s r c.nothing.ensures.terms c.in-Cut.path.now (terms_of c.in-Cut.lines.now) c.nothing.ensures.lines c.nothing.ensures.fault)

pub returns-in-Wait-clause-answer : goal.returns-in-Wait-clause-answer
returns-in-Wait-clause-answer c =
    subst (λ (rule : Rule). IsAnswer c.args.bank.now c.wait.new.bank c.args.setup.now (rule_of rule) c.wait.result) (sym c.in-Wait.is) c.wait.ensures.answer
