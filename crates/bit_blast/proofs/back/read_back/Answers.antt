use Rattle.std.proofs.Common.{◌+◌, sym, subst, arith}
use Rattle.cnf_core.specs.Bits.{valuation}
use Rattle.term_bank.specs.declared.node.TermNode.{TermNode}
use Rattle.term_bank.specs.Nodes.{Holds, build}
use Rattle.term_core.specs.declared.assignment.Assignment.{Assignment}
use Rattle.term_core.specs.Assignment.{assignment_of}
use Rattle.bit_blast.specs.Terms.{terms_in}
use Rattle.bit_blast.proofs.Restored.{Read, read_none, read_other, read_variable, read_all}
use Rattle.bit_blast.proofs.Falsified.{falsified, variable_node, other_node}
use Rattle.bit_blast.proofs.back.read_back.Goals.{in-Some+in-Ok-attempt-value+in-Ok-attempt-2, in_default}
use Rattle.bit_blast.proofs.back.read_back.Goals as goal

pub terms-init : goal.terms-init
terms-init c = λ short. read_none (valuation c.args.values.now) c.args.blasted.now.table (assignment_of c.new-assignment.result) c.new-assignment.ensures

pub value_back-requires-clause-term : goal.value_back-requires-clause-term
value_back-requires-clause-term c =
    subst (λ (n : TermNode). Holds (terms_in c.args.blasted.now.table) c.terms.index (build (terms_in c.args.blasted.now.table) n))
    (variable_node c.node.result c.in-Some.variable (sym c.in-Some.ensures)) c.node.ensures.tree

pub terms-preserved : goal.terms-preserved
terms-preserved c = λ short.
    elim c.match-variable_of.branch [
      | in-Some+in-Ok-attempt-value+in-Ok-attempt-2 w ↦
          subst (λ (a : Assignment). Read (valuation c.args.values.now) c.args.blasted.now.table (c.terms.index + 1) (assignment_of a)) (sym w.assignment-is)
          (read_variable (valuation c.args.values.now) c.args.blasted.now.table c.terms.index w.in-Some.variable w.in-Ok-attempt-value.field-0
          (assignment_of c.terms.assignment) (assignment_of w.set.new.self) (omega arith)
          (subst (λ (n : TermNode). Holds (terms_in c.args.blasted.now.table) c.terms.index (build (terms_in c.args.blasted.now.table) n))
          (variable_node c.node.result w.in-Some.variable (sym w.in-Some.ensures)) c.node.ensures.tree)
          (w.in-Ok-attempt-value.ensures short) w.in-Ok-attempt-2.ensures.ok (c.terms.invariant short))
      | in_default w ↦
          subst (λ (a : Assignment). Read (valuation c.args.values.now) c.args.blasted.now.table (c.terms.index + 1) (assignment_of a)) (sym w.assignment-is)
          (read_other (valuation c.args.values.now) c.args.blasted.now.table c.terms.index (build (terms_in c.args.blasted.now.table) c.node.result)
          (assignment_of c.terms.assignment) (omega arith) c.node.ensures.tree (other_node (terms_in c.args.blasted.now.table) c.node.result (sym w.in_default.ensures)) (c.terms.invariant short))
    ]

pub returns-2-clause-reads : goal.returns-2-clause-reads
returns-2-clause-reads c = λ one short v.
    read_all (valuation c.args.values.now) c.args.blasted.now.table c.terms.index (assignment_of c.terms.assignment) c.in-Ok-attempt.field-0.items
    c.is_distinct.ensures c.in-Ok-attempt.ensures.within c.in-Ok-attempt.ensures.loads (omega arith) (c.terms.invariant short) one v

pub returns-2-clause-falsifies : goal.returns-2-clause-falsifies
returns-2-clause-falsifies c =
    falsified (valuation c.args.values.now) c.args.blasted.now.table (assignment_of c.terms.assignment)
    (λ one short v.
    read_all (valuation c.args.values.now) c.args.blasted.now.table c.terms.index (assignment_of c.terms.assignment) c.in-Ok-attempt.field-0.items
    c.is_distinct.ensures c.in-Ok-attempt.ensures.within c.in-Ok-attempt.ensures.loads (omega arith) (c.terms.invariant short) one v)
