-- The goal is false under the assignment that is reconstructed from a model.
use Rattle.std.proofs.Common.{◌≡◌, true, false, List, [], Some, None, refl, ap, sym, ◌∙◌, subst}
use Rattle.std.proofs.Math.Path.{fun_ext}
use Rattle.clause_check_spec.specs.Clause.{Valuation, satisfies}
use Rattle.term_core_spec.specs.declared.Sort.TheVariants as sort
use Rattle.term_core_spec.specs.declared.Variable.{Variable}
use Rattle.term_core_spec.specs.declared.Atom.TheVariants as atom
use Rattle.term_core_spec.specs.Term as tree
use Rattle.term_core_spec.specs.Term.{Term}
use Rattle.term_core_spec.specs.Sort.{sort_of}
use Rattle.term_core_spec.specs.Value.{Truth, Assignment, value}
use Rattle.term_core_spec.specs.Same.{same_term}
use Rattle.term_bank.specs.declared.node.TermNode.{TermNode}
use Rattle.term_bank.specs.declared.node.TermNode.TheVariants.{Leaf, Unary, Binary, Ternary, Quaternary, Octonary}
use Rattle.term_bank.specs.Nodes.{build}
use Rattle.bit_blast_spec.specs.Goal.{Table, visit, loads_of, goal_gates, cnf_of}
use Rattle.bit_blast_laws.proofs.Gates.{all_hold}
use Rattle.bit_blast_laws.proofs.TermsWhole.{goal_is_false}
use Rattle.bit_blast_laws.specs.Back.{read_back, TableLoadsFromVariables}
use Rattle.bit_blast_laws.proofs.Reading.{is_assignment}
use Rattle.bit_blast_laws.proofs.AssignmentsWhole.{goal_reads}
use Rattle.bit_blast.specs.Loads.{variable_of}
use Rattle.bit_blast.specs.Backs.{AreShort}
use Rattle.bit_blast.proofs.Lengths.{goal_short}

one_holds : (values : Valuation) (goal : Term) → satisfies values (cnf_of goal).clauses ≡ true → values 1 ≡ true
unfolding cnf_of goal_gates
one_holds values goal satisfied = (all_hold values 0 (goal_gates goal 0).gates satisfied).0

pub falsified : (values : Valuation) (t : Table) (assignment : Assignment) → (values 1 ≡ true → AreShort (loads_of t t) → (v : Variable) → assignment v ≡ read_back values t v)
    → (goal : Term) → sort_of goal ≡ Some sort.Truth → TableLoadsFromVariables (visit goal [] 1).out → t ≡ (visit goal [] 1).out → satisfies values (cnf_of goal).clauses ≡ true
    → value assignment goal ≡ Truth false
falsified values t assignment reads goal e from same satisfied =
    let table : Table = (visit goal [] 1).out in
    let short : AreShort (loads_of t t) = subst (λ (u : Table). AreShort (loads_of u u)) (sym same) (goal_short goal e) in
    let is : assignment ≡ read_back values table = fun_ext (λ v. reads (one_holds values goal satisfied) short v ∙ ap (λ (u : Table). read_back values u v) same) in
    subst (λ (a : Assignment). value a goal ≡ Truth false) (sym is)
    (goal_is_false values (read_back values table) goal (is_assignment values table) e satisfied (goal_reads values goal e from satisfied))

-- ---- nodes that are variables

pub variable_node : (node : TermNode) (v : Variable) → variable_of node ≡ Some v → node ≡ Leaf (atom.Open v)
variable_node (Leaf (atom.Open w)) v e = cc
variable_node node v e = absurd (cc)

pub other_node : (trees : List Term) (node : TermNode) → variable_of node ≡ None → (v : Variable) → same_term (tree.Leaf (atom.Open v)) (build trees node) ≡ false
unfolding same_term
other_node trees (Leaf (atom.Open w)) e v = absurd (cc)
other_node trees (Leaf (atom.Truth value)) e v = refl
other_node trees (Leaf (atom.Constant width number)) e v = refl
other_node trees (Unary operator a) e v = refl
other_node trees (Binary operator a b) e v = refl
other_node trees (Ternary operator a b c) e v = refl
other_node trees (Quaternary operator a b c d) e v = refl
other_node trees (Octonary a b c d f g h i) e v = refl
