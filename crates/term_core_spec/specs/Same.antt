-- Whether two variables, or two terms, are the same, as a test.
use Rattle.std.specs.Prelude.{Bool, false, ◌&&◌}
use Rattle.term_core_spec.specs.declared.Variable.{Variable}
use Rattle.term_core_spec.specs.contracts.VariablePartialEq.TheImpl as variable_test
use Rattle.term_core_spec.specs.contracts.AtomPartialEq.TheImpl as atom_test
use Rattle.term_core_spec.specs.contracts.UnaryOperatorPartialEq.TheImpl as unary_test
use Rattle.term_core_spec.specs.contracts.BinaryOperatorPartialEq.TheImpl as binary_test
use Rattle.term_core_spec.specs.contracts.TernaryOperatorPartialEq.TheImpl as ternary_test
use Rattle.term_core_spec.specs.contracts.QuaternaryOperatorPartialEq.TheImpl as quaternary_test
use Rattle.term_core_spec.specs.Term.{Term, Leaf, Unary, Binary, Ternary, Quaternary, Octonary}

-- all four fields are equal
abbrev pub same_variable : Variable → Variable → Bool
same_variable v w = variable_test.ghosts.eq v w

-- the trees are equal
unfoldable pub same_term : Term → Term → Bool
same_term (Leaf x) (Leaf y) = atom_test.ghosts.eq x y
same_term (Unary o a) (Unary p b) = unary_test.ghosts.eq o p && same_term a b
same_term (Binary o a1 a2) (Binary p b1 b2) = binary_test.ghosts.eq o p && (same_term a1 b1 && same_term a2 b2)
same_term (Ternary o a1 a2 a3) (Ternary p b1 b2 b3) = ternary_test.ghosts.eq o p && (same_term a1 b1 && (same_term a2 b2 && same_term a3 b3))
same_term (Quaternary o a1 a2 a3 a4) (Quaternary p b1 b2 b3 b4) =
    quaternary_test.ghosts.eq o p && (same_term a1 b1 && (same_term a2 b2 && (same_term a3 b3 && same_term a4 b4)))
same_term (Octonary a1 a2 a3 a4 a5 a6 a7 a8) (Octonary b1 b2 b3 b4 b5 b6 b7 b8) =
    same_term a1 b1 && (same_term a2 b2 && (same_term a3 b3 && (same_term a4 b4 && (same_term a5 b5 && (same_term a6 b6 && (same_term a7 b7 && same_term a8 b8))))))
same_term s t = false
