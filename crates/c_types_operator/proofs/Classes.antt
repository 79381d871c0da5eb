-- The rule of a binary operator is that of its class.
use Rattle.std.proofs.Common.{◌≡◌, ℕ, refl}
use Rattle.c_syntax_spec.specs.declared.BinaryOperator.{BinaryOperator}
use Rattle.c_syntax_spec.specs.declared.BinaryOperator.TheVariants as binary
use Rattle.c_types_spec.specs.Types as tree
use Rattle.c_types_spec.specs.Operands.{Valued}
use Rattle.c_types_spec.specs.Operators as operators
use Rattle.c_types_operator.specs.Classes.{class_of, rule_of}

pub rule-class : (operator : BinaryOperator) (structs : tree.Structs) (a b : Valued) (offset : ℕ) → operators.binary_rule operator structs a b offset ≡ rule_of (class_of operator) structs a b offset
unfolding operators.binary_rule
rule-class binary.LogicalOr structs a b offset = refl
rule-class binary.LogicalAnd structs a b offset = refl
rule-class binary.BitOr structs a b offset = refl
rule-class binary.BitXor structs a b offset = refl
rule-class binary.BitAnd structs a b offset = refl
rule-class binary.Equal structs a b offset = refl
rule-class binary.NotEqual structs a b offset = refl
rule-class binary.Less structs a b offset = refl
rule-class binary.Greater structs a b offset = refl
rule-class binary.LessOrEqual structs a b offset = refl
rule-class binary.GreaterOrEqual structs a b offset = refl
rule-class binary.ShiftLeft structs a b offset = refl
rule-class binary.ShiftRight structs a b offset = refl
rule-class binary.Add structs a b offset = refl
rule-class binary.Subtract structs a b offset = refl
rule-class binary.Multiply structs a b offset = refl
rule-class binary.Divide structs a b offset = refl
rule-class binary.Remainder structs a b offset = refl

pub ruleset classed = (rule-class)
