-- Binary operators by their rules.
use Rattle.std.specs.Prelude.{ℕ, Result}
use Rattle.c_syntax_spec.specs.declared.BinaryOperator.{BinaryOperator}
use Rattle.c_syntax_spec.specs.declared.BinaryOperator.TheVariants as binary
use Rattle.c_types_spec.specs.declared.Arithmetic.TheVariants as arithmetic
use Rattle.c_types_spec.specs.declared.Comparison.TheVariants as comparison
use Rattle.c_types_spec.specs.Types as ctype
use Rattle.c_types_spec.specs.Names.{Fault}
use Rattle.c_types_spec.specs.Operands.{Operand, Valued}
use Rattle.c_types_spec.specs.Operators as operators
use Rattle.c_types_operator.specs.declared.binary.Class.{Class}
use Rattle.c_types_operator.specs.declared.binary.Class.TheVariants as class

abbrev pub class_of : BinaryOperator → Class
class_of binary.LogicalOr = class.Disjunction
class_of binary.LogicalAnd = class.Conjunction
class_of binary.BitOr = class.OnIntegers arithmetic.Or
class_of binary.BitXor = class.OnIntegers arithmetic.Xor
class_of binary.BitAnd = class.OnIntegers arithmetic.And
class_of binary.Equal = class.Equality comparison.Equal
class_of binary.NotEqual = class.Equality comparison.NotEqual
class_of binary.Less = class.Relation comparison.Less
class_of binary.Greater = class.Relation comparison.Greater
class_of binary.LessOrEqual = class.Relation comparison.LessOrEqual
class_of binary.GreaterOrEqual = class.Relation comparison.GreaterOrEqual
class_of binary.ShiftLeft = class.Shift arithmetic.ShiftLeft
class_of binary.ShiftRight = class.Shift arithmetic.ShiftRight
class_of binary.Add = class.Sum
class_of binary.Subtract = class.Difference
class_of binary.Multiply = class.OnIntegers arithmetic.Multiply
class_of binary.Divide = class.OnIntegers arithmetic.Divide
class_of binary.Remainder = class.OnIntegers arithmetic.Remainder

abbrev pub rule_of : Class → ctype.Structs → Valued → Valued → (offset : ℕ) → Result Operand Fault
rule_of class.Disjunction structs a b offset = operators.disjunction a b offset
rule_of class.Conjunction structs a b offset = operators.conjunction a b offset
rule_of (class.OnIntegers operator) structs a b offset = operators.arithmetic operator a b offset
rule_of (class.Shift operator) structs a b offset = operators.shift operator a b offset
rule_of (class.Relation operator) structs a b offset = operators.relation operator a b offset
rule_of (class.Equality operator) structs a b offset = operators.equality operator a b offset
rule_of class.Sum structs a b offset = operators.sum structs a b offset
rule_of class.Difference structs a b offset = operators.difference structs a b offset
