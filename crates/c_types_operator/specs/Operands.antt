-- Operands and values of the program.
use Rattle.std.specs.Prelude.{ℕ, Option, Some, None, Result, Ok}
use Rattle.std.specs.declared.alloc.Global.{Global}
use Rattle.std.specs.declared.boxed.Box.{Box}
use Rattle.c_types_spec.specs.declared.Standing.TheVariants.{Computed}
use Rattle.c_types_spec.specs.declared.TypeFaultKind.TheVariants.{Mismatch}
use Rattle.c_types_spec.specs.Types as ctype
use Rattle.c_types_spec.specs.Names.{Fault, fail}
use Rattle.c_types_spec.specs.Core as tree
use Rattle.c_types_spec.specs.Operands as given
use Rattle.c_types_core.specs.declared.expression.Core.{Core}
use Rattle.c_types_core.specs.Expressions.{core_of}
use Rattle.c_types_layout.specs.Types.{type_of}
use Rattle.c_types_operator.specs.declared.operand.Category.{Category}
use Rattle.c_types_operator.specs.declared.operand.Category.TheVariants.{Value, InLocal, InMemory}
use Rattle.c_types_operator.specs.declared.operand.Operand.{Operand}
use Rattle.c_types_operator.specs.declared.operand.Valued.{Valued}

abbrev pub core_in : Box Core Global → tree.Core
core_in b = core_of b.value

abbrev pub category_of : Category → given.Category
category_of (Value core) = given.Value (core_in core)
category_of (InLocal local) = given.InLocal local
category_of (InMemory address displacement) = given.InMemory (core_in address) displacement

unfoldable pub operand_of : Operand → given.Operand
operand_of x = record { category = category_of x.category; type = type_of x.of; standing = x.standing; offset = x.offset }

unfoldable pub valued_of : Valued → given.Valued
valued_of x = record { core = core_in x.core; type = type_of x.of; standing = x.standing; offset = x.offset }

-- a pointer to the first element of an array, by its element
abbrev pub decayed : Option ctype.CType → (address : tree.Core) → (displacement offset : ℕ) → Result given.Valued Fault
decayed (Some element) address displacement offset = Ok (given.valued (given.displaced address displacement offset) (ctype.Pointer element) Computed offset)
decayed None address displacement offset = fail Mismatch offset
