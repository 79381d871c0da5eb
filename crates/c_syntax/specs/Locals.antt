-- The tree of a declaration of locals, and of the other parts of a statement, without the program's pointers.
use Rattle.std.specs.Prelude.{map}
use Rattle.std.specs.Option.{option_map}
use Rattle.c_syntax_spec.specs.Unit as tree
use Rattle.c_syntax.specs.Expressions.{expression_of, specifiers_of, declarator_of, unboxed}
use Rattle.c_syntax.specs.Simples.{value_of, simple_of}
use Rattle.c_syntax.specs.declared.statement.Local.{Local}
use Rattle.c_syntax.specs.declared.statement.Locals.{Locals}
use Rattle.c_syntax.specs.declared.statement.ForStart.{ForStart}
use Rattle.c_syntax.specs.declared.statement.ForStart.TheVariants as start
use Rattle.c_syntax.specs.declared.statement.Label.{Label}
use Rattle.c_syntax.specs.declared.statement.Label.TheVariants as label

abbrev pub local_of : Local → tree.Local
local_of local = record { declarator = declarator_of local.declarator.value; value = option_map (λ v. value_of v.value) local.value }

abbrev pub locals_of : Locals → tree.Locals
locals_of locals = record { specifiers = specifiers_of locals.specifiers.value; locals = map local_of (unboxed locals.locals) }

abbrev pub start_of : ForStart → tree.ForStart
start_of start.Empty = tree.StartsEmpty
start_of (start.Locals locals) = tree.StartsLocals (locals_of locals.value)
start_of (start.Simple simple) = tree.StartsSimple (simple_of simple.value)

abbrev pub label_of : Label → tree.Label
label_of (label.Case value offset) = tree.Case (expression_of value.value) offset
label_of (label.Default offset) = tree.Default offset
