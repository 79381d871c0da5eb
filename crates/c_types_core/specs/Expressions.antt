-- The typed core of an expression without the program's pointers.
use Rattle.c_types_spec.specs.Core as tree
use Rattle.c_types_core.specs.declared.expression.Core.{Core, Core-F, fold-Core}
use Rattle.c_types_core.specs.declared.expression.Core.TheOpen as open_tree

-- one level, whose parts are seen as trees already
abbrev pub core_step : Core-F tree.Core → tree.Core
core_step (open_tree.Constant type value) = tree.Constant type value
core_step (open_tree.ReadLocal type local offset) = tree.ReadLocal type local offset
core_step (open_tree.GlobalAddress name) = tree.GlobalAddress name.now
core_step (open_tree.Load type address displacement offset) = tree.Load type address.value displacement offset
core_step (open_tree.Target type offset) = tree.Target type offset
core_step (open_tree.Convert type operand) = tree.Convert type operand.value
core_step (open_tree.Operate operator type left right offset) = tree.Operate operator type left.value right.value offset
core_step (open_tree.Compare operator left right) = tree.Compare operator left.value right.value
core_step (open_tree.Move direction order size pointer index offset) = tree.Move direction order size pointer.value index.value offset
core_step (open_tree.Within bound index offset) = tree.Within bound index.value offset
core_step (open_tree.Aligned alignment pointer offset) = tree.Aligned alignment pointer.value offset
core_step (open_tree.Choose type test first second) = tree.Choose type test.value first.value second.value

unfoldable pub core_of : Core → tree.Core
core_of = fold-Core tree.Core core_step
