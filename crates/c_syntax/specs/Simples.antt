-- The tree of a call, a value and an expression statement without the program's pointers.
use Rattle.c_syntax_spec.specs.Unit as tree
use Rattle.c_syntax.specs.declared.simple.Call.{Call}
use Rattle.c_syntax.specs.declared.simple.Value.{Value}
use Rattle.c_syntax.specs.declared.simple.Value.TheVariants.{Called, Computed}
use Rattle.c_syntax.specs.declared.simple.Simple.{Simple}
use Rattle.c_syntax.specs.declared.simple.Simple.TheVariants.{Assign, AssignBy, StepAfter, StepBefore, Evaluate}
use Rattle.c_syntax.specs.Names.{name_of}
use Rattle.c_syntax.specs.Expressions.{expression_of, expressions_in}

abbrev pub call_of : Call → tree.Call
call_of call = record { callee = name_of call.callee; arguments = expressions_in call.arguments }

abbrev pub value_of : Value → tree.Value
value_of (Called call) = tree.Called (call_of call.value)
value_of (Computed x) = tree.Computed (expression_of x.value)

abbrev pub simple_of : Simple → tree.Simple
simple_of (Assign target value offset) = tree.Assign (expression_of target.value) (value_of value.value) offset
simple_of (AssignBy operator target value offset) = tree.AssignBy operator (expression_of target.value) (expression_of value.value) offset
simple_of (StepAfter operator target offset) = tree.StepAfter operator (expression_of target.value) offset
simple_of (StepBefore operator target offset) = tree.StepBefore operator (expression_of target.value) offset
simple_of (Evaluate value) = tree.Evaluate (value_of value.value)
