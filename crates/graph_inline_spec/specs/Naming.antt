-- The variables of a callee, as the graph names them that its body is inlined into.
use Rattle.std.specs.Prelude.{ℕ, if◌then◌else◌}
use Rattle.term_core_spec.specs.declared.Variable.{Variable}
use Rattle.term_core_spec.specs.Term.{Term}
use Rattle.term_core_spec.specs.Substitution.{renamed, at_instance}
use Rattle.graph_core_spec.specs.Graph.{Binding}
use Rattle.graph_core_spec.specs.Run.{is_shared}

-- a callee's own variable belongs to the instance; memory, registers and the ends of the zone exist once, and keep their
-- names
abbrev pub inlined_variable : (instance : ℕ) → Variable → Variable
inlined_variable instance v = if is_shared v then v else at_instance instance v

abbrev pub inlined_term : (instance : ℕ) → Term → Term
inlined_term instance t = renamed (inlined_variable instance) t

-- a binding in the callee's frame
abbrev pub inlined_binding : (instance : ℕ) → Binding → Binding
inlined_binding instance b = record { variable = inlined_variable instance b.variable; term = inlined_term instance b.term }

-- a binding of another function's variable to a term of the callee
abbrev pub with_inlined_term : (instance : ℕ) → Binding → Binding
with_inlined_term instance b = record { variable = b.variable; term = inlined_term instance b.term }

-- a binding of a variable of the callee to another function's term
abbrev pub with_inlined_variable : (instance : ℕ) → Binding → Binding
with_inlined_variable instance b = record { variable = inlined_variable instance b.variable; term = b.term }
