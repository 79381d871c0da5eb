-- A callee of the code as the definitions have it.
use Rattle.std.specs.Prelude.{◌≡◌, ℕ, suc, ◌+◌, List, [], ◌∷◌, Option}
use Rattle.std.specs.Option.{option_map}
use Rattle.term_core_spec.specs.declared.Width.TheVariants.{W32}
use Rattle.term_core_spec.specs.declared.Variable.{Variable}
use Rattle.term_core_spec.specs.Term.{Term, not_term, equal, less, bit_and, subtract, open_term}
use Rattle.graph_core.specs.Graphs.{boxed_term}
use Rattle.proof_tree.specs.Frames.{terms_of}
use Rattle.c_types_spec.specs.declared.Scalar.{Scalar}
use Rattle.sim_rules_spec.specs.Calling.{word, register, at_entry}
use Rattle.sim_rules_spec.specs.Calls as spec
use Rattle.sim_rules_spec.specs.Calls.{callee_lines}
use Rattle.sim_rules_spec.specs.Points.{Convention}
use Rattle.c_graph_spec.specs.State.{local}
use Rattle.c_graph_spec.specs.State as state
use Rattle.c_graph_spec.specs.Values.{at_width}
use Rattle.sim_calls.specs.declared.callee.Callee.{Callee}

-- a value of a type, widened to a word by the sign of the type
abbrev pub widened : Scalar → Variable → Term
widened type v = at_width type W32 (open_term v)

-- the registers of arguments have the callee's first locals, widened
abbrev pub argument_lines : (number : ℕ) → List Scalar → List Term
argument_lines number [] = []
argument_lines number (type ∷ types) = equal (register (10 + number)) (widened type (local number type)) ∷ argument_lines (suc number) types

abbrev pub result_term : Option Scalar → Option Term
result_term = option_map (λ type. widened type (state.result type))

-- what is asked of the registers of the return address, the stack and the global pointer, with a zone from one address to
-- below the next
abbrev pub zone_lines : (from to : Term) → (stack : ℕ) → List Term
zone_lines from to stack =
    equal (bit_and (register 1) (word 3)) (word 0)
    ∷ equal (bit_and (register 2) (word 15)) (word 0)
    ∷ not_term (less (register 2) from)
    ∷ not_term (less (subtract (register 2) from) (word stack))
    ∷ not_term (less to (register 2))
    ∷ equal (register 3) (at_entry 3)
    ∷ []

-- a function with parameters and a result of these types that takes so much stack
abbrev pub callee_by : (stack : ℕ) → (parameters : List Scalar) → (result_type : Option Scalar) → spec.Callee
callee_by stack parameters result_type = record { stack = stack; arguments = argument_lines 0 parameters; result = result_term result_type }

pub record IsCalleeOf (c : Convention) (callee : spec.Callee) (code : Callee) : Type 0 where
  pub lines : callee_lines c callee ≡ terms_of code.lines.items
  pub stack : callee.stack ≡ code.stack
  pub result : callee.result ≡ option_map boxed_term code.result
