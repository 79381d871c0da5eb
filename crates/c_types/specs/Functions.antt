-- A function with a body by its parts.
use Rattle.std.specs.Prelude.{ℕ, List, [], true, ◌++◌, Ok}
use Rattle.c_syntax_spec.specs.Unit as tree
use Rattle.c_types_spec.specs.Types.{CType}
use Rattle.c_types_spec.specs.Core.{Action, Sequence, FunctionType, Body}
use Rattle.c_types_spec.specs.Names.{State, Typing, ◌>>=◌, ◌>>◌, give, change, start_body, start_function}
use Rattle.c_types_spec.specs.Declarations.{function}
use Rattle.c_types_spec.specs.Expressions.{pointers_to}
use Rattle.c_types_spec.specs.Statements.{Context, parts}
use Rattle.c_types_spec.specs.Units.{parameters, signature_of, scalars_of, function_type, at_end, context_of}

abbrev pub body_made : List ℕ → FunctionType → Action → State → Body
body_made name signature action st = record {
  name = name;
  signature = signature;
  locals = scalars_of (st.locals ++ st.results);
  loops = st.loops;
  calls = st.calls;
  mentions = st.mentions;
  action = action;
}

-- what a body does, and what is done at its `}`
abbrev pub action : tree.Parts → Context → (close : ℕ) → Typing Action
action body context close = do
  made ← parts body context []
  give (Sequence made (at_end context.returned close))

-- with parameters of these types
abbrev pub function_of_types : tree.FunctionDeclarator → List CType → (base : CType) → tree.Parts → (close : ℕ) → Typing Body
function_of_types given types base body close = do
  function given.name (signature_of types (pointers_to given.pointers base)) true
  change start_body
  made ← action body (context_of (signature_of types (pointers_to given.pointers base)) body) close
  λ st. Ok (body_made given.name.spelling (function_type (signature_of types (pointers_to given.pointers base))) made st, st)

-- in the block that parameters and body share
abbrev pub function_body : tree.FunctionDeclarator → (base : CType) → tree.Parts → (close : ℕ) → Typing Body
function_body given base body close = do
  change start_function
  types ← parameters given.parameters true []
  function_of_types given types base body close
