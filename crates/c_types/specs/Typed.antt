-- The typed core of the program without its pointers, and look-ups in a typed core.
use Rattle.std.specs.Prelude.{◌≡◌, ℕ, List, length, map, find, Option, Some, None, Result, Ok, Err, bytes_eq}
use Rattle.std.specs.Borrow.{Bor}
use Rattle.std.specs.List.{IsDistinct}
use Rattle.c_types_core.specs.Actions.{action_of}
use Rattle.c_types_spec.specs.Core as core
use Rattle.c_types_spec.specs.Names.{Fault}
use Rattle.c_types_spec.specs.Units as units
use Rattle.c_types_layout.specs.Structs.{structs_of}
use Rattle.c_types_scope.specs.Scopes.{file_of}
use Rattle.c_types_layout.specs.Types.{type_of}
use Rattle.c_types_spec.specs.Types.{Structs}
use Rattle.c_types_scope.specs.States.{texts_in}
use Rattle.c_types_scope.specs.Meanings.{seen_meaning, scope_by, signature_of}
use Rattle.c_types_scope.specs.declared.meaning.Meaning.{Meaning}
use Rattle.c_types_scope.specs.declared.meaning.Meaning.TheVariants as meaning
use Rattle.c_types.specs.declared.typed.FunctionType.{FunctionType}
use Rattle.c_types.specs.declared.typed.Body.{Body}
use Rattle.c_types.specs.declared.typed.Counts.{Counts}
use Rattle.c_types.specs.declared.typed.Typed.{Typed}
use Rattle.attempt.specs.declared.refusal.Refusal.{Refusal}
use Rattle.attempt.specs.declared.refusal.Refusal.TheVariants as refusal
pub use Rattle.c_types_core.specs.declared.fault.TypeFault.{TypeFault}
pub use Rattle.c_types_core.specs.declared.fault.TypeFault.TheVariants.{At}
use Rattle.c_types_core.specs.declared.fault.TypeFault.TheVariants as error

abbrev pub function_type_of : FunctionType → core.FunctionType
function_type_of type = record { parameters = type.parameters.items; result = type.returned }

-- the body of a function of a name
abbrev pub body_of_name : List ℕ → Body → core.Body
body_of_name name body = record {
  name = name;
  signature = function_type_of body.signature.value;
  locals = body.locals.items;
  loops = body.loops;
  calls = body.calls;
  mentions = texts_in body.mentions;
  action = action_of body.action.value;
}

abbrev pub body_of : Body → core.Body
body_of body = body_of_name body.name.now body

abbrev pub bodies_of : List (Bor (List ℕ) × Body) → List core.Body
bodies_of entries = map (λ entry. body_of_name entry.0.now entry.1) entries

abbrev pub typed_of : Typed → core.Typed
typed_of typed = record {
  functions = units.functions_in (scope_by seen_meaning (file_of typed.names.entries));
  globals = units.globals_in (structs_of typed.structs.items) (scope_by seen_meaning (file_of typed.names.entries));
  bodies = bodies_of typed.bodies.entries;
}

-- the program gives what the definition gives; memory may be refused at any time
abbrev pub IsChecked : Result Typed (Refusal TypeFault) → Result core.Typed Fault → Type 0
IsChecked (Ok typed) given = given ≡ Ok (typed_of typed)
IsChecked (Err refusal.NoMemory) given = Unit {0}
IsChecked (Err (refusal.Fault (error.At kind offset))) given = given ≡ Err (kind, offset)

-- ---- look-ups

-- the body of the function of a name, or none
abbrev pub body_in : List core.Body → List ℕ → Option core.Body
body_in bodies name = find (λ body. bytes_eq body.name name) bodies

-- the global of a name, or none
abbrev pub global_in : List core.Global → List ℕ → Option core.Global
global_in globals name = find (λ global. bytes_eq global.global name) globals

-- how many parameters, loops and calls it has
abbrev pub counts_in : core.Body → ℕ × ℕ × ℕ
counts_in body = (length body.signature.parameters, body.loops, body.calls)

abbrev pub counts_of : Counts → ℕ × ℕ × ℕ
counts_of counts = (counts.params, counts.loops, counts.calls)

abbrev pub global_of : List ℕ → core.GlobalSize → core.Global
global_of name size = record { global = name; size = size }

-- no name is there twice
abbrev pub AreDistinct : List (Bor (List ℕ) × Meaning) → Type 0
AreDistinct entries = IsDistinct (λ a b. bytes_eq a.now b.now) (map (λ entry. entry.0) entries)

-- the type of a function, where a name means one
abbrev pub function_in : Meaning → Option core.FunctionType
function_in (meaning.Function signature has_body) = Some (units.function_type (signature_of signature.value))
function_in (meaning.Local number type) = None
function_in (meaning.Object type) = None
function_in (meaning.Typedef type) = None
function_in (meaning.Enumerator value) = None

-- a global, where a name means one
abbrev pub global_at : Structs → List ℕ → Meaning → Option core.Global
global_at structs name (meaning.Object type) = Some (global_of name (units.global_size structs (type_of type)))
global_at structs name (meaning.Function signature has_body) = None
global_at structs name (meaning.Local number type) = None
global_at structs name (meaning.Typedef type) = None
global_at structs name (meaning.Enumerator value) = None
