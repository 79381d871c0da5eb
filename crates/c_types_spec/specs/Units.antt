-- Units (ISO C11, 6.9): the typed core of a unit, or its first fault.
use Rattle.std.specs.Prelude.{ℕ, ◌+◌, Bool, true, false, if◌then◌else◌, List, [], ◌∷◌, ◌++◌, length, filter_map, Option, Some, None, Result, Ok}
use Rattle.c_syntax_spec.specs.Expression.{Name, Specifiers, Specified, Declarator}
use Rattle.c_syntax_spec.specs.Unit as tree
use Rattle.c_types_spec.specs.declared.Scalar.{Scalar}
use Rattle.c_types_spec.specs.Types.{CType, Structs, scalar_of, size_of, is_void, is_open_array}
use Rattle.c_types_spec.specs.Core.{Action, Sequence, Return, MissingReturn, FunctionType, Body, GlobalSize, Sized, AnySize, NoSize, Global, Typed}
use Rattle.c_types_spec.specs.Names.{Signature, Meaning, Local, Object, Function, Typedef, Enumerator, Hidden, Scope, State, Fault, Typing, start, give, bind, ◌>>=◌, ◌>>◌, change, block, start_function, start_body}
use Rattle.c_types_spec.specs.Declarations.{parameter, typedef, object, function}
use Rattle.c_types_spec.specs.Expressions.{specifiers, specifiers_offset, declarator, declared_name, lengths, pointers_to, array_of}
use Rattle.c_types_spec.specs.Statements.{Context, parts, locals_of}

-- ---- functions

-- 6.7.6.3: the types of parameters, after those so far
unfoldable pub declared_parameter : tree.Parameter → (has_body : Bool) → Typing CType
declared_parameter given has_body = do
  base ← specifiers given.specifiers
  found ← lengths given.lengths []
  parameter given.name (array_of given.is_open found (pointers_to given.pointers base)) has_body (specifiers_offset given.specifiers)

unfoldable pub parameters : List tree.Parameter → (has_body : Bool) → List CType → Typing (List CType)
parameters [] has_body done = give done
parameters (first ∷ rest) has_body done = do
  type ← declared_parameter first has_body
  parameters rest has_body (done ++ type ∷ [])

abbrev pub signature_of : List CType → CType → Signature
signature_of types result = record { parameters = types; result = result }

-- a function without a body: its parameters are in a block of their own (6.2.1p4)
unfoldable pub declared_function : tree.FunctionDeclarator → (base : CType) → Typing (Unit {0})
declared_function given base = do
  types ← block (parameters given.parameters false [])
  function given.name (signature_of types (pointers_to given.pointers base)) false

-- the scalars among types
abbrev pub scalars_of : List CType → List Scalar
scalars_of types = filter_map scalar_of types

abbrev pub function_type : Signature → FunctionType
function_type signature = record { parameters = scalars_of signature.parameters; result = scalar_of signature.result }

-- 6.9.1p12: what stands at the `}` of a body
abbrev pub at_end : (result : CType) → (close : ℕ) → Action
at_end result close = if is_void result then Return None else MissingReturn close

abbrev pub body_of : Name → Signature → (close : ℕ) → Action → State → Body
body_of name signature close action st = record {
  name = name.spelling;
  signature = function_type signature;
  locals = scalars_of (st.locals ++ st.results);
  loops = st.loops;
  calls = st.calls;
  mentions = st.mentions;
  action = Sequence action (at_end signature.result close);
}

abbrev pub context_of : Signature → tree.Parts → Context
context_of signature body = record {
  returned = signature.result;
  declared_locals = length signature.parameters + locals_of body;
  in_loop = false;
  in_switch = false;
}

-- 6.9.1p9, p10: a function with a body, whose parameters are in the body's block. It is in scope in its body
unfoldable pub defined_function : tree.FunctionDeclarator → (base : CType) → tree.Parts → (close : ℕ) → Typing Body
defined_function given base body close = block (do
  change start_function
  types ← parameters given.parameters true []
  function given.name (signature_of types (pointers_to given.pointers base)) true
  change start_body
  action ← parts body (context_of (signature_of types (pointers_to given.pointers base)) body) []
  λ st. Ok (body_of given.name (signature_of types (pointers_to given.pointers base)) close action st, st))

-- ---- external declarations

abbrev pub is_typedef : Specifiers → Bool
is_typedef (Specified storage base offset) = storage.is_typedef

unfoldable pub declared_object : Declarator → (base : CType) → (is_typedef : Bool) → Typing (Unit {0})
declared_object given base is_typedef = do
  type ← declarator given base
  if is_typedef then typedef (declared_name given) type else object (declared_name given) type

unfoldable pub global : tree.Global → (base : CType) → (is_typedef : Bool) → Typing (Unit {0})
global (tree.Object given) base is_typedef = declared_object given base is_typedef
global (tree.Function given) base is_typedef = declared_function given base

unfoldable pub globals : List tree.Global → (base : CType) → (is_typedef : Bool) → Typing (Unit {0})
globals [] base is_typedef = give (tt {0})
globals (first ∷ rest) base is_typedef = do
  global first base is_typedef
  globals rest base is_typedef

-- the bodies, after those so far
unfoldable pub external_declaration : tree.ExternalDeclaration → List Body → Typing (List Body)
external_declaration tree.EmptyDeclaration done = give done
external_declaration (tree.Declaration words list) done = do
  base ← specifiers words
  globals list base (is_typedef words)
  give done
external_declaration (tree.Definition words given body close) done = do
  base ← specifiers words
  made ← defined_function given base body close
  give (done ++ made ∷ [])

unfoldable pub external_declarations : tree.TranslationUnit → List Body → Typing (List Body)
external_declarations [] done = give done
external_declarations (first ∷ rest) done = do
  more ← external_declaration first done
  external_declarations rest more

-- ---- the typed core

-- the functions among names of the file scope, and the objects
abbrev pub functions_in : Scope Meaning → List (List ℕ × FunctionType)
functions_in [] = []
functions_in (entry ∷ scope) = elim entry.1 [
  | Function signature has_body ↦ (entry.0, function_type signature) ∷ functions_in scope
  | Local number type ↦ functions_in scope
  | Object type ↦ functions_in scope
  | Typedef type ↦ functions_in scope
  | Enumerator value ↦ functions_in scope
  | Hidden ↦ functions_in scope
]

-- 6.2.5p22, 6.9.2: by what is known of structs at the end of the unit
abbrev pub known_size : Option ℕ → GlobalSize
known_size (Some bytes) = Sized bytes
known_size None = NoSize

abbrev pub global_size : Structs → CType → GlobalSize
global_size structs type = if is_open_array type then AnySize else known_size (size_of structs type)

abbrev pub globals_in : Structs → Scope Meaning → List Global
globals_in structs [] = []
globals_in structs (entry ∷ scope) = elim entry.1 [
  | Object type ↦ record { global = entry.0; size = global_size structs type } ∷ globals_in structs scope
  | Local number type ↦ globals_in structs scope
  | Function signature has_body ↦ globals_in structs scope
  | Typedef type ↦ globals_in structs scope
  | Enumerator value ↦ globals_in structs scope
  | Hidden ↦ globals_in structs scope
]

abbrev pub typed_core : List Body × State → Typed
typed_core made = record {
  functions = functions_in made.1.names.file;
  globals = globals_in made.1.structs made.1.names.file;
  bodies = made.0;
}

-- the typed core of a unit, or its first fault: the kind and the offset
unfoldable pub typed : tree.TranslationUnit → Result Typed Fault
typed unit = bind (external_declarations unit [] start) (λ made. Ok (typed_core made))
