-- Arguments of calls, in lists of the program.
use Rattle.std.specs.Prelude.{ℕ, ◌+◌, Bool, not, List, [], ◌∷◌, ◌++◌, Option, Some, None, Result}
use Rattle.c_syntax_spec.specs.Expression.{Name}
use Rattle.c_syntax_spec.specs.Unit as tree
use Rattle.c_types_spec.specs.declared.LeftOut.TheVariants as left_out
use Rattle.c_types_spec.specs.declared.TypeFaultKind.TheVariants.{Mismatch, NotLvalue, LeftOut}
use Rattle.c_types_spec.specs.Core.{Core}
use Rattle.c_types_spec.specs.Names.{Fault, Typing, ◌>>=◌, give, rule, by, in_scope, faults_at, new_call, new_result}
use Rattle.c_types_spec.specs.Operands.{Operand, Valued, converts, read_local}
use Rattle.c_types_spec.specs.Statements.{Context, Made, arguments, called_by, is_assignable}

-- the values of arguments after those that are converted already
abbrev pub after : List Core → Option (List Core) → Option (List Core)
after done None = None
after done (Some cores) = Some (done ++ cores)

-- the further local that a call's value is put into, and its value
abbrev pub further_local : Context → Made → Typing (ℕ × Valued)
further_local context made = do
  count ← new_result made.type
  v ← rule (read_local made.type (context.declared_locals + count) made.offset)
  give (context.declared_locals + count, v)

-- a call whose arguments have been read, which gets the next number
abbrev pub numbered : Name → List Valued → Typing Made
numbered callee values = do
  number ← new_call
  by (λ st. called_by (in_scope st.names callee.spelling) callee values number)

-- a call of a name that is declared
abbrev pub known_call : tree.Call → Typing Made
known_call made = do
  values ← arguments made.arguments []
  numbered made.callee values

-- what is asked of a call whose value is assigned to an object
abbrev pub call_faults : Operand → (is_plain : Bool) → Made → (offset : ℕ) → Result (Unit {0}) Fault
call_faults x is_plain made offset =
    faults_at offset ((not (is_assignable x), NotLvalue) ∷ (not (converts x.type made.type), Mismatch) ∷ (not is_plain, LeftOut left_out.CallPlace) ∷ [])
