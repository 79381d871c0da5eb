-- Statements are of small sizes.
use Rattle.std.proofs.Common.{ℕ, ℤ, ◌+◌, ◌||◌, not, Bool, true, false, List, [], ◌∷◌, ◌++◌, length, Option, Some, None, IfSome, IfOk, Result, Ok, if◌then◌else◌, refl}
use Rattle.std.proofs.lemmas.Bool.{or_parts}
use Rattle.std.specs.List.{list_any}
use Rattle.c_syntax_spec.specs.declared.BinaryOperator.{BinaryOperator}
use Rattle.c_syntax_spec.specs.declared.StepOperator.{StepOperator}
use Rattle.c_syntax_spec.specs.Expression.{Name, Expression, Expressions, no_expressions, expressions}
use Rattle.c_syntax_spec.specs.Unit as tree
use Rattle.c_types_spec.specs.declared.Scalar.{Scalar}
use Rattle.c_types_spec.specs.declared.Standing.{Standing}
use Rattle.c_types_spec.specs.declared.Position.TheVariants as position
use Rattle.c_types_spec.specs.declared.LeftOut.TheVariants as left_out
use Rattle.c_types_spec.specs.declared.TestPlace.TheVariants.{Before, After}
use Rattle.c_types_spec.specs.declared.TypeFaultKind.TheVariants.{Unknown, Twice, Mismatch, NotLvalue, Fallthrough, LeftOut}
use Rattle.c_types_spec.specs.Types.{CType, Void, Integer, Pointer, Array, Struct, Structs, scalar_of, is_void, promoted, too_large, lacks_element}
use Rattle.c_types_spec.specs.Core.{Core, Action, Skip, Sequence, Store, If, Loop, Switch, Return, sequence}
use Rattle.c_types_spec.specs.Names.{Meaning, Local, Function, in_scope, Fault, Typing, fail, give}
use Rattle.c_types_spec.specs.Operands.{Category, Value, InLocal, InMemory, Operand, Valued, operand, value_of, read_local, assigned, converts, convert, or_mismatch, scalar_value, integer_type, integer_constant}
use Rattle.c_types_spec.specs.Operators.{binary_rule}
use Rattle.c_types_spec.specs.Declarations.{local_declared, local_faults, local, adjusted, parameter_faults, name_offset, parameter}
use Rattle.c_types_spec.specs.Expressions.{declared_name}
use Rattle.c_types_spec.specs.Statements.{Context, is_assignable, stored, assignment, target_value, current, compound_of, compound, step_operator, one, stepped, Made, arguments, with_argument, passed, called_by, is_known, call, call_into, through_local, is_plain_name, call_stored, call_assignment, assigned_from, evaluated, simple, initial, declared_local, declared_locals, declaration, is_static, return_value, returned_from, condition, for_start, for_test, for_step, label, same_label, labels, first_offset, ends, is_end, looping, switching, groups_in, switch_test, statement, parts, switch_groups}
use Rattle.c_graph_spec.specs.Sizes.{HasSizes, HaveSizes, ActionSizes, GroupSizes}
use Rattle.c_types_laws.proofs.Results.{if_any, if_bind, if_test, or_mismatch-ok}
use Rattle.c_types_laws.proofs.Scopes.{Each, each_append}
use Rattle.c_types_laws.proofs.Readings.{Any}
use Rattle.c_types_laws.proofs.Sized.{IsSized, IsDeclared, element-sized, sized_checked, sized_complete}
use Rattle.c_types_laws.proofs.Parts.{IsFineMeaning, Gives, gives_by, gives_rule, gives_structs, gives_give, gives_refuse, gives_check, gives_test, gives_then, gives_after, gives_given, gives_from, gives_declare, gives_new_local, gives_new_result, gives_new_loop, gives_new_call, gives_block, gives_hidden_block}
use Rattle.c_types_laws.proofs.Gauged.{IsGauged, IsGaugedAt, IsGaugedValue, near-small, convert-sizes, read_local-gauged, value_of-gauged, assigned-sizes, scalar_value-sizes, binary_rule-gauged}
use Rattle.c_types_laws.proofs.SizedNames.{meaning-fine}
use Rattle.c_types_laws.proofs.SizedExpressions.{expression-gives, value-gives, value-rule, specifiers-gives, declarator-gives}

pub gives_if : {A : Type 0} {whole : Structs} {H : Type 0} {P : A → Type 0} (b : Bool) (m n : Typing A) → Gives whole H P m → Gives whole H P n → Gives whole H P (if b then m else n)
gives_if true m n h k = h
gives_if false m n h k = k

sequence-sizes : (list : List Action) → Each ActionSizes list → ActionSizes (sequence list)
sequence-sizes [] h = tt
sequence-sizes (first ∷ []) h = h.0
sequence-sizes (first ∷ second ∷ rest) h = (h.0, sequence-sizes (second ∷ rest) h.1)

module _ (whole : Structs) where
  -- ---- assignments

  stored-by : (category : Category) (type : CType) (standing : Standing) (at : ℕ) (core : Core) (offset : ℕ) → IsGaugedAt whole category type → HasSizes core → IfOk (stored (operand category type standing at) core offset) ActionSizes
  unfolding stored
  stored-by (Value given) type standing at core offset h k = tt
  stored-by (InLocal local) type standing at core offset h k = k
  stored-by (InMemory address displacement) type standing at core offset h k = by_scalar (scalar_of type)
    where
      by_scalar : (o : Option Scalar) → IfOk (elim o [ Some s ↦ Ok (Store s address displacement core offset) | None ↦ fail Mismatch offset ]) ActionSizes
      by_scalar (Some s) = (near-small whole displacement type h.1, h.0, k)
      by_scalar None = tt

  assigned-ok : (type : CType) (v : Valued) (offset : ℕ) → HasSizes v.core → IfOk (or_mismatch (assigned type v) offset) HasSizes
  assigned-ok type v offset h = or_mismatch-ok HasSizes (assigned type v) offset (assigned-sizes whole type v h)

  assignment-sizes : (x : Operand) (v : Valued) (offset : ℕ) → IsGauged whole x → HasSizes v.core → IfOk (assignment x v offset) ActionSizes
  unfolding assignment
  assignment-sizes x v offset h k =
      if_test ActionSizes (is_assignable x) _ _
      (λ e. if_bind HasSizes ActionSizes (or_mismatch (assigned x.type v) offset) _ (assigned-ok x.type v offset k) (λ core l. stored-by x.category x.type x.standing x.offset core offset h.0 l))
      (λ e. tt)

  current-by : (category : Category) (type : CType) (standing : Standing) (at : ℕ) → IsGauged whole (operand category type standing at) → IfOk (current (operand category type standing at)) (IsGaugedValue whole)
  unfolding current
  current-by (Value core) type standing at h = value_of-gauged whole (operand (Value core) type standing at) h
  current-by (InLocal local) type standing at h = value_of-gauged whole (operand (InLocal local) type standing at) h
  current-by (InMemory address displacement) type standing at h = by_scalar (scalar_of type)
    where
      by_scalar : (o : Option Scalar) → IfOk (target_value type o at) (IsGaugedValue whole)
      by_scalar (Some s) = (tt, h.1)
      by_scalar None = tt

  compound-gives : (operator : BinaryOperator) (x : Operand) (b : Valued) (offset : ℕ) → Gives whole (IsGauged whole x × IsGaugedValue whole b) ActionSizes (compound operator x b offset)
  unfolding compound
  compound-gives operator x b offset =
      gives_if (is_assignable x) _ _
      (gives_then (gives_rule _ (IsGaugedValue whole) (current x) (λ l. current-by x.category x.type x.standing x.offset l.0))
      (λ a. gives_then (gives_structs _ (IsGauged whole) (λ structs. binary_rule operator structs a b offset) (λ structs agrees fine l. binary_rule-gauged whole structs agrees fine operator a b offset l.1 l.0.1))
      (λ result. gives_rule _ ActionSizes (compound_of x a offset result)
      (λ l. if_bind (IsGaugedValue whole) ActionSizes (value_of result) _ (value_of-gauged whole result l.1) (λ v k. assignment-sizes x v offset l.0.0.0 k.0)))))
      (gives_refuse _ ActionSizes NotLvalue offset)

  stepped-gives : (operator : StepOperator) (target : Expression) (offset : ℕ) → Gives whole (Unit {0}) ActionSizes (stepped operator target offset)
  stepped-gives operator target offset =
      gives_then (expression-gives whole target position.Operand) (λ x. gives_from (λ l. (l.1, (tt, refl))) (compound-gives (step_operator operator) x (one offset) offset))

  -- ---- calls

  arguments-gives : (list : Expressions) (done : List Valued) → Gives whole (Each (IsGaugedValue whole) done) (Each (IsGaugedValue whole)) (arguments list done)
  unfolding arguments
  arguments-gives no_expressions done = gives_give _ (Each (IsGaugedValue whole)) done (λ h. h)
  arguments-gives (expressions first rest) done =
      gives_then (gives_given (value-gives whole first)) (λ v. gives_from (λ l. each_append (IsGaugedValue whole) done (v ∷ []) l.0 (l.1, tt)) (arguments-gives rest (done ++ v ∷ [])))

  passed-sizes : (types : List CType) (values : List Valued) → Each (IsGaugedValue whole) values → IfSome (passed types values) HaveSizes
  unfolding passed
  passed-sizes [] [] h = tt
  passed-sizes (type ∷ types) (v ∷ values) h = by_argument (assigned type v) (passed types values) (assigned-sizes whole type v h.0.0) (passed-sizes types values h.1)
    where
      by_argument : (o : Option Core) (p : Option (List Core)) → IfSome o HasSizes → IfSome p HaveSizes → IfSome (with_argument o p) HaveSizes
      by_argument (Some core) (Some cores) k l = (k, l)
      by_argument (Some core) None k l = tt
      by_argument None p k l = tt
  passed-sizes types values h = tt

  abbrev IsMade : Made → Type 0
  IsMade made = HaveSizes made.arguments × IsSized whole made.type

  called_by-made : (o : Option Meaning) (callee : Name) (values : List Valued) (number : ℕ) → IfSome o (IsFineMeaning whole) → Each (IsGaugedValue whole) values → IfOk (called_by o callee values number) IsMade
  called_by-made (Some (Function signature has_body)) callee values number h k =
      if_bind HaveSizes IsMade (or_mismatch (passed signature.parameters values) callee.offset) _ (or_mismatch-ok HaveSizes (passed signature.parameters values) callee.offset (passed-sizes signature.parameters values k)) (λ cores l. (l, h))
  called_by-made o callee values number h k = tt

  call-gives : (source : tree.Call) → Gives whole (Unit {0}) IsMade (call source)
  unfolding call
  call-gives source =
      gives_check _ IsMade source.callee.offset (λ st. (not (is_known (in_scope st.names source.callee.spelling)), Unknown) ∷ []) _
      (λ st none. gives_then (gives_from (λ l. tt) (arguments-gives source.arguments [])) (λ values. gives_then (gives_new_call _)
      (λ number. gives_by _ IsMade _ (λ now agrees sound l. called_by-made (in_scope now.names source.callee.spelling) source.callee values number (meaning-fine whole now source.callee.spelling sound) l.0.1))))

  through_local-gives : (H : Type 0) (context : Context) (made : Made) (next : Valued → Result Action Fault) → (H → IsMade made) → ((v : Valued) → H → IsGaugedValue whole v → IfOk (next v) ActionSizes) → Gives whole H ActionSizes (through_local context made next)
  through_local-gives H context made next f g =
      gives_then (gives_new_result H made.type)
      (λ count. gives_then (gives_rule _ (IsGaugedValue whole) (read_local made.type (context.declared_locals + count) made.offset) (λ l. read_local-gauged whole made.type (context.declared_locals + count) made.offset (f l.0).1))
      (λ v. gives_then (gives_rule _ ActionSizes (next v) (λ l. g v l.0.0 l.1))
      (λ action. gives_give _ ActionSizes (Sequence (call_into made (Some (context.declared_locals + count))) action) (λ l. ((f l.0.0.0).0, l.1)))))

  call_stored-by : (context : Context) (category : Category) (type : CType) (standing : Standing) (at : ℕ) (made : Made) (offset : ℕ)
      → Gives whole (IsGauged whole (operand category type standing at) × IsMade made) ActionSizes (call_stored context (operand category type standing at) made offset)
  call_stored-by context (Value core) type standing at made offset = gives_refuse _ ActionSizes NotLvalue offset
  call_stored-by context (InLocal local) type standing at made offset = gives_give _ ActionSizes (call_into made (Some local)) (λ l. l.1.0)
  call_stored-by context (InMemory address displacement) type standing at made offset =
      through_local-gives _ context made _ (λ l. l.1) (λ v l k. assignment-sizes (operand (InMemory address displacement) type standing at) v offset l.0 k.0)

  call_assignment-gives : (context : Context) (x : Operand) (is_plain : Bool) (made : Made) (offset : ℕ) → Gives whole (IsGauged whole x × IsMade made) ActionSizes (call_assignment context x is_plain made offset)
  unfolding call_assignment
  call_assignment-gives context x is_plain made offset =
      gives_check _ ActionSizes offset (λ st. (not (is_assignable x), NotLvalue) ∷ (not (converts x.type made.type), Mismatch) ∷ (not is_plain, LeftOut left_out.CallPlace) ∷ []) (call_stored context x made offset)
      (λ st none. gives_from (λ l. l.0) (call_stored-by context x.category x.type x.standing x.offset made offset))

  -- ---- expression statements

  assigned_from-gives : (context : Context) (target : Expression) (x : Operand) (source : tree.Value) (offset : ℕ) → Gives whole (IsGauged whole x) ActionSizes (assigned_from context target x source offset)
  unfolding assigned_from
  assigned_from-gives context target x (tree.Computed source) offset = gives_then (gives_given (value-gives whole source)) (λ v. gives_rule _ ActionSizes (assignment x v offset) (λ l. assignment-sizes x v offset l.0 l.1.0))
  assigned_from-gives context target x (tree.Called source) offset = gives_then (gives_given (call-gives source)) (λ made. call_assignment-gives context x (is_plain_name target) made offset)

  evaluated-gives : (x : tree.Value) → Gives whole (Unit {0}) ActionSizes (evaluated x)
  unfolding evaluated
  evaluated-gives (tree.Computed x) =
      gives_then (expression-gives whole x position.Statement) (λ given. gives_then (value-rule whole _ given (λ l. l.1)) (λ v. gives_give _ ActionSizes _ (λ l. l.1.0)))
  evaluated-gives (tree.Called x) = gives_then (call-gives x) (λ made. gives_give _ ActionSizes _ (λ l. l.1.0))

  simple-gives : (x : tree.Simple) (context : Context) → Gives whole (Unit {0}) ActionSizes (simple x context)
  unfolding simple
  simple-gives (tree.Assign target source offset) context = gives_then (expression-gives whole target position.Operand) (λ x. gives_from (λ l. l.1) (assigned_from-gives context target x source offset))
  simple-gives (tree.AssignBy operator target source offset) context =
      gives_then (expression-gives whole target position.Operand) (λ x. gives_then (gives_given (value-gives whole source)) (λ v. gives_from (λ l. (l.0.1, l.1)) (compound-gives operator x v offset)))
  simple-gives (tree.StepAfter operator target offset) context = stepped-gives operator target offset
  simple-gives (tree.StepBefore operator target offset) context = stepped-gives operator target offset
  simple-gives (tree.Evaluate x) context = evaluated-gives x

  -- ---- locals

  local_declared-gives : (H : Type 0) (name : Option Name) (type : CType) → (H → IsSized whole type) → Gives whole H Any (local_declared name type)
  local_declared-gives H None type f = gives_new_local H type
  local_declared-gives H (Some name) type f =
      gives_then (gives_new_local H type) (λ number. gives_after (gives_declare _ name.spelling (Local number type) (λ l. f l.0)) (gives_give _ Any number (λ l. tt)))

  local-gives : (name : Name) (type : CType) (is_static : Bool) → Gives whole (IsDeclared whole type) Any (local name type is_static)
  unfolding local
  local-gives name type is_static =
      gives_check _ Any name.offset (local_faults name type is_static) (local_declared (Some name) type)
      (λ st none. local_declared-gives _ (Some name) type (λ l. sized_complete whole st.structs type l.1 l.2.fine l.0 none.1.0 none.1.1.0))

  adjusted-sized : (type : CType) → IsSized whole type → IsSized whole (adjusted type)
  adjusted-sized Void h = h
  adjusted-sized (Integer s) h = h
  adjusted-sized (Pointer inner) h = h
  adjusted-sized (Array length element) h = element-sized whole length element h
  adjusted-sized (Struct number) h = h

  pub parameter-gives : (name : Option Name) (type : CType) (has_body : Bool) (offset : ℕ) → Gives whole (IsDeclared whole type) Any (parameter name type has_body offset)
  unfolding parameter
  parameter-gives name type has_body offset =
      gives_check _ Any (name_offset name offset) (parameter_faults name type has_body) _
      (λ st none. gives_then (local_declared-gives _ name (adjusted type)
      (λ l. adjusted-sized type (sized_checked whole st.structs type l.1 l.2.fine l.0 (or_parts (too_large st.structs type) _ none.1.0).0 (or_parts (lacks_element st.structs type) (is_void type) none.1.1.0).0)))
      (λ number. gives_give _ Any (adjusted type) (λ l. tt)))

  initial-gives : (x : Option tree.Value) (type : CType) (number offset : ℕ) → Gives whole (Unit {0}) ActionSizes (initial x type number offset)
  unfolding initial
  initial-gives None type number offset = gives_give _ ActionSizes _ (λ l. tt)
  initial-gives (Some (tree.Computed source)) type number offset =
      gives_then (value-gives whole source) (λ v. gives_then (gives_rule _ HasSizes (or_mismatch (assigned type v) offset) (λ l. assigned-ok type v offset l.1.0)) (λ core. gives_give _ ActionSizes _ (λ l. l.1)))
  initial-gives (Some (tree.Called source)) type number offset =
      gives_then (call-gives source) (λ made. gives_check _ ActionSizes offset (λ st. (not (converts type made.type), Mismatch) ∷ []) (give (call_into made (Some number))) (λ st none. gives_give _ ActionSizes (call_into made (Some number)) (λ l. l.0.1.0)))

  declared_local-gives : (x : tree.Local) (base : CType) (is_static : Bool) → Gives whole (IsSized whole base) ActionSizes (declared_local x base is_static)
  unfolding declared_local
  declared_local-gives x base is_static =
      gives_then (declarator-gives whole x.declarator base) (λ type. gives_then (gives_from (λ l. l.1) (local-gives (declared_name x.declarator) type is_static))
      (λ number. gives_given (initial-gives x.value type number (declared_name x.declarator).offset)))

  declared_locals-gives : (list : List tree.Local) (base : CType) (is_static : Bool) (done : List Action) → Gives whole (IsSized whole base × Each ActionSizes done) (Each ActionSizes) (declared_locals list base is_static done)
  unfolding declared_locals
  declared_locals-gives [] base is_static done = gives_give _ (Each ActionSizes) done (λ l. l.1)
  declared_locals-gives (first ∷ rest) base is_static done =
      gives_then (gives_from (λ l. l.0) (declared_local-gives first base is_static))
      (λ action. gives_from (λ l. (l.0.0, each_append ActionSizes done (action ∷ []) l.0.1 (l.1, tt))) (declared_locals-gives rest base is_static (done ++ action ∷ [])))

  declaration-gives : (x : tree.Locals) (done : List Action) → Gives whole (Each ActionSizes done) (Each ActionSizes) (declaration x done)
  unfolding declaration
  declaration-gives x done =
      gives_then (gives_given (specifiers-gives whole x.specifiers)) (λ base. gives_from (λ l. (l.1, l.0)) (declared_locals-gives x.locals base (is_static x.specifiers) done))

  -- ---- `return`, tests, and the pieces of `for`

  return_value-sizes : (context : Context) (v : Valued) → HasSizes v.core → IfOk (return_value context v) ActionSizes
  return_value-sizes context v h = if_bind HasSizes ActionSizes (or_mismatch (assigned context.returned v) v.offset) _ (assigned-ok context.returned v v.offset h) (λ core k. k)

  returned_from-gives : (x : Option tree.Value) (context : Context) (offset : ℕ) → Gives whole (Unit {0}) ActionSizes (returned_from x context offset)
  unfolding returned_from
  returned_from-gives None context offset = gives_check _ ActionSizes offset (λ st. (not (is_void context.returned), Mismatch) ∷ []) (give (Return None)) (λ st none. gives_give _ ActionSizes (Return None) (λ l. tt))
  returned_from-gives (Some (tree.Computed source)) context offset = gives_then (value-gives whole source) (λ v. gives_rule _ ActionSizes (return_value context v) (λ l. return_value-sizes context v l.1.0))
  returned_from-gives (Some (tree.Called source)) context offset =
      gives_then (call-gives source) (λ made. through_local-gives _ context made (λ v. return_value context v) (λ l. l.1) (λ v l k. return_value-sizes context v k.0))

  condition-gives : (test : Expression) → Gives whole (Unit {0}) HasSizes (condition test)
  unfolding condition
  condition-gives test = gives_then (value-gives whole test) (λ v. gives_rule _ HasSizes (scalar_value v) (λ l. scalar_value-sizes whole v l.1.0))

  for_start-gives : (x : tree.ForStart) (context : Context) → Gives whole (Unit {0}) ActionSizes (for_start x context)
  unfolding for_start
  for_start-gives tree.StartsEmpty context = gives_give _ ActionSizes Skip (λ l. tt)
  for_start-gives (tree.StartsLocals locals) context = gives_then (gives_from (λ l. tt) (declaration-gives locals [])) (λ actions. gives_give _ ActionSizes (sequence actions) (λ l. sequence-sizes actions l.1))
  for_start-gives (tree.StartsSimple x) context = simple-gives x context

  for_test-gives : (x : Option Expression) → Gives whole (Unit {0}) HasSizes (for_test x)
  unfolding for_test
  for_test-gives None = gives_give _ HasSizes _ (λ l. tt)
  for_test-gives (Some test) = condition-gives test

  for_step-gives : (x : Option tree.Simple) (context : Context) → Gives whole (Unit {0}) ActionSizes (for_step x context)
  unfolding for_step
  for_step-gives None context = gives_give _ ActionSizes Skip (λ l. tt)
  for_step-gives (Some x) context = simple-gives x context

  -- ---- `switch`

  label-gives : (x : tree.Label) (type : Scalar) → Gives whole (Unit {0}) Any (label x type)
  unfolding label
  label-gives (tree.Case x offset) type =
      gives_then (value-gives whole x) (λ v. gives_then (gives_rule _ Any (integer_constant v) (λ l. if_any (integer_constant v))) (λ given. gives_give _ Any _ (λ l. tt)))
  label-gives (tree.Default offset) type = gives_give _ Any _ (λ l. tt)

  labels-gives : (list : List tree.Label) (type : Scalar) (seen done : List (Option ℤ)) → Gives whole (Unit {0}) Any (labels list type seen done)
  unfolding labels
  labels-gives [] type seen done = gives_give _ Any _ (λ l. tt)
  labels-gives (first ∷ rest) type seen done =
      gives_then (label-gives first type)
      (λ made. gives_after (gives_test _ made.1 (λ st. (list_any (λ other. same_label other made.0) (seen ++ done), Twice) ∷ [])) (gives_given (labels-gives rest type seen (done ++ made.0 ∷ []))))

  switch_test-sizes : (v : Valued) → HasSizes v.core → IfOk (switch_test v) (λ c. HasSizes c.0)
  unfolding switch_test
  switch_test-sizes v h = by_type (integer_type v.type)
    where
      by_type : (o : Option Scalar) → IfOk (elim o [ Some type ↦ Ok (convert (promoted type) v.core, promoted type) | None ↦ fail Mismatch v.offset ]) (λ (c : Core × Scalar). HasSizes c.0)
      by_type (Some type) = convert-sizes (promoted type) v.core h
      by_type None = tt

  -- groups so far
  abbrev AreGroups : List (List (Option ℤ) × Action) → Type 0
  AreGroups list = Each (λ (x : List (Option ℤ) × Action). ActionSizes x.1) list

  groups_in-sizes : (list : List (List (Option ℤ) × Action)) → AreGroups list → GroupSizes (groups_in list)
  groups_in-sizes [] h = tt
  groups_in-sizes (first ∷ rest) h = (h.0, groups_in-sizes rest h.1)

  -- ---- statements

  mutual
    unfolding statement

    pub statement-gives : (s : tree.Statement) (context : Context) → Gives whole (Unit {0}) ActionSizes (statement s context)
    statement-gives (tree.Block inner offset) context = gives_block (gives_from (λ l. tt) (parts-gives inner context []))
    statement-gives (tree.Empty offset) context = gives_give _ ActionSizes Skip (λ l. tt)
    statement-gives (tree.Perform x) context = simple-gives x context
    statement-gives (tree.Break offset) context = gives_after (gives_test _ offset (λ st. (not (context.in_loop || context.in_switch), Mismatch) ∷ [])) (gives_give _ ActionSizes _ (λ l. tt))
    statement-gives (tree.Continue offset) context = gives_after (gives_test _ offset (λ st. (not context.in_loop, Mismatch) ∷ [])) (gives_give _ ActionSizes _ (λ l. tt))
    statement-gives (tree.Return x offset) context = returned_from-gives x context offset
    statement-gives (tree.If test body offset) context =
        gives_block (gives_then (condition-gives test) (λ c. gives_then (gives_block (gives_given (statement-gives body context))) (λ first. gives_give _ ActionSizes (If c first Skip) (λ l. (l.0.1, l.1, tt)))))
    statement-gives (tree.IfElse test body otherwise offset) context =
        gives_block (gives_then (condition-gives test) (λ c. gives_then (gives_block (gives_given (statement-gives body context)))
        (λ first. gives_then (gives_block (gives_given (statement-gives otherwise context))) (λ second. gives_give _ ActionSizes (If c first second) (λ l. (l.0.0.1, l.0.1, l.1))))))
    statement-gives (tree.While test body offset) context =
        gives_block (gives_then (gives_new_loop _) (λ number. gives_then (gives_given (condition-gives test))
        (λ c. gives_then (gives_block (gives_given (statement-gives body (looping context)))) (λ inner. gives_give _ ActionSizes (Loop number Before c Skip inner) (λ l. (l.0.1, tt, l.1))))))
    statement-gives (tree.Do body test offset) context =
        gives_block (gives_then (gives_new_loop _) (λ number. gives_then (gives_block (gives_given (statement-gives body (looping context))))
        (λ inner. gives_then (gives_given (condition-gives test)) (λ c. gives_give _ ActionSizes (Loop number After c Skip inner) (λ l. (l.1, tt, l.0.1))))))
    statement-gives (tree.For begin test step body offset) context =
        gives_block (gives_then (gives_new_loop _) (λ number. gives_then (gives_given (for_start-gives begin context)) (λ first. gives_then (gives_given (for_test-gives test))
        (λ c. gives_then (gives_given (for_step-gives step context)) (λ last. gives_then (gives_block (gives_given (statement-gives body (looping context))))
        (λ inner. gives_give _ ActionSizes (Sequence first (Loop number Before c last inner)) (λ l. (l.0.0.0.1, (l.0.0.1, l.0.1, l.1)))))))))
    statement-gives (tree.Switch test list offset) context =
        gives_block (gives_then (value-gives whole test) (λ v. gives_then (gives_rule _ (λ c. HasSizes c.0) (switch_test v) (λ l. switch_test-sizes v l.1.0))
        (λ c. gives_then (gives_from (λ l. tt) (switch_groups-gives list (switching context) c.1 [] [])) (λ inner. gives_give _ ActionSizes (Switch c.0 inner) (λ l. (l.0.1, l.1))))))

    pub parts-gives : (list : tree.Parts) (context : Context) (done : List Action) → Gives whole (Each ActionSizes done) ActionSizes (parts list context done)
    parts-gives tree.no_parts context done = gives_give _ ActionSizes (sequence done) (λ l. sequence-sizes done l)
    parts-gives (tree.parts_local locals rest) context done = gives_then (declaration-gives locals done) (λ more. gives_from (λ l. l.1) (parts-gives rest context more))
    parts-gives (tree.parts_statement first rest) context done =
        gives_then (gives_given (statement-gives first context)) (λ action. gives_from (λ l. each_append ActionSizes done (action ∷ []) l.0 (l.1, tt)) (parts-gives rest context (done ++ action ∷ [])))

    pub switch_groups-gives : (list : tree.Groups) (context : Context) (type : Scalar) (seen : List (Option ℤ)) (done : List (List (Option ℤ) × Action)) → Gives whole (AreGroups done) GroupSizes (switch_groups list context type seen done)
    switch_groups-gives tree.no_groups context type seen done = gives_give _ GroupSizes (groups_in done) (λ l. groups_in-sizes done l)
    switch_groups-gives (tree.groups list inner rest) context type seen done =
        gives_then (gives_hidden_block (gives_then (gives_given (labels-gives list type seen [])) (λ values. gives_then (gives_from (λ l. tt) (parts-gives inner context [])) (λ body. gives_give _ (λ (x : List (Option ℤ) × Action). ActionSizes x.1) (values, body) (λ l. l.1)))))
        (λ made. gives_after (gives_test _ (first_offset list) (λ st. (not (is_end rest || ends inner false), Fallthrough) ∷ []))
        (gives_from (λ l. each_append (λ (x : List (Option ℤ) × Action). ActionSizes x.1) done (made ∷ []) l.0 (l.1, tt)) (switch_groups-gives rest context type (seen ++ made.0) (done ++ made ∷ []))))
