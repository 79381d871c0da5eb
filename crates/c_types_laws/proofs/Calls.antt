-- Assignments and calls.
use Rattle.std.proofs.Common.{◌≡◌, ℕ, suc, ◌+◌, not, Bool, true, false, List, [], ◌∷◌, ◌++◌, length, Option, Some, None, IfSome, IfOk, Result, Ok, Err, slice_get, if◌then◌else◌, refl, sym, ap, subst, ◌∙◌}
use Rattle.std.specs.List.{cons_option}
use Rattle.std.proofs.lemmas.Bool.{not-false}
use Rattle.c_token_spec.specs.Words.{entry_of}
use Rattle.c_syntax_spec.specs.declared.BinaryOperator.{BinaryOperator}
use Rattle.c_syntax_spec.specs.Expression.{Name, Expressions, no_expressions, expressions}
use Rattle.c_syntax_spec.specs.Unit as tree
use Rattle.c_types_spec.specs.declared.Scalar.{Scalar}
use Rattle.c_types_spec.specs.declared.Standing.{Standing}
use Rattle.c_types_spec.specs.declared.TypeFaultKind.TheVariants.{Unknown, Mismatch, NotLvalue, LeftOut}
use Rattle.c_types_spec.specs.declared.LeftOut.TheVariants as left_out
use Rattle.c_types_spec.specs.Types.{CType, Integer, Pointer, scalar_of, word}
use Rattle.c_types_spec.specs.Core.{Core, Action, Sequence, FunctionType}
use Rattle.c_types_spec.specs.Names.{Meaning, Local, Object, Function, Typedef, Enumerator, Hidden, in_scope, State, Fault, bind, ◌>>=◌, rule, refuse, new_result}
use Rattle.c_types_spec.specs.Operands.{Category, Value, InLocal, InMemory, Operand, Valued, operand, value_of, read_local, assigned, converts, or_mismatch}
use Rattle.c_types_spec.specs.Operators.{binary_rule}
use Rattle.c_types_spec.specs.Expressions.{value, with_structs}
use Rattle.c_types_spec.specs.Statements.{Context, is_assignable, stored, assignment, current, compound_of, compound, Made, arguments, with_argument, passed, called_by, is_known, call, call_into, through_local, call_stored, call_assignment}
use Rattle.c_types_spec.specs.Units.{scalars_of, function_type}
use Rattle.c_types_spec.specs.HasType.{Scope, HasType, HaveTypes, IsTyped, Receives, Numbers, no_numbers, one_number, loop_numbers, call_numbers}
use Rattle.c_types_spec.specs.HasType as typing
use Rattle.c_types_laws.proofs.Results.{if_any, if_bind, if_more, if_test, or_mismatch-ok}
use Rattle.c_types_laws.proofs.Scopes.{Each, each_append}
use Rattle.c_types_laws.proofs.States.{Holds, IsScalar, Means, in_scope-means, Grows, begins_itself, known_itself, Covers, get_last}
use Rattle.c_types_laws.proofs.Operands.{IsValued, IsPlaced, IsOperand, IsAssigned, value_of-typed, read_local-typed, assigned-typed}
use Rattle.c_types_laws.proofs.Operators.{binary_rule-typed}
use Rattle.c_types_laws.proofs.Types.{Small}
use Rattle.c_types_laws.proofs.Readings.{ReadsTo, Always, if_check, Reads, reads_give, reads_then, reads_given, reads_more}
use Rattle.c_types_laws.proofs.Expressions.{value-reads}
use Rattle.c_types_laws.proofs.Actions.{Quiet, Calm, Start, Returns, calm_quiet}
use Rattle.c_types_laws.proofs.Steps.{Steps, same_length, steps_by, steps_rule, steps_give, steps_refuse, steps_check, steps_next, steps_reads, steps_new_call}

-- ---- assignments

-- the type of the object in memory that is assigned to
abbrev pub target_in : Category → CType → Option Scalar
target_in (Value core) type = None
target_in (InLocal local) type = None
target_in (InMemory address displacement) type = scalar_of type

abbrev pub target_of : Operand → Option Scalar
target_of x = target_in x.category x.type

module _ (scope : Scope) where
  -- a typed statement without loops, calls and jumps
  abbrev pub Acts : Action → Type 0
  Acts action = IsTyped scope action × Quiet action

  stored-by : (category : Category) (type : CType) (standing : Standing) (at : ℕ) (core : Core) (offset : ℕ) → IsPlaced scope None category type → IsAssigned scope (target_in category type) type core
      → IfOk (stored (operand category type standing at) core offset) Acts
  unfolding stored
  stored-by (Value given) type standing at core offset h k = tt
  stored-by (InLocal local) type standing at core offset h k =
      let same : slice_get scope.locals local ≡ Some k.0 = h.2 ∙ sym h.1 ∙ k.1 in
      (typing.set local core k.0 same k.2, (refl, refl, λ in_loop in_switch. tt))
  stored-by (InMemory address displacement) (Integer s) standing at core offset h k =
      let same : HasType scope (Some s) core s = subst (HasType scope (Some s) core) (sym (some-same s k.0 k.1)) k.2 in
      (typing.store s address displacement core offset h same, (refl, refl, λ in_loop in_switch. tt))
    where
      some-same : (a b : Scalar) → Some a ≡ Some b → a ≡ b
      some-same a b e = cc
  stored-by (InMemory address displacement) (Pointer inner) standing at core offset h k =
      let same : HasType scope (Some word) core word = subst (HasType scope (Some word) core) (sym (some-same word k.0 k.1)) k.2 in
      (typing.store word address displacement core offset h same, (refl, refl, λ in_loop in_switch. tt))
    where
      some-same : (a b : Scalar) → Some a ≡ Some b → a ≡ b
      some-same a b e = cc
  stored-by (InMemory address displacement) type standing at core offset h k = tt

  pub assignment-typed : (x : Operand) (v : Valued) (offset : ℕ) → IsOperand scope None x → IsValued scope (target_of x) v → IfOk (assignment x v offset) Acts
  unfolding assignment
  assignment-typed x v offset h k =
      if_test Acts (is_assignable x) _ _
      (λ e. if_bind (IsAssigned scope (target_of x) x.type) Acts (or_mismatch (assigned x.type v) offset) _ (or_mismatch-ok _ (assigned x.type v) offset (assigned-typed scope (target_of x) x.type v h.1 k))
      (λ core l. stored-by x.category x.type x.standing x.offset core offset h.0 l))
      (λ e. tt)

  -- the value of the object before it is assigned to
  current-by : (category : Category) (type : CType) (standing : Standing) (at : ℕ) → IsPlaced scope None category type → Small type → IfOk (current (operand category type standing at)) (IsValued scope (target_in category type))
  unfolding current
  current-by (Value core) type standing at h n = value_of-typed scope None (operand (Value core) type standing at) (h, n)
  current-by (InLocal local) type standing at h n = value_of-typed scope None (operand (InLocal local) type standing at) (h, n)
  current-by (InMemory address displacement) (Integer s) standing at h n = (typing.stored_to s at n refl, n)
  current-by (InMemory address displacement) (Pointer inner) standing at h n = (typing.stored_to word at refl refl, n)
  current-by (InMemory address displacement) type standing at h n = tt

  pub current-typed : (x : Operand) → IsOperand scope None x → IfOk (current x) (IsValued scope (target_of x))
  current-typed x h = current-by x.category x.type x.standing x.offset h.0 h.1

  pub compound_of-typed : (x : Operand) (a : Valued) (offset : ℕ) (result : Operand) → IsOperand scope None x → IsOperand scope (target_of x) result → IfOk (compound_of x a offset result) Acts
  compound_of-typed x a offset result h k = if_bind (IsValued scope (target_of x)) Acts (value_of result) _ (value_of-typed scope (target_of x) result k) (λ v l. assignment-typed x v offset h l)

-- of a statement without loops and calls
pub quietly : (context : Context) (a c : ℕ) (scope : Scope) (b d : ℕ) (r : Result Action Fault) → Start context a c scope b d → IfOk r (Acts scope) → IfOk r (λ action. Calm scope a b c d action)
quietly context a c scope b d r start h = if_more (Acts scope) (λ action. Calm scope a b c d action) r h (λ action k. calm_quiet context scope a b c d action start k.0 k.1)

module _ (context : Context) (a c : ℕ) where
  abbrev pub Begun : Scope → ℕ → ℕ → Type 0
  Begun = Start context a c

  abbrev pub Ended : Scope → ℕ → ℕ → Action → Type 0
  Ended scope b d action = Calm scope a b c d action

  compound-by : (operator : BinaryOperator) (x : Operand) (v : Valued) (offset : ℕ) (test : Bool)
      → Steps context.declared_locals (λ scope b d. Begun scope b d × IsOperand scope None x × IsValued scope (target_of x) v) Ended 0
      (if test
      then (do
        w ← rule (current x)
        result ← with_structs (λ structs. binary_rule operator structs w v offset)
        rule (compound_of x w offset result))
      else refuse NotLvalue offset)
  compound-by operator x v offset false = steps_refuse _ _ _ _ _
  compound-by operator x v offset true =
      steps_next 0 (steps_rule _ _ (λ scope b d w. (Begun scope b d × IsOperand scope None x × IsValued scope (target_of x) v) × IsValued scope (target_of x) w) (current x)
      (λ scope l d h. if_more _ _ (current x) (current-typed scope x h.1) (λ w k. (h, k))))
      (λ w. steps_next 0 (steps_by _ _ (λ scope b d result. (Begun scope b d × IsOperand scope None x × IsValued scope (target_of x) v) × IsOperand scope (target_of x) result) _
      (λ st holds scope covers h. if_more _ _ (binary_rule operator st.structs w v offset) (binary_rule-typed scope (target_of x) operator st.structs w v offset h.1 h.0.2) (λ result k. (h.0, k))))
      (λ result. steps_rule _ _ _ _ (λ scope l d h. quietly context a c scope l d _ h.0.0 (compound_of-typed scope x w offset result h.0.1 h.1))))

  pub compound-steps : (operator : BinaryOperator) (x : Operand) (v : Valued) (offset : ℕ)
      → Steps context.declared_locals (λ scope b d. Begun scope b d × IsOperand scope None x × IsValued scope (target_of x) v) Ended 0 (compound operator x v offset)
  unfolding compound
  compound-steps operator x v offset = compound-by operator x v offset (is_assignable x)

-- ---- calls

abbrev pub AreValued : Scope → List Valued → Type 0
AreValued scope values = Each (IsValued scope None) values

arguments-reads : (list : Expressions) (done : List Valued) → Reads (λ scope. AreValued scope done) AreValued (arguments list done)
unfolding arguments
arguments-reads no_expressions done = reads_give _ _ _ (λ scope h. h)
arguments-reads (expressions first rest) done =
    reads_then (reads_given _ _ (value first) (value-reads None first))
    (λ v. reads_more _ _ (λ scope. AreValued scope (done ++ v ∷ [])) AreValued _ (λ scope h. each_append (IsValued scope None) done (v ∷ []) h.0 (h.1, tt)) (λ scope values h. h) (arguments-reads rest (done ++ v ∷ [])))

with_argument-typed : (scope : Scope) (type : CType) (types : List CType) (o : Option Core) (list : Option (List Core)) → IfSome o (IsAssigned scope None type) → IfSome list (λ cores. HaveTypes scope cores (scalars_of types))
    → IfSome (with_argument o list) (λ cores. HaveTypes scope cores (scalars_of (type ∷ types)))
with_argument-typed scope type types (Some core) (Some cores) h k =
    subst (λ s. HaveTypes scope (core ∷ cores) (cons_option s (scalars_of types))) (sym h.1) (typing.some_argument core h.0 cores (scalars_of types) h.2 k)
with_argument-typed scope type types (Some core) None h k = tt
with_argument-typed scope type types None list h k = tt

passed-typed : (scope : Scope) (types : List CType) (values : List Valued) → Each Small types → AreValued scope values → IfSome (passed types values) (λ cores. HaveTypes scope cores (scalars_of types))
unfolding passed
passed-typed scope [] [] n h = typing.no_arguments
passed-typed scope (type ∷ types) (v ∷ values) n h = with_argument-typed scope type types (assigned type v) (passed types values) (assigned-typed scope None type v n.0 h.0) (passed-typed scope types values n.1 h.1)
passed-typed scope types values n h = tt

-- the callee is declared, and the arguments are those of its parameters
abbrev pub IsMade : Scope → Made → Type 0
IsMade scope made = (type : FunctionType) × (entry_of scope.functions made.callee ≡ Some type) × HaveTypes scope made.arguments type.parameters × (type.result ≡ scalar_of made.type)

-- and the call has the last number
abbrev pub IsNumbered : Context → (a c : ℕ) → Made → Scope → ℕ → ℕ → Type 0
IsNumbered context a c made scope b d = (suc made.number ≡ d) × Start context a c scope b made.number × IsMade scope made

called_by-typed : (context : Context) (a c : ℕ) (st : State) (scope : Scope) (covers : Covers scope context.declared_locals st) (callee : Name) (values : List Valued) (number : ℕ) (o : Option Meaning)
    → IfSome o (Means st callee.spelling) → AreValued scope values → (suc number ≡ st.calls) → Start context a c scope st.loops number → IfOk (called_by o callee values number) (λ made. IsNumbered context a c made scope st.loops st.calls)
called_by-typed context a c st scope covers callee values number (Some (Function signature has_body)) h k e start =
    if_bind (λ cores. HaveTypes scope cores (scalars_of signature.parameters)) _ (or_mismatch (passed signature.parameters values) callee.offset) _
    (or_mismatch-ok _ (passed signature.parameters values) callee.offset (passed-typed scope signature.parameters values h.1.small_parameters k))
    (λ cores l. (e, start, (function_type signature, covers.functions_are callee.spelling signature has_body h.0, l, refl)))
called_by-typed context a c st scope covers callee values number (Some (Local n type)) h k e start = tt
called_by-typed context a c st scope covers callee values number (Some (Object type)) h k e start = tt
called_by-typed context a c st scope covers callee values number (Some (Typedef type)) h k e start = tt
called_by-typed context a c st scope covers callee values number (Some (Enumerator value)) h k e start = tt
called_by-typed context a c st scope covers callee values number (Some Hidden) h k e start = tt
called_by-typed context a c st scope covers callee values number None h k e start = tt

module _ (context : Context) (a c : ℕ) (X : Scope → Type 0) where
  abbrev pub Before : Scope → ℕ → ℕ → Type 0
  Before scope b d = Start context a c scope b d × X scope

  abbrev pub Called : Made → Scope → ℕ → ℕ → Type 0
  Called made scope b d = IsNumbered context a c made scope b d × X scope

  pub call-steps : (made : tree.Call) → Steps context.declared_locals Before (λ scope b d m. Called m scope b d) 0 (call made)
  unfolding call
  call-steps made =
      steps_check _ _ _ made.callee.offset (λ st. (not (is_known (in_scope st.names made.callee.spelling)), Unknown) ∷ []) _ _
      (λ before none. steps_next 0 (steps_reads _ Before AreValued (arguments made.arguments []) (arguments-reads made.arguments []))
      (λ values. steps_next 0 (steps_new_call _ (λ scope b d. Before scope b d × AreValued scope values))
      (λ number. steps_by _ _ _ _
      (λ st holds scope covers h.
      if_more _ (λ m. Called m scope st.loops st.calls) (called_by (in_scope st.names made.callee.spelling) made.callee values number)
      (called_by-typed context a c st scope covers made.callee values number (in_scope st.names made.callee.spelling) (in_scope-means st made.callee.spelling holds) h.1.1 h.0 h.1.0.0)
      (λ m k. (k, h.1.0.1))))))

-- whatever the scope, its value's type is narrow
grows_calls : (st : State) → Holds st → Holds (record st { calls = suc st.calls })
grows_calls st holds = record { outer = holds.outer; inner = holds.inner; scalars = holds.scalars; others = holds.others; file_tags = holds.file_tags; block_tags = holds.block_tags; small_structs = holds.small_structs }

called_by-small : (st : State) (callee : Name) (values : List Valued) (number : ℕ) (o : Option Meaning) → IfSome o (Means st callee.spelling) → IfOk (called_by o callee values number) (λ made. Small made.type)
called_by-small st callee values number (Some (Function signature has_body)) h =
    if_bind (λ _. Unit {0}) (λ made. Small made.type) (or_mismatch (passed signature.parameters values) callee.offset) _ (if_any (or_mismatch (passed signature.parameters values) callee.offset)) (λ cores _. h.1.small_result)
called_by-small st callee values number (Some (Local n type)) h = tt
called_by-small st callee values number (Some (Object type)) h = tt
called_by-small st callee values number (Some (Typedef type)) h = tt
called_by-small st callee values number (Some (Enumerator value)) h = tt
called_by-small st callee values number (Some Hidden) h = tt
called_by-small st callee values number None h = tt

by-small : {A : Type 0} (R : A → Type 0) (st : State) (r : Result A Fault) → IfOk r R → IfOk (bind r (λ x. Ok (x, st))) (λ (made : A × State). R made.0)
by-small R st (Ok x) h = h
by-small R st (Err e) h = tt

pub call-small : (made : tree.Call) (st : State) → Holds st → IfOk (call made st) (λ m. Small m.0.type)
unfolding call
call-small made st holds =
    if_check (λ m. Small m.0.type) made.callee.offset (λ now. (not (is_known (in_scope now.names made.callee.spelling)), Unknown) ∷ []) _ st
    (λ none. if_bind (ReadsTo Always AreValued st) (λ m. Small m.0.type) (arguments made.arguments [] st) _ ((arguments-reads made.arguments []).from st holds)
    (λ values k. let later = record values.1 { calls = suc values.1.calls } in
    let now = grows_calls values.1 k.0.grows.holds in
    by-small (λ m. Small m.type) later (called_by (in_scope later.names made.callee.spelling) made.callee values.0 values.1.calls)
    (called_by-small later made.callee values.0 values.1.calls (in_scope later.names made.callee.spelling) (in_scope-means later made.callee.spelling now))))

-- the call is a statement whose value goes into a local, or is dropped
pub good_call : (context : Context) (a c : ℕ) (made : Made) (scope : Scope) (b d : ℕ) (result : Option ℕ) → IsNumbered context a c made scope b d → ((type : FunctionType) → type.result ≡ scalar_of made.type → Receives scope type result)
    → Calm scope a b c d (call_into made result)
good_call context a c made scope b d result h receives = record {
  typed = typing.call made.number made.callee made.arguments result h.2.0 h.2.1 h.2.2 (receives h.2.0 h.2.3);
  jumps = (refl, λ in_loop in_switch. tt);
  loops_run = subst (λ n. Numbers a n []) h.1.0 (no_numbers a);
  calls_run = subst (λ n. Numbers n d (made.number ∷ [])) (sym h.1.1) (subst (λ n. Numbers made.number n (made.number ∷ [])) h.0 (one_number made.number (suc made.number) [] (no_numbers (suc made.number))));
}

-- and what is then done with the local
pub good_called : (context : Context) (a c : ℕ) (made : Made) (scope : Scope) (b d : ℕ) (result : Option ℕ) (action : Action) → Calm scope a b c d (call_into made result) → Acts scope action
    → Calm scope a b c d (Sequence (call_into made result) action)
good_called context a c made scope b d result action h k = record {
  typed = typing.sequence (call_into made result) action h.typed k.0;
  jumps = (k.1.0, λ in_loop in_switch. (tt, k.1.2 in_loop in_switch));
  loops_run = subst (λ list. Numbers a b list) (sym k.1.0) h.loops_run;
  calls_run = subst (λ list. Numbers c d (made.number ∷ list)) (sym k.1.1) h.calls_run;
}

-- ---- the further local of a call's value

-- one more local for a result
grows_result : (st : State) (type : CType) → Holds st → IsScalar type → Grows st (record st { results = st.results ++ type ∷ [] })
grows_result st type holds scalar = record {
  more_locals = begins_itself st.locals;
  more_results = (type ∷ [], refl);
  depth = refl;
  known = known_itself st.names.file;
  holds = record { outer = holds.outer; inner = holds.inner; scalars = holds.scalars; others = each_append IsScalar st.results (type ∷ []) holds.others (scalar, tt); file_tags = holds.file_tags; block_tags = holds.block_tags; small_structs = holds.small_structs };
}

steps_new_result : (first : ℕ) (H : Scope → ℕ → ℕ → Type 0) (type : CType) (s : Scalar) → scalar_of type ≡ Some s → Small type
    → Steps first H (λ scope l c count. H scope l c × (slice_get scope.locals (first + count) ≡ Some s)) 0 (new_result type)
steps_new_result first H type s e n = record {
  from = λ st holds inside. (
    grows_result st type holds (s, e, n),
    same_length (length st.locals),
    λ scope covers h. (h, covers.results_are (length st.results) type s (get_last st.results type) e),
  );
}

through-by : (context : Context) (a c : ℕ) (X : Scope → Type 0) (made : Made) (next : Valued → Result Action Fault) (s : Scalar) → scalar_of made.type ≡ Some s → Small made.type
    → ((scope : Scope) (v : Valued) → Returns context scope → X scope → ((target : Option Scalar) → IsValued scope target v) → IfOk (next v) (Acts scope))
    → Steps context.declared_locals (Called context a c X made) (λ scope b d action. Calm scope a b c d action) 0 (through_local context made next)
through-by context a c X made next s e n f =
    steps_next 0 (steps_new_result context.declared_locals (Called context a c X made) made.type s e n)
    (λ count. let local = context.declared_locals + count in
    steps_next 0 (steps_rule _ _ (λ scope b d v. (Called context a c X made scope b d × (slice_get scope.locals local ≡ Some s)) × ((target : Option Scalar) → IsValued scope target v)) (read_local made.type local made.offset)
    (λ scope l d h. if_each scope (read_local made.type local made.offset) h (λ target. read_local-typed scope target made.type local made.offset s n e h.1)))
    (λ v. steps_next 0 (steps_rule _ _ (λ scope b d action. (Called context a c X made scope b d × (slice_get scope.locals local ≡ Some s)) × Acts scope action) (next v)
    (λ scope l d h. if_more _ _ (next v) (f scope v h.0.0.0.1.2 h.0.0.1 h.1) (λ action k. (h.0, k))))
    (λ action. steps_give _ _ _ _
    (λ scope l d h. good_called context a c made scope l d (Some local) action
    (good_call context a c made scope l d (Some local) h.0.0.0 (λ type is. (s, s, h.0.1, is ∙ e))) h.1))))
  where
    if_each : {K : Type 0} (scope : Scope) (r : Result Valued Fault) → K → ((target : Option Scalar) → IfOk r (IsValued scope target)) → IfOk r (λ v. K × ((target : Option Scalar) → IsValued scope target v))
    if_each scope (Ok v) k g = (k, g)
    if_each scope (Err e) k g = tt

if_none : {A B C : Type 0} (Q : C → Type 0) (r : Result A Fault) (f : A → Result B Fault) (g : B → Result C Fault) (fault : Fault) → r ≡ Err fault → IfOk (bind (bind r f) g) Q
if_none Q (Ok x) f g fault e = absurd (cc)
if_none Q (Err x) f g fault e = tt

-- where the callee has no value, the local can't be read
through-none : (context : Context) (a c : ℕ) (X : Scope → Type 0) (made : Made) (next : Valued → Result Action Fault) → ((local offset : ℕ) → read_local made.type local offset ≡ Err (Mismatch, offset))
    → Steps context.declared_locals (Called context a c X made) (λ scope b d action. Calm scope a b c d action) 0 (through_local context made next)
through-none context a c X made next e = record {
  from = λ st holds inside. if_none _ (read_local made.type (context.declared_locals + length st.results) made.offset) _ _ (Mismatch, made.offset) (e (context.declared_locals + length st.results) made.offset);
}

through-cases : (context : Context) (a c : ℕ) (X : Scope → Type 0) (type : CType) (made : Made) (next : Valued → Result Action Fault) → made.type ≡ type → Small made.type
    → ((scope : Scope) (v : Valued) → Returns context scope → X scope → ((target : Option Scalar) → IsValued scope target v) → IfOk (next v) (Acts scope))
    → Steps context.declared_locals (Called context a c X made) (λ scope b d action. Calm scope a b c d action) 0 (through_local context made next)
unfolding read_local
through-cases context a c X (Integer s) made next e n f = through-by context a c X made next s (ap scalar_of e) n f
through-cases context a c X (Pointer inner) made next e n f = through-by context a c X made next word (ap scalar_of e) n f
through-cases context a c X type made next e n f = through-none context a c X made next (λ local offset. ap (λ t. read_local t local offset) e)

pub through_local-steps : (context : Context) (a c : ℕ) (X : Scope → Type 0) (made : Made) (next : Valued → Result Action Fault) → Small made.type
    → ((scope : Scope) (v : Valued) → Returns context scope → X scope → ((target : Option Scalar) → IsValued scope target v) → IfOk (next v) (Acts scope))
    → Steps context.declared_locals (Called context a c X made) (λ scope b d action. Calm scope a b c d action) 0 (through_local context made next)
through_local-steps context a c X made next n f = through-cases context a c X made.type made next refl n f

-- ---- a call that is assigned

-- what converts to a type as a call's value has a value
pub converts-scalar : (type given : CType) → converts type given ≡ true → (s : Scalar) × (scalar_of given ≡ Some s)
unfolding converts
converts-scalar (Integer t) (Integer s) e = (s, refl)
converts-scalar (Pointer inner) (Pointer other) e = (word, refl)
converts-scalar type given e = absurd (cc)

call_stored-by : (context : Context) (a c : ℕ) (category : Category) (type : CType) (standing : Standing) (at : ℕ) (made : Made) (offset : ℕ) (s : Scalar) → scalar_of made.type ≡ Some s → Small made.type
    → Steps context.declared_locals (Called context a c (λ scope. IsPlaced scope None category type × Small type) made) (λ scope b d action. Calm scope a b c d action) 0 (call_stored context (operand category type standing at) made offset)
call_stored-by context a c (Value core) type standing at made offset s e n = steps_refuse _ _ _ _ _
call_stored-by context a c (InLocal local) type standing at made offset s e n =
    steps_give _ _ _ _ (λ scope b d h. good_call context a c made scope b d (Some local) h.0 (λ t is. (h.1.0.0, s, h.1.0.2, is ∙ e)))
call_stored-by context a c (InMemory address displacement) type standing at made offset s e n =
    through_local-steps context a c (λ scope. IsPlaced scope None (InMemory address displacement) type × Small type) made _ n
    (λ scope v ret h k. assignment-typed scope (operand (InMemory address displacement) type standing at) v offset h (k (scalar_of type)))

pub call_assignment-steps : (context : Context) (a c : ℕ) (x : Operand) (is_plain : Bool) (made : Made) (offset : ℕ) → Small made.type
    → Steps context.declared_locals (Called context a c (λ scope. IsOperand scope None x) made) (λ scope b d action. Calm scope a b c d action) 0 (call_assignment context x is_plain made offset)
unfolding call_assignment
call_assignment-steps context a c x is_plain made offset n =
    steps_check _ _ _ offset (λ st. (not (is_assignable x), NotLvalue) ∷ (not (converts x.type made.type), Mismatch) ∷ (not is_plain, LeftOut left_out.CallPlace) ∷ []) _ _
    (λ st none. let scalar = converts-scalar x.type made.type (not-false (converts x.type made.type) none.1.0) in
    call_stored-by context a c x.category x.type x.standing x.offset made offset scalar.0 scalar.1 n)
