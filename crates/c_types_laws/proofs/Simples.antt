-- Expression statements, declarations of locals, `return`, and the pieces of `for`.
use Rattle.std.proofs.Common.{◌≡◌, ℕ, suc, ◌+◌, not, Bool, true, List, [], ◌∷◌, ◌++◌, length, Option, Some, None, IfOk, slice_get, refl, sym, ap, subst, ◌∙◌, arith, length-append}
use Rattle.std.proofs.lemmas.Bool.{not-false}
use Rattle.c_syntax_spec.specs.Expression.{Name, Expression}
use Rattle.c_syntax_spec.specs.declared.StepOperator.{StepOperator}
use Rattle.c_syntax_spec.specs.Unit as tree
use Rattle.c_types_spec.specs.declared.Scalar.{Scalar}
use Rattle.c_types_spec.specs.declared.Position.TheVariants as position
use Rattle.c_types_spec.specs.declared.TypeFaultKind.TheVariants.{Mismatch}
use Rattle.c_types_spec.specs.Types.{CType, Void, is_void, scalar_of, int}
use Rattle.c_types_spec.specs.Core.{Core, Action, Skip, sequence}
use Rattle.c_types_spec.specs.Operands.{Operand, Valued, value_of, assigned, converts, or_mismatch, scalar_value}
use Rattle.c_types_spec.specs.Declarations.{local}
use Rattle.c_types_spec.specs.Expressions.{expression, value, declared_name}
use Rattle.c_types_spec.specs.Statements.{Made, Context, one, step_operator, stepped, is_plain_name, assigned_from, evaluated, simple, initial, declared_local, declared_locals, declaration, is_static, return_value, returned_from, condition, for_start, for_test, for_step, locals_at_start}
use Rattle.c_types_spec.specs.HasType.{Scope, HasType, IsTyped}
use Rattle.c_types_spec.specs.HasType as typing
use Rattle.c_types_laws.proofs.Results.{if_bind, if_more, or_mismatch-ok}
use Rattle.c_types_laws.proofs.States.{IsScalar, get_last}
use Rattle.c_types_laws.proofs.Types.{IsCType, Small}
use Rattle.c_types_laws.proofs.Operands.{IsValued, IsOperand, IsAssigned, any_scalar, one-typed, value_of-typed, assigned-typed, scalar_value-typed}
use Rattle.c_types_laws.proofs.Readings.{Always}
use Rattle.c_types_laws.proofs.Expressions.{expression-reads, value-reads, specifiers-makes, declarator-makes}
use Rattle.c_types_laws.proofs.Actions.{Runs, Good, Calm, Still, Allows, allows_still, Start, Returns, calm_quiet, calm_runs, calm_good, runs_more}
use Rattle.c_types_laws.proofs.Locals.{NextLocal, local-next}
use Rattle.c_types_laws.proofs.Steps.{Steps, steps_rule, steps_give, steps_check, steps_count, steps_more, steps_then, steps_next, steps_last, steps_reads, steps_makes, steps_with, DoesCalmly, Then, steps_runs}
use Rattle.c_types_laws.proofs.Calls.{Acts, target_of, assignment-typed, quietly, compound-steps, call-steps, call-small, good_call, through_local-steps, converts-scalar, call_assignment-steps}

pub void_scalar : (type : CType) → is_void type ≡ true → scalar_of type ≡ None
void_scalar Void e = refl
void_scalar type e = absurd (cc)

module _ (context : Context) where
  -- ---- expression statements

  assigned_from-steps : (a c : ℕ) (target : Expression) (x : Operand) (source : tree.Value) (offset : ℕ)
      → Steps context.declared_locals (λ scope b d. Start context a c scope b d × IsOperand scope None x) (λ scope b d action. Calm scope a b c d action) 0 (assigned_from context target x source offset)
  unfolding assigned_from
  assigned_from-steps a c target x (tree.Computed source) offset =
      steps_next 0 (steps_reads _ _ _ (value source) (value-reads (target_of x) source))
      (λ v. steps_rule _ _ _ _ (λ scope b d h. quietly context a c scope b d _ h.0.0 (assignment-typed scope x v offset h.0.1 h.1)))
  assigned_from-steps a c target x (tree.Called source) offset =
      steps_with (λ (m : Made). Small m.type) 0 (λ st holds inside. call-small source st holds) (call-steps context a c (λ scope. IsOperand scope None x) source)
      (λ made n. call_assignment-steps context a c x (is_plain_name target) made offset n)

  evaluated-does : (x : tree.Value) → DoesCalmly context 0 (evaluated x)
  unfolding evaluated
  evaluated-does (tree.Computed x) a c =
      steps_next 0 (steps_reads _ _ _ (expression x position.Statement) (expression-reads None x position.Statement))
      (λ given. steps_next 0 (steps_rule _ _ (λ scope b d v. Start context a c scope b d × IsValued scope None v) (value_of given) (λ scope b d h. if_more _ _ (value_of given) (value_of-typed scope None given h.1) (λ v k. (h.0, k))))
      (λ v. steps_give _ _ _ _
      (λ scope b d h. let typed = any_scalar scope None v.type v.core h.1.0 in calm_quiet context scope a b c d _ h.0 (typing.evaluate v.core typed.0 typed.1) (refl, refl, λ in_loop in_switch. tt))))
  evaluated-does (tree.Called x) a c =
      steps_next 0 (steps_more _ _ _ _ _ 0 _ (λ scope b d h. (h, tt)) (λ scope b d made k. k) (call-steps context a c Always x))
      (λ made. steps_give _ _ _ _ (λ scope b d h. good_call context a c made scope b d None h.0 (λ type is. tt)))

  stepped-does : (operator : StepOperator) (target : Expression) (offset : ℕ) → DoesCalmly context 0 (stepped operator target offset)
  stepped-does operator target offset a c =
      steps_next 0 (steps_reads _ _ _ (expression target position.Operand) (expression-reads None target position.Operand))
      (λ x. steps_more _ _ _ _ _ 0 _ (λ scope b d h. (h.0, h.1, (one-typed scope (target_of x), refl))) (λ scope b d action k. k) (compound-steps context a c (step_operator operator) x (one offset) offset))

  pub simple-does : (x : tree.Simple) → DoesCalmly context 0 (simple x context)
  unfolding simple
  simple-does (tree.Assign target source offset) a c =
      steps_next 0 (steps_reads _ _ _ (expression target position.Operand) (expression-reads None target position.Operand))
      (λ x. assigned_from-steps a c target x source offset)
  simple-does (tree.AssignBy operator target source offset) a c =
      steps_next 0 (steps_reads _ _ _ (expression target position.Operand) (expression-reads None target position.Operand))
      (λ x. steps_next 0 (steps_reads _ _ _ (value source) (value-reads (target_of x) source))
      (λ v. steps_more _ _ _ _ _ 0 _ (λ scope b d h. (h.0.0, h.0.1, h.1)) (λ scope b d action k. k) (compound-steps context a c operator x v offset)))
  simple-does (tree.StepAfter operator target offset) a c = stepped-does operator target offset a c
  simple-does (tree.StepBefore operator target offset) a c = stepped-does operator target offset a c
  simple-does (tree.Evaluate x) a c = evaluated-does x a c

  -- ---- locals

  -- the local of a number has a type
  abbrev IsLocal : CType → ℕ → Scope → Type 0
  IsLocal type number scope = (s : Scalar) × (scalar_of type ≡ Some s) × (slice_get scope.locals number ≡ Some s) × Small type

  initial-steps : (a c : ℕ) (x : Option tree.Value) (type : CType) (number offset : ℕ)
      → Steps context.declared_locals (λ scope b d. Start context a c scope b d × IsLocal type number scope) (λ scope b d action. Calm scope a b c d action) 0 (initial x type number offset)
  unfolding initial
  initial-steps a c None type number offset = steps_give _ _ _ _ (λ scope b d h. calm_quiet context scope a b c d _ h.0 (typing.unset number h.1.0 h.1.2) (refl, refl, λ in_loop in_switch. tt))
  initial-steps a c (Some (tree.Computed source)) type number offset =
      steps_next 0 (steps_reads _ _ _ (value source) (value-reads None source))
      (λ v. steps_next 0 (steps_rule _ _ (λ scope b d core. (Start context a c scope b d × IsLocal type number scope) × IsAssigned scope None type core) (or_mismatch (assigned type v) offset)
      (λ scope b d h. if_more _ _ (or_mismatch (assigned type v) offset) (or_mismatch-ok _ (assigned type v) offset (assigned-typed scope None type v h.0.1.3 h.1)) (λ core k. (h.0, k))))
      (λ core. steps_give _ _ _ _
      (λ scope b d h. calm_quiet context scope a b c d _ h.0.0 (typing.set number core h.1.0 (h.0.1.2 ∙ sym h.0.1.1 ∙ h.1.1) h.1.2) (refl, refl, λ in_loop in_switch. tt))))
  initial-steps a c (Some (tree.Called source)) type number offset =
      steps_next 0 (call-steps context a c (IsLocal type number) source)
      (λ made. steps_check _ _ _ offset (λ st. (not (converts type made.type), Mismatch) ∷ []) _ _
      (λ st none. let scalar = converts-scalar type made.type (not-false (converts type made.type) none.0) in
      steps_give _ _ _ _ (λ scope b d h. good_call context a c made scope b d (Some number) h.0 (λ t is. (h.1.0, scalar.0, h.1.2, is ∙ scalar.1)))))

  local-steps : (a c : ℕ) (name : Name) (type : CType) (is_static : Bool) → IsCType type
      → Steps context.declared_locals (Start context a c) (λ scope b d number. Start context a c scope b d × IsLocal type number scope) 1 (local name type is_static)
  local-steps a c name type is_static is = record {
    from = λ st holds inside. if_more (λ made. IsScalar type × NextLocal type st made) _ (local name type is_static st) (local-next name type is_static st is holds inside)
        (λ made k. (
          k.1.grows,
          ap length k.1.locals_now ∙ length-append st.locals (type ∷ []),
          λ scope covers h.
              let at : slice_get made.1.locals made.0 ≡ Some type = subst (λ n. slice_get made.1.locals n ≡ Some type) (sym k.1.is_next) (subst (λ xs. slice_get xs (length st.locals) ≡ Some type) (sym k.1.locals_now) (get_last st.locals type)) in (
                subst (λ n. Start context a c scope made.1.loops n) (sym k.1.calls_same) (subst (λ n. Start context a c scope n st.calls) (sym k.1.loops_same) h),
                (k.0.0, k.0.1, covers.locals_are made.0 type k.0.0 at k.0.1, k.0.2),
              ),
        ));
  }

module _ (context : Context) (places : Action → Type 0) (allows : Allows places) where
  declared_local-steps : (a c : ℕ) (x : tree.Local) (base : CType) (is_static : Bool) → IsCType base
      → Steps context.declared_locals (Start context a c) (λ scope b d action. Runs places scope a b c d action) 1 (declared_local x base is_static)
  unfolding declared_local
  declared_local-steps a c x base is_static is =
      steps_makes 1 (declarator-makes None x.declarator base is)
      (λ type type_is. steps_last 1 (local-steps context a c (declared_name x.declarator) type is_static type_is)
      (λ number. steps_more _ _ _ _ _ 0 _ (λ scope b d h. h) (λ scope b d action h. calm_runs places allows scope a b c d action h) (initial-steps context a c x.value type number (declared_name x.declarator).offset)))

  -- statements so far, in their order
  abbrev pub Sofar : (a c : ℕ) → List Action → Scope → ℕ → ℕ → Type 0
  Sofar a c done scope b d = Returns context scope × Runs places scope a b c d (sequence done)

  pub more-sofar : (a c : ℕ) (done : List Action) (scope : Scope) (b d : ℕ) (action : Action) → Then places (Sofar a c done) scope b d action → Sofar a c (done ++ action ∷ []) scope b d
  more-sofar a c done scope b d action h = (h.2.0, runs_more places allows scope a b c d h.0 h.1 done action h.2.1 h.3)

  declared_locals-steps : (a c : ℕ) (list : List tree.Local) (base : CType) (is_static : Bool) (done : List Action) → IsCType base
      → Steps context.declared_locals (Sofar a c done) (λ scope b d all. Sofar a c all scope b d) (length list) (declared_locals list base is_static done)
  unfolding declared_locals
  declared_locals-steps a c [] base is_static done is = steps_give _ _ _ _ (λ scope b d h. h)
  declared_locals-steps a c (first ∷ rest) base is_static done is =
      steps_count _ _ _ (1 + length rest) (suc (length rest)) _ (omega arith)
      (steps_then 1 (length rest) (steps_runs places context 1 (declared_local first base is_static) (Sofar a c done) (λ scope b d h. h.0) (λ l k. declared_local-steps l k first base is_static is))
      (λ action. steps_more _ _ _ (Sofar a c (done ++ action ∷ [])) _ (length rest) _ (λ scope b d h. more-sofar a c done scope b d action h) (λ scope b d all h. h) (declared_locals-steps a c rest base is_static (done ++ action ∷ []) is)))

  pub declaration-steps : (a c : ℕ) (x : tree.Locals) (done : List Action) → Steps context.declared_locals (Sofar a c done) (λ scope b d all. Sofar a c all scope b d) (length x.locals) (declaration x done)
  unfolding declaration
  declaration-steps a c x done =
      steps_makes (length x.locals) (specifiers-makes None x.specifiers)
      (λ base is. declared_locals-steps a c x.locals base (is_static x.specifiers) done is)

module _ (context : Context) where
  calm_skip : (a c : ℕ) (scope : Scope) (b d : ℕ) → Start context a c scope b d → Calm scope a b c d Skip
  calm_skip a c scope b d h = calm_quiet context scope a b c d Skip h typing.skip (refl, refl, λ in_loop in_switch. tt)

  pub good_skip : (a c : ℕ) (scope : Scope) (b d : ℕ) → Start context a c scope b d → Good context scope a b c d Skip
  good_skip a c scope b d h = calm_good context scope a b c d Skip (calm_skip a c scope b d h)

  -- ---- `return`

  return_value-typed : (scope : Scope) (v : Valued) → Returns context scope → IsValued scope None v → IfOk (return_value context v) (Acts scope)
  return_value-typed scope v ret h =
      if_bind (IsAssigned scope None context.returned) (Acts scope) (or_mismatch (assigned context.returned v) v.offset) _ (or_mismatch-ok _ (assigned context.returned v) v.offset (assigned-typed scope None context.returned v ret.1 h))
      (λ core k. (typing.give_back (Some core) (k.0, ret.0 ∙ k.1, k.2), (refl, refl, λ in_loop in_switch. tt)))

  pub returned_from-does : (x : Option tree.Value) (offset : ℕ) → DoesCalmly context 0 (returned_from x context offset)
  unfolding returned_from
  returned_from-does None offset a c =
      steps_check _ _ _ offset (λ st. (not (is_void context.returned), Mismatch) ∷ []) _ _
      (λ st none. steps_give _ _ _ _
      (λ scope b d h. calm_quiet context scope a b c d _ h (typing.give_back None (h.2.0 ∙ void_scalar context.returned (not-false (is_void context.returned) none.0))) (refl, refl, λ in_loop in_switch. tt)))
  returned_from-does (Some (tree.Computed source)) offset a c =
      steps_next 0 (steps_reads _ _ _ (value source) (value-reads None source))
      (λ v. steps_rule _ _ _ _ (λ scope b d h. quietly context a c scope b d _ h.0 (return_value-typed scope v h.0.2 h.1)))
  returned_from-does (Some (tree.Called source)) offset a c =
      steps_with (λ (m : Made). Small m.type) 0 (λ st holds inside. call-small source st holds) (steps_more _ _ _ _ _ 0 _ (λ scope b d h. (h, tt)) (λ scope b d made k. k) (call-steps context a c Always source))
      (λ made n. through_local-steps context a c Always made _ n (λ scope v ret h k. return_value-typed scope v ret (k None)))

  -- ---- tests, and the pieces of `for`

  -- a test is typed
  abbrev pub IsTest : Scope → Core → Type 0
  IsTest scope core = (s : Scalar) × HasType scope None core s

  pub condition-steps : (H : Scope → ℕ → ℕ → Type 0) (test : Expression) → Steps context.declared_locals H (λ scope l c core. H scope l c × IsTest scope core) 0 (condition test)
  unfolding condition
  condition-steps H test =
      steps_next 0 (steps_reads _ H _ (value test) (value-reads None test))
      (λ v. steps_rule _ _ _ _ (λ scope l c h. if_more _ _ (scalar_value v) (scalar_value-typed scope None v h.1) (λ core k. (h.0, k))))

  pub for_test-steps : (H : Scope → ℕ → ℕ → Type 0) (test : Option Expression) → Steps context.declared_locals H (λ scope l c core. H scope l c × IsTest scope core) 0 (for_test test)
  unfolding for_test
  for_test-steps H None = steps_give _ _ _ _ (λ scope l c h. (h, (int, one-typed scope None)))
  for_test-steps H (Some test) = condition-steps H test

  pub for_start-does : (x : tree.ForStart) → DoesCalmly context (locals_at_start x) (for_start x context)
  unfolding for_start
  for_start-does tree.StartsEmpty a c = steps_give _ _ _ _ (λ scope b d h. calm_skip a c scope b d h)
  for_start-does (tree.StartsLocals locals) a c =
      steps_last (length locals.locals) (steps_more _ _ _ (Sofar context Still allows_still a c []) _ (length locals.locals) _ (λ scope b d h. (h.2, calm_skip a c scope b d h)) (λ scope b d all h. h) (declaration-steps context Still allows_still a c locals []))
      (λ actions. steps_give _ _ _ _ (λ scope b d h. h.1))
  for_start-does (tree.StartsSimple x) a c = simple-does context x a c

  pub for_step-does : (x : Option tree.Simple) → DoesCalmly context 0 (for_step x context)
  unfolding for_step
  for_step-does None a c = steps_give _ _ _ _ (λ scope b d h. calm_skip a c scope b d h)
  for_step-does (Some x) a c = simple-does context x a c
