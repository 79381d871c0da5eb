-- What a statement gives is typed in each scope that covers the state after it.
use Rattle.std.proofs.Common.{◌≡◌, ℕ, zero, suc, ◌+◌, ◌<◌, ◌||◌, not, ℤ, Bool, true, false, IsTrue, List, [], ◌∷◌, ◌++◌, length, Option, Some, None, IfSome, IfOk, refl, sym, subst, ◌∙◌, arith}
use Rattle.std.specs.Prelude.{slice_index_or}
use Rattle.std.specs.List.{list_any}
use Rattle.std.proofs.lemmas.Bool.{not-false}
use Rattle.c_syntax_spec.specs.Expression.{Expression}
use Rattle.c_syntax_spec.specs.Unit as tree
use Rattle.c_types_spec.specs.declared.Scalar.{Scalar}
use Rattle.c_types_spec.specs.declared.TestPlace.{TestPlace}
use Rattle.c_types_spec.specs.declared.TestPlace.TheVariants.{Before, After}
use Rattle.c_types_spec.specs.declared.Jump.TheVariants as jump
use Rattle.c_types_spec.specs.Types.{CType, Integer, promoted}
use Rattle.c_types_spec.specs.Values.{is_of}
use Rattle.c_types_spec.specs.Core.{Core, Action, Skip, Sequence, If, Loop, Leave, Switch, Groups, no_groups}
use Rattle.c_types_spec.specs.Names.{State, Typing, give, ◌>>=◌, ◌>>◌, rule, check, block, hidden_block, new_loop}
use Rattle.c_types_spec.specs.declared.Standing.{Standing}
use Rattle.c_types_spec.specs.declared.TypeFaultKind.{TypeFaultKind}
use Rattle.c_types_spec.specs.declared.TypeFaultKind.TheVariants.{Mismatch, Twice, Fallthrough}
use Rattle.c_types_spec.specs.Operands.{Valued, valued, integer_constant}
use Rattle.c_types_spec.specs.Expressions.{value}
use Rattle.c_types_spec.specs.Statements.{Context, simple, declaration, returned_from, condition, for_start, for_test, for_step, label, same_label, labels, first_offset, ends, is_end, looping, switching, groups_in, switch_test, statement, parts, switch_groups, locals_at_start, locals_in, locals_of, locals_of_groups}
use Rattle.c_types_spec.specs.HasType.{Scope, HasType, AreOf, IsTyped, JumpsInside, loop_numbers, call_numbers, Numbers, no_numbers, one_number}
use Rattle.c_types_spec.specs.HasType as typing
use Rattle.c_types_laws.proofs.Results.{if_any, if_more}
use Rattle.c_types_laws.proofs.Values.{is_of-converted}
use Rattle.c_types_laws.proofs.Scopes.{Each, each_append}
use Rattle.c_types_laws.proofs.Operands.{Fits, IsValued, convert-typed}
use Rattle.c_types_laws.proofs.Types.{narrow_promoted}
use Rattle.c_types_laws.proofs.Readings.{Reads, Always, Anything, reads_rule, reads_give, reads_then, reads_after, reads_given, reads_more, reads_check}
use Rattle.c_types_laws.proofs.Expressions.{value-reads}
use Rattle.c_types_laws.proofs.Actions.{Good, Calm, Placed, Still, allows_placed, Start, Returns, calm_quiet, good_from, good_sequence, GoodGroups, good_group, numbers_append}
use Rattle.c_types_laws.proofs.Steps.{Steps, steps_rule, steps_give, steps_check, steps_count, steps_more, steps_keep, steps_then, steps_next, steps_last, steps_reads, steps_new_loop, steps_block, steps_hidden_block, Does, does_calm, Then, steps_runs}
use Rattle.c_types_laws.proofs.Simples.{simple-does, Sofar, more-sofar, declaration-steps, good_skip, returned_from-does, IsTest, condition-steps, for_test-steps, for_start-does, for_step-does}

-- ---- labels

-- the value of a label is one of the type of the test
abbrev AreLabels : Scalar → List (Option ℤ) → Type 0
AreLabels type values = Each (λ (o : Option ℤ). IfSome o (λ v. IsTrue (is_of type v))) values

label-reads : (x : tree.Label) (type : Scalar) → Reads Always (λ scope made. IfSome made.0 (λ v. IsTrue (is_of type v))) (label x type)
unfolding label
label-reads (tree.Case x offset) type =
    reads_then (reads_more Always Anything Always (λ scope v. IsValued scope None v) (value x) (λ scope h. h) (λ scope v h. tt) (value-reads None x))
    (λ v. reads_then (reads_rule _ Anything (integer_constant v) (λ scope h. if_any (integer_constant v))) (λ given. reads_give _ _ _ (λ scope h. is_of-converted type given)))
label-reads (tree.Default offset) type = reads_give _ _ _ (λ scope h. tt)

labels-reads : (list : List tree.Label) (type : Scalar) (seen done : List (Option ℤ)) → Reads (λ scope. AreLabels type done) (λ scope values. AreLabels type values) (labels list type seen done)
unfolding labels
labels-reads [] type seen done = reads_give _ _ _ (λ scope h. h)
labels-reads (first ∷ rest) type seen done =
    reads_then (reads_given _ _ (label first type) (label-reads first type))
    (λ made. reads_after (reads_given _ Anything _ (reads_check made.1 (λ st. (list_any (λ other. same_label other made.0) (seen ++ done), Twice) ∷ [])))
    (reads_more _ _ (λ scope. AreLabels type (done ++ made.0 ∷ [])) (λ scope values. AreLabels type values) _ (λ scope h. each_append _ done (made.0 ∷ []) h.0 (h.1, tt)) (λ scope values h. h) (labels-reads rest type seen (done ++ made.0 ∷ []))))

each_at : {X : Type 0} (P : X → Type 0) (xs : List X) (k : ℕ) (d : X) → Each P xs → k < length xs → P (slice_index_or xs k d)
each_at P [] k d h below = absurd (omega arith)
each_at P (x ∷ xs) zero d h below = h.0
each_at P (x ∷ xs) (suc k) d h below = each_at P xs k d h.1 (omega arith)

are_of : (type : Scalar) (values : List (Option ℤ)) → AreLabels type values → AreOf type values
are_of type values h v there =
    let at = each_at (λ (o : Option ℤ). IfSome o (λ w. IsTrue (is_of type w))) values there.0 (Some v) h there.1 in
    subst (λ (o : Option ℤ). IfSome o (λ w. IsTrue (is_of type w))) there.2 at

-- ---- the test of a `switch`

switch_test-by : (scope : Scope) (core : Core) (type : CType) (standing : Standing) (offset : ℕ) → Fits scope None type core → IfOk (switch_test (valued core type standing offset)) (λ c. HasType scope None c.0 c.1)
unfolding switch_test
switch_test-by scope core (Integer s) standing offset h = convert-typed scope None (promoted s) s core (narrow_promoted s h.1) h.0
switch_test-by scope core type standing offset h = tt

switch_test-typed : (scope : Scope) (v : Valued) → IsValued scope None v → IfOk (switch_test v) (λ c. HasType scope None c.0 c.1)
switch_test-typed scope v h = switch_test-by scope v.core v.type v.standing v.offset h

-- no number is between a number and itself
numbers_none : (a b : ℕ) (list : List ℕ) → list ≡ [] → Numbers a b list → a ≡ b
numbers_none a b list e (no_numbers n) = refl
numbers_none a b list e (one_number n end rest h) = absurd (cc)

-- ---- one lemma for each form

module _ (context : Context) where
  abbrev In : Action → Type 0
  In = Placed context

  -- from what was known before both parts of an `if`, or the body of a loop
  good_if : (scope : Scope) (a b c d m n i j : ℕ) (test : Core) (s : Scalar) (first second : Action) → a ≡ i → c ≡ j → HasType scope None test s → Good context scope i m j n first → Good context scope m b n d second → Good context scope a b c d (If test first second)
  good_if scope a b c d m n i j test s first second e f h k l =
      let whole = good_sequence context scope a b c d m n first second (good_from context scope a m c n i j first e f k) l in
      record { typed = typing.choice test s first second h k.typed l.typed; jumps = whole.jumps; loops_run = whole.loops_run; calls_run = whole.calls_run }

  if-does : (n : ℕ) (test : Expression) (body : Typing Action) → Does context n body → Does context n (block (do
    c ← condition test
    first ← block body
    give (If c first Skip)))
  if-does n test body h a c =
      steps_block _ _ _ n _
      (steps_next n (condition-steps context (Start context a c) test)
      (λ core. steps_last n (steps_block _ _ _ n _ (steps_runs In context n body (λ scope b d. Start context a c scope b d × IsTest context scope core) (λ scope l k g. g.0.2) h))
      (λ first. steps_give _ _ _ _
      (λ scope b d g. let start = g.2.0 in
      good_if scope a b c d b d g.0 g.1 core g.2.1.0 first Skip start.0 start.1 g.2.1.1 g.3 (good_skip context b d scope b d (refl, refl, start.2))))))

  if_else-does : (m n : ℕ) (test : Expression) (body otherwise : Typing Action) → Does context m body → Does context n otherwise → Does context (m + n) (block (do
    c ← condition test
    first ← block body
    second ← block otherwise
    give (If c first second)))
  if_else-does m n test body otherwise h k a c =
      steps_block _ _ _ (m + n) _
      (steps_next (m + n) (condition-steps context (Start context a c) test)
      (λ core. let before : Scope → ℕ → ℕ → Type 0 = λ scope b d. Start context a c scope b d × IsTest context scope core in
      steps_then m n (steps_block _ _ _ m _ (steps_runs In context m body before (λ scope l p g. g.0.2) h))
      (λ first. steps_last n (steps_block _ _ _ n _ (steps_runs In context n otherwise (λ scope b d. Then In before scope b d first) (λ scope l p g. g.2.0.2) k))
      (λ second. steps_give _ _ _ _
      (λ scope b d g. let inner = g.2 in let start = inner.2.0 in
      good_if scope a b c d g.0 g.1 inner.0 inner.1 core inner.2.1.0 first second start.0 start.1 inner.2.1.1 inner.3 g.3)))))

  -- what was known where a loop got its number
  abbrev Numbered : (a c : ℕ) → ℕ → Scope → ℕ → ℕ → Type 0
  Numbered a c number scope b d = (suc number ≡ b) × Start context a c scope number d

  good_loop : (scope : Scope) (a b c d m n i j number : ℕ) (place : TestPlace) (test : Core) (s : Scalar) (step body : Action) → a ≡ number → suc number ≡ i → c ≡ j → HasType scope None test s
      → Calm scope i m j n step → Good (looping context) scope m b n d body → Good context scope a b c d (Loop number place test step body)
  good_loop scope a b c d m n i j number place test s step body e f g h k l = record {
    typed = typing.repeat number place test s step body h k.typed l.typed;
    jumps = (k.jumps.1 false false, l.jumps);
    loops_run = subst (λ t. Numbers t b (number ∷ (loop_numbers step ++ loop_numbers body))) (sym e)
        (one_number number b (loop_numbers step ++ loop_numbers body) (subst (λ t. Numbers t b (loop_numbers step ++ loop_numbers body)) (sym f) (numbers_append i m b (loop_numbers step) (loop_numbers body) k.loops_run l.loops_run)));
    calls_run = subst (λ t. Numbers t d (call_numbers step ++ call_numbers body)) (sym g) (numbers_append j n d (call_numbers step) (call_numbers body) k.calls_run l.calls_run);
  }

  still : (scope : Scope) (b d : ℕ) → Returns context scope → Calm scope b b d d Skip
  still scope b d ret = calm_quiet context scope b b d d Skip (refl, refl, ret) typing.skip (refl, refl, λ in_loop in_switch. tt)

  while-does : (n : ℕ) (test : Expression) (body : Typing Action) → Does (looping context) n body → Does context n (block (do
    number ← new_loop
    c ← condition test
    inner ← block body
    give (Loop number Before c Skip inner)))
  while-does n test body h a c =
      steps_block _ _ _ n _
      (steps_next n (steps_new_loop _ (Start context a c))
      (λ number. steps_next n (condition-steps context (Numbered a c number) test)
      (λ core. steps_last n (steps_block _ _ _ n _ (steps_runs (Placed (looping context)) (looping context) n body (λ scope b d. Numbered a c number scope b d × IsTest context scope core) (λ scope l k g. g.0.1.2) h))
      (λ inner. steps_give _ _ _ _
      (λ scope b d g. let before = g.2.0 in
      good_loop scope a b c d g.0 g.1 g.0 g.1 number Before core g.2.1.0 Skip inner before.1.0 before.0 before.1.1 g.2.1.1 (still scope g.0 g.1 before.1.2) g.3)))))

  do-does : (n : ℕ) (test : Expression) (body : Typing Action) → Does (looping context) n body → Does context n (block (do
    number ← new_loop
    inner ← block body
    c ← condition test
    give (Loop number After c Skip inner)))
  do-does n test body h a c =
      steps_block _ _ _ n _
      (steps_next n (steps_new_loop _ (Start context a c))
      (λ number. steps_last n (steps_block _ _ _ n _ (steps_runs (Placed (looping context)) (looping context) n body (Numbered a c number) (λ scope l k g. g.1.2) h))
      (λ inner. steps_next 0 (condition-steps context (λ scope b d. Then (Placed (looping context)) (Numbered a c number) scope b d inner) test)
      (λ core. steps_give _ _ _ _
      (λ scope b d g. let made = g.0 in let before = made.2 in
      good_loop scope a b c d made.0 made.1 made.0 made.1 number After core g.1.0 Skip inner before.1.0 before.0 before.1.1 g.1.1 (still scope made.0 made.1 before.1.2) made.3)))))

  good_for : (scope : Scope) (a b c d number : ℕ) (test : Core) (first last inner : Action) (p q m n i j : ℕ) → Numbered a c number scope i j → Calm scope i m j n first → IsTest context scope test
      → Calm scope m p n q last → Good (looping context) scope p b q d inner → Good context scope a b c d (Sequence first (Loop number Before test last inner))
  good_for scope a b c d number test first last inner p q m n i j numbered begun tested stepped body =
      let same : i ≡ m = numbers_none i m (loop_numbers first) begun.jumps.0 begun.loops_run in
      let loop = good_loop scope a b n d p q m n number Before test tested.0 last inner numbered.1.0 (numbered.0 ∙ same) refl tested.1 stepped body in
      record {
        typed = typing.sequence first (Loop number Before test last inner) begun.typed loop.typed;
        jumps = (begun.jumps.1 context.in_loop context.in_switch, loop.jumps);
        loops_run = subst (λ list. Numbers a b (list ++ loop_numbers (Loop number Before test last inner))) (sym begun.jumps.0) loop.loops_run;
        calls_run = subst (λ t. Numbers t d (call_numbers first ++ (call_numbers last ++ call_numbers inner))) (sym numbered.1.1)
            (numbers_append j n d (call_numbers first) (call_numbers last ++ call_numbers inner) begun.calls_run loop.calls_run);
      }

  for-does : (n : ℕ) (begin : tree.ForStart) (test : Option Expression) (step : Option tree.Simple) (body : Typing Action) → Does (looping context) n body → Does context (locals_at_start begin + n) (block (do
    number ← new_loop
    first ← for_start begin context
    c ← for_test test
    last ← for_step step context
    inner ← block body
    give (Sequence first (Loop number Before c last inner))))
  for-does n begin test step body h a c =
      steps_block _ _ _ (locals_at_start begin + n) _
      (steps_next (locals_at_start begin + n) (steps_new_loop _ (Start context a c))
      (λ number. let one : Scope → ℕ → ℕ → Type 0 = Numbered a c number in
      steps_then (locals_at_start begin) n (steps_runs Still context (locals_at_start begin) (for_start begin context) one (λ scope l k g. g.1.2) (for_start-does context begin))
      (λ first. let two : Scope → ℕ → ℕ → Type 0 = λ scope b d. Then Still one scope b d first in
      steps_next n (for_test-steps context two test)
      (λ core. let three : Scope → ℕ → ℕ → Type 0 = λ scope b d. two scope b d × IsTest context scope core in
      steps_next n (steps_runs Still context 0 (for_step step context) three (λ scope l k g. g.0.2.1.2) (for_step-does context step))
      (λ last. let four : Scope → ℕ → ℕ → Type 0 = λ scope b d. Then Still three scope b d last in
      steps_last n (steps_block _ _ _ n _ (steps_runs (Placed (looping context)) (looping context) n body four (λ scope l k g. g.2.0.2.1.2) h))
      (λ inner. steps_give _ _ _ _
      (λ scope b d g. good_for scope a b c d number core first last inner g.0 g.1 g.2.0 g.2.1 g.2.2.0.0 g.2.2.0.1 g.2.2.0.2 g.2.2.0.3 g.2.2.1 g.2.3 g.3)))))))

  break-does : (offset : ℕ) → Does context 0 (do
    check offset (λ st. (not (context.in_loop || context.in_switch), Mismatch) ∷ [])
    give (Leave jump.Break))
  break-does offset a c =
      steps_check _ _ _ offset (λ st. (not (context.in_loop || context.in_switch), Mismatch) ∷ []) _ _
      (λ st none. steps_give _ _ _ _
      (λ scope b d h. record {
        typed = typing.leave jump.Break;
        jumps = not-false (context.in_loop || context.in_switch) none.0;
        loops_run = subst (λ n. Numbers a n []) h.0 (no_numbers a);
        calls_run = subst (λ n. Numbers c n []) h.1 (no_numbers c);
      }))

  continue-does : (offset : ℕ) → Does context 0 (do
    check offset (λ st. (not context.in_loop, Mismatch) ∷ [])
    give (Leave jump.Continue))
  continue-does offset a c =
      steps_check _ _ _ offset (λ st. (not context.in_loop, Mismatch) ∷ []) _ _
      (λ st none. steps_give _ _ _ _
      (λ scope b d h. record {
        typed = typing.leave jump.Continue;
        jumps = not-false context.in_loop none.0;
        loops_run = subst (λ n. Numbers a n []) h.0 (no_numbers a);
        calls_run = subst (λ n. Numbers c n []) h.1 (no_numbers c);
      }))

  -- a block, of which nothing is there at first
  abbrev pub Finished : (a c : ℕ) → Scope → ℕ → ℕ → Action → Type 0
  Finished a c scope b d action = Returns context scope × Good context scope a b c d action

  abbrev pub Going : (a c : ℕ) → List Action → Scope → ℕ → ℕ → Type 0
  Going a c done scope b d = Sofar context (Placed context) (allows_placed context) a c done scope b d

  parts-does : (n : ℕ) (m : Typing Action) → ((a c : ℕ) → Steps context.declared_locals (Going a c []) (Finished a c) n m) → Does context n m
  parts-does n m h a c = steps_more _ _ _ (Going a c []) (Finished a c) n m (λ scope b d k. (k.2, good_skip context a c scope b d k)) (λ scope b d action k. k.1) (h a c)

  block-does : (n : ℕ) (m : Typing Action) → ((a c : ℕ) → Steps context.declared_locals (Going a c []) (Finished a c) n m) → Does context n (block m)
  block-does n m h a c = steps_block _ _ _ n m (parts-does n m h a c)

  local-parts : (m n : ℕ) (a c : ℕ) (locals : tree.Locals) (rest : List Action → Typing Action) (done : List Action) → m ≡ length locals.locals
      → ((more : List Action) → Steps context.declared_locals (Going a c more) (Finished a c) n (rest more)) → Steps context.declared_locals (Going a c done) (Finished a c) (m + n) (do
        more ← declaration locals done
        rest more)
  local-parts m n a c locals rest done e h =
      steps_then m n (steps_count _ _ _ (length locals.locals) m _ (sym e) (declaration-steps context (Placed context) (allows_placed context) a c locals done)) h

  statement-parts : (m n : ℕ) (a c : ℕ) (first : Typing Action) (rest : List Action → Typing Action) (done : List Action) → Does context m first
      → ((more : List Action) → Steps context.declared_locals (Going a c more) (Finished a c) n (rest more)) → Steps context.declared_locals (Going a c done) (Finished a c) (m + n) (do
        action ← first
        rest (done ++ action ∷ []))
  statement-parts m n a c first rest done h k =
      steps_then m n (steps_runs (Placed context) context m first (Going a c done) (λ scope b d g. g.0) h)
      (λ action. steps_more _ _ _ (Going a c (done ++ action ∷ [])) (Finished a c) n _ (λ scope b d g. more-sofar context (Placed context) (allows_placed context) a c done scope b d action g) (λ scope b d x g. g) (k (done ++ action ∷ [])))

  -- groups so far
  abbrev pub GoingGroups : (type : Scalar) → (a c : ℕ) → Groups → Scope → ℕ → ℕ → Type 0
  GoingGroups type a c list scope b d = Returns context scope × GoodGroups context scope type a b c d list

  group-steps : (n : ℕ) (list : List tree.Label) (type : Scalar) (seen : List (Option ℤ)) (body : Typing Action) (H : Scope → ℕ → ℕ → Type 0) → ((scope : Scope) (l k : ℕ) → H scope l k → Returns context scope) → Does context n body
      → Steps context.declared_locals H (λ scope b d (made : List (Option ℤ) × Action). Then (Placed context) (λ s l k. H s l k × AreLabels type made.0) scope b d made.1) n (hidden_block (do
        values ← labels list type seen []
        action ← body
        give (values, action)))
  group-steps n list type seen body H ret h =
      steps_hidden_block _ _ _ n _
      (steps_next n (steps_reads _ H _ (labels list type seen []) (labels-reads list type seen []))
      (λ values. steps_last n (steps_runs (Placed context) context n body (λ scope b d. H scope b d × AreLabels type values) (λ scope l k g. ret scope l k g.0) h)
      (λ action. steps_give _ _ _ _ (λ scope b d g. g))))

  groups-more : (m n : ℕ) (a c : ℕ) (list : List tree.Label) (type : Scalar) (seen : List (Option ℤ)) (body : Typing Action) (rest : List (Option ℤ) → List (List (Option ℤ) × Action) → Typing Groups) (offset : ℕ) (tests : State → List (Bool × TypeFaultKind))
      (done : List (List (Option ℤ) × Action)) → context.in_switch ≡ true → Does context m body
      → ((s : List (Option ℤ)) (more : List (List (Option ℤ) × Action)) → Steps context.declared_locals (GoingGroups type a c (groups_in more)) (λ scope b d g. GoingGroups type a c g scope b d) n (rest s more))
      → Steps context.declared_locals (GoingGroups type a c (groups_in done)) (λ scope b d g. GoingGroups type a c g scope b d) (m + n) (do
        made ← hidden_block (do
          values ← labels list type seen []
          action ← body
          give (values, action))
        check offset tests
        rest (seen ++ made.0) (done ++ made ∷ []))
  groups-more m n a c list type seen body rest offset tests done inside h k =
      steps_then m n (group-steps m list type seen body (GoingGroups type a c (groups_in done)) (λ scope l i g. g.0) h)
      (λ made. steps_check _ _ _ offset tests n _
      (λ st none. steps_more _ _ _ (GoingGroups type a c (groups_in (done ++ made ∷ []))) _ n _
      (λ scope b d g. (g.2.0.0, good_group context scope type a b c d g.0 g.1 done made.0 made.1 g.2.0.1 (are_of type made.0 g.2.1) inside g.3)) (λ scope b d x g. g) (k (seen ++ made.0) (done ++ made ∷ []))))

good_switch : (context : Context) (scope : Scope) (a b c d : ℕ) (test : Core) (type : Scalar) (list : Groups) → HasType scope None test type → GoodGroups (switching context) scope type a b c d list → Good context scope a b c d (Switch test list)
good_switch context scope a b c d test type list h k = record { typed = typing.switch test type list h k.typed; jumps = k.jumps; loops_run = k.loops_run; calls_run = k.calls_run }

switch-does : (context : Context) (n : ℕ) (test : Expression) (list : Scalar → Typing Groups)
    → ((type : Scalar) (a c : ℕ) → Steps context.declared_locals (GoingGroups (switching context) type a c no_groups) (λ scope b d g. GoingGroups (switching context) type a c g scope b d) n (list type)) → Does context n (block (do
      v ← value test
      c ← rule (switch_test v)
      inner ← list c.1
      give (Switch c.0 inner)))
switch-does context n test list h a c =
    steps_block _ _ _ n _
    (steps_next n (steps_reads _ (Start context a c) _ (value test) (value-reads None test))
    (λ v. steps_next n (steps_rule _ _ (λ scope b d t. HasType scope None t.0 t.1 × Start context a c scope b d) (switch_test v) (λ scope b d g. if_more _ _ (switch_test v) (switch_test-typed scope v g.1) (λ t k. (k, g.0))))
    (λ t. steps_last n (steps_keep _ _ _ (λ scope. HasType scope None t.0 t.1) n _
    (steps_more _ _ _ (GoingGroups (switching context) t.1 a c no_groups) _ n _ (λ scope b d g. (g.2, none-so-far scope t.1 b d g)) (λ scope b d x g. g) (h t.1 a c)))
    (λ inner. steps_give _ _ _ _ (λ scope b d g. good_switch context scope a b c d t.0 t.1 inner g.0 g.1.1)))))
  where
    none-so-far : (scope : Scope) (type : Scalar) (b d : ℕ) → Start context a c scope b d → GoodGroups (switching context) scope type a b c d no_groups
    none-so-far scope type b d start = record { typed = typing.last_group type; jumps = tt; loops_run = subst (λ k. Numbers a k []) start.0 (no_numbers a); calls_run = subst (λ k. Numbers c k []) start.1 (no_numbers c) }

empty-does : (context : Context) → Does context 0 (give Skip)
empty-does context a c = steps_give _ _ _ _ (λ scope b d h. good_skip context a c scope b d h)

-- ---- all forms

mutual
  unfolding statement locals_in

  pub statement-does : (s : tree.Statement) (context : Context) → Does context (locals_in s) (statement s context)
  statement-does (tree.Block inner offset) context = block-does context (locals_of inner) (parts inner context []) (λ a c. parts-steps inner context a c [])
  statement-does (tree.Empty offset) context = empty-does context
  statement-does (tree.Perform x) context = does_calm context 0 (simple x context) (simple-does context x)
  statement-does (tree.Break offset) context = break-does context offset
  statement-does (tree.Continue offset) context = continue-does context offset
  statement-does (tree.Return x offset) context = does_calm context 0 (returned_from x context offset) (returned_from-does context x offset)
  statement-does (tree.If test body offset) context = if-does context (locals_in body) test (statement body context) (statement-does body context)
  statement-does (tree.IfElse test body otherwise offset) context =
      if_else-does context (locals_in body) (locals_in otherwise) test (statement body context) (statement otherwise context) (statement-does body context) (statement-does otherwise context)
  statement-does (tree.While test body offset) context = while-does context (locals_in body) test (statement body (looping context)) (statement-does body (looping context))
  statement-does (tree.Do body test offset) context = do-does context (locals_in body) test (statement body (looping context)) (statement-does body (looping context))
  statement-does (tree.For begin test step body offset) context = for-does context (locals_in body) begin test step (statement body (looping context)) (statement-does body (looping context))
  statement-does (tree.Switch test list offset) context =
      switch-does context (locals_of_groups list) test (λ type. switch_groups list (switching context) type [] []) (λ type a c. groups-steps list (switching context) refl type [] a c [])

  pub parts-steps : (p : tree.Parts) (context : Context) (a c : ℕ) (done : List Action) → Steps context.declared_locals (Going context a c done) (Finished context a c) (locals_of p) (parts p context done)
  parts-steps tree.no_parts context a c done = steps_give _ _ _ _ (λ scope b d h. h)
  parts-steps (tree.parts_local locals rest) context a c done = local-parts context (length locals.locals) (locals_of rest) a c locals (parts rest context) done refl (λ more. parts-steps rest context a c more)
  parts-steps (tree.parts_statement first rest) context a c done =
      statement-parts context (locals_in first) (locals_of rest) a c (statement first context) (parts rest context) done (statement-does first context) (λ more. parts-steps rest context a c more)

  pub groups-steps : (g : tree.Groups) (context : Context) → context.in_switch ≡ true → (type : Scalar) (seen : List (Option ℤ)) (a c : ℕ) (done : List (List (Option ℤ) × Action))
      → Steps context.declared_locals (GoingGroups context type a c (groups_in done)) (λ scope b d list. GoingGroups context type a c list scope b d) (locals_of_groups g) (switch_groups g context type seen done)
  groups-steps tree.no_groups context inside type seen a c done = steps_give _ _ _ _ (λ scope b d h. h)
  groups-steps (tree.groups list inner rest) context inside type seen a c done =
      groups-more context (locals_of inner) (locals_of_groups rest) a c list type seen (parts inner context []) (λ s more. switch_groups rest context type s more)
      (first_offset list) (λ st. (not (is_end rest || ends inner false), Fallthrough) ∷ []) done inside
      (parts-does context (locals_of inner) (parts inner context []) (λ l k. parts-steps inner context l k [])) (λ s more. groups-steps rest context inside type s a c more)
