-- The typed core of a unit is typed.
use Rattle.std.proofs.Common.{true≢false, IsTrue, ◌≡◌, ℕ, zero, suc, ◌+◌, ◌<◌, Bool, true, false, List, [], ◌∷◌, ◌++◌, length, Option, Some, None, IfOk, Ok, slice_get, if◌then◌else◌, refl, sym, ap, subst, ◌∙◌, append_assoc, append-nil, arith}
use Rattle.std.specs.List.{cons_option}
use Rattle.std.proofs.lemmas.Option.{none-some, same_Some}
use Rattle.c_token_spec.specs.Words.{entry_of}
use Rattle.c_syntax_spec.specs.Expression.{Name, Declarator, Specifiers}
use Rattle.c_syntax_spec.specs.Unit as tree
use Rattle.c_types_spec.specs.declared.Scalar.{Scalar}
use Rattle.c_types_spec.specs.Types.{CType, scalar_of, is_void}
use Rattle.c_types_spec.specs.Core.{Action, Return, MissingReturn, Body, Typed}
use Rattle.c_types_spec.specs.Names.{Signature, Meaning, Function, State, start, block, open_block, close_block, start_function, start_body}
use Rattle.c_types_spec.specs.Declarations.{had_body, typedef, object, function}
use Rattle.c_types_spec.specs.Expressions.{specifiers, specifiers_offset, declarator, declared_name, lengths, pointers_to, array_of}
use Rattle.c_types_spec.specs.Statements.{parts, locals_of}
use Rattle.c_types_spec.specs.Units.{declared_parameter, parameters, signature_of, declared_function, scalars_of, at_end, body_of, context_of, defined_function, is_typedef, declared_object, global, globals, external_declaration, external_declarations, typed_core, typed}
use Rattle.c_types_spec.specs.HasType.{is_narrow, Scope, IsTyped, JumpsInside, is_ended, loop_numbers, call_numbers, Numbers, no_numbers, scope_of, IsTypedBody, IsTypedUnit}
use Rattle.c_types_spec.specs.HasType as typing
use Rattle.c_types_laws.proofs.Results.{if_bind, if_more}
use Rattle.c_types_laws.proofs.Scopes.{Each, each_append, each_more}
use Rattle.c_types_laws.proofs.States.{IsBodied, bodied_later, each_get, Begins, get_append, get_right, Holds, IsScalar, AreInner, Known, known_itself, known_then, Grows, grows_itself, grows_then, Stays, stays_then, stays_mentions, Covers}
use Rattle.c_types_laws.proofs.Readings.{MakesTo, Any}
use Rattle.c_types_laws.proofs.Types.{IsCType, Small, scalars_of-narrow}
use Rattle.c_types_laws.proofs.Expressions.{specifiers-makes, declarator-makes, lengths-makes, array_of-is, pointers_to-is}
use Rattle.c_types_laws.proofs.Actions.{Runs}
use Rattle.c_types_laws.proofs.Steps.{Inside, StepsTo, left, tags_closed, holds_opened}
use Rattle.c_types_laws.proofs.Locals.{NextParameter, parameter-next}
use Rattle.c_types_laws.proofs.Simples.{void_scalar, good_skip}
use Rattle.c_types_laws.proofs.Statements.{Going, Finished, parts-steps}
use Rattle.c_types_laws.proofs.Files.{all_of, functions_in-callable, typedef-stays, object-stays, DeclaresFunction, function-stays, Declares, declares_before, functions_in-found, globals_in-found}

-- ---- parameters

-- the parameters are the next locals, in their order
pub record NextParameters (done : List CType) (st : State) (made : List CType × State) : Type 0 where
  pub grows : Grows st made.1
  pub smalls : Each Small made.0
  pub added : (new : List CType) × (made.0 ≡ done ++ new) × (made.1.locals ≡ st.locals ++ new)
  pub loops_same : made.1.loops ≡ st.loops
  pub calls_same : made.1.calls ≡ st.calls

next_after : (st mid : State) (made : CType × State) → Stays st mid → NextParameter mid made → NextParameter st made
next_after st mid made h k = record {
  grows = grows_then st mid made.1 h.grows k.grows;
  small = k.small;
  locals_now = k.locals_now ∙ ap (λ xs. xs ++ made.0 ∷ []) h.same_locals;
  loops_same = k.loops_same ∙ h.same_loops;
  calls_same = k.calls_same ∙ h.same_calls;
}

inside_later : (st later : State) → Grows st later → Inside st → Inside later
inside_later st later grows inside = subst (λ n. 0 < n) (sym grows.depth) inside

declared_parameter-next : (p : tree.Parameter) (has_body : Bool) (st : State) → Holds st → Inside st → IfOk (declared_parameter p has_body st) (NextParameter st)
unfolding declared_parameter
declared_parameter-next p has_body st holds inside =
    if_bind (MakesTo IsCType st) (NextParameter st) (specifiers p.specifiers st) _ ((specifiers-makes None p.specifiers).makes st holds)
    (λ base k. if_bind (MakesTo Any base.1) (NextParameter st) (lengths p.lengths [] base.1) _ ((lengths-makes None p.lengths []).makes base.1 k.0.grows.holds)
    (λ found l.
    let inside_now = inside_later base.1 found.1 l.0.grows (inside_later st base.1 k.0.grows inside) in
    let type : CType = array_of p.is_open found.0 (pointers_to p.pointers base.0) in
    let is : IsCType type = array_of-is None p.is_open found.0 (pointers_to p.pointers base.0) (pointers_to-is None p.pointers base.0 k.1) in
    if_more (NextParameter found.1) (NextParameter st) _ (parameter-next p.name type has_body (specifiers_offset p.specifiers) found.1 is l.0.grows.holds inside_now)
    (λ made m. next_after st base.1 made k.0 (next_after base.1 found.1 made l.0 m))))

parameters-next : (list : List tree.Parameter) (has_body : Bool) (done : List CType) (st : State) → Each Small done → Holds st → Inside st → IfOk (parameters list has_body done st) (NextParameters done st)
unfolding parameters
parameters-next [] has_body done st smalls holds inside = record { grows = grows_itself st holds; smalls = smalls; added = ([], sym (append-nil done), sym (append-nil st.locals)); loops_same = refl; calls_same = refl }
parameters-next (first ∷ rest) has_body done st smalls holds inside =
    if_bind (NextParameter st) (NextParameters done st) (declared_parameter first has_body st) _ (declared_parameter-next first has_body st holds inside)
    (λ made k. if_more (NextParameters (done ++ made.0 ∷ []) made.1) (NextParameters done st) (parameters rest has_body (done ++ made.0 ∷ []) made.1) (parameters-next rest has_body (done ++ made.0 ∷ []) made.1 (each_append Small done (made.0 ∷ []) smalls (k.small, tt)) k.grows.holds (inside_later st made.1 k.grows inside))
    (λ end l. record {
      grows = grows_then st made.1 end.1 k.grows l.grows;
      smalls = l.smalls;
      added = (made.0 ∷ l.added.0, l.added.1 ∙ append_assoc done (made.0 ∷ []) l.added.0, l.added.2 ∙ ap (λ xs. xs ++ l.added.0) k.locals_now ∙ append_assoc st.locals (made.0 ∷ []) l.added.0);
      loops_same = l.loops_same ∙ k.loops_same;
      calls_same = l.calls_same ∙ k.calls_same;
    }))

-- ---- the locals of a body

cons_append : (o : Option Scalar) (xs ys zs : List Scalar) → zs ≡ xs ++ ys → cons_option o zs ≡ cons_option o xs ++ ys
cons_append None xs ys zs e = e
cons_append (Some s) xs ys zs e = ap (λ t. s ∷ t) e

scalars_append : (xs ys : List CType) → scalars_of (xs ++ ys) ≡ scalars_of xs ++ scalars_of ys
scalars_append [] ys = refl
scalars_append (x ∷ xs) ys = cons_append (scalar_of x) (scalars_of xs) (scalars_of ys) (scalars_of (xs ++ ys)) (scalars_append xs ys)

scalars_get : (xs : List CType) → Each IsScalar xs → (i : ℕ) (type : CType) (s : Scalar) → slice_get xs i ≡ Some type → scalar_of type ≡ Some s → slice_get (scalars_of xs) i ≡ Some s
scalars_get [] h i type s e f = absurd (none-some type e)
scalars_get (x ∷ xs) h zero type s e f =
    subst (λ o. slice_get (cons_option o (scalars_of xs)) zero ≡ Some s) (sym (ap scalar_of (same_Some x type e) ∙ f)) refl
scalars_get (x ∷ xs) h (suc i) type s e f =
    subst (λ o. slice_get (cons_option o (scalars_of xs)) (suc i) ≡ Some s) (sym h.0.1) (scalars_get xs h.1 i type s e f)

-- the scope of a body covers the state at its end
body_covers : (core : Typed) (body : Body) (st : State) (first : ℕ) → Holds st → Declares core st.names.file → body.locals ≡ scalars_of (st.locals ++ st.results) → first ≡ length st.locals → Covers (scope_of core body) first st
body_covers core body st first holds declares e f =
    let all = each_append IsScalar st.locals st.results holds.scalars holds.others in
    record {
      locals_are = λ i type s g h. ap (λ xs. slice_get xs i) e ∙ scalars_get (st.locals ++ st.results) all i type s (get_append st.locals st.results i type g) h;
      results_are = λ i type s g h.
          ap (λ xs. slice_get xs (first + i)) e ∙ ap (λ n. slice_get (scalars_of (st.locals ++ st.results)) (n + i)) f
          ∙ scalars_get (st.locals ++ st.results) all (length st.locals + i) type s (get_right st.locals st.results i ∙ g) h;
      objects_are = declares.lists_objects;
      functions_are = declares.lists_functions;
    }

-- ---- bodies

-- what stands at the end of a body
module _ (scope : Scope) (result : CType) (close : ℕ) where
  at_end-typed : scope.returned ≡ scalar_of result → IsTyped scope (at_end result close)
  at_end-typed ret = by_test (is_void result) refl
    where
      by_test : (b : Bool) → is_void result ≡ b → IsTyped scope (if b then Return None else MissingReturn close)
      by_test true e = typing.give_back None (ret ∙ void_scalar result e)
      by_test false e = typing.missing_return close

at_end-ends : (result : CType) (close : ℕ) → (is_ended (at_end result close) ≡ true) × JumpsInside (at_end result close) false false × (loop_numbers (at_end result close) ≡ []) × (call_numbers (at_end result close) ≡ [])
at_end-ends result close = by_test (is_void result)
  where
    by_test : (b : Bool) → (is_ended (if b then Return None else MissingReturn close) ≡ true) × JumpsInside (if b then Return None else MissingReturn close) false false × (loop_numbers (if b then Return None else MissingReturn close) ≡ []) × (call_numbers (if b then Return None else MissingReturn close) ≡ [])
    by_test true = (refl, tt, refl, refl)
    by_test false = (refl, tt, refl, refl)

-- a body is typed in each typed core that lists what the file scope declares
abbrev IsFine : List (List ℕ × Meaning) → Body → Type 0
IsFine file body = ((core : Typed) → Declares core file → IsTypedBody core body) × IsBodied file body.name

-- no function of the file scope that has a body has the name
abbrev IsNew : List (List ℕ × Meaning) → List ℕ → Type 0
IsNew file name = (old : List ℕ) → IsBodied file old → old ≡ name → ⊥

-- from what is shown of its statements
body-fine : (name : Name) (signature : Signature) (close : ℕ) (action : Action) (st : State) (b : Bool) → Holds st → Begins signature.parameters st.locals → entry_of st.names.file name.spelling ≡ Some (Function signature b)
    → ((scope : Scope) → Covers scope (length st.locals) st → scope.returned ≡ scalar_of signature.result → Runs (λ (a : Action). JumpsInside a false false) scope 0 st.loops 0 st.calls action)
    → (core : Typed) → Declares core st.names.file → IsTypedBody core (body_of name signature close action st)
body-fine name signature close action st b holds begun e f core declares =
    let body : Body = body_of name signature close action st in
    let scope = scope_of core body in
    let good = f scope (body_covers core body st (length st.locals) holds declares refl refl) refl in
    let end = at_end-ends signature.result close in
    record {
      declared = declares.lists_functions name.spelling signature b e;
      begun = (scalars_of (begun.0 ++ st.results), ap (λ xs. scalars_of (xs ++ st.results)) begun.1 ∙ ap scalars_of (append_assoc signature.parameters begun.0 st.results) ∙ scalars_append signature.parameters (begun.0 ++ st.results));
      narrow = all_of (λ (s : Scalar). IsTrue (is_narrow s)) (scalars_of (st.locals ++ st.results))
          (scalars_of-narrow (st.locals ++ st.results) (each_more IsScalar Small (st.locals ++ st.results) (λ type is. is.2) (each_append IsScalar st.locals st.results holds.scalars holds.others)));
      typed = typing.sequence action (at_end signature.result close) good.typed (at_end-typed scope signature.result close refl);
      ended = end.0;
      inside = (good.jumps, end.1);
      numbered_loops = subst (λ list. Numbers 0 st.loops list) (sym (ap (λ t. loop_numbers action ++ t) end.2 ∙ append-nil (loop_numbers action))) good.loops_run;
      numbered_calls = subst (λ list. Numbers 0 st.calls list) (sym (ap (λ t. call_numbers action ++ t) end.3 ∙ append-nil (call_numbers action))) good.calls_run;
    }

-- ---- external declarations

-- what grows from one external declaration to the next: the file scope alone
pub record Goes (st later : State) : Type 0 where
  pub no_blocks : length later.names.blocks ≡ 0
  pub known : Known st.names.file later.names.file
  pub holds : Holds later

-- the state between external declarations
abbrev Outside : State → Type 0
Outside st = Holds st × (length st.names.blocks ≡ 0)

goes_then : (a b c : State) → Goes a b → Goes b c → Goes a c
goes_then a b c h k = record { no_blocks = k.no_blocks; known = known_then a.names.file b.names.file c.names.file h.known k.known; holds = k.holds }

goes_itself : (st : State) → Outside st → Goes st st
goes_itself st h = record { no_blocks = h.1; known = known_itself st.names.file; holds = h.0 }

goes_grows : (st later : State) → Outside st → Grows st later → Goes st later
goes_grows st later h grows = record { no_blocks = grows.depth ∙ h.1; known = grows.known; holds = grows.holds }

inside_opened : (st : State) → Inside (open_block st)
inside_opened st = omega arith

-- the function that is read next has no locals, loops and calls
begun-holds : (st : State) → Outside st → Holds (start_function (open_block st))
begun-holds st h = record { outer = h.0.outer; inner = (tt, none st.names.blocks h.1); scalars = tt; others = tt; file_tags = h.0.file_tags; block_tags = (tt, h.0.block_tags); small_structs = h.0.small_structs }
  where
    none : (blocks : List (List (List ℕ × Meaning))) → length blocks ≡ 0 → Each (AreInner []) blocks
    none [] e = tt
    none (block ∷ blocks) e = absurd (omega arith)

-- the state after a function's body
closed-goes : (st later : State) → Outside st → Known st.names.file later.names.file → length later.names.blocks ≡ suc (length st.names.blocks) → Holds later → Goes st (close_block later)
closed-goes st later h known depth holds =
    let parts = left later.locals (length st.names.blocks) later.names.blocks depth holds.inner in
    record { no_blocks = parts.0 ∙ h.1; known = known; holds = record { outer = holds.outer; inner = parts.1; scalars = holds.scalars; others = holds.others; file_tags = holds.file_tags; block_tags = tags_closed later.tags.blocks holds.block_tags; small_structs = holds.small_structs } }

declared_function-goes : (given : tree.FunctionDeclarator) (base : CType) (st : State) → IsCType base → Outside st → IfOk (declared_function given base st) (λ made. Goes st made.1)
unfolding declared_function
declared_function-goes given base st is h =
    if_bind (λ made. Goes st made.1 × Each Small made.0) (λ made. Goes st made.1) (block (parameters given.parameters false []) st) _
    (if_bind (NextParameters [] (open_block st)) (λ made. Goes st made.1 × Each Small made.0) (parameters given.parameters false [] (open_block st)) _
    (parameters-next given.parameters false [] (open_block st) tt (holds_opened st h.0) (inside_opened st))
    (λ made k. (closed-goes st made.1 h k.grows.known k.grows.depth k.grows.holds, k.smalls)))
    (λ types k. if_more (DeclaresFunction given.name (signature_of types.0 (pointers_to given.pointers base)) false types.1) (λ made. Goes st made.1) _
    (function-stays given.name (signature_of types.0 (pointers_to given.pointers base)) false types.1 k.1 (pointers_to-is None given.pointers base is) k.0.holds)
    (λ made l. goes_then st types.1 made.1 k.0 (goes_grows types.1 made.1 (k.0.holds, k.0.no_blocks) l.stays.grows)))

-- what a definition gives, after its parameters, its name and its statements
finished : (st : State) (given : tree.FunctionDeclarator) (result : CType) (body : tree.Parts) (close : ℕ) (types : List CType × State) (declared : Unit {0} × State) (made : Action × State) → Outside st
    → NextParameters [] (start_function (open_block st)) types → DeclaresFunction given.name (signature_of types.0 result) true types.1 declared
    → StepsTo (length types.0 + locals_of body) (Going (context_of (signature_of types.0 result) body) 0 0 []) (Finished (context_of (signature_of types.0 result) body) 0 0) (locals_of body) declared.1 made
    → Goes st (close_block made.1) × IsFine made.1.names.file (body_of given.name (signature_of types.0 result) close made.0 made.1) × IsNew st.names.file given.name.spelling
finished st given result body close types declared made h k l m =
    let signature = signature_of types.0 result in
    let context = context_of signature body in
    let whole = grows_then (start_function (open_block st)) declared.1 made.1 (grows_then (start_function (open_block st)) types.1 declared.1 k.grows l.stays.grows) m.0 in
    let same : declared.1.locals ≡ types.0 = l.stays.same_locals ∙ k.added.2 ∙ sym k.added.1 in
    let entry = m.0.known.functions given.name.spelling signature l.entry.0 l.entry.1 in
    let count : length made.1.locals ≡ length types.0 + locals_of body = m.1 ∙ ap (λ xs. length xs + locals_of body) same in (
      closed-goes st made.1 h whole.known whole.depth whole.holds,
      (
        body-fine given.name signature close made.0 made.1 entry.0 whole.holds (m.0.more_locals.0, m.0.more_locals.1 ∙ ap (λ xs. xs ++ m.0.more_locals.0) same) entry.1
            (λ scope covers ret.
            (m.2 scope (subst (λ n. Covers scope n made.1) count covers)
            ((ret, l.small.small_result), good_skip context 0 0 scope declared.1.loops declared.1.calls (sym (l.stays.same_loops ∙ k.loops_same), sym (l.stays.same_calls ∙ k.calls_same), (ret, l.small.small_result)))).1),
        (signature, entry.1 ∙ ap (λ b. Some (Function signature b)) (entry.2 (l.entry.2 refl))),
      ),
      λ old bodied is. unbodied (entry_of types.1.names.file given.name.spelling) (l.is_first refl) (bodied_as types.1.names.file old given.name.spelling is (bodied_later st.names.file types.1.names.file old k.grows.known bodied)),
    )
  where
    bodied_as : (file : List (List ℕ × Meaning)) (old name : List ℕ) → old ≡ name → IsBodied file old → (s : Signature) × (entry_of file name ≡ Some (Function s true))
    bodied_as file old name e h = subst (λ n. IsBodied file n) e h

    unbodied : (o : Option Meaning) → had_body o ≡ false → (s : Signature) × (o ≡ Some (Function s true)) → ⊥
    unbodied o e h = true≢false (sym (subst (λ x. had_body x ≡ true) (sym h.1) refl) ∙ e)

-- the globals that the body is to name don't count
begun-declares : (name : Name) (signature : Signature) (has_body : Bool) (st : State) (made : Unit {0} × State) → DeclaresFunction name signature has_body st made
    → DeclaresFunction name signature has_body st (made.0, start_body made.1)
begun-declares name signature has_body st made h =
    record { stays = stays_then st made.1 (start_body made.1) h.stays (stays_mentions made.1 [] h.stays.grows.holds); entry = h.entry; small = h.small; is_first = h.is_first }

defined_function-goes : (given : tree.FunctionDeclarator) (base : CType) (body : tree.Parts) (close : ℕ) (st : State) → IsCType base → Outside st → IfOk (defined_function given base body close st) (λ made. Goes st made.1 × IsFine made.1.names.file made.0 × IsNew st.names.file made.0.name)
unfolding defined_function
defined_function-goes given base body close st is h =
    let begun = start_function (open_block st) in
    let result = pointers_to given.pointers base in
    let closing : Body × State → Type 0 = λ made. Goes st (close_block made.1) × IsFine made.1.names.file made.0 × IsNew st.names.file made.0.name in
    if_bind closing (λ made. Goes st made.1 × IsFine made.1.names.file made.0 × IsNew st.names.file made.0.name) _ (λ made. Ok (made.0, close_block made.1))
    (if_bind (NextParameters [] begun) closing (parameters given.parameters true [] begun) _ (parameters-next given.parameters true [] begun tt (begun-holds st h) (inside_opened st))
    (λ types k.
    let signature = signature_of types.0 result in
    if_bind (DeclaresFunction given.name signature true types.1) closing (function given.name signature true types.1) _ (function-stays given.name signature true types.1 k.smalls (pointers_to-is None given.pointers base is) k.grows.holds)
    (λ first is_first.
    let declared : Unit {0} × State = (first.0, start_body first.1) in
    let l = begun-declares given.name signature true types.1 first is_first in
    if_bind (StepsTo (length types.0 + locals_of body) (Going (context_of signature body) 0 0 []) (Finished (context_of signature body) 0 0) (locals_of body) declared.1) closing (parts body (context_of signature body) [] declared.1) _
    ((parts-steps body (context_of signature body) 0 0 []).from declared.1 l.stays.grows.holds (inside_later types.1 declared.1 l.stays.grows (inside_later begun types.1 k.grows (inside_opened st))))
    (λ made m. finished st given result body close types declared made h k l m))))
    (λ made k. k)

declared_object-goes : (given : Declarator) (base : CType) (is : Bool) (st : State) → IsCType base → Outside st → IfOk (declared_object given base is st) (λ made. Goes st made.1)
unfolding declared_object
declared_object-goes given base is st known h =
    if_bind (MakesTo IsCType st) (λ made. Goes st made.1) (declarator given base st) _ ((declarator-makes None given base known).makes st h.0)
    (λ type k.
    let now = goes_grows st type.1 h k.0.grows in
    let after : (made : Unit {0} × State) → Stays type.1 made.1 → Goes st made.1 = λ made l. goes_then st type.1 made.1 now (goes_grows type.1 made.1 (now.holds, now.no_blocks) l.grows) in
    by_test is type (if_more (λ made. Stays type.1 made.1) (λ made. Goes st made.1) _ (typedef-stays (declared_name given) type.0 type.1 k.1 now.holds) after)
    (if_more (λ made. Stays type.1 made.1) (λ made. Goes st made.1) _ (object-stays (declared_name given) type.0 type.1 k.1 now.holds) after))
  where
    by_test : (b : Bool) (type : CType × State) → IfOk (typedef (declared_name given) type.0 type.1) (λ made. Goes st made.1) → IfOk (object (declared_name given) type.0 type.1) (λ made. Goes st made.1)
        → IfOk ((if b then typedef (declared_name given) type.0 else object (declared_name given) type.0) type.1) (λ made. Goes st made.1)
    by_test true type k l = k
    by_test false type k l = l

global-goes : (x : tree.Global) (base : CType) (is : Bool) (st : State) → IsCType base → Outside st → IfOk (global x base is st) (λ made. Goes st made.1)
unfolding global
global-goes (tree.Object given) base is st known h = declared_object-goes given base is st known h
global-goes (tree.Function given) base is st known h = declared_function-goes given base st known h

globals-goes : (list : List tree.Global) (base : CType) (is : Bool) (st : State) → IsCType base → Outside st → IfOk (globals list base is st) (λ made. Goes st made.1)
unfolding globals
globals-goes [] base is st known h = goes_itself st h
globals-goes (first ∷ rest) base is st known h =
    if_bind (λ made. Goes st made.1) (λ made. Goes st made.1) (global first base is st) _ (global-goes first base is st known h)
    (λ made k. if_more (λ end. Goes made.1 end.1) (λ end. Goes st end.1) (globals rest base is made.1) (globals-goes rest base is made.1 known (k.holds, k.no_blocks)) (λ end l. goes_then st made.1 end.1 k l))

-- bodies stay fine
fine_later : (before after : List (List ℕ × Meaning)) (bodies : List Body) → Known before after → Each (IsFine before) bodies → Each (IsFine after) bodies
fine_later before after bodies known h =
    each_more (IsFine before) (IsFine after) bodies (λ body k. (λ core declares. k.0 core (declares_before core before after known declares), bodied_later before after body.name known k.1)) h

-- no two bodies have one name
abbrev Apart : List Body → Type 0
Apart [] = Unit {0}
Apart (x ∷ xs) = Each (λ (y : Body). x.name ≡ y.name → ⊥) xs × Apart xs

apart_more : (xs : List Body) (new : Body) → Each (λ (x : Body). x.name ≡ new.name → ⊥) xs → Apart xs → Apart (xs ++ new ∷ [])
apart_more [] new h k = (tt, tt)
apart_more (x ∷ xs) new h k = (each_append (λ (y : Body). x.name ≡ y.name → ⊥) xs (new ∷ []) k.0 (h.0, tt), apart_more xs new h.1 k.1)

apart_one : (xs : List Body) → Apart xs → (i j : ℕ) (a b : Body) → slice_get xs i ≡ Some a → slice_get xs j ≡ Some b → a.name ≡ b.name → i ≡ j
apart_one [] h i j a b e f same = absurd (none-some a e)
apart_one (x ∷ xs) h zero zero a b e f same = refl
apart_one (x ∷ xs) h zero (suc j) a b e f same =
    absurd (each_get (λ (y : Body). x.name ≡ y.name → ⊥) xs j b h.0 f (ap (λ (y : Body). y.name) (same_Some x a e) ∙ same))
apart_one (x ∷ xs) h (suc i) zero a b e f same =
    absurd (each_get (λ (y : Body). x.name ≡ y.name → ⊥) xs i a h.0 e (ap (λ (y : Body). y.name) (same_Some x b f) ∙ sym same))
apart_one (x ∷ xs) h (suc i) (suc j) a b e f same = ap suc (apart_one xs h.1 i j a b e f same)

abbrev AreFine : List (List ℕ × Meaning) → List Body → Type 0
AreFine file bodies = Each (IsFine file) bodies × Apart bodies

abbrev GoesOn : State → List Body × State → Type 0
GoesOn st made = Goes st made.1 × AreFine made.1.names.file made.0

external_declaration-goes : (x : tree.ExternalDeclaration) (done : List Body) (st : State) → Outside st → AreFine st.names.file done → IfOk (external_declaration x done st) (GoesOn st)
unfolding external_declaration
external_declaration-goes tree.EmptyDeclaration done st h fine = (goes_itself st h, fine)
external_declaration-goes (tree.Declaration words list) done st h fine =
    if_bind (MakesTo IsCType st) (GoesOn st) (specifiers words st) _ ((specifiers-makes None words).makes st h.0)
    (λ base k. let now = goes_grows st base.1 h k.0.grows in
    if_bind (λ made. Goes base.1 made.1) (GoesOn st) (globals list base.0 (is_typedef words) base.1) _ (globals-goes list base.0 (is_typedef words) base.1 k.1 (now.holds, now.no_blocks))
    (λ made l. let both = goes_then st base.1 made.1 now l in (both, (fine_later st.names.file made.1.names.file done both.known fine.0, fine.1))))
external_declaration-goes (tree.Definition words given body close) done st h fine =
    if_bind (MakesTo IsCType st) (GoesOn st) (specifiers words st) _ ((specifiers-makes None words).makes st h.0)
    (λ base k. let now = goes_grows st base.1 h k.0.grows in
    if_bind (λ made. Goes base.1 made.1 × IsFine made.1.names.file made.0 × IsNew base.1.names.file made.0.name) (GoesOn st) (defined_function given base.0 body close base.1) _ (defined_function-goes given base.0 body close base.1 k.1 (now.holds, now.no_blocks))
    (λ made l. let both = goes_then st base.1 made.1 now l.0 in
    let new = each_more (IsFine st.names.file) (λ (x : Body). x.name ≡ made.0.name → ⊥) done (λ body k. l.2 body.name (bodied_later st.names.file base.1.names.file body.name now.known k.1)) fine.0 in
    (both, (each_append (IsFine made.1.names.file) done (made.0 ∷ []) (fine_later st.names.file made.1.names.file done both.known fine.0) (l.1, tt), apart_more done made.0 new fine.1))))

external_declarations-goes : (unit : tree.TranslationUnit) (done : List Body) (st : State) → Outside st → AreFine st.names.file done → IfOk (external_declarations unit done st) (GoesOn st)
unfolding external_declarations
external_declarations-goes [] done st h fine = (goes_itself st h, fine)
external_declarations-goes (first ∷ rest) done st h fine =
    if_bind (GoesOn st) (GoesOn st) (external_declaration first done st) _ (external_declaration-goes first done st h fine)
    (λ made k. if_more (GoesOn made.1) (GoesOn st) (external_declarations rest made.0 made.1) (external_declarations-goes rest made.0 made.1 (k.0.holds, k.0.no_blocks) k.1)
    (λ end l. (goes_then st made.1 end.1 k.0 l.0, l.1)))

-- ---- units

start-outside : Outside start
start-outside = (record { outer = tt; inner = tt; scalars = tt; others = tt; file_tags = tt; block_tags = tt; small_structs = tt }, refl)

-- the next body has a name of its own
pub new_body : (unit : tree.TranslationUnit) (done : List Body) (st : State) → external_declarations unit [] start ≡ Ok (done, st)
    → (words : Specifiers) (base : CType) (here : State) → specifiers words st ≡ Ok (base, here)
    → (given : tree.FunctionDeclarator) (body : tree.Parts) (close : ℕ) (made : Body) (after : State) → defined_function given base body close here ≡ Ok (made, after)
    → Each (λ (x : Body). x.name ≡ made.name → ⊥) done
new_body unit done st reached words base here e given body close made after f =
    let k = subst (λ r. IfOk r (GoesOn start)) reached (external_declarations-goes unit [] start start-outside (tt, tt)) in
    let outside : Outside st = (k.0.holds, k.0.no_blocks) in
    let m = subst (λ r. IfOk r (MakesTo IsCType st)) e ((specifiers-makes None words).makes st k.0.holds) in
    let now = goes_grows st here outside m.0.grows in
    let l = subst (λ r. IfOk r (λ made. Goes here made.1 × IsFine made.1.names.file made.0 × IsNew here.names.file made.0.name)) f (defined_function-goes given base body close here m.1 (now.holds, now.no_blocks)) in
    each_more (IsFine st.names.file) (λ (x : Body). x.name ≡ made.name → ⊥) done (λ x fine. l.2 x.name (bodied_later st.names.file here.names.file x.name now.known fine.1)) k.1.0

typed_core-declares : (made : List Body × State) → Declares (typed_core made) made.1.names.file
typed_core-declares made = record { lists_objects = globals_in-found made.1.structs made.1.names.file; lists_functions = functions_in-found made.1.names.file }

typed-if : (unit : tree.TranslationUnit) → IfOk (typed unit) IsTypedUnit
unfolding typed
typed-if unit =
    if_bind (GoesOn start) IsTypedUnit (external_declarations unit [] start) _ (external_declarations-goes unit [] start start-outside (tt, tt))
    (λ made k. record {
      callable = functions_in-callable made.1.names.file k.0.holds.outer;
      bodies_typed = all_of (IsTypedBody (typed_core made)) made.0
          (each_more (IsFine made.1.names.file) (IsTypedBody (typed_core made)) made.0 (λ body f. f.0 (typed_core made) (typed_core-declares made)) k.1.0);
      one_body = apart_one made.0 k.1.1;
    })

pub typed-IsTypedUnit : (unit : tree.TranslationUnit) (core : Typed) → typed unit ≡ Ok core → IsTypedUnit core
typed-IsTypedUnit unit core e = subst (λ r. IfOk r IsTypedUnit) e (typed-if unit)
