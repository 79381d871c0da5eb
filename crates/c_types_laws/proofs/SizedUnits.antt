-- The sizes in the typed core of each unit are below the limit.
use Rattle.std.proofs.Common.{◌≡◌, ℕ, ◌||◌, Bool, true, false, List, [], ◌∷◌, ◌++◌, Option, Some, None, IfSome, IfOk, Result, Ok, Err, is_none, unwrap_or, if◌then◌else◌, refl, sym, subst}
use Rattle.std.proofs.lemmas.Bool.{or_parts}
use Rattle.c_syntax_spec.specs.Expression.{Name, Declarator}
use Rattle.c_syntax_spec.specs.Unit as tree
use Rattle.c_types_spec.specs.Types.{CType, Array, Structs, same_type, is_void, too_large, lacks_element}
use Rattle.c_types_spec.specs.Core.{Action, Return, MissingReturn, Body, Typed}
use Rattle.c_types_spec.specs.Names.{Signature, Meaning, Object, Function, Typedef, State, Fault, start, bind, change, start_function, start_body}
use Rattle.c_types_spec.specs.Declarations.{in_file, declare_in_file, typedef_faults, typedef, composite, object_type, object_faults, object, had_body, function_faults, function}
use Rattle.c_types_spec.specs.Expressions.{declared_name, pointers_to, array_of}
use Rattle.c_types_spec.specs.Units.{declared_parameter, parameters, signature_of, declared_function, at_end, body_of, context_of, defined_function, is_typedef, declared_object, global, globals, external_declaration, external_declarations, typed_core, typed}
use Rattle.c_graph_spec.specs.Sizes.{ActionSizes, UnitSizes}
use Rattle.c_types_laws.proofs.Scopes.{Each, each_append, each_put, entry_of-each}
use Rattle.c_types_laws.proofs.Types.{same_type-true}
use Rattle.c_types_laws.proofs.Readings.{Any}
use Rattle.c_types_laws.proofs.Files.{all_of}
use Rattle.c_types_laws.proofs.Sized.{IsSized, IsDeclared, sized_checked, kept_itself, agrees_itself}
use Rattle.c_types_laws.proofs.Parts.{IsFineMeaning, Sound, Gives, GivesTo, gives_state, gives_give, gives_check, gives_then, gives_after, gives_given, gives_from, gives_block, gives_start_body}
use Rattle.c_types_laws.proofs.SizedExpressions.{specifiers-gives, declarator-gives, lengths-gives, pointers_to-sized, array_of-declared}
use Rattle.c_types_laws.proofs.SizedStatements.{gives_if, parameter-gives, parts-gives}

-- the type of an object after one more declaration
if_same : (whole : Structs) (test : Bool) (type : CType) → (test ≡ true → IsSized whole type) → IfSome (if test then Some type else None) (IsSized whole)
if_same whole true type f = f refl
if_same whole false type f = tt

composite-sized : (whole : Structs) (old type : CType) → IsSized whole old → IsSized whole type → IfSome (composite old type) (IsSized whole)
composite-sized whole (Array None element) (Array length other) h k =
    if_same whole (same_type element other) (Array length element) (λ e. subst (λ t. IsSized whole (Array length t)) (sym (same_type-true element other e)) k)
composite-sized whole (Array (Some length) element) (Array None other) h k = if_same whole (same_type element other) (Array (Some length) element) (λ e. h)
composite-sized whole old type h k = if_same whole (same_type old type) old (λ e. h)

or_else : (whole : Structs) (o : Option CType) (type : CType) → IfSome o (IsSized whole) → IsSized whole type → IsSized whole (unwrap_or o type)
or_else whole None type h k = k
or_else whole (Some x) type h k = h

object-sized : (whole : Structs) (o : Option Meaning) (type : CType) → IfSome o (IsFineMeaning whole) → IsSized whole type → IsSized whole (unwrap_or (object_type o type) type)
object-sized whole None type h k = k
object-sized whole (Some (Object old)) type h k = or_else whole (composite old type) type (composite-sized whole old type h k) k
object-sized whole (Some other) type h k = k

at_end-sizes : (result : CType) (close : ℕ) → ActionSizes (at_end result close)
at_end-sizes result close = by_test (is_void result)
  where
    by_test : (b : Bool) → ActionSizes (if b then Return None else MissingReturn close)
    by_test true = tt
    by_test false = tt

abbrev BodySizes : Body → Type 0
BodySizes body = ActionSizes body.action

module _ (whole : Structs) where
  declare_in_file-gives : (H : Type 0) (name : Name) (m : Meaning) → (H → IsFineMeaning whole m) → Gives whole H Any (declare_in_file name m)
  declare_in_file-gives H name m f = record {
    from = λ st. (
      kept_itself st.structs,
      λ agrees sound h.
          (record { file_names = each_put (IsFineMeaning whole) name.spelling m st.names.file (f h) sound.file_names; block_names = sound.block_names; file_tags = sound.file_tags; block_tags = sound.block_tags; fine = sound.fine }, tt),
    );
  }

  typedef-gives : (name : Name) (type : CType) → Gives whole (IsDeclared whole type) Any (typedef name type)
  unfolding typedef
  typedef-gives name type =
      gives_check _ Any name.offset (typedef_faults name type) (declare_in_file name (Typedef type))
      (λ st none. declare_in_file-gives _ name (Typedef type) (λ l. sized_checked whole st.structs type l.1 l.2.fine l.0 none.1.0 none.1.1.0))

  object-gives : (name : Name) (type : CType) → Gives whole (IsDeclared whole type) Any (object name type)
  unfolding object
  object-gives name type =
      gives_check _ Any name.offset (object_faults name type) _
      (λ st none. gives_state _ Any (λ now. declare_in_file name (Object (unwrap_or (object_type (in_file now name) type) type)))
      (λ now. declare_in_file-gives _ name _
      (λ l. object-sized whole (in_file now name) type (entry_of-each (IsFineMeaning whole) now.names.file name.spelling l.1.file_names)
      (sized_checked whole st.structs type l.0.1 l.0.2.fine l.0.0 (or_parts (too_large st.structs type) (is_none (object_type (in_file st name) type)) none.1.0).0 (or_parts (lacks_element st.structs type) (is_void type) none.1.1.0).0))))

  function-gives : (name : Name) (signature : Signature) (has_body : Bool) → Gives whole (IsSized whole signature.result) Any (function name signature has_body)
  unfolding function
  function-gives name signature has_body =
      gives_check _ Any name.offset (function_faults name signature has_body) _
      (λ st none. gives_state _ Any (λ now. declare_in_file name (Function signature (has_body || had_body (in_file now name)))) (λ now. declare_in_file-gives _ name _ (λ l. l.0.0)))

  declared_parameter-gives : (given : tree.Parameter) (has_body : Bool) → Gives whole (Unit {0}) Any (declared_parameter given has_body)
  unfolding declared_parameter
  declared_parameter-gives given has_body =
      gives_then (specifiers-gives whole given.specifiers) (λ base. gives_then (gives_from (λ l. tt) (lengths-gives whole given.lengths []))
      (λ found. gives_from (λ l. array_of-declared whole given.is_open found (pointers_to given.pointers base) l.1 (pointers_to-sized whole given.pointers base l.0.1)) (parameter-gives whole given.name (array_of given.is_open found (pointers_to given.pointers base)) has_body _)))

  parameters-gives : (list : List tree.Parameter) (has_body : Bool) (done : List CType) → Gives whole (Unit {0}) Any (parameters list has_body done)
  unfolding parameters
  parameters-gives [] has_body done = gives_give _ Any done (λ l. tt)
  parameters-gives (first ∷ rest) has_body done = gives_then (declared_parameter-gives first has_body) (λ type. gives_given (parameters-gives rest has_body (done ++ type ∷ [])))

  declared_function-gives : (given : tree.FunctionDeclarator) (base : CType) → Gives whole (IsSized whole base) Any (declared_function given base)
  unfolding declared_function
  declared_function-gives given base =
      gives_then (gives_block (gives_given (parameters-gives given.parameters false [])))
      (λ types. gives_from (λ l. pointers_to-sized whole given.pointers base l.0) (function-gives given.name (signature_of types (pointers_to given.pointers base)) false))

  start_function-gives : (H : Type 0) → Gives whole H Any (change start_function)
  start_function-gives H = record {
    from = λ st. (kept_itself st.structs, λ agrees sound h. (record { file_names = sound.file_names; block_names = sound.block_names; file_tags = sound.file_tags; block_tags = sound.block_tags; fine = sound.fine }, tt));
  }

  body-gives : (H : Type 0) (name : Name) (signature : Signature) (close : ℕ) (action : Action) → (H → ActionSizes action) → Gives whole H BodySizes (λ st. Ok (body_of name signature close action st, st))
  body-gives H name signature close action f = record { from = λ st. (kept_itself st.structs, λ agrees sound h. (sound, (f h, at_end-sizes signature.result close))) }

  defined_function-gives : (given : tree.FunctionDeclarator) (base : CType) (body : tree.Parts) (close : ℕ) → Gives whole (IsSized whole base) BodySizes (defined_function given base body close)
  unfolding defined_function
  defined_function-gives given base body close =
      gives_block (gives_after (start_function-gives _) (gives_then (gives_given (parameters-gives given.parameters true []))
      (λ types. gives_after (gives_from (λ l. pointers_to-sized whole given.pointers base l.0) (function-gives given.name (signature_of types (pointers_to given.pointers base)) true))
      (gives_after (gives_start_body _) (gives_then (gives_from (λ l. tt) (parts-gives whole body (context_of (signature_of types (pointers_to given.pointers base)) body) []))
      (λ action. body-gives _ given.name (signature_of types (pointers_to given.pointers base)) close action (λ l. l.1)))))))

  -- ---- external declarations

  declared_object-gives : (given : Declarator) (base : CType) (is : Bool) → Gives whole (IsSized whole base) Any (declared_object given base is)
  unfolding declared_object
  declared_object-gives given base is =
      gives_then (declarator-gives whole given base) (λ type. gives_if is _ _ (gives_from (λ l. l.1) (typedef-gives (declared_name given) type)) (gives_from (λ l. l.1) (object-gives (declared_name given) type)))

  global-gives : (x : tree.Global) (base : CType) (is : Bool) → Gives whole (IsSized whole base) Any (global x base is)
  unfolding global
  global-gives (tree.Object given) base is = declared_object-gives given base is
  global-gives (tree.Function given) base is = declared_function-gives given base

  globals-gives : (list : List tree.Global) (base : CType) (is : Bool) → Gives whole (IsSized whole base) Any (globals list base is)
  unfolding globals
  globals-gives [] base is = gives_give _ Any _ (λ l. tt)
  globals-gives (first ∷ rest) base is = gives_after (global-gives first base is) (globals-gives rest base is)

  external_declaration-gives : (x : tree.ExternalDeclaration) (done : List Body) → Gives whole (Each BodySizes done) (Each BodySizes) (external_declaration x done)
  unfolding external_declaration
  external_declaration-gives tree.EmptyDeclaration done = gives_give _ (Each BodySizes) done (λ l. l)
  external_declaration-gives (tree.Declaration words list) done =
      gives_then (gives_given (specifiers-gives whole words)) (λ base. gives_after (gives_from (λ l. l.1) (globals-gives list base (is_typedef words))) (gives_give _ (Each BodySizes) done (λ l. l.0)))
  external_declaration-gives (tree.Definition words given body close) done =
      gives_then (gives_given (specifiers-gives whole words)) (λ base. gives_then (gives_from (λ l. l.1) (defined_function-gives given base body close))
      (λ made. gives_give _ (Each BodySizes) (done ++ made ∷ []) (λ l. each_append BodySizes done (made ∷ []) l.0.0 (l.1, tt))))

  external_declarations-gives : (unit : tree.TranslationUnit) (done : List Body) → Gives whole (Each BodySizes done) (Each BodySizes) (external_declarations unit done)
  unfolding external_declarations
  external_declarations-gives [] done = gives_give _ (Each BodySizes) done (λ l. l)
  external_declarations-gives (first ∷ rest) done = gives_then (external_declaration-gives first done) (λ more. gives_from (λ l. l.1) (external_declarations-gives rest more))

-- ---- units

start-sound : (whole : Structs) → Sound whole start
start-sound whole = record { file_names = tt; block_names = tt; file_tags = tt; block_tags = tt; fine = tt }

typed-sizes_if : (unit : tree.TranslationUnit) → IfOk (typed unit) UnitSizes
unfolding typed
typed-sizes_if unit = by_result (external_declarations unit [] start) (λ whole. (external_declarations-gives whole unit []).from start)
  where
    by_result : (r : Result (List Body × State) Fault) → ((whole : Structs) → IfOk r (GivesTo whole (Unit {0}) (Each (BodySizes)) start)) → IfOk (bind r (λ made. Ok (typed_core made))) UnitSizes
    by_result (Ok made) f =
        let whole = made.1.structs in
        all_of (λ (body : Body). ActionSizes body.action) made.0 ((f whole).1 (agrees_itself whole) (start-sound whole) tt).1
    by_result (Err e) f = tt

pub typed-sizes : (unit : tree.TranslationUnit) (core : Typed) → typed unit ≡ Ok core → UnitSizes core
typed-sizes unit core e = subst (λ r. IfOk r UnitSizes) e (typed-sizes_if unit)
