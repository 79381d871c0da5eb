-- Declarations in the file scope: what is known of it stays known, and it gives the lists of a typed core.
use Rattle.std.proofs.Common.{◌&&◌, ◌≤◌, All, IsTrue, IfSome, ltb-false, ◌≡◌, ℕ, suc, ◌<◌, ◌||◌, not, Bool, true, false, List, [], ◌∷◌, length, Contains, Option, Some, None, IfOk, is_some, is_none, bytes_eq, refl, sym, ap, subst, ◌∙◌, arith}
use Rattle.std.specs.Prelude.{unwrap_or}
use Rattle.std.proofs.lemmas.Bool.{or_parts, or_left, or_right, not-false}
use Rattle.std.proofs.lemmas.Option.{none-some, same_Some}
use Rattle.c_token_spec.specs.Words.{entry_of}
use Rattle.c_syntax_spec.specs.Expression.{Name}
use Rattle.c_types_spec.specs.Types.{CType, Structs, is_array, too_large}
use Rattle.c_types_spec.specs.Core.{FunctionType, GlobalSize, Global, Typed}
use Rattle.c_types_spec.specs.Names.{Signature, Meaning, Local, Object, Function, Typedef, Enumerator, Hidden, put, State}
use Rattle.c_types_spec.specs.Declarations.{in_file, declare_in_file, typedef_faults, typedef, object_type, object_faults, object, same_signature, differs, is_once, had_body, function_faults, function, words_of}
use Rattle.c_types_spec.specs.Units.{function_type, scalars_of, functions_in, global_size, globals_in}
use Rattle.c_types_spec.specs.HasType.{is_narrow, IsCallable}
use Rattle.c_types_spec.specs.declared.Scalar.{Scalar}
use Rattle.c_types_spec.specs.declared.TheConstants.{ARGUMENT_WORDS}
use Rattle.std.proofs.lemmas.List.Elements.{All-nil, All-cons}
use Rattle.c_types_laws.proofs.Types.{same_signature-true, IsCType, Small, small_if, object_type-small, scalar_of-narrow, scalars_of-narrow, scalars_of-few}
use Rattle.c_types_laws.proofs.Scopes.{Each, entry_of-each, each_put, put_same, put_other, bytes_eq-same, entry_of-first, entry_of-later}
use Rattle.c_types_laws.proofs.States.{Holds, IsOuter, AreOuter, IsSmallSignature, Known, begins_itself, Stays}
use Rattle.c_types_laws.proofs.Readings.{if_check}

-- a name of the file scope may be declared again as what it is
known_put : (file : List (List ℕ × Meaning)) (name : List ℕ) (m : Meaning) → ((type : CType) → entry_of file name ≡ Some (Object type) → (now : CType) × (m ≡ Object now))
    → ((s : Signature) (b : Bool) → entry_of file name ≡ Some (Function s b) → (now : Bool) × (m ≡ Function s now) × (b ≡ true → now ≡ true)) → Known file (put name m file)
known_put file name m f g = record {
  objects = λ other type e. object-by other type e (bytes_eq name other) refl;
  functions = λ other s b e. function-by other s b e (bytes_eq name other) refl;
}
  where
    here : (other : List ℕ) → bytes_eq name other ≡ true → entry_of (put name m file) other ≡ Some m
    here other same = subst (λ n. entry_of (put name m file) n ≡ Some m) (bytes_eq-same name other same) (put_same name m file)

    object-by : (other : List ℕ) (type : CType) → entry_of file other ≡ Some (Object type) → (t : Bool) → bytes_eq name other ≡ t → (now : CType) × (entry_of (put name m file) other ≡ Some (Object now))
    object-by other type e true same =
        let is = f type (subst (λ n. entry_of file n ≡ Some (Object type)) (sym (bytes_eq-same name other same)) e) in
        (is.0, here other same ∙ ap Some is.1)
    object-by other type e false differ = (type, put_other name other m file differ ∙ e)

    function-by : (other : List ℕ) (s : Signature) (b : Bool) → entry_of file other ≡ Some (Function s b) → (t : Bool) → bytes_eq name other ≡ t → (now : Bool) × (entry_of (put name m file) other ≡ Some (Function s now)) × (b ≡ true → now ≡ true)
    function-by other s b e true same =
        let is = g s b (subst (λ n. entry_of file n ≡ Some (Function s b)) (sym (bytes_eq-same name other same)) e) in
        (is.0, here other same ∙ ap Some is.1, is.2)
    function-by other s b e false differ = (b, put_other name other m file differ ∙ e, λ h. h)

stays_put : (st : State) (name : List ℕ) (m : Meaning) → Holds st → IsOuter m → Known st.names.file (put name m st.names.file)
    → Stays st (record st { names = record { file = put name m st.names.file; blocks = st.names.blocks } })
stays_put st name m holds is known = record {
  grows = record {
    more_locals = begins_itself st.locals;
    more_results = begins_itself st.results;
    depth = refl;
    known = known;
    holds = record { outer = each_put IsOuter name m st.names.file is holds.outer; inner = holds.inner; scalars = holds.scalars; others = holds.others; file_tags = holds.file_tags; block_tags = holds.block_tags; small_structs = holds.small_structs };
  };
  same_locals = refl;
  same_results = refl;
  same_loops = refl;
  same_calls = refl;
}

-- ---- declarations

pub typedef-stays : (name : Name) (type : CType) (st : State) → IsCType type → Holds st → IfOk (typedef name type st) (λ made. Stays st made.1)
unfolding typedef
typedef-stays name type st is holds =
    if_check (λ made. Stays st made.1) name.offset (typedef_faults name type) (declare_in_file name (Typedef type)) st
    (λ none. stays_put st name.spelling (Typedef type) holds is (known_put st.names.file name.spelling (Typedef type)
    (λ t e. absurd (some-new (in_file st name) (Object t) none.0 e)) (λ s b e. absurd (some-new (in_file st name) (Function s b) none.0 e))))
  where
    some-new : (o : Option Meaning) (m : Meaning) → is_some o ≡ false → o ≡ Some m → ⊥
    some-new None m e f = none-some m f
    some-new (Some x) m e f = cc

object_type-function : (o : Option Meaning) (type : CType) (s : Signature) (b : Bool) → is_none (object_type o type) ≡ false → o ≡ Some (Function s b) → ⊥
object_type-function o type s b e f = let g : is_none (object_type (Some (Function s b)) type) ≡ false = subst (λ x. is_none (object_type x type) ≡ false) f e in cc

object_small : (o : Option Meaning) (old : CType) → IfSome o IsOuter → o ≡ Some (Object old) → Small old
object_small o old h e = subst (λ x. IfSome x IsOuter) e h

pub object-stays : (name : Name) (type : CType) (st : State) → IsCType type → Holds st → IfOk (object name type st) (λ made. Stays st made.1)
unfolding object
object-stays name type st is holds =
    if_check (λ made. Stays st made.1) name.offset (object_faults name type) _ st
    (λ none. let fits = (or_parts (too_large st.structs type) (is_none (object_type (in_file st name) type)) none.1.0).1 in
    let now : Meaning = Object (unwrap_or (object_type (in_file st name) type) type) in
    let small : Small (unwrap_or (object_type (in_file st name) type) type) = object_type-small (in_file st name) type (λ old e. object_small (in_file st name) old (entry_of-each IsOuter st.names.file name.spelling holds.outer) e) (small_if type is none.1.1.1.0) in
    stays_put st name.spelling now holds small (known_put st.names.file name.spelling now (λ t e. (unwrap_or (object_type (in_file st name) type) type, refl)) (λ s b e. absurd (object_type-function (in_file st name) type s b fits e))))

differs-object : (o : Option Meaning) (signature : Signature) (t : CType) → differs o signature ≡ false → o ≡ Some (Object t) → ⊥
differs-object o signature t e f = let g : differs (Some (Object t)) signature ≡ false = subst (λ x. differs x signature ≡ false) f e in cc

differs-function : (o : Option Meaning) (signature s : Signature) (b : Bool) → differs o signature ≡ false → o ≡ Some (Function s b) → s ≡ signature
differs-function o signature s b e f =
    let g : not (same_signature s signature) ≡ false = subst (λ x. differs x signature ≡ false) f e in
    same_signature-true s signature (not-false (same_signature s signature) g)

-- the function is declared with the type; with a body, where it had none
pub record DeclaresFunction (name : Name) (signature : Signature) (has_body : Bool) (st : State) (made : Unit {0} × State) : Type 0 where
  pub stays : Stays st made.1
  pub entry : (b : Bool) × (entry_of made.1.names.file name.spelling ≡ Some (Function signature b)) × (has_body ≡ true → b ≡ true)
  pub small : IsSmallSignature signature
  pub is_first : has_body ≡ true → had_body (in_file st name) ≡ false

had_body-some : (o : Option Meaning) (s : Signature) (b : Bool) → o ≡ Some (Function s b) → b ≡ true → had_body o ≡ true
had_body-some o s b e h = subst (λ x. had_body x ≡ true) (sym e) h

pub function-stays : (name : Name) (signature : Signature) (has_body : Bool) (st : State) → Each Small signature.parameters → IsCType signature.result → Holds st
    → IfOk (function name signature has_body st) (DeclaresFunction name signature has_body st)
unfolding function
function-stays name signature has_body st smalls is holds =
    if_check (DeclaresFunction name signature has_body st) name.offset (function_faults name signature has_body) _ st
    (λ none. let same = (or_parts (differs (in_file st name) signature) (is_array signature.result) none.1.0).0 in
    let one = (or_parts (is_once (in_file st name)) (has_body && had_body (in_file st name)) none.0).1 in
    let whether = has_body || had_body (in_file st name) in
    let is_small : IsSmallSignature signature = record { small_parameters = smalls; small_result = small_if signature.result is none.1.1.1.0; few_words = none.1.1.0 } in
    let now : Meaning = Function signature whether in
    record {
      stays = stays_put st name.spelling now holds is_small (known_put st.names.file name.spelling now (λ t e. absurd (differs-object (in_file st name) signature t same e))
          (λ s b e. (
            whether,
            ap (λ x. Function x whether) (sym (differs-function (in_file st name) signature s b same e)),
            λ h. or_right has_body (had_body (in_file st name)) (had_body-some (in_file st name) s b e h),
          )));
      entry = (whether, put_same name.spelling now st.names.file, λ h. or_left has_body (had_body (in_file st name)) h);
      small = is_small;
      is_first = λ h. subst (λ b. (b && had_body (in_file st name)) ≡ false) h one;
    })

-- ---- the lists of a typed core

-- a typed core lists what the file scope declares
pub record Declares (core : Typed) (file : List (List ℕ × Meaning)) : Type 0 where
  pub lists_objects : (name : List ℕ) (type : CType) → entry_of file name ≡ Some (Object type) → (size : GlobalSize) × Contains core.globals (record { global = name; size = size })
  pub lists_functions : (name : List ℕ) (signature : Signature) (has_body : Bool) → entry_of file name ≡ Some (Function signature has_body) → entry_of core.functions name ≡ Some (function_type signature)

pub declares_before : (core : Typed) (before after : List (List ℕ × Meaning)) → Known before after → Declares core after → Declares core before
declares_before core before after known h = record {
  lists_objects = λ name type e. let now = known.objects name type e in h.lists_objects name now.0 now.1;
  lists_functions = λ name signature has_body e. let now = known.functions name signature has_body e in h.lists_functions name signature now.0 now.1;
}

-- the entry at hand is another one
passed_over : (n : List ℕ) (m found : Meaning) (rest : List (List ℕ × Meaning)) (name : List ℕ) → (m ≡ found → ⊥) → entry_of ((n, m) ∷ rest) name ≡ Some found → entry_of rest name ≡ Some found
passed_over n m found rest name differ e = by_test (bytes_eq n name) refl
  where
    by_test : (t : Bool) → bytes_eq n name ≡ t → entry_of rest name ≡ Some found
    by_test true same = absurd (differ (same_Some m found (sym (entry_of-first (n, m) rest name same) ∙ e)))
    by_test false apart = sym (entry_of-later (n, m) rest name apart) ∙ e

function-here : (n : List ℕ) (s : Signature) (c : Bool) (rest : List (List ℕ × Meaning)) (name : List ℕ) (signature : Signature) (b : Bool)
    → (entry_of rest name ≡ Some (Function signature b) → entry_of (functions_in rest) name ≡ Some (function_type signature)) → entry_of ((n, Function s c) ∷ rest) name ≡ Some (Function signature b)
    → entry_of ((n, function_type s) ∷ functions_in rest) name ≡ Some (function_type signature)
function-here n s c rest name signature b again e = by_test (bytes_eq n name) refl
  where
    by_test : (t : Bool) → bytes_eq n name ≡ t → entry_of ((n, function_type s) ∷ functions_in rest) name ≡ Some (function_type signature)
    by_test true same =
        let is : Function s c ≡ Function signature b = same_Some (Function s c) (Function signature b) (sym (entry_of-first (n, Function s c) rest name same) ∙ e) in
        entry_of-first (n, function_type s) (functions_in rest) name same ∙ ap (λ x. Some (function_type x)) (same_signatures s signature c b is)
      where
        same_signatures : (x y : Signature) (i j : Bool) → Function x i ≡ Function y j → x ≡ y
        same_signatures x y i j h = cc
    by_test false apart = entry_of-later (n, function_type s) (functions_in rest) name apart ∙ again (sym (entry_of-later (n, Function s c) rest name apart) ∙ e)

function-by : (n : List ℕ) (m : Meaning) (rest : List (List ℕ × Meaning)) (name : List ℕ) (signature : Signature) (b : Bool)
    → (entry_of rest name ≡ Some (Function signature b) → entry_of (functions_in rest) name ≡ Some (function_type signature)) → entry_of ((n, m) ∷ rest) name ≡ Some (Function signature b)
    → entry_of (functions_in ((n, m) ∷ rest)) name ≡ Some (function_type signature)
function-by n (Function s c) rest name signature b again e = function-here n s c rest name signature b again e
function-by n (Local number type) rest name signature b again e = again (passed_over n (Local number type) (Function signature b) rest name (λ f. cc) e)
function-by n (Object type) rest name signature b again e = again (passed_over n (Object type) (Function signature b) rest name (λ f. cc) e)
function-by n (Typedef type) rest name signature b again e = again (passed_over n (Typedef type) (Function signature b) rest name (λ f. cc) e)
function-by n (Enumerator value) rest name signature b again e = again (passed_over n (Enumerator value) (Function signature b) rest name (λ f. cc) e)
function-by n Hidden rest name signature b again e = again (passed_over n Hidden (Function signature b) rest name (λ f. cc) e)

pub functions_in-found : (file : List (List ℕ × Meaning)) (name : List ℕ) (signature : Signature) (b : Bool) → entry_of file name ≡ Some (Function signature b) → entry_of (functions_in file) name ≡ Some (function_type signature)
functions_in-found [] name signature b e = absurd (none-some (Function signature b) e)
functions_in-found (entry ∷ rest) name signature b e = function-by entry.0 entry.1 rest name signature b (functions_in-found rest name signature b) e

-- an object of the list has the name
abbrev Lists : List Global → List ℕ → Type 0
Lists list name = (size : GlobalSize) × Contains list (record { global = name; size = size })

lists_more : (g : Global) (list : List Global) (name : List ℕ) → Lists list name → Lists (g ∷ list) name
lists_more g list name h = (h.0, (suc h.1.0, (let below : h.1.0 < length list = h.1.1 in omega arith), h.1.2))

object-here : (structs : Structs) (n : List ℕ) (t : CType) (rest : List (List ℕ × Meaning)) (name : List ℕ) (type : CType)
    → (entry_of rest name ≡ Some (Object type) → Lists (globals_in structs rest) name) → entry_of ((n, Object t) ∷ rest) name ≡ Some (Object type) → Lists (record { global = n; size = global_size structs t } ∷ globals_in structs rest) name
object-here structs n t rest name type again e = by_test (bytes_eq n name) refl
  where
    by_test : (b : Bool) → bytes_eq n name ≡ b → Lists (record { global = n; size = global_size structs t } ∷ globals_in structs rest) name
    by_test true same = subst (λ w. Lists (record { global = n; size = global_size structs t } ∷ globals_in structs rest) w) (bytes_eq-same n name same) (global_size structs t, (0, omega arith, refl))
    by_test false apart = lists_more _ (globals_in structs rest) name (again (sym (entry_of-later (n, Object t) rest name apart) ∙ e))

object-by : (structs : Structs) (n : List ℕ) (m : Meaning) (rest : List (List ℕ × Meaning)) (name : List ℕ) (type : CType)
    → (entry_of rest name ≡ Some (Object type) → Lists (globals_in structs rest) name) → entry_of ((n, m) ∷ rest) name ≡ Some (Object type) → Lists (globals_in structs ((n, m) ∷ rest)) name
object-by structs n (Object t) rest name type again e = object-here structs n t rest name type again e
object-by structs n (Local number t) rest name type again e = again (passed_over n (Local number t) (Object type) rest name (λ f. cc) e)
object-by structs n (Function s b) rest name type again e = again (passed_over n (Function s b) (Object type) rest name (λ f. cc) e)
object-by structs n (Typedef t) rest name type again e = again (passed_over n (Typedef t) (Object type) rest name (λ f. cc) e)
object-by structs n (Enumerator value) rest name type again e = again (passed_over n (Enumerator value) (Object type) rest name (λ f. cc) e)
object-by structs n Hidden rest name type again e = again (passed_over n Hidden (Object type) rest name (λ f. cc) e)

pub globals_in-found : (structs : Structs) (file : List (List ℕ × Meaning)) (name : List ℕ) (type : CType) → entry_of file name ≡ Some (Object type) → Lists (globals_in structs file) name
globals_in-found structs [] name type e = absurd (none-some (Object type) e)
globals_in-found structs (entry ∷ rest) name type e = object-by structs entry.0 entry.1 rest name type (globals_in-found structs rest name type) e

-- ---- the functions of a typed core

pub all_of : {X : Type 0} (P : X → Type 0) (xs : List X) → Each P xs → All P xs
all_of P [] h = All-nil P
all_of P (x ∷ xs) h = All-cons P x xs h.0 (all_of P xs h.1)

callable : (signature : Signature) → IsSmallSignature signature → IsCallable (function_type signature)
callable signature h = record {
  narrow_parameters = all_of (λ (s : Scalar). IsTrue (is_narrow s)) (scalars_of signature.parameters) (scalars_of-narrow signature.parameters h.small_parameters);
  narrow_result = scalar_of-narrow signature.result h.small_result;
  few = (let words : words_of signature.parameters ≤ ARGUMENT_WORDS = ltb-false ARGUMENT_WORDS (words_of signature.parameters) h.few_words in
      let few = scalars_of-few signature.parameters h.small_parameters in omega arith);
}

abbrev AreCallable : List (List ℕ × FunctionType) → Type 0
AreCallable functions = Each (λ (entry : List ℕ × FunctionType). IsCallable entry.1) functions

callable-by : (n : List ℕ) (m : Meaning) (rest : List (List ℕ × Meaning)) → IsOuter m → AreCallable (functions_in rest) → AreCallable (functions_in ((n, m) ∷ rest))
callable-by n (Function signature b) rest h again = (callable signature h, again)
callable-by n (Local number type) rest h again = again
callable-by n (Object type) rest h again = again
callable-by n (Typedef type) rest h again = again
callable-by n (Enumerator value) rest h again = again
callable-by n Hidden rest h again = again

functions_in-each : (file : List (List ℕ × Meaning)) → AreOuter file → AreCallable (functions_in file)
functions_in-each [] h = tt
functions_in-each (entry ∷ rest) h = callable-by entry.0 entry.1 rest h.0 (functions_in-each rest h.1)

pub functions_in-callable : (file : List (List ℕ × Meaning)) → AreOuter file → All (λ (entry : List ℕ × FunctionType). IsCallable entry.1) (functions_in file)
functions_in-callable file h = all_of (λ (entry : List ℕ × FunctionType). IsCallable entry.1) (functions_in file) (functions_in-each file h)
