-- How the state grows where a unit is read, what holds of it, and when a scope of a typed core covers it.
use Rattle.std.proofs.Common.{true, nat_lt, IsTrue, false, ◌≡◌, ℕ, zero, suc, ◌+◌, Bool, List, [], ◌∷◌, ◌++◌, length, Option, Some, None, IfSome, slice_get, refl, sym, ap, subst, ◌∙◌, append_assoc, append-nil, arith}
use Rattle.std.proofs.lemmas.Option.{none-some, same_Some}
use Rattle.c_token_spec.specs.Words.{entry_of}
use Rattle.c_types_spec.specs.declared.Scalar.{Scalar}
use Rattle.c_types_spec.specs.Types.{CType, Structs, scalar_of}
use Rattle.c_types_spec.specs.Names.{Signature, Meaning, Local, Object, Function, Typedef, Enumerator, Hidden, Tag, EnumTag, Scopes, in_blocks, in_scope, State}
use Rattle.c_types_spec.specs.declared.TheConstants.{ARGUMENT_WORDS}
use Rattle.c_types_spec.specs.Declarations.{words_of}
use Rattle.c_types_spec.specs.HasType.{Scope, IsGlobal}
use Rattle.c_types_spec.specs.Units.{function_type}
use Rattle.c_types_laws.proofs.Scopes.{Each, AreAll, entry_of-each, in_blocks-each}
use Rattle.c_types_laws.proofs.Types.{IsCType, Small, AreSmall, is_integer}

-- one list begins another
abbrev pub Begins : {X : Type 0} → List X → List X → Type 0
Begins {X} xs ys = (more : List X) × (ys ≡ xs ++ more)

pub begins_itself : {X : Type 0} (xs : List X) → Begins xs xs
begins_itself xs = ([], sym (append-nil xs))

pub begins_then : {X : Type 0} (xs ys zs : List X) → Begins xs ys → Begins ys zs → Begins xs zs
begins_then xs ys zs h k = (h.0 ++ k.0, k.1 ∙ ap (λ t. t ++ k.0) h.1 ∙ append_assoc xs h.0 k.0)

pub get_append : {X : Type 0} (xs more : List X) (i : ℕ) (x : X) → slice_get xs i ≡ Some x → slice_get (xs ++ more) i ≡ Some x
get_append [] more i x e = absurd (none-some x e)
get_append (y ∷ xs) more zero x e = e
get_append (y ∷ xs) more (suc i) x e = get_append xs more i x e

pub get_begins : {X : Type 0} (xs ys : List X) (i : ℕ) (x : X) → Begins xs ys → slice_get xs i ≡ Some x → slice_get ys i ≡ Some x
get_begins xs ys i x h e = subst (λ t. slice_get t i ≡ Some x) (sym h.1) (get_append xs h.0 i x e)

-- the element after the others
pub get_last : {X : Type 0} (xs : List X) (x : X) → slice_get (xs ++ x ∷ []) (length xs) ≡ Some x
get_last [] x = refl
get_last (y ∷ xs) x = get_last xs x

pub get_right : {X : Type 0} (xs ys : List X) (i : ℕ) → slice_get (xs ++ ys) (length xs + i) ≡ slice_get ys i
get_right [] ys i = let e : 0 + i ≡ i = omega arith in ap (slice_get ys) e
get_right (x ∷ xs) ys i = let e : suc (length xs) + i ≡ suc (length xs + i) = omega arith in ap (slice_get (x ∷ (xs ++ ys))) e ∙ get_right xs ys i

pub each_get : {X : Type 0} (P : X → Type 0) (xs : List X) (i : ℕ) (x : X) → Each P xs → slice_get xs i ≡ Some x → P x
each_get P [] i x h e = absurd (none-some x e)
each_get P (y ∷ xs) zero x h e = subst P (same_Some y x e) h.0
each_get P (y ∷ xs) (suc i) x h e = each_get P xs i x h.1 e

-- ---- what holds of a state

-- the type has values, and is narrow
abbrev pub IsScalar : CType → Type 0
IsScalar type = (s : Scalar) × (scalar_of type ≡ Some s) × Small type

-- a function takes and returns narrow values, in so many words of arguments
pub record IsSmallSignature (signature : Signature) : Type 0 where
  pub small_parameters : Each Small signature.parameters
  pub small_result : Small signature.result
  pub few_words : nat_lt ARGUMENT_WORDS (words_of signature.parameters) ≡ false

-- a name of a block is no object or function, and a local has its type
abbrev pub IsInner : List CType → Meaning → Type 0
IsInner locals (Local number type) = slice_get locals number ≡ Some type
IsInner locals (Object type) = ⊥
IsInner locals (Function signature has_body) = ⊥
IsInner locals (Typedef type) = IsCType type
IsInner locals other = Unit {0}

-- a name of the file scope is no local, and objects and functions are narrow
abbrev pub IsOuter : Meaning → Type 0
IsOuter (Local number type) = ⊥
IsOuter (Object type) = Small type
IsOuter (Function signature has_body) = IsSmallSignature signature
IsOuter (Typedef type) = IsCType type
IsOuter other = Unit {0}

abbrev pub IsTag : Tag → Type 0
IsTag (EnumTag type) = IsTrue (is_integer type)
IsTag other = Unit {0}

abbrev pub AreInner : List CType → List (List ℕ × Meaning) → Type 0
AreInner locals block = Each (λ (entry : List ℕ × Meaning). IsInner locals entry.1) block

abbrev pub AreOuter : List (List ℕ × Meaning) → Type 0
AreOuter file = Each (λ (entry : List ℕ × Meaning). IsOuter entry.1) file

pub record Holds (st : State) : Type 0 where
  pub outer : AreOuter st.names.file
  pub inner : Each (AreInner st.locals) st.names.blocks
  pub scalars : Each IsScalar st.locals
  pub others : Each IsScalar st.results
  pub file_tags : AreAll IsTag st.tags.file
  pub block_tags : Each (AreAll IsTag) st.tags.blocks
  pub small_structs : AreSmall st.structs

-- what the meaning of a name says of the state
abbrev pub Means : State → List ℕ → Meaning → Type 0
Means st name (Local number type) = slice_get st.locals number ≡ Some type
Means st name (Object type) = (entry_of st.names.file name ≡ Some (Object type)) × Small type
Means st name (Function signature has_body) = (entry_of st.names.file name ≡ Some (Function signature has_body)) × IsSmallSignature signature
Means st name (Typedef type) = IsCType type
Means st name other = Unit {0}

from_inner : (st : State) (name : List ℕ) (m : Meaning) → IsInner st.locals m → Means st name m
from_inner st name (Local number type) h = h
from_inner st name (Object type) h = absurd h
from_inner st name (Function signature has_body) h = absurd h
from_inner st name (Typedef type) h = h
from_inner st name (Enumerator value) h = tt
from_inner st name Hidden h = tt

from_outer : (st : State) (name : List ℕ) (m : Meaning) → IsOuter m → entry_of st.names.file name ≡ Some m → Means st name m
from_outer st name (Local number type) h e = absurd h
from_outer st name (Object type) h e = (e, h)
from_outer st name (Function signature has_body) h e = (e, h)
from_outer st name (Typedef type) h e = h
from_outer st name (Enumerator value) h e = tt
from_outer st name Hidden h e = tt

pub in_scope-means : (st : State) (name : List ℕ) → Holds st → IfSome (in_scope st.names name) (Means st name)
in_scope-means st name holds =
    by_inner (in_blocks st.names.blocks name) (in_blocks-each (IsInner st.locals) st.names.blocks name holds.inner) (entry_of st.names.file name) refl (entry_of-each IsOuter st.names.file name holds.outer)
  where
    by_outer : (o : Option Meaning) → entry_of st.names.file name ≡ o → IfSome o IsOuter → IfSome o (Means st name)
    by_outer None e h = tt
    by_outer (Some m) e h = from_outer st name m h e

    by_inner : (o : Option Meaning) → IfSome o (IsInner st.locals) → (f : Option Meaning) → entry_of st.names.file name ≡ f → IfSome f IsOuter → IfSome (elim o [ Some meaning ↦ Some meaning | None ↦ f ]) (Means st name)
    by_inner (Some m) h f e k = from_inner st name m h
    by_inner None h f e k = by_outer f e k

-- ---- how it grows

-- an object stays an object, and a function keeps its type and its body
pub record Known (before after : List (List ℕ × Meaning)) : Type 0 where
  pub objects : (name : List ℕ) (type : CType) → entry_of before name ≡ Some (Object type) → (now : CType) × (entry_of after name ≡ Some (Object now))
  pub functions : (name : List ℕ) (signature : Signature) (has_body : Bool) → entry_of before name ≡ Some (Function signature has_body) → (now : Bool) × (entry_of after name ≡ Some (Function signature now)) × (has_body ≡ true → now ≡ true)

pub known_itself : (file : List (List ℕ × Meaning)) → Known file file
known_itself file = record { objects = λ name type e. (type, e); functions = λ name signature has_body e. (has_body, e, λ h. h) }

pub known_then : (a b c : List (List ℕ × Meaning)) → Known a b → Known b c → Known a c
known_then a b c h k = record {
  objects = λ name type e. let mid = h.objects name type e in k.objects name mid.0 mid.1;
  functions = λ name signature has_body e.
      let mid = h.functions name signature has_body e in
      let end = k.functions name signature mid.0 mid.1 in
      (end.0, end.1, λ l. end.2 (mid.2 l));
}

-- the function of a name has a body
abbrev pub IsBodied : List (List ℕ × Meaning) → List ℕ → Type 0
IsBodied file name = (signature : Signature) × (entry_of file name ≡ Some (Function signature true))

pub bodied_later : (before after : List (List ℕ × Meaning)) (name : List ℕ) → Known before after → IsBodied before name → IsBodied after name
bodied_later before after name known h = let now = known.functions name h.0 true h.1 in (h.0, now.1 ∙ ap (λ b. Some (Function h.0 b)) (now.2 refl))

pub record Grows (st later : State) : Type 0 where
  pub more_locals : Begins st.locals later.locals
  pub more_results : Begins st.results later.results
  pub depth : length later.names.blocks ≡ length st.names.blocks
  pub known : Known st.names.file later.names.file
  pub holds : Holds later

pub grows_itself : (st : State) → Holds st → Grows st st
grows_itself st holds = record { more_locals = begins_itself st.locals; more_results = begins_itself st.results; depth = refl; known = known_itself st.names.file; holds = holds }

pub grows_then : (a b c : State) → Grows a b → Grows b c → Grows a c
grows_then a b c h k = record {
  more_locals = begins_then a.locals b.locals c.locals h.more_locals k.more_locals;
  more_results = begins_then a.results b.results c.results h.more_results k.more_results;
  depth = k.depth ∙ h.depth;
  known = known_then a.names.file b.names.file c.names.file h.known k.known;
  holds = k.holds;
}

-- the names grow, and nothing else
pub record Stays (st later : State) : Type 0 where
  pub grows : Grows st later
  pub same_locals : later.locals ≡ st.locals
  pub same_results : later.results ≡ st.results
  pub same_loops : later.loops ≡ st.loops
  pub same_calls : later.calls ≡ st.calls

pub stays_itself : (st : State) → Holds st → Stays st st
stays_itself st holds = record { grows = grows_itself st holds; same_locals = refl; same_results = refl; same_loops = refl; same_calls = refl }

pub stays_then : (a b c : State) → Stays a b → Stays b c → Stays a c
stays_then a b c h k = record {
  grows = grows_then a b c h.grows k.grows;
  same_locals = k.same_locals ∙ h.same_locals;
  same_results = k.same_results ∙ h.same_results;
  same_loops = k.same_loops ∙ h.same_loops;
  same_calls = k.same_calls ∙ h.same_calls;
}

-- tags and structs don't count
pub stays_tags : (st : State) (tags : Scopes Tag) (structs : Structs) → Holds st → AreAll IsTag tags.file → Each (AreAll IsTag) tags.blocks → AreSmall structs → Stays st (record st { tags = tags; structs = structs })
stays_tags st tags structs holds file blocks small =
    let after : Holds (record st { tags = tags; structs = structs }) = record { outer = holds.outer; inner = holds.inner; scalars = holds.scalars; others = holds.others; file_tags = file; block_tags = blocks; small_structs = small } in
    record {
      grows = record { more_locals = begins_itself st.locals; more_results = begins_itself st.results; depth = refl; known = known_itself st.names.file; holds = after };
      same_locals = refl;
      same_results = refl;
      same_loops = refl;
      same_calls = refl;
    }

-- nor do the globals that are named
pub stays_mentions : (st : State) (list : List (List ℕ)) → Holds st → Stays st (record st { mentions = list })
stays_mentions st list holds =
    let after : Holds (record st { mentions = list }) = record { outer = holds.outer; inner = holds.inner; scalars = holds.scalars; others = holds.others; file_tags = holds.file_tags; block_tags = holds.block_tags; small_structs = holds.small_structs } in
    record {
      grows = record { more_locals = begins_itself st.locals; more_results = begins_itself st.results; depth = refl; known = known_itself st.names.file; holds = after };
      same_locals = refl;
      same_results = refl;
      same_loops = refl;
      same_calls = refl;
    }

-- ---- the scopes of typed cores that cover it

-- `first` is the number of the first local for results
pub record Covers (scope : Scope) (first : ℕ) (st : State) : Type 0 where
  pub locals_are : (i : ℕ) (type : CType) (s : Scalar) → slice_get st.locals i ≡ Some type → scalar_of type ≡ Some s → slice_get scope.locals i ≡ Some s
  pub results_are : (i : ℕ) (type : CType) (s : Scalar) → slice_get st.results i ≡ Some type → scalar_of type ≡ Some s → slice_get scope.locals (first + i) ≡ Some s
  pub objects_are : (name : List ℕ) (type : CType) → entry_of st.names.file name ≡ Some (Object type) → IsGlobal scope name
  pub functions_are : (name : List ℕ) (signature : Signature) (has_body : Bool) → entry_of st.names.file name ≡ Some (Function signature has_body) → entry_of scope.functions name ≡ Some (function_type signature)

pub covers_before : (scope : Scope) (first : ℕ) (st later : State) → Grows st later → Covers scope first later → Covers scope first st
covers_before scope first st later grows covers = record {
  locals_are = λ i type s e f. covers.locals_are i type s (get_begins st.locals later.locals i type grows.more_locals e) f;
  results_are = λ i type s e f. covers.results_are i type s (get_begins st.results later.results i type grows.more_results e) f;
  objects_are = λ name type e. let now = grows.known.objects name type e in covers.objects_are name now.0 now.1;
  functions_are = λ name signature has_body e. let now = grows.known.functions name signature has_body e in covers.functions_are name signature now.0 now.1;
}
