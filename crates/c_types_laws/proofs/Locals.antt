-- Locals and parameters that are declared: each is a scalar, has the next number, and its name means it.
use Rattle.std.proofs.Common.{◌≡◌, ℕ, ◌<◌, Bool, false, List, [], ◌∷◌, ◌++◌, length, Option, Some, None, IfOk, is_none, refl, arith}
use Rattle.std.proofs.lemmas.Bool.{or_parts}
use Rattle.c_syntax_spec.specs.Expression.{Name}
use Rattle.c_types_spec.specs.Types.{CType, Void, Integer, Pointer, Array, Struct, Structs, is_void, is_struct, is_array, lacks_element, size_of, word}
use Rattle.c_types_spec.specs.Names.{Meaning, Local, Object, Function, Typedef, Enumerator, Hidden, declared, State}
use Rattle.c_types_spec.specs.Declarations.{local_declared, local_faults, local, adjusted, parameter_faults, name_offset, parameter}
use Rattle.c_types_laws.proofs.Results.{if_bind, if_more}
use Rattle.c_types_laws.proofs.Scopes.{Each, each_append, each_more}
use Rattle.c_types_laws.proofs.Types.{IsCType, Small, small_if}
use Rattle.c_types_laws.proofs.States.{Holds, IsScalar, IsInner, AreInner, AreOuter, Grows, grows_then, begins_itself, known_itself, get_append, get_last}
use Rattle.c_types_laws.proofs.Readings.{if_check}
use Rattle.c_types_laws.proofs.Steps.{Inside}

inner_more : (locals : List CType) (type : CType) (m : Meaning) → IsInner locals m → IsInner (locals ++ type ∷ []) m
inner_more locals type (Local number t) h = get_append locals (type ∷ []) number t h
inner_more locals type (Object t) h = h
inner_more locals type (Function signature has_body) h = h
inner_more locals type (Typedef t) h = h
inner_more locals type (Enumerator value) h = tt
inner_more locals type Hidden h = tt

grows_local : (st : State) (type : CType) → Holds st → IsScalar type → Grows st (record st { locals = st.locals ++ type ∷ [] })
grows_local st type holds scalar = record {
  more_locals = (type ∷ [], refl);
  more_results = begins_itself st.results;
  depth = refl;
  known = known_itself st.names.file;
  holds = record {
    outer = holds.outer;
    inner = each_more (AreInner st.locals) (AreInner (st.locals ++ type ∷ [])) st.names.blocks
        (λ block h. each_more (λ (entry : List ℕ × Meaning). IsInner st.locals entry.1) (λ (entry : List ℕ × Meaning). IsInner (st.locals ++ type ∷ []) entry.1) block (λ entry k. inner_more st.locals type entry.1 k) h) holds.inner;
    scalars = each_append IsScalar st.locals (type ∷ []) holds.scalars (scalar, tt);
    others = holds.others;
    file_tags = holds.file_tags;
    block_tags = holds.block_tags;
    small_structs = holds.small_structs;
  };
}

-- a name that is declared in a block
grows_declared : (st : State) (name : List ℕ) (m : Meaning) → Holds st → Inside st → IsInner st.locals m → Grows st (record st { names = declared name m st.names })
grows_declared st name m holds inside is = by_blocks st.names.file st.names.blocks holds.outer holds.inner inside
  where
    by_blocks : (file : List (List ℕ × Meaning)) (blocks : List (List (List ℕ × Meaning))) → AreOuter file → Each (AreInner st.locals) blocks → 0 < length blocks
        → Grows (record st { names = record { file = file; blocks = blocks } }) (record st { names = declared name m (record { file = file; blocks = blocks }) })
    by_blocks file [] outer inner some = absurd (omega arith)
    by_blocks file (block ∷ blocks) outer inner some = record {
      more_locals = begins_itself st.locals;
      more_results = begins_itself st.results;
      depth = refl;
      known = known_itself file;
      holds = record { outer = outer; inner = ((is, inner.0), inner.1); scalars = holds.scalars; others = holds.others; file_tags = holds.file_tags; block_tags = holds.block_tags; small_structs = holds.small_structs };
    }

-- the next local has the type
pub record NextLocal (type : CType) (st : State) (made : ℕ × State) : Type 0 where
  pub grows : Grows st made.1
  pub is_next : made.0 ≡ length st.locals
  pub locals_now : made.1.locals ≡ st.locals ++ type ∷ []
  pub loops_same : made.1.loops ≡ st.loops
  pub calls_same : made.1.calls ≡ st.calls

local_declared-next : (name : Option Name) (type : CType) (st : State) → Holds st → Inside st → IsScalar type → IfOk (local_declared name type st) (NextLocal type st)
local_declared-next None type st holds inside scalar = record { grows = grows_local st type holds scalar; is_next = refl; locals_now = refl; loops_same = refl; calls_same = refl }
local_declared-next (Some name) type st holds inside scalar =
    let first = grows_local st type holds scalar in
    let mid = record st { locals = st.locals ++ type ∷ [] } in
    record {
      grows = grows_then st mid _ first (grows_declared mid name.spelling (Local (length st.locals) type) first.holds inside (get_last st.locals type));
      is_next = refl;
      locals_now = refl;
      loops_same = refl;
      calls_same = refl;
    }

local_scalar : (structs : Structs) (type : CType) → Small type → is_none (size_of structs type) ≡ false → is_struct type ≡ false → is_array type ≡ false → IsScalar type
unfolding size_of
local_scalar structs Void n e f g = absurd (cc)
local_scalar structs (Integer s) n e f g = (s, refl, n)
local_scalar structs (Pointer inner) n e f g = (word, refl, n)
local_scalar structs (Array length element) n e f g = absurd (cc)
local_scalar structs (Struct number) n e f g = absurd (cc)

pub local-next : (name : Name) (type : CType) (is_static : Bool) (st : State) → IsCType type → Holds st → Inside st → IfOk (local name type is_static st) (λ made. IsScalar type × NextLocal type st made)
unfolding local
local-next name type is_static st is holds inside =
    if_check (λ made. IsScalar type × NextLocal type st made) name.offset (local_faults name type is_static) (local_declared (Some name) type) st
    (λ none. let scalar = local_scalar st.structs type (small_if type is none.1.1.1.0) none.1.1.0 none.1.1.1.1.0 none.1.1.1.1.1.0 in
    if_more (NextLocal type st) (λ made. IsScalar type × NextLocal type st made) (local_declared (Some name) type st) (local_declared-next (Some name) type st holds inside scalar) (λ made k. (scalar, k)))

parameter_scalar : (structs : Structs) (type : CType) → Small type → is_void type ≡ false → is_struct type ≡ false → IsScalar (adjusted type)
parameter_scalar structs Void n e f = absurd (cc)
parameter_scalar structs (Integer s) n e f = (s, refl, n)
parameter_scalar structs (Pointer inner) n e f = (word, refl, n)
parameter_scalar structs (Array length element) n e f = (word, refl, n)
parameter_scalar structs (Struct number) n e f = absurd (cc)

-- a parameter is the next local, and has the type that is given
pub record NextParameter (st : State) (made : CType × State) : Type 0 where
  pub grows : Grows st made.1
  pub small : Small made.0
  pub locals_now : made.1.locals ≡ st.locals ++ made.0 ∷ []
  pub loops_same : made.1.loops ≡ st.loops
  pub calls_same : made.1.calls ≡ st.calls

pub parameter-next : (name : Option Name) (type : CType) (has_body : Bool) (offset : ℕ) (st : State) → IsCType type → Holds st → Inside st → IfOk (parameter name type has_body offset st) (NextParameter st)
unfolding parameter
parameter-next name type has_body offset st is holds inside =
    if_check (NextParameter st) (name_offset name offset) (parameter_faults name type has_body) _ st
    (λ none. let scalar = parameter_scalar st.structs type (small_if type is none.1.1.1.0) (or_parts (lacks_element st.structs type) (is_void type) none.1.1.0).1 none.1.1.1.1.0 in
    if_bind (NextLocal (adjusted type) st) (NextParameter st) (local_declared name (adjusted type) st) _ (local_declared-next name (adjusted type) st holds inside scalar)
    (λ made k. record { grows = k.grows; small = scalar.2; locals_now = k.locals_now; loops_same = k.loops_same; calls_same = k.calls_same }))
