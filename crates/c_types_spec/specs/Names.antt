-- What names mean where a unit is read (ISO C11, 6.2.1 to 6.2.3), and the state in which it is read.
use Rattle.std.specs.Prelude.{ℕ, suc, ℤ, Bool, if◌then◌else◌, List, [], ◌∷◌, ◌++◌, length, Option, Some, None, Result, Ok, Err, bytes_eq, slice_set}
use Rattle.c_token_spec.specs.Words.{entry_of}
use Rattle.c_types_spec.specs.declared.Scalar.{Scalar}
use Rattle.c_types_spec.specs.declared.TypeFaultKind.{TypeFaultKind}
use Rattle.c_types_spec.specs.Types.{CType, Structs, Definition}

-- the types of the parameters of a function, and that of its result
pub record Signature : Type 0 where
  pub parameters : List CType
  pub result : CType

-- what a name means that is no tag, label or member
pub data Meaning : Type 0 where
  -- a local or a parameter, by its number
  Local : (number : ℕ) → (type : CType) → Meaning
  Object : (type : CType) → Meaning
  Function : (signature : Signature) → (has_body : Bool) → Meaning
  Typedef : (type : CType) → Meaning
  -- an enumeration constant
  Enumerator : (value : ℤ) → Meaning
  -- what an earlier group of the same `switch` declared
  Hidden : Meaning

-- what a tag means
pub data Tag : Type 0 where
  StructTag : (number : ℕ) → Tag
  EnumTag : (type : Scalar) → Tag
  HiddenTag : Tag

-- ---- scopes

abbrev pub Scope : (M : Type 0) → Type 0
Scope M = List (List ℕ × M)

-- the file scope in the order of declarations, and the blocks that are open, the innermost first, each with its last
-- declaration first
pub record Scopes (M : Type 0) : Type 0 where
  pub file : Scope M
  pub blocks : List (Scope M)

-- the innermost of blocks that declares the name
abbrev pub in_blocks : {M : Type 0} → List (Scope M) → List ℕ → Option M
in_blocks [] name = None
in_blocks (block ∷ blocks) name = elim (entry_of block name) [ Some meaning ↦ Some meaning | None ↦ in_blocks blocks name ]

-- 6.2.1p4: what a name means: its innermost declaration
abbrev pub in_scope : {M : Type 0} → Scopes M → List ℕ → Option M
in_scope scopes name = elim (in_blocks scopes.blocks name) [ Some meaning ↦ Some meaning | None ↦ entry_of scopes.file name ]

-- what the innermost scope itself declares
abbrev pub innermost : {M : Type 0} → Scopes M → Scope M
innermost scopes = elim scopes.blocks [ [] ↦ scopes.file | block ∷ blocks ↦ block ]

abbrev pub in_innermost : {M : Type 0} → Scopes M → List ℕ → Option M
in_innermost scopes name = entry_of (innermost scopes) name

-- the entry of the name, which is there, or one more at the end
abbrev pub put : {M : Type 0} → List ℕ → M → Scope M → Scope M
put name meaning [] = (name, meaning) ∷ []
put name meaning (entry ∷ scope) = if bytes_eq entry.0 name then (entry.0, meaning) ∷ scope else entry ∷ put name meaning scope

abbrev pub with_blocks : {M : Type 0} → Scopes M → List (Scope M) → Scopes M
with_blocks scopes blocks = record { file = scopes.file; blocks = blocks }

abbrev pub declared_in_file : {M : Type 0} → List ℕ → M → Scopes M → Scopes M
declared_in_file name meaning scopes = record { file = put name meaning scopes.file; blocks = scopes.blocks }

-- declared in the innermost scope
abbrev pub declared : {M : Type 0} → List ℕ → M → Scopes M → Scopes M
declared name meaning scopes =
    elim scopes.blocks [ [] ↦ declared_in_file name meaning scopes | block ∷ blocks ↦ with_blocks scopes (((name, meaning) ∷ block) ∷ blocks) ]

abbrev pub opened : {M : Type 0} → Scopes M → Scopes M
opened scopes = with_blocks scopes ([] ∷ scopes.blocks)

abbrev pub inner_closed : {M : Type 0} → List (Scope M) → List (Scope M)
inner_closed [] = []
inner_closed (block ∷ blocks) = blocks

abbrev pub closed : {M : Type 0} → Scopes M → Scopes M
closed scopes = with_blocks scopes (inner_closed scopes.blocks)

abbrev pub all_mean : {M : Type 0} → M → Scope M → Scope M
all_mean meaning [] = []
all_mean meaning (entry ∷ scope) = (entry.0, meaning) ∷ all_mean meaning scope

abbrev pub inner_hidden : {M : Type 0} → M → List (Scope M) → List (Scope M)
inner_hidden hidden [] = []
inner_hidden hidden (block ∷ []) = []
inner_hidden hidden (block ∷ outer ∷ blocks) = (all_mean hidden block ++ outer) ∷ blocks

-- the innermost block is closed, and what it declared is hidden until the block around it is closed
abbrev pub closed_hidden : {M : Type 0} → M → Scopes M → Scopes M
closed_hidden hidden scopes = with_blocks scopes (inner_hidden hidden scopes.blocks)

-- ---- the state

pub record State : Type 0 where
  pub names : Scopes Meaning
  pub tags : Scopes Tag
  pub structs : Structs
  -- of the function that is read: the types of its locals by their numbers
  pub locals : List CType
  -- and of the further locals for results of calls, which are numbered after all others
  pub results : List CType
  pub loops : ℕ
  pub calls : ℕ
  -- and the globals that its body has named so far
  pub mentions : List (List ℕ)

abbrev pub start : State
start = record { names = record { file = []; blocks = [] }; tags = record { file = []; blocks = [] }; structs = []; locals = []; results = []; loops = 0; calls = 0; mentions = [] }

-- why there is no typed core, and the offset
abbrev pub Fault : Type 0
Fault = TypeFaultKind × ℕ

-- reading a part of a unit: from a state to what the part gives and the state after it, or to its first fault
abbrev pub Typing : Type 0 → Type 0
Typing A = State → Result (A × State) Fault

abbrev pub give : {A : Type 0} → A → Typing A
give x = λ state. Ok (x, state)

abbrev pub fail : {A : Type 0} → TypeFaultKind → ℕ → Result A Fault
fail kind offset = Err (kind, offset)

-- a part, and then what its result gives
abbrev pub bind : {A B : Type 0} → Result A Fault → (A → Result B Fault) → Result B Fault
bind (Ok x) next = next x
bind (Err fault) next = Err fault

infixl 10 ◌>>=◌
abbrev pub ◌>>=◌ : {A B : Type 0} → Typing A → (A → Typing B) → Typing B
◌>>=◌ first next = λ state. bind (first state) (λ made. next made.0 made.1)

infixl 10 ◌>>◌
abbrev pub ◌>>◌ : {A B : Type 0} → Typing A → Typing B → Typing B
◌>>◌ first next = λ state. bind (first state) (λ made. next made.1)

-- a rule that looks at the state and leaves it
abbrev pub by : {A : Type 0} → (State → Result A Fault) → Typing A
by rule = λ state. bind (rule state) (λ x. Ok (x, state))

-- a rule that doesn't look at it
abbrev pub rule : {A : Type 0} → Result A Fault → Typing A
rule result = λ state. bind result (λ x. Ok (x, state))

-- a fault
abbrev pub refuse : {A : Type 0} → TypeFaultKind → ℕ → Typing A
refuse kind offset = λ state. Err (kind, offset)

-- a change of the state
abbrev pub change : (State → State) → Typing (Unit {0})
change made = λ state. Ok (tt {0}, made state)

-- the first of the kinds whose test holds, at one offset
abbrev pub faults_at : (offset : ℕ) → List (Bool × TypeFaultKind) → Result (Unit {0}) Fault
faults_at offset [] = Ok (tt {0})
faults_at offset (test ∷ tests) = if test.0 then fail test.1 offset else faults_at offset tests

abbrev pub check : (offset : ℕ) → (State → List (Bool × TypeFaultKind)) → Typing (Unit {0})
check offset tests = by (λ st. faults_at offset (tests st))

-- ---- changes of the state

abbrev pub declare : (name : List ℕ) → Meaning → Typing (Unit {0})
declare name meaning = change (λ st. record st { names = declared name meaning st.names })

abbrev pub declare_tag : (tag : List ℕ) → Tag → Typing (Unit {0})
declare_tag tag meaning = change (λ st. record st { tags = declared tag meaning st.tags })

-- a part in a block of its own
abbrev pub open_block : State → State
open_block st = record st { names = opened st.names; tags = opened st.tags }

abbrev pub close_block : State → State
close_block st = record st { names = closed st.names; tags = closed st.tags }

abbrev pub hide_block : State → State
hide_block st = record st { names = closed_hidden Hidden st.names; tags = closed_hidden HiddenTag st.tags }

abbrev pub block : {A : Type 0} → Typing A → Typing A
block part = do
  change open_block
  x ← part
  change close_block
  give x

-- a part in a block whose names stay hidden until the block around it is closed
abbrev pub hidden_block : {A : Type 0} → Typing A → Typing A
hidden_block part = do
  change open_block
  x ← part
  change hide_block
  give x

-- one more struct, and its number
abbrev pub new_struct : Definition → Typing ℕ
new_struct definition = λ state. Ok (length state.structs, record state { structs = state.structs ++ definition ∷ [] })

abbrev pub define_struct : ℕ → Definition → Typing (Unit {0})
define_struct number definition = change (λ st. record st { structs = slice_set st.structs number definition })

-- one more local, and its number
abbrev pub new_local : CType → Typing ℕ
new_local type = λ state. Ok (length state.locals, record state { locals = state.locals ++ type ∷ [] })

-- one more local for the result of a call, and its number among these
abbrev pub new_result : CType → Typing ℕ
new_result type = λ state. Ok (length state.results, record state { results = state.results ++ type ∷ [] })

abbrev pub new_loop : Typing ℕ
new_loop = λ state. Ok (state.loops, record state { loops = suc state.loops })

abbrev pub new_call : Typing ℕ
new_call = λ state. Ok (state.calls, record state { calls = suc state.calls })

-- one more global that is named
abbrev pub mention : (name : List ℕ) → Typing (Unit {0})
mention name = change (λ st. record st { mentions = st.mentions ++ name ∷ [] })

-- the body that is read next names no global so far
abbrev pub start_body : State → State
start_body st = record st { mentions = [] }

-- the function that is read next has no locals, loops and calls so far
abbrev pub start_function : State → State
start_function st = record st { locals = []; results = []; loops = 0; calls = 0 }
