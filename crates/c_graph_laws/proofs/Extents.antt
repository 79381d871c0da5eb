-- The types and the numbers of a typed core, one by one: types of 8, 16 and 32 bits; sizes, distances and bounds of objects
-- within the limit of sizes; alignments that are sizes of types; and operators on promoted types.
use Rattle.std.proofs.Common.{◌≡◌, inl, inr, ℕ, ◌<◌, ◌≤◌, ◌==◌, ◌||◌, Bool, true, false, cond, sym, subst, List, [], ◌∷◌, All, Option, Some, None, option_map, bytes_eq, find, eqb-true}
use Rattle.std.specs.Prelude.{IsTrue, IfSome}
use Rattle.std.proofs.lemmas.Bool.{or_cases}
use Rattle.std.proofs.lemmas.List.Elements.{All-nil, All-cons, All-head, All-tail, All-weaker}
use Rattle.c_token_spec.specs.Words.{entry_of}
use Rattle.c_types_spec.specs.declared.Scalar.{Scalar}
use Rattle.c_types_spec.specs.declared.TheConstants.{SIZE_LIMIT}
use Rattle.c_types_spec.specs.Types.{word}
use Rattle.c_types_spec.specs.Core.{Core, Constant, ReadLocal, GlobalAddress, Load, Target, Convert, Operate, Compare, Move, Within, Aligned, Choose, Action, Skip, Sequence, Evaluate, Set, Unset, Store, Call, If, Loop, Leave, Switch, Return, MissingReturn, Groups, no_groups, groups, FunctionType, Body, Typed}
use Rattle.c_types_spec.specs.HasType as typed
use Rattle.c_types_spec.specs.HasType.{Scope, HasType, HaveTypes, IsTyped, AreTyped, IsReturned, IsTypedBody, IsTypedUnit, IsCallable, is_narrow, is_promoted, is_alignment, scope_of}
use Rattle.c_graph_spec.specs.Sizes.{HasSizes, HaveSizes, ValueSizes, ActionSizes, GroupSizes, UnitSizes}

abbrev pub scalar : (width : ℕ) → (is_signed : Bool) → Scalar
scalar width is_signed = record { width = width; is_signed = is_signed }

-- the type of an object: an integer, or a pointer
pub data IsPlain : Scalar → Type 0 where
  byte : (is_signed : Bool) → IsPlain (scalar 8 is_signed)
  half : (is_signed : Bool) → IsPlain (scalar 16 is_signed)
  full : (is_signed : Bool) → IsPlain (scalar 32 is_signed)

-- 6.3.1.1p2: the type of an operator
pub data IsPromoted : Scalar → Type 0 where
  promoted : (is_signed : Bool) → IsPromoted (scalar 32 is_signed)

pub data IsAlignment : ℕ → Type 0 where
  one_byte : IsAlignment 1
  two_bytes : IsAlignment 2
  four_bytes : IsAlignment 4

abbrev pub HasExtents : Core → Type 0
HasExtents (Constant type value) = IsPlain type
HasExtents (ReadLocal type local offset) = IsPlain type
HasExtents (GlobalAddress name) = Unit {0}
HasExtents (Load type address displacement offset) = IsPlain type × (displacement < SIZE_LIMIT) × HasExtents address
HasExtents (Target type offset) = IsPlain type
HasExtents (Convert type operand) = IsPlain type × HasExtents operand
HasExtents (Operate operator type left right offset) = IsPromoted type × HasExtents left × HasExtents right
HasExtents (Compare operator left right) = HasExtents left × HasExtents right
HasExtents (Move direction order size pointer index offset) = (size < SIZE_LIMIT) × HasExtents pointer × HasExtents index
HasExtents (Within bound index offset) = (bound ≤ SIZE_LIMIT) × HasExtents index
HasExtents (Aligned alignment pointer offset) = IsAlignment alignment × HasExtents pointer
HasExtents (Choose type test first second) = IsPlain type × HasExtents test × HasExtents first × HasExtents second

abbrev pub AllExtents : List Core → Type 0
AllExtents [] = Unit {0}
AllExtents (value ∷ values) = HasExtents value × AllExtents values

abbrev pub ValueExtents : Option Core → Type 0
ValueExtents None = Unit {0}
ValueExtents (Some value) = HasExtents value

abbrev mutual
  pub ActionExtents : Action → Type 0
  ActionExtents Skip = Unit {0}
  ActionExtents (Sequence first second) = ActionExtents first × ActionExtents second
  ActionExtents (Evaluate value) = HasExtents value
  ActionExtents (Set local value) = HasExtents value
  ActionExtents (Unset local) = Unit {0}
  ActionExtents (Store type address displacement value offset) = IsPlain type × (displacement < SIZE_LIMIT) × HasExtents address × HasExtents value
  ActionExtents (Call number function arguments result) = AllExtents arguments
  ActionExtents (If test first second) = HasExtents test × ActionExtents first × ActionExtents second
  ActionExtents (Loop number place test step body) = HasExtents test × ActionExtents step × ActionExtents body
  ActionExtents (Leave jump) = Unit {0}
  ActionExtents (Switch test list) = HasExtents test × GroupExtents list
  ActionExtents (Return value) = ValueExtents value
  ActionExtents (MissingReturn offset) = Unit {0}

  pub GroupExtents : Groups → Type 0
  GroupExtents no_groups = Unit {0}
  GroupExtents (groups values body rest) = ActionExtents body × GroupExtents rest

abbrev pub ResultExtent : Option Scalar → Type 0
ResultExtent None = Unit {0}
ResultExtent (Some type) = IsPlain type

pub record BodyExtents (body : Body) : Type 0 where
  pub locals : All IsPlain body.locals
  pub result : ResultExtent body.signature.result
  pub action : ActionExtents body.action

-- of each body, and of the result of each function
pub record UnitExtents (unit : Typed) : Type 0 where
  pub bodies : All BodyExtents unit.bodies
  pub results : All (λ (entry : List ℕ × FunctionType). ResultExtent entry.1.result) unit.functions

-- ---- of typed cores

pub plain_from : (t : Scalar) → IsTrue (is_narrow t) → IsPlain t
plain_from t h = elim (or_cases (t.width == 8 || t.width == 16) (t.width == 32) h) [
  | inl two ↦ elim (or_cases (t.width == 8) (t.width == 16) two) [
    | inl e ↦ subst (λ (w : ℕ). IsPlain (scalar w t.is_signed)) (sym (eqb-true t.width 8 e)) (byte t.is_signed)
    | inr e ↦ subst (λ (w : ℕ). IsPlain (scalar w t.is_signed)) (sym (eqb-true t.width 16 e)) (half t.is_signed)
  ]
  | inr e ↦ subst (λ (w : ℕ). IsPlain (scalar w t.is_signed)) (sym (eqb-true t.width 32 e)) (full t.is_signed)
]

promoted_from : (t : Scalar) → IsTrue (is_promoted t) → IsPromoted t
promoted_from t h = subst (λ (w : ℕ). IsPromoted (scalar w t.is_signed)) (sym (eqb-true t.width 32 h)) (promoted t.is_signed)

alignment_from : (a : ℕ) → IsTrue (is_alignment a) → IsAlignment a
alignment_from a h = elim (or_cases (a == 1 || a == 2) (a == 4) h) [
  | inl two ↦ elim (or_cases (a == 1) (a == 2) two) [
    | inl e ↦ subst IsAlignment (sym (eqb-true a 1 e)) one_byte
    | inr e ↦ subst IsAlignment (sym (eqb-true a 2 e)) two_bytes
  ]
  | inr e ↦ subst IsAlignment (sym (eqb-true a 4 e)) four_bytes
]

-- the type of an expression is narrow
narrow_type : (scope : Scope) (target : Option Scalar) (x : Core) (t : Scalar) → HasType scope target x t → IsPlain t
narrow_type scope target _ _ (typed.constant t value narrow is) = plain_from t narrow
narrow_type scope target _ _ (typed.read_local t index offset narrow is) = plain_from t narrow
narrow_type scope target _ _ (typed.global_address name is) = full false
narrow_type scope target _ _ (typed.load t address displacement offset narrow a) = plain_from t narrow
narrow_type scope target _ _ (typed.stored_to t offset narrow is) = plain_from t narrow
narrow_type scope target _ _ (typed.convert t source operand narrow a) = plain_from t narrow
narrow_type scope target _ _ (typed.operate operator t left right offset plain is_promoted a b) = narrow_type scope target left t a
narrow_type scope target _ _ (typed.shift operator t count left right offset shifts is_promoted a b) = narrow_type scope target left t a
narrow_type scope target _ _ (typed.compare operator t left right a b) = full true
narrow_type scope target _ _ (typed.move direction order size t pointer index offset a b) = full false
narrow_type scope target _ _ (typed.within bound t index offset a) = narrow_type scope target index t a
narrow_type scope target _ _ (typed.aligned alignment pointer offset is_alignment a) = full false
narrow_type scope target _ _ (typed.choose t tested test first second a b c) = narrow_type scope target first t b

extents : (scope : Scope) (target : Option Scalar) (x : Core) (t : Scalar) → HasType scope target x t → HasSizes x → HasExtents x
extents scope target _ _ (typed.constant t value narrow is) h = plain_from t narrow
extents scope target _ _ (typed.read_local t index offset narrow is) h = plain_from t narrow
extents scope target _ _ (typed.global_address name is) h = tt
extents scope target _ _ (typed.load t address displacement offset narrow a) h = (plain_from t narrow, h.0, extents scope target address word a h.1)
extents scope target _ _ (typed.stored_to t offset narrow is) h = plain_from t narrow
extents scope target _ _ (typed.convert t source operand narrow a) h = (plain_from t narrow, extents scope target operand source a h)
extents scope target _ _ (typed.operate operator t left right offset plain is_promoted a b) h = (promoted_from t is_promoted, extents scope target left t a h.0, extents scope target right t b h.1)
extents scope target _ _ (typed.shift operator t count left right offset shifts is_promoted a b) h = (promoted_from t is_promoted, extents scope target left t a h.0, extents scope target right count b h.1)
extents scope target _ _ (typed.compare operator t left right a b) h = (extents scope target left t a h.0, extents scope target right t b h.1)
extents scope target _ _ (typed.move direction order size t pointer index offset a b) h = (h.0, extents scope target pointer word a h.1, extents scope target index t b h.2)
extents scope target _ _ (typed.within bound t index offset a) h = (h.0, extents scope target index t a h.1)
extents scope target _ _ (typed.aligned alignment pointer offset is_alignment a) h = (alignment_from alignment is_alignment, extents scope target pointer word a h)
extents scope target _ _ (typed.choose t tested test first second a b c) h =
    (narrow_type scope target first t b, extents scope target test tested a h.0, extents scope target first t b h.1, extents scope target second t c h.2)

all_extents : (scope : Scope) (arguments : List Core) (types : List Scalar) → HaveTypes scope arguments types → HaveSizes arguments → AllExtents arguments
all_extents scope _ _ typed.no_arguments h = tt
all_extents scope _ _ (typed.some_argument x t arguments types has haves) h = (extents scope None x t has h.0, all_extents scope arguments types haves h.1)

value_extents : (scope : Scope) (v : Option Core) → IsReturned scope v → ValueSizes v → ValueExtents v
value_extents scope None is h = tt
value_extents scope (Some x) is h = extents scope None x is.0 is.2 h

mutual
  action_extents : (scope : Scope) (a : Action) → IsTyped scope a → ActionSizes a → ActionExtents a
  action_extents scope _ typed.skip h = tt
  action_extents scope _ (typed.sequence a b ta tb) h = (action_extents scope a ta h.0, action_extents scope b tb h.1)
  action_extents scope _ (typed.evaluate x t has) h = extents scope None x t has h
  action_extents scope _ (typed.set index x t is has) h = extents scope None x t has h
  action_extents scope _ (typed.unset index t is) h = tt
  action_extents scope _ (typed.store t address displacement x offset ha hx) h =
      (narrow_type scope (Some t) x t hx, h.0, extents scope None address word ha h.1, extents scope (Some t) x t hx h.2)
  action_extents scope _ (typed.call index function arguments place type named haves receives) h = all_extents scope arguments type.parameters haves h
  action_extents scope _ (typed.choice test t a b has ta tb) h = (extents scope None test t has h.0, action_extents scope a ta h.1, action_extents scope b tb h.2)
  action_extents scope _ (typed.repeat index place test t step inner has ts ti) h = (extents scope None test t has h.0, action_extents scope step ts h.1, action_extents scope inner ti h.2)
  action_extents scope _ (typed.leave jump) h = tt
  action_extents scope _ (typed.switch test t list has ts) h = (extents scope None test t has h.0, group_extents scope t list ts h.1)
  action_extents scope _ (typed.give_back v is) h = value_extents scope v is h
  action_extents scope _ (typed.missing_return offset) h = tt

  group_extents : (scope : Scope) (t : Scalar) (list : Groups) → AreTyped scope t list → GroupSizes list → GroupExtents list
  group_extents scope _ _ (typed.last_group t) h = tt
  group_extents scope _ _ (typed.one_group t values inner rest are ti ts) h = (action_extents scope inner ti h.0, group_extents scope t rest ts h.1)

result_extent : (o : Option Scalar) → IfSome o (λ result. IsTrue (is_narrow result)) → ResultExtent o
result_extent None h = tt
result_extent (Some t) h = plain_from t h

signature_callable : (functions : List (List ℕ × FunctionType)) (function : List ℕ) (type : FunctionType) → All (λ (entry : List ℕ × FunctionType). IsCallable entry.1) functions
    → entry_of functions function ≡ Some type → IsCallable type
signature_callable [] function type all e = absurd (cc)
signature_callable (one ∷ rest) function type all e = at (bytes_eq one.0 function) e (λ later. signature_callable rest function type (All-tail (λ (entry : List ℕ × FunctionType). IsCallable entry.1) one rest all) later)
  where
    at : (b : Bool) → option_map (λ (entry : List ℕ × FunctionType). entry.1) (cond b (Some one) (find (λ (entry : List ℕ × FunctionType). bytes_eq entry.0 function) rest)) ≡ Some type
        → (entry_of rest function ≡ Some type → IsCallable type) → IsCallable type
    at true e later =
        let same : one.1 ≡ type = cc in
        subst IsCallable same (All-head (λ (entry : List ℕ × FunctionType). IsCallable entry.1) one rest all)
    at false e later = later e

body_extents : (unit : Typed) (body : Body) → All (λ (entry : List ℕ × FunctionType). IsCallable entry.1) unit.functions → IsTypedBody unit body → ActionSizes body.action → BodyExtents body
body_extents unit body callable is sizes = record {
  locals = All-weaker (λ (t : Scalar). IsTrue (is_narrow t)) IsPlain plain_from body.locals is.narrow;
  result = result_extent body.signature.result (signature_callable unit.functions body.name body.signature callable is.declared).narrow_result;
  action = action_extents (scope_of unit body) body.action is.typed sizes;
}

each_extents : (unit : Typed) (bodies : List Body) → All (λ (entry : List ℕ × FunctionType). IsCallable entry.1) unit.functions → All (λ (b : Body). IsTypedBody unit b) bodies
    → All (λ (b : Body). ActionSizes b.action) bodies → All BodyExtents bodies
each_extents unit [] callable are sizes = All-nil BodyExtents
each_extents unit (body ∷ rest) callable are sizes =
    All-cons BodyExtents body rest
    (body_extents unit body callable (All-head (λ (b : Body). IsTypedBody unit b) body rest are) (All-head (λ (b : Body). ActionSizes b.action) body rest sizes))
    (each_extents unit rest callable (All-tail (λ (b : Body). IsTypedBody unit b) body rest are) (All-tail (λ (b : Body). ActionSizes b.action) body rest sizes))

-- a typed unit has them
pub unit_extents : (unit : Typed) → IsTypedUnit unit → UnitSizes unit → UnitExtents unit
unit_extents unit is sizes = record {
  bodies = each_extents unit unit.bodies is.callable is.bodies_typed sizes;
  results = All-weaker (λ (entry : List ℕ × FunctionType). IsCallable entry.1) (λ (entry : List ℕ × FunctionType). ResultExtent entry.1.result) (λ entry h. result_extent entry.1.result h.narrow_result) unit.functions is.callable;
}
