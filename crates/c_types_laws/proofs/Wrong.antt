-- Cores that are not typed.
use Rattle.std.proofs.Common.{true, ◌≡◌, ◌<◌, ◌+◌, ℕ, pos, List, [], ◌∷◌, codes, Option, Some, None, slice_get, refl, sym, ap, ◌∙◌, arith, true≢false}
use Rattle.std.proofs.lemmas.Option.{none-some, same_Some}
use Rattle.c_token_spec.specs.Words.{entry_of}
use Rattle.c_types_spec.specs.declared.Scalar.{Scalar}
use Rattle.c_types_spec.specs.Types.{int, unsigned_int, word, scalar}
use Rattle.c_types_spec.specs.Core.{GlobalSize, Core, Constant, ReadLocal, GlobalAddress, Target, Set, Call, Return, FunctionType}
use Rattle.c_types_spec.specs.HasType.{Scope, HasType, HaveTypes, IsTyped, Numbers}
use Rattle.c_types_spec.specs.HasType as typing
use Rattle.c_types_laws.specs.Samples.{small}
use Rattle.c_types_laws.proofs.Operands.{type_of-is, narrow-is}
use Rattle.c_types_laws.proofs.Actions.{numbers-order}

local_there : (s type : Scalar) (local offset : ℕ) → HasType small None (ReadLocal s local offset) type → slice_get small.locals local ≡ Some s
local_there s type local offset (typing.read_local t l o n h) = h

pub no_local : HasType small None (ReadLocal int 1 0) int → ⊥
no_local h = none-some int (local_there int int 1 0 h)

global_there : (name : List ℕ) → HasType small None (GlobalAddress name) word → (size : GlobalSize) × (k : ℕ) × (k < 0)
global_there name (typing.global_address n h) = (h.0, h.1.0, h.1.1)

pub no_global : HasType small None (GlobalAddress (codes "x")) word → ⊥
no_global h = let below = (global_there (codes "x") h).2 in omega arith

target_there : (scope : Scope) (target : Option Scalar) (s type : Scalar) (offset : ℕ) → HasType scope target (Target s offset) type → target ≡ Some s
target_there scope target s type offset (typing.stored_to t o n h) = h

pub no_target : HasType small None (Target int 0) int → ⊥
no_target h = none-some int (target_there small None int int 0 h)

pub no_wide : HasType small None (Constant (scalar true 64) (pos 0)) (scalar true 64) → ⊥
no_wide h = true≢false (sym (narrow-is small None (Constant (scalar true 64) (pos 0)) (scalar true 64) h))

set_there : (scope : Scope) (local : ℕ) (value : Core) → IsTyped scope (Set local value) → (type : Scalar) × (slice_get scope.locals local ≡ Some type) × HasType scope None value type
set_there scope local value (typing.set l v type e h) = (type, e, h)

pub no_set : IsTyped small (Set 0 (Constant unsigned_int (pos 0))) → ⊥
no_set h =
    let parts = set_there small 0 (Constant unsigned_int (pos 0)) h in
    let is : unsigned_int ≡ int = type_of-is small None (Constant unsigned_int (pos 0)) parts.0 parts.2 ∙ sym (same_Some int parts.0 parts.1) in
    true≢false (sym (ap (λ (s : Scalar). s.is_signed) is))

call_there : (scope : Scope) (number : ℕ) (function : List ℕ) (arguments : List Core) (result : Option ℕ) → IsTyped scope (Call number function arguments result) → (type : FunctionType) × (entry_of scope.functions function ≡ Some type) × HaveTypes scope arguments type.parameters
call_there scope number function arguments result (typing.call n f a r type e h k) = (type, e, h)

no_fewer : (scope : Scope) (types : List Scalar) → HaveTypes scope [] types → types ≡ []
no_fewer scope types typing.no_arguments = refl

some-none : (s : Scalar) (rest : List Scalar) → s ∷ rest ≡ [] → ⊥
some-none s rest e = cc

pub no_call : IsTyped small (Call 0 (codes "g") [] None) → ⊥
no_call h =
    let parts = call_there small 0 (codes "g") [] None h in
    let e : Some (record { parameters = int ∷ []; result = None }) ≡ Some parts.0 = parts.1 in
    let none : parts.0.parameters ≡ [] = no_fewer small parts.0.parameters parts.2 in
    let one : int ∷ [] ≡ parts.0.parameters = ap (λ (t : FunctionType). t.parameters) (same_Some _ parts.0 e) in
    some-none int [] (one ∙ none)

return_there : (scope : Scope) → IsTyped scope (Return None) → scope.returned ≡ None
return_there scope (typing.give_back value h) = h

pub no_return : IsTyped small (Return None) → ⊥
no_return h = none-some int (sym (return_there small h))

pub no_numbers : (end : ℕ) → Numbers 0 end (0 ∷ 0 ∷ []) → ⊥
no_numbers end h = let is : 0 ≡ 0 + 1 = (numbers-order 0 end (0 ∷ 0 ∷ []) h).1 1 0 refl in omega arith
