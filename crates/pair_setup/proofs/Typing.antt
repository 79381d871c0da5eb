-- In a typed unit each function that is called is declared, and each body is that of a declared function.
use Rattle.std.proofs.Common.{◌≡◌, ℕ, List, [], ◌∷◌, map, Some, refl, sym, subst, inl, inr, arith, zero, suc}
use Rattle.std.specs.Prelude.{true, bytes_eq, find, Contains, IsSome}
use Rattle.std.proofs.lemmas.Bool.{cases_Bool}
use Rattle.std.proofs.lemmas.List.Elements.{Contains-append_cases, All-contains}
use Rattle.std.proofs.lemmas.Slice.Eq.{bytes_eq-Decides}
use Rattle.c_token_spec.specs.Words.{entry_of}
use Rattle.c_types_spec.specs.declared.Scalar.{Scalar}
use Rattle.c_types_spec.specs.Core.{FunctionType, Body, Typed, Action, Groups}
use Rattle.c_types_spec.specs.HasType.{Scope, IsTyped, AreTyped, IsTypedBody, IsTypedUnit, scope_of, skip, sequence, evaluate, set, unset, store, call, choice, repeat, leave, switch, give_back, missing_return, last_group, one_group}
use Rattle.pair_setup.proofs.Added.{none_contained, only_contained, some-is}
use Rattle.pair_setup_spec.specs.SourceReach.{calls_in, calls_in_groups, body_of, CallsOn, Reaches, itself, further}

abbrev IsDeclared : Scope → List ℕ → Type 0
IsDeclared scope name = IsSome (entry_of scope.functions name)

module _ (scope : Scope) where
  mutual
    unfolding calls_in

    calls-declared : (action : Action) → IsTyped scope action → (name : List ℕ) → Contains (calls_in action) name → IsDeclared scope name
    calls-declared _ skip name among = absurd (none_contained name among)
    calls-declared _ (sequence first second a b) name among = elim (Contains-append_cases (calls_in first) (calls_in second) name among) [
      | inl h ↦ calls-declared first a name h
      | inr h ↦ calls-declared second b name h
    ]
    calls-declared _ (evaluate value type v) name among = absurd (none_contained name among)
    calls-declared _ (set local value type l v) name among = absurd (none_contained name among)
    calls-declared _ (unset local type l) name among = absurd (none_contained name among)
    calls-declared _ (store type address displacement value offset a v) name among = absurd (none_contained name among)
    calls-declared _ (call number function arguments result type is a r) name among =
        subst (IsDeclared scope) (sym (only_contained function name among)) (some-is (entry_of scope.functions function) type is)
    calls-declared _ (choice test type first second t a b) name among = elim (Contains-append_cases (calls_in first) (calls_in second) name among) [
      | inl h ↦ calls-declared first a name h
      | inr h ↦ calls-declared second b name h
    ]
    calls-declared _ (repeat number place test type step body t a b) name among = elim (Contains-append_cases (calls_in step) (calls_in body) name among) [
      | inl h ↦ calls-declared step a name h
      | inr h ↦ calls-declared body b name h
    ]
    calls-declared _ (leave jump) name among = absurd (none_contained name among)
    calls-declared _ (switch test type list t g) name among = groups-declared type list g name among
    calls-declared _ (give_back value v) name among = absurd (none_contained name among)
    calls-declared _ (missing_return offset) name among = absurd (none_contained name among)

    groups-declared : (type : Scalar) (list : Groups) → AreTyped scope type list → (name : List ℕ) → Contains (calls_in_groups list) name → IsDeclared scope name
    groups-declared _ _ (last_group type) name among = absurd (none_contained name among)
    groups-declared _ _ (one_group type values body rest v b g) name among = elim (Contains-append_cases (calls_in body) (calls_in_groups rest) name among) [
      | inl h ↦ calls-declared body b name h
      | inr h ↦ groups-declared type rest g name h
    ]

-- what a look-up finds is in the list, and passes
found-in : (bodies : List Body) (name : List ℕ) (body : Body) → find (λ (b : Body). bytes_eq b.name name) bodies ≡ Some body → Contains bodies body × (body.name ≡ name)
found-in [] name body e = absurd (cc)
found-in (first ∷ bodies) name body e = elim (cases_Bool (bytes_eq first.name name)) [
  | inl h ↦ (let same : first ≡ body = (let both : Some first ≡ Some body = rw h at e in cc) in
      ((0, omega arith, same), subst (λ (b : Body). b.name ≡ name) same ((bytes_eq-Decides first.name name).0 h)))
  | inr h ↦ (let r = found-in bodies name body (rw h at e) in ((suc r.0.0, omega (arith, r.0.1), r.0.2), r.1))
]

module _ (unit : Typed) (typed : IsTypedUnit unit) where
  body-typed : (name : List ℕ) (body : Body) → body_of unit name ≡ Some body → IsTypedBody unit body
  body-typed name body is = All-contains (λ (b : Body). IsTypedBody unit b) unit.bodies body typed.bodies_typed (found-in unit.bodies name body is).0

  -- a function with a body is declared
  pub body-declared : (name : List ℕ) (body : Body) → body_of unit name ≡ Some body → IsSome (entry_of unit.functions name)
  body-declared name body is =
      subst (λ n. IsSome (entry_of unit.functions n)) (found-in unit.bodies name body is).1
      (some-is (entry_of unit.functions body.name) body.signature (body-typed name body is).declared)

  pub called-declared : (name other : List ℕ) → CallsOn unit name other → IsSome (entry_of unit.functions other)
  called-declared name other calls =
      calls-declared (scope_of unit calls.body) calls.body.action (body-typed name calls.body calls.body_is).typed other calls.calls

  pub reached-declared : (name other : List ℕ) → IsSome (entry_of unit.functions name) → Reaches unit name other → IsSome (entry_of unit.functions other)
  reached-declared name _ some itself = some
  reached-declared name _ some (further middle other reached calls) = called-declared middle other calls

  -- a function that isn't declared reaches itself alone
  pub undeclared-alone : (name other : List ℕ) → (IsSome (entry_of unit.functions name) → ⊥) → Reaches unit name other → other ≡ name
  undeclared-alone name _ none itself = refl
  undeclared-alone name _ none (further middle other reached calls) =
      let same = undeclared-alone name middle none reached in
      absurd (none (subst (λ n. IsSome (entry_of unit.functions n)) same (body-declared middle calls.body calls.body_is)))

-- a name in the list of the functions' names is declared
pub listed-declared : (functions : List (List ℕ × FunctionType)) (name : List ℕ) → Contains (map (λ (entry : List ℕ × FunctionType). entry.0) functions) name
    → IsSome (entry_of functions name)
listed-declared [] name among = absurd (none_contained name among)
listed-declared (entry ∷ functions) name (zero, below, here) =
    let passes : bytes_eq entry.0 name ≡ true = (bytes_eq-Decides entry.0 name).1 here in rw passes refl
listed-declared (entry ∷ functions) name (suc k, below, here) = elim (cases_Bool (bytes_eq entry.0 name)) [
  | inl h ↦ rw h refl
  | inr h ↦ rw h (listed-declared functions name (k, omega (arith, below), here))
]
