-- Tests of guards that are added to a list, one after the other.
use Rattle.std.specs.Prelude.{◌≡◌, ℕ, ◌<◌, List, [], ◌∷◌, ◌++◌, length, map, slice_get, Option, Some, None, Result, IfOk, IfSome, OnOk}
use Rattle.term_core_spec.specs.Term.{Term}
use Rattle.term_bank.specs.Nodes.{tree_at}
use Rattle.c_graph_spec.specs.Values.{Terms}
use Rattle.c_graph_terms.specs.declared.values.Operands.{Operands}
use Rattle.c_graph_terms.specs.declared.values.ValueIds.{ValueIds}
use Rattle.c_graph_terms.specs.Built.{IsGrown, AreTerms}

-- the ids are those of the terms
abbrev pub AreIdsOf : (trees : List Term) → (ids : List ℕ) → (terms : List Term) → Type 0
AreIdsOf trees ids terms = map (slice_get trees) ids ≡ map Some terms

-- the ids after are those before, and then those of the tests
pub record IsTested (old new : List Term) (before after : List ℕ) (tests : List Term) : Type 0 where
  pub is_grown : IsGrown old new
  pub added : (terms : List Term) → AreIdsOf old before terms → AreIdsOf new after (terms ++ tests)

abbrev pub AddsTests : {T E : Type 0} → (old new : List Term) → (before after : List ℕ) → Result T E → List Term → Type 0
AddsTests old new before after result tests = OnOk result (IsTested old new before after tests)

-- a value, and the tests of its guards
pub record IsEvaluated (old new : List Term) (before after : List ℕ) (ids : ValueIds) (terms : Terms) (tests : List Term) : Type 0 where
  pub tested : IsTested old new before after tests
  pub are : AreTerms new ids terms

abbrev pub Evaluates : {E : Type 0} → (old new : List Term) → (before after : List ℕ) → Result ValueIds E → Terms → List Term → Type 0
Evaluates old new before after result terms tests = IfOk result (λ ids. IsEvaluated old new before after ids terms tests)

-- two values, and the tests of their guards
pub record AreEvaluated (old new : List Term) (before after : List ℕ) (ids : Operands) (first second : Terms) (tests : List Term) : Type 0 where
  pub tested : IsTested old new before after tests
  pub first_are : AreTerms new ids.first first
  pub second_are : AreTerms new ids.second second

-- ---- a test, or none

abbrev pub ids_of : Option ℕ → List ℕ
ids_of None = []
ids_of (Some id) = id ∷ []

abbrev pub trees_of : List Term → Option ℕ → List Term
trees_of trees None = []
trees_of trees (Some id) = tree_at trees id ∷ []

pub record IsTest (old new : List Term) (found : Option ℕ) (tests : List Term) : Type 0 where
  pub is_grown : IsGrown old new
  pub within : IfSome found (λ id. id < length new)
  pub are : trees_of new found ≡ tests

abbrev pub BuildsTest : {E : Type 0} → (old new : List Term) → Result (Option ℕ) E → List Term → Type 0
BuildsTest old new result tests = IfOk result (λ found. IsTest old new found tests)
