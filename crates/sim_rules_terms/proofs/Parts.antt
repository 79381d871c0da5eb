-- Several visits as one, by their positions.
use Rattle.std.proofs.Common.{◌≡◌, ◌∙◌, ℕ, ◌<◌, ◌||◌, zero, suc, Bool, true, false, if◌then◌else◌, List, [], ◌∷◌, length, Option, Some, refl, sym, ap, subst, arith}
use Rattle.std.specs.Prelude.{slice_get, is_some, nat_lt}
use Rattle.std.specs.List.{All, list_any}
use Rattle.std.specs.HashMap.{get}
use Rattle.std.proofs.lemmas.Bool.{lt-ltb}
use Rattle.std.proofs.lemmas.List.{length-map}
use Rattle.term_core_spec.specs.declared.Variable.{Variable}
use Rattle.term_core_spec.specs.Same.{same_variable}
use Rattle.term_core_spec.specs.Term.{Term}
use Rattle.term_core_spec.specs.Substitution.{State}
use Rattle.visit_walk_spec.specs.Visits.{Visit}
use Rattle.path_cond_spec.specs.Junctions.{junction_of, junctions}
use Rattle.path_cond_spec.specs.Conditions.{Conditional}
use Rattle.term_substitution.specs.States.{state_of}
use Rattle.path_cond.specs.declared.ids.Ids.{Ids}
use Rattle.path_cond.specs.Ids.{id_at}
use Rattle.path_cond.specs.States.{HasState, IsMapOf, IsNumbered}
use Rattle.path_cond.specs.Result.{AreMembers}
use Rattle.sim_rules_spec.specs.Sides.{Way, members, members_from}
use Rattle.sim_rules_terms.specs.declared.sight.Sight.{Sight}
use Rattle.sim_rules_terms.specs.declared.sight.Part.{Part}
use Rattle.sim_rules_terms.specs.Ways.{IsSight, IsPart, IsPartOf}

-- a state has an id at each number
pub numbered : (trees : List Term) (variables : List Variable) (start : State) (ids : ℕ → Option ℕ) (state : State) → HasState trees variables start ids state → IsNumbered (length variables) ids
numbered trees variables start ids state has k less =
    let v = at variables k less in
    ap is_some (has.bound k v.0 v.1).1
  where
    at : (vs : List Variable) (k : ℕ) → k < length vs → (v : Variable) × (slice_get vs k ≡ Some v)
    at [] k less = absurd (omega arith)
    at (x ∷ vs) zero less = (x, refl)
    at (x ∷ vs) (suc k) less = at vs k (omega arith)

-- the start of a way is what the map has
pub start_is : (trees : List Term) (ids : Variable → Option ℕ) (s : State) → IsMapOf trees ids s → state_of trees ids ≡ s
start_is trees ids s is = λ i v. is.current v i

pub of_start : (trees : List Term) (variables : List Variable) (ids : Variable → Option ℕ) (s : State) (has : ℕ → Option ℕ) (state : State) → IsMapOf trees ids s
    → HasState trees variables s has state → HasState trees variables (state_of trees ids) has state
of_start trees variables ids s has state is h = subst (λ (u : State). HasState trees variables u has state) (sym (start_is trees ids s is)) h

-- positions of visits are those of conditions
pub are_members : (trees : List Term) (w : Way) (s : Sight) (ms : List ℕ) → IsSight trees w s → All (λ (m : ℕ). m < length s.visits.now.visits) ms → AreMembers trees s.found.now ms
are_members trees w s ms is within = record {
  start = w.start;
  graph = w.graph;
  junctions = junctions w.walk s.visits.now.visits;
  are = is.conditions;
  within = λ k d less. let same = length-map s.visits.now.visits (junction_of w.walk s.visits.now.visits) in let at = within k d less in omega (arith, same, at);
}

-- whether a visit passes a test
any_by : (test : Visit → Bool) (from : ℕ) (v : Visit) (visits : List Visit) (b : Bool) → nat_lt 0 (length (members_from (suc from) test visits)) ≡ list_any test visits
    → nat_lt 0 (length (if b then from ∷ members_from (suc from) test visits else members_from (suc from) test visits)) ≡ (b || list_any test visits)
any_by test from v visits true rest = lt-ltb 0 (suc (length (members_from (suc from) test visits))) (omega arith)
any_by test from v visits false rest = rest

any_from : (test : Visit → Bool) (from : ℕ) (visits : List Visit) → nat_lt 0 (length (members_from from test visits)) ≡ list_any test visits
any_from test from [] = refl
any_from test from (v ∷ visits) = any_by test from v visits (test v) (any_from test (suc from) visits)

pub is_part : (trees : List Term) (w : Way) (visits : List Visit) (test : Visit → Bool) (ms : List ℕ) (p : Part) → ms ≡ members test visits → IsPartOf trees w visits ms p → IsPart trees w visits test p
is_part trees w visits test ms p same of =
    let at : IsPartOf trees w visits (members test visits) p = subst (λ (l : List ℕ). IsPartOf trees w visits l p) same of in
    record { some = at.some ∙ any_from test 0 visits; condition = at.condition; terms = at.terms }
