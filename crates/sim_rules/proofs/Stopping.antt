-- Claims at stops, one stop after the other.
use Rattle.std.proofs.Common.{◌≡◌, ◌∙◌, ℕ, ◌+◌, ◌<◌, suc, List, [], ◌∷◌, ◌++◌, length, map, take, get_or, sym, ap, subst, arith}
use Rattle.std.proofs.lemmas.List.{take_more, map-append, length-map, length-take-le}
use Rattle.term_core_spec.specs.Term.{Term}
use Rattle.visit_walk_spec.specs.Visits.{Visit}
use Rattle.proof_tree_spec.specs.Frames as spec
use Rattle.proof_tree.specs.declared.frame.Goal.{Goal}
use Rattle.proof_tree.specs.Frames.{goal_of}
use Rattle.sim_rules_spec.specs.Rules.{Stop, goal_stops}
use Rattle.sim_rules_spec.specs.Sides.{Way}
use Rattle.sim_rules.specs.declared.point.Claim.{Claim}
use Rattle.sim_rules.specs.declared.point.Claim.TheVariants.{ComesToo, EndsAlike}
use Rattle.sim_rules.specs.Compared.{Compared}
use Rattle.sim_rules.specs.Held.{HasAdded}
use Rattle.sim_rules.specs.Stops.{goal_stop, shown_term, shown_terms}
use Rattle.sim_rules.specs.Terms.{stop_terms}
use Rattle.sim_rules.proofs.Held.{added_then}

goal_stops-append : (k : ℕ) (xs : List spec.Goal) (y : spec.Goal) → goal_stops k (xs ++ y ∷ []) ≡ goal_stops k xs ++ goal_stop (k + length xs) y ∷ []
goal_stops-append k [] y = let e : k ≡ k + 0 = omega arith in ap (λ (n : ℕ). goal_stop n y ∷ []) e
goal_stops-append k (x ∷ xs) y =
    let e : suc k + length xs ≡ k + length (x ∷ xs) = omega arith in
    ap (λ (l : List Stop). goal_stop k x ∷ l) (goal_stops-append (suc k) xs y ∙ ap (λ (n : ℕ). goal_stops (suc k) xs ++ goal_stop n y ∷ []) e)

goal_stops-more : (goals : List Goal) (i : ℕ) (d : Goal) → i < length goals
    → goal_stops 0 (map goal_of (take (i + 1) goals)) ≡ goal_stops 0 (map goal_of (take i goals)) ++ goal_stop i (goal_of (get_or goals i d)) ∷ []
goal_stops-more goals i d less =
    let long : length (map goal_of (take i goals)) ≡ i = length-map (take i goals) goal_of ∙ length-take-le i goals (omega arith) in
    let index : 0 + length (map goal_of (take i goals)) ≡ i = omega (arith, long) in
    ap (λ (l : List Goal). goal_stops 0 (map goal_of l)) (take_more goals i d less)
    ∙ ap (goal_stops 0) (map-append goal_of (take i goals) (get_or goals i d ∷ []))
    ∙ goal_stops-append 0 (map goal_of (take i goals)) (goal_of (get_or goals i d))
    ∙ ap (λ (n : ℕ). goal_stops 0 (map goal_of (take i goals)) ++ goal_stop n (goal_of (get_or goals i d)) ∷ []) index

module _ (claim : Claim) (denied : Term) (c : Compared) (a d : Way) (v w : List Visit) where
  -- one goal more
  pub shown_more : (first second third : List Term) (goals : List Goal) (i : ℕ) (g : Goal) (s : Stop) (old mid new : List ℕ) → i < length goals
      → g ≡ get_or goals i g → s ≡ goal_stop i (goal_of g)
      → HasAdded first second (shown_terms claim denied c a d v w (goal_stops 0 (map goal_of (take i goals)))) old mid
      → HasAdded second third (shown_terms claim denied c a d v w (s ∷ [])) mid new
      → HasAdded first third (shown_terms claim denied c a d v w (goal_stops 0 (map goal_of (take (i + 1) goals)))) old new
  shown_more first second third goals i g s old mid new less is stop p q =
      let f : Stop → Term = λ s. shown_term claim denied c a d v w s in
      let before : List Stop = goal_stops 0 (map goal_of (take i goals)) in
      let same : map f before ++ f s ∷ [] ≡ map f (goal_stops 0 (map goal_of (take (i + 1) goals))) =
      sym (map-append f before (s ∷ []))
      ∙ ap (λ (u : Stop). map f (before ++ u ∷ [])) (stop ∙ ap (λ (x : Goal). goal_stop i (goal_of x)) is)
      ∙ ap (map f) (sym (goal_stops-more goals i g less)) in
      subst (λ (l : List Term). HasAdded first third l old new) same (added_then first second third (map f before) (f s ∷ []) old mid new p q)

-- both claims
pub both_claims : (denied : Term) (c : Compared) (a d : Way) (v w : List Visit) (all : List Stop) (first second third : List Term) (old mid new : List ℕ)
    → HasAdded first second (shown_terms ComesToo denied c a d v w all) old mid → HasAdded second third (shown_terms EndsAlike denied c a d v w all) mid new
    → HasAdded first third (stop_terms denied c a d v w all) old new
both_claims denied c a d v w all first second third old mid new p q =
    added_then first second third (shown_terms ComesToo denied c a d v w all) (shown_terms EndsAlike denied c a d v w all) old mid new p q
