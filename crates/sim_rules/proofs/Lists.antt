-- Lists of what is to be shown.
use Rattle.std.proofs.Common.{◌≡◌, ◌∙◌, List, ◌∷◌, ◌++◌, map, sym, ap, ap₂}
use Rattle.std.proofs.lemmas.List.{map-append}
use Rattle.std.proofs.lemmas.Simd.{map-map}
use Rattle.term_core_spec.specs.Term.{Term, or_term, not_term}
use Rattle.visit_walk_spec.specs.Visits.{Visit}
use Rattle.sim_rules_spec.specs.Points.{Convention}
use Rattle.sim_rules_spec.specs.Rules.{Stop, under, comes_too, ends_alike, leaf_goals}
use Rattle.sim_rules_spec.specs.Sides.{Way, condition_where, fails}
use Rattle.sim_rules.specs.Compared.{compared_by}
use Rattle.sim_rules.specs.Terms.{denial, stop_terms}

-- what a Leaf leaves to show under premises
pub leaf_list_is : (premises : List Term) (c : Convention) (a d : Way) (v w : List Visit) (all : List Stop)
    → or_term (denial premises) (not_term (condition_where a v fails)) ∷ stop_terms (denial premises) (compared_by c) a d v w all ≡ map (under premises) (leaf_goals c a d v w all)
leaf_list_is premises c a d v w all =
    let u : Term → Term = under premises in
    ap (λ (l : List Term). u (not_term (condition_where a v fails)) ∷ l)
    (ap₂ (λ (x y : List Term). x ++ y) (sym (map-map u (comes_too c a d v w) all)) (sym (map-map u (ends_alike c a d v w) all))
    ∙ sym (map-append u (map (comes_too c a d v w) all) (map (ends_alike c a d v w) all)))
