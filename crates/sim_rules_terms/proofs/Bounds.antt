-- Bounds that are not broken, one after the other.
use Rattle.std.proofs.Common.{◌≡◌, ◌∙◌, ℕ, ◌+◌, ◌<◌, suc, List, [], ◌∷◌, length, map, drop, get_or, ap, arith}
use Rattle.std.specs.List.{fold}
use Rattle.std.proofs.lemmas.List.{at_drop_more}
use Rattle.term_core_spec.specs.Term.{Term, and_term, not_term}
use Rattle.visit_walk_spec.specs.Visits.{Visit}
use Rattle.graph_core_spec.specs.declared.Mark.{Mark}
use Rattle.proof_tree.specs.Frames.{mark_of}
use Rattle.sim_rules_spec.specs.Sides.{Way, unbroken, condition_where, breaks, visit_mark}

pub bound_more : (w : Way) (visits : List Visit) (bounds : List Mark) (i : ℕ) (d : Mark) (u : Term) → i < length bounds
    → fold and_term u (unbroken w visits i (map mark_of (drop i bounds)))
    ≡ fold and_term (and_term u (not_term (condition_where w visits (breaks w.walk (visit_mark (mark_of (get_or bounds i d))) i)))) (unbroken w visits (i + 1) (map mark_of (drop (i + 1) bounds)))
bound_more w visits bounds i d u less =
    let next_is : suc i ≡ i + 1 = omega arith in
    at_drop_more (λ (l : List Mark). fold and_term u (unbroken w visits i (map mark_of l))) bounds i d less
    ∙ ap (λ (n : ℕ). fold and_term (and_term u (not_term (condition_where w visits (breaks w.walk (visit_mark (mark_of (get_or bounds i d))) i)))) (unbroken w visits n (map mark_of (drop (i + 1) bounds)))) next_is
