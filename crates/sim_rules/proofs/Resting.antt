-- What a Leaf leaves to show at its stops, where each side has a list of visits.
use Rattle.std.proofs.Common.{◌≡◌, ℕ, List, [], Option, Some, None, ◌⊎◌, inl, inr, OnOk, Result, refl, sym, subst}
use Rattle.term_core_spec.specs.Term.{Term}
use Rattle.visit_walk_spec.specs.Visits.{Visit}
use Rattle.sim_rules_spec.specs.Rules.{Stop}
use Rattle.sim_rules_spec.specs.Sides.{Way}
use Rattle.sim_rules_terms.proofs.Later.{itself}
use Rattle.sim_rules.specs.Compared.{Compared}
use Rattle.sim_rules.specs.Held.{HasAdded}
use Rattle.sim_rules.specs.Terms.{stop_terms, stop_terms_if}
use Rattle.sim_rules.proofs.Held.{added_none}

module _ (t : Term) (c : Compared) (a d : Way) (x y : Option (List Visit)) (all : List Stop) where
  pub met_if : (before now : List Term) (old new : List ℕ) {E : Type 0} (r : Result (Unit {0}) E) (v w : List Visit) → x ≡ Some v → y ≡ Some w
      → OnOk r (HasAdded before now (stop_terms t c a d v w all) old new) → OnOk r (HasAdded before now (stop_terms_if t c a d x y all) old new)
  met_if before now old new r v w p q h =
      subst (λ (z : Option (List Visit)). OnOk r (HasAdded before now (stop_terms_if t c a d z y all) old new)) (sym p)
      (subst (λ (z : Option (List Visit)). OnOk r (HasAdded before now (stop_terms_if t c a d (Some v) z all) old new)) (sym q) h)

  nothing_if : (v w : Option (List Visit)) → (v ≡ None) ⊎ (w ≡ None) → stop_terms_if t c a d v w all ≡ []
  nothing_if None w none = refl
  nothing_if (Some v) None none = refl
  nothing_if (Some v) (Some w) none = elim none [ inl e ↦ absurd (some_none v e) | inr e ↦ absurd (some_none w e) ]
    where
      some_none : (v : List Visit) → Some v ≡ None → ⊥
      some_none v e = cc

  pub unmet : (trees : List Term) (ids : List ℕ) → (x ≡ None) ⊎ (y ≡ None) → HasAdded trees trees (stop_terms_if t c a d x y all) ids ids
  unmet trees ids none = subst (λ (l : List Term). HasAdded trees trees l ids ids) (sym (nothing_if x y none)) (added_none trees trees (itself trees) ids)
