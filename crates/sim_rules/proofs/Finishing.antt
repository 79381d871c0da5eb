-- A rule's obligations, from what it leaves to show of both sides' ways and visits.
use Rattle.std.proofs.Common.{◌≡◌, ℕ, List, true, false, Option, Some, refl, subst}
use Rattle.term_core_spec.specs.Term.{Term}
use Rattle.graph_core_spec.specs.declared.Mark.{Mark}
use Rattle.visit_walk_spec.specs.Shape.{Shape}
use Rattle.visit_walk_spec.specs.Visits.{Visit, Walk}
use Rattle.visit_walk_spec.specs.Outcomes.{AreVisits}
use Rattle.proof_tree_spec.specs.Frames.{Frame, Hold}
use Rattle.sim_rules_spec.specs.Points.{Convention}
use Rattle.sim_rules_spec.specs.Obligations.{Leaf, RestrictBinary, RestrictSource, Wait}
use Rattle.sim_rules_spec.specs.Rules.{Opening, Seen, premise_terms, stops, leaf_terms, restricted, waiting_way}
use Rattle.sim_rules_spec.specs.Sides.{Way, AreVisitsIf, IsCutTo, binary_way, source_way}
use Rattle.sim_rules.specs.Compared.{compared_by}
use Rattle.sim_rules.specs.Faults.{AreKnown}
use Rattle.sim_rules_terms.specs.Held.{AreHeld}
use Rattle.sim_rules.specs.Outcome.{AreObligations}
use Rattle.sim_rules.specs.Terms.{leaf_all, restrict_all, wait_all}
use Rattle.sim_rules.proofs.Lists.{leaf_list_is}

there : (walk : Walk) (v : Option (List Visit)) (visits : List Visit) → v ≡ Some visits → AreVisitsIf walk v → AreVisits walk visits
there walk v visits is are = subst (AreVisitsIf walk) is are

abbrev pub seen : Way → Option (List Visit) → Seen
seen w visits = record { way = w; visits = visits }

module _ (trees : List Term) (c : Convention) (o : Opening) (f : Frame) (x y : Option (List Visit)) (ids : List ℕ) where
  abbrev a : Way
  a = binary_way f o.binary

  abbrev d : Way
  d = source_way f o.source

  -- of visits that are there
  held_if : (terms : Option (List Visit) → Option (List Visit) → List Term) (v w : Option (List Visit)) → x ≡ v → y ≡ w → AreHeld trees ids (terms x y) → AreHeld trees ids (terms v w)
  held_if terms v w p q h =
      subst (λ (z : Option (List Visit)). AreHeld trees ids (terms v z)) q (subst (λ (z : Option (List Visit)). AreHeld trees ids (terms z y)) p h)

  pub leaf_obligations : AreKnown true a.walk x → AreKnown true d.walk y → AreHeld trees ids (leaf_all (compared_by c) o f (seen a x) (seen d y)) → AreObligations trees c o f Leaf ids
  leaf_obligations of_a of_d h =
      let v = of_a.there refl in
      let w = of_d.there refl in
      record {
        terms = leaf_terms c o f v.0 w.0;
        are = record { binary = v.0; source = w.0; binary_are = there a.walk x v.0 v.1 of_a.are; source_are = there d.walk y w.0 w.1 of_d.are; terms_are = refl };
        held = subst (AreHeld trees ids) (leaf_list_is (premise_terms o f (seen a (Some v.0)) (seen d (Some w.0))) c a d v.0 w.0 (stops c f))
            (held_if (λ p q. leaf_all (compared_by c) o f (seen a p) (seen d q)) (Some v.0) (Some w.0) v.1 w.1 h);
      }

  module _ (bound : Mark) (s : Shape) where
    pub binary_obligations : let r = restricted a s bound in
        IsCutTo f.binary bound.node s → AreKnown true r.walk x → AreKnown false d.walk y
        → AreHeld trees ids (restrict_all o f (seen r x) (seen d y) (seen r x) f.start.binary_bounds bound) → AreObligations trees c o f (RestrictBinary bound) ids
    binary_obligations cut of_a of_d h =
        let r = restricted a s bound in
        let v = of_a.there refl in
        record {
          terms = restrict_all o f (seen r (Some v.0)) (seen d y) (seen r (Some v.0)) f.start.binary_bounds bound;
          are = record { shape = s; cut = cut; binary = v.0; source = y; binary_are = there r.walk x v.0 v.1 of_a.are; source_are = of_d.are; terms_are = refl };
          held = held_if (λ p q. restrict_all o f (seen r p) (seen d q) (seen r p) f.start.binary_bounds bound) (Some v.0) y v.1 refl h;
        }

    pub source_obligations : let r = restricted d s bound in
        IsCutTo f.source bound.node s → AreKnown false a.walk x → AreKnown true r.walk y
        → AreHeld trees ids (restrict_all o f (seen a x) (seen r y) (seen r y) f.start.source_bounds bound) → AreObligations trees c o f (RestrictSource bound) ids
    source_obligations cut of_a of_d h =
        let r = restricted d s bound in
        let w = of_d.there refl in
        record {
          terms = restrict_all o f (seen a x) (seen r (Some w.0)) (seen r (Some w.0)) f.start.source_bounds bound;
          are = record { shape = s; cut = cut; binary = x; source = w.0; binary_are = of_a.are; source_are = there r.walk y w.0 w.1 of_d.are; terms_are = refl };
          held = held_if (λ p q. restrict_all o f (seen a p) (seen r q) (seen r q) f.start.source_bounds bound) x (Some w.0) refl w.1 h;
        }

  pub wait_obligations : (hold : Hold) → let r = waiting_way f o.binary hold.nodes.binary in
      AreKnown true r.walk x → AreKnown false d.walk y → AreHeld trees ids (wait_all (compared_by c) o f hold (seen r x) (seen d y)) → AreObligations trees c o f (Wait hold) ids
  wait_obligations hold of_a of_d h =
      let r = waiting_way f o.binary hold.nodes.binary in
      let v = of_a.there refl in
      record {
        terms = wait_all (compared_by c) o f hold (seen r (Some v.0)) (seen d y);
        are = record { binary = v.0; source = y; binary_are = there r.walk x v.0 v.1 of_a.are; source_are = of_d.are; terms_are = refl };
        held = held_if (λ p q. wait_all (compared_by c) o f hold (seen r p) (seen d q)) (Some v.0) y v.1 refl h;
      }
