-- A rule has one list of obligations.
use Rattle.std.proofs.Common.{◌≡◌, ◌∙◌, ℕ, ◌<◌, List, [], ◌∷◌, length, get_or, Option, Some, None, refl, sym, ap, subst, inl, inr, arith}
use Rattle.std.proofs.lemmas.List.{get_or_default, same_lists}
use Rattle.std.proofs.lemmas.Option.{unwrap_or-slice_get}
use Rattle.term_core_spec.specs.Term.{Term}
use Rattle.graph_core_spec.specs.declared.Mark.{Mark}
use Rattle.graph_core_spec.specs.declared.Next.TheVariants as next
use Rattle.visit_walk_spec.specs.declared.Successors.{Successors}
use Rattle.visit_walk_spec.specs.declared.Successors.TheVariants.{One}
use Rattle.visit_walk_spec.specs.Shape.{Shape, successors_at}
use Rattle.visit_walk_spec.specs.Visits.{Visit, Walk}
use Rattle.visit_walk_spec.specs.Outcomes.{AreVisits}
use Rattle.visit_walk_spec.proofs.Order.{one_list, acyclic}
use Rattle.proof_tree_spec.specs.Frames.{Side, Frame}
use Rattle.sim_rules_spec.specs.Sides.{binary_way, source_way, IsCutTo, AreVisitsIf}
use Rattle.sim_rules_spec.specs.Rules.{Opening, restricted, premise_terms, under, excluded, AreOfBinaryRestrict, AreOfSourceRestrict}

-- a side's graph is cut to a point in one way
one_shape : (side : Side) (point : ℕ) (s t : Shape) → IsCutTo side point s → IsCutTo side point t → s ≡ t
one_shape side point s t of_s of_t = same_lists s t long each
  where
    long : length s ≡ length t
    long = of_s.long ∙ sym of_t.long

    alike : (n : ℕ) → n < length s → n < length t → successors_at s n ≡ successors_at t n
    alike n in_s in_t = elim (of_s.each n in_s) [
      | inl a ↦ elim (of_t.each n in_t) [ inl b ↦ a.1 ∙ sym b.1 | inr b ↦ absurd (b.0 a.0) ]
      | inr a ↦ elim (of_t.each n in_t) [ inl b ↦ absurd (a.0 b.0) | inr b ↦ a.1 ∙ sym b.1 ]
    ]

    read : (shape : Shape) (n : ℕ) (d : Successors) → n < length shape → get_or shape n d ≡ successors_at shape n
    read shape n d below = get_or_default shape n d (One next.Err) below ∙ sym (unwrap_or-slice_get shape n (One next.Err))

    each : (n : ℕ) (d : Successors) → n < length s → get_or s n d ≡ get_or t n d
    each n d below =
        let also : n < length t = omega (arith, below, long) in
        read s n d below ∙ alike n below also ∙ sym (read t n d also)

-- a walk has one list of visits, or is cyclic
one_list_if : (w : Walk) (one two : Option (List Visit)) → AreVisitsIf w one → AreVisitsIf w two → one ≡ two
one_list_if w (Some xs) (Some ys) x y = ap Some (one_list w xs ys x y)
one_list_if w (Some xs) None x y = absurd (acyclic w xs x y.0 y.1)
one_list_if w None (Some ys) x y = absurd (acyclic w ys y x.0 x.1)
one_list_if w None None x y = refl

module _ (o : Opening) (f : Frame) (bound : Mark) where
  abbrev binary_terms : Shape → List Visit → Option (List Visit) → List Term
  binary_terms shape binary source =
      let a = restricted (binary_way f o.binary) shape bound in
      under (premise_terms o f (record { way = a; visits = Some binary }) (record { way = source_way f o.source; visits = source }))
      (excluded a binary f.start.binary_bounds bound) ∷ []

  pub one_binary_restrict : (one two : List Term) → AreOfBinaryRestrict o f bound one → AreOfBinaryRestrict o f bound two → one ≡ two
  one_binary_restrict one two x y =
      let shape_is : y.shape ≡ x.shape = one_shape f.binary bound.node y.shape x.shape y.cut x.cut in
      let there = subst (λ (s : Shape). AreVisits (restricted (binary_way f o.binary) s bound).walk y.binary) shape_is y.binary_are in
      let binary_is : y.binary ≡ x.binary = one_list (restricted (binary_way f o.binary) x.shape bound).walk y.binary x.binary there x.binary_are in
      let source_is : y.source ≡ x.source = one_list_if (source_way f o.source).walk y.source x.source y.source_are x.source_are in
      x.terms_are ∙ sym (y.terms_are ∙ (λ i. binary_terms (shape_is i) (binary_is i) (source_is i)))

  abbrev source_terms : Shape → Option (List Visit) → List Visit → List Term
  source_terms shape binary source =
      let b = restricted (source_way f o.source) shape bound in
      under (premise_terms o f (record { way = binary_way f o.binary; visits = binary }) (record { way = b; visits = Some source }))
      (excluded b source f.start.source_bounds bound) ∷ []

  pub one_source_restrict : (one two : List Term) → AreOfSourceRestrict o f bound one → AreOfSourceRestrict o f bound two → one ≡ two
  one_source_restrict one two x y =
      let shape_is : y.shape ≡ x.shape = one_shape f.source bound.node y.shape x.shape y.cut x.cut in
      let there = subst (λ (s : Shape). AreVisits (restricted (source_way f o.source) s bound).walk y.source) shape_is y.source_are in
      let source_is : y.source ≡ x.source = one_list (restricted (source_way f o.source) x.shape bound).walk y.source x.source there x.source_are in
      let binary_is : y.binary ≡ x.binary = one_list_if (binary_way f o.binary).walk y.binary x.binary y.binary_are x.binary_are in
      x.terms_are ∙ sym (y.terms_are ∙ (λ i. source_terms (shape_is i) (binary_is i) (source_is i)))
