-- Shapes cut node by node.
use Rattle.std.proofs.Common.{◌≡◌, ◌∙◌, ℕ, ◌+◌, ◌<◌, ◌≤◌, List, length, refl, sym, ap, inl, inr, subst, arith, ◌⊎◌}
use Rattle.std.specs.Prelude.{Contains, slice_set}
use Rattle.std.proofs.lemmas.Bool.{cases_lt}
use Rattle.std.proofs.lemmas.List.{get_or-set_same, get_or-set_other, length-set}
use Rattle.std.proofs.lemmas.Option.{unwrap_or-slice_get}
use Rattle.graph_core_spec.specs.Graph.{Graph, Node}
use Rattle.graph_core_spec.specs.declared.Next.TheVariants as next
use Rattle.visit_walk_spec.specs.declared.Successors.TheVariants.{Nothing, One}
use Rattle.visit_walk_spec.specs.Shape.{Shape, shape_of, successors_at}
use Rattle.proof_tree_spec.specs.Frames.{Side}
use Rattle.sim_rules_spec.specs.Sides.{Reaches, IsCutTo, graph_at}
use Rattle.sim_rules.specs.Tables.{IsCutUnless, LeadsTo}
use Rattle.sim_rules.proofs.Leading.{leads_path, path_leads}

module _ (found : List ℕ) (point : ℕ) (old : Shape) where
  abbrev Stays : ℕ → Type 0
  Stays n = (n ≡ point) ⊎ Contains found n

  -- the node stays as it was, or walks end there
  abbrev IsCutAt : Shape → ℕ → Type 0
  IsCutAt now n = (Stays n × (successors_at now n ≡ successors_at old n)) ⊎ ((Stays n → ⊥) × (successors_at now n ≡ Nothing))

  -- what the nodes so far are, and the others
  pub record IsCutSoFar (now : Shape) (i : ℕ) : Type 0 where
    pub long : length now ≡ length old
    pub done : (n : ℕ) → n < i → IsCutAt now n
    pub rest : (n : ℕ) → i ≤ n → successors_at now n ≡ successors_at old n

  pub cut_none : IsCutSoFar old 0
  cut_none = record { long = refl; done = λ n less. absurd (omega arith); rest = λ n more. refl }

  at_set : (now : Shape) (i : ℕ) → i < length now → successors_at (slice_set now i Nothing) i ≡ Nothing
  at_set now i less = unwrap_or-slice_get (slice_set now i Nothing) i (One next.Err) ∙ get_or-set_same now i Nothing (One next.Err) less

  beside_set : (now : Shape) (i n : ℕ) → (n ≡ i → ⊥) → successors_at (slice_set now i Nothing) n ≡ successors_at now n
  beside_set now i n apart = unwrap_or-slice_get (slice_set now i Nothing) n (One next.Err) ∙ get_or-set_other now i n Nothing (One next.Err) apart ∙ sym (unwrap_or-slice_get now n (One next.Err))

  module _ (now after : Shape) (i : ℕ) (less : i < length now) (so_far : IsCutSoFar now i) where
    kept_one : Stays i → IsCutSoFar now (i + 1)
    kept_one stays = record {
      long = so_far.long;
      done = λ n below. elim (cases_lt n i) [
        | inl earlier ↦ so_far.done n earlier
        | inr here ↦ let same : i ≡ n = omega arith in inl (subst Stays same stays, so_far.rest n (omega arith))
      ];
      rest = λ n more. so_far.rest n (omega arith);
    }

    cut_one : (Stays i → ⊥) → IsCutSoFar (slice_set now i Nothing) (i + 1)
    cut_one none = record {
      long = length-set now i Nothing ∙ so_far.long;
      done = λ n below. elim (cases_lt n i) [
        | inl earlier ↦ changed n earlier (so_far.done n earlier)
        | inr here ↦
            let same : i ≡ n = omega arith in
            inr (subst (λ (m : ℕ). Stays m → ⊥) same none, subst (λ (m : ℕ). successors_at (slice_set now i Nothing) m ≡ Nothing) same (at_set now i less))
      ];
      rest = λ n more. beside_set now i n (λ e. omega arith) ∙ so_far.rest n (omega arith);
    }
      where
        changed : (n : ℕ) → n < i → IsCutAt now n → IsCutAt (slice_set now i Nothing) n
        changed n earlier (inl a) = inl (a.0, beside_set now i n (λ e. omega arith) ∙ a.1)
        changed n earlier (inr a) = inr (a.0, beside_set now i n (λ e. omega arith) ∙ a.1)

    pub cut_more : IsCutUnless found point i now after → IsCutSoFar after (i + 1)
    cut_more (inl a) = subst (λ (s : Shape). IsCutSoFar s (i + 1)) (sym a.1) (kept_one a.0)
    cut_more (inr a) = subst (λ (s : Shape). IsCutSoFar s (i + 1)) (sym a.1) (cut_one a.0)

  -- at the end
  pub cut_all : (now : Shape) (i : ℕ) (side : Side) (g : Graph) → length now ≤ i → old ≡ shape_of g → graph_at side ≡ g → LeadsTo g.nodes point found → IsCutSoFar now i → IsCutTo side point now
  cut_all now i side g more is at leads so_far =
      let shape : old ≡ shape_of (graph_at side) = is ∙ ap shape_of (sym at) in
      let paths : LeadsTo (graph_at side).nodes point found = subst (λ (h : Graph). LeadsTo h.nodes point found) (sym at) leads in
      record {
        long = so_far.long ∙ ap length shape;
        each = λ n less. elim (so_far.done n (omega arith)) [
          | inl a ↦ inl (reaches paths n a.0, a.1 ∙ ap (λ (s : Shape). successors_at s n) shape)
          | inr a ↦ inr ((λ h. a.0 (stays paths n h)), a.1)
        ];
      }
    where
      reaches : LeadsTo (graph_at side).nodes point found → (n : ℕ) → Stays n → Reaches side.graphs side.outermost point n
      reaches paths n (inl e) = inl e
      reaches paths n (inr h) = inr (leads_path side point n ((paths n).0 h))

      stays : LeadsTo (graph_at side).nodes point found → (n : ℕ) → Reaches side.graphs side.outermost point n → Stays n
      stays paths n (inl e) = inl e
      stays paths n (inr path) = inr ((paths n).1 (path_leads side point n path))
