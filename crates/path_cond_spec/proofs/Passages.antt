-- A run passes a visit at one moment, with one assignment of values.
use Rattle.std.proofs.Common.{◌≡◌, ◌∙◌, ℕ, ◌+◌, ◌-◌, ◌<◌, zero, suc, Bool, true, false, Option, Some, None, List, refl, sym, ap₂, subst, inl, inr, arith}
use Rattle.std.specs.Prelude.{not}
use Rattle.std.proofs.lemmas.Bool.{cases_order, false≢true}
use Rattle.term_core_spec.specs.Value.{Assignment, value}
use Rattle.graph_core_spec.specs.Graph.{Node, Basic, Cond, Call, Graph}
use Rattle.graph_core_spec.specs.Run.{is_truth}
use Rattle.visit_walk_spec.specs.declared.Branch.{Branch}
use Rattle.visit_walk_spec.specs.declared.Branch.TheVariants.{Only, IfTrue, IfFalse}
use Rattle.visit_walk_spec.specs.declared.Incoming.{Incoming}
use Rattle.path_cond_spec.specs.Junctions.{Junction}
use Rattle.path_cond_spec.specs.Conditions.{node_of_junction}
use Rattle.path_cond_spec.specs.Passages.{takes, values_after, IsInto, PassesAt, AreLinked}

-- a run takes one branch
not_both : (p : Bool) → p ≡ true → not p ≡ true → ⊥
not_both true h i = false≢true i
not_both false h i = false≢true h

pub one_branch : (node : Option Node) (b c : Branch) (values : Assignment) → takes node b values ≡ true → takes node c values ≡ true → b ≡ c
one_branch None Only Only values h i = refl
one_branch None Only IfTrue values h i = absurd (false≢true i)
one_branch None Only IfFalse values h i = absurd (false≢true i)
one_branch None IfTrue c values h i = absurd (false≢true h)
one_branch None IfFalse c values h i = absurd (false≢true h)
one_branch (Some (Basic bindings to)) Only Only values h i = refl
one_branch (Some (Basic bindings to)) Only IfTrue values h i = absurd (false≢true i)
one_branch (Some (Basic bindings to)) Only IfFalse values h i = absurd (false≢true i)
one_branch (Some (Basic bindings to)) IfTrue c values h i = absurd (false≢true h)
one_branch (Some (Basic bindings to)) IfFalse c values h i = absurd (false≢true h)
one_branch (Some (Cond test on_true on_false)) Only c values h i = absurd (false≢true h)
one_branch (Some (Cond test on_true on_false)) IfTrue Only values h i = absurd (false≢true i)
one_branch (Some (Cond test on_true on_false)) IfTrue IfTrue values h i = refl
one_branch (Some (Cond test on_true on_false)) IfTrue IfFalse values h i = absurd (not_both (is_truth (value values test)) h i)
one_branch (Some (Cond test on_true on_false)) IfFalse Only values h i = absurd (false≢true i)
one_branch (Some (Cond test on_true on_false)) IfFalse IfTrue values h i = absurd (not_both (is_truth (value values test)) i h)
one_branch (Some (Cond test on_true on_false)) IfFalse IfFalse values h i = refl
one_branch (Some (Call callee inputs outputs landing)) b c values h i = absurd (false≢true h)

module _ (g : Graph) (js : List Junction) (linked : AreLinked g js) (first : Assignment) where
  -- at one moment it is at one visit
  same_time : (k i j : ℕ) (u w : Assignment) → PassesAt g js first k i u → PassesAt g js first k j w → (i ≡ j) × (u ≡ w)
  unfolding PassesAt
  same_time zero i j u w p q = (p.0 ∙ sym q.0, p.1 ∙ sym q.1)
  same_time (suc k) i j u w p q =
      let before = same_time k p.edge.source q.edge.source p.before q.before p.from q.from in
      let taken : takes (node_of_junction g js p.edge.source) q.edge.branch p.before ≡ true =
      ap₂ (λ (n : ℕ) (values : Assignment). takes (node_of_junction g js n) q.edge.branch values) before.0 before.1 ∙ q.taken in
      let branch : p.edge.branch ≡ q.edge.branch = one_branch (node_of_junction g js p.edge.source) p.edge.branch q.edge.branch p.before p.taken taken in
      let edge : p.edge ≡ q.edge = λ x. record { source = before.0 x; branch = branch x } in
      let into : IsInto js j p.edge = subst (λ (e : Incoming). IsInto js j e) (sym edge) q.into in
      let values : values_after (node_of_junction g js p.edge.source) p.before ≡ values_after (node_of_junction g js q.edge.source) q.before =
      ap₂ (λ (n : ℕ) (before : Assignment). values_after (node_of_junction g js n) before) before.0 before.1 in
      (linked.one_target i j p.edge p.into into, p.is ∙ values ∙ sym q.is)

  -- later it is at a later visit
  rises : (d k i j : ℕ) (u w : Assignment) → PassesAt g js first k i u → PassesAt g js first (suc (k + d)) j w → i < j
  unfolding PassesAt
  rises zero k i j u w p q =
      let same : k + zero ≡ k = omega arith in
      let from : PassesAt g js first k q.edge.source q.before = subst (λ (n : ℕ). PassesAt g js first n q.edge.source q.before) same q.from in
      let here : i ≡ q.edge.source = (same_time k i q.edge.source u q.before p from).0 in
      let less : q.edge.source < j = linked.earlier j q.edge q.into in
      omega arith
  rises (suc d) k i j u w p q =
      let same : k + suc d ≡ suc (k + d) = omega arith in
      let from : PassesAt g js first (suc (k + d)) q.edge.source q.before = subst (λ (n : ℕ). PassesAt g js first n q.edge.source q.before) same q.from in
      let less : q.edge.source < j = linked.earlier j q.edge q.into in
      let more : i < q.edge.source = rises d k i q.edge.source u q.before p from in
      omega arith

  never_again : (k l j : ℕ) (u w : Assignment) → k < l → PassesAt g js first k j u → PassesAt g js first l j w → ⊥
  never_again k l j u w less p q =
      let same : l ≡ suc (k + (l - suc k)) = omega arith in
      let later : j < j = rises (l - suc k) k j j u w p (subst (λ (n : ℕ). PassesAt g js first n j w) same q) in
      absurd (omega arith)

  pub one_passage : (k l j : ℕ) (u w : Assignment) → PassesAt g js first k j u → PassesAt g js first l j w → (k ≡ l) × (u ≡ w)
  one_passage k l j u w p q = elim (cases_order k l) [
    | inl same ↦ (same, (same_time l j j u w (subst (λ (n : ℕ). PassesAt g js first n j u) same p) q).1)
    | inr apart ↦ elim apart [
      | inl less ↦ absurd (never_again k l j u w less p q)
      | inr more ↦ absurd (never_again l k j w u more q p)
    ]
  ]
