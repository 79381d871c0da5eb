use Rattle.std.proofs.Common.{◌≡◌, ◌∙◌, ℕ, ◌<◌, true, cond, ◌++◌, ◌∷◌, [], List, length, get_or, map, sym, ap, subst, inl, inr, arith}
use Rattle.std.proofs.lemmas.Bool.{cases_lt}
use Rattle.std.proofs.lemmas.List.{length-map, get_or_default}
use Rattle.std.proofs.Math.ListN.{get_or-map}
use Rattle.term_core_spec.specs.declared.Variable.{Variable}
use Rattle.graph_core_spec.specs.Graph as spec
use Rattle.graph_core.specs.declared.shared.SharedBinding.{SharedBinding}
use Rattle.graph_core.specs.Shared.{shared_binding_of}
use Rattle.path_cond.specs.Bound.{has}
use Rattle.path_cond.proofs.Numbers.{has_more, has_new}
use Rattle.path_cond.proofs.Unbound.{unbound}
use Rattle.path_cond.proofs.bound.add_bindings.Goals as goal

pub loop-binding-preserved : goal.loop-binding-preserved
loop-binding-preserved c =
    let before : List Variable = c.loop-binding.variables.keys in
    let now : List Variable = c.insert.new.self.keys in
    let x : Variable = (get_or c.args.bindings.now c.loop-binding.binding-index unbound).variable in
    let keys : now ≡ cond (has before x) before (before ++ x ∷ []) = c.in_ok-insert.ensures.keys in
    let stays : (v : Variable) → has before v ≡ true → has now v ≡ true = λ v h. subst (λ (l : List Variable). has l v ≡ true) (sym keys) (has_more before x v h) in
    let new : has now x ≡ true = subst (λ (l : List Variable). has l x ≡ true) (sym keys) (has_new before x) in
    record {
      listed = λ k d less. elim (cases_lt k c.loop-binding.binding-index) [
        | inl earlier ↦ stays (get_or c.args.bindings.now k d).variable (c.loop-binding.invariant.listed k d earlier)
        | inr here ↦
            let at : k ≡ c.loop-binding.binding-index = omega arith in
            let within : c.loop-binding.binding-index < length c.args.bindings.now = omega arith in
            let item : get_or c.args.bindings.now c.loop-binding.binding-index unbound ≡ get_or c.args.bindings.now k d =
            get_or_default c.args.bindings.now c.loop-binding.binding-index unbound d within ∙ ap (λ (n : ℕ). get_or c.args.bindings.now n d) (sym at) in
            subst (λ (b : SharedBinding). has now b.variable ≡ true) item new
      ];
      kept = λ v h. stays v (c.loop-binding.invariant.kept v h);
    }

pub returns-clause-listed : goal.returns-clause-listed
returns-clause-listed c = λ trees k d less.
    let long : length (map (shared_binding_of trees) c.args.bindings.now) ≡ length c.args.bindings.now = length-map c.args.bindings.now (shared_binding_of trees) in
    let within : k < length c.args.bindings.now = omega arith in
    let y : SharedBinding = get_or c.args.bindings.now k (no_binding c.args.bindings.now k within) in
    let is : get_or (map (shared_binding_of trees) c.args.bindings.now) k d ≡ (shared_binding_of trees) y =
    get_or_default (map (shared_binding_of trees) c.args.bindings.now) k d ((shared_binding_of trees) (no_binding c.args.bindings.now k within)) less
    ∙ get_or-map (shared_binding_of trees) c.args.bindings.now k (no_binding c.args.bindings.now k within) in
    subst (λ (b : spec.Binding). has c.loop-binding.variables.keys b.variable ≡ true) (sym is)
    (c.loop-binding.invariant.listed k (no_binding c.args.bindings.now k within) (omega arith))
  where
    no_binding : (bs : List SharedBinding) (k : ℕ) → k < length bs → SharedBinding
    no_binding [] k less = absurd (omega arith)
    no_binding (b ∷ bs) k less = b
