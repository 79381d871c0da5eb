-- What an edge leads to: its condition is that of its source and the branch taken, and its state has the values after
-- the node.
use Rattle.std.proofs.Common.{◌≡◌, ◌∙◌, ℕ, Bool, true, false, ◌&&◌, if◌then◌else◌, List, [], ◌∷◌, Option, Some, None, refl, sym, ap, subst}
use Rattle.std.specs.Prelude.{not, ⊤}
use Rattle.term_core_spec.specs.declared.Variable.{Variable}
use Rattle.term_core_spec.specs.declared.Sort.TheVariants.{Truth as TruthSort}
use Rattle.term_core_spec.specs.Term.{Term, and_term, not_term}
use Rattle.term_core_spec.specs.Sort.{sort_of}
use Rattle.term_core_spec.specs.Same.{same_variable}
use Rattle.term_core_spec.specs.Substitution.{State, substituted, values_of}
use Rattle.term_core_spec.specs.Value.{Assignment, IsAssignment, Value, Truth, value}
use Rattle.term_core_spec.proofs.Sorts.{as_truth}
use Rattle.term_core_spec.proofs.Soundness.{value-sort}
use Rattle.term_core_spec.proofs.Substitution.{value-substituted}
use Rattle.graph_core_spec.specs.declared.Next.{Next}
use Rattle.graph_core_spec.specs.Graph.{Binding, Node, Basic, Cond, Call, IsNode}
use Rattle.graph_core_spec.specs.Run.{bound, is_truth}
use Rattle.graph_core_spec.proofs.Sorts.{bound_sorted}
use Rattle.visit_walk_spec.specs.declared.Branch.{Branch}
use Rattle.visit_walk_spec.specs.declared.Branch.TheVariants.{Only, IfTrue, IfFalse}
use Rattle.path_cond_spec.specs.Conditions.{Conditional, assigned, state_after, condition_after}
use Rattle.path_cond_spec.specs.Passages.{takes, target, values_after, holds}
use Rattle.path_cond_spec.proofs.Truths.{IsTruth, truth_is, value-and, value-not, and-true}

-- a node that is there is sound
abbrev pub IsOptionalNode : ℕ → Option Node → Type 0
IsOptionalNode count None = ⊤
IsOptionalNode count (Some node) = IsNode count node

module _ (a : Assignment) where
  -- ---- states

  either_value : (test : Bool) (x y : Term) (p q : Value) → value a x ≡ p → value a y ≡ q → value a (if test then x else y) ≡ (if test then p else q)
  either_value true x y p q ex ey = ex
  either_value false x y p q ex ey = ey

  assigned-value : (bindings : List Binding) (state rest : State) (v : Variable) → value a (assigned bindings state rest v) ≡ bound bindings (values_of a state) (values_of a rest) v
  unfolding assigned bound
  assigned-value [] state rest v = refl
  assigned-value (b ∷ bindings) state rest v =
      either_value (same_variable v b.variable) (substituted state b.term) (assigned bindings state rest v) (value (values_of a state) b.term)
      (bound bindings (values_of a state) (values_of a rest) v) (value-substituted a state b.term) (assigned-value bindings state rest v)

  -- the values of the state after a node are those after the node
  pub state_after-values : (node : Option Node) (state : State) → values_of a (state_after node state) ≡ values_after node (values_of a state)
  state_after-values None state = refl
  state_after-values (Some (Basic bindings to)) state = λ i v. assigned-value bindings state state v i
  state_after-values (Some (Cond test on_true on_false)) state = refl
  state_after-values (Some (Call callee inputs outputs landing)) state = refl

  values_after-sort : (count : ℕ) (node : Option Node) (values : Assignment) → IsOptionalNode count node → IsAssignment values → IsAssignment (values_after node values)
  values_after-sort count None values is sorted = sorted
  values_after-sort count (Some (Basic bindings to)) values is sorted = bound_sorted bindings values values is.0 sorted sorted
  values_after-sort count (Some (Cond test on_true on_false)) values is sorted = sorted
  values_after-sort count (Some (Call callee inputs outputs landing)) values is sorted = sorted

  pub state_after-sort : (count : ℕ) (node : Option Node) (state : State) → IsOptionalNode count node → IsAssignment (values_of a state) → IsAssignment (values_of a (state_after node state))
  state_after-sort count node state is sorted = subst IsAssignment (sym (state_after-values node state)) (values_after-sort count node (values_of a state) is sorted)

  -- ---- conditions

  -- the condition of a branch is true where that of the node is and the branch is taken
  pub record IsLeft (node : Option Node) (branch : Branch) (c : Conditional) : Type 0 where
    pub truth : IsTruth a (condition_after node branch c)
    pub both : holds a (condition_after node branch c) ≡ (holds a c.condition && takes node branch (values_of a c.state))

  unchanged : (node : Option Node) (branch : Branch) (c : Conditional) → IsTruth a c.condition → condition_after node branch c ≡ c.condition
      → takes node branch (values_of a c.state) ≡ true → IsLeft node branch c
  unchanged node branch c tested same taken = record {
    truth = subst (IsTruth a) (sym same) tested;
    both = ap (holds a) same ∙ sym (and-true (holds a c.condition)) ∙ ap (λ (p : Bool). holds a c.condition && p) (sym taken);
  }

  -- the value of a test in the state is its value with the values of the state
  test_value : (state : State) (test : Term) → sort_of test ≡ Some TruthSort → IsAssignment (values_of a state)
      → value a (substituted state test) ≡ Truth (is_truth (value (values_of a state) test))
  test_value state test is sorted =
      let truth = as_truth (value (values_of a state) test) (value-sort (values_of a state) sorted test TruthSort is) in
      value-substituted a state test ∙ truth.1 ∙ ap Truth (sym (ap is_truth truth.1))

  pub left : (count : ℕ) (node : Option Node) (branch : Branch) (to : Next) (c : Conditional) → target node branch ≡ Some to → IsOptionalNode count node
      → IsTruth a c.condition → IsAssignment (values_of a c.state) → IsLeft node branch c
  left count None Only to c has is tested sorted = unchanged None Only c tested refl refl
  left count None IfTrue to c has is tested sorted = absurd (cc)
  left count None IfFalse to c has is tested sorted = absurd (cc)
  left count (Some (Basic bindings after)) Only to c has is tested sorted = unchanged (Some (Basic bindings after)) Only c tested refl refl
  left count (Some (Basic bindings after)) IfTrue to c has is tested sorted = absurd (cc)
  left count (Some (Basic bindings after)) IfFalse to c has is tested sorted = absurd (cc)
  left count (Some (Cond test on_true on_false)) Only to c has is tested sorted = absurd (cc)
  left count (Some (Cond test on_true on_false)) IfTrue to c has is tested sorted =
      let both = value-and a c.condition (substituted c.state test) (holds a c.condition) (is_truth (value (values_of a c.state) test)) tested (test_value c.state test is.0 sorted) in
      record { truth = truth_is a (and_term c.condition (substituted c.state test)) _ both; both = ap is_truth both }
  left count (Some (Cond test on_true on_false)) IfFalse to c has is tested sorted =
      let other = value-not a (substituted c.state test) (is_truth (value (values_of a c.state) test)) (test_value c.state test is.0 sorted) in
      let both = value-and a c.condition (not_term (substituted c.state test)) (holds a c.condition) (not (is_truth (value (values_of a c.state) test))) tested other in
      record { truth = truth_is a (and_term c.condition (not_term (substituted c.state test))) _ both; both = ap is_truth both }
  left count (Some (Call callee inputs outputs landing)) branch to c has is tested sorted = absurd (cc)
