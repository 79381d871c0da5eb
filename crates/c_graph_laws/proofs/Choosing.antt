-- Which group of a `switch` is taken.
use Rattle.std.proofs.Common.{◌≡◌, ◌∙◌, ℕ, zero, suc, ◌+◌, Bool, true, false, cond, ◌||◌, if◌then◌else◌, ℤ, refl, sym, ap, arith, List, [], ◌∷◌, ◌++◌, Option, Some, None, option_map}
use Rattle.std.specs.List.{list_any}
use Rattle.std.specs.Option.{option_or}
use Rattle.std.specs.Prelude.{IsTrue, Contains}
use Rattle.term_core_spec.specs.Term.{Term, equal}
use Rattle.term_core_spec.specs.Value.{Assignment, value}
use Rattle.graph_core_spec.specs.declared.Next.{Next}
use Rattle.graph_core_spec.specs.Graph.{Graphs}
use Rattle.graph_core_spec.specs.Run.{Waiting, go, is_truth, system_of}
use Rattle.graph_core_spec.specs.TransitionSystem.{after}
use Rattle.c_types_spec.specs.declared.Scalar.{Scalar}
use Rattle.c_types_spec.specs.Values.{same_value, is_of}
use Rattle.c_types_spec.specs.HasType.{AreOf}
use Rattle.c_types_spec.specs.Statements.{same_label}
use Rattle.c_types_spec.specs.Core.{Groups, no_groups, groups}
use Rattle.c_run_spec.specs.Execution.{labelled, chosen_group}
use Rattle.c_graph_spec.specs.State.{value_constant}
use Rattle.c_graph_spec.specs.Layout.{has_default, cases_to}
use Rattle.c_graph_laws.proofs.Occurs.{cases_at, default_at, Selects}
use Rattle.c_graph_laws.proofs.Steps.{conditional, joins}

-- the labels of all groups are values of the type
abbrev pub LabelsAreOf : Scalar → Groups → Type 0
LabelsAreOf type no_groups = Unit {0}
LabelsAreOf type (groups labels body rest) = AreOf type labels × LabelsAreOf type rest

further_on : {X : Type 0} (x : X) (xs : List X) (y : X) → Contains xs y → Contains (x ∷ xs) y
further_on x xs y there = (suc there.0, omega (arith, there.1), there.2)

-- the node of the first case with a value
abbrev pub matched : ℤ → List (ℤ × Next) → (otherwise : Next) → Next
matched v [] otherwise = otherwise
matched v (one ∷ cases) otherwise = if same_value one.0 v then one.1 else matched v cases otherwise

-- the node of the group of a number
abbrev pub target : Option ℕ → List Next → (otherwise : Next) → Next
target None entries otherwise = otherwise
target (Some i) [] otherwise = otherwise
target (Some zero) (first ∷ entries) otherwise = first
target (Some (suc i)) (first ∷ entries) otherwise = target (Some i) entries otherwise

later_target : (o : Option ℕ) (first : Next) (entries : List Next) (otherwise : Next) → target (option_map suc o) (first ∷ entries) otherwise ≡ target o entries otherwise
later_target None first entries otherwise = refl
later_target (Some i) first entries otherwise = refl

pub no_target : (o : Option ℕ) (otherwise : Next) → target o [] otherwise ≡ otherwise
no_target None otherwise = refl
no_target (Some i) otherwise = refl

labels_matched : (v : ℤ) (labels : List (Option ℤ)) (first : Next) (rest : List (ℤ × Next)) (otherwise : Next)
    → matched v (cases_to labels first ++ rest) otherwise ≡ cond (list_any (λ other. same_label other (Some v)) labels) first (matched v rest otherwise)
unfolding cases_to
labels_matched v [] first rest otherwise = refl
labels_matched v (None ∷ labels) first rest otherwise = labels_matched v labels first rest otherwise
labels_matched v (Some u ∷ labels) first rest otherwise = at (same_value u v) (labels_matched v labels first rest otherwise)
  where
    at : (b : Bool) → matched v (cases_to labels first ++ rest) otherwise ≡ cond (list_any (λ other. same_label other (Some v)) labels) first (matched v rest otherwise)
        → cond b first (matched v (cases_to labels first ++ rest) otherwise) ≡ cond (b || list_any (λ other. same_label other (Some v)) labels) first (matched v rest otherwise)
    at true e = refl
    at false e = e

-- as many first nodes as groups
abbrev pub AsMany : Groups → List Next → Type 0
AsMany no_groups entries = entries ≡ []
AsMany (groups labels body rest) [] = ⊥
AsMany (groups labels body rest) (first ∷ entries) = AsMany rest entries

case_is : (v : ℤ) (list : Groups) (entries : List Next) (otherwise : Next) → AsMany list entries
    → matched v (cases_at list entries) otherwise ≡ target (labelled (Some v) list) entries otherwise
unfolding labelled
case_is v no_groups entries otherwise many = refl
case_is v (groups labels body rest) [] otherwise many = absurd many
case_is v (groups labels body rest) (first ∷ entries) otherwise many =
    labels_matched v labels first (cases_at rest entries) otherwise ∙ at (list_any (λ other. same_label other (Some v)) labels) (case_is v rest entries otherwise many)
  where
    at : (b : Bool) → matched v (cases_at rest entries) otherwise ≡ target (labelled (Some v) rest) entries otherwise
        → cond b first (matched v (cases_at rest entries) otherwise) ≡ target (if b then Some 0 else option_map suc (labelled (Some v) rest)) (first ∷ entries) otherwise
    at true e = refl
    at false e = e ∙ sym (later_target (labelled (Some v) rest) first entries otherwise)

default_label : (labels : List (Option ℤ)) → has_default labels ≡ list_any (λ other. same_label other None) labels
unfolding has_default
default_label [] = refl
default_label (None ∷ labels) = refl
default_label (Some u ∷ labels) = default_label labels

default_is : (list : Groups) (entries : List Next) (to : Next) → AsMany list entries → default_at list entries to ≡ target (labelled None list) entries to
unfolding labelled
default_is no_groups entries to many = refl
default_is (groups labels body rest) [] to many = absurd many
default_is (groups labels body rest) (first ∷ entries) to many =
    ap (λ (b : Bool). if b then first else default_at rest entries to) (default_label labels) ∙ at (list_any (λ other. same_label other None) labels) (default_is rest entries to many)
  where
    at : (b : Bool) → default_at rest entries to ≡ target (labelled None rest) entries to
        → cond b first (default_at rest entries to) ≡ target (if b then Some 0 else option_map suc (labelled None rest)) (first ∷ entries) to
    at true e = refl
    at false e = e ∙ sym (later_target (labelled None rest) first entries to)

either_target : (a b : Option ℕ) (entries : List Next) (to : Next) → (a ≡ None → target a entries (target b entries to) ≡ target b entries to)
    → ((i : ℕ) → a ≡ Some i → target (Some i) entries (target b entries to) ≡ target (Some i) entries to) → target a entries (target b entries to) ≡ target (option_or a b) entries to
either_target None b entries to none some = refl
either_target (Some i) b entries to none some = some i refl

-- a group that is labelled is there
there : (label : Option ℤ) (list : Groups) (entries : List Next) (one other : Next) → AsMany list entries → (i : ℕ) → labelled label list ≡ Some i
    → target (Some i) entries one ≡ target (Some i) entries other
unfolding labelled
there label no_groups entries one other many i e = absurd (cc)
there label (groups labels body rest) [] one other many i e = absurd many
there label (groups labels body rest) (first ∷ entries) one other many zero e = refl
there label (groups labels body rest) (first ∷ entries) one other many (suc i) e =
    at (list_any (λ other. same_label other label) labels) (labelled label rest) e (λ is. there label rest entries one other many i is)
  where
    at : (b : Bool) (o : Option ℕ) → (if b then Some 0 else option_map suc o) ≡ Some (suc i) → (o ≡ Some i → target (Some i) entries one ≡ target (Some i) entries other)
        → target (Some i) entries one ≡ target (Some i) entries other
    at true o e on = absurd (cc)
    at false None e on = absurd (cc)
    at false (Some j) e on = on (cc)

pub chosen_is : (v : ℤ) (list : Groups) (entries : List Next) (to : Next) → AsMany list entries
    → matched v (cases_at list entries) (default_at list entries to) ≡ target (chosen_group v list) entries to
chosen_is v list entries to many =
    case_is v list entries (default_at list entries to) many
    ∙ ap (λ (o : Next). target (labelled (Some v) list) entries o) (default_is list entries to many)
    ∙ either_target (labelled (Some v) list) (labelled None list) entries to (λ e. ap (λ (o : Option ℕ). target o entries (target (labelled None list) entries to)) e)
    (λ i e. there (Some v) list entries (target (labelled None list) entries to) to many i e)

-- ---- the run of the tests

-- each case's test holds where the value is the case's
abbrev pub Tested : Assignment → Scalar → Term → ℤ → List (ℤ × Next) → Type 0
Tested s type x v [] = Unit {0}
Tested s type x v (one ∷ cases) = (is_truth (value s (equal x (value_constant type one.0))) ≡ same_value one.0 v) × Tested s type x v cases

tested_append : (s : Assignment) (type : Scalar) (x : Term) (v : ℤ) (a b : List (ℤ × Next)) → Tested s type x v a → Tested s type x v b → Tested s type x v (a ++ b)
tested_append s type x v [] b first second = second
tested_append s type x v (one ∷ a) b first second = (first.0, tested_append s type x v a b first.1 second)

module _ (s : Assignment) (type : Scalar) (x : Term) (v : ℤ) (tests : (value_of : ℤ) → IsTrue (is_of type value_of) → is_truth (value s (equal x (value_constant type value_of))) ≡ same_value value_of v) where
  labels_tested : (labels : List (Option ℤ)) (first : Next) → AreOf type labels → Tested s type x v (cases_to labels first)
  unfolding cases_to
  labels_tested [] first are = tt
  labels_tested (None ∷ labels) first are = labels_tested labels first (λ u there. are u (further_on None labels (Some u) there))
  labels_tested (Some u ∷ labels) first are = (tests u (are u (0, omega arith, refl)), labels_tested labels first (λ w there. are w (further_on (Some u) labels (Some w) there)))

  pub cases_tested : (list : Groups) (entries : List Next) → LabelsAreOf type list → Tested s type x v (cases_at list entries)
  cases_tested no_groups entries are = tt
  cases_tested (groups labels body rest) [] are = tt
  cases_tested (groups labels body rest) (first ∷ entries) are =
      tested_append s type x v (cases_to labels first) (cases_at rest entries) (labels_tested labels first are.0) (cases_tested rest entries are.1)

pub selected : (graphs : Graphs) (outermost g : ℕ) (type : Scalar) (x : Term) (v : ℤ) (s : Assignment) (below : List Waiting) (cases : List (ℤ × Next)) (from otherwise : Next)
    → Selects graphs g type x cases from otherwise → Tested s type x v cases
    → (k : ℕ) × (after (system_of graphs outermost) k (go g from s below) ≡ go g (matched v cases otherwise) s below)
unfolding after
selected graphs outermost g type x v s below [] from otherwise t tests = (0, ap (λ (n : Next). go g n s below) t)
selected graphs outermost g type x v s below (one ∷ cases) from otherwise t tests = at (same_value one.0 v) tests.0 (selected graphs outermost g type x v s below cases t.0 otherwise t.2 tests.1)
  where
    at : (b : Bool) → is_truth (value s (equal x (value_constant type one.0))) ≡ b
        → (k : ℕ) × (after (system_of graphs outermost) k (go g t.0 s below) ≡ go g (matched v cases otherwise) s below)
        → (k : ℕ) × (after (system_of graphs outermost) k (go g from s below) ≡ go g (if b then one.1 else matched v cases otherwise) s below)
    at true e on = (1, conditional graphs outermost g from one.1 t.0 (equal x (value_constant type one.0)) true s below t.1 e)
    at false e on = (
      1 + on.0,
      joins graphs outermost g 1 on.0 (go g from s below) (go g t.0 s below) (go g (matched v cases otherwise) s below)
          (conditional graphs outermost g from one.1 t.0 (equal x (value_constant type one.0)) false s below t.1 e) on.1,
    )
