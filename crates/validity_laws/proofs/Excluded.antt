-- A function with a trail has no proof, unless the search reached its limit.
use Rattle.std.proofs.Common.{◌≡◌, ◌∙◌, ◌<◌, ◌≤◌, ℕ, zero, suc, Bool, true, false, List, [], ◌∷◌, Some, inl, inr, refl, sym, ap₂, subst, arith}
use Rattle.std.specs.Prelude.{◌&&◌, if◌then◌else◌, nat_le, All, slice_get}
use Rattle.std.proofs.lemmas.Bool.{leb-true}
use Rattle.std.proofs.lemmas.Option.{same_Some, slice_get_within, get_or_from_slice_get}
use Rattle.memory_spec.specs.Runs.{Run, AreBytes}
use Rattle.term_core_spec.specs.declared.Atom.TheVariants as atom
use Rattle.term_core_spec.specs.declared.Sort.TheVariants as sort
use Rattle.term_core_spec.specs.Term.{Term, Leaf, Unary, Binary, Ternary, Quaternary, Octonary}
use Rattle.term_core_spec.specs.Sort.{sort_of}
use Rattle.term_core_spec.specs.Subterms.{subterm_count}
use Rattle.term_core_spec.specs.Value.{Truth, Assignment, IsAssignment, value}
use Rattle.term_norm_spec.specs.Normal.{normal}
use Rattle.term_norm_spec.proofs.Soundness.{keeps_normal}
use Rattle.visit_walk_spec.proofs.Order.{one_list}
use Rattle.proof_tree_spec.specs.Frames.{Frame}
use Rattle.sim_rules_spec.specs.Points.{Convention}
use Rattle.sim_rules_spec.specs.Sides.{binary_way, source_way}
use Rattle.sim_rules_spec.specs.Rules.{Opening, AreOfLeaf, leaf_terms}
use Rattle.clause_check_spec.specs.Log.{Step}
use Rattle.bit_blast_spec.specs.Goal.{atom_bits, cnf_of, goal_gates, tie_memories, visit}
use Rattle.tv_limits.specs.declared.TheConstants.{MAX_TERMS, MAX_VARIABLES}
use Rattle.discharge_spec.specs.declared.GoalQuantity.{GoalQuantity}
use Rattle.discharge_spec.specs.declared.GoalQuantity.TheVariants.{Terms, Variables}
use Rattle.discharge_spec.specs.Closing.{Closes, IsLarge, has_no_step, is_truth, checked, closing_of_clauses, closing_of_form, closing, measured, maximum}
use Rattle.discharge.proofs.Sound.{true_form}
use Rattle.cert_check_spec.specs.Verdict.{Listed}
use Rattle.sim_rules_spec.specs.declared.Side.TheVariants as side
use Rattle.prove_run_spec.specs.declared.Measure.TheVariants as measure
use Rattle.prove_run_spec.specs.Proofs.{AreClosedBy, HasProof, HasTruths}
use Rattle.prove_run_spec.specs.Trails.{Trail, Later, Large, Refuted, Spent, IsObligation, IsTrail}
use Rattle.validity_laws.specs.Laws.{TrailsExcludeProofs, is_spent}

-- ---- obligations

-- a Leaf has one list of obligations
pub one_leaf : (c : Convention) (o : Opening) (f : Frame) (one two : List Term) → AreOfLeaf c o f one → AreOfLeaf c o f two → one ≡ two
one_leaf c o f one two x y =
    let binary_is = one_list (binary_way f o.binary).walk x.binary y.binary x.binary_are y.binary_are in
    let source_is = one_list (source_way f o.source).walk x.source y.source x.source_are y.source_are in
    x.terms_are ∙ (ap₂ (leaf_terms c o f) binary_is source_is ∙ sym y.terms_are)

record IsClosedBySome (runs : List Run) (goal : Term) : Type 0 where
  log : List Step
  closes : closing runs goal log ≡ Closes

closed_at : (runs : List Run) (terms : List Term) (logs : List (List Step)) (n : ℕ) (goal : Term) → AreClosedBy runs terms logs → slice_get terms n ≡ Some goal
    → IsClosedBySome runs goal
unfolding AreClosedBy
closed_at runs [] [] n goal closed there = absurd (omega (arith, slice_get_within [] n goal there))
closed_at runs [] (log ∷ logs) n goal closed there = absurd closed
closed_at runs (t ∷ terms) [] n goal closed there = absurd closed
closed_at runs (t ∷ terms) (log ∷ logs) zero goal closed there = record { log = log; closes = subst (λ (u : Term). closing runs u log ≡ Closes) (same_Some t goal there) closed.0 }
closed_at runs (t ∷ terms) (log ∷ logs) (suc n) goal closed there = closed_at runs terms logs n goal closed.1 there

-- ---- a goal that a log closes

not_large : (q : GoalQuantity) → IsLarge q ≡ Closes → ⊥
not_large q e = cc

few_terms : (runs : List Run) (goal : Term) (log : List Step) → closing runs goal log ≡ Closes → nat_le (subterm_count goal) MAX_TERMS ≡ true
few_terms runs goal log closes = by (nat_le (subterm_count goal) MAX_TERMS) closes
  where
    by : (small : Bool) → (if small then closing_of_form (normal runs goal) log else IsLarge Terms) ≡ Closes → small ≡ true
    by true on = refl
    by false on = absurd (not_large Terms on)

form_closed : (runs : List Run) (goal : Term) (log : List Step) → closing runs goal log ≡ Closes → closing_of_form (normal runs goal) log ≡ Closes
form_closed runs goal log closes = by (nat_le (subterm_count goal) MAX_TERMS) closes
  where
    by : (small : Bool) → (if small then closing_of_form (normal runs goal) log else IsLarge Terms) ≡ Closes → closing_of_form (normal runs goal) log ≡ Closes
    by true on = on
    by false on = absurd (not_large Terms on)

few_of_truth : (form : Term) → is_truth form ≡ true → nat_le (cnf_of form).variables MAX_VARIABLES ≡ true
unfolding cnf_of goal_gates visit atom_bits tie_memories
few_of_truth (Leaf (atom.Truth true)) e = refl
few_of_truth (Leaf (atom.Truth false)) e = cc
few_of_truth (Leaf (atom.Constant w n)) e = cc
few_of_truth (Leaf (atom.Open v)) e = cc
few_of_truth (Unary o x) e = cc
few_of_truth (Binary o x y) e = cc
few_of_truth (Ternary o x y z) e = cc
few_of_truth (Quaternary o x y z w) e = cc
few_of_truth (Octonary b0 b1 b2 b3 b4 b5 b6 b7) e = cc

few_variables : (form : Term) (log : List Step) → closing_of_form form log ≡ Closes → nat_le (cnf_of form).variables MAX_VARIABLES ≡ true
few_variables form log closes = by (is_truth form) (has_no_step log) refl closes
  where
    clauses : (small : Bool) → (if small then checked (cnf_of form).variables (cnf_of form).clauses false 1 log else IsLarge Variables) ≡ Closes → small ≡ true
    clauses true on = refl
    clauses false on = absurd (not_large Variables on)

    by : (plain none : Bool) → is_truth form ≡ plain → (if plain && none then Closes else closing_of_clauses (cnf_of form) log) ≡ Closes
        → nat_le (cnf_of form).variables MAX_VARIABLES ≡ true
    by true true e on = few_of_truth form e
    by true false e on = clauses (nat_le (cnf_of form).variables MAX_VARIABLES) on
    by false none e on = clauses (nat_le (cnf_of form).variables MAX_VARIABLES) on

-- no quantity of it is above its maximum
never_above : (runs : List Run) (goal : Term) (log : List Step) (q : GoalQuantity) (count : ℕ) → closing runs goal log ≡ Closes → maximum q < count
    → count ≤ measured runs goal q → ⊥
never_above runs goal log Terms count closes above least = omega (arith, above, least, leb-true (subterm_count goal) MAX_TERMS (few_terms runs goal log closes))
never_above runs goal log Variables count closes above least =
    omega (arith, above, least, leb-true (cnf_of (normal runs goal)).variables MAX_VARIABLES (few_variables (normal runs goal) log (form_closed runs goal log closes)))

-- no assignment makes its normal form false
never_false : (runs : List Run) → AreBytes runs → (goal : Term) (log : List Step) → sort_of goal ≡ Some sort.Truth → closing runs goal log ≡ Closes
    → (a : Assignment) → IsAssignment a → value a (normal runs goal) ≡ Truth false → ⊥
never_false runs bytes goal log sorted closes a fine false_there =
    let true_there = true_form (normal runs goal) log (keeps_normal runs bytes goal sort.Truth sorted).sorted (form_closed runs goal log closes) a fine in
    let same : Truth true ≡ Truth false = sym true_there ∙ false_there in
    cc

-- ---- trails

sorted_at : (terms : List Term) (n : ℕ) (goal : Term) → All (λ (t : Term). sort_of t ≡ Some sort.Truth) terms → slice_get terms n ≡ Some goal → sort_of goal ≡ Some sort.Truth
sorted_at terms n goal all there =
    subst (λ (t : Term). sort_of t ≡ Some sort.Truth) (get_or_from_slice_get terms n goal goal there) (all n goal (slice_get_within terms n goal there))

module _ (f : Listed) (logs : List (List Step)) (proof : HasProof f logs) where
  there_closed : (number : ℕ) (goal : Term) (is : IsObligation f number goal) → IsClosedBySome f.runs goal
  there_closed number goal is =
      closed_at f.runs proof.terms logs number goal proof.closed
      (subst (λ (terms : List Term). slice_get terms number ≡ Some goal) (one_leaf f.convention f.opening f.frame is.terms proof.terms is.are proof.are) is.there)

  excluded : (trail : Trail) → AreBytes f.runs → HasTruths f → IsTrail f trail → is_spent trail ≡ false → ⊥
  excluded (Later side.Binary node) bytes truths is other = proof.acyclic node (inl is)
  excluded (Later side.Source node) bytes truths is other = proof.acyclic node (inr is)
  excluded (Large (measure.Visits side.Binary) count) bytes truths is other = proof.small count (is.binary, is.source, inl is.many)
  excluded (Large (measure.Visits side.Source) count) bytes truths is other = proof.small count (is.binary, is.source, inr is.many)
  excluded (Large (measure.Obligation number q) count) bytes truths (goal, is, large) other =
      let closed = there_closed number goal is in
      never_above f.runs goal closed.log q count closed.closes large.above large.least
  excluded (Refuted number a) bytes truths (goal, is, few, fine, false_there) other =
      let closed = there_closed number goal is in
      never_false f.runs bytes goal closed.log (sorted_at is.terms number goal (truths is.terms is.are) is.there) closed.closes a fine false_there
  excluded (Spent number log) bytes truths is other = absurd (let e : true ≡ false = other in cc)

pub trails_exclude : TrailsExcludeProofs
trails_exclude f trail logs bytes truths is other proof = excluded f logs proof trail bytes truths is other
