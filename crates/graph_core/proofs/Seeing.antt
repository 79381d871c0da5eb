-- Variables that are listed stay listed, and what was listed isn't added again.
use Rattle.std.proofs.Common.{◌≡◌, ◌∙◌, ◌⊎◌, inl, inr, ℕ, Bool, true, false, cond, List, [], ◌∷◌, ◌++◌, refl, sym, ap, subst, append-nil, eqb-true, take}
use Rattle.std.specs.Prelude.{nat_eq}
use Rattle.std.specs.List.{list_any}
use Rattle.std.proofs.lemmas.Bool.{or_left, or_right, or_cases}
use Rattle.std.proofs.lemmas.List.Folds.{list_any-append}
use Rattle.term_core_spec.specs.declared.Variable.{Variable}
use Rattle.term_core_spec.specs.contracts.VariableEq.TheImpl.Laws as variable_laws
use Rattle.term_core_spec.specs.Same.{same_variable}
use Rattle.term_core_spec.specs.Term.{Term}
use Rattle.term_bank.specs.declared.node.TermNode.{TermNode}
use Rattle.term_bank.specs.declared.node.TermNode.TheVariants.{Leaf, Unary, Binary, Ternary, Quaternary, Octonary}
use Rattle.term_bank.specs.Nodes.{tree_at, build, Holds}
use Rattle.term_bank.proofs.Substitution.{is_at}
use Rattle.term_bank.specs.Subterms.{arguments_of}
use Rattle.graph_core_spec.specs.Variables.{occurrences, with_variable, with_variables}
use Rattle.graph_core.specs.Seen.{HasAll, AreSeen, own_variables, occurrences_of_all}

abbrev IsListed : List Variable → Variable → Type 0
IsListed variables v = list_any (same_variable v) variables ≡ true

-- ---- one variable more

listed_more : (variables : List Variable) (x v : Variable) → IsListed variables v → IsListed (with_variable variables x) v
listed_more variables x v h = by (list_any (same_variable x) variables)
  where
    by : (b : Bool) → IsListed (cond b variables (variables ++ x ∷ [])) v
    by true = h
    by false = list_any-append (same_variable v) variables (x ∷ []) ∙ or_left (list_any (same_variable v) variables) (list_any (same_variable v) (x ∷ [])) h

listed_new : (variables : List Variable) (x : Variable) → IsListed (with_variable variables x) x
listed_new variables x = by (list_any (same_variable x) variables) refl
  where
    by : (b : Bool) → list_any (same_variable x) variables ≡ b → IsListed (cond b variables (variables ++ x ∷ [])) x
    by true e = e
    by false e =
        list_any-append (same_variable x) variables (x ∷ [])
        ∙ or_right (list_any (same_variable x) variables) (list_any (same_variable x) (x ∷ [])) (or_left (same_variable x x) false (variable_laws.lawful.laws.refl x))

-- ---- more variables

listed_later : (variables more : List Variable) (v : Variable) → IsListed variables v → IsListed (with_variables variables more) v
listed_later variables [] v h = h
listed_later variables (x ∷ more) v h = listed_later (with_variable variables x) more v (listed_more variables x v h)

all_later : (variables more some : List Variable) → HasAll variables some → HasAll (with_variables variables more) some
all_later variables more [] all = tt
all_later variables more (v ∷ some) all = (listed_later variables more v all.0, all_later variables more some all.1)

pub all_added : (variables some : List Variable) → HasAll (with_variables variables some) some
all_added variables [] = tt
all_added variables (v ∷ some) = (listed_later (with_variable variables v) some v (listed_new variables v), all_added (with_variable variables v) some)

pub none_added : (variables some : List Variable) → HasAll variables some → with_variables variables some ≡ variables
none_added variables [] all = refl
none_added variables (v ∷ some) all =
    ap (λ (vs : List Variable). with_variables vs some) (ap (λ (b : Bool). cond b variables (variables ++ v ∷ [])) all.0) ∙ none_added variables some all.1

-- ---- terms that were seen

pub seen_later : (trees : List Term) (variables more new : List Variable) (seen : List ℕ) → new ≡ with_variables variables more → AreSeen trees variables seen → AreSeen trees new seen
seen_later trees variables more new seen is are id there =
    subst (λ (vs : List Variable). HasAll vs (occurrences (tree_at trees id))) (sym is) (all_later variables more (occurrences (tree_at trees id)) (are id there))

pub seen_one : (trees : List Term) (variables : List Variable) (seen new : List ℕ) (id : ℕ) → new ≡ cond (list_any (nat_eq id) seen) seen (seen ++ id ∷ [])
    → HasAll variables (occurrences (tree_at trees id)) → AreSeen trees variables seen → AreSeen trees variables new
seen_one trees variables seen new id is all are k there = by (list_any (nat_eq id) seen) (subst (λ (ids : List ℕ). list_any (nat_eq k) ids ≡ true) is there)
  where
    same : nat_eq k id ≡ true → HasAll variables (occurrences (tree_at trees k))
    same e = subst (λ (n : ℕ). HasAll variables (occurrences (tree_at trees n))) (sym (eqb-true k id e)) all

    last : (list_any (nat_eq k) seen ≡ true) ⊎ (list_any (nat_eq k) (id ∷ []) ≡ true) → HasAll variables (occurrences (tree_at trees k))
    last (inl before) = are k before
    last (inr here) = only (or_cases (nat_eq k id) false here)
      where
        only : (nat_eq k id ≡ true) ⊎ (false ≡ true) → HasAll variables (occurrences (tree_at trees k))
        only (inl e) = same e
        only (inr bad) = absurd (cc)

    by : (b : Bool) → list_any (nat_eq k) (cond b seen (seen ++ id ∷ [])) ≡ true → HasAll variables (occurrences (tree_at trees k))
    by true h = are k h
    by false h = last (or_cases (list_any (nat_eq k) seen) (list_any (nat_eq k) (id ∷ [])) (sym (list_any-append (nat_eq k) seen (id ∷ [])) ∙ h))

pub seen_none : (trees : List Term) (variables : List Variable) (seen : List ℕ) → seen ≡ [] → AreSeen trees variables seen
seen_none trees variables seen none id there =
    let bad : false ≡ true = subst (λ (ids : List ℕ). list_any (nat_eq id) ids ≡ true) none there in
    absurd (cc)

-- ---- the variables of a node's term are its own, or those of its arguments

pub occurrences_build : (trees : List Term) (node : TermNode) → occurrences (build trees node) ≡ own_variables node ++ occurrences_of_all trees (arguments_of node)
unfolding occurrences
occurrences_build trees (Leaf leaf) = sym (append-nil (own_variables (Leaf leaf)))
occurrences_build trees (Unary operator a) = sym (append-nil (occurrences (tree_at trees a)))
occurrences_build trees (Binary operator a b) = ap (λ (vs : List Variable). occurrences (tree_at trees a) ++ vs) (sym (append-nil (occurrences (tree_at trees b))))
occurrences_build trees (Ternary operator a b c) =
    ap (λ (vs : List Variable). occurrences (tree_at trees a) ++ (occurrences (tree_at trees b) ++ vs)) (sym (append-nil (occurrences (tree_at trees c))))
occurrences_build trees (Quaternary operator a b c d) =
    ap (λ (vs : List Variable). occurrences (tree_at trees a) ++ (occurrences (tree_at trees b) ++ (occurrences (tree_at trees c) ++ vs))) (sym (append-nil (occurrences (tree_at trees d))))
occurrences_build trees (Octonary a b c d e f g h) =
    ap
    (λ (vs : List Variable). occurrences (tree_at trees a) ++ (occurrences (tree_at trees b) ++ (occurrences (tree_at trees c) ++ (occurrences (tree_at trees d) ++
    (occurrences (tree_at trees e) ++ (occurrences (tree_at trees f) ++ (occurrences (tree_at trees g) ++ vs)))))))
    (sym (append-nil (occurrences (tree_at trees h))))

pub whole_is : (trees : List Term) (variables : List Variable) (id : ℕ) (node : TermNode) (ids : List ℕ) (count : ℕ) → Holds trees id (build trees node) → take count ids ≡ arguments_of node
    → with_variables variables (own_variables node ++ occurrences_of_all trees (take count ids)) ≡ with_variables variables (occurrences (tree_at trees id))
whole_is trees variables id node ids count holds are =
    ap (with_variables variables)
    (ap (λ (l : List ℕ). own_variables node ++ occurrences_of_all trees l) are ∙ sym (occurrences_build trees node) ∙ ap occurrences (sym (is_at trees id (build trees node) holds)))
