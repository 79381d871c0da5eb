-- Chains of tests, and of cases, one node after the other.
use Rattle.std.proofs.Common.{◌≡◌, ◌∙◌, ℕ, false, zero, suc, ◌+◌, ◌-◌, ◌<◌, ◌≤◌, List, [], ◌∷◌, ◌++◌, length, map, get_or, drop, refl, sym, ap, ap₂, arith}
use Rattle.std.specs.Prelude.{ℤ}
use Rattle.std.proofs.lemmas.List.{drop_all, length-map, length-drop, get_or-map}
use Rattle.term_core_spec.specs.declared.Atom.TheVariants as atom
use Rattle.term_core_spec.specs.Term as tree
use Rattle.term_core_spec.specs.Term.{Term, equal}
use Rattle.term_bank.specs.Nodes.{tree_at}
use Rattle.graph_core_spec.specs.declared.Next.{Next}
use Rattle.graph_core_spec.specs.declared.Next.TheVariants.{At, Err}
use Rattle.graph_core_spec.specs.Graph.{Node, Cond}
use Rattle.c_types_spec.specs.declared.Scalar.{Scalar}
use Rattle.c_graph_spec.specs.State.{value_constant}
use Rattle.c_graph_spec.specs.Layout.{first, chain, selection}
use Rattle.c_graph.specs.declared.cases.Case.{Case}
use Rattle.c_graph.specs.Seen.{case_of, cases_in, case_tests}
use Rattle.c_graph.proofs.Ids.{item_at}

chain_first : (test : Term) (rest : List Term) (at : ℕ) (to : Next) → chain (test ∷ rest) at to ≡ Cond test (first (length rest) (suc at) to) Err ∷ chain rest (suc at) to
unfolding chain
chain_first test rest at to = refl

chain_none : (at : ℕ) (to : Next) → chain [] at to ≡ []
unfolding chain
chain_none at to = refl

pub chain_past : (trees : List Term) (tests : List ℕ) (i at : ℕ) (to : Next) → length tests ≤ i → chain (map (tree_at trees) (drop i tests)) at to ≡ []
chain_past trees tests i at to past = ap (λ (l : List ℕ). chain (map (tree_at trees) l) at to) (drop_all i tests past) ∙ chain_none at to

left_over : {X Y : Type 0} (f : X → Y) (xs : List X) (i left : ℕ) → length xs ≡ i + 1 + left → length (map f (drop (i + 1) xs)) ≡ left
left_over f xs i left e = length-map (drop (i + 1) xs) f ∙ length-drop (i + 1) xs ∙ omega arith

-- the test at a place, of which so many come after it
pub chain_at : (trees : List Term) (tests : List ℕ) (i id left at begin : ℕ) (to : Next) → i < length tests → id ≡ get_or tests i id → length tests ≡ i + 1 + left → begin ≡ at + 1
    → chain (map (tree_at trees) (drop i tests)) at to ≡ Cond (tree_at trees id) (first left begin to) Err ∷ chain (map (tree_at trees) (drop (i + 1) tests)) begin to
chain_at trees tests i id left at begin to below is count place =
    let next : suc at ≡ begin = omega arith in
    ap (λ (l : List ℕ). chain (map (tree_at trees) l) at to) (item_at tests i id below)
    ∙ chain_first (tree_at trees (get_or tests i id)) (map (tree_at trees) (drop (i + 1) tests)) at to
    ∙ ap (λ (x : ℕ). Cond (tree_at trees x) (first (length (map (tree_at trees) (drop (i + 1) tests))) (suc at) to) Err ∷ chain (map (tree_at trees) (drop (i + 1) tests)) (suc at) to) (sym is)
    ∙ ap (λ (n : ℕ). Cond (tree_at trees id) (first n (suc at) to) Err ∷ chain (map (tree_at trees) (drop (i + 1) tests)) (suc at) to) (left_over (tree_at trees) tests i left count)
    ∙ ap (λ (n : ℕ). Cond (tree_at trees id) (first left n to) Err ∷ chain (map (tree_at trees) (drop (i + 1) tests)) n to) next

-- ---- cases

selection_first : (type : Scalar) (x : Term) (entry : ℤ × Next) (rest : List (ℤ × Next)) (at : ℕ) (other : Next)
    → selection type x (entry ∷ rest) at other ≡ Cond (equal x (value_constant type entry.0)) entry.1 (first (length rest) (suc at) other) ∷ selection type x rest (suc at) other
unfolding selection
selection_first type x entry rest at other = refl

selection_none : (type : Scalar) (x : Term) (at : ℕ) (other : Next) → selection type x [] at other ≡ []
unfolding selection
selection_none type x at other = refl

pub selection_past : (type : Scalar) (x : Term) (cases : List Case) (i at : ℕ) (other : Next) → length cases ≤ i → selection type x (cases_in (drop i cases)) at other ≡ []
selection_past type x cases i at other past = ap (λ (l : List Case). selection type x (cases_in l) at other) (drop_all i cases past) ∙ selection_none type x at other

pub selection_at : (type : Scalar) (x : Term) (cases : List Case) (i left at begin : ℕ) (c : Case) (other : Next) → i < length cases → c ≡ get_or cases i c → length cases ≡ i + 1 + left → begin ≡ at + 1
    → selection type x (cases_in (drop i cases)) at other
    ≡ Cond (equal x (value_constant type c.value)) c.next (first left begin other) ∷ selection type x (cases_in (drop (i + 1) cases)) begin other
selection_at type x cases i left at begin c other below is count place =
    let next : suc at ≡ begin = omega arith in
    let rest : List (ℤ × Next) = cases_in (drop (i + 1) cases) in
    ap (λ (l : List Case). selection type x (cases_in l) at other) (item_at cases i c below)
    ∙ selection_first type x (case_of (get_or cases i c)) rest at other
    ∙ ap (λ (d : Case). Cond (equal x (value_constant type d.value)) d.next (first (length rest) (suc at) other) ∷ selection type x rest (suc at) other) (sym is)
    ∙ ap (λ (n : ℕ). Cond (equal x (value_constant type c.value)) c.next (first n (suc at) other) ∷ selection type x rest (suc at) other) (left_over case_of cases i left count)
    ∙ ap (λ (n : ℕ). Cond (equal x (value_constant type c.value)) c.next (first left n other) ∷ selection type x rest n other) next

-- the test of a case
pub case_test_at : (trees : List Term) (tests : List ℕ) (type : Scalar) (x : Term) (cases : List Case) (i id : ℕ) (c : Case) → map (tree_at trees) tests ≡ case_tests type x (cases_in cases)
    → i < length tests → i < length cases → id ≡ get_or tests i id → c ≡ get_or cases i c → tree_at trees id ≡ equal x (value_constant type c.value)
case_test_at trees tests type x cases i id c e below within is same =
    let no : Term = tree.Leaf (atom.Truth false) in
    ap (tree_at trees) is ∙ sym (get_or-map (tree_at trees) tests i id no below) ∙ ap (λ l. get_or l i no) e
    ∙ get_or-map (λ (p : ℤ × Next). equal x (value_constant type p.0)) (cases_in cases) i (case_of c) no (omega (arith, length-map cases case_of))
    ∙ ap (λ (p : ℤ × Next). equal x (value_constant type p.0)) (get_or-map case_of cases i c (case_of c) within ∙ ap case_of (sym same))

-- as many tests as cases
pub tests_many : (type : Scalar) (x : Term) (cases : List Case) → length (case_tests type x (cases_in cases)) ≡ length cases
tests_many type x cases = length-map (cases_in cases) (λ (p : ℤ × Next). equal x (value_constant type p.0)) ∙ length-map cases case_of

-- the first node by numbers that are the same
pub first_as : (m n a b : ℕ) (to x : Next) → x ≡ first m a to → m ≡ n → a ≡ b → x ≡ first n b to
first_as m n a b to x is many at = is ∙ ap₂ (λ (i j : ℕ). first i j to) many at

-- a test over the terms of a graph that has the same terms
pub test_as : (trees others : List Term) (id : ℕ) (x y : Next) (t : Term) → trees ≡ others → tree_at others id ≡ t → x ≡ y → Cond (tree_at trees id) x Err ≡ Cond t y Err
test_as trees others id x y t same is next = ap₂ (λ (u : Term) (n : Next). Cond u n Err) (ap (λ l. tree_at l id) same ∙ is) next

pub choice_as : (trees others : List Term) (id : ℕ) (next x y : Next) (t : Term) → trees ≡ others → tree_at others id ≡ t → x ≡ y → Cond (tree_at trees id) next x ≡ Cond t next y
choice_as trees others id next x y t same is goes = ap₂ (λ (u : Term) (n : Next). Cond u next n) (ap (λ l. tree_at l id) same ∙ is) goes
