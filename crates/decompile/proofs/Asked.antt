-- The nodes of tests, one after the other.
use Rattle.std.proofs.Common.{◌≡◌, ◌∙◌, ℕ, suc, ◌+◌, refl, sym, ap, arith, List, [], ◌∷◌, ◌++◌, length}
use Rattle.std.proofs.lemmas.List.{append_assoc, append-nil}
use Rattle.term_core_spec.specs.Term.{Term}
use Rattle.graph_core_spec.specs.declared.Next.TheVariants as next
use Rattle.graph_core_spec.specs.Graph.{Node, Cond, Graph, with_nodes}
use Rattle.decompile_spec.specs.Blocks.{Of, Setting, Does, chain}
use Rattle.decompile.specs.Settings.{asks}

abbrev pub ask : Setting → (address index : ℕ) → Term → Node
ask f address index test = Cond test (next.At (f.at (Of address index))) next.Err

pub asks-push : (f : Setting) (address index : ℕ) (tests : List Term) (test : Term)
    → asks f address index (tests ++ test ∷ []) ≡ asks f address index tests ++ ask f address (index + length tests + 1) test ∷ []
unfolding asks
asks-push f address index [] test = ap (λ (n : ℕ). ask f address n test ∷ []) {x = index + 1} {y = index + 0 + 1} (omega arith)
asks-push f address index (t ∷ tests) test =
    let rest = asks-push f address (index + 1) tests test in
    let same : index + 1 + length tests + 1 ≡ index + suc (length tests) + 1 = omega arith in
    ap (λ (nodes : List Node). ask f address (index + 1) t ∷ nodes)
    (rest ∙ ap (λ (n : ℕ). asks f address (index + 1) tests ++ ask f address n test ∷ []) same)

-- the tests before a node
pub chain-asks : (f : Setting) (address index : ℕ) (tests : List Term) (node : Node) (further : List Node)
    → chain f address index tests (Does node further) ≡ asks f address index tests ++ node ∷ further
unfolding chain asks
chain-asks f address index [] node further = refl
chain-asks f address index (test ∷ []) node further = refl
chain-asks f address index (test ∷ t ∷ tests) node further =
    ap (λ (nodes : List Node). ask f address (index + 1) test ∷ nodes) (chain-asks f address (index + 1) (t ∷ tests) node further)

-- nodes that are added in two parts
pub with-with : (g : Graph) (first second : List Node) → with_nodes (with_nodes g first) second ≡ with_nodes g (first ++ second)
with-with g first second =
    let make : List Node → Graph = λ nodes. record { nodes = nodes; entry = g.entry } in
    ap make (append_assoc g.nodes first second)

pub nothing_asked : (f : Setting) (address : ℕ) (g : Graph) → g ≡ with_nodes g (asks f address 0 [])
unfolding asks
nothing_asked f address g =
    let make : List Node → Graph = λ nodes. record { nodes = nodes; entry = g.entry } in
    ap make (sym (append-nil g.nodes))

-- one test more
pub test_added : (f : Setting) (address index number : ℕ) (start old new : Graph) (tests : List Term) (test : Term) → old ≡ with_nodes start (asks f address 0 tests)
    → index ≡ length tests + 1 → number ≡ f.at (Of address index) → new ≡ with_nodes old (Cond test (next.At number) next.Err ∷ [])
    → new ≡ with_nodes start (asks f address 0 (tests ++ test ∷ []))
test_added f address index number start old new tests test so count is more =
    let node : number ≡ f.at (Of address (0 + length tests + 1)) = is ∙ ap (λ (n : ℕ). f.at (Of address n)) {x = index} {y = 0 + length tests + 1} (omega arith) in
    more
    ∙ ap (λ (g : Graph). with_nodes g (Cond test (next.At number) next.Err ∷ [])) so
    ∙ ap (λ (n : ℕ). with_nodes (with_nodes start (asks f address 0 tests)) (Cond test (next.At n) next.Err ∷ [])) node
    ∙ with-with start (asks f address 0 tests) (ask f address (0 + length tests + 1) test ∷ [])
    ∙ ap (with_nodes start) (sym (asks-push f address 0 tests test))
