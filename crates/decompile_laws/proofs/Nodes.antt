-- The nodes of an instruction, one after the other, and where they lead.
use Rattle.std.proofs.Common.{◌≡◌, ◌∙◌, ◌⊎◌, inl, inr, ℕ, zero, suc, ◌+◌, ◌%◌, ◌<◌, ◌==◌, ◌&&◌, if◌then◌else◌, Bool, true, false, cond, refl, ap, arith, eq-eqb, eqb-true, List, [], ◌∷◌, ◌++◌, length, get_or, Some}
use Rattle.std.specs.Prelude.{slice_get, nat_le, nat_lt, option_and_then}
use Rattle.std.proofs.lemmas.Bool.{le-leb, lt-ltb, leb-true, ltb-true, and_parts}
use Rattle.rv_instr.specs.declared.Instr.{Instr}
use Rattle.elf_read_spec.specs.Image.{Image, size_at}
use Rattle.code_reach_spec.specs.Code.{InRange, Flow, Falls, Branches, Jumps, Calls, Links, Returns, Switches, Stops, TableJump, Reaches}
use Rattle.term_core_spec.specs.Term.{Term, open_term, equal}
use Rattle.graph_core_spec.specs.declared.Next.{Next}
use Rattle.graph_core_spec.specs.declared.Next.TheVariants as next
use Rattle.graph_core_spec.specs.Graph.{Node, Basic, Cond, Graph, Graphs, node_at}
use Rattle.decompile_spec.specs.State.{table_index}
use Rattle.decompile_spec.specs.InstructionTerms.{number, branch_test}
use Rattle.decompile_spec.specs.Blocks.{NodeName, Entrance, Of, Setting, Ending, Does, Goes, is_inside, leaves, toward, onward, chain, bounded_by, branching, next_test, table_tests, does_all, tests_of, ending_of, nodes_at, call_nodes, tail_call_nodes}
use Rattle.decompile_spec.specs.CodeGraph.{IsNodeAt}
use Rattle.decompile_laws.specs.Together.{Numbering, setting, AreCodeGraphs, is_node}

-- ---- in a chain

module _ (f : Setting) (address : ℕ) where
  -- the test after others
  pub test_in : (index : ℕ) (passed : List Term) (test : Term) (left : List Term) (ending : Ending)
      → slice_get (chain f address index (passed ++ test ∷ left) ending) (length passed)
      ≡ Some (Cond test (onward f address (index + length passed + 1) left ending) next.Err)
  unfolding chain
  test_in index [] test left ending = ap (λ k. Some (Cond test (onward f address k left ending) next.Err)) {y = index + 0 + 1} (omega arith)
  test_in index (first ∷ passed) test left ending =
      test_in (index + 1) passed test left ending
      ∙ ap (λ k. Some (Cond test (onward f address k left ending) next.Err)) {x = index + 1 + length passed + 1} {y = index + suc (length passed) + 1} (omega arith)

  -- the node after all tests
  pub last_in : (index : ℕ) (passed : List Term) (node : Node) (more : List Node) → slice_get (chain f address index passed (Does node more)) (length passed) ≡ Some node
  unfolding chain
  last_in index [] node more = refl
  last_in index (first ∷ passed) node more = last_in (index + 1) passed node more

  -- a node comes first
  pub does_begin : (tests : List Term) (node : Node) (more : List Node) → is_node tests (Does node more) ≡ true
  does_begin [] node more = refl
  does_begin (test ∷ tests) node more = refl

  pub branch_begins : (kept : Bool) (i : Instr) (target : ℕ) (tests : List Term) → is_node tests (branching f address kept i target) ≡ true
  branch_begins false i target tests = does_begin tests _ _
  branch_begins true i target tests = does_begin tests _ _

  -- where a branch that isn't taken continues
  abbrev pub not_taken : Bool → Next
  not_taken kept = if kept then next.At (f.at (Of address 1)) else toward f (address + 4)

  pub branch_ends : (kept : Bool) (i : Instr) (target : ℕ)
      → (more : List Node) × (branching f address kept i target ≡ Does (Cond (branch_test i) (toward f target) (not_taken kept)) more)
  branch_ends false i target = ([], refl)
  branch_ends true i target = (Basic (record { variable = table_index; term = bounded_by i } ∷ []) (toward f (address + 4)) ∷ [], refl)

  pub kept_node : (i : Instr) (target : ℕ)
      → slice_get (nodes_at f address true i (Branches target)) 1 ≡ Some (Basic (record { variable = table_index; term = bounded_by i } ∷ []) (toward f (address + 4)))
  unfolding nodes_at chain tests_of ending_of
  kept_node i target = refl

  pub all_begin : (nodes : List Node) (tests : List Term) → is_node tests (does_all nodes) ≡ true
  all_begin [] tests = does_begin tests _ _
  all_begin (node ∷ more) tests = does_begin tests node more

  pub begins : (kept : Bool) (i : Instr) (flow : Flow) → is_node (tests_of f i flow) (ending_of f address kept i flow) ≡ true
  unfolding tests_of ending_of
  begins kept i Falls = does_begin _ _ _
  begins kept i (Branches target) = branch_begins kept i target []
  begins kept i (Jumps target) = does_begin _ _ _
  begins kept i (Calls target) = refl
  begins kept i (Links target) = refl
  begins kept i Returns = refl
  begins kept i (Switches jump) = all_begin (table_tests f address 0 jump.targets) []
  begins kept i Stops = refl

  -- where a test that holds leads
  pub onward_node : (index : ℕ) (left : List Term) (ending : Ending) → is_node left ending ≡ true → onward f address index left ending ≡ next.At (f.at (Of address index))
  onward_node index [] (Does node more) e = refl
  onward_node index [] (Goes to) e = absurd (cc)
  onward_node index (test ∷ left) ending e = refl

-- ---- how many there are before a landing node

pub call_long : (f : Setting) (address : ℕ) (kept : Bool) (i : Instr) (target : ℕ) → length (nodes_at f address kept i (Calls target)) ≡ call_nodes
unfolding nodes_at chain tests_of ending_of
call_long f address kept i target = refl

pub tail_call_long : (f : Setting) (address : ℕ) (kept : Bool) (i : Instr) (target : ℕ) → leaves f target ≡ true
    → length (nodes_at f address kept i (Jumps target)) ≡ tail_call_nodes
unfolding nodes_at chain tests_of ending_of
tail_call_long f address kept i target e = rw e refl

-- ---- the tests of a table

-- each test is of its index, and goes to the word of that index or on to the next test
pub record IsTest (f : Setting) (address : ℕ) (targets : List ℕ) (index : ℕ) (node : Node) : Type 0 where
  pub otherwise : Next
  pub is : node ≡ Cond (equal (open_term table_index) (number index)) (toward f (get_or targets index 0)) otherwise
  pub next_is : index + 1 < length targets → otherwise ≡ next.At (f.at (Of address (index + 1)))

next_there : (f : Setting) (address n : ℕ) (rest : List ℕ) → 0 < length rest → next_test f address n rest ≡ next.At (f.at (Of address n))
next_there f address n [] some = absurd (omega (arith, some))
next_there f address n (target ∷ rest) some = refl

-- the one of so many words after a number of others
test_among : (f : Setting) (address n k : ℕ) (targets : List ℕ) → k < length targets
    → (otherwise : Next) × (slice_get (table_tests f address n targets) k ≡ Some (Cond (equal (open_term table_index) (number (n + k))) (toward f (get_or targets k 0)) otherwise))
    × (k + 1 < length targets → otherwise ≡ next.At (f.at (Of address (n + k + 1))))
unfolding table_tests
test_among f address n k [] below = absurd (omega (arith, below))
test_among f address n zero (target ∷ rest) below = (
  next_test f address (n + 1) rest,
  ap (λ j. Some (Cond (equal (open_term table_index) (number j)) (toward f target) (next_test f address (n + 1) rest))) {x = n} {y = n + 0} (omega arith),
  λ more. next_there f address (n + 1) rest (omega (arith, more)) ∙ ap (λ j. next.At (f.at (Of address j))) {x = n + 1} {y = n + 0 + 1} (omega arith),
)
test_among f address n (suc k) (target ∷ rest) below =
    let found = test_among f address (n + 1) k rest (omega (arith, below)) in (
      found.0,
      found.1 ∙ ap (λ j. Some (Cond (equal (open_term table_index) (number j)) (toward f (get_or rest k 0)) found.0)) {x = n + 1 + k} {y = n + suc k} (omega arith),
      λ more. found.2 (omega (arith, more)) ∙ ap (λ j. next.At (f.at (Of address j))) {x = n + 1 + k + 1} {y = n + suc k + 1} (omega arith),
    )

pub table_node : (f : Setting) (address : ℕ) (kept : Bool) (i : Instr) (jump : TableJump) (index : ℕ) → index < length jump.targets
    → (node : Node) × (slice_get (nodes_at f address kept i (Switches jump)) index ≡ Some node) × IsTest f address jump.targets index node
unfolding nodes_at chain tests_of ending_of table_tests
table_node f address kept i jump index below = by jump.targets below
  where
    by : (targets : List ℕ) → index < length targets
        → (node : Node) × (slice_get (chain f address 0 [] (does_all (table_tests f address 0 targets))) index ≡ Some node) × IsTest f address targets index node
    by [] none = absurd (omega (arith, none))
    by (target ∷ rest) low =
        let found = test_among f address 0 index (target ∷ rest) low in (
          Cond (equal (open_term table_index) (number (0 + index))) (toward f (get_or (target ∷ rest) index 0)) found.0,
          found.1,
          record {
            otherwise = found.0;
            is = ap (λ k. Cond (equal (open_term table_index) (number k)) (toward f (get_or (target ∷ rest) index 0)) found.0) {x = 0 + index} {y = index} (omega arith);
            next_is = λ more. found.2 more ∙ ap (λ k. next.At (f.at (Of address (k + 1)))) {x = 0 + index} {y = index} (omega arith);
          },
        )

-- ---- targets

pub toward_there : (f : Setting) (target : ℕ) → target % 4 ≡ 0 → InRange f.entry f.size target → toward f target ≡ next.At (f.at (Of target 0))
unfolding toward
toward_there f target whole inside =
    rw (eq-eqb (target % 4) 0 whole, le-leb f.entry target inside.from, lt-ltb target (f.entry + f.size) inside.below) refl

pub toward_either : (f : Setting) (target : ℕ) → (toward f target ≡ next.Err) ⊎ ((target % 4 ≡ 0) × InRange f.entry f.size target)
unfolding toward
toward_either f target = at ((target % 4 == 0) && is_inside f target) refl
  where
    at : (b : Bool) → ((target % 4 == 0) && is_inside f target) ≡ b → (cond b (next.At (f.at (Of target 0))) next.Err ≡ next.Err) ⊎ ((target % 4 ≡ 0) × InRange f.entry f.size target)
    at false e = inl refl
    at true e =
        let whole = and_parts (target % 4 == 0) (is_inside f target) e in
        let inside = and_parts (nat_le f.entry target) (nat_lt target (f.entry + f.size)) whole.1 in
        inr (eqb-true (target % 4) 0 whole.0, record { from = leb-true f.entry target inside.0; below = ltb-true target (f.entry + f.size) inside.1 })

-- ---- in the set of graphs

module _ (image : Image) (entry : ℕ) (n : Numbering) (graphs : Graphs) (whole : AreCodeGraphs image entry n graphs) where
  pub node_there : (function size : ℕ) (place : NodeName) (node : Node) → Reaches image entry function → size_at image function ≡ Some size
      → IsNodeAt image (setting n function size) place node → node_at graphs (n.graph_number function) (n.node_number function place) ≡ Some node
  node_there function size place node reached sized is =
      let found = whole.each function size reached sized in
      ap (option_and_then (λ (graph : Graph). slice_get graph.nodes (n.node_number function place))) found.1 ∙ found.2.there place node is

  -- where its run begins
  pub graph_there : (function size : ℕ) → Reaches image entry function → size_at image function ≡ Some size
      → (graph : Graph) × (slice_get graphs (n.graph_number function) ≡ Some graph) × (graph.entry ≡ n.node_number function Entrance)
  graph_there function size reached sized =
      let found = whole.each function size reached sized in
      (found.0, found.1, found.2.entry_is)
