-- All graphs of one function have equally many nodes.
use Rattle.std.proofs.Common.{◌≡◌, ◌∙◌, ◌⊎◌, inl, inr, ℕ, zero, suc, ◌+◌, ◌%◌, ◌<◌, ◌≤◌, ◌==◌, Bool, true, false, cond, refl, sym, ap, arith, eq-eqb, List, [], ◌∷◌, length, get_or, Some, None}
use Rattle.std.specs.List.{list_any}
use Rattle.std.proofs.lemmas.Bool.{cases_lt, or_left, or_right}
use Rattle.std.proofs.lemmas.Option.{slice_get_within, slice_get-get_or}
use Rattle.std.proofs.lemmas.Map.Steps.{le-length_from_below}
use Rattle.rv_instr.specs.declared.Instr.{Instr}
use Rattle.elf_read_spec.specs.Image.{Image}
use Rattle.memory_spec.specs.Runs.{Run}
use Rattle.code_reach_spec.specs.Code.{Flow, Falls, Branches, Jumps, Calls, Links, Returns, Switches, Stops}
use Rattle.term_core_spec.specs.Term.{Term}
use Rattle.graph_core_spec.specs.declared.Next.{Next}
use Rattle.graph_core_spec.specs.declared.Next.TheVariants as next
use Rattle.graph_core_spec.specs.Graph.{Node, Basic, Graph}
use Rattle.decompile_spec.specs.Blocks.{NodeName, Entrance, Of, Setting, Ending, Does, Goes, leaves, toward, chain, branching, table_tests, does_all, tests_of, ending_of, nodes_at, landing_of}
use Rattle.decompile_spec.specs.CodeGraph.{IsNodeAt, entrance, of_instruction, landing, IsCodeGraph}

ends_long : Ending → ℕ
ends_long (Does node more) = suc (length more)
ends_long (Goes to) = 0

chain_long : (f : Setting) (a j : ℕ) (tests : List Term) (ending : Ending) → length (chain f a j tests ending) ≡ length tests + ends_long ending
unfolding chain ends_long
chain_long f a j [] (Does node more) = omega arith
chain_long f a j [] (Goes to) = refl
chain_long f a j (test ∷ tests) ending = omega (arith, chain_long f a (j + 1) tests ending)

module _ (image : Image) (entry size : ℕ) (runs : List Run) where
  abbrev pub numbered_by : (ℕ → ℕ) → (NodeName → ℕ) → Setting
  numbered_by graph_number at = record { entry = entry; size = size; runs = runs; graph_number = graph_number; at = at }

  module _ (number other_number : ℕ → ℕ) (at other_at : NodeName → ℕ) where
    abbrev f : Setting
    f = numbered_by number at

    abbrev g : Setting
    g = numbered_by other_number other_at

    same_tests : (i : Instr) (flow : Flow) → tests_of g i flow ≡ tests_of f i flow
    unfolding tests_of
    same_tests i Falls = refl
    same_tests i (Branches target) = refl
    same_tests i (Jumps target) = refl
    same_tests i (Calls target) = refl
    same_tests i (Links target) = refl
    same_tests i Returns = refl
    same_tests i (Switches jump) = refl
    same_tests i Stops = refl

    same_tables : (a j : ℕ) (targets : List ℕ) → length (table_tests g a j targets) ≡ length (table_tests f a j targets)
    unfolding table_tests
    same_tables a j [] = refl
    same_tables a j (target ∷ rest) = ap suc (same_tables a (j + 1) rest)

    all_long : (nodes others : List Node) → length others ≡ length nodes → ends_long (does_all others) ≡ ends_long (does_all nodes)
    unfolding ends_long
    all_long [] [] e = refl
    all_long [] (other ∷ others) e = absurd (omega (arith, e))
    all_long (node ∷ nodes) [] e = absurd (omega (arith, e))
    all_long (node ∷ nodes) (other ∷ others) e = e

    same_branch : (a : ℕ) (kept : Bool) (i : Instr) (target : ℕ) → ends_long (branching g a kept i target) ≡ ends_long (branching f a kept i target)
    unfolding ends_long
    same_branch a false i target = refl
    same_branch a true i target = refl

    same_ends : (a : ℕ) (kept : Bool) (i : Instr) (flow : Flow) → ends_long (ending_of g a kept i flow) ≡ ends_long (ending_of f a kept i flow)
    unfolding ends_long ending_of
    same_ends a kept i Falls = refl
    same_ends a kept i (Branches target) = same_branch a kept i target
    same_ends a kept i (Jumps target) = refl
    same_ends a kept i (Calls target) = refl
    same_ends a kept i (Links target) = refl
    same_ends a kept i Returns = refl
    same_ends a kept i (Switches jump) = all_long (table_tests f a 0 jump.targets) (table_tests g a 0 jump.targets) (same_tables a 0 jump.targets)
    same_ends a kept i Stops = refl

    same_long : (a : ℕ) (kept : Bool) (i : Instr) (flow : Flow) → length (nodes_at g a kept i flow) ≡ length (nodes_at f a kept i flow)
    unfolding nodes_at
    same_long a kept i flow =
        chain_long g a 0 (tests_of g i flow) (ending_of g a kept i flow)
        ∙ omega (arith, ap (λ (ts : List Term). length ts) (same_tests i flow), same_ends a kept i flow)
        ∙ sym (chain_long f a 0 (tests_of f i flow) (ending_of f a kept i flow))

    lands_too : (a : ℕ) (flow : Flow) (to : Next) → landing_of g a flow ≡ Some to → (on : Next) × (landing_of f a flow ≡ Some on)
    unfolding landing_of
    lands_too a Falls to e = absurd (cc)
    lands_too a (Branches target) to e = absurd (cc)
    lands_too a (Jumps target) to e = by (leaves f target) e
      where
        by : (b : Bool) → cond b (Some next.Ret) None ≡ Some to → (on : Next) × (cond b (Some next.Ret) None ≡ Some on)
        by true h = (next.Ret, refl)
        by false h = absurd (cc)
    lands_too a (Calls target) to e = by (target % 4 == 0) e
      where
        by : (b : Bool) → cond b (Some (toward g (a + 4))) None ≡ Some to → (on : Next) × (cond b (Some (toward f (a + 4))) None ≡ Some on)
        by true h = (toward f (a + 4), refl)
        by false h = absurd (cc)
    lands_too a (Links target) to e = absurd (cc)
    lands_too a Returns to e = absurd (cc)
    lands_too a (Switches jump) to e = absurd (cc)
    lands_too a Stops to e = absurd (cc)

    -- a name that has a node in the one graph has one in the other
    there_too : (name : NodeName) (node : Node) → IsNodeAt image g name node → (other : Node) × IsNodeAt image f name other
    there_too _ _ entrance = (Basic [] (next.At (f.at (Of entry 0))), entrance)
    there_too _ node (of_instruction a index kept i flow _ reach is flow_is kept_is get) =
        let inside : index < length (nodes_at f a kept i flow) = omega (arith, slice_get_within (nodes_at g a kept i flow) index node get, same_long a kept i flow) in (
          get_or (nodes_at f a kept i flow) index node,
          of_instruction a index kept i flow (get_or (nodes_at f a kept i flow) index node) reach is flow_is kept_is (slice_get-get_or (nodes_at f a kept i flow) index node inside),
        )
    there_too _ _ (landing a count kept i flow to reach is flow_is kept_is long lands) =
        let on = lands_too a flow to lands in
        (Basic [] on.0, landing a count kept i flow on.0 reach is flow_is kept_is (sym (same_long a kept i flow) ∙ long) on.1)

    module _ (graph other : Graph) (is : IsCodeGraph image f graph) (is_too : IsCodeGraph image g other) where
      pick : (k : ℕ) → (k < length graph.nodes) ⊎ (length graph.nodes ≤ k) → NodeName
      pick k (inl within) = (is.only k within).0
      pick k (inr past) = Entrance

      picked : (k : ℕ) (s : (k < length graph.nodes) ⊎ (length graph.nodes ≤ k)) (name : NodeName) (node : Node) → IsNodeAt image f name node → at name ≡ k → k < length graph.nodes
          → pick k s ≡ name
      unfolding pick
      picked k (inl within) name node there e below = let o = is.only k within in is.apart o.0 name o.1 node o.2 there (o.3 ∙ sym e)
      picked k (inr past) name node there e below = absurd (omega arith)

      -- the other graph's numbers of the first nodes of this one
      numbers : ℕ → List ℕ
      numbers zero = []
      numbers (suc n) = other_at (pick n (cases_lt n (length graph.nodes))) ∷ numbers n

      numbers_long : (n : ℕ) → length (numbers n) ≡ n
      unfolding numbers
      numbers_long zero = refl
      numbers_long (suc n) = omega (arith, numbers_long n)

      has : (n : ℕ) (name : NodeName) (node : Node) → IsNodeAt image f name node → at name < n → n ≤ length graph.nodes → list_any (λ k. other_at name == k) (numbers n) ≡ true
      unfolding numbers
      has zero name node there below within = absurd (omega arith)
      has (suc n) name node there below within = elim (cases_lt (at name) n) [
        | inl less ↦ or_right (other_at name == other_at (pick n (cases_lt n (length graph.nodes)))) _ (has n name node there less (omega arith))
        | inr past ↦
            let same : pick n (cases_lt n (length graph.nodes)) ≡ name = picked n (cases_lt n (length graph.nodes)) name node there (omega arith) (omega arith) in
            or_left _ (list_any (λ k. other_at name == k) (numbers n)) (eq-eqb (other_at name) (other_at (pick n (cases_lt n (length graph.nodes)))) (ap other_at (sym same)))
      ]

      pub at_most : length other.nodes ≤ length graph.nodes
      at_most =
          let all = le-length_from_below (numbers (length graph.nodes)) (length other.nodes) each in
          omega (arith, all, numbers_long (length graph.nodes))
        where
          each : (q : ℕ) → q < length other.nodes → list_any (λ k. q == k) (numbers (length graph.nodes)) ≡ true
          each q below =
              let o = is_too.only q below in
              let there = there_too o.0 o.1 o.2 in
              let within = slice_get_within graph.nodes (at o.0) there.0 (is.there o.0 there.0 there.1) in
              ap (λ (n : ℕ). list_any (λ k. n == k) (numbers (length graph.nodes))) (sym o.3)
              ∙ has (length graph.nodes) o.0 there.0 there.1 within (omega arith)

  pub one_size : (number other_number : ℕ → ℕ) (at other_at : NodeName → ℕ) (graph other : Graph) → IsCodeGraph image (numbered_by number at) graph
      → IsCodeGraph image (numbered_by other_number other_at) other → length graph.nodes ≡ length other.nodes
  one_size number other_number at other_at graph other is is_too =
      omega (arith, at_most number other_number at other_at graph other is is_too, at_most other_number number other_at at other graph is_too is)
