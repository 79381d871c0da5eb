-- A graph of code binds registers and memory alone.
use Rattle.std.proofs.Common.{◌≡◌, ◌≢◌, ◌∙◌, ℕ, zero, suc, ◌+◌, ◌%◌, ◌==◌, Bool, true, false, cond, refl, sym, ap, subst, arith, List, [], ◌∷◌, Some}
use Rattle.std.specs.Prelude.{slice_get, ⊤, All}
use Rattle.std.proofs.lemmas.Option.{get_or_from_slice_get}
use Rattle.rv_instr.specs.declared.Instr.{Instr}
use Rattle.rv_instr.specs.declared.Instr.TheVariants as instr
use Rattle.elf_read_spec.specs.Image.{Image}
use Rattle.code_reach_spec.specs.Code.{Flow, Falls, Branches, Jumps, Calls, Links, Returns, Switches, Stops}
use Rattle.term_core_spec.specs.declared.Family.{Family}
use Rattle.term_core_spec.specs.declared.Family.TheVariants.{Register, BinaryMemory}
use Rattle.term_core_spec.specs.Term.{Term}
use Rattle.graph_core_spec.specs.declared.Next.TheVariants as to
use Rattle.graph_core_spec.specs.Graph.{Binding, Node, Basic, Cond, Call, Graph}
use Rattle.graph_core_spec.specs.Variables.{own_bindings, NeverBinds}
use Rattle.decompile_spec.specs.State.{register}
use Rattle.decompile_spec.specs.InstructionTerms.{put, effects}
use Rattle.decompile_spec.specs.Blocks.{NodeName, Following, Setting, Ending, Does, Goes, toward, onward, chain, branching, table_tests, does_all, tests_of, ending_of, nodes_at, leaves, call_inputs, tail_inputs, call_nodes, tail_call_nodes}
use Rattle.decompile_spec.specs.CodeGraph.{IsNodeAt, entrance, of_instruction, landing, IsCodeGraph}
use Rattle.rv_machine_spec.specs.Machine.{past}

module _ (family : Family) (no_register : family ≢ Register) (no_memory : family ≢ BinaryMemory) where
  abbrev IsOther : Binding → Type 0
  IsOther b = b.variable.family ≢ family

  none : All IsOther []
  none k d below = absurd (omega arith)

  one : (b : Binding) → IsOther b → All IsOther (b ∷ [])
  one b is zero d below = is
  one b is (suc k) d below = absurd (omega arith)

  put_other : (r : ℕ) (term : Term) → All IsOther (put r term)
  put_other r term = at (r == 0)
    where
      at : (b : Bool) → All IsOther (cond b [] (record { variable = register r; term = term } ∷ []))
      at true = none
      at false = one (record { variable = register r; term = term }) (λ e. no_register (sym e))

  effects_other : (a : ℕ) (i : Instr) → All IsOther (effects a i)
  unfolding effects
  effects_other a (instr.Lui rd imm) = put_other rd _
  effects_other a (instr.Auipc rd imm) = put_other rd _
  effects_other a (instr.Jal rd offset) = none
  effects_other a (instr.Jalr rd base offset) = none
  effects_other a (instr.Branch test left right offset) = none
  effects_other a (instr.Load kind rd base offset) = put_other rd _
  effects_other a (instr.Store kind base source offset) = one _ (λ e. no_memory (sym e))
  effects_other a (instr.Immediate operation rd source imm) = put_other rd _
  effects_other a (instr.Shift operation rd source amount) = put_other rd _
  effects_other a (instr.Arithmetic operation rd left right) = put_other rd _
  effects_other a (instr.Fence rd source bits) = none
  effects_other a instr.Ecall = none
  effects_other a instr.Ebreak = none

  IsFree : Node → Type 0
  IsFree node = All IsOther (own_bindings node)

  -- each node
  AreFree : List Node → Type 0
  AreFree nodes = (k : ℕ) (node : Node) → slice_get nodes k ≡ Some node → IsFree node

  EndsFree : Ending → Type 0
  EndsFree (Does node more) = IsFree node × AreFree more
  EndsFree (Goes on) = ⊤

  no_more : AreFree []
  unfolding AreFree
  no_more k node is = absurd (cc)

  and_more : (first : Node) (more : List Node) → IsFree first → AreFree more → AreFree (first ∷ more)
  unfolding AreFree
  and_more first more free rest zero node is = let same : first ≡ node = cc in subst (λ (x : Node). IsFree x) same free
  and_more first more free rest (suc k) node is = rest k node is

  tests_free : (f : Setting) (a j : ℕ) (targets : List ℕ) → AreFree (table_tests f a j targets)
  unfolding IsFree table_tests
  tests_free f a j [] = no_more
  tests_free f a j (target ∷ rest) = and_more _ (table_tests f a (j + 1) rest) none (tests_free f a (j + 1) rest)

  all_free : (nodes : List Node) → AreFree nodes → EndsFree (does_all nodes)
  unfolding EndsFree IsFree AreFree
  all_free [] free = (none, no_more)
  all_free (node ∷ more) free = (free 0 node refl, λ k other is. free (suc k) other is)

  branching_free : (f : Setting) (a : ℕ) (kept : Bool) (i : Instr) (target : ℕ) → EndsFree (branching f a kept i target)
  unfolding EndsFree IsFree
  branching_free f a false i target = (none, no_more)
  branching_free f a true i target = (none, and_more _ [] (one _ (λ e. no_register (sym e))) no_more)

  ending_free : (f : Setting) (a : ℕ) (kept : Bool) (i : Instr) (flow : Flow) → EndsFree (ending_of f a kept i flow)
  unfolding EndsFree IsFree ending_of
  ending_free f a kept i Falls = (effects_other a i, no_more)
  ending_free f a kept i (Branches target) = branching_free f a kept i target
  ending_free f a kept i (Jumps target) = (at (leaves f target), no_more)
    where
      at : (b : Bool) → IsFree (cond b (Call (f.graph_number target) tail_inputs [] (f.at (Following a tail_call_nodes))) (Basic [] (toward f target)))
      at true = none
      at false = none
  ending_free f a kept i (Calls target) = (at (target % 4 == 0), no_more)
    where
      at : (b : Bool) → IsFree (cond b (Call (f.graph_number target) (call_inputs (past a 4)) [] (f.at (Following a call_nodes))) (Basic [] to.Err))
      at true = none
      at false = none
  ending_free f a kept i (Links target) = (none, no_more)
  ending_free f a kept i Returns = tt
  ending_free f a kept i (Switches jump) = all_free (table_tests f a 0 jump.targets) (tests_free f a 0 jump.targets)
  ending_free f a kept i Stops = (none, no_more)

  chain_free : (f : Setting) (a j : ℕ) (tests : List Term) (ending : Ending) (k : ℕ) (node : Node) → EndsFree ending → slice_get (chain f a j tests ending) k ≡ Some node → IsFree node
  unfolding EndsFree IsFree AreFree chain
  chain_free f a j [] (Does last more) k node free is = and_more last more free.0 free.1 k node is
  chain_free f a j [] (Goes on) k node free is = absurd (cc)
  chain_free f a j (test ∷ tests) ending zero node free is =
      let same : Cond test (onward f a (j + 1) tests ending) to.Err ≡ node = cc in subst IsFree same none
  chain_free f a j (test ∷ tests) ending (suc k) node free is = chain_free f a (j + 1) tests ending k node free is

  node_free : (image : Image) (f : Setting) (name : NodeName) (node : Node) → IsNodeAt image f name node → IsFree node
  unfolding IsFree nodes_at
  node_free image f _ _ entrance = none
  node_free image f _ node (of_instruction a index kept i flow _ reach there flow_is kept_is get) =
      chain_free f a 0 (tests_of f i flow) (ending_of f a kept i flow) index node (ending_free f a kept i flow) get
  node_free image f _ _ (landing a own kept i flow on reach there flow_is kept_is long lands) = none

  pub never_binds : (image : Image) (f : Setting) (graph : Graph) → IsCodeGraph image f graph → NeverBinds graph family
  unfolding IsFree
  never_binds image f graph is = λ k d below.
      let at = is.only k below in
      let there : slice_get graph.nodes k ≡ Some at.1 = ap (slice_get graph.nodes) (sym at.3) ∙ is.there at.0 at.1 at.2 in
      subst IsFree (sym (get_or_from_slice_get graph.nodes k at.1 d there)) (node_free image f at.0 at.1 at.2)
