-- Nodes that are added one after the other are those of an instruction.
use Rattle.std.proofs.Common.{◌≡◌, ◌≢◌, ◌∙◌, ℕ, ◌+◌, ◌%◌, Bool, true, false, refl, sym, ap, List, [], ◌∷◌, ◌++◌}
use Rattle.rv_instr.specs.declared.Instr.{Instr}
use Rattle.rv_machine_spec.specs.Machine.{past}
use Rattle.code_reach_spec.specs.Code.{Falls, Branches, Jumps, Calls, Links, Returns, Switches, Stops, TableJump}
use Rattle.term_core_spec.specs.Term.{Term}
use Rattle.graph_core_spec.specs.declared.Next.{Next}
use Rattle.graph_core_spec.specs.declared.Next.TheVariants as next
use Rattle.graph_core_spec.specs.Graph.{Binding, Node, Basic, Cond, Call, Graph, with_nodes}
use Rattle.decompile_spec.specs.State.{table_index}
use Rattle.decompile_spec.specs.InstructionTerms.{access_tests, returns_home, effects, branch_test}
use Rattle.decompile_spec.specs.Blocks.{Of, Following, call_nodes, tail_call_nodes, Setting, leaves, toward, call_inputs, tail_inputs, bounded_by, table_tests}
use Rattle.decompile_laws.specs.Layout.{Item, block, blocks}
use Rattle.decompile.specs.Settings.{asks}
use Rattle.decompile.proofs.Asked.{with-with}
use Rattle.decompile.proofs.Parts.{falls_block, branch_block, keeping_block, switch_block, empty_switch_block, jump_block, tail_block, call_block, bad_call_block, lead_block, return_block, stop_block}

-- nodes that are added are those that are expected
pub added : (new old : Graph) (nodes expected : List Node) → new ≡ with_nodes old nodes → nodes ≡ expected → new ≡ with_nodes old expected
added new old nodes expected so same = so ∙ ap (with_nodes old) same

-- the same in two parts
pub added_twice : (new middle old : Graph) (first second expected : List Node) → middle ≡ with_nodes old first → new ≡ with_nodes middle second → first ++ second ≡ expected
    → new ≡ with_nodes old expected
added_twice new middle old first second expected so more same =
    more ∙ ap (λ (g : Graph). with_nodes g second) so ∙ with-with old first second ∙ ap (with_nodes old) same

-- a test that the return address is as it was
pub home_added : (new old : Graph) (test : Term) (on_true : Next) → test ≡ returns_home → new ≡ with_nodes old (Cond test on_true next.Err ∷ [])
    → new ≡ with_nodes old (Cond returns_home on_true next.Err ∷ [])
home_added new old test on_true is so = added new old (Cond test on_true next.Err ∷ []) _ so (ap (λ (t : Term). Cond t on_true next.Err ∷ []) is)

module _ (f : Setting) (address : ℕ) (keeps : Bool) (i : Instr) (new old : Graph) where
  pub step_added : (middle : Graph) (tests : List Term) (bindings : List Binding) (to : Next) → middle ≡ with_nodes old (asks f address 0 tests)
      → tests ≡ access_tests f.runs i → new ≡ with_nodes middle (Basic bindings to ∷ []) → bindings ≡ effects address i → to ≡ toward f (address + 4)
      → new ≡ with_nodes old (block f (record { address = address; instruction = i; keeps = keeps; flow = Falls }))
  step_added middle tests bindings to so tests_are more bindings_are to_is =
      added_twice new middle old (asks f address 0 tests) (Basic bindings to ∷ []) _ so more
      (ap (λ (ts : List Term). asks f address 0 ts ++ Basic bindings to ∷ []) tests_are
      ∙ ap (λ (bs : List Binding). asks f address 0 (access_tests f.runs i) ++ Basic bs to ∷ []) bindings_are
      ∙ ap (λ (n : Next). asks f address 0 (access_tests f.runs i) ++ Basic (effects address i) n ∷ []) to_is
      ∙ sym (falls_block f address keeps i))

  pub call_added : (target callee landing : ℕ) (middle : Graph) (inputs outputs : List Binding) (to : Next) → target % 4 ≡ 0 → outputs ≡ []
      → callee ≡ f.graph_number target → inputs ≡ call_inputs (past address 4) → landing ≡ f.at (Following address call_nodes) → to ≡ toward f (address + 4)
      → middle ≡ with_nodes old (Call callee inputs outputs landing ∷ []) → new ≡ with_nodes middle (Basic [] to ∷ [])
      → new ≡ with_nodes old (block f (record { address = address; instruction = i; keeps = keeps; flow = Calls target }))
  call_added target callee landing middle inputs outputs to aligned outputs_are callee_is inputs_are landing_is to_is so more =
      added_twice new middle old (Call callee inputs outputs landing ∷ []) (Basic [] to ∷ []) _ so more
      (ap (λ (bs : List Binding). Call callee inputs bs landing ∷ Basic [] to ∷ []) outputs_are
      ∙ ap (λ (n : ℕ). Call n inputs [] landing ∷ Basic [] to ∷ []) callee_is
      ∙ ap (λ (bs : List Binding). Call (f.graph_number target) bs [] landing ∷ Basic [] to ∷ []) inputs_are
      ∙ ap (λ (n : ℕ). Call (f.graph_number target) (call_inputs (past address 4)) [] n ∷ Basic [] to ∷ []) landing_is
      ∙ ap (λ (n : Next). Call (f.graph_number target) (call_inputs (past address 4)) [] (f.at (Following address call_nodes)) ∷ Basic [] n ∷ []) to_is
      ∙ sym (call_block f address keeps i target aligned))

  pub bad_call_added : (target : ℕ) → target % 4 ≢ 0 → new ≡ with_nodes old (Basic [] next.Err ∷ [])
      → new ≡ with_nodes old (block f (record { address = address; instruction = i; keeps = keeps; flow = Calls target }))
  bad_call_added target odd so = added new old (Basic [] next.Err ∷ []) _ so (sym (bad_call_block f address keeps i target odd))

  pub branch_added : (target : ℕ) (test : Term) (on_true on_false : Next) → keeps ≡ false → test ≡ branch_test i → on_true ≡ toward f target → on_false ≡ toward f (address + 4)
      → new ≡ with_nodes old (Cond test on_true on_false ∷ []) → new ≡ with_nodes old (block f (record { address = address; instruction = i; keeps = keeps; flow = Branches target }))
  branch_added target test on_true on_false none test_is true_is false_is so =
      added new old (Cond test on_true on_false ∷ []) _ so
      (ap (λ (t : Term). Cond t on_true on_false ∷ []) test_is
      ∙ ap (λ (n : Next). Cond (branch_test i) n on_false ∷ []) true_is
      ∙ ap (λ (n : Next). Cond (branch_test i) (toward f target) n ∷ []) false_is
      ∙ sym (branch_block f address keeps i target none))

  pub keeping_added : (target index : ℕ) (middle : Graph) (test : Term) (on_true to : Next) (bindings : List Binding) → keeps ≡ true → test ≡ branch_test i
      → on_true ≡ toward f target → index ≡ f.at (Of address 1) → bindings ≡ record { variable = table_index; term = bounded_by i } ∷ [] → to ≡ toward f (address + 4)
      → middle ≡ with_nodes old (Cond test on_true (next.At index) ∷ []) → new ≡ with_nodes middle (Basic bindings to ∷ [])
      → new ≡ with_nodes old (block f (record { address = address; instruction = i; keeps = keeps; flow = Branches target }))
  keeping_added target index middle test on_true to bindings keeps_it test_is true_is index_is bindings_are to_is so more =
      added_twice new middle old (Cond test on_true (next.At index) ∷ []) (Basic bindings to ∷ []) _ so more
      (ap (λ (t : Term). Cond t on_true (next.At index) ∷ Basic bindings to ∷ []) test_is
      ∙ ap (λ (n : Next). Cond (branch_test i) n (next.At index) ∷ Basic bindings to ∷ []) true_is
      ∙ ap (λ (n : ℕ). Cond (branch_test i) (toward f target) (next.At n) ∷ Basic bindings to ∷ []) index_is
      ∙ ap (λ (bs : List Binding). Cond (branch_test i) (toward f target) (next.At (f.at (Of address 1))) ∷ Basic bs to ∷ []) bindings_are
      ∙ ap (λ (n : Next). Cond (branch_test i) (toward f target) (next.At (f.at (Of address 1)))
      ∷ Basic (record { variable = table_index; term = bounded_by i } ∷ []) n ∷ []) to_is
      ∙ sym (keeping_block f address keeps i target keeps_it))

  pub jump_added : (target : ℕ) (to : Next) → leaves f target ≡ false → to ≡ toward f target → new ≡ with_nodes old (Basic [] to ∷ [])
      → new ≡ with_nodes old (block f (record { address = address; instruction = i; keeps = keeps; flow = Jumps target }))
  jump_added target to stays to_is so =
      added new old (Basic [] to ∷ []) _ so (ap (λ (n : Next). Basic [] n ∷ []) to_is ∙ sym (jump_block f address keeps i target stays))

  pub tail_call_added : (target call callee landing : ℕ) (middle last : Graph) (inputs outputs : List Binding) → leaves f target ≡ true → outputs ≡ []
      → call ≡ f.at (Of address 1) → callee ≡ f.graph_number target → inputs ≡ tail_inputs → landing ≡ f.at (Following address tail_call_nodes)
      → middle ≡ with_nodes old (Cond returns_home (next.At call) next.Err ∷ []) → last ≡ with_nodes middle (Call callee inputs outputs landing ∷ [])
      → new ≡ with_nodes last (Basic [] next.Ret ∷ []) → new ≡ with_nodes old (block f (record { address = address; instruction = i; keeps = keeps; flow = Jumps target }))
  tail_call_added target call callee landing middle last inputs outputs leaves_it outputs_are call_is callee_is inputs_are landing_is so then finally =
      added_twice new middle old (Cond returns_home (next.At call) next.Err ∷ []) (Call callee inputs outputs landing ∷ Basic [] next.Ret ∷ []) _ so
      (added_twice new last middle (Call callee inputs outputs landing ∷ []) (Basic [] next.Ret ∷ []) _ then finally refl)
      (ap (λ (n : ℕ). Cond returns_home (next.At n) next.Err ∷ (Call callee inputs outputs landing ∷ Basic [] next.Ret ∷ [])) call_is
      ∙ ap (λ (bs : List Binding). Cond returns_home (next.At (f.at (Of address 1))) next.Err ∷ (Call callee inputs bs landing ∷ Basic [] next.Ret ∷ [])) outputs_are
      ∙ ap (λ (n : ℕ). Cond returns_home (next.At (f.at (Of address 1))) next.Err ∷ (Call n inputs [] landing ∷ Basic [] next.Ret ∷ [])) callee_is
      ∙ ap (λ (bs : List Binding). Cond returns_home (next.At (f.at (Of address 1))) next.Err ∷ (Call (f.graph_number target) bs [] landing ∷ Basic [] next.Ret ∷ [])) inputs_are
      ∙ ap (λ (n : ℕ). Cond returns_home (next.At (f.at (Of address 1))) next.Err ∷ (Call (f.graph_number target) tail_inputs [] n ∷ Basic [] next.Ret ∷ [])) landing_is
      ∙ sym (tail_block f address keeps i target leaves_it))

  -- nothing but a node of an error, and nothing but a test
  pub lead_added : (target : ℕ) → new ≡ with_nodes old (Basic [] next.Err ∷ []) → new ≡ with_nodes old (block f (record { address = address; instruction = i; keeps = keeps; flow = Links target }))
  lead_added target so = added new old (Basic [] next.Err ∷ []) _ so (sym (lead_block f address keeps i target))

  pub stop_added : new ≡ with_nodes old (Basic [] next.Err ∷ []) → new ≡ with_nodes old (block f (record { address = address; instruction = i; keeps = keeps; flow = Stops }))
  stop_added so = added new old (Basic [] next.Err ∷ []) _ so (sym (stop_block f address keeps i))

  -- a jump by a table: all its tests, or an error where there is none
  pub switch_added : (jump : TableJump) (target : ℕ) (rest : List ℕ) → jump.targets ≡ target ∷ rest → new ≡ with_nodes old (table_tests f address 0 (target ∷ rest))
      → new ≡ with_nodes old (block f (record { address = address; instruction = i; keeps = keeps; flow = Switches jump }))
  switch_added jump target rest are so =
      added new old (table_tests f address 0 (target ∷ rest)) _ so (sym (switch_block f address keeps i jump target rest are))

  pub empty_switch_added : (jump : TableJump) → jump.targets ≡ [] → new ≡ with_nodes old (Basic [] next.Err ∷ [])
      → new ≡ with_nodes old (block f (record { address = address; instruction = i; keeps = keeps; flow = Switches jump }))
  empty_switch_added jump are so = added new old (Basic [] next.Err ∷ []) _ so (sym (empty_switch_block f address keeps i jump are))

  pub return_added : new ≡ with_nodes old (Cond returns_home next.Ret next.Err ∷ []) → new ≡ with_nodes old (block f (record { address = address; instruction = i; keeps = keeps; flow = Returns }))
  return_added so = added new old (Cond returns_home next.Ret next.Err ∷ []) _ so (sym (return_block f address keeps i))

-- one instruction more
pub block_added : (f : Setting) (new old expected : Graph) (item : Item) (rest : List Item) → new ≡ with_nodes old (block f item)
    → with_nodes old (blocks f (item ∷ rest)) ≡ expected → with_nodes new (blocks f rest) ≡ expected
block_added f new old expected item rest so whole =
    ap (λ (g : Graph). with_nodes g (blocks f rest)) so ∙ with-with old (block f item) (blocks f rest) ∙ whole
