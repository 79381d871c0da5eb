-- The nodes of an instruction, flow by flow.
use Rattle.std.proofs.Common.{◌≡◌, ◌≢◌, ◌∙◌, ℕ, ◌+◌, ◌%◌, Bool, true, false, refl, eq-eqb, List, [], ◌∷◌, ◌++◌}
use Rattle.std.proofs.lemmas.Bool.{ne_eqb}
use Rattle.std.proofs.lemmas.List.{append-nil}
use Rattle.rv_instr.specs.declared.Instr.{Instr}
use Rattle.rv_machine_spec.specs.Machine.{past}
use Rattle.code_reach_spec.specs.Code.{Falls, Branches, Jumps, Calls, Links, Returns, Switches, Stops, TableJump}
use Rattle.graph_core_spec.specs.declared.Next.TheVariants as next
use Rattle.graph_core_spec.specs.Graph.{Basic, Cond, Call}
use Rattle.decompile_spec.specs.State.{table_index}
use Rattle.decompile_spec.specs.InstructionTerms.{access_tests, returns_home, effects, branch_test}
use Rattle.decompile_spec.specs.Blocks.{Of, Following, call_nodes, tail_call_nodes, Setting, Does, leaves, toward, chain, tests_of, ending_of, nodes_at, landing_of, call_inputs, tail_inputs, bounded_by, table_tests}
use Rattle.decompile_laws.specs.Layout.{block}
use Rattle.decompile.specs.Settings.{asks}
use Rattle.decompile.proofs.Asked.{chain-asks}

module _ (f : Setting) (address : ℕ) (keeps : Bool) (i : Instr) where
  pub falls_block : block f (record { address = address; instruction = i; keeps = keeps; flow = Falls })
      ≡ asks f address 0 (access_tests f.runs i) ++ Basic (effects address i) (toward f (address + 4)) ∷ []
  unfolding nodes_at tests_of ending_of landing_of
  falls_block =
      append-nil (chain f address 0 (access_tests f.runs i) (Does (Basic (effects address i) (toward f (address + 4))) []))
      ∙ chain-asks f address 0 (access_tests f.runs i) (Basic (effects address i) (toward f (address + 4))) []

  pub branch_block : (target : ℕ) → keeps ≡ false → block f (record { address = address; instruction = i; keeps = keeps; flow = Branches target })
      ≡ Cond (branch_test i) (toward f target) (toward f (address + 4)) ∷ []
  unfolding nodes_at chain tests_of ending_of landing_of
  branch_block target none = rw none refl

  -- a branch that keeps the index of a table
  pub keeping_block : (target : ℕ) → keeps ≡ true → block f (record { address = address; instruction = i; keeps = keeps; flow = Branches target })
      ≡ Cond (branch_test i) (toward f target) (next.At (f.at (Of address 1)))
      ∷ Basic (record { variable = table_index; term = bounded_by i } ∷ []) (toward f (address + 4)) ∷ []
  unfolding nodes_at chain tests_of ending_of landing_of
  keeping_block target keeps_it = rw keeps_it refl

  pub jump_block : (target : ℕ) → leaves f target ≡ false → block f (record { address = address; instruction = i; keeps = keeps; flow = Jumps target }) ≡ Basic [] (toward f target) ∷ []
  unfolding nodes_at chain tests_of ending_of landing_of
  jump_block target stays = rw stays refl

  pub tail_block : (target : ℕ) → leaves f target ≡ true → block f (record { address = address; instruction = i; keeps = keeps; flow = Jumps target })
      ≡ Cond returns_home (next.At (f.at (Of address 1))) next.Err
      ∷ (Call (f.graph_number target) tail_inputs [] (f.at (Following address tail_call_nodes)) ∷ Basic [] next.Ret ∷ [])
  unfolding nodes_at chain tests_of ending_of landing_of
  tail_block target leaves_it = rw leaves_it refl

  pub call_block : (target : ℕ) → target % 4 ≡ 0 → block f (record { address = address; instruction = i; keeps = keeps; flow = Calls target })
      ≡ Call (f.graph_number target) (call_inputs (past address 4)) [] (f.at (Following address call_nodes)) ∷ Basic [] (toward f (address + 4)) ∷ []
  unfolding nodes_at chain tests_of ending_of landing_of
  call_block target aligned = rw (eq-eqb (target % 4) 0 aligned) refl

  pub bad_call_block : (target : ℕ) → target % 4 ≢ 0 → block f (record { address = address; instruction = i; keeps = keeps; flow = Calls target }) ≡ Basic [] next.Err ∷ []
  unfolding nodes_at chain tests_of ending_of landing_of
  bad_call_block target odd = rw (ne_eqb (target % 4) 0 odd) refl

  pub lead_block : (target : ℕ) → block f (record { address = address; instruction = i; keeps = keeps; flow = Links target }) ≡ Basic [] next.Err ∷ []
  unfolding nodes_at chain tests_of ending_of landing_of
  lead_block target = refl

  pub return_block : block f (record { address = address; instruction = i; keeps = keeps; flow = Returns }) ≡ Cond returns_home next.Ret next.Err ∷ []
  unfolding nodes_at chain tests_of ending_of landing_of
  return_block = refl

  -- a jump by a table, with words and without
  pub switch_block : (jump : TableJump) (target : ℕ) (rest : List ℕ) → jump.targets ≡ target ∷ rest
      → block f (record { address = address; instruction = i; keeps = keeps; flow = Switches jump }) ≡ table_tests f address 0 (target ∷ rest)
  unfolding nodes_at chain tests_of ending_of landing_of table_tests
  switch_block jump target rest are = rw are (append-nil (table_tests f address 0 (target ∷ rest)))

  pub empty_switch_block : (jump : TableJump) → jump.targets ≡ []
      → block f (record { address = address; instruction = i; keeps = keeps; flow = Switches jump }) ≡ Basic [] next.Err ∷ []
  unfolding nodes_at chain tests_of ending_of landing_of table_tests
  empty_switch_block jump are = rw are refl

  pub stop_block : block f (record { address = address; instruction = i; keeps = keeps; flow = Stops }) ≡ Basic [] next.Err ∷ []
  unfolding nodes_at chain tests_of ending_of landing_of
  stop_block = refl
