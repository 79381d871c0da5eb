-- A graph has the addresses of the runs of fixed bytes, and not the bytes.
use Rattle.std.proofs.Common.{◌≡◌, ◌∙◌, ℕ, ◌+◌, ◌-◌, Bool, true, false, refl, ap, List, [], ◌∷◌, ◌++◌, length, map, Option}
use Rattle.std.proofs.lemmas.List.{length-replicate}
use Rattle.rv_instr.specs.declared.Instr.{Instr}
use Rattle.rv_instr.specs.declared.Instr.TheVariants as instr
use Rattle.memory_spec.specs.Runs.{Run}
use Rattle.code_reach_spec.specs.Code.{Flow, Falls, Branches, Jumps, Calls, Links, Returns, Switches, Stops}
use Rattle.term_core_spec.specs.Term.{Term, open_term, or_term, equal, less}
use Rattle.graph_core_spec.specs.declared.Next.{Next}
use Rattle.graph_core_spec.specs.declared.Next.TheVariants as next
use Rattle.graph_core_spec.specs.Graph.{Node, Basic, Cond, Graph}
use Rattle.decompile_spec.specs.State.{table_index}
use Rattle.decompile_spec.specs.InstructionTerms.{number, avoids, access_tests, address, aligned_for, last_written}
use Rattle.decompile_spec.specs.Blocks.{Of, Setting, Ending, Does, Goes, onward, toward, chain, tests_of, branching, next_test, table_tests, does_all, ending_of, nodes_at, landing_of}
use Rattle.decompile_laws.specs.Layout.{Item, block, blocks, laid, landing_node}
use Rattle.decompile_accesses.specs.Runs.{blanked}

avoids_blank : (a e : Term) (run : Run) → avoids a e (blanked run) ≡ avoids a e run
avoids_blank a e run = ap (λ (n : ℕ). or_term (less (number (run.start + n - 1)) a) (less e (number run.start))) (length-replicate (length run.bytes) 0)

all_avoid : (a e : Term) (runs : List Run) → map (avoids a e) (map blanked runs) ≡ map (avoids a e) runs
all_avoid a e [] = refl
all_avoid a e (run ∷ runs) = cc (avoids_blank a e run, all_avoid a e runs)

same_accesses : (runs : List Run) (i : Instr) → access_tests (map blanked runs) i ≡ access_tests runs i
same_accesses runs (instr.Lui rd imm) = refl
same_accesses runs (instr.Auipc rd imm) = refl
same_accesses runs (instr.Jal rd offset) = refl
same_accesses runs (instr.Jalr rd base offset) = refl
same_accesses runs (instr.Branch test left right offset) = refl
same_accesses runs (instr.Load kind rd base offset) = refl
same_accesses runs (instr.Store kind base source offset) =
    ap (λ (tests : List Term). aligned_for kind (address base offset) ++ tests) (all_avoid (address base offset) (last_written kind (address base offset)) runs)
same_accesses runs (instr.Immediate operation rd source imm) = refl
same_accesses runs (instr.Shift operation rd source amount) = refl
same_accesses runs (instr.Arithmetic operation rd left right) = refl
same_accesses runs (instr.Fence rd source bits) = refl
same_accesses runs instr.Ecall = refl
same_accesses runs instr.Ebreak = refl

module _ (f : Setting) where
  abbrev pub blank_setting : Setting
  blank_setting = record f { runs = map blanked f.runs }

  same_tests : (i : Instr) (flow : Flow) → tests_of blank_setting i flow ≡ tests_of f i flow
  unfolding tests_of
  same_tests i Falls = same_accesses f.runs i
  same_tests i (Branches target) = refl
  same_tests i (Jumps target) = refl
  same_tests i (Calls target) = refl
  same_tests i (Links target) = refl
  same_tests i Returns = refl
  same_tests i (Switches jump) = refl
  same_tests i Stops = refl

  same_branching : (place : ℕ) (keeps : Bool) (i : Instr) (target : ℕ) → branching blank_setting place keeps i target ≡ branching f place keeps i target
  unfolding toward
  same_branching place false i target = refl
  same_branching place true i target = refl

  same_next : (place n : ℕ) (targets : List ℕ) → next_test blank_setting place n targets ≡ next_test f place n targets
  same_next place n [] = refl
  same_next place n (target ∷ rest) = refl

  same_table : (place n : ℕ) (targets : List ℕ) → table_tests blank_setting place n targets ≡ table_tests f place n targets
  unfolding table_tests toward
  same_table place n [] = refl
  same_table place n (target ∷ rest) =
      ap (λ (to : Next). Cond (equal (open_term table_index) (number n)) (toward f target) to ∷ table_tests blank_setting place (n + 1) rest) (same_next place (n + 1) rest)
      ∙ ap (λ (nodes : List Node). Cond (equal (open_term table_index) (number n)) (toward f target) (next_test f place (n + 1) rest) ∷ nodes) (same_table place (n + 1) rest)

  same_ending : (place : ℕ) (keeps : Bool) (i : Instr) (flow : Flow) → ending_of blank_setting place keeps i flow ≡ ending_of f place keeps i flow
  unfolding ending_of toward
  same_ending place keeps i Falls = refl
  same_ending place keeps i (Branches target) = same_branching place keeps i target
  same_ending place keeps i (Jumps target) = refl
  same_ending place keeps i (Calls target) = refl
  same_ending place keeps i (Links target) = refl
  same_ending place keeps i Returns = refl
  same_ending place keeps i (Switches jump) = ap does_all (same_table place 0 jump.targets)
  same_ending place keeps i Stops = refl

  same_onward : (place index : ℕ) (tests : List Term) (ending : Ending) → onward blank_setting place index tests ending ≡ onward f place index tests ending
  same_onward place index [] (Does node further) = refl
  same_onward place index [] (Goes to) = refl
  same_onward place index (test ∷ tests) ending = refl

  same_chain : (place index : ℕ) (tests : List Term) (ending : Ending) → chain blank_setting place index tests ending ≡ chain f place index tests ending
  unfolding chain
  same_chain place index [] (Does node further) = refl
  same_chain place index [] (Goes to) = refl
  same_chain place index (test ∷ tests) ending =
      let to : onward blank_setting place (index + 1) tests ending ≡ onward f place (index + 1) tests ending = same_onward place (index + 1) tests ending in
      let rest : chain blank_setting place (index + 1) tests ending ≡ chain f place (index + 1) tests ending = same_chain place (index + 1) tests ending in
      cc

  same_landing : (place : ℕ) (flow : Flow) → landing_of blank_setting place flow ≡ landing_of f place flow
  unfolding landing_of toward
  same_landing place Falls = refl
  same_landing place (Branches target) = refl
  same_landing place (Jumps target) = refl
  same_landing place (Calls target) = refl
  same_landing place (Links target) = refl
  same_landing place Returns = refl
  same_landing place (Switches jump) = refl
  same_landing place Stops = refl

  same_block : (item : Item) → block blank_setting item ≡ block f item
  unfolding nodes_at
  same_block item =
      ap (λ (tests : List Term). chain blank_setting item.address 0 tests (ending_of blank_setting item.address item.keeps item.instruction item.flow) ++ landing_node (landing_of blank_setting item.address item.flow)) (same_tests item.instruction item.flow)
      ∙ ap (λ (ending : Ending). chain blank_setting item.address 0 (tests_of f item.instruction item.flow) ending ++ landing_node (landing_of blank_setting item.address item.flow)) (same_ending item.address item.keeps item.instruction item.flow)
      ∙ ap (λ (nodes : List Node). nodes ++ landing_node (landing_of blank_setting item.address item.flow)) (same_chain item.address 0 (tests_of f item.instruction item.flow) (ending_of f item.address item.keeps item.instruction item.flow))
      ∙ ap (λ (o : Option Next). chain f item.address 0 (tests_of f item.instruction item.flow) (ending_of f item.address item.keeps item.instruction item.flow) ++ landing_node o) (same_landing item.address item.flow)

  same_blocks : (items : List Item) → blocks blank_setting items ≡ blocks f items
  same_blocks [] = refl
  same_blocks (item ∷ rest) = ap (λ (nodes : List Node). nodes ++ blocks blank_setting rest) (same_block item) ∙ ap (λ (nodes : List Node). block f item ++ nodes) (same_blocks rest)

  -- the graph is the same
  pub same_laid : (items : List Item) → laid blank_setting items ≡ laid f items
  same_laid items =
      let rest : blocks blank_setting items ≡ blocks f items = same_blocks items in
      let graph : List Node → Graph = λ nodes. record { nodes = nodes; entry = 0 } in
      ap (λ (nodes : List Node). graph (Basic [] (next.At (f.at (Of f.entry 0))) ∷ nodes)) rest
