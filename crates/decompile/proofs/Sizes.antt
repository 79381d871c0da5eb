-- How many nodes an instruction has.
use Rattle.std.proofs.Common.{◌≡◌, ◌∙◌, ℕ, suc, ◌+◌, ◌-◌, ◌%◌, ◌^◌, ◌==◌, Bool, true, false, cond, refl, ap, arith, List, [], ◌∷◌, ◌++◌, length, map, Some, None}
use Rattle.std.proofs.lemmas.List.{length-append, length-map}
use Rattle.rv_instr.specs.declared.Instr.{Instr}
use Rattle.rv_instr.specs.declared.Instr.TheVariants as instr
use Rattle.rv_instr.specs.declared.LoadKind.{LoadKind}
use Rattle.rv_instr.specs.declared.LoadKind.TheVariants as load_kind
use Rattle.rv_instr.specs.declared.StoreKind.{StoreKind}
use Rattle.rv_instr.specs.declared.StoreKind.TheVariants as store_kind
use Rattle.code_reach_spec.specs.Code.{Flow, Falls, Branches, Jumps, Calls, Links, Returns, Switches, Stops}
use Rattle.term_core_spec.specs.Term.{Term}
use Rattle.graph_core_spec.specs.declared.Next.TheVariants as next
use Rattle.graph_core_spec.specs.Graph.{Node, Basic, Call}
use Rattle.decompile_spec.specs.InstructionTerms as forms
use Rattle.decompile_spec.specs.Blocks.{Following, call_nodes, Setting, Does, leaves, toward, chain, tests_of, table_tests, does_all, ending_of, nodes_at, landing_of, call_inputs}
use Rattle.decompile_laws.specs.Layout.{Item, landing_node, block}
use Rattle.decompile.specs.Counts.{load_tests, alignments, access_tests, further_by, further_nodes}
use Rattle.decompile.specs.declared.numbers.Counting.{Counting}
use Rattle.decompile.specs.Answer.{counting}

chain_long : (f : Setting) (address index : ℕ) (tests : List Term) (node : Node) → length (chain f address index tests (Does node [])) ≡ length tests + 1
unfolding chain
chain_long f address index [] node = refl
chain_long f address index (test ∷ tests) node = omega (arith, chain_long f address (index + 1) tests node)

-- a test for each word of a table
tests_long : (f : Setting) (address n : ℕ) (targets : List ℕ) → length (table_tests f address n targets) ≡ length targets
unfolding table_tests
tests_long f address n [] = refl
tests_long f address n (target ∷ rest) = ap suc (tests_long f address (n + 1) rest)

loads : (kind : LoadKind) (a : Term) → length (forms.load_tests kind a) ≡ load_tests kind
loads load_kind.Byte a = refl
loads load_kind.Half a = refl
loads load_kind.Word a = refl
loads load_kind.ByteUnsigned a = refl
loads load_kind.HalfUnsigned a = refl

aligned : (kind : StoreKind) (a : Term) → length (forms.aligned_for kind a) ≡ alignments kind
aligned store_kind.Byte a = refl
aligned store_kind.Half a = refl
aligned store_kind.Word a = refl

accesses : (f : Setting) (i : Instr) → length (forms.access_tests f.runs i) ≡ access_tests (length f.runs) i
accesses f (instr.Lui rd imm) = refl
accesses f (instr.Auipc rd imm) = refl
accesses f (instr.Jal rd offset) = refl
accesses f (instr.Jalr rd base offset) = refl
accesses f (instr.Branch test left right offset) = refl
accesses f (instr.Load kind rd base offset) = loads kind (forms.address base offset)
accesses f (instr.Store kind base source offset) =
    let a : Term = forms.address base offset in
    let e : Term = forms.last_written kind a in
    length-append (forms.aligned_for kind a) (map (forms.avoids a e) f.runs) ∙ omega (arith, aligned kind a, length-map f.runs (forms.avoids a e))
accesses f (instr.Immediate operation rd source imm) = refl
accesses f (instr.Shift operation rd source amount) = refl
accesses f (instr.Arithmetic operation rd left right) = refl
accesses f (instr.Fence rd source bits) = refl
accesses f instr.Ecall = refl
accesses f instr.Ebreak = refl

call_long : (f : Setting) (address target : ℕ) (b : Bool)
    → length ((cond b (Call (f.graph_number target) (call_inputs ((address + 4) % 2 ^ 32)) [] (f.at (Following address call_nodes))) (Basic [] next.Err) ∷ [])
    ++ landing_node (cond b (Some (toward f (address + 4))) None)) ≡ cond b 1 0 + 1
call_long f address target true = refl
call_long f address target false = refl

-- what the nodes of the function of this setting are counted by
abbrev pub counting_of : Setting → Counting
counting_of f = counting f.entry f.size (length f.runs)

jump_long : (f : Setting) (address target : ℕ) (keeps : Bool) (i : Instr) (b : Bool) → leaves f target ≡ b
    → length (nodes_at f address keeps i (Jumps target) ++ landing_node (landing_of f address (Jumps target))) ≡ cond b 2 0 + 1
unfolding nodes_at chain tests_of ending_of landing_of
jump_long f address target keeps i true e = rw e refl
jump_long f address target keeps i false e = rw e refl

branch_long : (f : Setting) (address target : ℕ) (keeps : Bool) (i : Instr)
    → length (nodes_at f address keeps i (Branches target) ++ landing_node (landing_of f address (Branches target))) ≡ cond keeps 1 0 + 1
unfolding nodes_at chain tests_of ending_of landing_of
branch_long f address target true i = refl
branch_long f address target false i = refl

switch_long : (f : Setting) (address : ℕ) (targets : List ℕ) → length (chain f address 0 [] (does_all (table_tests f address 0 targets)) ++ []) ≡ length targets - 1 + 1
unfolding chain table_tests
switch_long f address [] = refl
switch_long f address (target ∷ rest) =
    length-append (table_tests f address 0 (target ∷ rest)) [] ∙ omega (arith, tests_long f address 0 (target ∷ rest))

pub block_long : (f : Setting) (item : Item) → length (block f item) ≡ further_nodes (counting_of f) item + 1
unfolding nodes_at chain tests_of ending_of landing_of
block_long f item = of item.flow
  where
    of : (flow : Flow) → length (nodes_at f item.address item.keeps item.instruction flow ++ landing_node (landing_of f item.address flow)) ≡ further_by (counting_of f) item.keeps item.instruction flow + 1
    of Falls =
        let node : Node = Basic (forms.effects item.address item.instruction) (toward f (item.address + 4)) in
        length-append (chain f item.address 0 (forms.access_tests f.runs item.instruction) (Does node [])) []
        ∙ omega (arith, chain_long f item.address 0 (forms.access_tests f.runs item.instruction) node, accesses f item.instruction)
    of (Branches target) = branch_long f item.address target item.keeps item.instruction
    of (Jumps target) = jump_long f item.address target item.keeps item.instruction (leaves f target) refl
    of (Calls target) = call_long f item.address target (target % 4 == 0)
    of (Links target) = refl
    of Returns = refl
    of (Switches jump) = switch_long f item.address jump.targets
    of Stops = refl
