-- The graph of a function without faults is valid.
use Rattle.std.proofs.Common.{◌≡◌, ◌∙◌, inl, inr, ℕ, zero, suc, ◌+◌, ◌*◌, ◌%◌, ◌^◌, ◌<◌, ◌≤◌, ◌==◌, Bool, true, false, cond, refl, sym, ap, subst, arith, eq-eqb, List, [], ◌∷◌, ◌++◌, length, map, get_or, Some, None}
use Rattle.std.specs.Prelude.{slice_get, Contains, ⊤}
use Rattle.std.proofs.lemmas.List.{append_assoc, length-append}
use Rattle.std.proofs.lemmas.List.Elements.{Contains-get_or}
use Rattle.std.proofs.lemmas.Option.{slice_get_within, get_or_from_slice_get}
use Rattle.rv_instr.specs.declared.Instr.{Instr}
use Rattle.rv_instr.specs.declared.Instr.TheVariants as instr
use Rattle.rv_machine_spec.specs.Arithmetic.{word, of_immediate, of_shift}
use Rattle.rv_machine_spec.specs.Machine.{past}
use Rattle.elf_read_spec.specs.Image.{Image}
use Rattle.memory_spec.specs.Runs.{Run}
use Rattle.code_reach_spec.specs.Code.{InRange, Flow, Falls, Branches, Jumps, Calls, Links, Returns, Switches, Stops, TableJump, most_targets, instr_at, flow_at, nexts_of, aligned, IsReachable, here, next}
use Rattle.code_reach_spec.specs.Faults.{HasNoFault}
use Rattle.rv_instr.specs.declared.BranchTest.{BranchTest}
use Rattle.rv_instr.specs.declared.BranchTest.TheVariants as branch
use Rattle.rv_instr.specs.declared.LoadKind.{LoadKind}
use Rattle.rv_instr.specs.declared.LoadKind.TheVariants as load_kind
use Rattle.rv_instr.specs.declared.StoreKind.{StoreKind}
use Rattle.rv_instr.specs.declared.StoreKind.TheVariants as store_kind
use Rattle.term_core_spec.specs.Term.{Term, truth, open_term, equal}
use Rattle.term_core_spec.specs.Sort.{sort_of, sort_of_atom, sort_of_binary}
use Rattle.graph_core_spec.specs.declared.Next.{Next}
use Rattle.graph_core_spec.specs.declared.Next.TheVariants as to
use Rattle.graph_core_spec.specs.Graph.{Binding, IsBinding, AreBindings, Node, Basic, Cond, Call, Graph, IsNext, IsNode, IsValid}
use Rattle.decompile_spec.specs.State.{register, entry_register, table_index}
use Rattle.decompile_spec.specs.InstructionTerms.{number, operand, address, put, effects, access_tests, load_tests, aligned_for, avoids, last_written, returns_home, branch_test}
use Rattle.decompile_spec.specs.Blocks.{NodeName, Entrance, Of, Following, call_nodes, tail_call_nodes, Setting, Ending, Does, Goes, bounded_by, toward, onward, chain, branching, next_test, table_tests, does_all, tests_of, ending_of, nodes_at, landing_of, leaves, entry_binding, other_registers, call_inputs, tail_inputs}
use Rattle.decompile_spec.specs.CodeGraph.{IsKept, IsNodeAt, entrance, of_instruction, landing, IsCodeGraph}
use Rattle.decompile_laws.proofs.Reached.{first_in, second_in, is_aligned, all_aligned, has_instruction, code_there}
use Rattle.decompile_laws.proofs.Switching.{has_flow}
use Rattle.decompile_laws.proofs.KeptBranches.{kept_or_not}
use Rattle.decompile_laws.proofs.RunUpsOf.{table_few}
use Rattle.decompile_laws.proofs.Fields.{AreFields, fields_at}
use Rattle.decompile_laws.proofs.Nodes.{test_in, last_in, kept_node, table_node, begins, call_long, tail_call_long, toward_there, toward_either}
use Rattle.decompile_laws.specs.Together.{is_node}
use Rattle.decompile_laws.proofs.Sorted.{Is32, IsTest, number_sorted, index_sorted, word_sorted, open_register, operand_sorted, address_sorted, computed_sorted, taken_sorted, stored_sorted, loaded_sorted, last_sorted, multiple_sorted, avoids_sorted}

-- ---- bindings and tests of an instruction

none_bind : AreBindings []
none_bind k d below = absurd (omega arith)

one_binds : (b : Binding) → IsBinding b → AreBindings (b ∷ [])
one_binds b is zero d below = is
one_binds b is (suc k) d below = absurd (omega arith)

put_binds : (r : ℕ) (term : Term) → Is32 term → AreBindings (put r term)
put_binds r term is = at (r == 0)
  where
    at : (b : Bool) → AreBindings (cond b [] (record { variable = register r; term = term } ∷ []))
    at true = none_bind
    at false = one_binds (record { variable = register r; term = term }) is

pub effects_bind : (place : ℕ) (i : Instr) → AreFields i → AreBindings (effects place i)
unfolding effects
effects_bind place (instr.Lui rd imm) fields = put_binds rd _ (number_sorted ((imm * 2 ^ 12) % 2 ^ 32) (omega arith))
effects_bind place (instr.Auipc rd imm) fields = put_binds rd _ (number_sorted (past place (imm * 2 ^ 12)) (omega arith))
effects_bind place (instr.Jal rd offset) fields = none_bind
effects_bind place (instr.Jalr rd base offset) fields = none_bind
effects_bind place (instr.Branch test left right offset) fields = none_bind
effects_bind place (instr.Load kind rd base offset) fields = put_binds rd _ (loaded_sorted (address base offset) (address_sorted base offset) kind)
effects_bind place (instr.Store kind base source offset) fields =
    one_binds _ (stored_sorted (address base offset) (operand source) (address_sorted base offset) (operand_sorted source) kind)
effects_bind place (instr.Immediate operation rd source imm) fields =
    put_binds rd _ (computed_sorted (operand source) (number (word imm)) (operand_sorted source) (word_sorted imm) (of_immediate operation))
effects_bind place (instr.Shift operation rd source amount) fields =
    put_binds rd _ (computed_sorted (operand source) (number amount) (operand_sorted source) (number_sorted amount (omega (arith, fields.2))) (of_shift operation))
effects_bind place (instr.Arithmetic operation rd left right) fields =
    put_binds rd _ (computed_sorted (operand left) (operand right) (operand_sorted left) (operand_sorted right) operation)
effects_bind place (instr.Fence rd source bits) fields = none_bind
effects_bind place instr.Ecall fields = none_bind
effects_bind place instr.Ebreak fields = none_bind

AreTests : List Term → Type 0
AreTests [] = ⊤
AreTests (t ∷ ts) = IsTest t × AreTests ts

no_tests : AreTests []
unfolding AreTests
no_tests = tt

one_test : (t : Term) → IsTest t → AreTests (t ∷ [])
unfolding AreTests
one_test t is = (is, tt)

both_tests : (xs ys : List Term) → AreTests xs → AreTests ys → AreTests (xs ++ ys)
unfolding AreTests
both_tests [] ys first second = second
both_tests (x ∷ xs) ys first second = (first.0, both_tests xs ys first.1 second)

avoids_tests : (a e : Term) (runs : List Run) → Is32 a → Is32 e → ((run : Run) → Contains runs run → run.start + length run.bytes ≤ 2 ^ 32)
    → ((run : Run) → Contains runs run → 0 < length run.bytes) → AreTests (map (avoids a e) runs)
unfolding AreTests
avoids_tests a e [] ea ee within some = tt
avoids_tests a e (run ∷ runs) ea ee within some =
    let here : Contains (run ∷ runs) run = (0, omega arith, refl) in (
      avoids_sorted a e run ea ee (omega (arith, within run here, some run here)) (within run here),
      avoids_tests a e runs ea ee (λ r (k, below, is). within r (suc k, omega arith, is)) (λ r (k, below, is). some r (suc k, omega arith, is)),
    )

more_bind : (b : Binding) (bs : List Binding) → IsBinding b → AreBindings bs → AreBindings (b ∷ bs)
more_bind b bs is are zero d below = is
more_bind b bs is are (suc k) d below = are k d (omega arith)

entries_bind : (rs : List ℕ) → AreBindings (map entry_binding rs)
entries_bind [] = none_bind
entries_bind (r ∷ rs) = more_bind (entry_binding r) (map entry_binding rs) (open_register r) (entries_bind rs)

call_binds : (back : ℕ) → back < 2 ^ 32 → AreBindings (call_inputs back)
unfolding call_inputs
call_binds back below =
    more_bind (record { variable = register 1; term = number back }) (record { variable = entry_register 1; term = number back } ∷ map entry_binding other_registers) (number_sorted back below)
    (more_bind (record { variable = entry_register 1; term = number back }) (map entry_binding other_registers) (number_sorted back below) (entries_bind other_registers))

tail_binds : AreBindings tail_inputs
unfolding tail_inputs
tail_binds = entries_bind (1 ∷ other_registers)

home_sorted : IsTest returns_home
unfolding sort_of sort_of_atom sort_of_binary
home_sorted = refl

truth_sorted : (b : Bool) → IsTest (truth b)
unfolding sort_of sort_of_atom
truth_sorted b = refl

branch_sorted : (i : Instr) → IsTest (branch_test i)
unfolding branch_test
branch_sorted (instr.Lui rd imm) = truth_sorted false
branch_sorted (instr.Auipc rd imm) = truth_sorted false
branch_sorted (instr.Jal rd offset) = truth_sorted false
branch_sorted (instr.Jalr rd base offset) = truth_sorted false
branch_sorted (instr.Branch test left right offset) = taken_sorted (operand left) (operand right) (operand_sorted left) (operand_sorted right) test
branch_sorted (instr.Load kind rd base offset) = truth_sorted false
branch_sorted (instr.Store kind base source offset) = truth_sorted false
branch_sorted (instr.Immediate operation rd source imm) = truth_sorted false
branch_sorted (instr.Shift operation rd source amount) = truth_sorted false
branch_sorted (instr.Arithmetic operation rd left right) = truth_sorted false
branch_sorted (instr.Fence rd source bits) = truth_sorted false
branch_sorted instr.Ecall = truth_sorted false
branch_sorted instr.Ebreak = truth_sorted false

bounded_sorted : (i : Instr) → Is32 (bounded_by i)
bounded_sorted (instr.Branch test left right offset) = by test
  where
    by : (t : BranchTest) → Is32 (bounded_by (instr.Branch t left right offset))
    by branch.LessUnsigned = operand_sorted right
    by branch.GreaterOrEqualUnsigned = operand_sorted left
    by branch.Equal = number_sorted 0 (omega arith)
    by branch.NotEqual = number_sorted 0 (omega arith)
    by branch.Less = number_sorted 0 (omega arith)
    by branch.GreaterOrEqual = number_sorted 0 (omega arith)
bounded_sorted (instr.Lui rd imm) = number_sorted 0 (omega arith)
bounded_sorted (instr.Auipc rd imm) = number_sorted 0 (omega arith)
bounded_sorted (instr.Jal rd offset) = number_sorted 0 (omega arith)
bounded_sorted (instr.Jalr rd base offset) = number_sorted 0 (omega arith)
bounded_sorted (instr.Load kind rd base offset) = number_sorted 0 (omega arith)
bounded_sorted (instr.Store kind base source offset) = number_sorted 0 (omega arith)
bounded_sorted (instr.Immediate operation rd source imm) = number_sorted 0 (omega arith)
bounded_sorted (instr.Shift operation rd source amount) = number_sorted 0 (omega arith)
bounded_sorted (instr.Arithmetic operation rd left right) = number_sorted 0 (omega arith)
bounded_sorted (instr.Fence rd source bits) = number_sorted 0 (omega arith)
bounded_sorted instr.Ecall = number_sorted 0 (omega arith)
bounded_sorted instr.Ebreak = number_sorted 0 (omega arith)

load_sorted : (kind : LoadKind) (a : Term) → Is32 a → AreTests (load_tests kind a)
load_sorted load_kind.Byte a ea = no_tests
load_sorted load_kind.Half a ea = one_test _ (multiple_sorted a ea 1 (omega arith))
load_sorted load_kind.Word a ea = one_test _ (multiple_sorted a ea 3 (omega arith))
load_sorted load_kind.ByteUnsigned a ea = no_tests
load_sorted load_kind.HalfUnsigned a ea = one_test _ (multiple_sorted a ea 1 (omega arith))

aligned_sorted : (kind : StoreKind) (a : Term) → Is32 a → AreTests (aligned_for kind a)
aligned_sorted store_kind.Byte a ea = no_tests
aligned_sorted store_kind.Half a ea = one_test _ (multiple_sorted a ea 1 (omega arith))
aligned_sorted store_kind.Word a ea = one_test _ (multiple_sorted a ea 3 (omega arith))

module _ (runs : List Run) (within : (run : Run) → Contains runs run → run.start + length run.bytes ≤ 2 ^ 32) (some : (run : Run) → Contains runs run → 0 < length run.bytes) where
  access_sorted : (i : Instr) → AreTests (access_tests runs i)
  access_sorted (instr.Lui rd imm) = no_tests
  access_sorted (instr.Auipc rd imm) = no_tests
  access_sorted (instr.Jal rd offset) = no_tests
  access_sorted (instr.Jalr rd base offset) = no_tests
  access_sorted (instr.Branch test left right offset) = no_tests
  access_sorted (instr.Load kind rd base offset) = load_sorted kind (address base offset) (address_sorted base offset)
  access_sorted (instr.Store kind base source offset) =
      both_tests (aligned_for kind (address base offset)) (map (avoids (address base offset) (last_written kind (address base offset))) runs)
      (aligned_sorted kind (address base offset) (address_sorted base offset))
      (avoids_tests (address base offset) (last_written kind (address base offset)) runs (address_sorted base offset) (last_sorted (address base offset) (address_sorted base offset) kind) within some)
  access_sorted (instr.Immediate operation rd source imm) = no_tests
  access_sorted (instr.Shift operation rd source amount) = no_tests
  access_sorted (instr.Arithmetic operation rd left right) = no_tests
  access_sorted (instr.Fence rd source bits) = no_tests
  access_sorted instr.Ecall = no_tests
  access_sorted instr.Ebreak = no_tests

tests_sorted : (f : Setting) → ((run : Run) → Contains f.runs run → run.start + length run.bytes ≤ 2 ^ 32) → ((run : Run) → Contains f.runs run → 0 < length run.bytes)
    → (i : Instr) (flow : Flow) → AreTests (tests_of f i flow)
unfolding tests_of
tests_sorted f within some i Falls = access_sorted f.runs within some i
tests_sorted f within some i (Branches target) = no_tests
tests_sorted f within some i (Jumps target) = at (leaves f target)
  where
    at : (b : Bool) → AreTests (cond b (returns_home ∷ []) [])
    at true = one_test returns_home home_sorted
    at false = no_tests
tests_sorted f within some i (Calls target) = no_tests
tests_sorted f within some i (Links target) = no_tests
tests_sorted f within some i Returns = one_test returns_home home_sorted
tests_sorted f within some i (Switches jump) = no_tests
tests_sorted f within some i Stops = no_tests

-- ---- nodes

after_first : (a target : ℕ) → target % 4 ≡ 0 → Contains (a ∷ aligned target) target
after_first a target e = rw (eq-eqb (target % 4) 0 e) (second_in a target)

-- each node is one of a graph of so many
AreNodes : ℕ → List Node → Type 0
AreNodes count nodes = (k : ℕ) (node : Node) → slice_get nodes k ≡ Some node → IsNode count node

no_nodes : (count : ℕ) → AreNodes count []
unfolding AreNodes
no_nodes count k node e = absurd (cc)

first_and_more : (count : ℕ) (first : Node) (more : List Node) → IsNode count first → AreNodes count more → AreNodes count (first ∷ more)
unfolding AreNodes
first_and_more count first more is are zero node e = let same : first ≡ node = cc in subst (IsNode count) same is
first_and_more count first more is are (suc k) node e = are k node e

IsEnding : ℕ → Ending → Type 0
IsEnding count (Does node more) = IsNode count node × AreNodes count more
IsEnding count (Goes to) = IsNext count to

first_node : (f : Setting) (a : ℕ) (tests : List Term) (ending : Ending) → is_node tests ending ≡ true → (node : Node) × (slice_get (chain f a 0 tests ending) 0 ≡ Some node)
unfolding chain
first_node f a [] (Does node more) e = (node, refl)
first_node f a [] (Goes to) e = absurd (cc)
first_node f a (test ∷ tests) ending e = (Cond test (onward f a 1 tests ending) to.Err, refl)

module _ (image : Image) (f : Setting) (graph : Graph) (no_fault : HasNoFault image f.entry f.size)
    (within : (run : Run) → Contains f.runs run → run.start + length run.bytes ≤ 2 ^ 32) (is : IsCodeGraph image f graph) where
  abbrev count : ℕ
  count = length graph.nodes

  at_below : (place : NodeName) (node : Node) → IsNodeAt image f place node → f.at place < count
  at_below place node at = slice_get_within graph.nodes (f.at place) node (is.there place node at)

  first_below : (target : ℕ) → IsReachable image f.entry f.size target → f.at (Of target 0) < count
  unfolding nodes_at
  first_below target reach =
      let found = has_instruction image f.entry f.size target no_fault reach in
      let flow = has_flow image f.entry target found.0 found.1 in
      let kept = kept_or_not image f.entry f.size no_fault target reach in
      let node = first_node f target (tests_of f found.0 flow.0) (ending_of f target kept.0 found.0 flow.0) (begins f target kept.0 found.0 flow.0) in
      at_below (Of target 0) node.0 (of_instruction target 0 kept.0 found.0 flow.0 node.0 reach found.1 flow.1 kept.1 node.1)

  toward_below : (target : ℕ) → (target % 4 ≡ 0 → InRange f.entry f.size target → IsReachable image f.entry f.size target) → IsNext count (toward f target)
  toward_below target reach = elim (toward_either f target) [
    | inl none ↦ subst (IsNext count) (sym none) tt
    | inr there ↦ subst (IsNext count) (sym (toward_there f target there.0 there.1)) (first_below target (reach there.0 there.1))
  ]

  some : (run : Run) → Contains f.runs run → 0 < length run.bytes
  some run among = at run.bytes refl
    where
      at : (bytes : List ℕ) → run.bytes ≡ bytes → 0 < length run.bytes
      at [] e = absurd (((is.runs_are.exactly run).0 among).not_empty e)
      at (b ∷ bytes) e = let long : length run.bytes ≡ length (b ∷ bytes) = ap (λ (xs : List ℕ). length xs) e in omega (arith, long)

  module _ (a : ℕ) (kept : Bool) (i : Instr) (flow : Flow) (reach : IsReachable image f.entry f.size a) (there : instr_at image a ≡ Some i)
      (flow_is : flow_at image f.entry a ≡ Some flow) (kept_is : IsKept image f.entry f.size a kept) where
    fine_error : IsEnding count (Does (Basic [] to.Err) [])
    unfolding IsEnding
    fine_error = ((none_bind, tt), no_nodes count)

    on_next : (way : Flow) → flow_at image f.entry a ≡ Some way → Contains (nexts_of a way) (a + 4) → IsNext count (toward f (a + 4))
    on_next way way_is among = toward_below (a + 4) (λ e inside. next a (a + 4) way reach way_is among inside)

    on_target : (target : ℕ) (way : Flow) → flow_at image f.entry a ≡ Some way → (target % 4 ≡ 0 → Contains (nexts_of a way) target) → IsNext count (toward f target)
    on_target target way way_is among = toward_below target (λ e inside. next a target way reach way_is (among e) inside)

    landing_below : (way : Flow) (on : Next) (own : ℕ) → flow_at image f.entry a ≡ Some way → length (nodes_at f a kept i way) ≡ own → landing_of f a way ≡ Some on → f.at (Following a own) < count
    landing_below way on own way_is long lands = at_below (Following a own) (Basic [] on) (landing a own kept i way on reach there way_is kept_is long lands)

    -- the nodes of a branch: where it keeps an index, it has one more
    branch_fine : (target : ℕ) → flow_at image f.entry a ≡ Some (Branches target) → IsEnding count (branching f a kept i target)
    unfolding IsEnding
    branch_fine target way_is = by kept refl
      where
        on : IsNext count (toward f (a + 4))
        on = on_next (Branches target) way_is (first_in (a + 4) (aligned target))

        taken : IsNext count (toward f target)
        taken = on_target target (Branches target) way_is (after_first (a + 4) target)

        by : (k : Bool) → kept ≡ k → IsEnding count (branching f a k i target)
        by false is_kept = ((branch_sorted i, taken, on), no_nodes count)
        by true is_kept =
            let keeping = subst (λ (x : Bool). IsKept image f.entry f.size a x) is_kept kept_is in (
              (branch_sorted i, taken, at_below (Of a 1) _ (of_instruction a 1 true i (Branches target) _ reach there way_is keeping (kept_node f a i target))),
              first_and_more count (Basic (record { variable = table_index; term = bounded_by i } ∷ []) (toward f (a + 4))) [] (one_binds _ (bounded_sorted i), on) (no_nodes count),
            )

    -- the tests of a table
    all_fine : (nodes : List Node) → AreNodes count nodes → IsEnding count (does_all nodes)
    unfolding IsEnding AreNodes
    all_fine [] are = fine_error
    all_fine (node ∷ more) are = (are 0 node refl, λ k other e. are (suc k) other e)

    tables_fine : (jump : TableJump) → flow_at image f.entry a ≡ Some (Switches jump) → IsEnding count (does_all (table_tests f a 0 jump.targets))
    unfolding table_tests
    tables_fine jump way_is = all_fine (table_tests f a 0 jump.targets) (from 0 jump.targets (λ k within. (omega (arith, within), ap (λ j. get_or jump.targets j 0) {x = 0 + k} {y = k} (omega arith))) (omega arith))
      where
        -- the next test, if there is one
        next_fine : (n : ℕ) (rest : List ℕ) → n + length rest ≡ length jump.targets → IsNext count (next_test f a n rest)
        next_fine n [] long = tt
        next_fine n (target ∷ rest) long =
            let node = table_node f a kept i jump n (omega (arith, long)) in
            at_below (Of a n) node.0 (of_instruction a n kept i (Switches jump) node.0 reach there way_is kept_is node.1)

        from : (n : ℕ) (targets : List ℕ) → ((k : ℕ) → k < length targets → (n + k < length jump.targets) × (get_or jump.targets (n + k) 0 ≡ get_or targets k 0))
            → n + length targets ≡ length jump.targets → AreNodes count (table_tests f a n targets)
        from n [] same long = no_nodes count
        from n (target ∷ rest) same long = first_and_more count _ (table_tests f a (n + 1) rest)
            (index_sorted n (omega (arith, long, few)), on_target target (Switches jump) way_is (λ even. all_aligned jump.targets target here even), next_fine (n + 1) rest (omega (arith, long)))
            (from (n + 1) rest later (omega (arith, long)))
          where
            few : length jump.targets ≤ most_targets
            few = table_few image f.entry f.size no_fault a jump reach way_is

            here : Contains jump.targets target
            here =
                let first = same 0 (omega arith) in
                subst (Contains jump.targets) first.1 (Contains-get_or jump.targets (n + 0) 0 first.0)

            later : (k : ℕ) → k < length rest → (n + 1 + k < length jump.targets) × (get_or jump.targets (n + 1 + k) 0 ≡ get_or rest k 0)
            later k within =
                let next_is = same (suc k) (omega (arith, within)) in
                let at : n + 1 + k ≡ n + suc k = omega arith in
                (omega (arith, next_is.0), ap (λ j. get_or jump.targets j 0) at ∙ next_is.1)

    ending_fine : (way : Flow) → flow_at image f.entry a ≡ Some way → IsEnding count (ending_of f a kept i way)
    unfolding IsEnding ending_of landing_of
    ending_fine Falls way_is = ((effects_bind a i (fields_at image a i there), on_next Falls way_is (first_in (a + 4) [])), no_nodes count)
    ending_fine (Branches target) way_is = branch_fine target way_is
    ending_fine (Jumps target) way_is = at (leaves f target) refl
      where
        at : (b : Bool) → leaves f target ≡ b → IsEnding count (Does (cond b (Call (f.graph_number target) tail_inputs [] (f.at (Following a tail_call_nodes))) (Basic [] (toward f target))) [])
        at true e = (
          (tail_binds, none_bind, landing_below (Jumps target) to.Ret tail_call_nodes way_is (tail_call_long f a kept i target e) (ap (λ (b : Bool). cond b (Some to.Ret) None) e)),
          no_nodes count,
        )
        at false e = ((none_bind, on_target target (Jumps target) way_is (is_aligned target)), no_nodes count)
    ending_fine (Calls target) way_is = at (target % 4 == 0) refl
      where
        at : (b : Bool) → (target % 4 == 0) ≡ b → IsEnding count (Does (cond b (Call (f.graph_number target) (call_inputs (past a 4)) [] (f.at (Following a call_nodes))) (Basic [] to.Err)) [])
        at true e = (
          (
            call_binds (past a 4) (omega arith),
            none_bind,
            landing_below (Calls target) (toward f (a + 4)) call_nodes way_is (call_long f a kept i target) (ap (λ (b : Bool). cond b (Some (toward f (a + 4))) None) e),
          ),
          no_nodes count,
        )
        at false e = fine_error
    ending_fine (Links target) way_is = fine_error
    ending_fine Returns way_is = tt
    ending_fine (Switches jump) way_is = tables_fine jump way_is
    ending_fine Stops way_is = fine_error

    last_fine : (j k : ℕ) (node : Node) (ending : Ending) → IsEnding count ending → slice_get (chain f a j [] ending) k ≡ Some node → IsNode count node
    unfolding chain IsEnding AreNodes
    last_fine j k node (Does one more) fine e = first_and_more count one more fine.0 fine.1 k node e
    last_fine j k node (Goes on) fine e = absurd (cc)

    onward_fine : (passed : List Term) (test : Term) (left : List Term) (ending : Ending) → tests_of f i flow ≡ passed ++ test ∷ left → ending_of f a kept i flow ≡ ending → IsEnding count ending
        → IsNext count (onward f a (length passed + 1) left ending)
    unfolding IsEnding nodes_at
    onward_fine passed test [] (Goes on) tests ends fine = fine
    onward_fine passed test [] (Does node more) tests ends fine =
        at_below (Of a (length passed + 1)) node (of_instruction a (length passed + 1) kept i flow node reach there flow_is kept_is
        (ap (λ ts. slice_get (chain f a 0 ts (ending_of f a kept i flow)) (length passed + 1)) tests
        ∙ ap (λ (e : Ending). slice_get (chain f a 0 (passed ++ test ∷ []) e) (length passed + 1)) ends
        ∙ ap (slice_get (chain f a 0 (passed ++ test ∷ []) (Does node more))) {x = length passed + 1} {y = length (passed ++ test ∷ [])} (omega (arith, length-append passed (test ∷ [])))
        ∙ last_in f a 0 (passed ++ test ∷ []) node more))
    onward_fine passed test (second ∷ left) ending tests ends fine =
        at_below (Of a (length passed + 1)) _ (of_instruction a (length passed + 1) kept i flow _ reach there flow_is kept_is
        (ap (λ ts. slice_get (chain f a 0 ts (ending_of f a kept i flow)) (length passed + 1)) (tests ∙ sym (append_assoc passed (test ∷ []) (second ∷ left)))
        ∙ ap (slice_get (chain f a 0 ((passed ++ test ∷ []) ++ second ∷ left) (ending_of f a kept i flow))) {x = length passed + 1} {y = length (passed ++ test ∷ [])} (omega (arith, length-append passed (test ∷ [])))
        ∙ test_in f a 0 (passed ++ test ∷ []) second left (ending_of f a kept i flow)))

    chain_fine : (left passed : List Term) → tests_of f i flow ≡ passed ++ left → AreTests left → (k : ℕ) (node : Node)
        → slice_get (chain f a (length passed) left (ending_of f a kept i flow)) k ≡ Some node → IsNode count node
    unfolding chain AreTests
    chain_fine [] passed tests sorted k node e = last_fine (length passed) k node (ending_of f a kept i flow) (ending_fine flow flow_is) e
    chain_fine (test ∷ left) passed tests sorted zero node e =
        let same : Cond test (onward f a (length passed + 1) left (ending_of f a kept i flow)) to.Err ≡ node = cc in
        subst (IsNode count) same (sorted.0, onward_fine passed test left (ending_of f a kept i flow) tests refl (ending_fine flow flow_is), tt)
    chain_fine (test ∷ left) passed tests sorted (suc k) node e =
        chain_fine left (passed ++ test ∷ []) (tests ∙ sym (append_assoc passed (test ∷ []) left)) sorted.1 k node
        (ap (λ j. slice_get (chain f a j left (ending_of f a kept i flow)) k) {x = length (passed ++ test ∷ [])} {y = length passed + 1} (omega (arith, length-append passed (test ∷ []))) ∙ e)

  landing_fine : (a : ℕ) (flow : Flow) (on : Next) → IsReachable image f.entry f.size a → flow_at image f.entry a ≡ Some flow → landing_of f a flow ≡ Some on → IsNext count on
  unfolding landing_of
  landing_fine a Falls on reach flow_is e = absurd (cc)
  landing_fine a (Branches target) on reach flow_is e = absurd (cc)
  landing_fine a (Jumps target) on reach flow_is e = at (leaves f target) e
    where
      at : (b : Bool) → cond b (Some to.Ret) None ≡ Some on → IsNext count on
      at true e = let same : to.Ret ≡ on = cc in subst (IsNext count) same tt
      at false e = absurd (cc)
  landing_fine a (Calls target) on reach flow_is e = at (target % 4 == 0) e
    where
      at : (b : Bool) → cond b (Some (toward f (a + 4))) None ≡ Some on → IsNext count on
      at true e = let same : toward f (a + 4) ≡ on = cc in
          subst (IsNext count) same (toward_below (a + 4) (λ even inside. next a (a + 4) (Calls target) reach flow_is (first_in (a + 4) []) inside))
      at false e = absurd (cc)
  landing_fine a (Links target) on reach flow_is e = absurd (cc)
  landing_fine a Returns on reach flow_is e = absurd (cc)
  landing_fine a (Switches jump) on reach flow_is e = absurd (cc)
  landing_fine a Stops on reach flow_is e = absurd (cc)

  node_fine : (place : NodeName) (node : Node) → IsNodeAt image f place node → IsNode count node
  unfolding nodes_at
  node_fine _ _ entrance = (none_bind, first_below f.entry (here (code_there image f.entry f.size no_fault)))
  node_fine _ node (of_instruction a index kept i flow _ reach there flow_is kept_is get) =
      chain_fine a kept i flow reach there flow_is kept_is (tests_of f i flow) [] refl (tests_sorted f within some i flow) index node get
  node_fine _ _ (landing a own kept i flow on reach there flow_is kept_is long lands) = (none_bind, landing_fine a flow on reach flow_is lands)

  pub code_graph_valid : IsValid graph
  code_graph_valid = record {
    entry = subst (λ k. k < count) (sym is.entry_is) (at_below Entrance _ entrance);
    nodes = λ k d below.
        let at = is.only k below in
        let there : slice_get graph.nodes k ≡ Some at.1 = ap (slice_get graph.nodes) (sym at.3) ∙ is.there at.0 at.1 at.2 in
        subst (IsNode count) (sym (get_or_from_slice_get graph.nodes k at.1 d there)) (node_fine at.0 at.1 at.2);
  }
