-- Graphs of code speak of registers, their values at entry, and the binary's memory; and what their calls bind.
use Rattle.std.proofs.Common.{◌≡◌, ◌⊎◌, ◌∙◌, ℕ, zero, suc, ◌+◌, ◌-◌, ◌%◌, ◌==◌, ◌&&◌, Bool, true, false, cond, if◌then◌else◌, refl, sym, ap, subst, inl, inr, List, [], ◌∷◌, length, map, All, Some}
use Rattle.std.specs.Prelude.{slice_get, ⊤}
use Rattle.std.proofs.lemmas.Option.{get_or_from_slice_get, slice_get_within}
use Rattle.std.proofs.lemmas.List.Elements.{All-nil, All-cons, All-append, All-head, All-tail, All-weaker}
use Rattle.std.proofs.lemmas.Bool.{and_parts}
use Rattle.memory_spec.specs.Runs.{Run}
use Rattle.rv_instr.specs.declared.BranchTest.{BranchTest}
use Rattle.rv_instr.specs.declared.BranchTest.TheVariants as branch
use Rattle.rv_instr.specs.declared.LoadKind.{LoadKind}
use Rattle.rv_instr.specs.declared.LoadKind.TheVariants as load_kind
use Rattle.rv_instr.specs.declared.StoreKind.{StoreKind}
use Rattle.rv_instr.specs.declared.StoreKind.TheVariants as store_kind
use Rattle.rv_instr.specs.declared.ArithmeticOperation.{ArithmeticOperation}
use Rattle.rv_instr.specs.declared.ArithmeticOperation.TheVariants as arithmetic
use Rattle.rv_instr.specs.declared.Instr.{Instr}
use Rattle.rv_instr.specs.declared.Instr.TheVariants as instr
use Rattle.rv_machine_spec.specs.Arithmetic.{word}
use Rattle.rv_machine_spec.specs.Machine.{past}
use Rattle.elf_read_spec.specs.Image.{Image}
use Rattle.code_reach_spec.specs.Code.{Flow, Falls, Branches, Jumps, Calls, Links, Returns, Switches, Stops}
use Rattle.term_core_spec.specs.declared.Width.TheVariants.{W32}
use Rattle.term_core_spec.specs.Term.{Term, equal, less, bit_and, open_term, load}
use Rattle.term_core_spec.specs.Shapes as shapes
use Rattle.graph_core_spec.specs.declared.Next.TheVariants as to
use Rattle.graph_core_spec.specs.Graph.{Binding, Node, Basic, Cond, Call, Graph}
use Rattle.decompile_spec.specs.State.{register, entry_register, table_index, memory}
use Rattle.decompile_spec.specs.InstructionTerms.{number, operand, address, places, set_if, computed, taken, loaded, stored, is_multiple, load_tests, avoids, last_written, aligned_for, access_tests, returns_home, put, effects, branch_test}
use Rattle.decompile_spec.specs.Blocks.{NodeName, Of, Following, Setting, Ending, Does, Goes, toward, onward, chain, tests_of, bounded_by, branching, next_test, table_tests, does_all, ending_of, nodes_at, leaves, entry_binding, other_registers, call_inputs, tail_inputs, call_nodes, tail_call_nodes}
use Rattle.decompile_spec.specs.CodeGraph.{IsNodeAt, entrance, of_instruction, landing, IsCodeGraph}
use Rattle.term_core_spec.specs.declared.Variable.{Variable}
use Rattle.sim_rules_spec.specs.Points.{is_binary}
use Rattle.sim_rules_spec.specs.Proper.{IsOwnBinding, AreOwnBindings, IsOwnNode, IsOwnGraph}
use Rattle.sim_inline_laws.proofs.OfKind.{IsKindTerm, IsKindBinding, IsKindNode}
use Rattle.validity_laws.proofs.Speaking.{const_own, truth_own, open_own, one_own, two_own, three_own, either_own, one_test, signed_less_own, quotient_own, remainder_own, product_own, product_signed_own, product_mixed_own, past_own, load_own, load_half_own, load_word_own, store_byte_own, store_half_own, store_word_own}

-- of the binary, and of no inlined call
abbrev pub of_binary : Variable → Bool
of_binary v = is_binary v.family && (v.instance == 0)

abbrev Own : Term → Type 0
Own t = IsKindTerm of_binary t

abbrev AreOwn : List Binding → Type 0
AreOwn bindings = All (IsKindBinding of_binary) bindings

number_own : (n : ℕ) → Own (number n)
number_own n = const_own of_binary W32 n

register_own : (r : ℕ) → Own (open_term (register r))
register_own r = open_own of_binary (register r) refl

memory_own : Own (open_term memory)
memory_own = open_own of_binary memory refl

operand_own : (r : ℕ) → Own (operand r)
operand_own r = either_own of_binary (r == 0) (number 0) (open_term (register r)) (number_own 0) (register_own r)

address_own : (base r : ℕ) → Own (operand base) → Own (number r) → Own (shapes.past (operand base) r)
address_own base r h k = two_own of_binary _ (operand base) (number r) h k

places_own : (y : Term) → Own y → Own (places y)
places_own y h = two_own of_binary _ y (number 31) h (number_own 31)

set_own : (t : Term) → Own t → Own (set_if t)
set_own t h = three_own of_binary _ t (number 1) (number 0) h (number_own 1) (number_own 0)

computed_own : (operation : ArithmeticOperation) (x y : Term) → Own x → Own y → Own (computed operation x y)
unfolding computed
computed_own arithmetic.Add x y h k = two_own of_binary _ x y h k
computed_own arithmetic.Subtract x y h k = two_own of_binary _ x y h k
computed_own arithmetic.ShiftLeft x y h k = two_own of_binary _ x (places y) h (places_own y k)
computed_own arithmetic.SetLess x y h k = set_own _ (signed_less_own of_binary W32 x y h k)
computed_own arithmetic.SetLessUnsigned x y h k = set_own (less x y) (two_own of_binary _ x y h k)
computed_own arithmetic.Xor x y h k = two_own of_binary _ x y h k
computed_own arithmetic.ShiftRightLogical x y h k = two_own of_binary _ x (places y) h (places_own y k)
computed_own arithmetic.ShiftRightArithmetic x y h k = two_own of_binary _ x (places y) h (places_own y k)
computed_own arithmetic.Or x y h k = two_own of_binary _ x y h k
computed_own arithmetic.And x y h k = two_own of_binary _ x y h k
computed_own arithmetic.Multiply x y h k = two_own of_binary _ x y h k
computed_own arithmetic.MultiplyHigh x y h k = product_signed_own of_binary x y h k
computed_own arithmetic.MultiplyHighSignedUnsigned x y h k = product_mixed_own of_binary x y h k
computed_own arithmetic.MultiplyHighUnsigned x y h k = product_own of_binary x y h k
computed_own arithmetic.Divide x y h k = quotient_own of_binary x y h k
computed_own arithmetic.DivideUnsigned x y h k = two_own of_binary _ x y h k
computed_own arithmetic.Remainder x y h k = remainder_own of_binary x y h k
computed_own arithmetic.RemainderUnsigned x y h k = two_own of_binary _ x y h k

taken_own : (test : BranchTest) (x y : Term) → Own x → Own y → Own (taken test x y)
unfolding taken
taken_own branch.Equal x y h k = two_own of_binary _ x y h k
taken_own branch.NotEqual x y h k = one_own of_binary _ (equal x y) (two_own of_binary _ x y h k)
taken_own branch.Less x y h k = signed_less_own of_binary W32 x y h k
taken_own branch.GreaterOrEqual x y h k = one_own of_binary _ _ (signed_less_own of_binary W32 x y h k)
taken_own branch.LessUnsigned x y h k = two_own of_binary _ x y h k
taken_own branch.GreaterOrEqualUnsigned x y h k = one_own of_binary _ (less x y) (two_own of_binary _ x y h k)

loaded_own : (kind : LoadKind) (a : Term) → Own a → Own (loaded kind a)
unfolding loaded
loaded_own load_kind.Byte a h = one_own of_binary _ (load (open_term memory) a) (load_own of_binary (open_term memory) a memory_own h)
loaded_own load_kind.Half a h = one_own of_binary _ _ (load_half_own of_binary (open_term memory) a memory_own h)
loaded_own load_kind.Word a h = load_word_own of_binary (open_term memory) a memory_own h
loaded_own load_kind.ByteUnsigned a h = one_own of_binary _ (load (open_term memory) a) (load_own of_binary (open_term memory) a memory_own h)
loaded_own load_kind.HalfUnsigned a h = one_own of_binary _ _ (load_half_own of_binary (open_term memory) a memory_own h)

stored_own : (kind : StoreKind) (a x : Term) → Own a → Own x → Own (stored kind a x)
unfolding stored
stored_own store_kind.Byte a x h k = store_byte_own of_binary (open_term memory) a x memory_own h k
stored_own store_kind.Half a x h k = store_half_own of_binary (open_term memory) a x memory_own h k
stored_own store_kind.Word a x h k = store_word_own of_binary (open_term memory) a x memory_own h k

-- ---- tests

multiple_own : (mask : ℕ) (a : Term) → Own a → Own (is_multiple mask a)
multiple_own mask a h = two_own of_binary _ (bit_and a (number mask)) (number 0) (two_own of_binary _ a (number mask) h (number_own mask)) (number_own 0)

load_tests_own : (kind : LoadKind) (a : Term) → Own a → All Own (load_tests kind a)
load_tests_own load_kind.Byte a h = All-nil Own
load_tests_own load_kind.Half a h = one_test of_binary (is_multiple 1 a) (multiple_own 1 a h)
load_tests_own load_kind.Word a h = one_test of_binary (is_multiple 3 a) (multiple_own 3 a h)
load_tests_own load_kind.ByteUnsigned a h = All-nil Own
load_tests_own load_kind.HalfUnsigned a h = one_test of_binary (is_multiple 1 a) (multiple_own 1 a h)

aligned_own : (kind : StoreKind) (a : Term) → Own a → All Own (aligned_for kind a)
aligned_own store_kind.Byte a h = All-nil Own
aligned_own store_kind.Half a h = one_test of_binary (is_multiple 1 a) (multiple_own 1 a h)
aligned_own store_kind.Word a h = one_test of_binary (is_multiple 3 a) (multiple_own 3 a h)

last_own : (kind : StoreKind) (a : Term) → Own a → Own (last_written kind a)
last_own store_kind.Byte a h = h
last_own store_kind.Half a h = past_own of_binary a 1 h
last_own store_kind.Word a h = past_own of_binary a 3 h

avoids_own : (a e : Term) (runs : List Run) → Own a → Own e → All Own (map (avoids a e) runs)
avoids_own a e [] h k = All-nil Own
avoids_own a e (run ∷ runs) h k =
    All-cons Own (avoids a e run) (map (avoids a e) runs)
    (two_own of_binary _ (less (number (run.start + length run.bytes - 1)) a) (less e (number run.start))
    (two_own of_binary _ (number (run.start + length run.bytes - 1)) a (number_own _) h) (two_own of_binary _ e (number run.start) k (number_own run.start)))
    (avoids_own a e runs h k)

access_own : (runs : List Run) (i : Instr) → All Own (access_tests runs i)
access_own runs (instr.Load kind rd base offset) =
    load_tests_own kind (address base offset) (address_own base (word offset) (operand_own base) (number_own (word offset)))
access_own runs (instr.Store kind base source offset) =
    let a : Own (address base offset) = address_own base (word offset) (operand_own base) (number_own (word offset)) in
    All-append Own (aligned_for kind (address base offset)) (map (avoids (address base offset) (last_written kind (address base offset))) runs)
    (aligned_own kind (address base offset) a)
    (avoids_own (address base offset) (last_written kind (address base offset)) runs a (last_own kind (address base offset) a))
access_own runs (instr.Lui rd imm) = All-nil Own
access_own runs (instr.Auipc rd imm) = All-nil Own
access_own runs (instr.Jal rd offset) = All-nil Own
access_own runs (instr.Jalr rd base offset) = All-nil Own
access_own runs (instr.Branch test left right offset) = All-nil Own
access_own runs (instr.Immediate operation rd source imm) = All-nil Own
access_own runs (instr.Shift operation rd source amount) = All-nil Own
access_own runs (instr.Arithmetic operation rd left right) = All-nil Own
access_own runs (instr.Fence rd source bits) = All-nil Own
access_own runs instr.Ecall = All-nil Own
access_own runs instr.Ebreak = All-nil Own

home_own : Own returns_home
home_own = two_own of_binary _ (open_term (register 1)) (open_term (entry_register 1)) (register_own 1) (open_own of_binary (entry_register 1) refl)

-- ---- bindings

none : AreOwn []
none = All-nil (IsKindBinding of_binary)

put_own : (r : ℕ) (t : Term) → Own t → AreOwn (put r t)
put_own r t h = at (r == 0)
  where
    at : (b : Bool) → AreOwn (cond b [] (record { variable = register r; term = t } ∷ []))
    at true = none
    at false = All-cons (IsKindBinding of_binary) (record { variable = register r; term = t }) [] (refl, h) none

effects_own : (pc : ℕ) (i : Instr) → AreOwn (effects pc i)
unfolding effects
effects_own pc (instr.Lui rd imm) = put_own rd _ (number_own _)
effects_own pc (instr.Auipc rd imm) = put_own rd _ (number_own _)
effects_own pc (instr.Jal rd offset) = none
effects_own pc (instr.Jalr rd base offset) = none
effects_own pc (instr.Branch test left right offset) = none
effects_own pc (instr.Load kind rd base offset) =
    put_own rd _ (loaded_own kind (address base offset) (address_own base (word offset) (operand_own base) (number_own (word offset))))
effects_own pc (instr.Store kind base source offset) =
    All-cons (IsKindBinding of_binary) (record { variable = memory; term = stored kind (address base offset) (operand source) }) []
    (refl, stored_own kind (address base offset) (operand source) (address_own base (word offset) (operand_own base) (number_own (word offset))) (operand_own source)) none
effects_own pc (instr.Immediate operation rd source imm) = put_own rd _ (computed_own _ (operand source) (number (word imm)) (operand_own source) (number_own (word imm)))
effects_own pc (instr.Shift operation rd source amount) = put_own rd _ (computed_own _ (operand source) (number amount) (operand_own source) (number_own amount))
effects_own pc (instr.Arithmetic operation rd left right) = put_own rd _ (computed_own operation (operand left) (operand right) (operand_own left) (operand_own right))
effects_own pc (instr.Fence rd source bits) = none
effects_own pc instr.Ecall = none
effects_own pc instr.Ebreak = none

branch_own : (i : Instr) → Own (branch_test i)
unfolding branch_test
branch_own (instr.Lui rd imm) = truth_own of_binary false
branch_own (instr.Auipc rd imm) = truth_own of_binary false
branch_own (instr.Jal rd offset) = truth_own of_binary false
branch_own (instr.Jalr rd base offset) = truth_own of_binary false
branch_own (instr.Branch test left right offset) = taken_own test (operand left) (operand right) (operand_own left) (operand_own right)
branch_own (instr.Load kind rd base offset) = truth_own of_binary false
branch_own (instr.Store kind base source offset) = truth_own of_binary false
branch_own (instr.Immediate operation rd source imm) = truth_own of_binary false
branch_own (instr.Shift operation rd source amount) = truth_own of_binary false
branch_own (instr.Arithmetic operation rd left right) = truth_own of_binary false
branch_own (instr.Fence rd source bits) = truth_own of_binary false
branch_own instr.Ecall = truth_own of_binary false
branch_own instr.Ebreak = truth_own of_binary false

bounded_own : (i : Instr) → Own (bounded_by i)
bounded_own (instr.Branch branch.Equal left right offset) = number_own 0
bounded_own (instr.Branch branch.NotEqual left right offset) = number_own 0
bounded_own (instr.Branch branch.Less left right offset) = number_own 0
bounded_own (instr.Branch branch.GreaterOrEqual left right offset) = number_own 0
bounded_own (instr.Branch branch.LessUnsigned left right offset) = operand_own right
bounded_own (instr.Branch branch.GreaterOrEqualUnsigned left right offset) = operand_own left
bounded_own (instr.Lui rd imm) = number_own 0
bounded_own (instr.Auipc rd imm) = number_own 0
bounded_own (instr.Jal rd offset) = number_own 0
bounded_own (instr.Jalr rd base offset) = number_own 0
bounded_own (instr.Load kind rd base offset) = number_own 0
bounded_own (instr.Store kind base source offset) = number_own 0
bounded_own (instr.Immediate operation rd source imm) = number_own 0
bounded_own (instr.Shift operation rd source amount) = number_own 0
bounded_own (instr.Arithmetic operation rd left right) = number_own 0
bounded_own (instr.Fence rd source bits) = number_own 0
bounded_own instr.Ecall = number_own 0
bounded_own instr.Ebreak = number_own 0

keeping_own : (i : Instr) → AreOwn (record { variable = table_index; term = bounded_by i } ∷ [])
keeping_own i = All-cons (IsKindBinding of_binary) (record { variable = table_index; term = bounded_by i }) [] (refl, bounded_own i) none

entries_own : (rs : List ℕ) → AreOwn (map entry_binding rs)
entries_own [] = none
entries_own (r ∷ rs) = All-cons (IsKindBinding of_binary) (entry_binding r) (map entry_binding rs) (refl, register_own r) (entries_own rs)

call_own : (back : ℕ) → AreOwn (call_inputs back)
unfolding call_inputs
call_own back =
    All-cons (IsKindBinding of_binary) (record { variable = register 1; term = number back }) (record { variable = entry_register 1; term = number back } ∷ map entry_binding other_registers)
    (refl, number_own back)
    (All-cons (IsKindBinding of_binary) (record { variable = entry_register 1; term = number back }) (map entry_binding other_registers) (refl, number_own back) (entries_own other_registers))

tail_own : AreOwn tail_inputs
unfolding tail_inputs
tail_own = entries_own (1 ∷ other_registers)

-- ---- nodes

-- what a call node binds: a return address, or at a tail call none; and nothing where it is back
abbrev pub HasCallShape : Node → Type 0
HasCallShape (Basic bindings next) = ⊤
HasCallShape (Cond test on_true on_false) = ⊤
HasCallShape (Call callee inputs outputs lands) = (((back : ℕ) × (inputs ≡ call_inputs back)) ⊎ (inputs ≡ tail_inputs)) × (outputs ≡ [])

-- a call is of the graph of an address
abbrev pub HasCallNumber : (number : ℕ → ℕ) → Node → Type 0
HasCallNumber number (Basic bindings next) = ⊤
HasCallNumber number (Cond test on_true on_false) = ⊤
HasCallNumber number (Call callee inputs outputs lands) = (target : ℕ) × (callee ≡ number target)

abbrev IsGood : Setting → Node → Type 0
IsGood f node = IsKindNode of_binary node × HasCallShape node × HasCallNumber f.graph_number node

EndsGood : Setting → Ending → Type 0
EndsGood f (Does node further) = All (IsGood f) (node ∷ further)
EndsGood f (Goes on) = ⊤

one_good : (f : Setting) (node : Node) → IsGood f node → All (IsGood f) (node ∷ [])
one_good f node good = All-cons (IsGood f) node [] good (All-nil (IsGood f))

tests_own : (f : Setting) (i : Instr) (flow : Flow) → All Own (tests_of f i flow)
unfolding tests_of
tests_own f i Falls = access_own f.runs i
tests_own f i (Branches target) = All-nil Own
tests_own f i (Jumps target) = at (leaves f target)
  where
    at : (b : Bool) → All Own (if b then returns_home ∷ [] else [])
    at true = one_test of_binary returns_home home_own
    at false = All-nil Own
tests_own f i (Calls target) = All-nil Own
tests_own f i (Links target) = All-nil Own
tests_own f i Returns = one_test of_binary returns_home home_own
tests_own f i (Switches jump) = All-nil Own
tests_own f i Stops = All-nil Own

branching_good : (f : Setting) (a : ℕ) (keeps : Bool) (i : Instr) (target : ℕ) → EndsGood f (branching f a keeps i target)
unfolding EndsGood
branching_good f a false i target = one_good f (Cond (branch_test i) (toward f target) (toward f (a + 4))) (branch_own i, tt, tt)
branching_good f a true i target =
    let keeping : Node = Basic (record { variable = table_index; term = bounded_by i } ∷ []) (toward f (a + 4)) in
    All-cons (IsGood f) (Cond (branch_test i) (toward f target) (to.At (f.at (Of a 1)))) (keeping ∷ []) (branch_own i, tt, tt) (one_good f keeping (keeping_own i, tt, tt))

table_good : (f : Setting) (a n : ℕ) (targets : List ℕ) → All (IsGood f) (table_tests f a n targets)
unfolding table_tests
table_good f a n [] = All-nil (IsGood f)
table_good f a n (target ∷ rest) =
    All-cons (IsGood f) (Cond (equal (open_term table_index) (number n)) (toward f target) (next_test f a (n + 1) rest)) (table_tests f a (n + 1) rest)
    (two_own of_binary _ (open_term table_index) (number n) (register_own 32) (number_own n), tt, tt) (table_good f a (n + 1) rest)

switching_good : (f : Setting) (a : ℕ) (targets : List ℕ) → EndsGood f (does_all (table_tests f a 0 targets))
unfolding EndsGood table_tests
switching_good f a [] = one_good f (Basic [] to.Err) (none, tt, tt)
switching_good f a (target ∷ rest) = table_good f a 0 (target ∷ rest)

ending_good : (f : Setting) (a : ℕ) (keeps : Bool) (i : Instr) (flow : Flow) → EndsGood f (ending_of f a keeps i flow)
unfolding EndsGood ending_of
ending_good f a keeps i Falls = one_good f (Basic (effects a i) (toward f (a + 4))) (effects_own a i, tt, tt)
ending_good f a keeps i (Branches target) = branching_good f a keeps i target
ending_good f a keeps i (Jumps target) = at (leaves f target)
  where
    at : (b : Bool) → All (IsGood f) (cond b (Call (f.graph_number target) tail_inputs [] (f.at (Following a tail_call_nodes))) (Basic [] (toward f target)) ∷ [])
    at true = one_good f (Call (f.graph_number target) tail_inputs [] (f.at (Following a tail_call_nodes))) ((tail_own, none), (inr refl, refl), (target, refl))
    at false = one_good f (Basic [] (toward f target)) (none, tt, tt)
ending_good f a keeps i (Calls target) = at (target % 4 == 0)
  where
    at : (b : Bool) → All (IsGood f) (cond b (Call (f.graph_number target) (call_inputs (past a 4)) [] (f.at (Following a call_nodes))) (Basic [] to.Err) ∷ [])
    at true = one_good f (Call (f.graph_number target) (call_inputs (past a 4)) [] (f.at (Following a call_nodes))) ((call_own (past a 4), none), (inl (past a 4, refl), refl), (target, refl))
    at false = one_good f (Basic [] to.Err) (none, tt, tt)
ending_good f a keeps i (Links target) = one_good f (Basic [] to.Err) (none, tt, tt)
ending_good f a keeps i Returns = tt
ending_good f a keeps i (Switches jump) = switching_good f a jump.targets
ending_good f a keeps i Stops = one_good f (Basic [] to.Err) (none, tt, tt)

chain_good : (f : Setting) (a j : ℕ) (tests : List Term) (ending : Ending) (k : ℕ) (node : Node) → All Own tests → EndsGood f ending → slice_get (chain f a j tests ending) k ≡ Some node → IsGood f node
unfolding EndsGood chain
chain_good f a j [] (Does last further) k node all good is =
    subst (IsGood f) (get_or_from_slice_get (last ∷ further) k node node is) (good k node (slice_get_within (last ∷ further) k node is))
chain_good f a j [] (Goes on) k node all good is = absurd (cc)
chain_good f a j (test ∷ tests) ending zero node all good is =
    let same : Cond test (onward f a (j + 1) tests ending) to.Err ≡ node = cc in
    let here : IsGood f (Cond test (onward f a (j + 1) tests ending) to.Err) = (All-head Own test tests all, tt, tt) in
    subst (IsGood f) same here
chain_good f a j (test ∷ tests) ending (suc k) node all good is = chain_good f a (j + 1) tests ending k node (All-tail Own test tests all) good is

node_good : (image : Image) (f : Setting) (name : NodeName) (node : Node) → IsNodeAt image f name node → IsGood f node
unfolding nodes_at
node_good image f _ _ entrance = (none, tt, tt)
node_good image f _ node (of_instruction a index keeps i flow _ reach there flow_is kept get) =
    chain_good f a 0 (tests_of f i flow) (ending_of f a keeps i flow) index node (tests_own f i flow) (ending_good f a keeps i flow) get
node_good image f _ _ (landing a own keeps i flow on reach there flow_is kept long lands) = (none, tt, tt)

all_good : (image : Image) (f : Setting) (graph : Graph) → IsCodeGraph image f graph → All (IsGood f) graph.nodes
all_good image f graph is k d below =
    let at = is.only k below in
    let there : slice_get graph.nodes k ≡ Some at.1 = ap (slice_get graph.nodes) (sym at.3) ∙ is.there at.0 at.1 at.2 in
    subst (IsGood f) (sym (get_or_from_slice_get graph.nodes k at.1 d there)) (node_good image f at.0 at.1 at.2)

-- none of its variables is of an inlined call
pub code_is_first : (image : Image) (f : Setting) (graph : Graph) → IsCodeGraph image f graph → All (IsKindNode of_binary) graph.nodes
code_is_first image f graph is k d below = (all_good image f graph is k d below).0

first_of_binary : (v : Variable) → of_binary v ≡ true → is_binary v.family ≡ true
first_of_binary v own = (and_parts (is_binary v.family) (v.instance == 0) own).0

own_bindings : (bindings : List Binding) → AreOwn bindings → AreOwnBindings is_binary bindings
own_bindings bindings all =
    All-weaker (IsKindBinding of_binary) (IsOwnBinding is_binary) (λ b h. (first_of_binary b.variable h.0, λ v o. first_of_binary v (h.1 v o))) bindings all

own_node : (node : Node) → IsKindNode of_binary node → IsOwnNode is_binary node
own_node (Basic bindings next) h = own_bindings bindings h
own_node (Cond test on_true on_false) h = λ v o. first_of_binary v (h v o)
own_node (Call callee inputs outputs lands) h = (own_bindings inputs h.0, own_bindings outputs h.1)

pub code_is_own : (image : Image) (f : Setting) (graph : Graph) → IsCodeGraph image f graph → IsOwnGraph is_binary graph
code_is_own image f graph is = All-weaker (IsKindNode of_binary) (IsOwnNode is_binary) own_node graph.nodes (code_is_first image f graph is)

pub code_call_shape : (image : Image) (f : Setting) (graph : Graph) → IsCodeGraph image f graph → All HasCallShape graph.nodes
code_call_shape image f graph is k d below = (all_good image f graph is k d below).1

pub code_call_number : (image : Image) (f : Setting) (graph : Graph) → IsCodeGraph image f graph → All (HasCallNumber f.graph_number) graph.nodes
code_call_number image f graph is k d below = (all_good image f graph is k d below).2
