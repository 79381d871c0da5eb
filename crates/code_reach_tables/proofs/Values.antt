-- What instructions give, by the indices of what their registers have.
use Rattle.std.proofs.Common.{◌≡◌, ◌∙◌, ℕ, ◌+◌, ◌*◌, ◌%◌, ◌^◌, ◌<◌, refl, sym, ap, ap₂, subst, arith, length, get_or, List, [], ◌∷◌, Option, Some, None, ℤ}
use Rattle.rv_instr.specs.declared.Instr.{Instr}
use Rattle.rv_instr.specs.declared.Instr.TheVariants as instr
use Rattle.rv_instr.specs.declared.LoadKind.{LoadKind}
use Rattle.rv_instr.specs.declared.LoadKind.TheVariants as load_kind
use Rattle.rv_instr.specs.declared.BranchTest.{BranchTest}
use Rattle.rv_instr.specs.declared.BranchTest.TheVariants as branch
use Rattle.rv_instr.specs.declared.ImmediateOperation.{ImmediateOperation}
use Rattle.rv_instr.specs.declared.ImmediateOperation.TheVariants as immediate
use Rattle.rv_instr.specs.declared.ShiftOperation.{ShiftOperation}
use Rattle.rv_instr.specs.declared.ShiftOperation.TheVariants as shift
use Rattle.rv_instr.specs.declared.ArithmeticOperation.{ArithmeticOperation}
use Rattle.rv_instr.specs.declared.ArithmeticOperation.TheVariants as op
use Rattle.rv_machine_spec.specs.Arithmetic.{word}
use Rattle.rv_machine_spec.specs.Machine.{past}
use Rattle.code_reach_spec.specs.RunUp as spec
use Rattle.code_reach_spec.specs.RunUp.{Symbolic, Constant, Initial, Unknown, Sum, Difference, Shifted, Masked, Registers, sum, difference, shifted, masked, result_of, bound_of, constant_of, at_most, less_than}
use Rattle.code_reach_spec.proofs.RunUp.{constant-is}
use Rattle.code_reach_tables.specs.declared.nodes.Node.{Node}
use Rattle.code_reach_tables.specs.declared.straight.Bound.{Bound}
use Rattle.code_reach_tables.specs.Nodes.{tree_at, Holds, trees_of, AreShared, Gives}
use Rattle.code_reach_tables.specs.Followed.{AreRegisters, AreIds, value_of, register_named, address_of, IsBound, IsBoundOr}
use Rattle.code_reach_tables.proofs.Growth.{held, tree-held, tree-later, trees-long, gives-then}

-- ---- registers

pub register-tree : (nodes : List Node) (ids : List ℕ) (x : Registers) → AreRegisters nodes ids x → (a r : ℕ) → a ≡ get_or ids r 0 → r < 32 → tree_at (trees_of nodes) a ≡ x r
register-tree nodes ids x has a r e below =
    ap (λ k. tree_at (trees_of nodes) k) e ∙ tree-held (trees_of nodes) (get_or ids r 0) (x r) (has.each r below)

-- ---- a sum with a constant

pub constant-added : (old middle new : List Node) (a n c id : ℕ) → a < length old → Gives old middle c (Constant n)
    → Gives middle new id (sum (tree_at (trees_of middle) a) (tree_at (trees_of middle) c)) → Gives old new id (sum (tree_at (trees_of old) a) (Constant n))
constant-added old middle new a n c id below first second =
    gives-then old middle new c id (Constant n) (sum (tree_at (trees_of old) a) (Constant n)) first
    (subst (λ (t : Symbolic). Gives middle new id t) same_tree second)
  where
    same_tree : sum (tree_at (trees_of middle) a) (tree_at (trees_of middle) c) ≡ sum (tree_at (trees_of old) a) (Constant n)
    same_tree = ap₂ (λ (s t : Symbolic). sum s t) (tree-later (trees_of old) (trees_of middle) a first.extends (omega (arith, below, trees-long old)))
        (tree-held (trees_of middle) c (Constant n) first.holds)

-- ---- ADDI to ANDI

module _ (x : Registers) (address : ℕ) (operation : ImmediateOperation) (source : ℕ) (imm : ℤ) where
  abbrev pub immediate_value : ImmediateOperation → Symbolic
  immediate_value o = value_of address (result_of x address (instr.Immediate o 0 source imm))

  pub immediate-add : (t : Symbolic) (n : ℕ) → operation ≡ immediate.Add → t ≡ x source → n ≡ word imm → sum t (Constant n) ≡ immediate_value operation
  unfolding result_of
  immediate-add t n is tree number =
      ap₂ (λ (s : Symbolic) (k : ℕ). sum s (Constant k)) tree number ∙ ap (λ (o : ImmediateOperation). immediate_value o) (sym is)

  pub immediate-and : (t : Symbolic) (n : ℕ) → operation ≡ immediate.And → t ≡ x source → n ≡ word imm → masked t n ≡ immediate_value operation
  unfolding result_of
  immediate-and t n is tree number =
      ap₂ (λ (s : Symbolic) (k : ℕ). masked s k) tree number ∙ ap (λ (o : ImmediateOperation). immediate_value o) (sym is)

  pub immediate-other : (o : ImmediateOperation) → (o ≡ immediate.Add → ⊥) → (o ≡ immediate.And → ⊥) → Unknown address ≡ immediate_value o
  unfolding result_of
  immediate-other immediate.Add not_add not_and = absurd (not_add refl)
  immediate-other immediate.And not_add not_and = absurd (not_and refl)
  immediate-other immediate.SetLess not_add not_and = refl
  immediate-other immediate.SetLessUnsigned not_add not_and = refl
  immediate-other immediate.Xor not_add not_and = refl
  immediate-other immediate.Or not_add not_and = refl

-- ---- SLLI to SRAI

module _ (x : Registers) (address : ℕ) (operation : ShiftOperation) (source amount : ℕ) where
  abbrev pub shift_value : ShiftOperation → Symbolic
  shift_value o = value_of address (result_of x address (instr.Shift o 0 source amount))

  pub shift-left : (t : Symbolic) → operation ≡ shift.Left → t ≡ x source → shifted t amount ≡ shift_value operation
  unfolding result_of
  shift-left t is tree = ap (λ (s : Symbolic). shifted s amount) tree ∙ ap (λ (o : ShiftOperation). shift_value o) (sym is)

  pub shift-other : (o : ShiftOperation) → (o ≡ shift.Left → ⊥) → Unknown address ≡ shift_value o
  unfolding result_of
  shift-other shift.Left not_left = absurd (not_left refl)
  shift-other shift.RightLogical not_left = refl
  shift-other shift.RightArithmetic not_left = refl

-- ---- ADD to REMU

module _ (x : Registers) (address : ℕ) (operation : ArithmeticOperation) (left right : ℕ) where
  abbrev pub arithmetic_value : ArithmeticOperation → Symbolic
  arithmetic_value o = value_of address (result_of x address (instr.Arithmetic o 0 left right))

  pub arithmetic-add : (s t : Symbolic) → operation ≡ op.Add → s ≡ x left → t ≡ x right → sum s t ≡ arithmetic_value operation
  unfolding result_of
  arithmetic-add s t is one two = ap₂ (λ (u v : Symbolic). sum u v) one two ∙ ap (λ (o : ArithmeticOperation). arithmetic_value o) (sym is)

  pub arithmetic-subtract : (s t : Symbolic) → operation ≡ op.Subtract → s ≡ x left → t ≡ x right → difference s t ≡ arithmetic_value operation
  unfolding result_of
  arithmetic-subtract s t is one two = ap₂ (λ (u v : Symbolic). difference u v) one two ∙ ap (λ (o : ArithmeticOperation). arithmetic_value o) (sym is)

  pub arithmetic-other : (o : ArithmeticOperation) → (o ≡ op.Add → ⊥) → (o ≡ op.Subtract → ⊥) → Unknown address ≡ arithmetic_value o
  unfolding result_of
  arithmetic-other op.Add not_add not_subtract = absurd (not_add refl)
  arithmetic-other op.Subtract not_add not_subtract = absurd (not_subtract refl)
  arithmetic-other op.ShiftLeft not_add not_subtract = refl
  arithmetic-other op.SetLess not_add not_subtract = refl
  arithmetic-other op.SetLessUnsigned not_add not_subtract = refl
  arithmetic-other op.Xor not_add not_subtract = refl
  arithmetic-other op.ShiftRightLogical not_add not_subtract = refl
  arithmetic-other op.ShiftRightArithmetic not_add not_subtract = refl
  arithmetic-other op.Or not_add not_subtract = refl
  arithmetic-other op.And not_add not_subtract = refl
  arithmetic-other op.Multiply not_add not_subtract = refl
  arithmetic-other op.MultiplyHigh not_add not_subtract = refl
  arithmetic-other op.MultiplyHighSignedUnsigned not_add not_subtract = refl
  arithmetic-other op.MultiplyHighUnsigned not_add not_subtract = refl
  arithmetic-other op.Divide not_add not_subtract = refl
  arithmetic-other op.DivideUnsigned not_add not_subtract = refl
  arithmetic-other op.Remainder not_add not_subtract = refl
  arithmetic-other op.RemainderUnsigned not_add not_subtract = refl

-- ---- bounds

module _ (ts : List Symbolic) (branch_at index : ℕ) (x : Symbolic) (holds : Holds ts index x) where
  no-bound-most : (c : Symbolic) → None ≡ constant_of c → IsBoundOr ts None (at_most branch_at c x)
  unfolding constant_of
  no-bound-most (Constant n) e = absurd (cc)
  no-bound-most (Initial r) e = tt
  no-bound-most (Unknown p) e = tt
  no-bound-most (Sum a b) e = tt
  no-bound-most (Difference a b) e = tt
  no-bound-most (Shifted a k) e = tt
  no-bound-most (Masked a k) e = tt

  no-bound-less : (c : Symbolic) → None ≡ constant_of c → IsBoundOr ts None (less_than branch_at x c)
  unfolding constant_of
  no-bound-less (Constant n) e = absurd (cc)
  no-bound-less (Initial r) e = tt
  no-bound-less (Unknown p) e = tt
  no-bound-less (Sum a b) e = tt
  no-bound-less (Difference a b) e = tt
  no-bound-less (Shifted a k) e = tt
  no-bound-less (Masked a k) e = tt

  pub none-most : (o : Option Bound) (c : Symbolic) → o ≡ None → None ≡ constant_of c → IsBoundOr ts o (at_most branch_at c x)
  none-most o c is e = subst (λ (b : Option Bound). IsBoundOr ts b (at_most branch_at c x)) (sym is) (no-bound-most c e)

  pub none-less : (o : Option Bound) (c : Symbolic) → o ≡ None → None ≡ constant_of c → IsBoundOr ts o (less_than branch_at x c)
  none-less o c is e = subst (λ (b : Option Bound). IsBoundOr ts b (less_than branch_at x c)) (sym is) (no-bound-less c e)

  pub some-most : (count n : ℕ) (c : Symbolic) → Some n ≡ constant_of c → count ≡ n + 1
      → IsBoundOr ts (Some (record { branch = branch_at; index = index; count = count })) (at_most branch_at c x)
  some-most count n c e number =
      subst (λ (s : Symbolic). IsBoundOr ts (Some (record { branch = branch_at; index = index; count = count })) (at_most branch_at s x)) (sym (constant-is c n (sym e)))
      (record { branch_is = refl; count_is = number; index_is = holds })

  pub some-less : (count n : ℕ) (c : Symbolic) → Some n ≡ constant_of c → count ≡ n
      → IsBoundOr ts (Some (record { branch = branch_at; index = index; count = count })) (less_than branch_at x c)
  some-less count n c e number =
      subst (λ (s : Symbolic). IsBoundOr ts (Some (record { branch = branch_at; index = index; count = count })) (less_than branch_at x s)) (sym (constant-is c n (sym e)))
      (record { branch_is = refl; count_is = number; index_is = holds })

-- a branch of these registers
module _ (ts : List Symbolic) (x : Registers) (address : ℕ) (left right : ℕ) (offset : ℤ) where
  pub most-branch : (o : Option Bound) (t : BranchTest) (a b : Symbolic) → t ≡ branch.LessUnsigned → a ≡ x left → b ≡ x right
      → IsBoundOr ts o (at_most address a b) → IsBoundOr ts o (bound_of x address (instr.Branch t left right offset))
  unfolding bound_of
  most-branch o t a b is one two bound =
      subst (λ (u : BranchTest). IsBoundOr ts o (bound_of x address (instr.Branch u left right offset))) (sym is)
      (subst (λ (s : Symbolic). IsBoundOr ts o (at_most address s (x right))) one (subst (λ (s : Symbolic). IsBoundOr ts o (at_most address a s)) two bound))

  pub less-branch : (o : Option Bound) (t : BranchTest) (a b : Symbolic) → t ≡ branch.GreaterOrEqualUnsigned → a ≡ x left → b ≡ x right
      → IsBoundOr ts o (less_than address a b) → IsBoundOr ts o (bound_of x address (instr.Branch t left right offset))
  unfolding bound_of
  less-branch o t a b is one two bound =
      subst (λ (u : BranchTest). IsBoundOr ts o (bound_of x address (instr.Branch u left right offset))) (sym is)
      (subst (λ (s : Symbolic). IsBoundOr ts o (less_than address s (x right))) one (subst (λ (s : Symbolic). IsBoundOr ts o (less_than address a s)) two bound))

  pub other-branch : (t : BranchTest) → (t ≡ branch.LessUnsigned → ⊥) → (t ≡ branch.GreaterOrEqualUnsigned → ⊥)
      → IsBoundOr ts None (bound_of x address (instr.Branch t left right offset))
  unfolding bound_of
  other-branch branch.LessUnsigned not_less not_greater = absurd (not_less refl)
  other-branch branch.GreaterOrEqualUnsigned not_less not_greater = absurd (not_greater refl)
  other-branch branch.Equal not_less not_greater = tt
  other-branch branch.NotEqual not_less not_greater = tt
  other-branch branch.Less not_less not_greater = tt
  other-branch branch.GreaterOrEqual not_less not_greater = tt

-- no branch
pub no-branch : (ts : List Symbolic) (x : Registers) (address : ℕ) (i : Instr)
    → ((t : BranchTest) (left right : ℕ) (offset : ℤ) → i ≡ instr.Branch t left right offset → ⊥) → IsBoundOr ts None (bound_of x address i)
unfolding bound_of
no-branch ts x address (instr.Branch t left right offset) not_branch = absurd (not_branch t left right offset refl)
no-branch ts x address (instr.Lui rd imm) not_branch = tt
no-branch ts x address (instr.Auipc rd imm) not_branch = tt
no-branch ts x address (instr.Jal rd offset) not_branch = tt
no-branch ts x address (instr.Jalr rd base offset) not_branch = tt
no-branch ts x address (instr.Load kind rd base offset) not_branch = tt
no-branch ts x address (instr.Store kind base source offset) not_branch = tt
no-branch ts x address (instr.Immediate operation rd source imm) not_branch = tt
no-branch ts x address (instr.Shift operation rd source amount) not_branch = tt
no-branch ts x address (instr.Arithmetic operation rd left right) not_branch = tt
no-branch ts x address (instr.Fence rd source bits) not_branch = tt
no-branch ts x address instr.Ecall not_branch = tt
no-branch ts x address instr.Ebreak not_branch = tt

-- ---- any instruction

-- what it gives, and its register
abbrev pub with_register : Option ℕ → Symbolic → Option (ℕ × Symbolic)
with_register None t = None
with_register (Some rd) t = Some (rd, t)

pub result-parts : (x : Registers) (address : ℕ) (i : Instr) → with_register (register_named i) (value_of address (result_of x address i)) ≡ result_of x address i
unfolding result_of
result-parts x address (instr.Branch t left right offset) = refl
result-parts x address (instr.Lui rd imm) = refl
result-parts x address (instr.Auipc rd imm) = refl
result-parts x address (instr.Jal rd offset) = refl
result-parts x address (instr.Jalr rd base offset) = refl
result-parts x address (instr.Load kind rd base offset) = refl
result-parts x address (instr.Store kind base source offset) = refl
result-parts x address (instr.Immediate operation rd source imm) = by operation
  where
    by : (o : ImmediateOperation) → with_register (Some rd) (value_of address (result_of x address (instr.Immediate o rd source imm))) ≡ result_of x address (instr.Immediate o rd source imm)
    by immediate.Add = refl
    by immediate.And = refl
    by immediate.SetLess = refl
    by immediate.SetLessUnsigned = refl
    by immediate.Xor = refl
    by immediate.Or = refl
result-parts x address (instr.Shift operation rd source amount) = by operation
  where
    by : (o : ShiftOperation) → with_register (Some rd) (value_of address (result_of x address (instr.Shift o rd source amount))) ≡ result_of x address (instr.Shift o rd source amount)
    by shift.Left = refl
    by shift.RightLogical = refl
    by shift.RightArithmetic = refl
result-parts x address (instr.Arithmetic operation rd left right) = by operation
  where
    by : (o : ArithmeticOperation) → with_register (Some rd) (value_of address (result_of x address (instr.Arithmetic o rd left right))) ≡ result_of x address (instr.Arithmetic o rd left right)
    by op.Add = refl
    by op.Subtract = refl
    by op.ShiftLeft = refl
    by op.SetLess = refl
    by op.SetLessUnsigned = refl
    by op.Xor = refl
    by op.ShiftRightLogical = refl
    by op.ShiftRightArithmetic = refl
    by op.Or = refl
    by op.And = refl
    by op.Multiply = refl
    by op.MultiplyHigh = refl
    by op.MultiplyHighSignedUnsigned = refl
    by op.MultiplyHighUnsigned = refl
    by op.Divide = refl
    by op.DivideUnsigned = refl
    by op.Remainder = refl
    by op.RemainderUnsigned = refl
result-parts x address (instr.Fence rd source bits) = refl
result-parts x address instr.Ecall = refl
result-parts x address instr.Ebreak = refl

-- whatever its register, it gives the same
module _ (x : Registers) (address : ℕ) (i : Instr) where
  pub value-lui : (rd imm n : ℕ) → i ≡ instr.Lui rd imm → n ≡ imm * 2 ^ 12 % 2 ^ 32 → Constant n ≡ value_of address (result_of x address i)
  unfolding result_of
  value-lui rd imm n is number = ap Constant number ∙ ap (λ (j : Instr). value_of address (result_of x address j)) (sym is)

  pub value-auipc : (rd imm n : ℕ) → i ≡ instr.Auipc rd imm → n ≡ past address (imm * 2 ^ 12) → Constant n ≡ value_of address (result_of x address i)
  unfolding result_of
  value-auipc rd imm n is number = ap Constant number ∙ ap (λ (j : Instr). value_of address (result_of x address j)) (sym is)

  pub value-immediate : (o : ImmediateOperation) (rd source : ℕ) (imm : ℤ) → i ≡ instr.Immediate o rd source imm → immediate_value x address o source imm o ≡ value_of address (result_of x address i)
  unfolding result_of
  value-immediate o rd source imm is = by o ∙ ap (λ (j : Instr). value_of address (result_of x address j)) (sym is)
    where
      by : (p : ImmediateOperation) → value_of address (result_of x address (instr.Immediate p 0 source imm)) ≡ value_of address (result_of x address (instr.Immediate p rd source imm))
      by immediate.Add = refl
      by immediate.And = refl
      by immediate.SetLess = refl
      by immediate.SetLessUnsigned = refl
      by immediate.Xor = refl
      by immediate.Or = refl

  pub value-shift : (o : ShiftOperation) (rd source amount : ℕ) → i ≡ instr.Shift o rd source amount → shift_value x address o source amount o ≡ value_of address (result_of x address i)
  unfolding result_of
  value-shift o rd source amount is = by o ∙ ap (λ (j : Instr). value_of address (result_of x address j)) (sym is)
    where
      by : (p : ShiftOperation) → value_of address (result_of x address (instr.Shift p 0 source amount)) ≡ value_of address (result_of x address (instr.Shift p rd source amount))
      by shift.Left = refl
      by shift.RightLogical = refl
      by shift.RightArithmetic = refl

  pub value-arithmetic : (o : ArithmeticOperation) (rd left right : ℕ) → i ≡ instr.Arithmetic o rd left right → arithmetic_value x address o left right o ≡ value_of address (result_of x address i)
  unfolding result_of
  value-arithmetic o rd left right is = by o ∙ ap (λ (j : Instr). value_of address (result_of x address j)) (sym is)
    where
      by : (p : ArithmeticOperation) → value_of address (result_of x address (instr.Arithmetic p 0 left right)) ≡ value_of address (result_of x address (instr.Arithmetic p rd left right))
      by op.Add = refl
      by op.Subtract = refl
      by op.ShiftLeft = refl
      by op.SetLess = refl
      by op.SetLessUnsigned = refl
      by op.Xor = refl
      by op.ShiftRightLogical = refl
      by op.ShiftRightArithmetic = refl
      by op.Or = refl
      by op.And = refl
      by op.Multiply = refl
      by op.MultiplyHigh = refl
      by op.MultiplyHighSignedUnsigned = refl
      by op.MultiplyHighUnsigned = refl
      by op.Divide = refl
      by op.DivideUnsigned = refl
      by op.Remainder = refl
      by op.RemainderUnsigned = refl

pub value-other : (x : Registers) (address : ℕ) (i : Instr) → ((rd imm : ℕ) → i ≡ instr.Lui rd imm → ⊥) → ((rd imm : ℕ) → i ≡ instr.Auipc rd imm → ⊥)
    → ((o : ImmediateOperation) (rd source : ℕ) (imm : ℤ) → i ≡ instr.Immediate o rd source imm → ⊥) → ((o : ShiftOperation) (rd source amount : ℕ) → i ≡ instr.Shift o rd source amount → ⊥)
    → ((o : ArithmeticOperation) (rd left right : ℕ) → i ≡ instr.Arithmetic o rd left right → ⊥) → Unknown address ≡ value_of address (result_of x address i)
unfolding result_of
value-other x address (instr.Branch t left right offset) l u m s a = refl
value-other x address (instr.Lui rd imm) l u m s a = absurd (l rd imm refl)
value-other x address (instr.Auipc rd imm) l u m s a = absurd (u rd imm refl)
value-other x address (instr.Jal rd offset) l u m s a = refl
value-other x address (instr.Jalr rd base offset) l u m s a = refl
value-other x address (instr.Load kind rd base offset) l u m s a = refl
value-other x address (instr.Store kind base source offset) l u m s a = refl
value-other x address (instr.Immediate operation rd source imm) l u m s a = absurd (m operation rd source imm refl)
value-other x address (instr.Shift operation rd source amount) l u m s a = absurd (s operation rd source amount refl)
value-other x address (instr.Arithmetic operation rd left right) l u m s a = absurd (a operation rd left right refl)
value-other x address (instr.Fence rd source bits) l u m s a = refl
value-other x address instr.Ecall l u m s a = refl
value-other x address instr.Ebreak l u m s a = refl
