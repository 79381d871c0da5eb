-- A word has the fields of its instruction, so no other word has that instruction, and the fields are in range.
--     Encodes w i      the fields of w are those of the instruction i
--     encoded          a word encodes its instruction
use Rattle.std.proofs.Common.{◌≡◌, ℕ, ◌+◌, ◌*◌, ◌%◌, ◌^◌, ◌<◌, ◌==◌, Bool, true, false, cond, ◌&&◌, List, [], ◌∷◌, refl, sym, ◌∙◌, subst, arith, eqb-true, IfSome, Option, Some, None}
use Rattle.std.proofs.lemmas.Int.{ints}
use Rattle.std.specs.Prelude.{option_map, ℤ}
use Rattle.rv_asm.specs.Fits.{Fits, IsSigned, IsEven}
use Rattle.rv_instr.specs.Instr.{instr, instr_of, instr_of_immediate, either, listed, branches, loads, stores, immediates, shifts, arithmetics, field, signed, opcode, rd, funct3, rs1, rs2, funct7, funct10, i_immediate, s_immediate, b_immediate, u_immediate, j_immediate}
use Rattle.rv_instr.specs.declared.Instr.{Instr}
use Rattle.rv_instr.specs.declared.Instr.TheVariants.{Lui, Auipc, Jal, Jalr, Branch, Load, Store, Immediate, Shift, Arithmetic, Fence, Ecall, Ebreak}
use Rattle.rv_instr.specs.declared.BranchTest.{BranchTest}
use Rattle.rv_instr.specs.declared.BranchTest.TheVariants.{Equal, NotEqual, Less, GreaterOrEqual, LessUnsigned, GreaterOrEqualUnsigned}
use Rattle.rv_instr.specs.declared.LoadKind.{LoadKind}
use Rattle.rv_instr.specs.declared.LoadKind.TheVariants as load
use Rattle.rv_instr.specs.declared.StoreKind.{StoreKind}
use Rattle.rv_instr.specs.declared.StoreKind.TheVariants as store
use Rattle.rv_instr.specs.declared.ImmediateOperation.{ImmediateOperation}
use Rattle.rv_instr.specs.declared.ImmediateOperation.TheVariants as immediate
use Rattle.rv_instr.specs.declared.ShiftOperation.{ShiftOperation}
use Rattle.rv_instr.specs.declared.ShiftOperation.TheVariants.{Left, RightLogical, RightArithmetic}
use Rattle.rv_instr.specs.declared.ArithmeticOperation.{ArithmeticOperation}
use Rattle.rv_instr.specs.declared.ArithmeticOperation.TheVariants as arithmetic

-- ---- the tables backwards

abbrev pub branch_code : BranchTest → ℕ
branch_code Equal = 0
branch_code NotEqual = 1
branch_code Less = 4
branch_code GreaterOrEqual = 5
branch_code LessUnsigned = 6
branch_code GreaterOrEqualUnsigned = 7

abbrev pub load_code : LoadKind → ℕ
load_code load.Byte = 0
load_code load.Half = 1
load_code load.Word = 2
load_code load.ByteUnsigned = 4
load_code load.HalfUnsigned = 5

abbrev pub store_code : StoreKind → ℕ
store_code store.Byte = 0
store_code store.Half = 1
store_code store.Word = 2

abbrev pub immediate_code : ImmediateOperation → ℕ
immediate_code immediate.Add = 0
immediate_code immediate.SetLess = 2
immediate_code immediate.SetLessUnsigned = 3
immediate_code immediate.Xor = 4
immediate_code immediate.Or = 6
immediate_code immediate.And = 7

abbrev pub shift_code : ShiftOperation → ℕ
shift_code Left = 0x001
shift_code RightLogical = 0x005
shift_code RightArithmetic = 0x105

abbrev pub arithmetic_code : ArithmeticOperation → ℕ
arithmetic_code arithmetic.Add = 0x000
arithmetic_code arithmetic.ShiftLeft = 0x001
arithmetic_code arithmetic.SetLess = 0x002
arithmetic_code arithmetic.SetLessUnsigned = 0x003
arithmetic_code arithmetic.Xor = 0x004
arithmetic_code arithmetic.ShiftRightLogical = 0x005
arithmetic_code arithmetic.Or = 0x006
arithmetic_code arithmetic.And = 0x007
arithmetic_code arithmetic.Subtract = 0x100
arithmetic_code arithmetic.ShiftRightArithmetic = 0x105
arithmetic_code arithmetic.Multiply = 0x008
arithmetic_code arithmetic.MultiplyHigh = 0x009
arithmetic_code arithmetic.MultiplyHighSignedUnsigned = 0x00a
arithmetic_code arithmetic.MultiplyHighUnsigned = 0x00b
arithmetic_code arithmetic.Divide = 0x00c
arithmetic_code arithmetic.DivideUnsigned = 0x00d
arithmetic_code arithmetic.Remainder = 0x00e
arithmetic_code arithmetic.RemainderUnsigned = 0x00f

-- ---- the fields of an instruction

abbrev pub Encodes : ℕ → Instr → Type 0
Encodes w (Lui r imm) = (opcode w ≡ 0x37) × (rd w ≡ r) × (u_immediate w ≡ imm)
Encodes w (Auipc r imm) = (opcode w ≡ 0x17) × (rd w ≡ r) × (u_immediate w ≡ imm)
Encodes w (Jal r offset) = (opcode w ≡ 0x6f) × (rd w ≡ r) × (j_immediate w ≡ offset)
Encodes w (Jalr r base offset) = (opcode w ≡ 0x67) × (rd w ≡ r) × (funct3 w ≡ 0) × (rs1 w ≡ base) × (i_immediate w ≡ offset)
Encodes w (Branch test left right offset) = (opcode w ≡ 0x63) × (funct3 w ≡ branch_code test) × (rs1 w ≡ left) × (rs2 w ≡ right) × (b_immediate w ≡ offset)
Encodes w (Load kind r base offset) = (opcode w ≡ 0x03) × (rd w ≡ r) × (funct3 w ≡ load_code kind) × (rs1 w ≡ base) × (i_immediate w ≡ offset)
Encodes w (Store kind base source offset) = (opcode w ≡ 0x23) × (funct3 w ≡ store_code kind) × (rs1 w ≡ base) × (rs2 w ≡ source) × (s_immediate w ≡ offset)
Encodes w (Immediate operation r source imm) = (opcode w ≡ 0x13) × (rd w ≡ r) × (funct3 w ≡ immediate_code operation) × (rs1 w ≡ source) × (i_immediate w ≡ imm)
Encodes w (Shift operation r source amount) = (opcode w ≡ 0x13) × (rd w ≡ r) × (funct10 w ≡ shift_code operation) × (rs1 w ≡ source) × (rs2 w ≡ amount)
Encodes w (Arithmetic operation r left right) = (opcode w ≡ 0x33) × (rd w ≡ r) × (funct10 w ≡ arithmetic_code operation) × (rs1 w ≡ left) × (rs2 w ≡ right)
Encodes w (Fence r source bits) = (opcode w ≡ 0x0f) × (rd w ≡ r) × (funct3 w ≡ 0) × (rs1 w ≡ source) × (field 20 12 w ≡ bits)
Encodes w Ecall = w ≡ 0x00000073
Encodes w Ebreak = w ≡ 0x00100073

-- ---- a word encodes its instruction

pick : {X : Type 0} (P : X → Type 0) (b : Bool) (x y : Option X) → (b ≡ true → IfSome x P) → (b ≡ false → IfSome y P) → IfSome (cond b x y) P
pick P true x y here there = here refl
pick P false x y here there = there refl

mapped : {X Y : Type 0} (P : Y → Type 0) (f : X → Y) (o : Option X) → IfSome o (λ x. P (f x)) → IfSome (option_map f o) P
mapped P f None h = h
mapped P f (Some x) h = h

abbrev coded : {X : Type 0} → (X → ℕ) → List (ℕ × X) → Bool
coded code [] = true
coded code (row ∷ rows) = (row.0 == code row.1) && coded code rows

first_true : (a b : Bool) → (a && b) ≡ true → a ≡ true
first_true true b h = refl
first_true false b h = h

last_true : (a b : Bool) → (a && b) ≡ true → b ≡ true
last_true true b h = h
last_true false b h = cc

at_code : {X : Type 0} (P : X → Type 0) (code : X → ℕ) (rows : List (ℕ × X)) (key : ℕ) → coded code rows ≡ true → ((x : X) → key ≡ code x → P x) → IfSome (listed rows key) P
at_code P code [] key ok h = tt
at_code P code (row ∷ rows) key ok h =
    pick P (key == row.0) _ _ (λ e. h row.1 (eqb-true _ _ e ∙ eqb-true _ _ (first_true _ _ ok))) (λ _. at_code P code rows key (last_true _ _ ok) h)

of_immediate : (w : ℕ) → opcode w ≡ 0x13 → IfSome (instr_of_immediate w) (Encodes w)
unfolding instr_of_immediate
of_immediate w op =
    first_there (option_map (λ operation. Immediate operation (rd w) (rs1 w) (i_immediate w)) (listed immediates (funct3 w))) _
    (mapped (Encodes w) (λ operation. Immediate operation (rd w) (rs1 w) (i_immediate w)) (listed immediates (funct3 w))
    (at_code _ immediate_code immediates (funct3 w) refl (λ operation e. (op, refl, e, refl, refl))))
    (mapped (Encodes w) (λ operation. Shift operation (rd w) (rs1 w) (rs2 w)) (listed shifts (funct10 w))
    (at_code _ shift_code shifts (funct10 w) refl (λ operation e. (op, refl, e, refl, refl))))
  where
    first_there : (x y : Option Instr) → IfSome x (Encodes w) → IfSome y (Encodes w) → IfSome (either x y) (Encodes w)
    first_there None y hx hy = hy
    first_there (Some i) y hx hy = hx

of_opcode : (w : ℕ) → IfSome (instr_of (opcode w) w) (Encodes w)
unfolding instr_of
of_opcode w =
    pick (Encodes w) (opcode w == 0x37) _ _ (λ e. (eqb-true _ _ e, refl, refl)) (λ _.
    pick (Encodes w) (opcode w == 0x17) _ _ (λ e. (eqb-true _ _ e, refl, refl)) (λ _.
    pick (Encodes w) (opcode w == 0x6f) _ _ (λ e. (eqb-true _ _ e, refl, refl)) (λ _.
    pick (Encodes w) (opcode w == 0x67) _ _ (λ e. pick (Encodes w) (funct3 w == 0) _ _ (λ f. (eqb-true _ _ e, refl, eqb-true _ _ f, refl, refl)) (λ _. tt)) (λ _.
    pick (Encodes w) (opcode w == 0x63) _ _ (λ e. mapped (Encodes w) (λ test. Branch test (rs1 w) (rs2 w) (b_immediate w)) (listed branches (funct3 w))
    (at_code _ branch_code branches (funct3 w) refl (λ test f. (eqb-true _ _ e, f, refl, refl, refl)))) (λ _.
    pick (Encodes w) (opcode w == 0x03) _ _ (λ e. mapped (Encodes w) (λ kind. Load kind (rd w) (rs1 w) (i_immediate w)) (listed loads (funct3 w))
    (at_code _ load_code loads (funct3 w) refl (λ kind f. (eqb-true _ _ e, refl, f, refl, refl)))) (λ _.
    pick (Encodes w) (opcode w == 0x23) _ _ (λ e. mapped (Encodes w) (λ kind. Store kind (rs1 w) (rs2 w) (s_immediate w)) (listed stores (funct3 w))
    (at_code _ store_code stores (funct3 w) refl (λ kind f. (eqb-true _ _ e, f, refl, refl, refl)))) (λ _.
    pick (Encodes w) (opcode w == 0x13) _ _ (λ e. of_immediate w (eqb-true _ _ e)) (λ _.
    pick (Encodes w) (opcode w == 0x33) _ _ (λ e. mapped (Encodes w) (λ operation. Arithmetic operation (rd w) (rs1 w) (rs2 w)) (listed arithmetics (funct10 w))
    (at_code _ arithmetic_code arithmetics (funct10 w) refl (λ operation f. (eqb-true _ _ e, refl, f, refl, refl)))) (λ _.
    pick (Encodes w) (opcode w == 0x0f) _ _ (λ e. pick (Encodes w) (funct3 w == 0) _ _ (λ f. (eqb-true _ _ e, refl, eqb-true _ _ f, refl, refl)) (λ _. tt)) (λ _.
    pick (Encodes w) (w == 0x00000073) _ _ (λ e. eqb-true _ _ e) (λ _.
    pick (Encodes w) (w == 0x00100073) _ _ (λ e. eqb-true _ _ e) (λ _. tt))))))))))))

pub encoded : (w : ℕ) → IfSome (instr w) (Encodes w)
unfolding instr
encoded w = of_opcode w

-- ---- no other word encodes it

signed_once : (count a b : ℕ) → 0 < count → a < 2 ^ count → b < 2 ^ count → signed count a ≡ signed count b → a ≡ b
signed_once count a b some low high e = grind (arith, ints)

upper_once : (w v : ℕ) → w < 2 ^ 32 → v < 2 ^ 32 → opcode w ≡ opcode v → rd w ≡ rd v → u_immediate w ≡ u_immediate v → w ≡ v
upper_once w v hw hv op r u = omega arith

fields_once : (w v : ℕ) → w < 2 ^ 32 → v < 2 ^ 32 → opcode w ≡ opcode v → rd w ≡ rd v → funct3 w ≡ funct3 v → rs1 w ≡ rs1 v → field 20 12 w ≡ field 20 12 v → w ≡ v
fields_once w v hw hv op r f s t = omega arith

twelve_once : (a b : ℕ) → a < 2 ^ 12 → b < 2 ^ 12 → signed 12 a ≡ signed 12 b → a ≡ b
twelve_once a b low high e = signed_once 12 a b (omega arith) low high e

immediate_once : (w v : ℕ) → i_immediate w ≡ i_immediate v → field 20 12 w ≡ field 20 12 v
immediate_once w v e = twelve_once (field 20 12 w) (field 20 12 v) (omega arith) (omega arith) e

jump_once : (w v : ℕ) → j_immediate w ≡ j_immediate v → u_immediate w ≡ u_immediate v
jump_once w v e =
    let same : field 31 1 w * 2 ^ 20 + field 12 8 w * 2 ^ 12 + field 20 1 w * 2 ^ 11 + field 21 10 w * 2 ≡ field 31 1 v * 2 ^ 20 + field 12 8 v * 2 ^ 12 + field 20 1 v * 2 ^ 11 + field 21 10 v * 2 = signed_once 21 _ _ (omega arith) (omega arith) (omega arith) e in
    omega arith

branch_once : (w v : ℕ) → b_immediate w ≡ b_immediate v → (rd w ≡ rd v) × (funct7 w ≡ funct7 v)
branch_once w v e =
    let same : field 31 1 w * 2 ^ 12 + field 7 1 w * 2 ^ 11 + field 25 6 w * 2 ^ 5 + field 8 4 w * 2 ≡ field 31 1 v * 2 ^ 12 + field 7 1 v * 2 ^ 11 + field 25 6 v * 2 ^ 5 + field 8 4 v * 2 = signed_once 13 _ _ (omega arith) (omega arith) (omega arith) e in
    (omega arith, omega arith)

store_once : (w v : ℕ) → s_immediate w ≡ s_immediate v → (rd w ≡ rd v) × (funct7 w ≡ funct7 v)
store_once w v e =
    let same : field 25 7 w * 2 ^ 5 + field 7 5 w ≡ field 25 7 v * 2 ^ 5 + field 7 5 v = twelve_once _ _ (omega arith) (omega arith) e in
    (omega arith, omega arith)

-- bits 31..20 are funct7 and rs2
upper_twelve : (w v : ℕ) → rs2 w ≡ rs2 v → funct7 w ≡ funct7 v → field 20 12 w ≡ field 20 12 v
upper_twelve w v r f = omega arith

of_funct10 : (w v : ℕ) → funct10 w ≡ funct10 v → (funct3 w ≡ funct3 v) × (funct7 w ≡ funct7 v)
of_funct10 w v e = (omega arith, omega arith)

r_once : (w v : ℕ) → w < 2 ^ 32 → v < 2 ^ 32 → opcode w ≡ opcode v → rd w ≡ rd v → funct10 w ≡ funct10 v → rs1 w ≡ rs1 v → rs2 w ≡ rs2 v → w ≡ v
r_once w v hw hv op r f s t = fields_once w v hw hv op r (of_funct10 w v f).0 s (upper_twelve w v t (of_funct10 w v f).1)

s_once : (w v : ℕ) → w < 2 ^ 32 → v < 2 ^ 32 → opcode w ≡ opcode v → funct3 w ≡ funct3 v → rs1 w ≡ rs1 v → rs2 w ≡ rs2 v → (rd w ≡ rd v) × (funct7 w ≡ funct7 v) → w ≡ v
s_once w v hw hv op f s t both = fields_once w v hw hv op both.0 f s (upper_twelve w v t both.1)

pub one : (w v : ℕ) (i : Instr) → w < 2 ^ 32 → v < 2 ^ 32 → Encodes w i → Encodes v i → w ≡ v
one w v (Lui r imm) hw hv a b = upper_once w v hw hv (a.0 ∙ sym b.0) (a.1 ∙ sym b.1) (a.2 ∙ sym b.2)
one w v (Auipc r imm) hw hv a b = upper_once w v hw hv (a.0 ∙ sym b.0) (a.1 ∙ sym b.1) (a.2 ∙ sym b.2)
one w v (Jal r offset) hw hv a b = upper_once w v hw hv (a.0 ∙ sym b.0) (a.1 ∙ sym b.1) (jump_once w v (a.2 ∙ sym b.2))
one w v (Jalr r base offset) hw hv a b = fields_once w v hw hv (a.0 ∙ sym b.0) (a.1 ∙ sym b.1) (a.2 ∙ sym b.2) (a.3 ∙ sym b.3) (immediate_once w v (a.4 ∙ sym b.4))
one w v (Branch test left right offset) hw hv a b = s_once w v hw hv (a.0 ∙ sym b.0) (a.1 ∙ sym b.1) (a.2 ∙ sym b.2) (a.3 ∙ sym b.3) (branch_once w v (a.4 ∙ sym b.4))
one w v (Load kind r base offset) hw hv a b = fields_once w v hw hv (a.0 ∙ sym b.0) (a.1 ∙ sym b.1) (a.2 ∙ sym b.2) (a.3 ∙ sym b.3) (immediate_once w v (a.4 ∙ sym b.4))
one w v (Store kind base source offset) hw hv a b = s_once w v hw hv (a.0 ∙ sym b.0) (a.1 ∙ sym b.1) (a.2 ∙ sym b.2) (a.3 ∙ sym b.3) (store_once w v (a.4 ∙ sym b.4))
one w v (Immediate operation r source imm) hw hv a b = fields_once w v hw hv (a.0 ∙ sym b.0) (a.1 ∙ sym b.1) (a.2 ∙ sym b.2) (a.3 ∙ sym b.3) (immediate_once w v (a.4 ∙ sym b.4))
one w v (Shift operation r source amount) hw hv a b = r_once w v hw hv (a.0 ∙ sym b.0) (a.1 ∙ sym b.1) (a.2 ∙ sym b.2) (a.3 ∙ sym b.3) (a.4 ∙ sym b.4)
one w v (Arithmetic operation r left right) hw hv a b = r_once w v hw hv (a.0 ∙ sym b.0) (a.1 ∙ sym b.1) (a.2 ∙ sym b.2) (a.3 ∙ sym b.3) (a.4 ∙ sym b.4)
one w v (Fence r source bits) hw hv a b = fields_once w v hw hv (a.0 ∙ sym b.0) (a.1 ∙ sym b.1) (a.2 ∙ sym b.2) (a.3 ∙ sym b.3) (a.4 ∙ sym b.4)
one w v Ecall hw hv a b = a ∙ sym b
one w v Ebreak hw hv a b = a ∙ sym b

pub encoded_by : (w : ℕ) (i : Instr) → instr w ≡ Some i → Encodes w i
encoded_by w i e = subst (λ o. IfSome o (Encodes w)) e (encoded w)

pub one_word : (w v : ℕ) (i : Instr) → w < 2 ^ 32 → v < 2 ^ 32 → instr w ≡ Some i → instr v ≡ Some i → w ≡ v
one_word w v i hw hv a b = one w v i hw hv (encoded_by w i a) (encoded_by v i b)

-- ---- the fields are in range

signed_12 : (n : ℕ) → n < 2 ^ 12 → IsSigned 12 (signed 12 n)
signed_12 n below = (grind (arith, ints), grind (arith, ints))

signed_13 : (n : ℕ) → n < 2 ^ 13 → IsSigned 13 (signed 13 n)
signed_13 n below = (grind (arith, ints), grind (arith, ints))

signed_21 : (n : ℕ) → n < 2 ^ 21 → IsSigned 21 (signed 21 n)
signed_21 n below = (grind (arith, ints), grind (arith, ints))

even_13 : (n : ℕ) → n < 2 ^ 13 → n % 2 ≡ 0 → IsEven (signed 13 n)
even_13 n below even = grind (arith, ints)

even_21 : (n : ℕ) → n < 2 ^ 21 → n % 2 ≡ 0 → IsEven (signed 21 n)
even_21 n below even = grind (arith, ints)

fits_i : (w : ℕ) (z : ℤ) → i_immediate w ≡ z → IsSigned 12 z
fits_i w z e = subst (IsSigned 12) e (signed_12 (field 20 12 w) (omega arith))

fits_s : (w : ℕ) (z : ℤ) → s_immediate w ≡ z → IsSigned 12 z
fits_s w z e = subst (IsSigned 12) e (signed_12 (field 25 7 w * 2 ^ 5 + field 7 5 w) (omega arith))

fits_b : (w : ℕ) (z : ℤ) → b_immediate w ≡ z → IsSigned 13 z × IsEven z
fits_b w z e =
    let n : ℕ = field 31 1 w * 2 ^ 12 + field 7 1 w * 2 ^ 11 + field 25 6 w * 2 ^ 5 + field 8 4 w * 2 in
    (subst (IsSigned 13) e (signed_13 n (omega arith)), subst IsEven e (even_13 n (omega arith) (omega arith)))

fits_j : (w : ℕ) (z : ℤ) → j_immediate w ≡ z → IsSigned 21 z × IsEven z
fits_j w z e =
    let n : ℕ = field 31 1 w * 2 ^ 20 + field 12 8 w * 2 ^ 12 + field 20 1 w * 2 ^ 11 + field 21 10 w * 2 in
    (subst (IsSigned 21) e (signed_21 n (omega arith)), subst IsEven e (even_21 n (omega arith) (omega arith)))

pub fitting : (w : ℕ) (i : Instr) → Encodes w i → Fits i
fitting w (Lui r imm) a = omega (arith, a.2)
fitting w (Auipc r imm) a = omega (arith, a.2)
fitting w (Jal r offset) a = fits_j w offset a.2
fitting w (Jalr r base offset) a = fits_i w offset a.4
fitting w (Branch test left right offset) a = fits_b w offset a.4
fitting w (Load kind r base offset) a = fits_i w offset a.4
fitting w (Store kind base source offset) a = fits_s w offset a.4
fitting w (Immediate operation r source imm) a = fits_i w imm a.4
fitting w (Shift operation r source amount) a = omega (arith, a.4)
fitting w (Arithmetic operation r left right) a = tt
fitting w (Fence r source bits) a = omega (arith, a.4)
fitting w Ecall a = tt
fitting w Ebreak a = tt

pub every_instruction_fits : (w : ℕ) (i : Instr) → instr w ≡ Some i → Fits i
every_instruction_fits w i e = fitting w i (encoded_by w i e)
