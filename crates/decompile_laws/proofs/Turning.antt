-- What the machine does at a branch, a jump, a call and a return, by the flow of the instruction.
use Rattle.std.proofs.Common.{◌≡◌, ◌≢◌, ◌∙◌, ℕ, ◌-◌, ◌*◌, ◌/◌, ◌%◌, ◌^◌, ◌<◌, ◌≤◌, ◌==◌, ◌&&◌, Bool, true, false, not, cond, refl, sym, ap, subst, arith, eqb-true, eq-eqb, leb-true, Option, Some, None, inl, inr, ℤ, pos, negsuc}
use Rattle.std.specs.Prelude.{nat_le}
use Rattle.std.proofs.lemmas.Bool.{and_parts, cases_eq}
use Rattle.rv_instr.specs.declared.Instr.{Instr}
use Rattle.rv_instr.specs.declared.Instr.TheVariants.{Lui, Auipc, Jal, Jalr, Branch, Load, Store, Immediate, Shift, Arithmetic, Fence, Ecall, Ebreak}
use Rattle.rv_instr.specs.declared.BranchTest.{BranchTest}
use Rattle.rv_machine_spec.specs.Arithmetic.{word, holds}
use Rattle.rv_machine_spec.specs.Machine.{Machine, read_register, write_register, past}
use Rattle.rv_machine_spec.specs.Step as step
use Rattle.rv_machine_spec.specs.Step.{execute, goto, next}
use Rattle.code_reach_spec.specs.Code.{Branches, Jumps, Calls, Links, Returns, flow_of, flow_of_pair, pair_target}

-- ---- an AUIPC pair

-- the instruction before a JALR is an AUIPC to its base, and its destination is x0 or x1
pub record IsPair (previous : Option Instr) (address rd base : ℕ) (offset : ℤ) (target : ℕ) : Type 0 where
  pub imm : ℕ
  pub auipc : previous ≡ Some (Auipc base imm)
  pub nonzero : base ≢ 0
  pub links : rd ≤ 1
  pub target_is : target ≡ past (past (address - 4) (imm * 2 ^ 12)) (word offset) / 2 * 2

pair_by : (register imm address rd base : ℕ) (offset : ℤ) (target : ℕ) (b : Bool) → (not (register == 0) && (register == base) && nat_le rd 1) ≡ b
    → cond b (Some (past (past (address - 4) (imm * 2 ^ 12)) (word offset) / 2 * 2)) None ≡ Some target
    → IsPair (Some (Auipc register imm)) address rd base offset target
pair_by register imm address rd base offset target false all e = absurd (cc)
pair_by register imm address rd base offset target true all e =
    let outer = and_parts (not (register == 0) && (register == base)) (nat_le rd 1) all in
    let inner = and_parts (not (register == 0)) (register == base) outer.0 in
    let same : register ≡ base = eqb-true register base inner.1 in
    record {
      imm = imm;
      auipc = ap (λ r. Some (Auipc r imm)) same;
      nonzero = λ zero. let is : (register == 0) ≡ true = eq-eqb register 0 (same ∙ zero) in let off : not (register == 0) ≡ false = ap not is in cc (inner.0, off);
      links = leb-true rd 1 outer.1;
      target_is = cc;
    }

pub pair_is : (previous : Option Instr) (address rd base : ℕ) (offset : ℤ) (target : ℕ) → pair_target previous address rd base offset ≡ Some target
    → IsPair previous address rd base offset target
pair_is None address rd base offset target e = absurd (cc)
pair_is (Some (Auipc register imm)) address rd base offset target e = pair_by register imm address rd base offset target _ refl e
pair_is (Some (Lui r imm)) address rd base offset target e = absurd (cc)
pair_is (Some (Jal r imm)) address rd base offset target e = absurd (cc)
pair_is (Some (Jalr r b imm)) address rd base offset target e = absurd (cc)
pair_is (Some (Branch test left right imm)) address rd base offset target e = absurd (cc)
pair_is (Some (Load kind r b imm)) address rd base offset target e = absurd (cc)
pair_is (Some (Store kind b source imm)) address rd base offset target e = absurd (cc)
pair_is (Some (Immediate operation r source imm)) address rd base offset target e = absurd (cc)
pair_is (Some (Shift operation r source amount)) address rd base offset target e = absurd (cc)
pair_is (Some (Arithmetic operation r left right)) address rd base offset target e = absurd (cc)
pair_is (Some (Fence r source bits)) address rd base offset target e = absurd (cc)
pair_is (Some Ecall) address rd base offset target e = absurd (cc)
pair_is (Some Ebreak) address rd base offset target e = absurd (cc)

-- ---- a branch

pub record IsBranch (i : Instr) (address target : ℕ) : Type 0 where
  pub test : BranchTest
  pub left : ℕ
  pub right : ℕ
  pub offset : ℤ
  pub is : i ≡ Branch test left right offset
  pub target_is : target ≡ past address (word offset)

jumps_not : (b c : Bool) (t u v w : ℕ) → cond b (Jumps t) (cond c (Calls u) (Links v)) ≡ Branches w → ⊥
jumps_not true c t u v w e = absurd (cc)
jumps_not false true t u v w e = absurd (cc)
jumps_not false false t u v w e = absurd (cc)

pairs_not : (b : Bool) (t w : ℕ) → cond b (Jumps t) (Calls t) ≡ Branches w → ⊥
pairs_not true t w e = absurd (cc)
pairs_not false t w e = absurd (cc)

returns_not : (b : Bool) (o : Option ℕ) (rd w : ℕ) → cond b Returns (flow_of_pair o rd) ≡ Branches w → ⊥
returns_not true o rd w e = absurd (cc)
returns_not false None rd w e = absurd (cc)
returns_not false (Some t) rd w e = absurd (pairs_not (rd == 0) t w e)

pub branch_is : (previous : Option Instr) (i : Instr) (address target : ℕ) → flow_of previous address i ≡ Branches target → IsBranch i address target
branch_is previous (Lui rd imm) address target e = absurd (cc)
branch_is previous (Auipc rd imm) address target e = absurd (cc)
branch_is previous (Jal rd offset) address target e = absurd (jumps_not (rd == 0) (rd == 1) _ _ _ _ e)
branch_is previous (Jalr rd base offset) address target e = absurd (returns_not _ (pair_target previous address rd base offset) rd target e)
branch_is previous (Branch test left right offset) address target e = record { test = test; left = left; right = right; offset = offset; is = refl; target_is = cc }
branch_is previous (Load kind rd base offset) address target e = absurd (cc)
branch_is previous (Store kind base source offset) address target e = absurd (cc)
branch_is previous (Immediate operation rd source imm) address target e = absurd (cc)
branch_is previous (Shift operation rd source amount) address target e = absurd (cc)
branch_is previous (Arithmetic operation rd left right) address target e = absurd (cc)
branch_is previous (Fence rd source bits) address target e = absurd (cc)
branch_is previous Ecall address target e = absurd (cc)
branch_is previous Ebreak address target e = absurd (cc)

pub branch_does : (m : Machine) (test : BranchTest) (left right : ℕ) (offset : ℤ)
    → execute (Branch test left right offset) m
    ≡ cond (holds test (read_register m left) (read_register m right)) (goto (past m.pc (word offset)) m) (Some (next m))
unfolding execute
branch_does m test left right offset = refl

-- ---- a jump

-- a JAL, or the JALR of an AUIPC pair, with this destination and to this target
pub data IsTurn (previous : Option Instr) (address rd target : ℕ) : Instr → Type 0 where
  by_jal : (offset : ℤ) → target ≡ past address (word offset) → IsTurn previous address rd target (Jal rd offset)
  by_pair : (base : ℕ) (offset : ℤ) → IsPair previous address rd base offset target → IsTurn previous address rd target (Jalr rd base offset)

-- what the machine does where a pair's register has what the AUIPC put there
pub turn_does : (previous : Option Instr) (m : Machine) (rd target : ℕ) (i : Instr) → IsTurn previous m.pc rd target i
    → ((base imm : ℕ) (offset : ℤ) → i ≡ Jalr rd base offset → previous ≡ Some (Auipc base imm) → base ≢ 0 → read_register m base ≡ past (m.pc - 4) (imm * 2 ^ 12))
    → execute i m ≡ step.link rd target m
unfolding execute
turn_does previous m rd target _ (by_jal offset is) known = ap (λ t. step.link rd t m) (sym is)
turn_does previous m rd target _ (by_pair base offset pair) known =
    ap (λ x. step.link rd (past x (word offset) / 2 * 2) m) (known base pair.imm offset refl pair.auipc pair.nonzero) ∙ ap (λ t. step.link rd t m) (sym pair.target_is)

pub link_nowhere : (m : Machine) (target : ℕ) → step.link 0 target m ≡ step.aligned 4 target (record m { pc = target })
unfolding write_register
link_nowhere m target = refl

jump_by : (previous : Option Instr) (b c : Bool) (rd : ℕ) (offset : ℤ) (address target : ℕ) → (rd == 0) ≡ b
    → cond b (Jumps (past address (word offset))) (cond c (Calls (past address (word offset))) (Links (past address (word offset)))) ≡ Jumps target
    → IsTurn previous address 0 target (Jal rd offset)
jump_by previous true c rd offset address target zero e =
    subst (λ r. IsTurn previous address 0 target (Jal r offset)) (sym (eqb-true rd 0 zero)) (by_jal offset cc)
jump_by previous false true rd offset address target zero e = absurd (cc)
jump_by previous false false rd offset address target zero e = absurd (cc)

jump_by_pair : (previous : Option Instr) (address rd base : ℕ) (offset : ℤ) (target : ℕ) (b : Bool) (o : Option ℕ) → pair_target previous address rd base offset ≡ o
    → cond b Returns (flow_of_pair o rd) ≡ Jumps target → IsTurn previous address 0 target (Jalr rd base offset)
jump_by_pair previous address rd base offset target true o is e = absurd (cc)
jump_by_pair previous address rd base offset target false None is e = absurd (cc)
jump_by_pair previous address rd base offset target false (Some t) is e = by (rd == 0) refl e
  where
    by : (c : Bool) → (rd == 0) ≡ c → cond c (Jumps t) (Calls t) ≡ Jumps target → IsTurn previous address 0 target (Jalr rd base offset)
    by false none f = absurd (cc)
    by true zero f =
        let same : t ≡ target = cc in
        let pair : IsPair previous address rd base offset target = pair_is previous address rd base offset target (is ∙ ap Some same) in
        let is_zero_rd : rd ≡ 0 = eqb-true rd 0 zero in
        subst (λ r. IsTurn previous address 0 target (Jalr r base offset)) (sym is_zero_rd)
        (by_pair base offset (subst (λ r. IsPair previous address r base offset target) is_zero_rd pair))

pub jump_is : (previous : Option Instr) (i : Instr) (address target : ℕ) → flow_of previous address i ≡ Jumps target → IsTurn previous address 0 target i
jump_is previous (Lui rd imm) address target e = absurd (cc)
jump_is previous (Auipc rd imm) address target e = absurd (cc)
jump_is previous (Jal rd offset) address target e = jump_by previous (rd == 0) (rd == 1) rd offset address target refl e
jump_is previous (Jalr rd base offset) address target e = jump_by_pair previous address rd base offset target _ (pair_target previous address rd base offset) refl e
jump_is previous (Branch test left right offset) address target e = absurd (cc)
jump_is previous (Load kind rd base offset) address target e = absurd (cc)
jump_is previous (Store kind base source offset) address target e = absurd (cc)
jump_is previous (Immediate operation rd source imm) address target e = absurd (cc)
jump_is previous (Shift operation rd source amount) address target e = absurd (cc)
jump_is previous (Arithmetic operation rd left right) address target e = absurd (cc)
jump_is previous (Fence rd source bits) address target e = absurd (cc)
jump_is previous Ecall address target e = absurd (cc)
jump_is previous Ebreak address target e = absurd (cc)

-- ---- a call

call_by : (previous : Option Instr) (b c : Bool) (rd : ℕ) (offset : ℤ) (address target : ℕ) → (rd == 1) ≡ c
    → cond b (Jumps (past address (word offset))) (cond c (Calls (past address (word offset))) (Links (past address (word offset)))) ≡ Calls target
    → IsTurn previous address 1 target (Jal rd offset)
call_by previous true c rd offset address target one e = absurd (cc)
call_by previous false true rd offset address target one e =
    subst (λ r. IsTurn previous address 1 target (Jal r offset)) (sym (eqb-true rd 1 one)) (by_jal offset cc)
call_by previous false false rd offset address target one e = absurd (cc)

call_by_pair : (previous : Option Instr) (address rd base : ℕ) (offset : ℤ) (target : ℕ) (b : Bool) (o : Option ℕ) → pair_target previous address rd base offset ≡ o
    → cond b Returns (flow_of_pair o rd) ≡ Calls target → IsTurn previous address 1 target (Jalr rd base offset)
call_by_pair previous address rd base offset target true o is e = absurd (cc)
call_by_pair previous address rd base offset target false None is e = absurd (cc)
call_by_pair previous address rd base offset target false (Some t) is e = by (rd == 0) refl e
  where
    by : (c : Bool) → (rd == 0) ≡ c → cond c (Jumps t) (Calls t) ≡ Calls target → IsTurn previous address 1 target (Jalr rd base offset)
    by true zero f = absurd (cc)
    by false some f =
        let same : t ≡ target = cc in
        let pair : IsPair previous address rd base offset target = pair_is previous address rd base offset target (is ∙ ap Some same) in
        let is_one : rd ≡ 1 = one_of rd pair.links some in
        subst (λ r. IsTurn previous address 1 target (Jalr r base offset)) (sym is_one)
        (by_pair base offset (subst (λ r. IsPair previous address r base offset target) is_one pair))
      where
        one_of : (r : ℕ) → r ≤ 1 → (r == 0) ≡ false → r ≡ 1
        one_of r low none = elim (cases_eq r 0) [
          | inl zero ↦ (let is_zero_too : (r == 0) ≡ true = eq-eqb r 0 zero in absurd (cc))
          | inr apart ↦ omega (arith, low, apart)
        ]

pub call_is : (previous : Option Instr) (i : Instr) (address target : ℕ) → flow_of previous address i ≡ Calls target → IsTurn previous address 1 target i
call_is previous (Lui rd imm) address target e = absurd (cc)
call_is previous (Auipc rd imm) address target e = absurd (cc)
call_is previous (Jal rd offset) address target e = call_by previous (rd == 0) (rd == 1) rd offset address target refl e
call_is previous (Jalr rd base offset) address target e = call_by_pair previous address rd base offset target _ (pair_target previous address rd base offset) refl e
call_is previous (Branch test left right offset) address target e = absurd (cc)
call_is previous (Load kind rd base offset) address target e = absurd (cc)
call_is previous (Store kind base source offset) address target e = absurd (cc)
call_is previous (Immediate operation rd source imm) address target e = absurd (cc)
call_is previous (Shift operation rd source amount) address target e = absurd (cc)
call_is previous (Arithmetic operation rd left right) address target e = absurd (cc)
call_is previous (Fence rd source bits) address target e = absurd (cc)
call_is previous Ecall address target e = absurd (cc)
call_is previous Ebreak address target e = absurd (cc)

-- ---- a return

jumps_no_return : (b c : Bool) (t u v : ℕ) → cond b (Jumps t) (cond c (Calls u) (Links v)) ≡ Returns → ⊥
jumps_no_return true c t u v e = absurd (cc)
jumps_no_return false true t u v e = absurd (cc)
jumps_no_return false false t u v e = absurd (cc)

pairs_no_return : (b : Bool) (t : ℕ) → cond b (Jumps t) (Calls t) ≡ Returns → ⊥
pairs_no_return true t e = absurd (cc)
pairs_no_return false t e = absurd (cc)

chosen_true : (b : Bool) (o : Option ℕ) (rd : ℕ) → cond b Returns (flow_of_pair o rd) ≡ Returns → b ≡ true
chosen_true true o rd e = refl
chosen_true false None rd e = absurd (cc)
chosen_true false (Some t) rd e = absurd (pairs_no_return (rd == 0) t e)

pub return_is : (previous : Option Instr) (i : Instr) (address : ℕ) → flow_of previous address i ≡ Returns → i ≡ Jalr 0 1 (pos 0)
return_is previous (Lui rd imm) address e = absurd (cc)
return_is previous (Auipc rd imm) address e = absurd (cc)
return_is previous (Jal rd offset) address e = absurd (jumps_no_return (rd == 0) (rd == 1) _ _ _ e)
return_is previous (Jalr rd base (pos n)) address e =
    let all : ((rd == 0) && (base == 1) && (n == 0)) ≡ true = chosen_true _ (pair_target previous address rd base (pos n)) rd e in
    let outer = and_parts ((rd == 0) && (base == 1)) (n == 0) all in
    let inner = and_parts (rd == 0) (base == 1) outer.0 in
    let r : rd ≡ 0 = eqb-true rd 0 inner.0 in
    let b : base ≡ 1 = eqb-true base 1 inner.1 in
    let z : n ≡ 0 = eqb-true n 0 outer.1 in
    rw (r, b, z) refl
return_is previous (Jalr rd base (negsuc n)) address e =
    let all : ((rd == 0) && (base == 1) && false) ≡ true = chosen_true _ (pair_target previous address rd base (negsuc n)) rd e in
    let bad : false ≡ true = (and_parts ((rd == 0) && (base == 1)) false all).1 in
    absurd (cc)
return_is previous (Branch test left right offset) address e = absurd (cc)
return_is previous (Load kind rd base offset) address e = absurd (cc)
return_is previous (Store kind base source offset) address e = absurd (cc)
return_is previous (Immediate operation rd source imm) address e = absurd (cc)
return_is previous (Shift operation rd source amount) address e = absurd (cc)
return_is previous (Arithmetic operation rd left right) address e = absurd (cc)
return_is previous (Fence rd source bits) address e = absurd (cc)
return_is previous Ecall address e = absurd (cc)
return_is previous Ebreak address e = absurd (cc)

-- a jump to what a register has, a multiple of 4, as a return is one
pub jump_does : (m : Machine) (r back : ℕ) → read_register m r ≡ back → back < 2 ^ 32 → back % 4 ≡ 0 → execute (Jalr 0 r (pos 0)) m ≡ Some (record m { pc = back })
unfolding execute write_register
jump_does m r back is below whole =
    let same : step.address m r (pos 0) / 2 * 2 ≡ back = omega (arith, is) in
    ap (λ target. step.aligned 4 target (record m { pc = target })) same ∙ (rw whole refl)
