-- The branches of a run-up that bound a register.
use Rattle.std.proofs.Common.{◌≡◌, ◌∙◌, ◌⊎◌, inl, inr, ℕ, zero, suc, ◌+◌, ◌*◌, ◌<◌, refl, sym, ap, subst, arith, length, get_or, List, [], ◌∷◌, Option, Some, None, ℤ}
use Rattle.std.specs.Prelude.{Contains}
use Rattle.std.proofs.lemmas.Option.{same_Some}
use Rattle.rv_instr.specs.declared.Instr.{Instr}
use Rattle.rv_instr.specs.declared.Instr.TheVariants.{Lui, Auipc, Jal, Jalr, Branch, Load, Store, Immediate, Shift, Arithmetic, Fence, Ecall, Ebreak}
use Rattle.rv_instr.specs.declared.BranchTest.{BranchTest}
use Rattle.rv_instr.specs.declared.BranchTest.TheVariants as branch
use Rattle.code_reach_spec.specs.RunUp.{Symbolic, Constant, Initial, Unknown, Sum, Difference, Shifted, Masked, Registers, Bound, bound_at, at_most, less_than, bound_of, with_bound, Followed, follow, followed, before_all}
use Rattle.decompile_spec.specs.InstructionTerms.{operand}
use Rattle.decompile_spec.specs.Blocks.{bounded_by}
use Rattle.decompile_laws.proofs.Fields.{AreFields}

-- what a branch bounds is what one of its registers has
pub record IsBoundOf (x : Registers) (address : ℕ) (i : Instr) (bound : Bound) : Type 0 where
  pub branch_is : bound.branch ≡ address
  pub register : ℕ
  pub below : AreFields i → register < 32
  pub index_is : bound.index ≡ x register
  pub term_is : bounded_by i ≡ operand register

module _ (x : Registers) (address : ℕ) (bound : Bound) where
  by_most : (test : BranchTest) (left right : ℕ) (offset : ℤ) → test ≡ branch.LessUnsigned → (c : Symbolic) → at_most address c (x right) ≡ Some bound
      → IsBoundOf x address (Branch test left right offset) bound
  by_most test left right offset is (Constant c) e =
      let same = same_Some (bound_at address (c + 1) (x right)) bound e in
      record {
        branch_is = ap (λ (b : Bound). b.branch) (sym same);
        register = right;
        below = λ fields. fields.1;
        index_is = ap (λ (b : Bound). b.index) (sym same);
        term_is = ap (λ (t : BranchTest). bounded_by (Branch t left right offset)) is;
      }
  by_most test left right offset is (Initial r) e = absurd (cc)
  by_most test left right offset is (Unknown p) e = absurd (cc)
  by_most test left right offset is (Sum a b) e = absurd (cc)
  by_most test left right offset is (Difference a b) e = absurd (cc)
  by_most test left right offset is (Shifted a k) e = absurd (cc)
  by_most test left right offset is (Masked a k) e = absurd (cc)

  by_less : (test : BranchTest) (left right : ℕ) (offset : ℤ) → test ≡ branch.GreaterOrEqualUnsigned → (c : Symbolic) → less_than address (x left) c ≡ Some bound
      → IsBoundOf x address (Branch test left right offset) bound
  by_less test left right offset is (Constant c) e =
      let same = same_Some (bound_at address c (x left)) bound e in
      record {
        branch_is = ap (λ (b : Bound). b.branch) (sym same);
        register = left;
        below = λ fields. fields.0;
        index_is = ap (λ (b : Bound). b.index) (sym same);
        term_is = ap (λ (t : BranchTest). bounded_by (Branch t left right offset)) is;
      }
  by_less test left right offset is (Initial r) e = absurd (cc)
  by_less test left right offset is (Unknown p) e = absurd (cc)
  by_less test left right offset is (Sum a b) e = absurd (cc)
  by_less test left right offset is (Difference a b) e = absurd (cc)
  by_less test left right offset is (Shifted a k) e = absurd (cc)
  by_less test left right offset is (Masked a k) e = absurd (cc)

  pub bound_is : (i : Instr) → bound_of x address i ≡ Some bound → IsBoundOf x address i bound
  unfolding bound_of
  bound_is (Branch branch.LessUnsigned left right offset) e = by_most branch.LessUnsigned left right offset refl (x left) e
  bound_is (Branch branch.GreaterOrEqualUnsigned left right offset) e = by_less branch.GreaterOrEqualUnsigned left right offset refl (x right) e
  bound_is (Branch branch.Equal left right offset) e = absurd (cc)
  bound_is (Branch branch.NotEqual left right offset) e = absurd (cc)
  bound_is (Branch branch.Less left right offset) e = absurd (cc)
  bound_is (Branch branch.GreaterOrEqual left right offset) e = absurd (cc)
  bound_is (Lui rd imm) e = absurd (cc)
  bound_is (Auipc rd imm) e = absurd (cc)
  bound_is (Jal rd offset) e = absurd (cc)
  bound_is (Jalr rd base offset) e = absurd (cc)
  bound_is (Load kind rd base offset) e = absurd (cc)
  bound_is (Store kind base source offset) e = absurd (cc)
  bound_is (Immediate operation rd source imm) e = absurd (cc)
  bound_is (Shift operation rd source amount) e = absurd (cc)
  bound_is (Arithmetic operation rd left right) e = absurd (cc)
  bound_is (Fence rd source bits) e = absurd (cc)
  bound_is Ecall e = absurd (cc)
  bound_is Ebreak e = absurd (cc)

-- the branch of a bound is one of so many words
pub record IsAmongWords (start count : ℕ) (bound : Bound) : Type 0 where
  pub place : ℕ
  pub below : place < count
  pub branch_is : bound.branch ≡ start + 4 * place

-- the bounds past an instruction are those before it and its own
pub new_or_old : (o : Option Bound) (bounds : List Bound) (bound : Bound) → Contains (with_bound o bounds) bound → (o ≡ Some bound) ⊎ Contains bounds bound
new_or_old None bounds bound among = inr among
new_or_old (Some b) bounds bound (zero, below, e) = inl (ap Some e)
new_or_old (Some b) bounds bound (suc k, below, e) = inr (k, omega (arith, below), e)

bounds_among : (r start : ℕ) (words : List Instr) (f : Followed) (bound : Bound) → Contains (followed r start words f).bounds bound
    → Contains f.bounds bound ⊎ IsAmongWords start (length words) bound
unfolding follow
bounds_among r start [] f bound among = inl among
bounds_among r start (i ∷ rest) f bound among = elim (bounds_among r (start + 4) rest (follow r start i f) bound among) [
  | inl here ↦ elim (new_or_old (bound_of f.registers start i) f.bounds bound here) [
    | inl new ↦ inr (record { place = 0; below = omega arith; branch_is = omega (arith, (bound_is f.registers start bound i new).branch_is) })
    | inr old ↦ inl old
  ]
  | inr later ↦ inr (record { place = suc later.place; below = omega (arith, later.below); branch_is = omega (arith, later.branch_is) })
]

-- each bound of a run-up is by a branch that lies in it
pub bounds_lie : (r start : ℕ) (words : List Instr) (bound : Bound) → Contains (followed r start words before_all).bounds bound → IsAmongWords start (length words) bound
bounds_lie r start words bound among = elim (bounds_among r start words before_all bound among) [
  | inl before ↦ absurd (none before)
  | inr there ↦ there
]
  where
    none : Contains [] bound → ⊥
    none (k, below, e) = absurd (omega (arith, below))
