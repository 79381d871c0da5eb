-- Terms in which memory occurs in loads alone.
use Rattle.std.proofs.Common.{◌≡◌, ◌≢◌, Bool, true, false, List, [], ◌∷◌, Option, Some, None, refl, ap, sym, ◌∙◌, subst}
use Rattle.std.specs.Prelude.{◌&&◌}
use Rattle.std.proofs.lemmas.Bool.{and_parts}
use Rattle.term_core_spec.specs.declared.Width.TheVariants.{W8, W16, W32, W64}
use Rattle.term_core_spec.specs.declared.Sort.{Sort}
use Rattle.term_core_spec.specs.declared.Sort.TheVariants as sort
use Rattle.term_core_spec.specs.declared.Atom.{Atom}
use Rattle.term_core_spec.specs.declared.Atom.TheVariants as atom
use Rattle.term_core_spec.specs.declared.UnaryOperator.{UnaryOperator}
use Rattle.term_core_spec.specs.declared.UnaryOperator.TheVariants as unary
use Rattle.term_core_spec.specs.declared.BinaryOperator.{BinaryOperator}
use Rattle.term_core_spec.specs.declared.BinaryOperator.TheVariants as binary
use Rattle.term_core_spec.specs.declared.TernaryOperator.{TernaryOperator}
use Rattle.term_core_spec.specs.declared.TernaryOperator.TheVariants as ternary
use Rattle.term_core_spec.specs.declared.QuaternaryOperator.{QuaternaryOperator}
use Rattle.term_core_spec.specs.declared.QuaternaryOperator.TheVariants as quaternary
use Rattle.term_core_spec.specs.Term.{Term, Leaf, Unary, Binary, Ternary, Quaternary, Octonary}
use Rattle.term_core_spec.specs.Sort.{is_memory, is_byte, is_truth, is_word, same_sort, sort_if, all_bytes, sort_of, sort_of_atom, sort_of_unary, sort_of_binary, sort_of_ternary, sort_of_quaternary}
use Rattle.term_core_spec.proofs.Sorts.{same_sort-true, sort_if-some, with_one-some, with_two-some, with_three-some, with_four-some, load_is}
use Rattle.mem_terms_spec.specs.Flat.{VariableLoad, load_of}
use Rattle.mem_terms_spec.specs.Assignments.{IfOfVariable, IsNoMemory, LoadsFromVariables}

-- ---- the predicate

-- a load of a memory at an address
pub record IsLoad (l : VariableLoad) : Type 0 where
  pub from : l.memory.sort ≡ sort.Memory
  pub at : sort_of l.address ≡ Some (sort.Word W32)

-- of an operator with two arguments, of which something is known
abbrev pub Reads : BinaryOperator → Option VariableLoad → Type 0 → Type 0 → Type 0
Reads operator (Some l) A B = IsLoad l
Reads operator None A B = (operator ≢ binary.Load) × A

-- memory variables occur in loads alone, and no other loads occur
unfoldable pub IsReadable : Term → Type 0
IsReadable (Leaf leaf) = IsNoMemory leaf
IsReadable (Unary operator a) = IsReadable a
IsReadable (Binary operator a b) = Reads operator (load_of operator a b) (IsReadable a) (IsReadable b) × IsReadable b
IsReadable (Ternary operator a b c) = IsReadable a × IsReadable b × IsReadable c
IsReadable (Quaternary operator a b c d) = IsReadable a × IsReadable b × IsReadable c × IsReadable d
IsReadable (Octonary a b c d e f g h) =
    IsReadable a × IsReadable b × IsReadable c × IsReadable d × IsReadable e × IsReadable f × IsReadable g × IsReadable h

-- ---- the arguments of what is no memory are none, but for the memory of a load

unary_argument : (operator : UnaryOperator) (s : Sort) → sort_of_unary operator sort.Memory ≡ Some s → ⊥
unfolding sort_of_unary
unary_argument unary.Not s e = cc
unary_argument unary.Complement s e = cc
unary_argument (unary.ZeroExtend w) s e = cc
unary_argument (unary.SignExtend w) s e = cc
unary_argument (unary.Low w) s e = cc
unary_argument (unary.Byte place) s e = cc

binary_first : (operator : BinaryOperator) (t s : Sort) → operator ≢ binary.Load → sort_of_binary operator sort.Memory t ≡ Some s → ⊥
unfolding sort_of_binary
binary_first binary.And t s n e = cc
binary_first binary.Or t s n e = cc
binary_first binary.Equal t s n e = cc
binary_first binary.Less t s n e = cc
binary_first (binary.Word operator) t s n e = cc
binary_first binary.Load t s n e = n refl
binary_first binary.Join t s n e = cc

no_some : (test : Bool) (s t : Sort) → test ≡ false → sort_if test s ≡ Some t → ⊥
no_some true s t f e = cc
no_some false s t f e = cc

and_false : (a : Bool) → (a && false) ≡ false
and_false true = refl
and_false false = refl

word_and : (s : Sort) → (is_word s && same_sort s sort.Memory) ≡ false
word_and sort.Truth = refl
word_and (sort.Word w) = refl
word_and sort.Memory = refl

binary_second : (operator : BinaryOperator) (r s : Sort) → sort_of_binary operator r sort.Memory ≡ Some s → ⊥
unfolding sort_of_binary
binary_second binary.And r s e = no_some _ sort.Truth s (and_false (is_truth r)) e
binary_second binary.Or r s e = no_some _ sort.Truth s (and_false (is_truth r)) e
binary_second binary.Equal sort.Truth s e = cc
binary_second binary.Equal (sort.Word w) s e = cc
binary_second binary.Equal sort.Memory s e = cc
binary_second binary.Less r s e = no_some _ sort.Truth s (word_and r) e
binary_second (binary.Word operator) r s e = no_some _ r s (word_and r) e
binary_second binary.Load r s e = no_some _ (sort.Word W8) s (and_false (is_memory r)) e
binary_second binary.Join r s e = no_some _ (sort.Word W16) s (and_false (is_byte r)) e

ternary_arguments : (operator : TernaryOperator) (p q r s : Sort) → s ≢ sort.Memory → sort_of_ternary operator p q r ≡ Some s
    → (p ≢ sort.Memory) × (q ≢ sort.Memory) × (r ≢ sort.Memory)
unfolding sort_of_ternary
ternary_arguments ternary.Choose p q r s n e =
    let tests = sort_if-some _ q s e in
    let parts = and_parts (is_truth p) (same_sort q r) tests.0 in
    let first : p ≡ sort.Truth = same_sort-true p sort.Truth parts.0 in
    let both : q ≡ r = same_sort-true q r parts.1 in
    ((λ k. cc), (λ k. n (sym tests.1 ∙ k)), (λ k. n (sym tests.1 ∙ both ∙ k)))
ternary_arguments ternary.Store p q r s n e =
    let tests = sort_if-some _ sort.Memory s e in
    absurd (n (sym tests.1))

quaternary_arguments : (operator : QuaternaryOperator) (p q r t s : Sort) → s ≢ sort.Memory → sort_of_quaternary operator p q r t ≡ Some s
    → (p ≢ sort.Memory) × (q ≢ sort.Memory) × (r ≢ sort.Memory) × (t ≢ sort.Memory)
unfolding sort_of_quaternary
quaternary_arguments quaternary.Over p q r t s n e =
    let tests = sort_if-some _ sort.Memory s e in
    absurd (n (sym tests.1))
quaternary_arguments quaternary.Join p q r t s n e =
    let tests = sort_if-some _ (sort.Word W32) s e in
    let r1 = and_parts (is_byte p) _ tests.0 in
    let r2 = and_parts (is_byte q) _ r1.1 in
    let r3 = and_parts (is_byte r) (is_byte t) r2.1 in
    let e1 : p ≡ sort.Word W8 = same_sort-true p (sort.Word W8) r1.0 in
    let e2 : q ≡ sort.Word W8 = same_sort-true q (sort.Word W8) r2.0 in
    let e3 : r ≡ sort.Word W8 = same_sort-true r (sort.Word W8) r3.0 in
    let e4 : t ≡ sort.Word W8 = same_sort-true t (sort.Word W8) r3.1 in
    ((λ k. cc), (λ k. cc), (λ k. cc), (λ k. cc))

pub byte_parts : (o : Option Sort) (rest : List (Option Sort)) → all_bytes (o ∷ rest) ≡ true → (o ≡ Some (sort.Word W8)) × (all_bytes rest ≡ true)
byte_parts (Some s) rest e = let parts = and_parts (is_byte s) (all_bytes rest) e in (ap Some (same_sort-true s (sort.Word W8) parts.0), parts.1)
byte_parts None rest e = absurd (cc)

byte_no_memory : sort.Word W8 ≢ sort.Memory
byte_no_memory e = cc

-- ---- what no load of a variable is, and what is one

is_no_load : (operator : BinaryOperator) (a b : Term) → IfOfVariable operator a → load_of operator a b ≡ None → operator ≢ binary.Load
is_no_load binary.Load (Leaf (atom.Open v)) b h e k = cc
is_no_load binary.Load (Leaf (atom.Truth value)) b h e k = h
is_no_load binary.Load (Leaf (atom.Constant width number)) b h e k = h
is_no_load binary.Load (Unary o a) b h e k = h
is_no_load binary.Load (Binary o a c) b h e k = h
is_no_load binary.Load (Ternary o a c d) b h e k = h
is_no_load binary.Load (Quaternary o a c d f) b h e k = h
is_no_load binary.Load (Octonary a c d f g i j l) b h e k = h
is_no_load binary.And a b h e k = cc
is_no_load binary.Or a b h e k = cc
is_no_load binary.Equal a b h e k = cc
is_no_load binary.Less a b h e k = cc
is_no_load (binary.Word operator) a b h e k = cc
is_no_load binary.Join a b h e k = cc

-- the operator and its arguments are those of a load
pub record IsTheLoad (operator : BinaryOperator) (a b : Term) (l : VariableLoad) : Type 0 where
  pub operator_is : operator ≡ binary.Load
  pub memory_is : a ≡ Leaf (atom.Open l.memory)
  pub address_is : b ≡ l.address

pub is_the_load : (operator : BinaryOperator) (a b : Term) (l : VariableLoad) → load_of operator a b ≡ Some l → IsTheLoad operator a b l
is_the_load binary.Load (Leaf (atom.Open v)) b l e =
    let is : (let k : VariableLoad = record { memory = v; address = b } in k) ≡ l = cc in
    record { operator_is = refl; memory_is = ap (λ k. Leaf (atom.Open k.memory)) is; address_is = ap (λ k. k.address) is }
is_the_load binary.Load (Leaf (atom.Truth value)) b l e = absurd (cc)
is_the_load binary.Load (Leaf (atom.Constant width number)) b l e = absurd (cc)
is_the_load binary.Load (Unary o a) b l e = absurd (cc)
is_the_load binary.Load (Binary o a c) b l e = absurd (cc)
is_the_load binary.Load (Ternary o a c d) b l e = absurd (cc)
is_the_load binary.Load (Quaternary o a c d f) b l e = absurd (cc)
is_the_load binary.Load (Octonary a c d f g i j k) b l e = absurd (cc)
is_the_load binary.And a b l e = absurd (cc)
is_the_load binary.Or a b l e = absurd (cc)
is_the_load binary.Equal a b l e = absurd (cc)
is_the_load binary.Less a b l e = absurd (cc)
is_the_load (binary.Word operator) a b l e = absurd (cc)
is_the_load binary.Join a b l e = absurd (cc)

-- ---- well-sorted terms that are no memory

leaf_readable : (leaf : Atom) (s : Sort) → sort_of_atom leaf ≡ Some s → s ≢ sort.Memory → IsNoMemory leaf
unfolding sort_of_atom
leaf_readable (atom.Truth value) s h n = tt
leaf_readable (atom.Constant width number) s h n = tt
leaf_readable (atom.Open v) s h n = λ k. let e : v.sort ≡ s = cc in n (sym e ∙ k)

load_parts : (operator : BinaryOperator) (a b : Term) (l : VariableLoad) (s : Sort) → IsTheLoad operator a b l → sort_of (Binary operator a b) ≡ Some s → IsLoad l
unfolding sort_of sort_of_atom
load_parts operator a b l s is h =
    let e : Binary operator a b ≡ Binary binary.Load (Leaf (atom.Open l.memory)) l.address = (let e1 = is.operator_is in let e2 = is.memory_is in let e3 = is.address_is in cc) in
    let parts = load_is (Leaf (atom.Open l.memory)) l.address s (ap sort_of (sym e) ∙ h) in
    let from : l.memory.sort ≡ sort.Memory = (let k = parts.1 in cc) in
    record { from = from; at = parts.2 }

no_memory_by : (P : Sort → Type 0) (s : Sort) → (P sort.Memory → ⊥) → P s → s ≢ sort.Memory
no_memory_by P s f h e = f (subst P e h)

pub readable : (t : Term) (s : Sort) → sort_of t ≡ Some s → s ≢ sort.Memory → LoadsFromVariables t → IsReadable t
unfolding IsReadable LoadsFromVariables sort_of
readable (Leaf leaf) s h n all = leaf_readable leaf s h n
readable (Unary operator a) s h n all =
    let parts = with_one-some (sort_of_unary operator) (sort_of a) s h in
    readable a parts.0 parts.1 (no_memory_by (λ p. sort_of_unary operator p ≡ Some s) parts.0 (unary_argument operator s) parts.2) all
readable (Binary operator a b) s h n all =
    let parts = with_two-some (sort_of_binary operator) (sort_of a) (sort_of b) s h in
    let first : operator ≢ binary.Load → IsReadable a =
    λ other. readable a parts.0 parts.2 (no_memory_by (λ p. sort_of_binary operator p parts.1 ≡ Some s) parts.0 (binary_first operator parts.1 s other) parts.4) all.1 in
    let second = readable b parts.1 parts.3 (no_memory_by (λ p. sort_of_binary operator parts.0 p ≡ Some s) parts.1 (binary_second operator parts.0 s) parts.4) all.2 in
    (reads (load_of operator a b) refl first, second)
  where
    reads : (o : Option VariableLoad) → load_of operator a b ≡ o → (operator ≢ binary.Load → IsReadable a) → Reads operator o (IsReadable a) (IsReadable b)
    reads (Some l) e first = load_parts operator a b l s (is_the_load operator a b l e) h
    reads None e first = let other = is_no_load operator a b all.0 e in (other, first other)
readable (Ternary operator a b c) s h n all =
    let parts = with_three-some (sort_of_ternary operator) (sort_of a) (sort_of b) (sort_of c) s h in
    let each = ternary_arguments operator parts.0 parts.1 parts.2 s n parts.6 in
    (readable a parts.0 parts.3 each.0 all.0, readable b parts.1 parts.4 each.1 all.1, readable c parts.2 parts.5 each.2 all.2)
readable (Quaternary operator a b c d) s h n all =
    let parts = with_four-some (sort_of_quaternary operator) (sort_of a) (sort_of b) (sort_of c) (sort_of d) s h in
    let each = quaternary_arguments operator parts.0 parts.1 parts.2 parts.3 s n parts.8 in (
      readable a parts.0 parts.4 each.0 all.0,
      readable b parts.1 parts.5 each.1 all.1,
      readable c parts.2 parts.6 each.2 all.2,
      readable d parts.3 parts.7 each.3 all.3,
    )
readable (Octonary a b c d i j k l) s h n all =
    let tests = sort_if-some (all_bytes (sort_of a ∷ sort_of b ∷ sort_of c ∷ sort_of d ∷ sort_of i ∷ sort_of j ∷ sort_of k ∷ sort_of l ∷ [])) (sort.Word W64) s h in
    let pa = byte_parts (sort_of a) (sort_of b ∷ sort_of c ∷ sort_of d ∷ sort_of i ∷ sort_of j ∷ sort_of k ∷ sort_of l ∷ []) tests.0 in
    let pb = byte_parts (sort_of b) (sort_of c ∷ sort_of d ∷ sort_of i ∷ sort_of j ∷ sort_of k ∷ sort_of l ∷ []) pa.1 in
    let pc = byte_parts (sort_of c) (sort_of d ∷ sort_of i ∷ sort_of j ∷ sort_of k ∷ sort_of l ∷ []) pb.1 in
    let pd = byte_parts (sort_of d) (sort_of i ∷ sort_of j ∷ sort_of k ∷ sort_of l ∷ []) pc.1 in
    let pi = byte_parts (sort_of i) (sort_of j ∷ sort_of k ∷ sort_of l ∷ []) pd.1 in
    let pj = byte_parts (sort_of j) (sort_of k ∷ sort_of l ∷ []) pi.1 in
    let pk = byte_parts (sort_of k) (sort_of l ∷ []) pj.1 in
    let pl = byte_parts (sort_of l) [] pk.1 in (
      readable a (sort.Word W8) pa.0 byte_no_memory all.0,
      readable b (sort.Word W8) pb.0 byte_no_memory all.1,
      readable c (sort.Word W8) pc.0 byte_no_memory all.2,
      readable d (sort.Word W8) pd.0 byte_no_memory all.3,
      readable i (sort.Word W8) pi.0 byte_no_memory all.4,
      readable j (sort.Word W8) pj.0 byte_no_memory all.5,
      readable k (sort.Word W8) pk.0 byte_no_memory all.6,
      readable l (sort.Word W8) pl.0 byte_no_memory all.7,
    )
