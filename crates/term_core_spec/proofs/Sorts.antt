-- What a test of sorts says, and what a sort says of a value.
use Rattle.std.proofs.Common.{◌≡◌, ℕ, ◌^◌, ◌<◌, Bool, true, Option, Some, None, refl, sym, ap, ◌∙◌}
use Rattle.std.proofs.lemmas.Bool.{and_parts}
use Rattle.std.proofs.lemmas.Option.{cond_some}
use Rattle.term_core_spec.specs.declared.Width.{Width}
use Rattle.term_core_spec.specs.declared.Width.TheVariants.{W8, W16, W32, W64}
use Rattle.term_core_spec.specs.declared.Sort.{Sort}
use Rattle.term_core_spec.specs.declared.Sort.TheVariants as sort
use Rattle.term_core_spec.specs.declared.BinaryOperator.TheVariants as binary
use Rattle.term_core_spec.specs.Term.{Term, load}
use Rattle.term_core_spec.specs.Sort.{bits, same_width, same_sort, is_word, is_memory, is_address, sort_if, with_one, with_two, with_three, with_four, sort_of, sort_of_binary}
use Rattle.term_core_spec.specs.Value.{Value, Truth, Number, Bytes, IsOfSort}

-- ---- tests

pub same_width-true : (v w : Width) → same_width v w ≡ true → v ≡ w
same_width-true W8 W8 e = refl
same_width-true W16 W16 e = refl
same_width-true W32 W32 e = refl
same_width-true W64 W64 e = refl
same_width-true v w e = absurd (cc)

pub same_width-same : (w : Width) → same_width w w ≡ true
same_width-same W8 = refl
same_width-same W16 = refl
same_width-same W32 = refl
same_width-same W64 = refl

pub same_sort-true : (s t : Sort) → same_sort s t ≡ true → s ≡ t
same_sort-true sort.Truth sort.Truth e = refl
same_sort-true (sort.Word v) (sort.Word w) e = ap sort.Word (same_width-true v w e)
same_sort-true sort.Memory sort.Memory e = refl
same_sort-true s t e = absurd (cc)

pub same_sort-same : (s : Sort) → same_sort s s ≡ true
same_sort-same sort.Truth = refl
same_sort-same (sort.Word w) = same_width-same w
same_sort-same sort.Memory = refl

-- a sort that is a word's is one of some width
pub word_width : (s : Sort) → is_word s ≡ true → (w : Width) × (s ≡ sort.Word w)
word_width (sort.Word w) e = (w, refl)
word_width sort.Truth e = absurd (cc)
word_width sort.Memory e = absurd (cc)

-- ---- the sort of an operator, taken apart

pub sort_if-some : (test : Bool) (s t : Sort) → sort_if test s ≡ Some t → (test ≡ true) × (s ≡ t)
sort_if-some test s t e = cond_some test s t e

pub with_one-some : (f : Sort → Option Sort) (o : Option Sort) (s : Sort) → with_one f o ≡ Some s → (a : Sort) × (o ≡ Some a) × (f a ≡ Some s)
with_one-some f (Some a) s e = (a, refl, e)
with_one-some f None s e = absurd (cc)

pub with_two-some : (f : Sort → Sort → Option Sort) (o p : Option Sort) (s : Sort) → with_two f o p ≡ Some s
    → (a : Sort) × (b : Sort) × (o ≡ Some a) × (p ≡ Some b) × (f a b ≡ Some s)
with_two-some f (Some a) (Some b) s e = (a, b, refl, refl, e)
with_two-some f (Some a) None s e = absurd (cc)
with_two-some f None p s e = absurd (cc)

pub with_three-some : (f : Sort → Sort → Sort → Option Sort) (o p q : Option Sort) (s : Sort) → with_three f o p q ≡ Some s
    → (a : Sort) × (b : Sort) × (c : Sort) × (o ≡ Some a) × (p ≡ Some b) × (q ≡ Some c) × (f a b c ≡ Some s)
with_three-some f (Some a) (Some b) (Some c) s e = (a, b, c, refl, refl, refl, e)
with_three-some f (Some a) (Some b) None s e = absurd (cc)
with_three-some f (Some a) None q s e = absurd (cc)
with_three-some f None p q s e = absurd (cc)

pub with_four-some : (f : Sort → Sort → Sort → Sort → Option Sort) (o p q r : Option Sort) (s : Sort) → with_four f o p q r ≡ Some s
    → (a : Sort) × (b : Sort) × (c : Sort) × (d : Sort) × (o ≡ Some a) × (p ≡ Some b) × (q ≡ Some c) × (r ≡ Some d) × (f a b c d ≡ Some s)
with_four-some f (Some a) (Some b) (Some c) (Some d) s e = (a, b, c, d, refl, refl, refl, refl, e)
with_four-some f (Some a) (Some b) (Some c) None s e = absurd (cc)
with_four-some f (Some a) (Some b) None r s e = absurd (cc)
with_four-some f (Some a) None q r s e = absurd (cc)
with_four-some f None p q r s e = absurd (cc)

pub load_is : (m d : Term) (s : Sort) → sort_of (load m d) ≡ Some s → (s ≡ sort.Word W8) × (sort_of m ≡ Some sort.Memory) × (sort_of d ≡ Some (sort.Word W32))
unfolding sort_of sort_of_binary
load_is m d s h =
    let parts = with_two-some (sort_of_binary binary.Load) (sort_of m) (sort_of d) s h in
    let tests = sort_if-some _ (sort.Word W8) s parts.4 in
    let both = and_parts (is_memory parts.0) (is_address parts.1) tests.0 in
    (sym tests.1, parts.2 ∙ ap Some (same_sort-true parts.0 sort.Memory both.0), parts.3 ∙ ap Some (same_sort-true parts.1 (sort.Word W32) both.1))

-- ---- what a value of a sort is

pub as_truth : (x : Value) → IsOfSort sort.Truth x → (a : Bool) × (x ≡ Truth a)
as_truth (Truth a) h = (a, refl)
as_truth (Number w a) h = absurd h
as_truth (Bytes m) h = absurd h

pub as_word : (w : Width) (x : Value) → IsOfSort (sort.Word w) x → (a : ℕ) × (x ≡ Number w a) × (a < 2 ^ bits w)
as_word w (Number v a) h = (a, ap (λ u. Number u a) h.0, h.1)
as_word w (Truth a) h = absurd h
as_word w (Bytes m) h = absurd h

pub as_memory : (x : Value) → IsOfSort sort.Memory x → (m : ℕ → ℕ) × (x ≡ Bytes m) × ((address : ℕ) → m address < 2 ^ 8)
as_memory (Bytes m) h = (m, refl, h)
as_memory (Truth a) h = absurd h
as_memory (Number w a) h = absurd h
