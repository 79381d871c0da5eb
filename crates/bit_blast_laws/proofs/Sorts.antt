-- What the sorts of terms say of memories.
use Rattle.std.proofs.Common.{◌≡◌, Bool, true, false, List, ◌∷◌, Option, Some, None, refl, ap, ◌∙◌}
use Rattle.std.proofs.lemmas.Bool.{and_parts}
use Rattle.term_core_spec.specs.declared.Width.TheVariants.{W8, W32}
use Rattle.term_core_spec.specs.declared.Sort.{Sort}
use Rattle.term_core_spec.specs.declared.Sort.TheVariants as sort
use Rattle.term_core_spec.specs.declared.UnaryOperator.{UnaryOperator}
use Rattle.term_core_spec.specs.declared.UnaryOperator.TheVariants as unary
use Rattle.term_core_spec.specs.declared.BinaryOperator.{BinaryOperator}
use Rattle.term_core_spec.specs.declared.BinaryOperator.TheVariants as binary
use Rattle.term_core_spec.specs.declared.TernaryOperator.TheVariants as ternary
use Rattle.term_core_spec.specs.declared.QuaternaryOperator.TheVariants as quaternary
use Rattle.term_core_spec.specs.Term.{Term, store, over}
use Rattle.term_core_spec.specs.Sort.{is_memory, is_address, is_byte, is_word, sort_if, all_bytes, sort_of, sort_of_unary, sort_of_binary, sort_of_ternary, sort_of_quaternary}
use Rattle.term_core_spec.proofs.Sorts.{same_sort-true, sort_if-some, with_three-some, with_four-some}

pub byte_parts : (o : Option Sort) (rest : List (Option Sort)) → all_bytes (o ∷ rest) ≡ true → (o ≡ Some (sort.Word W8)) × (all_bytes rest ≡ true)
byte_parts (Some s) rest e = let parts = and_parts (is_byte s) (all_bytes rest) e in (ap Some (same_sort-true s (sort.Word W8) parts.0), parts.1)
byte_parts None rest e = absurd (cc)

pub no_memory : (test : Bool) (s : Sort) → (test ≡ true → is_memory s ≡ false) → sort_if test s ≡ Some sort.Memory → ⊥
no_memory test s f e =
    let parts = sort_if-some test s sort.Memory e in
    let other : is_memory s ≡ true = ap is_memory parts.1 in
    let own = f parts.0 in
    absurd (cc)

word_no_memory : (s : Sort) → is_word s ≡ true → is_memory s ≡ false
word_no_memory (sort.Word w) e = refl
word_no_memory sort.Truth e = refl
word_no_memory sort.Memory e = absurd (cc)

pub unary_no_memory : (operator : UnaryOperator) (s : Sort) → sort_of_unary operator s ≡ Some sort.Memory → ⊥
unfolding sort_of_unary
unary_no_memory unary.Not s e = no_memory _ _ (λ t. refl) e
unary_no_memory unary.Complement s e = no_memory _ _ (λ t. word_no_memory s t) e
unary_no_memory (unary.ZeroExtend w) s e = no_memory _ _ (λ t. refl) e
unary_no_memory (unary.SignExtend w) s e = no_memory _ _ (λ t. refl) e
unary_no_memory (unary.Low w) s e = no_memory _ _ (λ t. refl) e
unary_no_memory (unary.Byte index) s e = no_memory _ _ (λ t. refl) e

pub binary_no_memory : (operator : BinaryOperator) (s t : Sort) → sort_of_binary operator s t ≡ Some sort.Memory → ⊥
unfolding sort_of_binary
binary_no_memory binary.And s t e = no_memory _ _ (λ t. refl) e
binary_no_memory binary.Or s t e = no_memory _ _ (λ t. refl) e
binary_no_memory binary.Equal s t e = no_memory _ _ (λ t. refl) e
binary_no_memory binary.Less s t e = no_memory _ _ (λ t. refl) e
binary_no_memory (binary.Word operator) s t e = no_memory _ _ (λ k. word_no_memory s (and_parts (is_word s) _ k).0) e
binary_no_memory binary.Load s t e = no_memory _ _ (λ t. refl) e
binary_no_memory binary.Join s t e = no_memory _ _ (λ t. refl) e

pub store_is : (m a b : Term) → sort_of (store m a b) ≡ Some sort.Memory → (sort_of m ≡ Some sort.Memory) × (sort_of a ≡ Some (sort.Word W32))
unfolding sort_of sort_of_ternary
store_is m a b h =
    let parts = with_three-some (sort_of_ternary ternary.Store) (sort_of m) (sort_of a) (sort_of b) sort.Memory h in
    let tests = sort_if-some _ sort.Memory sort.Memory parts.6 in
    let r1 = and_parts (is_memory parts.0) _ tests.0 in
    let r2 = and_parts (is_address parts.1) (is_byte parts.2) r1.1 in
    (parts.3 ∙ ap Some (same_sort-true parts.0 sort.Memory r1.0), parts.4 ∙ ap Some (same_sort-true parts.1 (sort.Word W32) r2.0))

pub over_is : (m z from to : Term) → sort_of (over m z from to) ≡ Some sort.Memory
    → (sort_of m ≡ Some sort.Memory) × (sort_of z ≡ Some sort.Memory) × (sort_of from ≡ Some (sort.Word W32)) × (sort_of to ≡ Some (sort.Word W32))
unfolding sort_of sort_of_quaternary
over_is m z from to h =
    let parts = with_four-some (sort_of_quaternary quaternary.Over) (sort_of m) (sort_of z) (sort_of from) (sort_of to) sort.Memory h in
    let tests = sort_if-some _ sort.Memory sort.Memory parts.8 in
    let r1 = and_parts (is_memory parts.0) _ tests.0 in
    let r2 = and_parts (is_memory parts.1) _ r1.1 in
    let r3 = and_parts (is_address parts.2) (is_address parts.3) r2.1 in (
      parts.4 ∙ ap Some (same_sort-true parts.0 sort.Memory r1.0),
      parts.5 ∙ ap Some (same_sort-true parts.1 sort.Memory r2.0),
      parts.6 ∙ ap Some (same_sort-true parts.2 (sort.Word W32) r3.0),
      parts.7 ∙ ap Some (same_sort-true parts.3 (sort.Word W32) r3.1),
    )
