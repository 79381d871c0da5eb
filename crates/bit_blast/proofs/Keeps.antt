-- A visit enters no term that is larger than the one visited.
use Rattle.std.proofs.Common.{◌≡◌, ℕ, ◌<◌, Bool, true, false, List, [], ◌∷◌, ◌++◌, Some, refl, ap, ◌∙◌, arith}
use Rattle.std.specs.Prelude.{if◌then◌else◌, is_some}
use Rattle.std.specs.List.{find}
use Rattle.term_core_spec.specs.declared.WordOperator.TheVariants as word
use Rattle.term_core_spec.specs.declared.BinaryOperator.{BinaryOperator}
use Rattle.term_core_spec.specs.declared.BinaryOperator.TheVariants as binary
use Rattle.term_core_spec.specs.Term.{Term, Leaf, Unary, Binary, Ternary, Quaternary, Octonary}
use Rattle.term_core_spec.specs.Same.{same_term}
use Rattle.term_core_spec.proofs.Same.{same_is}
use Rattle.bit_blast_spec.specs.Gates.{Build, last_of, give}
use Rattle.bit_blast_spec.specs.Circuits.{Bits}
use Rattle.bit_blast_spec.specs.Goal.{Table, is_there, divided, with_binary, once, visit}
use Rattle.bit_blast.specs.Steps.{arguments, finish, size}
use Rattle.bit_blast.proofs.Builds.{same_second}
use Rattle.bit_blast.proofs.Runs.{visit_then}

-- ---- a visit is that of the arguments and then the entry, unless the term is there

pub visit_is : (term : Term) (table : Table) → visit term table ≡ once term table (visit_then (arguments term) (finish term) table)
unfolding visit
visit_is (Leaf leaf) table = refl
visit_is (Unary operator a) table = refl
visit_is (Binary operator a b) table = refl
visit_is (Ternary operator a b c) table = refl
visit_is (Quaternary operator a b c d) table = refl
visit_is (Octonary a b c d e f g h) table = refl

-- ---- entries

abbrev AreOfSize : ℕ → Table → Type 0
AreOfSize n [] = Unit {0}
AreOfSize n (entry ∷ table) = (size entry.0 ≡ n) × AreOfSize n table

abbrev Adds : Term → Table → Table → Type 0
Adds term before after = (more : Table) × (after ≡ before ++ more) × AreOfSize (size term) more

binary_adds : (operator : BinaryOperator) (x y : Term) (table : Table) (last : ℕ) → Adds (Binary operator x y) table (with_binary operator x y table last).out
unfolding divided
binary_adds binary.And x y table last = (_, refl, (refl, tt))
binary_adds binary.Or x y table last = (_, refl, (refl, tt))
binary_adds binary.Equal x y table last = (_, refl, (refl, tt))
binary_adds binary.Less x y table last = (_, refl, (refl, tt))
binary_adds binary.Load x y table last = (_, refl, (refl, tt))
binary_adds binary.Join x y table last = (_, refl, (refl, tt))
binary_adds (binary.Word word.Divide) x y table last = (_, refl, (refl, (refl, tt)))
binary_adds (binary.Word word.Remainder) x y table last = (_, refl, (refl, (refl, tt)))
binary_adds (binary.Word word.Add) x y table last = (_, refl, (refl, tt))
binary_adds (binary.Word word.Subtract) x y table last = (_, refl, (refl, tt))
binary_adds (binary.Word word.Multiply) x y table last = (_, refl, (refl, tt))
binary_adds (binary.Word word.And) x y table last = (_, refl, (refl, tt))
binary_adds (binary.Word word.Or) x y table last = (_, refl, (refl, tt))
binary_adds (binary.Word word.Xor) x y table last = (_, refl, (refl, tt))
binary_adds (binary.Word word.ShiftLeft) x y table last = (_, refl, (refl, tt))
binary_adds (binary.Word word.ShiftRight) x y table last = (_, refl, (refl, tt))
binary_adds (binary.Word word.ShiftRightSigned) x y table last = (_, refl, (refl, tt))

finish_adds : (term : Term) (table : Table) (last : ℕ) → Adds term table (finish term table last).out
finish_adds (Leaf leaf) table last = (_, refl, (refl, tt))
finish_adds (Unary operator a) table last = (_, refl, (refl, tt))
finish_adds (Binary operator a b) table last = binary_adds operator a b table last
finish_adds (Ternary operator a b c) table last = (_, refl, (refl, tt))
finish_adds (Quaternary operator a b c d) table last = (_, refl, (refl, tt))
finish_adds (Octonary a b c d e f g h) table last = (_, refl, (refl, tt))

-- ---- a larger term

module _ (large : Term) where
  abbrev entry_test : Term × Bits → Bool
  entry_test entry = same_term large entry.0

  other_size : (term : Term) → size term < size large → same_term large term ≡ false
  other_size term small = by (same_term large term) refl
    where
      by : (b : Bool) → same_term large term ≡ b → b ≡ false
      by true e = let same : size large ≡ size term = ap size (same_is large term e) in absurd (omega arith)
      by false e = refl

  none_new : (n : ℕ) → n < size large → (more : Table) → AreOfSize n more → is_there large more ≡ false
  none_new n small [] sized = refl
  none_new n small (entry ∷ more) sized =
      let less : size entry.0 < size large = omega (arith, sized.0) in
      ap (λ b. is_some (if b then Some entry else find entry_test more)) (other_size entry.0 less) ∙ none_new n small more sized.1

  none_more : (table more : Table) → is_there large table ≡ false → is_there large more ≡ false → is_there large (table ++ more) ≡ false
  none_more [] more absent also = also
  none_more (entry ∷ table) more absent also = by (same_term large entry.0) absent (λ h. none_more table more h also)
    where
      by : (b : Bool) → is_some (if b then Some entry else find entry_test table) ≡ false → (is_there large table ≡ false → is_there large (table ++ more) ≡ false)
          → is_some (if b then Some entry else find entry_test (table ++ more)) ≡ false
      by true e later = e
      by false e later = later e

  finish_keeps : (term : Term) (table : Table) (last : ℕ) → size term < size large → is_there large table ≡ false → is_there large (finish term table last).out ≡ false
  finish_keeps term table last small absent =
      let adds = finish_adds term table last in
      ap (is_there large) adds.1 ∙ none_more table adds.0 absent (none_new (size term) small adds.0 adds.2)

  abbrev pub Keeps : Term → Type 0
  Keeps term = (table : Table) (last : ℕ) → size term < size large → is_there large table ≡ false → is_there large (visit term table last).out ≡ false

  abbrev pub AllKeep : List Term → Type 0
  AllKeep [] = Unit {0}
  AllKeep (term ∷ terms) = Keeps term × AllKeep terms

  abbrev pub AllSmaller : List Term → Type 0
  AllSmaller [] = Unit {0}
  AllSmaller (term ∷ terms) = (size term < size large) × AllSmaller terms

  then_keeps : (terms : List Term) → AllKeep terms → AllSmaller terms → (more : Table → Build Table)
      → ((t : Table) (n : ℕ) → is_there large t ≡ false → is_there large (more t n).out ≡ false)
      → (table : Table) (last : ℕ) → is_there large table ≡ false → is_there large (visit_then terms more table last).out ≡ false
  then_keeps [] keep small more kept table last absent = kept table last absent
  then_keeps (term ∷ terms) keep small more kept table last absent =
      then_keeps terms keep.1 small.1 more kept (visit term table last).out (last_of last (visit term table last).gates) (keep.0 table last small.0 absent)

  keeps_by : (term : Term) → AllKeep (arguments term) → AllSmaller (arguments term) → Keeps term
  keeps_by term keep below table last small absent =
      ap (λ (build : Build Table). is_there large (build last).out) (visit_is term table)
      ∙ by (is_there term table)
    where
      by : (b : Bool) → is_there large ((if b then give table else visit_then (arguments term) (finish term) table) last).out ≡ false
      by true = absent
      by false = then_keeps (arguments term) keep below (finish term) (λ t n h. finish_keeps term t n small h) table last absent

  -- a visit of a smaller term does not enter it
  pub keeps : (term : Term) → Keeps term
  keeps (Leaf leaf) table last small absent = keeps_by (Leaf leaf) tt tt table last small absent
  keeps (Unary operator a) table last small absent =
      keeps_by (Unary operator a) (keeps a, tt) (omega arith, tt) table last small absent
  keeps (Binary operator a b) table last small absent =
      keeps_by (Binary operator a b) (keeps a, (keeps b, tt)) (omega arith, (omega arith, tt)) table last small absent
  keeps (Ternary operator a b c) table last small absent =
      keeps_by (Ternary operator a b c) (keeps a, (keeps b, (keeps c, tt))) (omega arith, (omega arith, (omega arith, tt))) table last small absent
  keeps (Quaternary operator a b c d) table last small absent =
      keeps_by (Quaternary operator a b c d) (keeps a, (keeps b, (keeps c, (keeps d, tt)))) (omega arith, (omega arith, (omega arith, (omega arith, tt)))) table last small absent
  keeps (Octonary a b c d e f g h) table last small absent =
      keeps_by (Octonary a b c d e f g h) (keeps a, (keeps b, (keeps c, (keeps d, (keeps e, (keeps f, (keeps g, (keeps h, tt))))))))
      (omega arith, (omega arith, (omega arith, (omega arith, (omega arith, (omega arith, (omega arith, (omega arith, tt)))))))) table last small absent

  all_keep : (terms : List Term) → AllKeep terms
  all_keep [] = tt
  all_keep (term ∷ terms) = (keeps term, all_keep terms)

  -- builds that are the same where it is not there are the same after visits of smaller terms
  pub then_under : (terms : List Term) → AllSmaller terms → (more other : Table → Build Table) → ((t : Table) (n : ℕ) → is_there large t ≡ false → more t n ≡ other t n)
      → (table : Table) (last : ℕ) → is_there large table ≡ false → visit_then terms more table last ≡ visit_then terms other table last
  then_under [] small more other same table last absent = same table last absent
  then_under (term ∷ terms) small more other same table last absent =
      same_second last (visit term table) (visit_then terms more) (visit_then terms other)
      (λ t n e. then_under terms small.1 more other same t n (ap (is_there large) e ∙ keeps term table last small.0 absent))

pub arguments_smaller : (term : Term) → AllSmaller term (arguments term)
arguments_smaller (Leaf leaf) = tt
arguments_smaller (Unary operator a) = (omega arith, tt)
arguments_smaller (Binary operator a b) = (omega arith, (omega arith, tt))
arguments_smaller (Ternary operator a b c) = (omega arith, (omega arith, (omega arith, tt)))
arguments_smaller (Quaternary operator a b c d) = (omega arith, (omega arith, (omega arith, (omega arith, tt))))
arguments_smaller (Octonary a b c d e f g h) = (omega arith, (omega arith, (omega arith, (omega arith, (omega arith, (omega arith, (omega arith, (omega arith, tt))))))))
