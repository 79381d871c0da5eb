-- Entries that are sorted.
use Rattle.std.proofs.Common.{◌≡◌, ◌⊎◌, ◌∙◌, ℕ, List, sym, subst, inl, inr, true≢false}
use Rattle.std.specs.Prelude.{Bool, true, false, nat_eq, Contains, IsSorted, IsPermutation}
use Rattle.std.specs.Ordering.{nat_cmp}
use Rattle.std.specs.List.{IsDistinct}
use Rattle.std.specs.List.Sorted.{IsStrictlyIncreasing}
use Rattle.std.proofs.lemmas.List.Sorted.{IsNonDecreasingBy-from_sort, IsPermutation-sym, Contains-permutation}
use Rattle.std.proofs.lemmas.Map.Keys.{IsStrictlyIncreasing-from_distinct}
use Rattle.elf_read_spec.specs.Image.{Image}
use Rattle.c_types_spec.specs.Core.{Typed}
use Rattle.graph_core_spec.specs.Graph.{Graph}
use Rattle.pair_setup.specs.Sizes.{AnyLargeCode, AnyLargeSource}
use Rattle.pair_setup.specs.Graphs.{AreKept, AreSmallIf}
use Rattle.pair_setup.specs.Answers.{AreSmall}

pub increasing : (items : List ℕ) → IsSorted nat_cmp items → IsDistinct nat_eq items → IsStrictlyIncreasing items
increasing items sorted distinct = IsStrictlyIncreasing-from_distinct items (IsNonDecreasingBy-from_sort (λ x. x) items sorted) distinct

module _ (image : Image) (unit : Typed) (names : List (List ℕ)) (numbers old new slice : List ℕ) (moved : IsPermutation old new) (same : slice ≡ new) where
  code-back : AnyLargeCode image slice → AnyLargeCode image old
  code-back any = record {
    entry = any.entry;
    among = Contains-permutation new old any.entry (IsPermutation-sym old new moved) (subst (λ l. Contains l any.entry) same any.among);
    large = any.large;
  }

  code-there : AnyLargeCode image old → AnyLargeCode image slice
  code-there any = record { entry = any.entry; among = subst (λ l. Contains l any.entry) (sym same) (Contains-permutation old new any.entry moved any.among); large = any.large }

  pub large-back : (graphs : List Graph) (firsts : List (List (ℕ × ℕ))) (small : Bool) → small ≡ false → AreSmallIf image unit names numbers slice graphs firsts small
      → AnyLargeCode image old ⊎ AnyLargeSource unit names numbers
  large-back graphs firsts true not is = absurd (true≢false not)
  large-back graphs firsts false not (inl code) = inl (code-back code)
  large-back graphs firsts false not (inr source) = inr source

  pub small-moved : (found : List ℕ) → found ≡ new → IsStrictlyIncreasing new → (graphs : List Graph) (firsts : List (List (ℕ × ℕ))) (small : Bool) → small ≡ true
      → AreSmallIf image unit names numbers slice graphs firsts small → AreSmall image unit names numbers old found graphs firsts
  small-moved found found_is rising graphs firsts true not is = record {
    rising = subst IsStrictlyIncreasing (sym found_is) rising;
    same = λ entry. (
      λ among. Contains-permutation new old entry (IsPermutation-sym old new moved) (subst (λ l. Contains l entry) found_is among),
      λ among. subst (λ l. Contains l entry) (sym found_is) (Contains-permutation old new entry moved among),
    );
    graphs_are = subst (λ l. AreKept image l graphs firsts) (same ∙ sym found_is) is.0;
    code = λ any. is.1 (code-there any);
    source = is.2;
  }
  small-moved found found_is rising graphs firsts false not is = absurd (true≢false (sym not))
