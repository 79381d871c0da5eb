-- What tests of sorts say.
use Rattle.std.proofs.Common.{◌≡◌, true, Option, Some, None, refl, sym, ap, ◌∙◌}
use Rattle.term_core_spec.specs.declared.Sort.{Sort}
use Rattle.term_core_spec.specs.declared.Sort.TheVariants as sort
use Rattle.term_core_spec.specs.Term.{Term, equal}
use Rattle.term_core_spec.specs.Sort.{sort_of}
use Rattle.term_core_spec.proofs.Sorts.{same_sort-true}
use Rattle.term_norm_spec.proofs.Equals.{Alike, truths, words, alike_of}
use Rattle.word_steps_spec.specs.Numbers.{has_sort, is_bool, are_alike}

pub bool_sort : (t : Term) → is_bool t ≡ true → sort_of t ≡ Some sort.Truth
bool_sort t h = by (sort_of t) refl h
  where
    by : (o : Option Sort) → sort_of t ≡ o → has_sort o sort.Truth ≡ true → sort_of t ≡ Some sort.Truth
    by (Some s) e g = e ∙ ap Some (same_sort-true s sort.Truth g)
    by None e g = absurd (cc)

pub sort_bool : (t : Term) → sort_of t ≡ Some sort.Truth → is_bool t ≡ true
sort_bool t e = rw e refl

-- the sort that two terms share
pub alike_sort : (x y : Term) → are_alike x y ≡ true → sort_of x ≡ sort_of y
alike_sort x y h = by ((alike_of x y sort.Truth (bool_sort (equal x y) h)).1)
  where
    by : Alike x y → sort_of x ≡ sort_of y
    by (truths first second) = first ∙ sym second
    by (words w first second) = first ∙ sym second
