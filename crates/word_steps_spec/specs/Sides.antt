-- Words of one width, and the sides of an `eq` of words.
use Rattle.std.specs.Prelude.{◌&&◌, Bool, if◌then◌else◌, Option, Some, None}
use Rattle.term_core_spec.specs.declared.Sort.TheVariants as sort
use Rattle.term_core_spec.specs.declared.BinaryOperator.TheVariants as binary
use Rattle.term_core_spec.specs.Term.{Term, Binary}
use Rattle.term_core_spec.specs.Sort.{sort_of}
use Rattle.term_norm_spec.specs.Patterns.{width_of}
use Rattle.word_steps_spec.specs.Numbers.{has_sort, are_alike}

-- two words of one width
abbrev pub are_words : Term → Term → Bool
are_words x y = has_sort (sort_of x) (sort.Word (width_of x)) && are_alike x y

pub record Sides : Type 0 where
  pub left : Term
  pub right : Term

-- the sides of an `eq` of words
unfoldable pub sides_of : Term → Option Sides
sides_of (Binary binary.Equal x y) = if are_words x y then Some (record { left = x; right = y }) else None
sides_of t = None
