-- Arrays of a type, one more at a time.
use Rattle.std.proofs.Common.{◌≡◌, ℕ, ◌+◌, ◌<◌, List, [], ◌∷◌, ◌++◌, length, take, get_or, refl, ap, sym, ◌∙◌}
use Rattle.std.specs.Prelude.{Some}
use Rattle.std.proofs.lemmas.List.{take_more}
use Rattle.c_types_spec.specs.Types.{CType, Array}
use Rattle.c_types_spec.specs.Expressions.{arrays_of}

arrays-last : (lengths : List ℕ) (last : ℕ) (type : CType) → arrays_of (lengths ++ last ∷ []) type ≡ arrays_of lengths (Array (Some last) type)
arrays-last [] last type = refl
arrays-last (first ∷ rest) last type = ap (λ t. Array (Some first) t) (arrays-last rest last type)

pub arrays-more : (lengths : List ℕ) (i d : ℕ) (type : CType) → i < length lengths → arrays_of (take (i + 1) lengths) type ≡ arrays_of (take i lengths) (Array (Some (get_or lengths i d)) type)
arrays-more lengths i d type h = ap (λ l. arrays_of l type) (take_more lengths i d h) ∙ arrays-last (take i lengths) (get_or lengths i d) type

pub ruleset one_more = (arrays-more)
