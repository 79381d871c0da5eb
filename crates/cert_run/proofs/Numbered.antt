-- The number of a function's graph is the index of its entry.
use Rattle.std.proofs.Common.{◌≡◌, ◌∙◌, ℕ, ap, List, Some}
use Rattle.std.specs.Prelude.{Contains, slice_get}
use Rattle.std.specs.List.Sorted.{IsStrictlyIncreasing}
use Rattle.std.proofs.lemmas.Option.{slice_get-get_or, slice_get_within, get_or_from_slice_get}
use Rattle.decompile.specs.Answer.{number_in}
use Rattle.decompile.proofs.Searched.{number_there}

module _ (entries : List ℕ) (up : IsStrictlyIncreasing entries) (callee : ℕ) where
  -- by what is read at an index
  pub number_at : (place : ℕ) → slice_get entries place ≡ Some callee → number_in entries callee ≡ place
  number_at place is = number_there entries up callee place (slice_get_within entries place callee is) (get_or_from_slice_get entries place callee 0 is)

  pub entry_at : Contains entries callee → slice_get entries (number_in entries callee) ≡ Some callee
  entry_at (k, within, is) =
      let there : slice_get entries k ≡ Some callee = slice_get-get_or entries k callee within ∙ ap Some is in
      ap (slice_get entries) (number_at k there) ∙ there
