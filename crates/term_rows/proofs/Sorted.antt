-- Sorts of no terms.
use Rattle.std.proofs.Common.{◌≡◌, ℕ, ◌<◌, List, [], length, Option, sym, subst, arith}
use Rattle.term_core_spec.specs.declared.Sort.{Sort}
use Rattle.term_core_spec.specs.Term.{Term}
use Rattle.term_sorts.specs.Sorts.{AreSorts}

pub no_sorts : (trees : List Term) (sorts : List (Option Sort)) → sorts ≡ [] → AreSorts trees sorts
no_sorts trees sorts e = subst (AreSorts trees) (sym e) (record { within = omega arith; each = λ i less. absurd (omega (arith, less)) })
