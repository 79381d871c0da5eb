use Rattle.std.proofs.Common.{◌≡◌, ◌++◌, map}
use Rattle.std.specs.Prelude.{filter}
use Rattle.tv_core_spec.specs.Listing.{has_symbol}
use Rattle.tv_core.proofs.Naming.{names_in}
use Rattle.tv_core.proofs.listing.listed_names.Given as goal

abbrev pub invariant-loop-name : goal.invariant-loop-name
invariant-loop-name l =
    l.names.items ++ filter (has_symbol l.image) (names_in l.name-iterator) ≡ filter (has_symbol l.image) (names_in (map (λ entry. entry.0) l.unit.bodies.entries))
