use Rattle.std.proofs.Common.{◌≡◌, ◌++◌, [], rules, sym, ap, ◌∙◌}
use Rattle.std.proofs.lemmas.List.{append-nil}
use Rattle.std.specs.Prelude.{filter}
use Rattle.tv_core_spec.specs.Listing.{has_symbol}
use Rattle.tv_core.proofs.Naming.{names_in, listed_are}
use Rattle.tv_core.proofs.listing.listed_names.Goals as goal

pub returns : goal.returns
returns c =
    let image = c.args.image.now in
    let items = c.loop-name.names.items in
    let empty : c.loop-name.name-iterator ≡ [] = search rules in
    sym (append-nil items)
    ∙ (ap (λ keys. items ++ filter (has_symbol image) (names_in keys)) (sym empty) ∙ c.loop-name.invariant)
    ∙ sym (listed_are image c.args.unit.now)
