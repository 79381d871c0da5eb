use Rattle.std.proofs.Common.{◌≡◌, ◌∙◌, ◌≤◌, Option, ℕ, sym, ap}
use Rattle.std.specs.Prelude.{◌↔◌, IsSomeAnd, IsTrue}
use Rattle.c_types_spec.specs.declared.TheConstants.{SIZE_LIMIT}
use Rattle.pair_setup_spec.specs.Faults.{HasSize}
use Rattle.c_types_spec.specs.Types.{size_of}
use Rattle.c_types_spec.specs.Units.{global_size, known_size}
use Rattle.c_types_layout.specs.Structs.{capped, structs_of}
use Rattle.c_types_layout.specs.Types.{type_of}
use Rattle.pair_setup.proofs.Added.{matched-ok}
use Rattle.pair_setup.proofs.Symbols.{sized-open, sized-known}
use Rattle.pair_setup.proofs.globals.fits.Goals as goal

pub returns-then-is_open_array : goal.returns-then-is_open_array
returns-then-is_open_array c =
    sized-open c.args.image.now c.args.name.now (structs_of c.args.unit.now.structs.items) (type_of c.args.of.now) (sym c.is_open_array.ensures ∙ c.if-is_open_array.true)

pub returns : goal.returns
returns c =
    matched-ok c.is_sized.result (λ sized. (full : Option ℕ) → c.size-size.result ≡ capped full → (IsTrue sized ↔ HasSize c.args.image.now c.args.name.now (known_size full)))
    (λ sized. IsTrue sized ↔ HasSize c.args.image.now c.args.name.now (global_size (structs_of c.args.unit.now.structs.items) (type_of c.args.of.now)))
    (λ _. IsSomeAnd c.size-size.result (λ n. SIZE_LIMIT ≤ n))
    (λ sized h. sized-known c.args.image.now c.args.name.now (structs_of c.args.unit.now.structs.items) (type_of c.args.of.now) sized (sym c.is_open_array.ensures ∙ c.if-is_open_array.false)
    (h (size_of (structs_of c.args.unit.now.structs.items) (type_of c.args.of.now))
    (c.size-size.ensures ∙ ap (λ l. capped (size_of (structs_of l) (type_of c.args.of.now))) c.as_slice.ensures.value)))
    c.is_sized.ensures
