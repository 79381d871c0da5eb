-- Types by their layers.
use Rattle.std.proofs.Common.{◌≡◌, ℕ, zero, suc, refl, ◌∙◌}
use Rattle.c_types_spec.specs.Types as tree
use Rattle.c_types_layout.specs.declared.types.Base.{Base}
use Rattle.c_types_layout.specs.declared.types.Layers.{Layers}
use Rattle.c_types_layout.specs.declared.types.Layers.TheVariants.{Nothing, Pointer', Array'}
use Rattle.c_types_layout.specs.Types.{base_of, pointed, wrapped}

wide-pointed : (pointers : ℕ) (type : tree.CType) → tree.is_wide (pointed pointers type) ≡ tree.is_wide type
unfolding tree.is_wide
wide-pointed zero type = refl
wide-pointed (suc pointers) type = wide-pointed pointers type

pub wide-wrapped : (layers : Layers) (base : Base) → tree.is_wide (wrapped layers base) ≡ tree.is_wide (base_of base)
unfolding tree.is_wide
wide-wrapped Nothing base = refl
wide-wrapped (Pointer' further p rest) base = wide-pointed further (wrapped rest base) ∙ wide-wrapped rest base
wide-wrapped (Array' length extent p rest) base = wide-wrapped rest base

pub ruleset wide_base = (wide-wrapped)
