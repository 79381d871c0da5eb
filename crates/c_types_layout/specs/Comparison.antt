-- What is inside some of the layers of a type.
use Rattle.c_types_spec.specs.Types as tree
use Rattle.c_types_layout.specs.declared.types.Inner.{Inner}
use Rattle.c_types_layout.specs.declared.types.Head.{Head}
use Rattle.c_types_layout.specs.declared.types.Head.TheVariants as head
use Rattle.c_types_layout.specs.Types.{base_of, wrapped, pointed}

abbrev pub inside : Inner → tree.CType
inside inner = pointed inner.pointers (wrapped inner.layers.now inner.base)

-- the type of an outermost layer and of what is inside it
abbrev pub head_type : Head → tree.CType
head_type (head.Base base) = base_of base
head_type (head.Pointer target) = tree.Pointer (inside target)
head_type (head.Array length element) = tree.Array length (inside element)
