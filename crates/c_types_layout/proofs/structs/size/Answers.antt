use Rattle.c_types_layout.specs.Types.{type_of}
use Rattle.c_types_layout.specs.Structs.{structs_of}
use Rattle.c_types_layout.proofs.Sizes.{size-by_extent}
use Rattle.c_types_layout.proofs.structs.size.Goals as goal

pub returns : goal.returns
unfolding type_of
returns c =
    rw (c.times.ensures, c.size_inside-element.ensures, c.extent-extent.ensures.extent)
    (size-by_extent (structs_of c.args.structs.now) c.args.of.now.base c.args.of.now.layers c.extent-extent.ensures.counted)
