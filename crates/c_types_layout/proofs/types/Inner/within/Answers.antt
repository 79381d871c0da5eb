use Rattle.std.proofs.Common.{◌-◌, arith}
use Rattle.c_types_layout.specs.Types.{wrapped}
use Rattle.c_types_layout.proofs.Pointed.{pointed-pointed}
use Rattle.c_types_layout.proofs.types.Inner.within.Goals as goal

pub returns : goal.returns
returns c =
    let inner = c.args.self in
    pointed-pointed c.args.pointers (inner.pointers - c.args.pointers) inner.pointers (wrapped inner.layers.now inner.base) (omega (arith, c.requires))
