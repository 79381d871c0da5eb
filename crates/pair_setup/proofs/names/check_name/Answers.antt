use Rattle.std.proofs.Common.{refl}
use Rattle.c_types.specs.Typed.{typed_of}
use Rattle.pair_setup_calls.specs.Names.{names_of}
use Rattle.pair_setup.proofs.Numbering.{numbering}
use Rattle.pair_setup.proofs.NameFaults.{undeclared}
use Rattle.pair_setup.proofs.names.check_name.Goals as goal

pub returns-in-None-clause-fault : goal.returns-in-None-clause-fault
returns-in-None-clause-fault c = (
  c.args.name.now,
  (refl, refl),
  undeclared (typed_of c.args.unit.now) (names_of c.args.unit.now) c.requires.typed (numbering c.args.unit.now c.requires.survey.apart) c.args.image.now c.args.name.now c.in-None.ensures,
)
