use Rattle.c_parse.proofs.Named.{specifiers-typedef}
use Rattle.c_parse.proofs.class.is_typedef.Goals as goal

pub returns : goal.returns
returns c = specifiers-typedef c.args.specifiers.now
