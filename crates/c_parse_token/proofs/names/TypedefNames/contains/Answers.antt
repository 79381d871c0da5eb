use Rattle.std.proofs.Common.{◌∙◌}
use Rattle.c_parse_token.specs.Lists.{names_of}
use Rattle.c_parse_token.proofs.Named.{found}
use Rattle.c_parse_token.proofs.names.TypedefNames.contains.Goals as goal

pub returns : goal.returns
unfolding names_of
returns c = c.contains.ensures ∙ found c.args.self.now.names.keys c.args.spelling.now
