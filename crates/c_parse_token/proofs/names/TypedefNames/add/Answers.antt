use Rattle.c_parse_token.specs.Lists.{names_of}
use Rattle.c_parse_token.proofs.Named.{added}
use Rattle.c_parse_token.proofs.names.TypedefNames.add.Goals as goal

pub returns : goal.returns
unfolding names_of
returns c = added c.args.self.now.names.keys c.insert.new.self.keys c.args.name c.in_ok-insert.ensures.keys
