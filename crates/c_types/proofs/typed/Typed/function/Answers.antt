use Rattle.std.proofs.Common.{◌∙◌}
use Rattle.c_types.proofs.Lookups.{function-known, function-unknown}
use Rattle.c_types.proofs.typed.Typed.function.Goals as goal

pub returns-in-Some : goal.returns-in-Some
returns-in-Some c = c.signature_in.ensures ∙ function-known c.args.self.now.names.entries c.args.name.now c.in-Some.meaning.now c.in-Some.ensures.distinct c.in-Some.ensures.found

pub returns-in-None : goal.returns-in-None
returns-in-None c = function-unknown c.args.self.now.names.entries c.args.name.now c.in-None.ensures.distinct c.in-None.ensures.found
