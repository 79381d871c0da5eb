use Rattle.std.proofs.Common.{◌∙◌}
use Rattle.c_types.specs.Typed.{body_of_name}
use Rattle.c_types.proofs.Lookups.{copied-map, body-found}
use Rattle.c_types.proofs.typed.Typed.body.Goals as goal

pub returns : goal.returns
returns c = copied-map (λ b. body_of_name c.args.name.now b) c.get.result _ c.get.ensures.value ∙ body-found c.args.self.now.bodies.entries c.args.name.now
