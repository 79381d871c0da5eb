use Rattle.std.proofs.Common.{◌∙◌, ap, sym}
use Rattle.std.specs.Prelude.{Some, option_map}
use Rattle.c_types_scope.proofs.Files.{file-found}
use Rattle.c_types_scope.proofs.scopes.in_file.Goals as goal

pub returns-in-Some : goal.returns-in-Some
returns-in-Some g c = ap (λ x. option_map (λ m. Some m) x) c.in-Some.ensures.value ∙ sym (file-found c.args.file.now.entries c.args.name.now)

pub returns-in-None : goal.returns-in-None
returns-in-None g c = ap (λ x. option_map (λ m. Some m) x) c.in-None.ensures.value ∙ sym (file-found c.args.file.now.entries c.args.name.now)
