use Rattle.std.proofs.Common.{◌∙◌, ap, sym}
use Rattle.std.specs.Prelude.{Some, reverse}
use Rattle.c_types_spec.specs.Names.{declared_in_file}
use Rattle.c_types_scope.specs.Entries.{blocks_of}
use Rattle.c_types_scope.specs.Scopes.{scopes_of, file_of}
use Rattle.c_types_scope.proofs.Files.{file-put}
use Rattle.c_types_scope.proofs.scopes.Scopes.declare_in_file.Goals as goal

pub returns : goal.returns
returns g c =
    ap (λ f. scopes_of (f, blocks_of (reverse c.self.inside.starts.items) (reverse c.self.inside.entries.items)))
    (ap file_of c.in_ok-insert.ensures.entries ∙ file-put c.self.inside.file.entries c.args.name c.args.meaning)
    ∙ ap (λ k. declared_in_file c.args.name.now (Some c.args.meaning) (scopes_of k)) c.self.view_is
