use Rattle.std.proofs.Common.{◌∙◌, ap, sym}
use Rattle.c_types_spec.specs.Names.{opened}
use Rattle.c_types_scope.specs.Scopes.{scopes_of, file_of}
use Rattle.c_types_scope.proofs.Changes.{opened-starts, opened-blocks}
use Rattle.c_types_scope.proofs.scopes.Scopes.open.Goals as goal

pub invariant_of-self-2 : goal.invariant_of-self-2
invariant_of-self-2 g c = (
  c.self.invariant.0,
  opened-starts c.self.inside.starts.items c.push.new.self.items c.len.result c.self.inside.entries.items c.in_ok-push.ensures.items (c.len.ensures ∙ c.self.inside.entries.ok.0) c.self.invariant.1,
)

pub returns : goal.returns
returns g c =
    ap (λ b. scopes_of (file_of c.self.inside.file.entries, b))
    (opened-blocks c.self.inside.starts.items c.push.new.self.items c.len.result c.self.inside.entries.items c.in_ok-push.ensures.items (c.len.ensures ∙ c.self.inside.entries.ok.0))
    ∙ ap (λ k. opened (scopes_of k)) c.self.view_is
