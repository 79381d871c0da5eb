use Rattle.std.proofs.Common.{◌≡◌, ◌∙◌, [], ap, sym}
use Rattle.std.specs.Prelude.{Some, reverse}
use Rattle.c_types_spec.specs.Names.{declared}
use Rattle.c_types_scope.specs.Entries.{new_entry, held}
use Rattle.c_types_scope.specs.Scopes.{scopes_of, file_of}
use Rattle.c_types_scope.proofs.Files.{file-put}
use Rattle.c_types_scope.proofs.Changes.{is-empty, not-empty, declared-file, declared-starts, declared-blocks}
use Rattle.c_types_scope.proofs.scopes.Scopes.declare.Goals as goal

pub returns-then-is_empty : goal.returns-then-is_empty
returns-then-is_empty g c =
    declared-file (file_of c.self.inside.file.entries) (file_of c.insert.new.self.entries) c.self.inside.starts.items (reverse c.self.inside.entries.items) c.args.name.now (Some c.args.meaning)
    (is-empty c.self.inside.starts.items _ _ c.is_empty.ensures c.if-is_empty.true c.self.inside.starts.ok.0)
    (ap file_of c.in_ok-insert.ensures.entries ∙ file-put c.self.inside.file.entries c.args.name c.args.meaning)
    ∙ ap (λ k. declared c.args.name.now (Some c.args.meaning) (scopes_of k)) c.self.view_is

pub invariant_of-self-2 : goal.invariant_of-self-2
invariant_of-self-2 g c = (
  c.declare.ensures.tied c.self.invariant.0,
  declared-starts c.self.inside.starts.items c.self.inside.entries.items c.declare.new.entries.items _
      (not-empty c.self.inside.starts.items _ _ c.is_empty.ensures c.if-is_empty.false c.self.inside.starts.ok.0)
      c.in_ok-declare.ensures.added c.self.invariant.1,
)

pub returns : goal.returns
returns g c =
    declared-blocks (file_of c.self.inside.file.entries) c.self.inside.starts.items c.self.inside.entries.items c.declare.new.entries.items c.args.name (Some c.args.meaning) (held c.self.inside.newest.entries c.args.name.now)
    (not-empty c.self.inside.starts.items _ _ c.is_empty.ensures c.if-is_empty.false c.self.inside.starts.ok.0)
    c.in_ok-declare.ensures.added c.self.invariant.1
    ∙ ap (λ k. declared c.args.name.now (Some c.args.meaning) (scopes_of k)) c.self.view_is
