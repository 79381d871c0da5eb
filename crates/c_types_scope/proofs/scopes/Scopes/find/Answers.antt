use Rattle.std.proofs.Common.{◌∙◌, ap, sym}
use Rattle.std.specs.Prelude.{Some, None, option_map, reverse, slice_get}
use Rattle.c_types_spec.specs.Names.{in_scope}
use Rattle.c_types_scope.specs.Scopes.{scopes_of, file_of}
use Rattle.c_types_scope.proofs.Found.{find-some, find-none}
use Rattle.c_types_scope.proofs.scopes.Scopes.find.Goals as goal

pub returns-in-Some : goal.returns-in-Some
returns-in-Some g c =
    c.meaning_at.ensures
    ∙ ap (λ l. option_map (λ e. e.meaning) (slice_get l c.in-Some.place)) c.as_slice.ensures.value
    ∙ find-some (file_of c.self.inside.file.entries) (reverse c.self.inside.starts.items) c.self.inside.entries.items c.self.inside.newest.entries c.args.name.now
    c.in-Some.place c.self.invariant.0 c.self.invariant.1 c.in-Some.ensures
    ∙ ap (λ k. in_scope (scopes_of k) c.args.name.now) c.self.view_is

pub returns-in-None : goal.returns-in-None
returns-in-None g c =
    c.in_file.ensures
    ∙ find-none (file_of c.self.inside.file.entries) (reverse c.self.inside.starts.items) c.self.inside.entries.items c.self.inside.newest.entries c.args.name.now
    c.self.invariant.0 c.self.invariant.1 c.in-None.ensures
    ∙ ap (λ k. in_scope (scopes_of k) c.args.name.now) c.self.view_is
