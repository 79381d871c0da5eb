use Rattle.std.proofs.Common.{◌≡◌, ◌∙◌, ap, sym, arith}
use Rattle.std.specs.Prelude.{Some, None, option_map, reverse, slice_get}
use Rattle.c_types_spec.specs.Names.{in_innermost}
use Rattle.c_types_scope.specs.Entries.{first_of}
use Rattle.c_types_scope.specs.Scopes.{scopes_of, file_of}
use Rattle.c_types_scope.proofs.Found.{inner-none, inner-before, inner-some}
use Rattle.c_types_scope.proofs.scopes.Scopes.find_innermost.Goals as goal

pub returns-then-place-start : goal.returns-then-place-start
returns-then-place-start g c =
    inner-before (file_of c.self.inside.file.entries) (reverse c.self.inside.starts.items) c.self.inside.entries.items c.self.inside.newest.entries c.args.name.now
    c.in-Some.start c.in-Some-place_of.place c.self.invariant.0 (c.in-Some.ensures ∙ ap (λ l. first_of (reverse l)) c.as_slice.ensures.value) c.in-Some-place_of.ensures c.if-place-start.true
    ∙ ap (λ k. in_innermost (scopes_of k) c.args.name.now) c.self.view_is

pub returns-else-place-start : goal.returns-else-place-start
returns-else-place-start g c =
    c.meaning_at.ensures
    ∙ ap (λ l. option_map (λ e. e.meaning) (slice_get l c.in-Some-place_of.place)) c.as_slice-else-place-start.ensures.value
    ∙ inner-some (file_of c.self.inside.file.entries) (reverse c.self.inside.starts.items) c.self.inside.entries.items c.self.inside.newest.entries c.args.name.now
    c.in-Some.start c.in-Some-place_of.place c.self.invariant.0 (c.in-Some.ensures ∙ ap (λ l. first_of (reverse l)) c.as_slice.ensures.value) c.in-Some-place_of.ensures c.if-place-start.false
    ∙ ap (λ k. in_innermost (scopes_of k) c.args.name.now) c.self.view_is

pub returns-in-None-place_of : goal.returns-in-None-place_of
returns-in-None-place_of g c =
    inner-none (file_of c.self.inside.file.entries) (reverse c.self.inside.starts.items) c.self.inside.entries.items c.self.inside.newest.entries c.args.name.now
    c.in-Some.start c.self.invariant.0 (c.in-Some.ensures ∙ ap (λ l. first_of (reverse l)) c.as_slice.ensures.value) c.in-None-place_of.ensures
    ∙ ap (λ k. in_innermost (scopes_of k) c.args.name.now) c.self.view_is
