use Rattle.std.proofs.Common.{◌≡◌, ◌∙◌, [], length, ap, sym, subst, arith}
use Rattle.std.specs.Prelude.{None, reverse}
use Rattle.std.specs.Vec.{with_items}
use Rattle.std.proofs.lemmas.List.{with_items_is}
use Rattle.c_types_spec.specs.Names.{closed_hidden}
use Rattle.c_types_scope.specs.Entries.{hidden_since, blocks_of, AreTied, AreStarts}
use Rattle.c_types_scope.specs.Scopes.{scopes_of, file_of}
use Rattle.c_types_scope.proofs.Hiding.{tied-hidden}
use Rattle.c_types_scope.proofs.Changes.{not-empty, hidden-starts, hidden-blocks}
use Rattle.c_types_scope.proofs.scopes.Scopes.close_hidden.Goals as goal

pub invariant_of-self-else-is_empty : goal.invariant_of-self-else-is_empty
invariant_of-self-else-is_empty g c =
    let items = c.self.inside.entries.items in
    let size : length c.hide.new.entries ≡ c.self.inside.entries.len = omega (arith, c.hide.auto.entries, c.as_mut_slice.ensures.len) in
    let hidden : reverse (with_items c.self.inside.entries c.hide.new.entries).items ≡ hidden_since c.in-Some.start (reverse items) =
    ap (λ l. reverse l) (with_items_is c.self.inside.entries c.hide.new.entries size) ∙ c.hide.ensures ∙ ap (λ l. hidden_since c.in-Some.start (reverse l)) c.as_mut_slice.ensures.value in (
      subst (λ l. AreTied l c.self.inside.newest.entries) (sym hidden) (tied-hidden c.in-Some.start (reverse items) c.self.inside.newest.entries c.self.invariant.0),
      subst (λ l. AreStarts (reverse c.pop.new.self.items) l) (sym hidden)
          (hidden-starts c.self.inside.starts.items c.pop.new.self.items c.in-Some.start items c.in-Some.ensures.items
          (not-empty c.pop.new.self.items _ _ c.is_empty.ensures c.if-is_empty.false c.pop.new.self.ok.0) c.self.invariant.1),
    )

pub returns-else-is_empty : goal.returns-else-is_empty
returns-else-is_empty g c =
    let items = c.self.inside.entries.items in
    let size : length c.hide.new.entries ≡ c.self.inside.entries.len = omega (arith, c.hide.auto.entries, c.as_mut_slice.ensures.len) in
    let hidden : reverse (with_items c.self.inside.entries c.hide.new.entries).items ≡ hidden_since c.in-Some.start (reverse items) =
    ap (λ l. reverse l) (with_items_is c.self.inside.entries c.hide.new.entries size) ∙ c.hide.ensures ∙ ap (λ l. hidden_since c.in-Some.start (reverse l)) c.as_mut_slice.ensures.value in
    ap (λ b. scopes_of (file_of c.self.inside.file.entries, b))
    (ap (λ l. blocks_of (reverse c.pop.new.self.items) l) hidden
    ∙ hidden-blocks c.self.inside.starts.items c.pop.new.self.items c.in-Some.start items c.in-Some.ensures.items
    (not-empty c.pop.new.self.items _ _ c.is_empty.ensures c.if-is_empty.false c.pop.new.self.ok.0) c.self.invariant.1)
    ∙ ap (λ k. closed_hidden None (scopes_of k)) c.self.view_is
