use Rattle.std.proofs.Common.{◌≡◌, ◌∙◌, ℕ, List, map, ap, ap₂, subst, sym}
use Rattle.std.proofs.lemmas.Result.{on_ok_weaker}
use Rattle.term_core_spec.specs.declared.BinaryOperator.TheVariants.{Equal}
use Rattle.term_core_spec.specs.Term.{Term}
use Rattle.term_bank.specs.Nodes.{tree_at}
use Rattle.c_graph_terms.proofs.Banks.{grown_itself}
use Rattle.c_graph_terms.proofs.Growing.{all_later, trees_kept}
use Rattle.sim_rules_spec.specs.Calling.{at_entry}
use Rattle.templates_spec.specs.Templates.{entry_lines}
use Rattle.templates.specs.Added.{on_all}
use Rattle.templates.specs.Viewed.{facts_of}
use Rattle.templates.proofs.Growth.{as_added, from_before, made_are}
use Rattle.templates.proofs.Sums.{entries_are}
use Rattle.templates.proofs.lines.add_entry_lines.Goals as goal

pub add_on_all-requires-clause-xs : goal.add_on_all-requires-clause-xs
add_on_all-requires-clause-xs c = all_later c.args.bank.now c.add_leaves.new.bank c.args.places.now c.in-Ok-attempt-2.ensures.is_grown c.requires.places

pub add_on_all-requires-clause-ids : goal.add_on_all-requires-clause-ids
add_on_all-requires-clause-ids c = all_later c.args.bank.now c.add_leaves.new.bank c.args.lines.now.items c.in-Ok-attempt-2.ensures.is_grown c.requires.lines

pub returns-3 : goal.returns-3
returns-3 c =
    let old = c.args.bank.now in
    let between = c.add_leaves.new.bank in
    let new = c.add_on_all.new.bank in
    let before = c.args.lines.now.items in
    let after = c.add_on_all.new.ids.items in
    let f = facts_of c.args.facts.now in
    let at = map (tree_at old) c.args.places.now in
    let made = c.in-Ok-attempt-2.ensures in
    let values : map (tree_at between) c.as_slice-3.result.now ≡ map at_entry f.entries =
    subst (λ l. map (tree_at between) l ≡ map at_entry f.entries) (sym c.as_slice-3.ensures.value)
    (made_are old between between c.new-entries.result.items c.add_leaves.new.ids.items (map at_entry c.as_slice-2.result.now) c.new-entries.ensures.items made (grown_itself between)
    ∙ ap (λ (l : List ℕ). map at_entry l) (c.as_slice-2.ensures.value ∙ (c.in-Ok-attempt.ensures ∙ c.as_slice.ensures.value))) in
    on_ok_weaker c.add_on_all.result
    (λ h. from_before old between new before after (entry_lines f at) made.is_grown c.requires.lines
    (as_added between new before after (on_all Equal (map (tree_at between) c.args.places.now) (map (tree_at between) c.as_slice-3.result.now)) (entry_lines f at)
    (ap₂ (λ (a b : List Term). on_all Equal a b) (trees_kept old between c.args.places.now made.is_grown c.requires.places) values ∙ entries_are at f.entries) h))
    c.add_on_all.ensures
