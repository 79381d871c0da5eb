use Rattle.std.proofs.Common.{◌≡◌, ◌∙◌, List, [], ◌∷◌, map, ap₂, subst, sym}
use Rattle.std.proofs.lemmas.Result.{on_ok_weaker}
use Rattle.term_core_spec.specs.declared.BinaryOperator.TheVariants.{Word as WordOf}
use Rattle.term_core_spec.specs.declared.WordOperator.TheVariants.{Subtract}
use Rattle.term_core_spec.specs.Term.{Term}
use Rattle.term_bank.specs.Nodes.{tree_at}
use Rattle.c_graph_spec.specs.State.{number}
use Rattle.c_graph_terms.proofs.Banks.{grown_itself, grown_then}
use Rattle.c_graph_terms.proofs.Growing.{all_later}
use Rattle.sim_rules_spec.specs.Calling.{at_entry}
use Rattle.templates_spec.specs.Templates.{below_entry}
use Rattle.templates.specs.Added.{on_all}
use Rattle.templates.proofs.Growth.{as_added, from_before, made_are}
use Rattle.templates.proofs.Sums.{below_are}
use Rattle.templates.proofs.lines.add_below.Goals as goal

pub add_on_all-requires-clause-ids : goal.add_on_all-requires-clause-ids
add_on_all-requires-clause-ids c =
    all_later c.args.bank.now c.add_leaves-2.new.bank c.args.ids.now.items
    (grown_then c.args.bank.now c.add_leaves.new.bank c.add_leaves-2.new.bank c.in-Ok-attempt.ensures.is_grown c.in-Ok-attempt-2.ensures.is_grown) c.requires

pub returns-3 : goal.returns-3
returns-3 c =
    let old = c.args.bank.now in
    let b1 = c.add_leaves.new.bank in
    let b2 = c.add_leaves-2.new.bank in
    let new = c.add_on_all.new.bank in
    let before = c.args.ids.now.items in
    let ids = c.add_on_all.new.ids.items in
    let ns = c.args.numbers.now in
    let one = c.in-Ok-attempt.ensures in
    let two = c.in-Ok-attempt-2.ensures in
    let grown = grown_then old b1 b2 one.is_grown two.is_grown in
    let pointer : map (tree_at b2) c.as_slice.result.now ≡ at_entry 2 ∷ [] =
    subst (λ l. map (tree_at b2) l ≡ at_entry 2 ∷ []) (sym c.as_slice.ensures.value)
    (made_are old b1 b2 c.new-pointer.result.items c.add_leaves.new.ids.items (at_entry 2 ∷ []) c.new-pointer.ensures.items one two.is_grown) in
    let words : map (tree_at b2) c.as_slice-2.result.now ≡ map number ns =
    subst (λ l. map (tree_at b2) l ≡ map number ns) (sym c.as_slice-2.ensures.value)
    (made_are b1 b2 b2 c.new-words.result.items c.add_leaves-2.new.ids.items (map number ns) c.new-words.ensures.items two (grown_itself b2)) in
    on_ok_weaker c.add_on_all.result
    (λ h. from_before old b2 new before ids (map below_entry ns) grown c.requires
    (as_added b2 new before ids (on_all (WordOf Subtract) (map (tree_at b2) c.as_slice.result.now) (map (tree_at b2) c.as_slice-2.result.now)) (map below_entry ns)
    (ap₂ (λ (a b : List Term). on_all (WordOf Subtract) a b) pointer words ∙ below_are ns) h))
    c.add_on_all.ensures
