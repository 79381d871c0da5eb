use Rattle.std.proofs.Common.{◌≡◌, ◌∙◌, List, [], ◌∷◌, map, ap₂, subst, sym}
use Rattle.std.proofs.lemmas.Result.{on_ok_weaker}
use Rattle.term_core_spec.specs.declared.BinaryOperator.TheVariants.{Equal}
use Rattle.term_core_spec.specs.Term.{Term}
use Rattle.term_bank.specs.Nodes.{tree_at}
use Rattle.c_graph_terms.proofs.Banks.{grown_itself, grown_then}
use Rattle.c_graph_terms.proofs.Growing.{all_later}
use Rattle.templates_spec.specs.Templates.{below_entry, register}
use Rattle.templates.specs.Added.{on_all}
use Rattle.templates.specs.Viewed.{pointers_at}
use Rattle.templates.proofs.Growth.{as_added, from_before, made_are}
use Rattle.templates.proofs.Sums.{pointers_are}
use Rattle.templates.proofs.lines.add_pointer_lines.Goals as goal

pub add_on_all-requires-clause-ids : goal.add_on_all-requires-clause-ids
add_on_all-requires-clause-ids c =
    all_later c.args.bank.now c.add_below.new.bank c.args.lines.now.items
    (grown_then c.args.bank.now c.add_leaves.new.bank c.add_below.new.bank c.in-Ok-attempt.ensures.is_grown c.in-Ok-attempt-2.ensures.is_grown) c.requires

pub returns-3 : goal.returns-3
returns-3 c =
    let old = c.args.bank.now in
    let b1 = c.add_leaves.new.bank in
    let b2 = c.add_below.new.bank in
    let new = c.add_on_all.new.bank in
    let before = c.args.lines.now.items in
    let after = c.add_on_all.new.ids.items in
    let ns = c.args.depths.now in
    let one = c.in-Ok-attempt.ensures in
    let two = c.in-Ok-attempt-2.ensures in
    let pointers : map (tree_at b2) c.as_slice.result.now ≡ register 2 ∷ register 8 ∷ [] =
    subst (λ l. map (tree_at b2) l ≡ register 2 ∷ register 8 ∷ []) (sym c.as_slice.ensures.value)
    (made_are old b1 b2 c.new-pointers.result.items c.add_leaves.new.ids.items (register 2 ∷ register 8 ∷ []) c.new-pointers.ensures.items one two.is_grown) in
    let below : map (tree_at b2) c.as_slice-2.result.now ≡ map below_entry ns =
    subst (λ l. map (tree_at b2) l ≡ map below_entry ns) (sym c.as_slice-2.ensures.value)
    (made_are b1 b2 b2 c.new-below.result.items c.add_below.new.ids.items (map below_entry ns) c.new-below.ensures.items two (grown_itself b2)) in
    on_ok_weaker c.add_on_all.result
    (λ h. from_before old b2 new before after (pointers_at ns) (grown_then old b1 b2 one.is_grown two.is_grown) c.requires
    (as_added b2 new before after (on_all Equal (map (tree_at b2) c.as_slice.result.now) (map (tree_at b2) c.as_slice-2.result.now)) (pointers_at ns)
    (ap₂ (λ (a b : List Term). on_all Equal a b) pointers below ∙ pointers_are ns) h))
    c.add_on_all.ensures
