use Rattle.std.proofs.Common.{◌≡◌, ◌∙◌, List, map, ap, subst, sym}
use Rattle.std.proofs.lemmas.Result.{on_ok_weaker}
use Rattle.std.proofs.lemmas.Simd.{map-map}
use Rattle.term_core_spec.specs.Shapes.{load_word}
use Rattle.term_core_spec.specs.Term.{Term, open_term}
use Rattle.term_bank.specs.Nodes.{tree_at}
use Rattle.c_graph_terms.proofs.Banks.{grown_itself}
use Rattle.c_graph_terms.proofs.Growing.{all_later}
use Rattle.decompile_spec.specs.State as code
use Rattle.templates_spec.specs.Templates.{below_entry, slot}
use Rattle.templates.proofs.Growth.{as_added, from_before, made_are}
use Rattle.templates.proofs.lines.add_slots.Goals as goal

pub add_loaded-requires-clause-ids : goal.add_loaded-requires-clause-ids
add_loaded-requires-clause-ids c = all_later c.args.bank.now c.add_below.new.bank c.args.ids.now.items c.in-Ok-attempt.ensures.is_grown c.requires

pub returns-2 : goal.returns-2
returns-2 c =
    let old = c.args.bank.now in
    let between = c.add_below.new.bank in
    let new = c.add_loaded.new.bank in
    let before = c.args.ids.now.items in
    let after = c.add_loaded.new.ids.items in
    let ns = c.args.numbers.now in
    let made = c.in-Ok-attempt.ensures in
    let addresses : map (tree_at between) c.as_slice.result.now ≡ map below_entry ns =
    subst (λ l. map (tree_at between) l ≡ map below_entry ns) (sym c.as_slice.ensures.value)
    (made_are old between between c.new-addresses.result.items c.add_below.new.ids.items (map below_entry ns) c.new-addresses.ensures.items made (grown_itself between)) in
    on_ok_weaker c.add_loaded.result
    (λ h. from_before old between new before after (map slot ns) made.is_grown c.requires
    (as_added between new before after (map (load_word (open_term code.memory)) (map (tree_at between) c.as_slice.result.now)) (map slot ns)
    (ap (λ (l : List Term). map (load_word (open_term code.memory)) l) addresses ∙ map-map (load_word (open_term code.memory)) below_entry ns) h))
    c.add_loaded.ensures
