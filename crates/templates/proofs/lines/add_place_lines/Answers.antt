use Rattle.std.proofs.Common.{◌≡◌, ◌∙◌, ℕ, List, ◌++◌, length, map, ap, ap₂, subst, sym}
use Rattle.std.proofs.lemmas.Result.{on_ok_weaker}
use Rattle.term_core_spec.specs.Term.{Term}
use Rattle.term_bank.specs.Nodes.{tree_at}
use Rattle.c_graph_terms.specs.Tables.{AreWithin}
use Rattle.c_graph_terms.proofs.Banks.{grown_itself, grown_then}
use Rattle.c_graph_terms.proofs.Growing.{all_later}
use Rattle.templates_spec.specs.Templates as spec
use Rattle.templates.specs.Viewed.{facts_of, place_lines}
use Rattle.templates.proofs.Growth.{added_then, as_added, from_before, made_are}
use Rattle.templates.proofs.lines.add_place_lines.Goals as goal

pub add_entry_lines-requires-clause-lines : goal.add_entry_lines-requires-clause-lines
add_entry_lines-requires-clause-lines c = all_later c.args.bank.now c.add_places.new.bank c.args.lines.now.items c.in-Ok-attempt-2.ensures.is_grown c.requires

pub add_local_lines-requires-clause-places : goal.add_local_lines-requires-clause-places
add_local_lines-requires-clause-places c =
    let b1 = c.add_places.new.bank in
    let b2 = c.add_entry_lines.new.bank in
    subst (AreWithin (length b2)) (sym c.as_slice-3.ensures.value) (all_later b1 b2 c.add_places.new.ids.items c.in-Ok-attempt-3.ensures.is_grown c.in-Ok-attempt-2.ensures.within)

pub add_sum_lines-requires-clause-places : goal.add_sum_lines-requires-clause-places
add_sum_lines-requires-clause-places c =
    let b1 = c.add_places.new.bank in
    let b2 = c.add_entry_lines.new.bank in
    let b3 = c.add_local_lines.new.bank in
    subst (AreWithin (length b3)) (sym c.as_slice-4.ensures.value)
    (all_later b1 b3 c.add_places.new.ids.items (grown_then b1 b2 b3 c.in-Ok-attempt-3.ensures.is_grown c.in-Ok-attempt-4.ensures.is_grown) c.in-Ok-attempt-2.ensures.within)

pub returns-5 : goal.returns-5
returns-5 c =
    let old = c.args.bank.now in
    let b1 = c.add_places.new.bank in
    let b2 = c.add_entry_lines.new.bank in
    let b3 = c.add_local_lines.new.bank in
    let new = c.add_sum_lines.new.bank in
    let before = c.args.lines.now.items in
    let i2 = c.add_entry_lines.new.lines.items in
    let i3 = c.add_local_lines.new.lines.items in
    let after = c.add_sum_lines.new.lines.items in
    let f = facts_of c.args.facts.now in
    let made = c.in-Ok-attempt-2.ensures in
    let three = c.in-Ok-attempt-3.ensures in
    let four = c.in-Ok-attempt-4.ensures in
    let given = map spec.register spec.registers ++ map spec.slot c.as_slice.result.now in
    let is : given ≡ spec.places f = ap (λ (l : List ℕ). map spec.register spec.registers ++ map spec.slot l) (c.as_slice.ensures.value ∙ c.in-Ok-attempt.ensures) in
    let at1 : map (tree_at b1) c.as_slice-2.result.now ≡ spec.places f =
    subst (λ l. map (tree_at b1) l ≡ spec.places f) (sym c.as_slice-2.ensures.value)
    (made_are old b1 b1 c.new-places.result.items c.add_places.new.ids.items given c.new-places.ensures.items made (grown_itself b1) ∙ is) in
    let at2 : map (tree_at b2) c.as_slice-3.result.now ≡ spec.places f =
    subst (λ l. map (tree_at b2) l ≡ spec.places f) (sym c.as_slice-3.ensures.value)
    (made_are old b1 b2 c.new-places.result.items c.add_places.new.ids.items given c.new-places.ensures.items made three.is_grown ∙ is) in
    let at3 : map (tree_at b3) c.as_slice-4.result.now ≡ spec.places f =
    subst (λ l. map (tree_at b3) l ≡ spec.places f) (sym c.as_slice-4.ensures.value)
    (made_are old b1 b3 c.new-places.result.items c.add_places.new.ids.items given c.new-places.ensures.items made (grown_then b1 b2 b3 three.is_grown four.is_grown) ∙ is) in
    let es = spec.entry_lines f (map (tree_at b1) c.as_slice-2.result.now) in
    let ls = spec.local_lines f (map (tree_at b2) c.as_slice-3.result.now) in
    let ss = spec.sum_lines f (map (tree_at b3) c.as_slice-4.result.now) in
    on_ok_weaker c.add_sum_lines.result
    (λ h. as_added old new before after (es ++ (ls ++ ss)) (place_lines f)
    (ap₂ (λ (a b : List Term). a ++ b) (ap (spec.entry_lines f) at1) (ap₂ (λ (a b : List Term). a ++ b) (ap (spec.local_lines f) at2) (ap (spec.sum_lines f) at3)))
    (from_before old b1 new before after (es ++ (ls ++ ss)) made.is_grown c.requires
    (added_then b1 b2 new before i2 after es (ls ++ ss) three (added_then b2 b3 new i2 i3 after ls ss four h))))
    c.add_sum_lines.ensures
