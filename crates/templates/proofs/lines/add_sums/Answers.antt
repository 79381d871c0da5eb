use Rattle.std.proofs.Common.{◌≡◌, ◌∙◌, List, length, map, ap, ap₂, subst, sym}
use Rattle.std.proofs.lemmas.Result.{on_ok_weaker}
use Rattle.term_core_spec.specs.declared.BinaryOperator.TheVariants.{Word as WordOf}
use Rattle.term_core_spec.specs.declared.WordOperator.TheVariants.{Add, Multiply}
use Rattle.term_core_spec.specs.Term.{Term}
use Rattle.term_bank.specs.Nodes.{tree_at}
use Rattle.c_graph_spec.specs.State.{number}
use Rattle.c_graph_terms.specs.Tables.{AreWithin}
use Rattle.c_graph_terms.proofs.Banks.{grown_itself, grown_then}
use Rattle.c_graph_terms.proofs.Growing.{all_later}
use Rattle.templates_spec.specs.Templates.{all_words, bases, scales}
use Rattle.templates.specs.declared.facts.Known.{Known}
use Rattle.templates.specs.Added.{on_all}
use Rattle.templates.specs.Viewed.{facts_of, sums_of, value_of}
use Rattle.templates.proofs.Growth.{as_added, from_before, made_are}
use Rattle.templates.proofs.lines.add_sums.Goals as goal

pub add_on_all-requires-clause-ys : goal.add_on_all-requires-clause-ys
add_on_all-requires-clause-ys c =
    subst (AreWithin (length c.add_leaves.new.bank)) (sym c.as_slice-3.ensures.value)
    (all_later c.add_all_words.new.bank c.add_leaves.new.bank c.add_all_words.new.ids.items c.in-Ok-attempt-3.ensures.is_grown c.in-Ok-attempt-2.ensures.within)

pub add_on_all-requires-2-clause-xs : goal.add_on_all-requires-2-clause-xs
add_on_all-requires-2-clause-xs c =
    let b1 = c.add_bases.new.bank in
    let b2 = c.add_all_words.new.bank in
    let b3 = c.add_leaves.new.bank in
    let b4 = c.add_on_all.new.bank in
    subst (AreWithin (length b4)) (sym c.as_slice-4.ensures.value)
    (all_later b1 b4 c.add_bases.new.ids.items
    (grown_then b1 b2 b4 c.in-Ok-attempt-2.ensures.is_grown (grown_then b2 b3 b4 c.in-Ok-attempt-3.ensures.is_grown c.in-Ok-attempt-4.ensures.is_grown))
    c.in-Ok-attempt.ensures.within)

pub add_on_all-requires-2-clause-ids : goal.add_on_all-requires-2-clause-ids
add_on_all-requires-2-clause-ids c =
    let old = c.args.bank.now in
    let b1 = c.add_bases.new.bank in
    let b2 = c.add_all_words.new.bank in
    let b3 = c.add_leaves.new.bank in
    let b4 = c.add_on_all.new.bank in
    all_later old b4 c.args.ids.now.items
    (grown_then old b1 b4 c.in-Ok-attempt.ensures.is_grown
    (grown_then b1 b2 b4 c.in-Ok-attempt-2.ensures.is_grown (grown_then b2 b3 b4 c.in-Ok-attempt-3.ensures.is_grown c.in-Ok-attempt-4.ensures.is_grown))) c.requires

pub returns-5 : goal.returns-5
returns-5 c =
    let old = c.args.bank.now in
    let b1 = c.add_bases.new.bank in
    let b2 = c.add_all_words.new.bank in
    let b3 = c.add_leaves.new.bank in
    let b4 = c.add_on_all.new.bank in
    let new = c.add_on_all-2.new.bank in
    let before = c.args.ids.now.items in
    let after = c.add_on_all-2.new.ids.items in
    let f = facts_of c.args.facts.now in
    let one = c.in-Ok-attempt.ensures in
    let two = c.in-Ok-attempt-2.ensures in
    let three = c.in-Ok-attempt-3.ensures in
    let four = c.in-Ok-attempt-4.ensures in
    let last = grown_then b2 b3 b4 three.is_grown four.is_grown in
    let later = grown_then b1 b2 b4 two.is_grown last in
    let bases_are : map (tree_at b4) c.as_slice-4.result.now ≡ bases f =
    subst (λ l. map (tree_at b4) l ≡ bases f) (sym c.as_slice-4.ensures.value)
    (made_are old b1 b4 c.new-bases.result.items c.add_bases.new.ids.items (bases f) c.new-bases.ensures.items one later) in
    let locals_are : map (tree_at b3) c.as_slice-3.result.now ≡ all_words f.locals =
    subst (λ l. map (tree_at b3) l ≡ all_words f.locals) (sym c.as_slice-3.ensures.value)
    (made_are b1 b2 b3 c.new-locals.result.items c.add_all_words.new.ids.items (all_words (map value_of c.as_slice.result.now)) c.new-locals.ensures.items two three.is_grown
    ∙ ap (λ (l : List Known). all_words (map value_of l)) c.as_slice.ensures.value) in
    let scales_are : map (tree_at b3) c.as_slice-2.result.now ≡ map number scales =
    subst (λ l. map (tree_at b3) l ≡ map number scales) (sym c.as_slice-2.ensures.value)
    (made_are b2 b3 b3 c.new-scales.result.items c.add_leaves.new.ids.items (map number scales) c.new-scales.ensures.items three (grown_itself b3)) in
    let scaled : List Term = on_all (WordOf Multiply) (map (tree_at b3) c.as_slice-2.result.now) (map (tree_at b3) c.as_slice-3.result.now) in
    let scaled_are : map (tree_at b4) c.as_slice-5.result.now ≡ on_all (WordOf Multiply) (map number scales) (all_words f.locals) =
    subst (λ l. map (tree_at b4) l ≡ on_all (WordOf Multiply) (map number scales) (all_words f.locals)) (sym c.as_slice-5.ensures.value)
    (made_are b3 b4 b4 c.new-scaled.result.items c.add_on_all.new.ids.items scaled c.new-scaled.ensures.items four (grown_itself b4)
    ∙ ap₂ (λ (a b : List Term). on_all (WordOf Multiply) a b) scales_are locals_are) in
    on_ok_weaker c.add_on_all-2.result
    (λ h. from_before old b4 new before after (sums_of f) (grown_then old b1 b4 one.is_grown later) c.requires
    (as_added b4 new before after (on_all (WordOf Add) (map (tree_at b4) c.as_slice-4.result.now) (map (tree_at b4) c.as_slice-5.result.now)) (sums_of f)
    (ap₂ (λ (a b : List Term). on_all (WordOf Add) a b) bases_are scaled_are) h))
    c.add_on_all-2.ensures
