use Rattle.std.proofs.Common.{◌≡◌, ◌∙◌, ℕ, List, ◌++◌, map, ap, ap₂}
use Rattle.std.proofs.lemmas.Result.{on_ok_weaker}
use Rattle.term_core_spec.specs.Term.{Term}
use Rattle.c_graph_spec.specs.State.{number}
use Rattle.templates_spec.specs.Templates.{all_words, bases}
use Rattle.templates.specs.declared.facts.Known.{Known}
use Rattle.templates.specs.Viewed.{facts_of, value_of}
use Rattle.templates.proofs.Growth.{as_added, added_then}
use Rattle.templates.proofs.lines.add_bases.Goals as goal

pub returns-4 : goal.returns-4
returns-4 c =
    let old = c.args.bank.now in
    let b1 = c.add_all_words.new.bank in
    let b2 = c.add_leaves.new.bank in
    let new = c.add_all_words-2.new.bank in
    let before = c.args.ids.now.items in
    let i1 = c.add_all_words.new.ids.items in
    let i2 = c.add_leaves.new.ids.items in
    let after = c.add_all_words-2.new.ids.items in
    let f = facts_of c.args.facts.now in
    let ps = all_words (map value_of c.as_slice.result.now) in
    let gs = map number c.as_slice-3.result.now in
    let ls = all_words (map value_of c.as_slice-4.result.now) in
    let parameters : ps ≡ all_words f.parameters = ap (λ (l : List Known). all_words (map value_of l)) c.as_slice.ensures.value in
    let globals : gs ≡ map number f.globals = ap (λ (l : List ℕ). map number l) (c.as_slice-3.ensures.value ∙ (c.in-Ok-attempt-globals.ensures ∙ c.as_slice-2.ensures.value)) in
    let locals : ls ≡ all_words f.locals = ap (λ (l : List Known). all_words (map value_of l)) c.as_slice-4.ensures.value in
    on_ok_weaker c.add_all_words-2.result
    (λ h. as_added old new before after (ps ++ (gs ++ ls)) (bases f)
    (ap₂ (λ (a b : List Term). a ++ b) parameters (ap₂ (λ (a b : List Term). a ++ b) globals locals))
    (added_then old b1 new before i1 after ps (gs ++ ls) c.in-Ok-attempt.ensures (added_then b1 b2 new i1 i2 after gs ls c.in-Ok-attempt-2.ensures h)))
    c.add_all_words-2.ensures
