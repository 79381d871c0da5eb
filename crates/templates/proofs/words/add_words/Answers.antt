use Rattle.std.proofs.Common.{rules, ◌≡◌, ◌∙◌, ◌==◌, Bool, true, false, [], ◌∷◌, ap, sym, eq-eqb}
use Rattle.std.specs.Prelude.{if◌then◌else◌}
use Rattle.std.proofs.lemmas.Result.{on_ok_weaker}
use Rattle.term_core_spec.specs.declared.Width.TheVariants.{W32}
use Rattle.term_core_spec.specs.Shapes.{high_half}
use Rattle.term_core_spec.specs.Term.{Term, low, open_term}
use Rattle.term_bank.specs.Nodes.{tree_at}
use Rattle.c_graph_spec.specs.Values.{at_width}
use Rattle.c_graph_terms.proofs.Banks.{built_then}
use Rattle.c_graph_terms.proofs.Growing.{all_later}
use Rattle.templates_spec.specs.Templates.{Value, words_of}
use Rattle.templates.specs.Viewed.{value_of}
use Rattle.templates.proofs.Growth.{as_added, from_before, pushed_one}
use Rattle.templates.proofs.words.add_words.Goals as goal

both_words : (v : Value) (b : Bool) → (v.type.width == 64) ≡ b
    → words_of v ≡ (if b then low W32 (open_term v.variable) ∷ high_half (open_term v.variable) ∷ [] else at_width v.type W32 (open_term v.variable) ∷ [])
both_words v b e =
    ap (λ (c : Bool). if c then low W32 (open_term v.variable) ∷ high_half (open_term v.variable) ∷ [] else at_width v.type W32 (open_term v.variable) ∷ []) e

pub add_both_words-requires-clause-ids : goal.add_both_words-requires-clause-ids
add_both_words-requires-clause-ids c = all_later c.args.bank.now c.leaf.new.bank c.args.ids.now.items c.in-Ok-attempt.ensures.is_grown c.requires

pub returns-then-known-eq64 : goal.returns-then-known-eq64
returns-then-known-eq64 c =
    let old = c.args.bank.now in
    let between = c.leaf.new.bank in
    let new = c.add_both_words.new.bank in
    let before = c.args.ids.now.items in
    let after = c.add_both_words.new.ids.items in
    let v = value_of c.args.known in
    let x = c.in-Ok-attempt.field-0 in
    on_ok_weaker c.add_both_words.result
    (λ h. from_before old between new before after (words_of v) c.in-Ok-attempt.ensures.is_grown c.requires
    (as_added between new before after (low W32 (tree_at between x) ∷ high_half (tree_at between x) ∷ []) (words_of v)
    (ap (λ (t : Term). low W32 t ∷ high_half t ∷ []) c.in-Ok-attempt.ensures.tree ∙ sym (both_words v true (eq-eqb v.type.width 64 c.if-known-eq64.true))) h))
    c.add_both_words.ensures

pub returns-4 : goal.returns-4
returns-4 c =
    let old = c.args.bank.now in
    let between = c.leaf.new.bank in
    let new = c.at_width.new.bank in
    let before = c.args.ids.now.items in
    let after = c.push.new.self.items in
    let v = value_of c.args.known in
    let x = c.in-Ok-attempt.field-0 in
    let narrow : (v.type.width == 64) ≡ false = search rules in
    as_added old new before after (at_width v.type W32 (tree_at between x) ∷ []) (words_of v)
    (ap (λ (t : Term). at_width v.type W32 t ∷ []) c.in-Ok-attempt.ensures.tree ∙ sym (both_words v false narrow))
    (pushed_one old new before after c.in-Ok-attempt-word.field-0 (at_width v.type W32 (tree_at between x)) c.requires
    (built_then old between new c.in-Ok-attempt-word.field-0 (at_width v.type W32 (tree_at between x)) c.in-Ok-attempt.ensures.is_grown c.in-Ok-attempt-word.ensures)
    c.in-Ok-attempt-2.ensures.items)
