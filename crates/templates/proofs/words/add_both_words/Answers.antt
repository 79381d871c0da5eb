use Rattle.std.proofs.Common.{[], ◌∷◌, ap}
use Rattle.term_core_spec.specs.declared.Width.TheVariants.{W32}
use Rattle.term_core_spec.specs.Shapes.{high_half}
use Rattle.term_core_spec.specs.Term.{Term, low}
use Rattle.term_bank.specs.Nodes.{tree_at}
use Rattle.c_graph_terms.proofs.Banks.{kept}
use Rattle.templates.proofs.Growth.{added_then, as_added, pushed_one}
use Rattle.templates.proofs.words.add_both_words.Goals as goal

pub returns-5 : goal.returns-5
returns-5 c =
    let old = c.args.bank.now in
    let between = c.low_word.new.bank in
    let new = c.high_word.new.bank in
    let x = c.args.x in
    let before = c.args.ids.now.items in
    let ids = c.push.new.self.items in
    let after = c.push-2.new.self.items in
    let one = pushed_one old between before ids c.in-Ok-attempt.field-0 (low W32 (tree_at old x)) c.requires.ids c.in-Ok-attempt.ensures c.in-Ok-attempt-2.ensures.items in
    let other = pushed_one between new ids after c.in-Ok-attempt-high.field-0 (high_half (tree_at between x)) one.within c.in-Ok-attempt-high.ensures c.in-Ok-attempt-3.ensures.items in
    added_then old between new before ids after (low W32 (tree_at old x) ∷ []) (high_half (tree_at old x) ∷ []) one
    (as_added between new ids after (high_half (tree_at between x) ∷ []) (high_half (tree_at old x) ∷ []) (ap (λ (t : Term). high_half t ∷ []) (kept old between x one.is_grown c.requires.x)) other)
