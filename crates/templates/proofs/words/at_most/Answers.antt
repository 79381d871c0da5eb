use Rattle.std.proofs.Common.{◌≡◌, ◌∙◌, ap, ap₂}
use Rattle.std.proofs.lemmas.Result.{IfOk-weaker}
use Rattle.term_core_spec.specs.declared.Width.{Width}
use Rattle.term_core_spec.specs.Term.{Term, open_term, not_term, less}
use Rattle.term_bank.specs.Nodes.{tree_at}
use Rattle.c_graph_spec.specs.Values.{at_width}
use Rattle.c_graph_terms.proofs.Banks.{kept, grown_then, built_then, built_as}
use Rattle.templates_spec.specs.Templates as spec
use Rattle.templates.specs.Viewed.{value_of}
use Rattle.templates.proofs.words.at_most.Goals as goal

pub returns-5 : goal.returns-5
returns-5 c =
    let old = c.args.bank.now in
    let b1 = c.leaf.new.bank in
    let b2 = c.at_width.new.bank in
    let b3 = c.leaf-2.new.bank in
    let b4 = c.at_width-2.new.bank in
    let new = c.build.new.bank in
    let i = c.args.i in
    let n = c.args.n in
    let w = c.width_of_both-width.result in
    let one = c.in-Ok-attempt.ensures in
    let two = c.in-Ok-attempt-first.ensures in
    let three = c.in-Ok-attempt-second.ensures in
    let four = c.in-Ok-attempt-second-2.ensures in
    let later = grown_then b2 b3 b4 three.is_grown four.is_grown in
    let grown = grown_then old b2 b4 (grown_then old b1 b2 one.is_grown two.is_grown) later in
    let first_is : tree_at b4 c.in-Ok-attempt-first.field-0 ≡ at_width i.scalar w (open_term i.variable) =
    kept b2 b4 c.in-Ok-attempt-first.field-0 later two.within ∙ (two.tree ∙ ap (λ (t : Term). at_width i.scalar w t) one.tree) in
    let second_is : tree_at b4 c.in-Ok-attempt-second-2.field-0 ≡ at_width n.scalar w (open_term n.variable) = four.tree ∙ ap (λ (t : Term). at_width n.scalar w t) three.tree in
    let all : not_term (less (tree_at b4 c.in-Ok-attempt-second-2.field-0) (tree_at b4 c.in-Ok-attempt-first.field-0)) ≡ spec.at_most (value_of i) (value_of n) =
    ap₂ (λ (s t : Term). not_term (less s t)) second_is first_is
    ∙ ap (λ (v : Width). not_term (less (at_width n.scalar v (open_term n.variable)) (at_width i.scalar v (open_term i.variable)))) c.width_of_both-width.ensures in
    IfOk-weaker c.build.result _ _
    (λ id h. built_as old new id (not_term (less (tree_at b4 c.in-Ok-attempt-second-2.field-0) (tree_at b4 c.in-Ok-attempt-first.field-0))) (spec.at_most (value_of i) (value_of n)) all
    (built_then old b4 new id (not_term (less (tree_at b4 c.in-Ok-attempt-second-2.field-0) (tree_at b4 c.in-Ok-attempt-first.field-0))) grown h)) c.build.ensures
