use Rattle.std.proofs.Common.{sym, subst}
use Rattle.std.proofs.lemmas.Result.{IfOk-weaker}
use Rattle.term_core_spec.specs.Term.{Term, Binary}
use Rattle.term_bank.specs.Nodes.{tree_at}
use Rattle.c_types_spec.specs.Types.{word}
use Rattle.c_graph_spec.specs.Values.{of_word}
use Rattle.c_graph_terms.specs.Built.{IsBuilt, AreBuilt}
use Rattle.c_graph_terms.proofs.Made.{terms_beside}
use Rattle.c_graph_terms.proofs.moves.moved_pointer.Goals as goal

pub returns-3 : goal.returns-3
returns-3 c =
    let f : Term → Term → Term = λ p d. Binary c.mover.result p d in
    let there : IsBuilt c.distance.new.bank c.build.new.bank c.in-Ok-attempt-word.field-0 (f (tree_at c.distance.new.bank c.args.pointer) (tree_at c.distance.new.bank c.in-Ok-attempt.field-0)) = c.in-Ok-attempt-word.ensures in
    IfOk-weaker c.of_word.result _ _
    (λ ids h.
    subst (λ (t : Term). AreBuilt c.args.bank.now c.of_word.new.bank ids (of_word word t)) (sym (c.mover.ensures _ _))
    (terms_beside c.args.bank.now c.distance.new.bank c.build.new.bank c.of_word.new.bank c.args.pointer c.in-Ok-attempt.field-0 c.in-Ok-attempt-word.field-0 _ ids f word c.requires.pointer_within c.in-Ok-attempt.ensures there h))
    c.of_word.ensures
