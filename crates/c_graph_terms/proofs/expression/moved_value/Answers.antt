use Rattle.std.proofs.lemmas.Result.{IfOk-weaker}
use Rattle.term_core_spec.specs.declared.Width.TheVariants.{W32}
use Rattle.c_types_spec.specs.Types.{word}
use Rattle.c_graph_spec.specs.Values.{of_word, moved, scaled, at_width}
use Rattle.c_graph_terms.proofs.Made.{two_kept}
use Rattle.c_graph_terms.proofs.Lists.{tested_one, tested_value}
use Rattle.c_graph_terms.proofs.expression.moved_value.Goals as goal

pub returns-3 : goal.returns-3
returns-3 c =
    let a = c.args.bank.now in
    let b = c.move_test.new.bank in
    let test = c.in-Ok-attempt.ensures in
    let tested = tested_one a b c.args.tests.now.items c.keep.new.tests.items c.in-Ok-attempt.field-0 _ test c.in-Ok-attempt-2.ensures in
    IfOk-weaker c.moved_pointer.result _ _
    (λ ids h.
    tested_value a b c.moved_pointer.new.bank c.args.tests.now.items c.keep.new.tests.items ids _ _ tested
    (two_kept a b c.moved_pointer.new.bank c.args.pointer c.args.i ids
    (λ s t. of_word word (moved c.args.direction s (scaled W32 c.args.size (at_width c.args.index W32 t)))) test.is_grown c.requires.pointer_within c.requires.i_within h))
    c.moved_pointer.ensures
