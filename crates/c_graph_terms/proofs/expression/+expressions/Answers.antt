use Rattle.std.proofs.Common.{◌≡◌, ◌∙◌, ℕ, List, [], ◌∷◌, ◌++◌, length, map, refl, sym, ap, subst, rules}
use Rattle.std.proofs.lemmas.Result.{IfOk-weaker}
use Rattle.term_core_spec.specs.Term.{Term}
use Rattle.term_core_spec.specs.declared.Width.TheVariants.{W32}
use Rattle.term_bank.specs.Nodes.{tree_at}
use Rattle.c_types_spec.specs.declared.Order.{Order}
use Rattle.c_types_spec.specs.declared.Order.TheVariants.{PointerFirst, IndexFirst}
use Rattle.c_types_spec.specs.Core.{Core, Constant, Move, type_of}
use Rattle.c_types_core.proofs.Views.{Constant-view, GlobalAddress-view, ReadLocal-view, Target-view}
use Rattle.c_types_spec.specs.Types.{word}
use Rattle.c_types_core.specs.Expressions.{core_of}
use Rattle.c_graph_spec.specs.State.{width_of, value_constant}
use Rattle.c_graph_spec.specs.Values.{Globals, Object, Terms, object, of_word, loaded, computed, at_width, moved, scaled, terms, tests_zero}
use Rattle.c_graph_spec.specs.Guards.{tests, read_tests, operator_tests, is_pointer_moved, is_within, is_aligned, under}
use Rattle.c_graph_terms.specs.declared.values.ValueIds.{ValueIds}
use Rattle.c_graph_terms.specs.Built.{BuildsTerms}
use Rattle.c_graph_terms.specs.Tables.{AreWithin}
use Rattle.c_graph_terms.specs.Scenes.{EvaluatesTo, globals_of, object_at}
use Rattle.c_graph_terms.specs.Tests.{IsTested, IsEvaluated}
use Rattle.c_graph_terms.proofs.Banks.{grown_then}
use Rattle.c_graph_terms.proofs.Lists.{untested, ids_within}
use Rattle.c_graph_terms.proofs.Expressions.{object_later, over_one, value_of_one, same_value, both_values, over_two, operated_two, compared_two, under_condition, chosen_one}
use Rattle.c_graph_terms.proofs.expression.+expressions.Goals as goal

pub load-returns-2 : goal.load-returns-2
unfolding terms tests
load-returns-2 t c = λ offset.
    let g : Globals = globals_of c.args.scene.now in
    let o : Object = object_at c.args.bank.now c.args.scene.now.target in
    let x : Core = core_of c.args.address.now in
    IfOk-weaker c.read_object.result _ _
    (λ ids h.
    over_one c.args.bank.now c.evaluate.new.bank c.read_object.new.bank c.args.tests.now.items c.evaluate.new.tests.items c.read_object.new.tests.items c.in-Ok-attempt.field-0 ids (terms g o x) (tests g o x)
    (λ s. of_word c.args.of (loaded c.args.of (object s c.args.displacement))) (λ s. read_tests c.args.of (object s c.args.displacement)) c.in-Ok-attempt.ensures h)
    c.read_object.ensures

pub convert-returns-2 : goal.convert-returns-2
unfolding terms tests
convert-returns-2 t c =
    let g : Globals = globals_of c.args.scene.now in
    let o : Object = object_at c.args.bank.now c.args.scene.now.target in
    let x : Core = core_of c.args.operand.now in
    IfOk-weaker c.converted.result _ _
    (λ ids h.
    value_of_one c.args.bank.now c.evaluate.new.bank c.converted.new.bank c.args.tests.now.items c.evaluate.new.tests.items c.in-Ok-attempt.field-0 ids (terms g o x) (tests g o x)
    (λ s. of_word c.args.of (at_width (type_of x) (width_of c.args.of) s)) c.in-Ok-attempt.ensures (rw (← c.type_of.ensures) h))
    c.converted.ensures

pub both-returns-3 : goal.both-returns-3
both-returns-3 t c =
    let g : Globals = globals_of c.args.scene.now in
    let o : Object = object_at c.args.bank.now c.args.scene.now.target in
    let x : Core = core_of c.args.first.now in
    let y : Core = core_of c.args.second.now in
    let same : object_at c.evaluate.new.bank c.args.scene.now.target ≡ o = object_later c.args.bank.now c.evaluate.new.bank c.args.scene.now.target c.in-Ok-attempt.ensures.tested.is_grown c.requires in
    let second : IsEvaluated c.evaluate.new.bank c.evaluate-2.new.bank c.evaluate.new.tests.items c.evaluate-2.new.tests.items c.in-Ok-attempt-second.field-0 (terms g o y) (tests g o y) =
    subst (λ (s : Object). IsEvaluated c.evaluate.new.bank c.evaluate-2.new.bank c.evaluate.new.tests.items c.evaluate-2.new.tests.items c.in-Ok-attempt-second.field-0 (terms g s y) (tests g s y)) same c.in-Ok-attempt-second.ensures in
    both_values c.args.bank.now c.evaluate.new.bank c.evaluate-2.new.bank c.args.tests.now.items c.evaluate.new.tests.items c.evaluate-2.new.tests.items c.in-Ok-attempt.field-0 c.in-Ok-attempt-second.field-0
    (terms g o x) (terms g o y) (tests g o x) (tests g o y) c.in-Ok-attempt.ensures second

pub operate-returns-2 : goal.operate-returns-2
unfolding terms tests
operate-returns-2 t c = λ offset.
    let g : Globals = globals_of c.args.scene.now in
    let o : Object = object_at c.args.bank.now c.args.scene.now.target in
    let x : Core = core_of c.args.left.now in
    let y : Core = core_of c.args.right.now in
    IfOk-weaker c.operated.result _ _
    (λ ids h.
    operated_two c.args.bank.now c.both.new.bank c.operated.new.bank c.args.tests.now.items c.both.new.tests.items c.operated.new.tests.items c.in-Ok-attempt.field-0 ids (terms g o x) (terms g o y) (tests g o x) (tests g o y)
    (λ r s. of_word c.args.of (computed c.args.operator c.args.of r (at_width (type_of y) (width_of c.args.of) s))) (λ r s. operator_tests c.args.operator c.args.of (type_of y) r s) c.in-Ok-attempt.ensures
    (rw (← c.type_of.ensures) h))
    c.operated.ensures

pub compare-returns-2 : goal.compare-returns-2
unfolding terms tests
compare-returns-2 t c =
    let g : Globals = globals_of c.args.scene.now in
    let o : Object = object_at c.args.bank.now c.args.scene.now.target in
    let x : Core = core_of c.args.left.now in
    let y : Core = core_of c.args.right.now in
    IfOk-weaker c.compared_value.result _ _
    (λ ids h.
    compared_two c.args.bank.now c.both.new.bank c.compared_value.new.bank c.args.tests.now.items c.both.new.tests.items c.in-Ok-attempt.field-0 ids (terms g o x) (terms g o y) (tests g o x ++ tests g o y)
    c.args.operator (type_of x) (tests_zero c.args.operator y) c.in-Ok-attempt.ensures (rw (← c.type_of.ensures, ← c.tests_zero-with_zero.ensures) h))
    c.compared_value.ensures

pub move_pointer-returns-in-Ok-attempt : goal.move_pointer-returns-in-Ok-attempt
unfolding terms tests
move_pointer-returns-in-Ok-attempt t c = λ offset.
    let g : Globals = globals_of c.args.scene.now in
    let o : Object = object_at c.args.bank.now c.args.scene.now.target in
    let x : Core = core_of c.args.pointer.now in
    let y : Core = core_of c.args.index.now in
    let whole : EvaluatesTo c.args.scene.now c.args.bank.now c.moved_value.new.bank c.args.tests.now.items c.moved_value.new.tests.items c.moved_value.result (Move c.args.direction PointerFirst c.args.size x y offset) =
    IfOk-weaker c.moved_value.result _ _
    (λ ids h.
    over_two c.args.bank.now c.both.new.bank c.moved_value.new.bank c.args.tests.now.items c.both.new.tests.items c.moved_value.new.tests.items c.in-Ok-attempt.field-0 ids (terms g o x) (terms g o y) (tests g o x ++ tests g o y)
    (λ p i. of_word word (moved c.args.direction p (scaled W32 c.args.size (at_width (type_of y) W32 i)))) (λ p i. is_pointer_moved c.args.direction c.args.size p (type_of y) i ∷ []) c.in-Ok-attempt.ensures
    (rw (← c.type_of.ensures) h))
    c.moved_value.ensures in
    subst (λ (order : Order). EvaluatesTo c.args.scene.now c.args.bank.now c.moved_value.new.bank c.args.tests.now.items c.moved_value.new.tests.items c.moved_value.result (Move c.args.direction order c.args.size x y offset)) (sym c.in-PointerFirst.is) whole

pub move_pointer-returns-in-Ok-attempt-given : goal.move_pointer-returns-in-Ok-attempt-given
unfolding terms tests
move_pointer-returns-in-Ok-attempt-given t c = λ offset.
    let g : Globals = globals_of c.args.scene.now in
    let o : Object = object_at c.args.bank.now c.args.scene.now.target in
    let x : Core = core_of c.args.pointer.now in
    let y : Core = core_of c.args.index.now in
    let whole : EvaluatesTo c.args.scene.now c.args.bank.now c.moved_value-in-IndexFirst.new.bank c.args.tests.now.items c.moved_value-in-IndexFirst.new.tests.items c.moved_value-in-IndexFirst.result (Move c.args.direction IndexFirst c.args.size x y offset) =
    IfOk-weaker c.moved_value-in-IndexFirst.result _ _
    (λ ids h.
    over_two c.args.bank.now c.both-in-IndexFirst.new.bank c.moved_value-in-IndexFirst.new.bank c.args.tests.now.items c.both-in-IndexFirst.new.tests.items c.moved_value-in-IndexFirst.new.tests.items c.in-Ok-attempt-given.field-0 ids (terms g o y) (terms g o x) (tests g o y ++ tests g o x)
    (λ i p. of_word word (moved c.args.direction p (scaled W32 c.args.size (at_width (type_of y) W32 i)))) (λ i p. is_pointer_moved c.args.direction c.args.size p (type_of y) i ∷ []) c.in-Ok-attempt-given.ensures
    (rw (← c.type_of-in-IndexFirst.ensures) h))
    c.moved_value-in-IndexFirst.ensures in
    subst (λ (order : Order). EvaluatesTo c.args.scene.now c.args.bank.now c.moved_value-in-IndexFirst.new.bank c.args.tests.now.items c.moved_value-in-IndexFirst.new.tests.items c.moved_value-in-IndexFirst.result (Move c.args.direction order c.args.size x y offset)) (sym c.in-IndexFirst.is) whole

pub within-returns-2 : goal.within-returns-2
unfolding terms tests
within-returns-2 t c = λ offset.
    let g : Globals = globals_of c.args.scene.now in
    let o : Object = object_at c.args.bank.now c.args.scene.now.target in
    let x : Core = core_of c.args.index.now in
    IfOk-weaker c.bounded.result _ _
    (λ ids h.
    same_value c.args.bank.now c.evaluate.new.bank c.bounded.new.bank c.args.tests.now.items c.evaluate.new.tests.items c.bounded.new.tests.items c.in-Ok-attempt.field-0 ids (terms g o x) (tests g o x)
    (λ s. is_within c.args.bound (type_of x) s ∷ []) c.in-Ok-attempt.ensures (rw (← c.type_of.ensures) h))
    c.bounded.ensures

pub aligned-returns-2 : goal.aligned-returns-2
unfolding terms tests
aligned-returns-2 t c = λ offset.
    let g : Globals = globals_of c.args.scene.now in
    let o : Object = object_at c.args.bank.now c.args.scene.now.target in
    let x : Core = core_of c.args.pointer.now in
    IfOk-weaker c.at_alignment.result _ _
    (λ ids h.
    same_value c.args.bank.now c.evaluate.new.bank c.at_alignment.new.bank c.args.tests.now.items c.evaluate.new.tests.items c.at_alignment.new.tests.items c.in-Ok-attempt.field-0 ids (terms g o x) (tests g o x)
    (λ s. is_aligned c.args.alignment s ∷ []) c.in-Ok-attempt.ensures h)
    c.at_alignment.ensures

own_ids : (old new : List Term) (start own : List ℕ) (x : ValueIds) (t : Terms) (asked : List Term) → start ≡ [] → IsEvaluated old new start own x t asked → IsEvaluated old new [] own x t asked
own_ids old new start own x t asked e h = subst (λ (l : List ℕ). IsEvaluated old new l own x t asked) e h

pub arm-add_under-requires-clause-own_within : goal.arm-add_under-requires-clause-own_within
arm-add_under-requires-clause-own_within t c =
    let b = c.evaluate.new.bank in
    let own = c.evaluate.new.tests.items in
    let whole = own_ids c.args.bank.now b c.new-own.result.items own c.in-Ok-attempt.field-0 _ _ c.new-own.ensures.items c.in-Ok-attempt.ensures in
    subst (λ (l : List ℕ). AreWithin (length b) l) (sym c.as_slice.ensures.value) (ids_within b own _ (whole.tested.added [] refl))

pub arm-returns-3 : goal.arm-returns-3
arm-returns-3 t c =
    let a = c.args.bank.now in
    let b = c.evaluate.new.bank in
    let own = c.evaluate.new.tests.items in
    let whole = own_ids a b c.new-own.result.items own c.in-Ok-attempt.field-0 _ _ c.new-own.ensures.items c.in-Ok-attempt.ensures in
    let tested : IsTested b c.add_under.new.bank c.args.tests.now.items c.add_under.new.tests.items (map (under (tree_at b c.args.condition)) (map (tree_at b) own)) =
    subst (λ (l : List ℕ). IsTested b c.add_under.new.bank c.args.tests.now.items c.add_under.new.tests.items (map (under (tree_at b c.args.condition)) (map (tree_at b) l))) c.as_slice.ensures.value c.in-Ok-attempt-2.ensures in
    under_condition a b c.add_under.new.bank own c.args.tests.now.items c.add_under.new.tests.items c.in-Ok-attempt.field-0 _ _ c.args.condition c.requires.condition_within whole tested

pub choose-returns-5 : goal.choose-returns-5
unfolding terms tests
choose-returns-5 t c = λ of.
    let g : Globals = globals_of c.args.scene.now in
    let target = c.args.scene.now.target in
    let a = c.args.bank.now in
    let b = c.evaluate.new.bank in
    let d = c.opposite.new.bank in
    let o : Object = object_at a target in
    let x : Core = core_of c.args.test.now in
    let y : Core = core_of c.args.first.now in
    let z : Core = core_of c.args.second.now in
    let test = c.in-Ok-attempt.ensures in
    let below = c.requires in
    let at_b : object_at b target ≡ o = object_later a b target test.tested.is_grown below in
    let first : IsEvaluated b c.arm.new.bank c.evaluate.new.tests.items c.arm.new.tests.items c.in-Ok-attempt-first.field-0 (terms g o y) (map (under (tree_at b c.in-Ok-attempt.field-0.truth)) (tests g o y)) =
    subst (λ (s : Object). IsEvaluated b c.arm.new.bank c.evaluate.new.tests.items c.arm.new.tests.items c.in-Ok-attempt-first.field-0 (terms g s y) (map (under (tree_at b c.in-Ok-attempt.field-0.truth)) (tests g s y))) at_b c.in-Ok-attempt-first.ensures in
    let a_to_d = grown_then a b d test.tested.is_grown (grown_then b c.arm.new.bank d first.tested.is_grown c.in-Ok-attempt-otherwise.ensures.is_grown) in
    let at_d : object_at d target ≡ o = object_later a d target a_to_d below in
    let second : IsEvaluated d c.arm-2.new.bank c.arm.new.tests.items c.arm-2.new.tests.items c.in-Ok-attempt-second.field-0 (terms g o z) (map (under (tree_at d c.in-Ok-attempt-otherwise.field-0)) (tests g o z)) =
    subst (λ (s : Object). IsEvaluated d c.arm-2.new.bank c.arm.new.tests.items c.arm-2.new.tests.items c.in-Ok-attempt-second.field-0 (terms g s z) (map (under (tree_at d c.in-Ok-attempt-otherwise.field-0)) (tests g s z))) at_d c.in-Ok-attempt-second.ensures in
    IfOk-weaker c.chosen.result _ _
    (λ ids h.
    chosen_one a b c.arm.new.bank d c.arm-2.new.bank c.chosen.new.bank c.args.tests.now.items c.evaluate.new.tests.items c.arm.new.tests.items c.arm-2.new.tests.items
    c.in-Ok-attempt.field-0 c.in-Ok-attempt-first.field-0 c.in-Ok-attempt-second.field-0 ids c.in-Ok-attempt-otherwise.field-0 (terms g o x) (terms g o y) (terms g o z) (tests g o x) (tests g o y) (tests g o z)
    test first c.in-Ok-attempt-otherwise.ensures second h)
    c.chosen.ensures

pub evaluate-returns-in-Constant : goal.evaluate-returns-in-Constant
unfolding terms tests
evaluate-returns-in-Constant t c =
    let a = c.args.bank.now in
    let b = c.constant.new.bank in
    let i = c.args.tests.now.items in
    let built : BuildsTerms a b c.constant.result (of_word c.in-Constant.of (value_constant c.in-Constant.of c.in-Constant.value)) = search rules in
    let is : core_of c.args.x.now ≡ Constant c.in-Constant.of c.in-Constant.value = ap core_of c.in-Constant.is ∙ Constant-view c.in-Constant.of c.in-Constant.value in
    subst (λ (core : Core). EvaluatesTo c.args.scene.now a b i i c.constant.result core) (sym is)
    (IfOk-weaker c.constant.result _ _ (λ ids h. untested a b i ids _ h) built)

pub evaluate-returns-in-GlobalAddress : goal.evaluate-returns-in-GlobalAddress
unfolding terms tests
evaluate-returns-in-GlobalAddress t c =
    subst (λ (core : Core). EvaluatesTo c.args.scene.now c.args.bank.now c.global_value.new.bank c.args.tests.now.items c.args.tests.now.items c.global_value.result core) (sym (ap core_of c.in-GlobalAddress.is ∙ GlobalAddress-view _))
    (IfOk-weaker c.global_value.result _ _ (λ ids h. untested c.args.bank.now c.global_value.new.bank c.args.tests.now.items ids _ h) c.global_value.ensures)

pub evaluate-returns-in-ReadLocal : goal.evaluate-returns-in-ReadLocal
unfolding terms tests
evaluate-returns-in-ReadLocal t c =
    subst (λ (core : Core). EvaluatesTo c.args.scene.now c.args.bank.now c.read_local.new.bank c.args.tests.now.items c.read_local.new.tests.items c.read_local.result core) (sym (ap core_of c.in-ReadLocal.is ∙ ReadLocal-view _ _ _))
    c.read_local.ensures

pub evaluate-returns-in-Target : goal.evaluate-returns-in-Target
unfolding terms tests
evaluate-returns-in-Target t c =
    subst (λ (core : Core). EvaluatesTo c.args.scene.now c.args.bank.now c.read_object.new.bank c.args.tests.now.items c.read_object.new.tests.items c.read_object.result core) (sym (ap core_of c.in-Target.is ∙ Target-view _ _))
    c.read_object.ensures
