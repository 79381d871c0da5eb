use Rattle.std.proofs.Common.{◌≡◌, ◌∙◌, [], sym, subst}
use Rattle.std.specs.Prelude.{List}
use Rattle.graph_core_spec.specs.Graph.{Binding}
use Rattle.graph_core.specs.declared.shared.SharedBinding.{SharedBinding}
use Rattle.term_core_spec.specs.Term.{open_term}
use Rattle.c_graph_spec.specs.State.{result, width_of}
use Rattle.c_graph_spec.specs.Values.{at_width}
use Rattle.c_graph_spec.specs.Layout.{set_local}
use Rattle.c_graph.specs.Bound.{AreAdded}
use Rattle.c_graph.specs.Frames.{setting_in}
use Rattle.c_graph.proofs.Added.{bound_as, nothing_added, outputs_none, outputs_some, outputs_void}
use Rattle.c_graph.proofs.bindings.outputs.Goals as goal

pub returns-in-None : goal.returns-in-None
returns-in-None c =
    let f = setting_in c.args.frame.now in
    bound_as c.args.bank.now c.args.bank.now [] c.new-bindings.result.items [] _ (outputs_none f c.args.function.now c.args.into c.in-None.is)
    (nothing_added c.args.bank.now [] c.new-bindings.result.items c.new-bindings.ensures.items)

pub returns-in-None-result_type : goal.returns-in-None-result_type
returns-in-None-result_type c =
    let f = setting_in c.args.frame.now in
    bound_as c.args.bank.now c.args.bank.now [] c.new-bindings.result.items [] _
    (outputs_void f c.args.function.now c.args.into c.in-Some.number c.in-Some.is (sym c.result_type.ensures ∙ c.in-None-result_type.is))
    (nothing_added c.args.bank.now [] c.new-bindings.result.items c.new-bindings.ensures.items)

pub returns-in-Ok-attempt : goal.returns-in-Ok-attempt
returns-in-Ok-attempt c =
    let f = setting_in c.args.frame.now in
    let b = c.bind_result.new.bank in
    let made = c.bind_result.new.bindings.items in
    bound_as c.args.bank.now b [] made _ _ (outputs_some f c.args.function.now c.args.into c.in-Some.number c.in-Some-result_type.of c.in-Some.is (sym c.result_type.ensures ∙ c.in-Some-result_type.is))
    (subst (λ (l : List SharedBinding). AreAdded c.args.bank.now b l made
    (set_local c.in-Some.number (f.local_type c.in-Some.number) (at_width c.in-Some-result_type.of (width_of (f.local_type c.in-Some.number)) (open_term (result c.in-Some-result_type.of))))) c.new-bindings.ensures.items c.in-Ok-attempt.ensures)
