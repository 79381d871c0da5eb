use Rattle.std.proofs.Common.{map, ap}
use Rattle.graph_core.specs.Graphs.{binding_of, graph_of, bindings_of}
use Rattle.decompile.specs.Settings.{setting_of}
use Rattle.decompile.proofs.Added.{call_added, bad_call_added}
use Rattle.decompile.proofs.function.Function.add_call.Goals as goal

pub returns-then-is_multiple_of : goal.returns-then-is_multiple_of
returns-then-is_multiple_of c =
    call_added (setting_of c.args.self.now) c.args.item.now.address c.args.item.now.keeps c.args.item.now.instruction (graph_of c.add_plain.new.graph) (graph_of c.args.graph.now)
    c.args.target c.graph_number-callee.result c.in_ok-landing.landing (graph_of c.add.new.self) (bindings_of c.in_ok-inputs.inputs) (bindings_of c.new.result) c.onward.result
    (c.is_multiple_of.ensures.0 c.if-is_multiple_of.true) (ap (map binding_of) c.new.ensures.items) c.graph_number-callee.ensures c.in_ok-inputs.ensures c.in_ok-landing.ensures c.onward.ensures
    c.in_ok-add.ensures.added c.in_ok-add_plain.ensures

pub returns : goal.returns
returns c =
    bad_call_added (setting_of c.args.self.now) c.args.item.now.address c.args.item.now.keeps c.args.item.now.instruction (graph_of c.add_plain-2.new.graph) (graph_of c.args.graph.now)
    c.args.target (λ e. let yes = c.is_multiple_of.ensures.1 e in cc) c.in_ok-add_plain-2.ensures
