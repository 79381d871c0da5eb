use Rattle.std.proofs.Common.{map, ap}
use Rattle.graph_core.specs.Graphs.{binding_of, graph_of, bindings_of}
use Rattle.decompile.specs.Settings.{setting_of}
use Rattle.decompile.proofs.Added.{tail_call_added}
use Rattle.decompile.proofs.function.Function.add_tail_call.Goals as goal

pub returns : goal.returns
returns c =
    tail_call_added (setting_of c.args.self.now) c.args.item.now.address c.args.item.now.keeps c.args.item.now.instruction (graph_of c.add_plain.new.graph) (graph_of c.args.graph.now)
    c.args.target c.in_ok-call.call c.graph_number-callee.result c.in_ok-landing.landing (graph_of c.add_home.new.graph) (graph_of c.add.new.self)
    (bindings_of c.in_ok-inputs.inputs) (bindings_of c.new.result) c.requires (ap (map binding_of) c.new.ensures.items) c.in_ok-call.ensures
    c.graph_number-callee.ensures c.in_ok-inputs.ensures c.in_ok-landing.ensures c.in_ok-add_home.ensures c.in_ok-add.ensures.added c.in_ok-add_plain.ensures
