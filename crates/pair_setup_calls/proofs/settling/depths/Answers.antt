use Rattle.std.proofs.Common.{◌∙◌, sym}
use Rattle.std.proofs.lemmas.List.{length-map}
use Rattle.pair_setup_calls.specs.Graph.{graph_of}
use Rattle.pair_setup_calls.proofs.Complete.{depth-known}
use Rattle.pair_setup_calls.proofs.Cycles.{depth-acyclic}
use Rattle.pair_setup_calls.proofs.settling.depths.Goals as goal

pub returns-clause-acyclic : goal.returns-clause-acyclic
returns-clause-acyclic c = λ node depth e.
    depth-acyclic (graph_of c.args.graph.now) c.args.own.now node depth (c.in_ok-known.ensures.are node depth e)

pub returns-clause-complete : goal.returns-clause-complete
returns-clause-complete c =
    depth-known (graph_of c.args.graph.now) c.args.own.now c.in_ok-known.known.items c.in_ok-known.ensures.are c.in_ok-known.ensures.settled
    (c.in_ok-known.ensures.length ∙ sym (length-map c.args.graph.now (λ v. v.items)))
