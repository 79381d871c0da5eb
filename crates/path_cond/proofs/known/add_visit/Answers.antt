use Rattle.std.proofs.Common.{◌≡◌, List, [], Option, length, sym, ap, subst}
use Rattle.std.specs.HashMap.{get}
use Rattle.std.proofs.lemmas.Result.{on_ok_weaker}
use Rattle.std.proofs.lemmas.Option.{get_or_from_slice_get}
use Rattle.term_core_spec.specs.Same.{same_variable}
use Rattle.term_core_spec.specs.Term.{Term}
use Rattle.graph_core_spec.specs.Graph.{Node}
use Rattle.graph_core_spec.specs.declared.Next.TheVariants as next
use Rattle.graph_core.specs.Graphs.{graph_of}
use Rattle.path_cond_spec.specs.Junctions.{Junction}
use Rattle.path_cond_spec.specs.Conditions.{Conditional, along, conditional_next, node_of_place, node_of_junction}
use Rattle.path_cond.specs.Branches.{IsLeft}
use Rattle.path_cond.proofs.Arriving.{known_edges}
use Rattle.path_cond.proofs.Banks.{extends_then}
use Rattle.path_cond.proofs.Current.{outside_later}
use Rattle.path_cond.proofs.Tables.{conditional_later, known_later, known_pushed}
use Rattle.path_cond.proofs.known.add_visit.Goals as goal

pub returns-clause-known : goal.returns-clause-known
returns-clause-known c = λ start js cs are there first outside earlier.
    let V = c.args.variables.now.keys in
    let g = graph_of c.args.graph.now in
    let b0 : List Term = c.args.bank.now in
    let b1 : List Term = c.enter.new.bank in
    let b2 : List Term = c.leave.new.bank in
    let j : Junction = record { place = c.args.place; edges = c.args.edges.now } in
    let d : Conditional = conditional_next g js start cs j in
    let entered = c.in_ok-condition.ensures.entered start (along g js start cs) first (known_edges b0 V start g js c.args.known.now cs are c.args.edges.now earlier) in
    let left = c.in_ok-leaving.ensures.left start d entered.condition entered.state
    (outside_later b0 b1 c.enter.ensures.extends (get same_variable c.args.current.now) c.requires.current V start outside) in
    let node : node_of_place g c.args.place ≡ node_of_junction g js (length cs) =
    ap (λ (x : Junction). node_of_place g x.place) (sym (get_or_from_slice_get js (length cs) j (record { place = next.Err; edges = [] }) there)) in
    on_ok_weaker c.push.result
    (λ pushed. known_pushed V start g js b2 c.args.known.now c.push.new.self cs d c.in_ok-condition.condition c.in_ok-condition.state c.in_ok-leaving.leaving c.in_ok-leaving.after
    (known_later V start g js b0 b2 c.args.known.now cs (extends_then b0 b1 b2 c.enter.ensures.extends c.leave.ensures.extends) are)
    pushed
    (conditional_later V start b1 b2 d (c.in_ok-condition.condition, c.in_ok-condition.state) c.leave.ensures.extends entered)
    (subst (λ (o : Option Node). IsLeft b2 V start o d (c.in_ok-leaving.leaving, c.in_ok-leaving.after)) node left))
    c.push.ensures

pub returns-clause-current : goal.returns-clause-current
returns-clause-current c =
    let V = c.args.variables.now.keys in
    let b0 : List Term = c.args.bank.now in
    let b1 : List Term = c.enter.new.bank in
    let stays = c.in_ok-leaving.ensures.current in
    on_ok_weaker c.push.result
    (λ pushed. record {
      below = stays.below;
      outside = λ start outside. stays.outside start (outside_later b0 b1 c.enter.ensures.extends (get same_variable c.args.current.now) c.requires.current V start outside);
    })
    c.push.ensures
