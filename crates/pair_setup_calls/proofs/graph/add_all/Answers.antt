use Rattle.std.proofs.Common.{◌≡◌, ◌∙◌, ◌+◌, ◌≤◌, ◌++◌, ◌∷◌, [], List, ℕ, Bor, sym, ap, subst, arith}
use Rattle.std.specs.Prelude.{Vec}
use Rattle.std.specs.declared.alloc.Global.{Global}
use Rattle.std.proofs.lemmas.List.{map-append, length-map}
use Rattle.pair_setup_calls.specs.Graph.{graph_of}
use Rattle.c_types.specs.Typed.{typed_of}
use Rattle.c_types_scope.specs.declared.meaning.Meaning.{Meaning}
use Rattle.pair_setup_calls.specs.Names.{names_of}
use Rattle.pair_setup_calls.proofs.Bodies.{IsGraphBelow, graph-none, graph-more, graph-all}
use Rattle.pair_setup_calls.proofs.Indices.{names-apart}
use Rattle.pair_setup_calls.proofs.graph.add_all.Goals as goal

pub loop-caller-init : goal.loop-caller-init
loop-caller-init c =
    subst (λ (l : List (Vec ℕ Global)). IsGraphBelow (typed_of c.args.unit.now) (names_of c.args.unit.now) (graph_of l) 0) (sym c.requires)
    (graph-none (typed_of c.args.unit.now) (names_of c.args.unit.now))

pub loop-caller-preserved : goal.loop-caller-preserved
loop-caller-preserved c =
    subst (λ (l : List (List ℕ)). IsGraphBelow (typed_of c.args.unit.now) (names_of c.args.unit.now) l (c.loop-caller.caller + 1))
    (sym (ap graph_of c.in_ok-push.ensures.items ∙ map-append (λ (v : Vec ℕ Global). v.items) c.loop-caller.graph.items (c.in-Ok-attempt.field-0 ∷ [])))
    (graph-more (typed_of c.args.unit.now) (names_of c.args.unit.now) (graph_of c.loop-caller.graph.items) c.loop-caller.caller c.in-Ok-attempt.field-0.items
    c.loop-caller.invariant c.in-Ok-attempt.ensures)

pub returns-clause-graph : goal.returns-clause-graph
returns-clause-graph c =
    graph-all (typed_of c.args.unit.now) (names_of c.args.unit.now) (graph_of c.loop-caller.graph.items) c.loop-caller.caller c.loop-caller.invariant
    (subst (λ n. n ≤ c.loop-caller.caller) (sym (length-map c.args.unit.now.names.entries (λ (e : Bor (List ℕ) × Meaning). e.0.now))) (omega (arith, c.len-caller-end.ensures.len)))

pub returns-clause-apart : goal.returns-clause-apart
returns-clause-apart c = names-apart c.args.unit.now.names.entries c.len-caller-end.ensures.unique
