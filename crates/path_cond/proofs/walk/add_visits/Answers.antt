use Rattle.std.proofs.Common.{◌≡◌, ◌∙◌, ℕ, ◌+◌, ◌<◌, List, [], ◌∷◌, ◌++◌, length, take, Some, sym, ap, subst, arith}
use Rattle.std.specs.Prelude.{slice_get}
use Rattle.std.specs.List.{All}
use Rattle.std.proofs.lemmas.List.{take_all}
use Rattle.term_core_spec.specs.Term.{Term}
use Rattle.term_core_spec.specs.Substitution.{State}
use Rattle.graph_core.specs.Graphs.{graph_of}
use Rattle.visit_walk_spec.specs.declared.Incoming.{Incoming}
use Rattle.path_cond_spec.specs.Junctions.{Junction, junction_at}
use Rattle.path_cond_spec.specs.Conditions.{Conditional, conditionals, conditional_next}
use Rattle.path_cond.specs.Ids.{id_at}
use Rattle.path_cond.specs.Listed.{junctions_of}
use Rattle.path_cond.specs.Table.{AreArriving, AreKnown}
use Rattle.path_cond.proofs.Arriving.{known_arriving}
use Rattle.path_cond.proofs.Banks.{extends_itself, extends_then}
use Rattle.path_cond.proofs.Changed.{state_later}
use Rattle.path_cond.proofs.Current.{full_state}
use Rattle.path_cond.proofs.Listed.{count_listed, listed_at}
use Rattle.path_cond.proofs.Walking.{count_all, next_one, count_taken, earlier_taken, at_junction, known_none}
use Rattle.path_cond.proofs.walk.add_visits.Goals as goal

pub loop-position-init : goal.loop-position-init
loop-position-init c = record {
  extends = extends_itself c.args.bank.now;
  below = c.requires.below;
  outside = λ start is. is.outside;
  visits = λ start is. known_none c.args.bank.now c.args.variables.now.keys start (graph_of c.args.graph.now) (junctions_of c.args.visits.now) c.args.known.now c.requires.nothing;
}

pub add_visit-requires-clause-arriving : goal.add_visit-requires-clause-arriving
add_visit-requires-clause-arriving c =
    let start : State = c.requires.some.0 in
    let graph = graph_of c.args.graph.now in
    let js : List Junction = junctions_of c.args.visits.now in
    let i : ℕ = c.loop-position.position in
    let V = c.args.variables.now.keys in
    let all : length js ≡ length c.args.visits.now.visits = count_listed c.args.visits.now in
    let less : i < length js = omega arith in
    subst (λ (es : List Incoming). AreArriving (length c.loop-position.bank) (length V) c.loop-position.known es) (sym (c.incoming-edges.ensures ∙ ap (λ (x : Junction). x.edges) (sym (listed_at c.args.visits.now i (omega arith)))))
    (known_arriving c.loop-position.bank V start graph js c.loop-position.known (take i (conditionals graph js start)) (c.loop-position.invariant.visits start c.requires.some.1)
    (junction_at js i).edges (earlier_taken graph js start c.requires.earlier i less))

pub add_visit-requires-clause-first : goal.add_visit-requires-clause-first
add_visit-requires-clause-first c =
    let start : State = c.requires.some.0 in
    let V = c.args.variables.now.keys in
    full_state V c.loop-position.bank start (id_at c.args.first.now) start
    (state_later V start c.args.bank.now c.loop-position.bank (id_at c.args.first.now) start c.loop-position.invariant.extends c.requires.some.1.first)

pub loop-position-preserved : goal.loop-position-preserved
loop-position-preserved c =
    let graph = graph_of c.args.graph.now in
    let js : List Junction = junctions_of c.args.visits.now in
    let i : ℕ = c.loop-position.position in
    let V = c.args.variables.now.keys in
    let b1 : List Term = c.loop-position.bank in
    let b2 : List Term = c.add_visit.new.bank in
    let all : length js ≡ length c.args.visits.now.visits = count_listed c.args.visits.now in
    let less : i < length js = omega arith in
    let at = listed_at c.args.visits.now i (omega arith) in
    let place : c.place-place.result ≡ (junction_at js i).place = c.place-place.ensures ∙ ap (λ (x : Junction). x.place) (sym at) in
    let edges : c.incoming-edges.result.now ≡ (junction_at js i).edges = c.incoming-edges.ensures ∙ ap (λ (x : Junction). x.edges) (sym at) in
    let j : Junction = record { place = c.place-place.result; edges = c.incoming-edges.result.now } in
    let is : junction_at js i ≡ j = λ x. record { place = sym place x; edges = sym edges x } in
    record {
      extends = extends_then c.args.bank.now b1 b2 c.loop-position.invariant.extends c.add_visit.ensures.extends;
      below = c.in_ok-add_visit.ensures.current.below;
      outside = λ start at_start. c.in_ok-add_visit.ensures.current.outside start (c.loop-position.invariant.outside start at_start);
      visits = λ start at_start.
          let cs : List Conditional = take i (conditionals graph js start) in
          let count : length cs ≡ i = count_taken graph js start i (omega arith) in
          let there : slice_get js (length cs) ≡ Some j = ap (slice_get js) count ∙ at_junction js i less ∙ ap Some is in
          let earlier : All (λ (e : Incoming). e.source < length cs) c.incoming-edges.result.now =
          subst (λ (es : List Incoming). All (λ (e : Incoming). e.source < length cs) es) (sym edges) (earlier_taken graph js start c.requires.earlier i less) in
          let first = state_later V start c.args.bank.now b1 (id_at c.args.first.now) start c.loop-position.invariant.extends at_start.first in
          let known : AreKnown b2 V start graph js c.add_visit.new.known (cs ++ conditional_next graph js start cs j ∷ []) =
          c.in_ok-add_visit.ensures.known start js cs (c.loop-position.invariant.visits start at_start) there first (c.loop-position.invariant.outside start at_start) earlier in
          let next : cs ++ conditional_next graph js start cs j ∷ [] ≡ take (i + 1) (conditionals graph js start) =
          ap (λ (x : Junction). cs ++ conditional_next graph js start cs x ∷ []) (sym is) ∙ sym (next_one graph js start i less) in
          subst (λ (l : List Conditional). AreKnown b2 V start graph js c.add_visit.new.known l) next known;
    }

pub returns-clause-known : goal.returns-clause-known
returns-clause-known c = λ start at_start.
    let graph = graph_of c.args.graph.now in
    let js : List Junction = junctions_of c.args.visits.now in
    let all : length js ≡ length c.args.visits.now.visits = count_listed c.args.visits.now in
    let count = count_all graph js start in
    subst (λ (l : List Conditional). AreKnown c.loop-position.bank c.args.variables.now.keys start graph js c.loop-position.known l)
    (take_all c.loop-position.position (conditionals graph js start) (omega arith)) (c.loop-position.invariant.visits start at_start)
