use Rattle.std.specs.HashMap.{get}
use Rattle.term_core_spec.specs.Same.{same_variable}
use Rattle.term_core_spec.specs.Substitution.{State}
use Rattle.term_substitution.specs.States.{state_of}
use Rattle.path_cond.specs.Ids.{id_at}
use Rattle.path_cond.proofs.Changed.{state_later}
use Rattle.path_cond.proofs.Starting.{is_start, below_copied}
use Rattle.path_cond.proofs.walk.fill.Goals as goal

pub add_visits-requires-clause-below : goal.add_visits-requires-clause-below
add_visits-requires-clause-below c =
    below_copied c.args.bank.now c.start_ids.new.bank c.start_ids.ensures.extends (get same_variable c.args.start.now) (get same_variable c.in_ok-current.current)
    c.in_ok-current.ensures c.requires.below

pub add_visits-requires-clause-some : goal.add_visits-requires-clause-some
add_visits-requires-clause-some c = (
  state_of c.args.bank.now (get same_variable c.args.start.now),
  is_start c.args.bank.now c.start_ids.new.bank c.start_ids.ensures.extends c.args.conditions.now.variables.keys (get same_variable c.args.start.now) (get same_variable c.in_ok-current.current)
      c.in_ok-current.ensures c.requires.below (id_at c.in_ok-first.first) c.in_ok-first.ensures.state,
)

pub returns-clause-conditions : goal.returns-clause-conditions
returns-clause-conditions c =
    let start : State = state_of c.args.bank.now (get same_variable c.args.start.now) in
    let V = c.args.conditions.now.variables.keys in
    let is = is_start c.args.bank.now c.start_ids.new.bank c.start_ids.ensures.extends V (get same_variable c.args.start.now) (get same_variable c.in_ok-current.current)
    c.in_ok-current.ensures c.requires.below (id_at c.in_ok-first.first) c.in_ok-first.ensures.state in
    record {
      first = state_later V start c.start_ids.new.bank c.add_visits.new.bank (id_at c.in_ok-first.first) start c.add_visits.ensures.extends c.in_ok-first.ensures.state;
      visits = c.in_ok-add_visits.ensures.known start is;
    }
