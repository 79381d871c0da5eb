use Rattle.std.proofs.Common.{List}
use Rattle.term_core_spec.specs.Term.{Term}
use Rattle.path_cond.specs.Ids.{id_at}
use Rattle.path_cond.proofs.Changed.{state_later, state_same}
use Rattle.path_cond.proofs.Positions.{none_united}
use Rattle.path_cond.proofs.members.none.Goals as goal

pub returns-clause-one : goal.returns-clause-one
returns-clause-one c = λ variables start has.
    let trees : List Term = c.add.new.self in
    none_united trees variables start c.in_ok-condition.condition c.in_ok-state.state c.in_ok-condition.ensures.id
    (state_same variables start trees (id_at c.args.first.now) (id_at c.in_ok-state.state) start c.in_ok-state.ensures
    (state_later variables start c.args.bank.now trees (id_at c.args.first.now) start c.add.ensures.extends has))
