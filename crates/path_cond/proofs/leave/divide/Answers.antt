use Rattle.std.proofs.Common.{length}
use Rattle.std.specs.HashMap.{get}
use Rattle.term_core_spec.specs.Same.{same_variable}
use Rattle.path_cond.specs.Ids.{id_at}
use Rattle.path_cond.proofs.Changed.{numbered}
use Rattle.path_cond.proofs.Current.{below_set, current_set}
use Rattle.path_cond.proofs.leave.divide.Goals as goal

pub set_current-requires : goal.set_current-requires
set_current-requires c = numbered (length c.args.bank.now) (length c.args.variables.now.keys) (id_at c.args.state.now) c.requires.full

pub branches-requires-clause-current : goal.branches-requires-clause-current
branches-requires-clause-current c =
    below_set c.args.variables.now.keys (id_at c.args.state.now) (get same_variable c.args.current.now) (get same_variable c.set_current.new.current) c.in_ok-set_current.ensures
    (length c.args.bank.now) c.requires.full c.requires.current

pub returns-clause-branches : goal.returns-clause-branches
returns-clause-branches c = λ start s condition holds outside here.
    c.branches.ensures.branches condition s here
    (current_set c.args.variables.now.keys (id_at c.args.state.now) (get same_variable c.args.current.now) (get same_variable c.set_current.new.current) c.in_ok-set_current.ensures
    c.args.bank.now start s holds outside)
