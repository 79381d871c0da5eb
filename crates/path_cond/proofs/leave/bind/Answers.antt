use Rattle.std.proofs.Common.{◌≡◌, ℕ, List, None, ap, length}
use Rattle.std.specs.Prelude.{nat_eq}
use Rattle.std.specs.HashMap.{get}
use Rattle.std.specs.Map.{lookup}
use Rattle.term_core_spec.specs.Same.{same_variable}
use Rattle.path_cond.specs.Ids.{id_at}
use Rattle.path_cond.proofs.Changed.{numbered}
use Rattle.path_cond.proofs.Current.{below_set, current_set}
use Rattle.path_cond.proofs.leave.bind.Goals as goal

pub set_current-requires : goal.set_current-requires
set_current-requires c = numbered (length c.args.bank.now) (length c.args.variables.now.keys) (id_at c.args.state.now) c.requires.full

pub assign-requires-clause-current : goal.assign-requires-clause-current
assign-requires-clause-current c =
    below_set c.args.variables.now.keys (id_at c.args.state.now) (get same_variable c.args.current.now) (get same_variable c.set_current.new.current) c.in_ok-set_current.ensures
    (length c.args.bank.now) c.requires.full c.requires.current

pub returns-clause-state : goal.returns-clause-state
returns-clause-state c = λ start s holds outside.
    c.assign.ensures.state start s holds
    (current_set c.args.variables.now.keys (id_at c.args.state.now) (get same_variable c.args.current.now) (get same_variable c.set_current.new.current) c.in_ok-set_current.ensures
    c.args.bank.now start s holds outside)

pub assign-requires-clause-done : goal.assign-requires-clause-done
assign-requires-clause-done c = λ id. ap (λ (entries : List (ℕ × ℕ)). lookup (nat_eq id) entries) c.new-done.ensures.empty
