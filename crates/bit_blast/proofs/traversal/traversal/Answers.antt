use Rattle.std.proofs.Common.{◌<◌, ◌∙◌, ◌++◌, ◌∷◌, [], List, sym, ap, subst, arith}
use Rattle.std.specs.Prelude.{nat_eq}
use Rattle.std.specs.Map.{lookup}
use Rattle.term_bank.specs.Nodes.{tree_at}
use Rattle.bit_blast_spec.specs.Goal.{visit}
use Rattle.bit_blast.specs.Steps.{weights}
use Rattle.bit_blast.specs.declared.state.Task.{Task}
use Rattle.bit_blast.specs.declared.state.Task.TheVariants.{Visit}
use Rattle.bit_blast.specs.Tasks.{steps_of}
use Rattle.bit_blast.specs.Turns.{Consistent}
use Rattle.bit_blast.proofs.Within.{whole_built, left_at, count_so_far}
use Rattle.bit_blast.proofs.Traversing.{Traverses, traverses_start, traverses_turned, traverses_end, traverses_pop, nothing_left}
use Rattle.bit_blast.proofs.traversal.traversal.Goals as goal

pub tasks-init : goal.tasks-init
tasks-init c =
    subst (Traverses c.args.bank.now c.args.goal c.args.gates (record { gates = c.args.gates; table = c.new.result; indices = c.new-2.result; tasks = c.push.new.self }))
    (sym (c.in-Ok-attempt.ensures.items ∙ ap (λ (tasks : List Task). tasks ++ Visit c.args.goal ∷ []) c.new-tasks.ensures.items))
    (traverses_start c.args.bank.now c.args.goal (record { gates = c.args.gates; table = c.new.result; indices = c.new-2.result; tasks = c.push.new.self }) c.requires c.new.ensures
    (λ id. ap (lookup (nat_eq id)) c.new-2.ensures.empty))

pub turn-requires : goal.turn-requires
turn-requires c = subst (Consistent c.args.bank.now c.tasks.traversal.indices c.tasks.traversal.table) c.in-Some.ensures.items c.tasks.invariant.consistent

pub tasks-preserved : goal.tasks-preserved
tasks-preserved c =
    traverses_turned c.args.bank.now c.args.goal c.args.gates
    (record { gates = c.tasks.traversal.gates; table = c.tasks.traversal.table; indices = c.tasks.traversal.indices; tasks = c.pop.new.self }) c.turn.new.self
    (c.pop.new.self.items ++ c.in-Some.task ∷ [])
    (traverses_pop c.args.bank.now c.args.goal c.args.gates c.tasks.traversal c.pop.new.self c.in-Some.task c.in-Some.ensures.items c.tasks.invariant) c.in-Ok-attempt-2.ensures

pub tasks-smaller : goal.tasks-smaller
tasks-smaller c =
    subst (λ (tasks : List Task). weights (steps_of c.args.bank.now c.turn.new.self.tasks.items) < weights (steps_of c.args.bank.now tasks)) (sym c.in-Some.ensures.items)
    c.in-Ok-attempt-2.ensures.lighter

pub returns-2-clause-built : goal.returns-2-clause-built
returns-2-clause-built c =
    whole_built (traverses_end c.args.bank.now c.args.goal c.args.gates c.tasks.traversal
    (nothing_left c.args.bank.now c.args.goal c.args.gates c.tasks.traversal c.tasks.traversal.tasks.items (omega (arith, c.in_default.ensures.cases.0)) c.tasks.invariant))

pub returns-2-clause-indices : goal.returns-2-clause-indices
returns-2-clause-indices c = c.tasks.invariant.consistent.indexed

pub returns-2-clause-indexed : goal.returns-2-clause-indexed
returns-2-clause-indexed c = λ small.
    (nothing_left c.args.bank.now c.args.goal c.args.gates c.tasks.traversal c.tasks.traversal.tasks.items (omega (arith, c.in_default.ensures.cases.0)) c.tasks.invariant).due

pub returns-then-last-maximum-clause-built : goal.returns-then-last-maximum-clause-built
returns-then-last-maximum-clause-built c =
    left_at c.args.maximum (visit (tree_at c.args.bank.now c.args.goal) []) c.args.gates c.tasks.traversal.gates c.tasks.traversal.table
    (omega (arith, c.last.ensures, c.if-last-maximum.true)) (count_so_far c.tasks.invariant.continues)
