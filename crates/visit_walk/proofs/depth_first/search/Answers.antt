use Rattle.std.proofs.Common.{[], ◌∷◌, ◌++◌, map, reverse, sym, ◌∙◌, ap, subst, Some}
use Rattle.std.specs.Prelude.{nat_eq}
use Rattle.std.proofs.lemmas.List.{reverse-append}
use Rattle.indexmap.specs.IndexMap.{get}
use Rattle.visit_walk.specs.declared.depth_first.Task.TheVariants.{Take, Leave}
use Rattle.visit_walk.specs.Search.{numbers_at, numbers_of}
use Rattle.visit_walk.proofs.Searching.{IsSearch, search_start, search_leave, search_again, search_take, search_cycle, reverse-takes, popped, pushed, contained_reverse}
use Rattle.visit_walk.proofs.depth_first.search.Goals as goal

pub loop-task-init : goal.loop-task-init
loop-task-init c =
    subst (λ l. IsSearch (numbers_at c.args.targets.now) (reverse c.args.roots.now) (get nat_eq c.args.statuses.now) l (reverse c.add_roots.new.tasks.items)) (sym (ap reverse c.requires.none_left))
    (subst (IsSearch (numbers_at c.args.targets.now) (reverse c.args.roots.now) (get nat_eq c.args.statuses.now) [])
    (sym (ap reverse (c.in_ok-add_roots.ensures ∙ ap (λ l. l ++ map Take c.args.roots.now) c.requires.idle) ∙ reverse-takes c.args.roots.now))
    (search_start (numbers_at c.args.targets.now) (reverse c.args.roots.now) (get nat_eq c.args.statuses.now) c.requires.none_taken))

pub loop-task-preserved-in-Continue-branch-3 : goal.loop-task-preserved-in-Continue-branch-3
loop-task-preserved-in-Continue-branch-3 c =
    subst (λ l. IsSearch (numbers_at c.args.targets.now) (reverse c.args.roots.now) (get nat_eq c.insert.new.self) l (reverse c.pop.new.self.items))
    (sym (ap reverse c.in_ok-push-in-Leave.ensures.items ∙ reverse-append c.loop-task.order.items (c.in-Leave.number ∷ [])))
    (search_leave (numbers_at c.args.targets.now) (reverse c.args.roots.now) (get nat_eq c.loop-task.statuses) (get nat_eq c.insert.new.self) (reverse c.loop-task.order.items)
    c.in-Leave.number (reverse c.pop.new.self.items)
    (subst (IsSearch (numbers_at c.args.targets.now) (reverse c.args.roots.now) (get nat_eq c.loop-task.statuses) (reverse c.loop-task.order.items))
    (popped c.loop-task.tasks.items c.pop.new.self.items (Leave c.in-Leave.number) (c.in-Some.ensures.items ∙ ap (λ t. c.pop.new.self.items ++ t ∷ []) c.in-Leave.is))
    c.loop-task.invariant)
    c.in_ok-insert-in-Leave.ensures.updates.0)

pub loop-task-preserved-in-Some-Left : goal.loop-task-preserved-in-Some-Left
loop-task-preserved-in-Some-Left c =
    search_again (numbers_at c.args.targets.now) (reverse c.args.roots.now) (get nat_eq c.loop-task.statuses) (reverse c.loop-task.order.items) c.in-Take.number
    (reverse c.pop.new.self.items)
    (subst (IsSearch (numbers_at c.args.targets.now) (reverse c.args.roots.now) (get nat_eq c.loop-task.statuses) (reverse c.loop-task.order.items))
    (popped c.loop-task.tasks.items c.pop.new.self.items (Take c.in-Take.number) (c.in-Some.ensures.items ∙ ap (λ t. c.pop.new.self.items ++ t ∷ []) c.in-Take.is))
    c.loop-task.invariant)
    (sym c.get.ensures.value ∙ (sym c.copied.ensures ∙ (c.in-Some-Left.is ∙ ap Some c.in-Some-Left.field-0-is)))

pub returns-in-Some-Open : goal.returns-in-Some-Open
returns-in-Some-Open c =
    let cycle = search_cycle (numbers_at c.args.targets.now) (reverse c.args.roots.now) (get nat_eq c.loop-task.statuses) (reverse c.loop-task.order.items) c.in-Take.number
    (reverse c.pop.new.self.items)
    (subst (IsSearch (numbers_at c.args.targets.now) (reverse c.args.roots.now) (get nat_eq c.loop-task.statuses) (reverse c.loop-task.order.items))
    (popped c.loop-task.tasks.items c.pop.new.self.items (Take c.in-Take.number) (c.in-Some.ensures.items ∙ ap (λ t. c.pop.new.self.items ++ t ∷ []) c.in-Take.is))
    c.loop-task.invariant)
    (sym c.get.ensures.value ∙ (sym c.copied.ensures ∙ (c.in-Some-Open.is ∙ ap Some c.in-Some-Open.field-0-is))) in
    record { root = cycle.root; among = contained_reverse c.args.roots.now cycle.root cycle.among; path = cycle.path; cycle = cycle.cycle }

pub loop-task-preserved : goal.loop-task-preserved
unfolding numbers_at
loop-task-preserved c =
    subst (IsSearch (numbers_at c.args.targets.now) (reverse c.args.roots.now) (get nat_eq c.insert-in-None.new.self) (reverse c.loop-task.order.items))
    (sym (pushed c.pop.new.self.items c.add_tasks.new.tasks.items c.in-Take.number c.targets_at.result c.in_ok-add_tasks-in-None.ensures
    ∙ ap (λ t. map Take (numbers_of t) ++ Leave c.in-Take.number ∷ reverse c.pop.new.self.items) c.targets_at.ensures))
    (search_take (numbers_at c.args.targets.now) (reverse c.args.roots.now) (get nat_eq c.loop-task.statuses) (get nat_eq c.insert-in-None.new.self) (reverse c.loop-task.order.items)
    c.in-Take.number (reverse c.pop.new.self.items)
    (subst (IsSearch (numbers_at c.args.targets.now) (reverse c.args.roots.now) (get nat_eq c.loop-task.statuses) (reverse c.loop-task.order.items))
    (popped c.loop-task.tasks.items c.pop.new.self.items (Take c.in-Take.number) (c.in-Some.ensures.items ∙ ap (λ t. c.pop.new.self.items ++ t ∷ []) c.in-Take.is))
    c.loop-task.invariant)
    (sym c.get.ensures.value ∙ (sym c.copied.ensures ∙ c.in-None.is)) c.in_ok-insert-in-None.ensures.updates.0)
