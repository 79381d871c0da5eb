use Rattle.std.proofs.Common.{rules, ◌≡◌, [], ◌∷◌, ◌++◌, reverse, sym, ◌∙◌, ap, subst, Some}
use Rattle.std.specs.Prelude.{nat_eq}
use Rattle.indexmap.specs.IndexMap.{get}
use Rattle.graph_core.specs.Graphs.{graph_of}
use Rattle.loop_find_spec.specs.Loops.{nodes_from}
use Rattle.loop_find.specs.declared.tasks.Task.TheVariants.{Take, Leave}
use Rattle.loop_find.proofs.Searching.{IsSearch, search_start, search_end, search_leave, search_again, search_back, search_take, popped, pushed, few_added}
use Rattle.loop_find.proofs.search.search.Goals as goal

pub loop-task-init : goal.loop-task-init
loop-task-init c =
    let g = graph_of c.args.graph.now in (
      [],
      subst (λ h. IsSearch (nodes_from g) g.entry (get nat_eq c.args.statuses.now) [] (reverse c.push.new.self.items) h) (sym c.requires.none_found)
          (subst (λ t. IsSearch (nodes_from g) g.entry (get nat_eq c.args.statuses.now) [] t [])
          (sym (ap reverse (c.in_ok-push.ensures.items ∙ ap (λ t. t ++ Take c.entry.result ∷ []) c.requires.idle) ∙ ap (λ n. Take n ∷ []) c.entry.ensures))
          (search_start (nodes_from g) g.entry (get nat_eq c.args.statuses.now) c.requires.none_taken)),
    )

pub loop-task-preserved-in_ok-insert-in-Leave : goal.loop-task-preserved-in_ok-insert-in-Leave
loop-task-preserved-in_ok-insert-in-Leave c =
    let g = graph_of c.args.graph.now in (
      c.in-Leave.node ∷ c.loop-task.invariant.0,
      search_leave (nodes_from g) g.entry (get nat_eq c.loop-task.statuses) (get nat_eq c.insert.new.self) c.loop-task.invariant.0 c.in-Leave.node (reverse c.pop.new.self.items)
          c.loop-task.heads.items
          (subst (λ t. IsSearch (nodes_from g) g.entry (get nat_eq c.loop-task.statuses) c.loop-task.invariant.0 t c.loop-task.heads.items)
          (popped c.loop-task.tasks.items c.pop.new.self.items (Leave c.in-Leave.node) (c.in-Some.ensures.items ∙ ap (λ t. c.pop.new.self.items ++ t ∷ []) c.in-Leave.is))
          c.loop-task.invariant.1)
          c.in_ok-insert-in-Leave.ensures.updates.0,
    )

pub loop-task-preserved-in-Some-Left : goal.loop-task-preserved-in-Some-Left
loop-task-preserved-in-Some-Left c =
    let g = graph_of c.args.graph.now in (
      c.loop-task.invariant.0,
      search_again (nodes_from g) g.entry (get nat_eq c.loop-task.statuses) c.loop-task.invariant.0 c.in-Take.node (reverse c.pop.new.self.items) c.loop-task.heads.items
          (subst (λ t. IsSearch (nodes_from g) g.entry (get nat_eq c.loop-task.statuses) c.loop-task.invariant.0 t c.loop-task.heads.items)
          (popped c.loop-task.tasks.items c.pop.new.self.items (Take c.in-Take.node) (c.in-Some.ensures.items ∙ ap (λ t. c.pop.new.self.items ++ t ∷ []) c.in-Take.is))
          c.loop-task.invariant.1)
          (sym c.get.ensures.value ∙ (sym c.copied.ensures ∙ (c.in-Some-Left.is ∙ ap Some c.in-Some-Left.field-0-is))),
    )

pub loop-task-preserved-in-Continue-branch-3 : goal.loop-task-preserved-in-Continue-branch-3
loop-task-preserved-in-Continue-branch-3 c =
    let g = graph_of c.args.graph.now in (
      c.loop-task.invariant.0,
      subst (λ h. IsSearch (nodes_from g) g.entry (get nat_eq c.loop-task.statuses) c.loop-task.invariant.0 (reverse c.pop.new.self.items) h)
          (sym c.in_ok-push-in-Some-OnTheWay.ensures.items)
          (search_back (nodes_from g) g.entry (get nat_eq c.loop-task.statuses) c.loop-task.invariant.0 c.in-Take.node (reverse c.pop.new.self.items) c.loop-task.heads.items
          (subst (λ t. IsSearch (nodes_from g) g.entry (get nat_eq c.loop-task.statuses) c.loop-task.invariant.0 t c.loop-task.heads.items)
          (popped c.loop-task.tasks.items c.pop.new.self.items (Take c.in-Take.node) (c.in-Some.ensures.items ∙ ap (λ t. c.pop.new.self.items ++ t ∷ []) c.in-Take.is))
          c.loop-task.invariant.1)
          (sym c.get.ensures.value ∙ (sym c.copied.ensures ∙ (c.in-Some-OnTheWay.is ∙ ap Some c.in-Some-OnTheWay.field-0-is)))),
    )

pub loop-task-smaller : goal.loop-task-smaller
loop-task-smaller c =
    let few = few_added (graph_of c.args.graph.now) c.pop.new.self.items c.add_tasks.new.tasks.items c.in-Take.node c.in_ok-add_tasks-in-None.ensures in
    search rules

pub loop-task-preserved : goal.loop-task-preserved
loop-task-preserved c =
    let g = graph_of c.args.graph.now in (
      c.loop-task.invariant.0,
      subst (λ t. IsSearch (nodes_from g) g.entry (get nat_eq c.insert-in-None.new.self) c.loop-task.invariant.0 t c.loop-task.heads.items)
          (sym (pushed c.pop.new.self.items c.add_tasks.new.tasks.items c.in-Take.node (nodes_from g c.in-Take.node) c.in_ok-add_tasks-in-None.ensures))
          (search_take (nodes_from g) g.entry (get nat_eq c.loop-task.statuses) (get nat_eq c.insert-in-None.new.self) c.loop-task.invariant.0 c.in-Take.node
          (reverse c.pop.new.self.items) c.loop-task.heads.items
          (subst (λ t. IsSearch (nodes_from g) g.entry (get nat_eq c.loop-task.statuses) c.loop-task.invariant.0 t c.loop-task.heads.items)
          (popped c.loop-task.tasks.items c.pop.new.self.items (Take c.in-Take.node) (c.in-Some.ensures.items ∙ ap (λ t. c.pop.new.self.items ++ t ∷ []) c.in-Take.is))
          c.loop-task.invariant.1)
          (sym c.get.ensures.value ∙ (sym c.copied.ensures ∙ c.in-None.is)) c.in_ok-insert-in-None.ensures.updates.0),
    )

pub returns : goal.returns
returns c =
    let g = graph_of c.args.graph.now in
    let nothing : c.loop-task.tasks.items ≡ [] = search rules in
    record {
      left = c.loop-task.invariant.0;
      walk = search_end (nodes_from g) g.entry (get nat_eq c.loop-task.statuses) c.loop-task.invariant.0 c.loop-task.heads.items
          (subst (λ t. IsSearch (nodes_from g) g.entry (get nat_eq c.loop-task.statuses) c.loop-task.invariant.0 (reverse t) c.loop-task.heads.items) nothing
          c.loop-task.invariant.1);
    }
