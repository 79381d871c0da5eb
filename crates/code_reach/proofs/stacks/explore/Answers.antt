use Rattle.std.proofs.Common.{[], ◌∷◌, ◌++◌, length, reverse, sym, ◌∙◌, ap, subst, arith, eqb-true}
use Rattle.std.specs.Prelude.{nat_eq}
use Rattle.indexmap.specs.IndexMap.{get}
use Rattle.indexmap.proofs.CallerLemmas.{Contains-list_any}
use Rattle.code_reach.specs.declared.stacks.Task.TheVariants.{Enter, Leave}
use Rattle.code_reach.proofs.Search.{IsSearch, popped, entered-reverse, task-sized, search-start, search-skip, search-enter, search-leave, total-short, search-cycle, known-some, unknown, fewer, not-contained, smaller, length-entered}
use Rattle.code_reach.proofs.stacks.explore.Goals as goal

pub loop-task-init : goal.loop-task-init
loop-task-init c =
    subst (IsSearch c.args.image.now c.args.entry (get nat_eq c.args.known.now) c.args.entered.now.keys)
    (sym (ap reverse (c.in_ok-push.ensures.items ∙ ap (λ l. l ++ Enter c.args.entry ∷ []) c.requires.fresh.idle)))
    (search-start c.args.image.now c.args.entry (get nat_eq c.args.known.now) c.args.entered.now.keys c.requires.fresh.unentered c.requires.fresh.nothing)

pub total-requires-clause-sized : goal.total-requires-clause-sized
total-requires-clause-sized c =
    task-sized c.args.image.now c.args.entry (get nat_eq c.loop-task.known) c.loop-task.entered.keys (Leave c.in-Leave.other) (reverse c.pop.new.self.items) c.requires.sized
    (subst (IsSearch c.args.image.now c.args.entry (get nat_eq c.loop-task.known) c.loop-task.entered.keys)
    (popped c.loop-task.tasks.items c.pop.new.self.items (Leave c.in-Leave.other) (c.in-Some.ensures.items ∙ ap (λ t. c.pop.new.self.items ++ t ∷ []) c.in-Leave.is))
    c.loop-task.invariant)

pub total-requires-clause-short : goal.total-requires-clause-short
total-requires-clause-short c = λ total is.
    total-short c.args.image.now c.args.entry c.requires.sound (get nat_eq c.loop-task.known) c.loop-task.entered.keys c.in-Leave.other total (reverse c.pop.new.self.items)
    (subst (IsSearch c.args.image.now c.args.entry (get nat_eq c.loop-task.known) c.loop-task.entered.keys)
    (popped c.loop-task.tasks.items c.pop.new.self.items (Leave c.in-Leave.other) (c.in-Some.ensures.items ∙ ap (λ t. c.pop.new.self.items ++ t ∷ []) c.in-Leave.is))
    c.loop-task.invariant) is

pub loop-task-preserved-in_ok-insert-in-Leave : goal.loop-task-preserved-in_ok-insert-in-Leave
loop-task-preserved-in_ok-insert-in-Leave c =
    search-leave c.args.image.now c.args.entry (get nat_eq c.loop-task.known) (get nat_eq c.insert.new.self) c.loop-task.entered.keys c.in-Leave.other
    c.in_ok-total-in-Leave.total (reverse c.pop.new.self.items)
    (subst (IsSearch c.args.image.now c.args.entry (get nat_eq c.loop-task.known) c.loop-task.entered.keys)
    (popped c.loop-task.tasks.items c.pop.new.self.items (Leave c.in-Leave.other) (c.in-Some.ensures.items ∙ ap (λ t. c.pop.new.self.items ++ t ∷ []) c.in-Leave.is))
    c.loop-task.invariant)
    c.in_ok-total-in-Leave.ensures c.in_ok-insert-in-Leave.ensures.updates.0

pub loop-task-preserved-then-contains_key : goal.loop-task-preserved-then-contains_key
loop-task-preserved-then-contains_key c =
    search-skip c.args.image.now c.args.entry (get nat_eq c.loop-task.known) c.loop-task.entered.keys c.in-Enter.other (reverse c.pop.new.self.items)
    (subst (IsSearch c.args.image.now c.args.entry (get nat_eq c.loop-task.known) c.loop-task.entered.keys)
    (popped c.loop-task.tasks.items c.pop.new.self.items (Enter c.in-Enter.other) (c.in-Some.ensures.items ∙ ap (λ t. c.pop.new.self.items ++ t ∷ []) c.in-Enter.is))
    c.loop-task.invariant)
    (known-some (get nat_eq c.loop-task.known c.in-Enter.other) (sym c.contains_key.ensures ∙ c.if-contains_key.true))

pub returns-then-contains : goal.returns-then-contains
returns-then-contains c =
    search-cycle c.args.image.now c.args.entry (get nat_eq c.loop-task.known) c.loop-task.entered.keys c.in-Enter.other (reverse c.pop.new.self.items)
    (subst (IsSearch c.args.image.now c.args.entry (get nat_eq c.loop-task.known) c.loop-task.entered.keys)
    (popped c.loop-task.tasks.items c.pop.new.self.items (Enter c.in-Enter.other) (c.in-Some.ensures.items ∙ ap (λ t. c.pop.new.self.items ++ t ∷ []) c.in-Enter.is))
    c.loop-task.invariant)
    (Contains-list_any nat_eq (λ a b s. eqb-true a b s) c.loop-task.entered.keys c.in-Enter.other (sym c.contains.ensures ∙ c.if-contains.true))
    (unknown (get nat_eq c.loop-task.known c.in-Enter.other) (sym c.contains_key.ensures ∙ c.if-contains_key.false))

pub enter-requires : goal.enter-requires
enter-requires c =
    task-sized c.args.image.now c.args.entry (get nat_eq c.loop-task.known) c.loop-task.entered.keys (Enter c.in-Enter.other) (reverse c.pop.new.self.items) c.requires.sized
    (subst (IsSearch c.args.image.now c.args.entry (get nat_eq c.loop-task.known) c.loop-task.entered.keys)
    (popped c.loop-task.tasks.items c.pop.new.self.items (Enter c.in-Enter.other) (c.in-Some.ensures.items ∙ ap (λ t. c.pop.new.self.items ++ t ∷ []) c.in-Enter.is))
    c.loop-task.invariant)

pub loop-task-smaller : goal.loop-task-smaller
loop-task-smaller c =
    smaller (length c.loop-task.entered.keys) (length c.add.new.items.keys) _ _ (length c.in_ok-enter-in-Enter.ensures.calls)
    (fewer c.loop-task.entered.keys c.add.new.items.keys c.in-Enter.other c.in_ok-add-in-Enter.ensures
    (not-contained c.loop-task.entered.keys c.in-Enter.other (sym c.contains.ensures ∙ c.if-contains.false)))
    (omega (arith, c.len-count.ensures.len, c.len-count.ensures.small)) c.in_ok-enter-in-Enter.ensures.few
    (omega (arith, length-entered c.args.image.now c.in-Enter.other c.pop.new.self.items c.enter.new.tasks.items c.in_ok-enter-in-Enter.ensures, c.enter.new.tasks.ok, c.pop.new.self.ok, c.in-Some.ensures.len))

pub loop-task-preserved : goal.loop-task-preserved
loop-task-preserved c =
    subst (IsSearch c.args.image.now c.args.entry (get nat_eq c.loop-task.known) c.add.new.items.keys)
    (sym (entered-reverse c.pop.new.self.items c.enter.new.tasks.items c.in-Enter.other c.in_ok-enter-in-Enter.ensures.calls c.in_ok-enter-in-Enter.ensures.tasks_are))
    (search-enter c.args.image.now c.args.entry (get nat_eq c.loop-task.known) c.loop-task.entered.keys c.add.new.items.keys c.in-Enter.other (reverse c.pop.new.self.items)
    c.in_ok-enter-in-Enter.ensures.calls
    (subst (IsSearch c.args.image.now c.args.entry (get nat_eq c.loop-task.known) c.loop-task.entered.keys)
    (popped c.loop-task.tasks.items c.pop.new.self.items (Enter c.in-Enter.other) (c.in-Some.ensures.items ∙ ap (λ t. c.pop.new.self.items ++ t ∷ []) c.in-Enter.is))
    c.loop-task.invariant)
    c.in_ok-add-in-Enter.ensures c.in_ok-enter-in-Enter.ensures.calls_are)
