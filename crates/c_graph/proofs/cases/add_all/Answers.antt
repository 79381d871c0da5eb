use Rattle.std.proofs.Common.{◌≡◌, ◌∙◌, ℕ, ◌+◌, ◌<◌, List, [], ◌∷◌, ◌++◌, length, drop, sym, ap, arith}
use Rattle.c_types_core.specs.Actions.{action_of}
use Rattle.c_types_core.specs.declared.action.Group.{out-Group}
use Rattle.c_graph_spec.specs.Layout.{Exits, cases_of, cases_to, entry, exits, size}
use Rattle.c_graph_layout.specs.Exits.{exits_of}
use Rattle.c_graph_layout.specs.Lists.{groups_of}
use Rattle.c_graph.specs.Seen.{cases_in}
use Rattle.c_graph.proofs.Casing.{all_of, group_cases_at, group_cases_past, one_more}
use Rattle.c_graph.proofs.cases.add_all.Goals as goal

pub loop-group-preserved : goal.loop-group-preserved
loop-group-preserved c = λ f.
    let list = c.args.list.now in
    let i = c.loop-group.group-index in
    let g = c.group-item.result in
    let body = action_of (out-Group g).body.value in
    let e : Exits = exits_of c.args.exits in
    let to = c.args.to in
    let at = c.loop-group.begin in
    let more = c.in-Ok-attempt-begin.field-0 in
    let next = c.in-Ok-attempt.field-0 in
    let many : c.in-Ok-attempt-many.field-0 ≡ size f body = c.in-Ok-attempt-many.ensures.size f ∙ ap (λ a. size f (action_of a)) c.deref-in-loop-group.ensures in
    let there : more ≡ at + size f body = c.in-Ok-attempt-begin.ensures ∙ ap (λ n. at + n) many in
    let enters : next ≡ entry f body at to (exits to e.continues) = c.in-Ok-attempt.ensures f ∙ ap (λ a. entry f (action_of a) at to (exits to e.continues)) c.deref.ensures in
    let added : cases_in c.add_cases.new.found.items ≡ cases_in c.loop-group.found.items ++ cases_to (out-Group g).labels.items next =
    c.in-Ok-attempt-2.ensures ∙ ap (λ l. cases_in c.loop-group.found.items ++ cases_to l next) c.as_slice.ensures.value in
    one_more (cases_in c.loop-group.found.items) (cases_in c.add_cases.new.found.items) (cases_to (out-Group g).labels.items next) (cases_of f (groups_of (drop (i + 1) list)) more to e)
    (cases_in c.args.found.now.items ++ cases_of f (groups_of list) c.args.at to e) added
    (ap (λ l. cases_in c.loop-group.found.items ++ l) (sym (group_cases_at f list i at more g to next e c.loop-group-test.true c.group-item.is there enters)) ∙ c.loop-group.invariant f)

pub returns : goal.returns
returns c = λ f.
    let list = c.args.list.now in
    let e : Exits = exits_of c.args.exits in
    all_of (cases_in c.loop-group.found.items) (cases_of f (groups_of (drop c.loop-group.group-index list)) c.loop-group.begin c.args.to e) (cases_in c.args.found.now.items ++ cases_of f (groups_of list) c.args.at c.args.to e)
    (group_cases_past f list c.loop-group.group-index c.loop-group.begin c.args.to e c.loop-group-test.false) (c.loop-group.invariant f)
