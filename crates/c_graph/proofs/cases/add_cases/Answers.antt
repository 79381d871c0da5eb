use Rattle.std.proofs.Common.{◌≡◌, ◌∙◌, ℕ, ◌+◌, ◌<◌, List, [], ◌∷◌, ◌++◌, length, drop, get_or, refl, sym, ap, arith}
use Rattle.std.specs.Prelude.{None}
use Rattle.c_graph_spec.specs.Layout.{cases_to}
use Rattle.c_graph.specs.Seen.{cases_in}
use Rattle.c_graph.proofs.Casing.{all_of, label_at, label_past, one_more}
use Rattle.c_graph.proofs.cases.add_cases.Goals as goal

pub loop-label-preserved : goal.loop-label-preserved
loop-label-preserved c =
    let labels = c.args.labels.now in
    let i = c.loop-label.label-index in
    let x = get_or labels i None in
    let whole = cases_in c.args.found.now.items ++ cases_to labels c.args.next in
    one_more (cases_in c.loop-label.found.items) (cases_in c.add_case.new.found.items) (cases_to (x ∷ []) c.args.next) (cases_to (drop (i + 1) labels) c.args.next) whole c.in-Ok-attempt.ensures
    (ap (λ l. cases_in c.loop-label.found.items ++ l) (sym (label_at labels i x c.args.next c.loop-label-test.true refl)) ∙ c.loop-label.invariant)

pub returns : goal.returns
returns c =
    let labels = c.args.labels.now in
    all_of (cases_in c.loop-label.found.items) (cases_to (drop c.loop-label.label-index labels) c.args.next) (cases_in c.args.found.now.items ++ cases_to labels c.args.next)
    (label_past labels c.loop-label.label-index c.args.next c.loop-label-test.false) c.loop-label.invariant
