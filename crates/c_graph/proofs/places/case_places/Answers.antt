use Rattle.std.proofs.Common.{◌≡◌, ◌∙◌, ℕ, ap, arith}
use Rattle.c_graph_spec.specs.Layout.{case_count, first}
use Rattle.c_graph_layout.specs.Lists.{groups_of}
use Rattle.c_graph.proofs.places.case_places.Goals as goal

pub returns-6 : goal.returns-6
returns-6 c = λ f.
    let many = c.in-Ok-attempt.ensures f in
    let tests = c.in-Ok-attempt-tests.ensures in
    let cases = c.in-Ok-attempt-cases.ensures in
    let groups = c.in-Ok-attempt-groups.ensures in
    let all : c.in-Ok-attempt-cases.field-0 ≡ case_count (groups_of c.args.list.now) = omega arith in
    record {
      tests_are = omega arith;
      groups_are = omega arith;
      otherwise_is = c.in-Ok-attempt-otherwise.ensures f;
      selection_is = c.first-selection.ensures ∙ ap (λ (n : ℕ). first n c.in-Ok-attempt-tests.field-0 c.in-Ok-attempt-otherwise.field-0) all;
    }
