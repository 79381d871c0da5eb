use Rattle.std.proofs.Common.{rules, ◌≡◌, ◌∙◌, ℕ, ◌-◌, ◌/◌, ◌<◌, ◌≤◌, ◌∷◌, [], List, length, drop, sym, ap, arith, drop-cons}
use Rattle.std.proofs.lemmas.List.{drop_all}
use Rattle.std.proofs.lemmas.Result.{IfOk-weaker}
use Rattle.memory_spec.specs.declared.Run.{Run as KeptRun}
use Rattle.term_core_spec.specs.Term.{Term}
use Rattle.term_bank.specs.Nodes.{tree_at}
use Rattle.c_graph_terms.proofs.Banks.{built_as}
use Rattle.c_graph_terms.proofs.Accesses.{no_runs, one_run, halves_built}
use Rattle.c_graph_terms.proofs.access.+runs_test.Goals as goal

pub returns-then-is_empty : goal.returns-then-is_empty
returns-then-is_empty t c halvings short =
    let a : Term = tree_at c.args.bank.now c.args.a in
    let e : Term = tree_at c.args.bank.now c.args.e in
    let none : length c.args.runs.now ≡ 0 = search rules in
    IfOk-weaker c.leaf.result _ _ (λ id h. built_as c.args.bank.now c.leaf.new.bank id _ _ (no_runs a e halvings c.args.runs.now none) h) c.leaf.ensures

pub returns-then-runs-eq1 : goal.returns-then-runs-eq1
returns-then-runs-eq1 t c halvings short =
    let a : Term = tree_at c.args.bank.now c.args.a in
    let e : Term = tree_at c.args.bank.now c.args.e in
    let runs : List KeptRun = c.args.runs.now in
    let run : KeptRun = c.index-runs-0.result in
    let one : length runs ≡ 1 = search rules in
    let here : runs ≡ run ∷ [] =
    drop-cons runs 0 run (omega (arith, one)) ∙ ap (λ (r : KeptRun). r ∷ drop 1 runs) (sym c.index-runs-0.is) ∙ ap (λ (l : List KeptRun). run ∷ l) (drop_all 1 runs (omega (arith, one))) in
    IfOk-weaker c.run_test.result _ _ (λ id h. built_as c.args.bank.now c.run_test.new.bank id _ _ (one_run a e halvings runs run here short) h) c.run_test.ensures

pub returns-3 : goal.returns-3
returns-3 t c halvings short =
    let runs : List KeptRun = c.args.runs.now in
    let many : 2 ≤ length runs = search rules in
    let front_small : length c.split_at.result.0.now ≤ halvings - 1 = search rules in
    let back_small : length c.split_at.result.1.now ≤ halvings - 1 = search rules in
    IfOk-weaker c.both_tests.result _ _
    (λ id h. halves_built c.args.bank.now c.runs_test.new.bank c.runs_test-2.new.bank c.both_tests.new.bank c.args.a c.args.e c.in-Ok-attempt.field-0 c.in-Ok-attempt-second.field-0 id
    halvings runs c.split_at.result.0.now c.split_at.result.1.now c.requires.a_within c.requires.e_within many short c.split_at.ensures.front c.split_at.ensures.back
    (c.in-Ok-attempt.ensures (halvings - 1) front_small) (c.in-Ok-attempt-second.ensures (halvings - 1) back_small) h)
    c.both_tests.ensures
