use Rattle.std.proofs.Common.{◌≤◌, List, ℕ, Bor, [], take, get_or, sym, subst, arith}
use Rattle.std.proofs.lemmas.List.{take_all, length-map}
use Rattle.pair_setup_calls.specs.Graph.{graph_of}
use Rattle.c_types.specs.Typed.{typed_of}
use Rattle.pair_setup_calls.specs.Names.{names_of, texts_of}
use Rattle.pair_setup.specs.Names.{ArePassed}
use Rattle.pair_setup.proofs.Passing.{passed-none, passed-more, first-name-error}
use Rattle.pair_setup.proofs.Prefixes.{next-taken, mapped-at}
use Rattle.pair_setup.proofs.names.check_names.Goals as goal

none : Bor (List ℕ)
none = record { ref_ptr = (0, 0); now = [] }

pub loop-i-init : goal.loop-i-init
loop-i-init c =
    subst (λ (l : List ℕ). ArePassed c.args.image.now (typed_of c.args.unit.now) (names_of c.args.unit.now) (graph_of c.args.survey.now.graph.items)
    c.args.survey.now.misplaced.items [] l) (sym c.requires.none)
    (passed-none c.args.image.now (typed_of c.args.unit.now) (names_of c.args.unit.now) (graph_of c.args.survey.now.graph.items) c.args.survey.now.misplaced.items)

pub check_name-requires-clause-fine : goal.check_name-requires-clause-fine
check_name-requires-clause-fine c = c.loop-i.invariant.fine

pub loop-i-preserved : goal.loop-i-preserved
unfolding none
loop-i-preserved c =
    let xs = texts_of c.args.list.now in
    let i = c.loop-i.i in
    let x = (get_or c.args.list.now i none).now in
    subst (λ (l : List (List ℕ)). ArePassed c.args.image.now (typed_of c.args.unit.now) (names_of c.args.unit.now) (graph_of c.args.survey.now.graph.items)
    c.args.survey.now.misplaced.items l c.check_name.new.seen.keys)
    (sym (next-taken xs i x (mapped-at (λ (b : Bor (List ℕ)). b.now) c.args.list.now i none c.loop-i-test.true)))
    (passed-more c.args.image.now (typed_of c.args.unit.now) (names_of c.args.unit.now) (graph_of c.args.survey.now.graph.items) c.args.survey.now.misplaced.items (take i xs) x
    c.loop-i.seen.keys c.check_name.new.seen.keys c.loop-i.invariant c.in-Ok-attempt.ensures.passed)

pub returns-clause-passed : goal.returns-clause-passed
returns-clause-passed c =
    subst (λ (l : List (List ℕ)). ArePassed c.args.image.now (typed_of c.args.unit.now) (names_of c.args.unit.now) (graph_of c.args.survey.now.graph.items)
    c.args.survey.now.misplaced.items l c.loop-i.seen.keys)
    (take_all c.loop-i.i (texts_of c.args.list.now) (subst (λ n. n ≤ c.loop-i.i) (sym (length-map c.args.list.now (λ (b : Bor (List ℕ)). b.now))) (omega arith))) c.loop-i.invariant

pub returns-in-loop-i-clause-fault : goal.returns-in-loop-i-clause-fault
unfolding none
returns-in-loop-i-clause-fault c =
    first-name-error c.args.image.now (typed_of c.args.unit.now) (names_of c.args.unit.now) (graph_of c.args.survey.now.graph.items) c.args.survey.now.misplaced.items
    (texts_of c.args.list.now) c.loop-i.i (get_or c.args.list.now c.loop-i.i none).now c.in-Err-attempt.field-0
    (mapped-at (λ (b : Bor (List ℕ)). b.now) c.args.list.now c.loop-i.i none c.loop-i-test.true) c.loop-i.invariant.no_faults c.in-Err-attempt.ensures.fault
