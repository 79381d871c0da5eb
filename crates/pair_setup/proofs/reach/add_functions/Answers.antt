use Rattle.std.proofs.Common.{◌≤◌, ◌++◌, ◌∷◌, List, ℕ, Bor, [], take, get_or, sym, subst, arith}
use Rattle.std.proofs.lemmas.List.{take_all, length-map}
use Rattle.std.proofs.lemmas.List.Elements.{All-contains}
use Rattle.c_types.specs.Typed.{typed_of}
use Rattle.pair_setup_calls.specs.Names.{texts_of}
use Rattle.pair_setup_spec.specs.Faults.{HasNames}
use Rattle.pair_setup.specs.Depths.{AreFunctions}
use Rattle.pair_setup.specs.declared.outcome.Function.{Function}
use Rattle.pair_setup.proofs.Shallow.{functions-none, functions-more, all-shallow, first-depth-error}
use Rattle.pair_setup.proofs.Prefixes.{next-taken, mapped-at, got-contained}
use Rattle.pair_setup.proofs.reach.add_functions.Goals as goal

none : Bor (List ℕ)
none = record { ref_ptr = (0, 0); now = [] }

pub loop-i-init : goal.loop-i-init
loop-i-init c =
    subst (λ (l : List Function). AreFunctions c.args.image.now (typed_of c.args.unit.now) [] l) (sym c.requires.none) (functions-none c.args.image.now (typed_of c.args.unit.now))

pub bounds-firsts-i : goal.bounds-firsts-i
bounds-firsts-i c = omega (arith, c.requires.long, c.loop-i-test.true, length-map c.args.list.now (λ (b : Bor (List ℕ)). b.now))

pub listed_function-requires-clause-names : goal.listed_function-requires-clause-names
unfolding none
listed_function-requires-clause-names c =
    All-contains (HasNames c.args.image.now (typed_of c.args.unit.now)) (texts_of c.args.list.now) (get_or c.args.list.now c.loop-i.i none).now c.requires.names
    (got-contained (texts_of c.args.list.now) c.loop-i.i (get_or c.args.list.now c.loop-i.i none).now
    (mapped-at (λ (b : Bor (List ℕ)). b.now) c.args.list.now c.loop-i.i none c.loop-i-test.true))

pub listed_function-requires-clause-code : goal.listed_function-requires-clause-code
unfolding none
listed_function-requires-clause-code c =
    c.requires.code c.loop-i.i (get_or c.args.list.now c.loop-i.i none).now (mapped-at (λ (b : Bor (List ℕ)). b.now) c.args.list.now c.loop-i.i none c.loop-i-test.true)

pub loop-i-preserved : goal.loop-i-preserved
unfolding none
loop-i-preserved c =
    let xs = texts_of c.args.list.now in
    let i = c.loop-i.i in
    let x = (get_or c.args.list.now i none).now in
    subst (λ (l : List (List ℕ)). AreFunctions c.args.image.now (typed_of c.args.unit.now) l c.push.new.self.items)
    (sym (next-taken xs i x (mapped-at (λ (b : Bor (List ℕ)). b.now) c.args.list.now i none c.loop-i-test.true)))
    (subst (λ (l : List Function). AreFunctions c.args.image.now (typed_of c.args.unit.now) (take i xs ++ x ∷ []) l) (sym c.in-Ok-attempt-2.ensures.items)
    (functions-more c.args.image.now (typed_of c.args.unit.now) (take i xs) x c.loop-i.functions.items c.in-Ok-attempt.field-0 c.loop-i.invariant c.in-Ok-attempt.ensures.function))

pub returns-clause-functions : goal.returns-clause-functions
returns-clause-functions c =
    subst (λ (l : List (List ℕ)). AreFunctions c.args.image.now (typed_of c.args.unit.now) l c.loop-i.functions.items)
    (take_all c.loop-i.i (texts_of c.args.list.now) (subst (λ n. n ≤ c.loop-i.i) (sym (length-map c.args.list.now (λ (b : Bor (List ℕ)). b.now))) (omega arith))) c.loop-i.invariant

nothing : Function
nothing = record { entry = 0; size = 0; stack = 0 }

pub returns-in-loop-i-clause-fault : goal.returns-in-loop-i-clause-fault
unfolding none
returns-in-loop-i-clause-fault c =
    let there = mapped-at (λ (b : Bor (List ℕ)). b.now) c.args.list.now c.loop-i.i none c.loop-i-test.true in
    let name = (get_or c.args.list.now c.loop-i.i none).now in
    first-depth-error c.args.image.now (typed_of c.args.unit.now) (texts_of c.args.list.now) c.loop-i.i name (get_or c.args.firsts.now c.loop-i.i 0) c.in-Err-attempt.field-0 there
    (c.requires.code c.loop-i.i name there).named
    (all-shallow c.args.image.now (typed_of c.args.unit.now) (take c.loop-i.i (texts_of c.args.list.now)) c.loop-i.functions.items nothing c.loop-i.invariant) c.in-Err-attempt.ensures.fault
