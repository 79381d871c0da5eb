-- The nodes of statements by those of their parts.
use Rattle.std.proofs.Common.{◌≡◌, ◌∙◌, ℕ, false, ◌+◌, ◌-◌, ◌<◌, List, [], ◌∷◌, ◌++◌, length, Option, Some, None, refl, sym, ap, ap₂, arith, append_assoc}
use Rattle.term_core_spec.specs.Term.{Term, truth}
use Rattle.graph_core_spec.specs.declared.Next.{Next}
use Rattle.graph_core_spec.specs.declared.Next.TheVariants.{At, Ret, Err}
use Rattle.graph_core_spec.specs.Graph.{Node, Basic, Cond}
use Rattle.graph_core_spec.specs.Graph as graph
use Rattle.c_types_spec.specs.declared.TestPlace.TheVariants.{Before, After}
use Rattle.c_types_spec.specs.declared.Scalar.{Scalar}
use Rattle.c_types_spec.specs.declared.Jump.{Jump}
use Rattle.c_types_spec.specs.Core.{Core, Action, Call, If, Loop, Switch, Groups, type_of, Evaluate, Set, Unset, Store, Leave, Return, MissingReturn}
use Rattle.c_graph_spec.specs.State.{is_set, memory, result}
use Rattle.c_graph_spec.specs.Layout.{Setting, Exits, exits, binding, set_local, store_tests, memory_stored, value_in, truth_in, tests_in, count, first, chain, guarded, argument_tests, inputs, outputs, selection, case_count, size, entry, otherwise, cases_of, step_entry, nodes, groups_nodes}
use Rattle.c_graph.specs.declared.places.Branches.{Branches}
use Rattle.c_graph.specs.declared.places.LoopPlaces.{LoopPlaces}
use Rattle.c_graph.specs.declared.places.DoPlaces.{DoPlaces}
use Rattle.c_graph.specs.declared.places.CasePlaces.{CasePlaces}
use Rattle.c_graph.specs.Laid.{AreStarts, AreBranches, AreLoop, AreDo, AreCases}

two : (a b c d : List Node) → a ≡ b → c ≡ d → a ++ c ≡ b ++ d
two a b c d p q = ap₂ (λ (x y : List Node). x ++ y) p q

pub if_nodes : (f : Setting) (test : Core) (a b : Action) (at : ℕ) (to : Next) (e : Exits) (p : Branches) → AreBranches f test a b at to e p
    → guarded (tests_in f test) at (Cond (truth_in f test) p.on_true p.on_false) ++ (nodes f a p.starts.first to e ++ nodes f b p.starts.second to e) ≡ nodes f (If test a b) at to e
unfolding nodes
if_nodes f test a b at to e p h =
    let begins = h.starts_are.begins in
    let ends = h.starts_are.ends in
    let enters : p.on_true ≡ entry f a (at + count f test + 1) to e = h.true_is ∙ ap (λ (n : ℕ). entry f a n to e) begins in
    let other : p.on_false ≡ entry f b (at + count f test + 1 + size f a) to e = h.false_is ∙ ap (λ (n : ℕ). entry f b n to e) ends in
    two _ _ _ _ (ap₂ (λ (x y : Next). guarded (tests_in f test) at (Cond (truth_in f test) x y)) enters other)
    (two _ _ _ _ (ap (λ (n : ℕ). nodes f a n to e) begins) (ap (λ (n : ℕ). nodes f b n to e) ends))

pub while_nodes : (f : Setting) (number : ℕ) (test : Core) (step body : Action) (at : ℕ) (to : Next) (e : Exits) (p : LoopPlaces) → AreLoop f test step body at to e p
    → (Basic [] (At (at + 1)) ∷ (guarded (tests_in f test) (at + 1) (Cond (truth_in f test) (At (p.starts.first - 1)) to) ++ (Basic [] p.body ∷ [])))
    ++ (nodes f body p.starts.first p.step (exits to p.step) ++ nodes f step p.starts.second (At at) (exits to e.continues)) ≡ nodes f (Loop number Before test step body) at to e
unfolding nodes
while_nodes f number test step body at to e p h =
    let begin : ℕ = at + count f test + 3 in
    let begins : p.starts.first ≡ begin = h.starts_are.begins in
    let ends : p.starts.second ≡ begin + size f body = h.starts_are.ends in
    let again : Next = step_entry f step body begin (At at) to e in
    let steps : p.step ≡ again = h.step_is ∙ ap (λ (n : ℕ). entry f step n (At at) (exits to e.continues)) ends in
    let enters : p.body ≡ entry f body begin again (exits to again) =
    h.body_is ∙ ap₂ (λ (n : ℕ) (x : Next). entry f body n x (exits to x)) begins steps in
    let inside : p.starts.first - 1 ≡ at + count f test + 2 = omega arith in
    let head : List Node = guarded (tests_in f test) (at + 1) (Cond (truth_in f test) (At (p.starts.first - 1)) to) in
    let parts : List Node = nodes f body p.starts.first p.step (exits to p.step) ++ nodes f step p.starts.second (At at) (exits to e.continues) in
    ap (λ (l : List Node). Basic [] (At (at + 1)) ∷ l)
    (append_assoc head (Basic [] p.body ∷ []) parts
    ∙ two _ _ _ _ (ap (λ (n : ℕ). guarded (tests_in f test) (at + 1) (Cond (truth_in f test) (At n) to)) inside)
    (two _ _ _ _ (ap (λ (x : Next). Basic [] x ∷ []) enters)
    (two _ _ _ _ (ap₂ (λ (n : ℕ) (x : Next). nodes f body n x (exits to x)) begins steps) (ap (λ (n : ℕ). nodes f step n (At at) (exits to e.continues)) ends))))

pub do_nodes : (f : Setting) (number : ℕ) (test : Core) (step body : Action) (at : ℕ) (to : Next) (e : Exits) (p : DoPlaces) → AreDo f body at to p
    → (Basic [] p.body ∷ []) ++ (nodes f body p.first (At p.test) (exits to (At p.test)) ++ ((Basic [] (At p.tests) ∷ []) ++ guarded (tests_in f test) p.tests (Cond (truth_in f test) (At at) to)))
    ≡ nodes f (Loop number After test step body) at to e
unfolding nodes
do_nodes f number test step body at to e p h =
    let begins = h.begins in
    let test_is : p.test ≡ at + 1 + size f body = h.test_is in
    let tests_are = h.tests_are in
    let enters : p.body ≡ entry f body (at + 1) (At (at + 1 + size f body)) (exits to (At (at + 1 + size f body))) =
    h.body_is ∙ ap₂ (λ (n m : ℕ). entry f body n (At m) (exits to (At m))) begins test_is in
    two _ _ _ _ (ap (λ (x : Next). Basic [] x ∷ []) enters)
    (two _ _ _ _ (ap₂ (λ (n m : ℕ). nodes f body n (At m) (exits to (At m))) begins test_is)
    (ap (λ (n : ℕ). Basic [] (At n) ∷ guarded (tests_in f test) n (Cond (truth_in f test) (At at) to)) tests_are))

pub switch_nodes : (f : Setting) (test : Core) (list : Groups) (at : ℕ) (to : Next) (e : Exits) (p : CasePlaces) → AreCases f test list at to e p
    → (chain (tests_in f test) at p.selection ++ selection (type_of test) (value_in f test) (cases_of f list p.groups to e) p.tests p.otherwise) ++ groups_nodes f list p.groups to e
    ≡ nodes f (Switch test list) at to e
unfolding nodes groups_nodes
switch_nodes f test list at to e p h =
    let tests_are = h.tests_are in
    let groups_are = h.groups_are in
    let begin : ℕ = at + count f test + case_count list in
    let other : p.otherwise ≡ otherwise f list begin to e = h.otherwise_is ∙ ap (λ (n : ℕ). otherwise f list n to e) groups_are in
    let selects : p.selection ≡ first (case_count list) (at + count f test) (otherwise f list begin to e) =
    h.selection_is ∙ ap₂ (λ (n : ℕ) (x : Next). first (case_count list) n x) tests_are other in
    let x : Term = value_in f test in
    append_assoc (chain (tests_in f test) at p.selection) (selection (type_of test) x (cases_of f list p.groups to e) p.tests p.otherwise) (groups_nodes f list p.groups to e)
    ∙ two _ _ _ _ (ap (λ (n : Next). chain (tests_in f test) at n) selects)
    (two _ _ _ _
    (ap (λ (n : ℕ). selection (type_of test) x (cases_of f list n to e) p.tests p.otherwise) groups_are
    ∙ ap₂ (λ (n : ℕ) (y : Next). selection (type_of test) x (cases_of f list begin to e) n y) tests_are other)
    (ap (λ (n : ℕ). groups_nodes f list n to e) groups_are))

pub call_nodes : (f : Setting) (number : ℕ) (function : List ℕ) (arguments : List Core) (into : Option ℕ) (at landing : ℕ) (to : Next) (e : Exits) → landing ≡ at + length (argument_tests f arguments) + 1
    → guarded (argument_tests f arguments) at (graph.Call (f.graph_number function) (inputs f 0 arguments) (outputs f function into) landing) ++ (Basic [] to ∷ [])
    ≡ nodes f (Call number function arguments into) at to e
unfolding nodes
call_nodes f number function arguments into at landing to e is =
    ap (λ (n : ℕ). guarded (argument_tests f arguments) at (graph.Call (f.graph_number function) (inputs f 0 arguments) (outputs f function into) n) ++ (Basic [] to ∷ [])) is

-- ---- statements that are one node, or none

pub value_nodes : (f : Setting) (x : Core) (at : ℕ) (to : Next) (e : Exits) → guarded (tests_in f x) at (Basic (binding (result (type_of x)) (value_in f x) ∷ []) Ret) ≡ nodes f (Return (Some x)) at to e
unfolding nodes
value_nodes f x at to e = refl

pub no_value_nodes : (f : Setting) (at : ℕ) (to : Next) (e : Exits) → [] ≡ nodes f (Return None) at to e
unfolding nodes
no_value_nodes f at to e = refl

pub evaluate_nodes : (f : Setting) (x : Core) (at : ℕ) (to : Next) (e : Exits) → chain (tests_in f x) at to ≡ nodes f (Evaluate x) at to e
unfolding nodes
evaluate_nodes f x at to e = refl

pub set_nodes : (f : Setting) (number : ℕ) (x : Core) (at : ℕ) (to : Next) (e : Exits) → guarded (tests_in f x) at (Basic (set_local number (type_of x) (value_in f x)) to) ≡ nodes f (Set number x) at to e
unfolding nodes
set_nodes f number x at to e = refl

pub unset_nodes : (f : Setting) (number at : ℕ) (to : Next) (e : Exits) → Basic (binding (is_set number) (truth false) ∷ []) to ∷ [] ≡ nodes f (Unset number) at to e
unfolding nodes
unset_nodes f number at to e = refl

pub store_nodes : (f : Setting) (type : Scalar) (address : Core) (displacement : ℕ) (x : Core) (offset at : ℕ) (to : Next) (e : Exits)
    → guarded (store_tests f type address displacement x) at (Basic (binding memory (memory_stored f type address displacement x) ∷ []) to) ≡ nodes f (Store type address displacement x offset) at to e
unfolding nodes
store_nodes f type address displacement x offset at to e = refl

pub leave_nodes : (f : Setting) (jump : Jump) (at : ℕ) (to : Next) (e : Exits) → [] ≡ nodes f (Leave jump) at to e
unfolding nodes
leave_nodes f jump at to e = refl

pub missing_nodes : (f : Setting) (offset at : ℕ) (to : Next) (e : Exits) → Cond (truth false) Err Err ∷ [] ≡ nodes f (MissingReturn offset) at to e
unfolding nodes
missing_nodes f offset at to e = refl
