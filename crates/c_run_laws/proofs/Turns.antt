-- No part leaves more turns than it had; and a depth that is at least the number of turns doesn't matter.
use Rattle.std.proofs.Common.{◌≡◌, ℕ, zero, suc, ◌+◌, ◌≤◌, Bool, true, false, if◌then◌else◌, Option, Some, None, List, refl, sym, ap, ◌∙◌, arith}
use Rattle.std.specs.Prelude.{ℤ, Result, Ok, Err}
use Rattle.memory_spec.specs.Memory.{Memory}
use Rattle.c_types_spec.specs.declared.Scalar.{Scalar}
use Rattle.c_types_spec.specs.declared.Jump.TheVariants.{Break, Continue}
use Rattle.c_types_spec.specs.declared.TestPlace.{TestPlace}
use Rattle.c_types_spec.specs.declared.TestPlace.TheVariants.{Before, After}
use Rattle.c_types_spec.specs.Core.{Core, Action, Skip, Sequence, Evaluate, Set, Unset, Store, Call, If, Loop, Leave, Switch, Return, MissingReturn, Groups, no_groups, groups, Body}
use Rattle.c_run_spec.specs.Setting.{Setting, Broken}
use Rattle.c_run_spec.specs.Accesses.{address_of, stored}
use Rattle.c_run_spec.specs.Evaluation.{Evaluated, Locals, value, values}
use Rattle.c_run_spec.specs.Execution.{State, state, Flow, More, Broke, Went, Jumped, Gave, Called, Unfinished, Failed, Returned, Calls, on_ok, is_zero, then_do, again, rounds, continued, while_true, round_of, switched, chosen_group, with_local, with_memory, after_call, does, does_group}
use Rattle.c_run_spec.specs.Calls.{returned, body_named, runs_body, runs, locals_at_entry}
use Rattle.c_run_laws.specs.Depth.{called, performed, round_in, looped}
use Rattle.c_run_laws.proofs.Simulation.{no_turns, no_call_turns}

-- ---- what is left

abbrev pub Within : ℕ → Flow → Type 0
Within n More = Unit {0}
Within n (Broke guard offset) = Unit {0}
Within n (Went st left) = left ≤ n
Within n (Jumped jump st left) = left ≤ n
Within n (Gave v memory left) = left ≤ n

abbrev pub CallWithin : ℕ → Called → Type 0
CallWithin n Unfinished = Unit {0}
CallWithin n (Failed guard offset) = Unit {0}
CallWithin n (Returned v memory left) = left ≤ n

itself : (n : ℕ) → n ≤ n
itself n = omega arith

within_more : (m n : ℕ) (f : Flow) → m ≤ n → Within m f → Within n f
within_more m n More le h = tt
within_more m n (Broke guard offset) le h = tt
within_more m n (Went st left) le h = omega arith
within_more m n (Jumped jump st left) le h = omega arith
within_more m n (Gave v memory left) le h = omega arith

abbrev pub PartWithin : (State → ℕ → Flow) → Type 0
PartWithin part = (st : State) (n : ℕ) → Within n (part st n)

on_ok_within : {A : Type 0} (n : ℕ) (r : Result A Broken) (f : A → Flow) → ((x : A) → Within n (f x)) → Within n (on_ok r f)
on_ok_within n (Ok x) f each = each x
on_ok_within n (Err broken) f each = tt

if_within : (n : ℕ) (b : Bool) (f g : Flow) → Within n f → Within n g → Within n (if b then f else g)
if_within n true f g first second = first
if_within n false f g first second = second

then_do_within : (n : ℕ) (next : State → ℕ → Flow) (f : Flow) → PartWithin next → Within n f → Within n (then_do next f)
then_do_within n next More part h = tt
then_do_within n next (Broke guard offset) part h = tt
then_do_within n next (Went st left) part h = within_more left n (next st left) h (part st left)
then_do_within n next (Jumped jump st left) part h = h
then_do_within n next (Gave v memory left) part h = h

again_within : (n : ℕ) (next : State → ℕ → Flow) (f : Flow) → PartWithin next → Within n f → Within n (again next f)
again_within n next More part h = tt
again_within n next (Broke guard offset) part h = tt
again_within n next (Went st left) part h = within_more left n (next st left) h (part st left)
again_within n next (Jumped Break st left) part h = h
again_within n next (Jumped Continue st left) part h = h
again_within n next (Gave v memory left) part h = h

continued_within : (n : ℕ) (f : Flow) → Within n f → Within n (continued f)
continued_within n More h = tt
continued_within n (Broke guard offset) h = tt
continued_within n (Went st left) h = h
continued_within n (Jumped Break st left) h = h
continued_within n (Jumped Continue st left) h = h
continued_within n (Gave v memory left) h = h

switched_within : (n : ℕ) (f : Flow) → Within n f → Within n (switched f)
switched_within n More h = tt
switched_within n (Broke guard offset) h = tt
switched_within n (Went st left) h = h
switched_within n (Jumped Break st left) h = h
switched_within n (Jumped Continue st left) h = h
switched_within n (Gave v memory left) h = h

rounds_within : (round : State → ℕ → Flow) → PartWithin round → (depth : ℕ) → PartWithin (rounds round depth)
unfolding rounds
rounds_within round part zero st n = tt
rounds_within round part (suc depth) st zero = tt
rounds_within round part (suc depth) st (suc n) =
    within_more n (suc n) (again (rounds round depth) (round st n)) (omega arith) (again_within n (rounds round depth) (round st n) (rounds_within round part depth) (part st n))

while_true_within : (test : State → Evaluated) (next : State → ℕ → Flow) → PartWithin next → PartWithin (while_true test next)
while_true_within test next part st n = on_ok_within n (test st) _ (λ v. if_within n (is_zero v) _ _ (omega arith) (part st n))

round_within : (place : TestPlace) (test : State → Evaluated) (step body : State → ℕ → Flow) → PartWithin step → PartWithin body → PartWithin (round_of place test step body)
round_within Before test step body steps bodies st n =
    while_true_within test _ (λ s m. then_do_within m step (continued (body s m)) steps (continued_within m (body s m) (bodies s m))) st n
round_within After test step body steps bodies st n =
    then_do_within n (while_true test (λ s m. Went s m)) (continued (body st n)) (while_true_within test _ (λ s m. omega arith)) (continued_within n (body st n) (bodies st n))

after_call_within : (n : ℕ) (types : List Scalar) (locals : Locals) (result : Option ℕ) (c : Called) → CallWithin n c → Within n (after_call types locals result c)
after_call_within n types locals result Unfinished h = tt
after_call_within n types locals result (Failed guard offset) h = tt
after_call_within n types locals result (Returned v memory left) h = h

abbrev pub EachCallWithin : Calls → Type 0
EachCallWithin calls = (function : List ℕ) (arguments : List ℤ) (memory : Memory) (n : ℕ) → CallWithin n (calls function arguments memory n)

module _ (setting : Setting) (calls : Calls) (each : EachCallWithin calls) (types : List Scalar) (depth : ℕ) where
  mutual
    unfolding does does_group

    pub does_within : (action : Action) → PartWithin (does setting calls types depth action)
    does_within Skip st n = itself n
    does_within (Sequence first second) st n = then_do_within n _ _ (does_within second) (does_within first st n)
    does_within (Evaluate core) st n = on_ok_within n (value setting st.locals st.memory 0 core) (λ v. Went st n) (λ v. itself n)
    does_within (Set local core) st n = on_ok_within n (value setting st.locals st.memory 0 core) (λ v. Went (with_local st local (Some v)) n) (λ v. itself n)
    does_within (Unset local) st n = itself n
    does_within (Store type address displacement core offset) st n =
        on_ok_within n (value setting st.locals st.memory 0 address)
        (λ a. on_ok (value setting st.locals st.memory (address_of a + displacement) core) (λ v. on_ok (stored setting st.memory type (address_of a + displacement) v offset) (λ memory. Went (with_memory st memory) n)))
        (λ a. on_ok_within n (value setting st.locals st.memory (address_of a + displacement) core)
        (λ v. on_ok (stored setting st.memory type (address_of a + displacement) v offset) (λ memory. Went (with_memory st memory) n))
        (λ v. on_ok_within n (stored setting st.memory type (address_of a + displacement) v offset) (λ memory. Went (with_memory st memory) n) (λ memory. itself n)))
    does_within (Call number function arguments result) st n =
        on_ok_within n (values setting st.locals st.memory arguments) (λ vs. after_call types st.locals result (calls function vs st.memory n))
        (λ vs. after_call_within n types st.locals result (calls function vs st.memory n) (each function vs st.memory n))
    does_within (If test first second) st n =
        on_ok_within n (value setting st.locals st.memory 0 test) (λ v. if is_zero v then does setting calls types depth second st n else does setting calls types depth first st n)
        (λ v. if_within n (is_zero v) _ _ (does_within second st n) (does_within first st n))
    does_within (Loop number place test step body) st n =
        rounds_within _ (round_within place _ _ _ (does_within step) (does_within body)) depth st n
    does_within (Leave jump) st n = itself n
    does_within (Switch test list) st n =
        on_ok_within n (value setting st.locals st.memory 0 test) (λ v. switched (does_group setting calls types depth list (chosen_group v list) st n))
        (λ v. switched_within n _ (group_within list (chosen_group v list) st n))
    does_within (Return None) st n = itself n
    does_within (Return (Some core)) st n = on_ok_within n (value setting st.locals st.memory 0 core) (λ v. Gave (Some v) st.memory n) (λ v. itself n)
    does_within (MissingReturn offset) st n = tt

    group_within : (list : Groups) (taken : Option ℕ) → PartWithin (does_group setting calls types depth list taken)
    group_within no_groups taken st n = itself n
    group_within (groups labels body rest) None st n = itself n
    group_within (groups labels body rest) (Some zero) st n = does_within body st n
    group_within (groups labels body rest) (Some (suc taken)) st n = group_within rest (Some taken) st n

end_within : (n : ℕ) (f : Flow) → Within n f → CallWithin n (returned f)
end_within n More h = tt
end_within n (Broke guard offset) h = tt
end_within n (Went st left) h = h
end_within n (Jumped jump st left) h = h
end_within n (Gave v memory left) h = h

call_within_more : (m n : ℕ) (c : Called) → m ≤ n → CallWithin m c → CallWithin n c
call_within_more m n Unfinished le h = tt
call_within_more m n (Failed guard offset) le h = tt
call_within_more m n (Returned v memory left) le h = omega arith

body_within : (setting : Setting) (calls : Calls) → EachCallWithin calls → (depth : ℕ) (found : Option Body) (arguments : List ℤ) (memory : Memory) (n : ℕ) → CallWithin n (runs_body setting calls depth found arguments memory n)
body_within setting calls each depth None arguments memory n = tt
body_within setting calls each depth (Some body) arguments memory n =
    end_within n _ (does_within setting calls each body.locals depth body.action (state (locals_at_entry body.locals arguments) memory) n)

pub runs_within : (setting : Setting) (depth : ℕ) → EachCallWithin (runs setting depth)
unfolding runs
runs_within setting zero function arguments memory n = tt
runs_within setting (suc depth) function arguments memory zero = tt
runs_within setting (suc depth) function arguments memory (suc n) =
    call_within_more n (suc n) _ (omega arith) (body_within setting (runs setting depth) (runs_within setting depth) depth (body_named setting.bodies function) arguments memory n)

-- ---- parts that are the same with at most so many turns

abbrev Agree : ℕ → (State → ℕ → Flow) → (State → ℕ → Flow) → Type 0
Agree most part other = (st : State) (n : ℕ) → n ≤ most → part st n ≡ other st n

on_ok_agree : {A : Type 0} (r : Result A Broken) (f g : A → Flow) → ((x : A) → f x ≡ g x) → on_ok r f ≡ on_ok r g
on_ok_agree (Ok x) f g each = each x
on_ok_agree (Err broken) f g each = refl

if_agree : (b : Bool) (f g f' g' : Flow) → f ≡ g → f' ≡ g' → (if b then f else f') ≡ (if b then g else g')
if_agree true f g f' g' first second = first
if_agree false f g f' g' first second = second

then_do_agree : (most : ℕ) (next other : State → ℕ → Flow) (f : Flow) → Within most f → Agree most next other → then_do next f ≡ then_do other f
then_do_agree most next other More h both = refl
then_do_agree most next other (Broke guard offset) h both = refl
then_do_agree most next other (Went st left) h both = both st left h
then_do_agree most next other (Jumped jump st left) h both = refl
then_do_agree most next other (Gave v memory left) h both = refl

again_agree : (most : ℕ) (next other : State → ℕ → Flow) (f : Flow) → Within most f → Agree most next other → again next f ≡ again other f
again_agree most next other More h both = refl
again_agree most next other (Broke guard offset) h both = refl
again_agree most next other (Went st left) h both = both st left h
again_agree most next other (Jumped Break st left) h both = refl
again_agree most next other (Jumped Continue st left) h both = refl
again_agree most next other (Gave v memory left) h both = refl

rounds_agree : (most : ℕ) (round other : State → ℕ → Flow) → PartWithin round → Agree most round other → (depth depth' : ℕ) (st : State) (n : ℕ) → n ≤ most → n ≤ depth → n ≤ depth'
    → rounds round depth st n ≡ rounds other depth' st n
unfolding rounds
rounds_agree most round other part both zero depth' st n le deep deep' = sym (no_turns other depth' n st (omega arith))
rounds_agree most round other part both (suc depth) depth' st zero le deep deep' = sym (no_turns other depth' 0 st refl)
rounds_agree most round other part both (suc depth) zero st (suc n) le deep deep' = absurd (omega arith)
rounds_agree most round other part both (suc depth) (suc depth') st (suc n) le deep deep' =
    again_agree n (rounds round depth) (rounds other depth') (round st n) (part st n)
    (λ s m less. rounds_agree most round other part both depth depth' s m (omega arith) (omega arith) (omega arith))
    ∙ ap (again (rounds other depth')) (both st n (omega arith))

while_true_agree : (most : ℕ) (test : State → Evaluated) (next other : State → ℕ → Flow) → Agree most next other → Agree most (while_true test next) (while_true test other)
while_true_agree most test next other both st n le = on_ok_agree (test st) _ _ (λ v. if_agree (is_zero v) _ _ _ _ refl (both st n le))

round_agree : (most : ℕ) (place : TestPlace) (test : State → Evaluated) (step step' body body' : State → ℕ → Flow) → PartWithin body → Agree most step step' → Agree most body body'
    → Agree most (round_of place test step body) (round_of place test step' body')
round_agree most Before test step step' body body' part steps bodies st n le =
    while_true_agree most test _ _ (λ s m le.
    then_do_agree m step step' (continued (body s m)) (continued_within m (body s m) (part s m)) (λ s' m' less. steps s' m' (omega arith))
    ∙ ap (λ f. then_do step' (continued f)) (bodies s m le)) st n le
round_agree most After test step step' body body' part steps bodies st n le =
    ap (λ f. then_do (while_true test (λ s m. Went s m)) (continued f)) (bodies st n le)

abbrev CallsAgree : ℕ → Calls → Calls → Type 0
CallsAgree most calls other = (function : List ℕ) (arguments : List ℤ) (memory : Memory) (n : ℕ) → n ≤ most → calls function arguments memory n ≡ other function arguments memory n

module _ (setting : Setting) (most : ℕ) (calls calls' : Calls) (each : EachCallWithin calls) (same : CallsAgree most calls calls') (types : List Scalar) (depth depth' : ℕ) (deep : most ≤ depth) (deep' : most ≤ depth') where
  mutual
    unfolding does does_group

    does_agree : (action : Action) → Agree most (does setting calls types depth action) (does setting calls' types depth' action)
    does_agree Skip st n le = refl
    does_agree (Sequence first second) st n le =
        then_do_agree n _ _ _ (does_within setting calls each types depth first st n) (λ s m less. does_agree second s m (omega arith))
        ∙ ap (then_do (λ s m. does setting calls' types depth' second s m)) (does_agree first st n le)
    does_agree (Evaluate core) st n le = refl
    does_agree (Set local core) st n le = refl
    does_agree (Unset local) st n le = refl
    does_agree (Store type address displacement core offset) st n le = refl
    does_agree (Call number function arguments result) st n le =
        on_ok_agree (values setting st.locals st.memory arguments) _ _ (λ vs. ap (after_call types st.locals result) (same function vs st.memory n le))
    does_agree (If test first second) st n le =
        on_ok_agree (value setting st.locals st.memory 0 test) _ _ (λ v. if_agree (is_zero v) _ _ _ _ (does_agree second st n le) (does_agree first st n le))
    does_agree (Loop number place test step body) st n le =
        rounds_agree most _ _ (round_within place _ _ _ (does_within setting calls each types depth step) (does_within setting calls each types depth body))
        (round_agree most place _ _ _ _ _ (does_within setting calls each types depth body) (does_agree step) (does_agree body)) depth depth' st n le (omega arith) (omega arith)
    does_agree (Leave jump) st n le = refl
    does_agree (Switch test list) st n le =
        on_ok_agree (value setting st.locals st.memory 0 test) _ _ (λ v. ap switched (group_agree list (chosen_group v list) st n le))
    does_agree (Return None) st n le = refl
    does_agree (Return (Some core)) st n le = refl
    does_agree (MissingReturn offset) st n le = refl

    group_agree : (list : Groups) (taken : Option ℕ) → Agree most (does_group setting calls types depth list taken) (does_group setting calls' types depth' list taken)
    group_agree no_groups taken st n le = refl
    group_agree (groups labels body rest) None st n le = refl
    group_agree (groups labels body rest) (Some zero) st n le = does_agree body st n le
    group_agree (groups labels body rest) (Some (suc taken)) st n le = group_agree rest (Some taken) st n le

body_agree : (setting : Setting) (most : ℕ) (calls calls' : Calls) → EachCallWithin calls → CallsAgree most calls calls' → (depth depth' : ℕ) → most ≤ depth → most ≤ depth'
    → (found : Option Body) (arguments : List ℤ) (memory : Memory) → runs_body setting calls depth found arguments memory most ≡ runs_body setting calls' depth' found arguments memory most
body_agree setting most calls calls' each same depth depth' deep deep' None arguments memory = refl
body_agree setting most calls calls' each same depth depth' deep deep' (Some body) arguments memory =
    ap returned (does_agree setting most calls calls' each same body.locals depth depth' deep deep' body.action (state (locals_at_entry body.locals arguments) memory) most (omega arith))

pub runs_agree : (setting : Setting) (depth depth' : ℕ) (function : List ℕ) (arguments : List ℤ) (memory : Memory) (n : ℕ) → n ≤ depth → n ≤ depth'
    → runs setting depth function arguments memory n ≡ runs setting depth' function arguments memory n
unfolding runs
runs_agree setting zero depth' function arguments memory n deep deep' = sym (no_call_turns setting depth' n function arguments memory (omega arith))
runs_agree setting (suc depth) depth' function arguments memory zero deep deep' = sym (no_call_turns setting depth' 0 function arguments memory refl)
runs_agree setting (suc depth) zero function arguments memory (suc n) deep deep' = absurd (omega arith)
runs_agree setting (suc depth) (suc depth') function arguments memory (suc n) deep deep' =
    body_agree setting n (runs setting depth) (runs setting depth') (runs_within setting depth)
    (λ f vs m k less. runs_agree setting depth depth' f vs m k (omega arith) (omega arith))
    depth depth' (omega arith) (omega arith) (body_named setting.bodies function) arguments memory

-- ---- what statements do, whatever the depth

-- a statement with a greater depth
deeper : (setting : Setting) (types : List Scalar) (most : ℕ) (action : Action) → Agree most (does setting (runs setting most) types most action) (performed setting types action)
unfolding performed
deeper setting types most action st n le =
    does_agree setting n (runs setting most) (runs setting n) (runs_within setting most) (λ f vs m k less. runs_agree setting most n f vs m k (omega arith) less) types most n le (omega arith) action st n (omega arith)

pub performed_within : (setting : Setting) (types : List Scalar) (action : Action) → PartWithin (performed setting types action)
unfolding performed
performed_within setting types action st n = does_within setting (runs setting n) (runs_within setting n) types n action st n

pub performed-Sequence : (setting : Setting) (types : List Scalar) (first second : Action) (st : State) (n : ℕ)
    → performed setting types (Sequence first second) st n ≡ then_do (performed setting types second) (performed setting types first st n)
unfolding performed does
performed-Sequence setting types first second st n =
    then_do_agree n _ _ _ (does_within setting (runs setting n) (runs_within setting n) types n first st n) (deeper setting types n second)

round_in_within : (setting : Setting) (types : List Scalar) (place : TestPlace) (test : Core) (step body : Action) → PartWithin (round_in setting types place test step body)
round_in_within setting types place test step body =
    round_within place _ _ _ (performed_within setting types step) (performed_within setting types body)

pub performed-Loop : (setting : Setting) (types : List Scalar) (number : ℕ) (place : TestPlace) (test : Core) (step body : Action) (st : State) (n : ℕ)
    → performed setting types (Loop number place test step body) st n ≡ looped setting types place test step body st n
unfolding does performed looped
performed-Loop setting types number place test step body st n =
    rounds_agree n _ _
    (round_within place _ _ _ (does_within setting (runs setting n) (runs_within setting n) types n step) (does_within setting (runs setting n) (runs_within setting n) types n body))
    (round_agree n place _ _ _ _ _ (does_within setting (runs setting n) (runs_within setting n) types n body) (deeper setting types n step) (deeper setting types n body))
    n n st n (omega arith) (omega arith) (omega arith)

pub looped-zero : (setting : Setting) (types : List Scalar) (place : TestPlace) (test : Core) (step body : Action) (st : State) → looped setting types place test step body st 0 ≡ More
unfolding looped rounds
looped-zero setting types place test step body st = refl

pub looped-suc : (setting : Setting) (types : List Scalar) (place : TestPlace) (test : Core) (step body : Action) (st : State) (n : ℕ)
    → looped setting types place test step body st (suc n) ≡ again (looped setting types place test step body) (round_in setting types place test step body st n)
unfolding looped rounds
looped-suc setting types place test step body st n =
    again_agree n _ _ _ (round_in_within setting types place test step body st n)
    (λ s m less. rounds_agree m _ _ (round_in_within setting types place test step body) (λ s' m' le. refl) n m s m (omega arith) less (omega arith))

pub called-suc : (setting : Setting) (function : List ℕ) (arguments : List ℤ) (memory : Memory) (n : ℕ) (body : Body) → body_named setting.bodies function ≡ Some body
    → called setting function arguments memory (suc n) ≡ returned (performed setting body.locals body.action (state (locals_at_entry body.locals arguments) memory) n)
unfolding runs performed
called-suc setting function arguments memory n body e = ap (λ found. runs_body setting (runs setting n) n found arguments memory n) e

pub called-missing : (setting : Setting) (function : List ℕ) (arguments : List ℤ) (memory : Memory) (n : ℕ) → body_named setting.bodies function ≡ None → called setting function arguments memory n ≡ Unfinished
unfolding runs
called-missing setting function arguments memory zero e = refl
called-missing setting function arguments memory (suc n) e = ap (λ found. runs_body setting (runs setting n) n found arguments memory n) e
