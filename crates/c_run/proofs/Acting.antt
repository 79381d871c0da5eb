-- What statements do, by the values of their expressions.
use Rattle.std.proofs.Common.{◌≡◌, ℕ, zero, suc, ◌+◌, Bool, true, false, if◌then◌else◌, not, Option, Some, None, List, [], ◌∷◌, ◌++◌, refl, sym, ap, subst, ◌∙◌}
use Rattle.std.specs.Prelude.{ℤ, map, Vec, Result, Ok, Err}
use Rattle.std.specs.Borrow.{Bor}
use Rattle.std.proofs.lemmas.List.{append_assoc}
use Rattle.std.specs.declared.alloc.Global.{Global}
use Rattle.memory_spec.specs.Memory.{Memory}
use Rattle.c_types_spec.specs.declared.Scalar.{Scalar}
use Rattle.c_types_spec.specs.declared.Jump.{Jump}
use Rattle.c_types_spec.specs.declared.Jump.TheVariants as jump
use Rattle.c_types_spec.specs.declared.TestPlace.{TestPlace}
use Rattle.c_types_spec.specs.declared.TestPlace.TheVariants.{Before, After}
use Rattle.c_types_spec.specs.Core.{Core, Action, Skip, Evaluate, Set, Unset, Store, Call, If, Loop, Leave, Return, MissingReturn, sequence}
use Rattle.c_run_spec.specs.declared.Guard.TheVariants as guards
use Rattle.c_run_spec.specs.Setting.{Setting, Broken}
use Rattle.c_run_spec.specs.Accesses.{address_of, stored}
use Rattle.c_run_spec.specs.Evaluation.{Evaluated, Locals, value, values}
use Rattle.c_run_spec.specs.Execution.{State, state, Flow, More, Broke, Went, Jumped, Gave, on_ok, then_do, is_zero, again, continued, with_local, with_memory, after_call, does}
use Rattle.c_run_laws.specs.Depth.{called, performed, looped, round_in}
use Rattle.c_run_laws.proofs.Turns.{performed-Loop, looped-zero, looped-suc}
use Rattle.c_types_core.specs.declared.action.Action as kept
use Rattle.c_types_core.specs.declared.expression.Core as expression
use Rattle.c_types_core.specs.Actions.{action_of}
use Rattle.c_types_core.specs.Expressions.{core_of}
use Rattle.c_run_value.specs.Gives.{Gives, GivesValue}
use Rattle.attempt.specs.declared.refusal.Refusal.{Refusal}
use Rattle.attempt.specs.declared.refusal.Refusal.TheVariants.{Fault, NoMemory}
use Rattle.c_run_value.specs.declared.setting.Stop.{Stop}
use Rattle.c_run_value.specs.declared.setting.Stop.TheVariants as stop
use Rattle.c_run.specs.declared.frame.Task.{Task}
use Rattle.c_run.specs.declared.frame.Task.TheVariants as task
use Rattle.c_run.specs.declared.frame.Frame.{Frame}
use Rattle.c_run.specs.declared.frame.Next.{Next}
use Rattle.c_run.specs.declared.frame.Next.TheVariants as next
use Rattle.c_run.specs.declared.frame.Pause.TheVariants as pause
use Rattle.c_run.specs.declared.frame.Ending.{Ending}
use Rattle.c_run.specs.declared.frame.Ending.TheVariants as ending
use Rattle.c_run.specs.Frames.{ArePushed, IsPushed, IsSet}
use Rattle.c_run.specs.Tasks.{Follows, Acts, Repeats, flow_of, ending_of, flow_next, with_turn, loop_tasks, applied, through, truth}
use Rattle.c_run.proofs.Through.{through-append, through-Broke}

pub performed-Skip : (setting : Setting) (types : List Scalar) (st : State) (left : ℕ) → performed setting types Skip st left ≡ Went st left
unfolding performed does
performed-Skip setting types st left = refl

pub performed-Evaluate : (setting : Setting) (types : List Scalar) (core : Core) (st : State) (left : ℕ) → performed setting types (Evaluate core) st left ≡ on_ok (value setting st.locals st.memory 0 core) (λ v. Went st left)
unfolding performed does
performed-Evaluate setting types core st left = refl

pub performed-Set : (setting : Setting) (types : List Scalar) (local : ℕ) (core : Core) (st : State) (left : ℕ) → performed setting types (Set local core) st left ≡ on_ok (value setting st.locals st.memory 0 core) (λ v. Went (with_local st local (Some v)) left)
unfolding performed does
performed-Set setting types local core st left = refl

pub performed-Unset : (setting : Setting) (types : List Scalar) (local : ℕ) (st : State) (left : ℕ) → performed setting types (Unset local) st left ≡ Went (with_local st local None) left
unfolding performed does
performed-Unset setting types local st left = refl

pub performed-Store : (setting : Setting) (types : List Scalar) (type : Scalar) (address : Core) (displacement : ℕ) (core : Core) (offset : ℕ) (st : State) (left : ℕ)
    → performed setting types (Store type address displacement core offset) st left
    ≡ on_ok (value setting st.locals st.memory 0 address) (λ a. on_ok (value setting st.locals st.memory (address_of a + displacement) core)
    (λ v. on_ok (stored setting st.memory type (address_of a + displacement) v offset) (λ memory. Went (with_memory st memory) left)))
unfolding performed does
performed-Store setting types type address displacement core offset st left = refl

pub performed-Call : (setting : Setting) (types : List Scalar) (number : ℕ) (function : List ℕ) (arguments : List Core) (result : Option ℕ) (st : State) (left : ℕ)
    → performed setting types (Call number function arguments result) st left ≡ on_ok (values setting st.locals st.memory arguments) (λ vs. after_call types st.locals result (called setting function vs st.memory left))
unfolding performed does
performed-Call setting types number function arguments result st left = refl

pub performed-If : (setting : Setting) (types : List Scalar) (test : Core) (first second : Action) (st : State) (left : ℕ)
    → performed setting types (If test first second) st left ≡ on_ok (value setting st.locals st.memory 0 test) (λ v. if is_zero v then performed setting types second st left else performed setting types first st left)
unfolding performed does
performed-If setting types test first second st left = refl

pub performed-Leave : (setting : Setting) (types : List Scalar) (jump : Jump) (st : State) (left : ℕ) → performed setting types (Leave jump) st left ≡ Jumped jump st left
unfolding performed does
performed-Leave setting types jump st left = refl

pub performed-Return : (setting : Setting) (types : List Scalar) (core : Core) (st : State) (left : ℕ) → performed setting types (Return (Some core)) st left ≡ on_ok (value setting st.locals st.memory 0 core) (λ v. Gave (Some v) st.memory left)
unfolding performed does
performed-Return setting types core st left = refl

pub performed-end : (setting : Setting) (types : List Scalar) (st : State) (left : ℕ) → performed setting types (Return None) st left ≡ Gave None st.memory left
unfolding performed does
performed-end setting types st left = refl

pub performed-MissingReturn : (setting : Setting) (types : List Scalar) (offset : ℕ) (st : State) (left : ℕ) → performed setting types (MissingReturn offset) st left ≡ Broke guards.MissingReturn offset
unfolding performed does
performed-MissingReturn setting types offset st left = refl

abbrev pub good : Bool → Result Bool Broken
good b = Ok b

abbrev pub numbers : Result ℕ Broken → Result ℕ Broken → Type 0
numbers a b = a ≡ b

-- a result that is a guard stops the run
pub stops : {B C : Type 0} (setting : Setting) (old new : Frame) (after : Memory) (given : ℕ → Flow) (seen : C → B) (e : Refusal Stop) (r : Result B Broken) (next : B → ℕ → Flow)
    → Gives seen (Err e) r → ((left : ℕ) → given left ≡ on_ok r (λ x. next x left)) → Follows setting new after (Err e) (λ left. through setting old.types.now old.tasks.items (given left))
stops setting old new after given seen (Fault (stop.Broke guard offset)) r next gives is =
    λ left. ap (through setting old.types.now old.tasks.items) (is left ∙ ap (λ q. on_ok q (λ x. next x left)) gives) ∙ through-Broke setting old.types.now old.tasks.items guard offset
stops setting old new after given seen NoMemory r next gives is = tt {0}

-- where only memory is short nothing is to be shown
pub no_memory : (setting : Setting) (new : Frame) (after : Memory) (given : ℕ → Flow) (e : Refusal Stop) → e ≡ NoMemory → Follows setting new after (Err e) given
no_memory setting new after given e out = subst (λ q. Follows setting new after (Err q) given) (sym out) (tt {0})

-- what follows is the same where what is given is
pub changed : (setting : Setting) (new : Frame) (after : Memory) (result : Result Next (Refusal Stop)) (given other : ℕ → Flow) → ((left : ℕ) → other left ≡ given left) → Follows setting new after result given → Follows setting new after result other
changed setting new after (Ok n) given other same follows = λ left. same left ∙ follows left
changed setting new after (Err (Fault (stop.Broke guard offset))) given other same follows = λ left. same left ∙ follows left
changed setting new after (Err NoMemory) given other same follows = tt {0}

-- the tasks stay
pub stays : (setting : Setting) (given : ℕ → Flow) (old new : Frame) (after : Memory) (n : Next) → new.types ≡ old.types → new.tasks ≡ old.tasks
    → ((left : ℕ) → given left ≡ flow_next setting old.types.now new.locals.items new after n left)
    → Follows setting new after (Ok n) (λ left. through setting old.types.now old.tasks.items (given left))
stays setting given old new after n types tasks is = λ left.
    ap (through setting old.types.now old.tasks.items) (is left)
    ∙ ap (λ (ty : Bor (List Scalar)). through setting ty.now old.tasks.items (flow_next setting ty.now new.locals.items new after n left)) (sym types)
    ∙ ap (λ (ts : Vec Task Global). through setting new.types.now ts.items (flow_next setting new.types.now new.locals.items new after n left)) (sym tasks)

-- there are more
pub pushes : (setting : Setting) (given : ℕ → Flow) (old new : Frame) (after : Memory) (ts : List Task) (n : Next) → ArePushed old new ts
    → ((left : ℕ) → given left ≡ through setting old.types.now ts (flow_next setting old.types.now old.locals.items new after n left))
    → Follows setting new after (Ok n) (λ left. through setting old.types.now old.tasks.items (given left))
pushes setting given old new after ts n pushed is = λ left.
    ap (through setting old.types.now old.tasks.items) (is left)
    ∙ sym (through-append setting old.types.now old.tasks.items ts (flow_next setting old.types.now old.locals.items new after n left))
    ∙ ap (λ all. through setting old.types.now all (flow_next setting old.types.now old.locals.items new after n left)) (sym pushed.tasks)
    ∙ ap (λ (ls : Vec (Option ℤ) Global). through setting old.types.now new.tasks.items (flow_next setting old.types.now ls.items new after n left)) (sym pushed.locals)
    ∙ ap (λ (ty : Bor (List Scalar)). through setting ty.now new.tasks.items (flow_next setting ty.now new.locals.items new after n left)) (sym pushed.types)

-- tasks, and then one more
pub and_pushed : (old middle new : Frame) (ts : List Task) (t : Task) → ArePushed old middle ts → IsPushed middle new t → ArePushed old new (ts ++ t ∷ [])
and_pushed old middle new ts t first second = record {
  types = second.types ∙ first.types;
  locals = second.locals ∙ first.locals;
  tasks = second.tasks ∙ ap (λ xs. xs ++ t ∷ []) first.tasks ∙ append_assoc old.tasks.items ts (t ∷ []);
}

pub ok_is : (a b : ℕ) → numbers (Ok a) (Ok b) → a ≡ b
ok_is a b e = cc

pub no_err : (seen : ℕ → ℕ) (a : ℕ) (e : Refusal Stop) → Gives seen (Err e) (Ok a) → e ≡ NoMemory
no_err seen a (Fault (stop.Broke guard offset)) gives = absurd (cc)
no_err seen a NoMemory gives = refl

-- ---- tests

by_zero : (z b : Bool) (first second : Flow) → not z ≡ b → (if z then second else first) ≡ (if b then first else second)
by_zero true true first second e = absurd (cc)
by_zero true false first second e = refl
by_zero false true first second e = refl
by_zero false false first second e = absurd (cc)

pub by_truth : (r : Evaluated) (b : Bool) (first second : Flow) → truth r ≡ good b → on_ok r (λ v. if is_zero v then second else first) ≡ (if b then first else second)
by_truth (Ok v) b first second e = by_zero (is_zero v) b first second (let h : not (is_zero v) ≡ b = cc in h)
by_truth (Err broken) b first second e = absurd (cc)

pub no_truth : (seen : Bool → Bool) (e : Refusal Stop) (r : Evaluated) → Gives seen (Err e) (truth r) → GivesValue (Err e) r
no_truth seen (Fault (stop.Broke guard offset)) (Ok v) gives = absurd (cc)
no_truth seen (Fault (stop.Broke guard offset)) (Err broken) gives = let h : broken ≡ (guard, offset) = cc in ap (λ x. Err x) h
no_truth seen NoMemory r gives = tt {0}

pub truth_not : (seen : Bool → Bool) (e : Refusal Stop) (r : Evaluated) → GivesValue (Err e) r → Gives seen (Err e) (truth r)
truth_not seen (Fault (stop.Broke guard offset)) r gives = ap truth gives
truth_not seen NoMemory r gives = tt {0}

-- ---- loops

more_again : (f g : State → ℕ → Flow) (flow : Flow) → ((st : State) (n : ℕ) → f st n ≡ g st n) → again f flow ≡ again g flow
more_again f g More same = refl
more_again f g (Broke guard offset) same = refl
more_again f g (Went st left) same = same st left
more_again f g (Jumped jump.Break st left) same = refl
more_again f g (Jumped jump.Continue st left) same = refl
more_again f g (Gave v memory left) same = refl

-- a loop is a round with a turn, and then the loop
turned : (setting : Setting) (types : List Scalar) (number : ℕ) (place : TestPlace) (test : Core) (step body : Action) (st : State) (left : ℕ)
    → performed setting types (Loop number place test step body) st left
    ≡ with_turn left (λ n. again (performed setting types (Loop number place test step body)) (round_in setting types place test step body st n))
turned setting types number place test step body st zero =
    performed-Loop setting types number place test step body st zero ∙ looped-zero setting types place test step body st
turned setting types number place test step body st (suc n) =
    performed-Loop setting types number place test step body st (suc n) ∙ looped-suc setting types place test step body st n
    ∙ more_again (looped setting types place test step body) (performed setting types (Loop number place test step body)) (round_in setting types place test step body st n)
    (λ s m. sym (performed-Loop setting types number place test step body s m))

-- what the tasks of a round come to, with its turn

module _ (setting : Setting) (types : List Scalar) (action : Bor kept.Action) (test : Bor expression.Core) (step body : Bor kept.Action) (locals : Locals) (memory : Memory) where
  abbrev round_with : TestPlace → ℕ → Flow
  round_with place n = again (performed setting types (action_of action.now))
      (round_in setting types place (core_of test.now) (action_of step.now) (action_of body.now) (state locals memory) n)

  abbrev then_body : Flow → Flow
  then_body flow = then_do (performed setting types (action_of step.now)) (continued (then_do (performed setting types (action_of body.now)) flow))

  by_test : (z : Bool) (n : ℕ) → (if z then Jumped jump.Break (state locals memory) n else then_do (performed setting types (action_of step.now)) (continued (performed setting types (action_of body.now) (state locals memory) n)))
      ≡ then_body (if z then Jumped jump.Break (state locals memory) n else Went (state locals memory) n)
  by_test true n = refl
  by_test false n = refl

  by_value : (r : Evaluated) (n : ℕ)
      → on_ok r (λ v. if is_zero v then Jumped jump.Break (state locals memory) n else then_do (performed setting types (action_of step.now)) (continued (performed setting types (action_of body.now) (state locals memory) n)))
      ≡ then_body (on_ok r (λ v. if is_zero v then Jumped jump.Break (state locals memory) n else Went (state locals memory) n))
  by_value (Ok v) n = by_test (is_zero v) n
  by_value (Err broken) n = refl

  pub round_is : (place : TestPlace) (left : ℕ) → with_turn left (λ n. round_with place n) ≡ through setting types (loop_tasks place action test step body) (with_turn left (λ n. Went (state locals memory) n))
  unfolding applied through
  round_is Before zero = refl
  round_is Before (suc n) = ap (again (performed setting types (action_of action.now))) (by_value (value setting locals memory 0 (core_of test.now)) n)
  round_is After zero = refl
  round_is After (suc n) = refl

-- ---- statements

module _ (setting : Setting) (old : Frame) (memory : Memory) where
  pub blocks : (new : Frame) (actions : Bor (List kept.Action)) → IsPushed old new (task.Rest actions) → Acts setting (sequence (map action_of actions.now)) old memory new memory (Ok (next.Goes ending.Went))
  unfolding applied through
  blocks new actions pushed = pushes setting (λ left. performed setting old.types.now (sequence (map action_of actions.now)) (state old.locals.items memory) left) old new memory (task.Rest actions ∷ []) (next.Goes ending.Went) pushed (λ left. refl)

  pub evaluates : (core : Core) (v : ℤ) → value setting old.locals.items memory 0 core ≡ Ok v → Acts setting (Evaluate core) old memory old memory (Ok (next.Goes ending.Went))
  evaluates core v e = stays setting (λ left. performed setting old.types.now (Evaluate core) (state old.locals.items memory) left) old old memory (next.Goes ending.Went) refl refl
      (λ left. performed-Evaluate setting old.types.now core (state old.locals.items memory) left ∙ ap (λ r. on_ok r (λ v. Went (state old.locals.items memory) left)) e)

  pub sets : (new : Frame) (local : ℕ) (core : Core) (v : ℤ) → value setting old.locals.items memory 0 core ≡ Ok v → IsSet old new local (Some v) → Acts setting (Set local core) old memory new memory (Ok (next.Goes ending.Went))
  sets new local core v e set = stays setting (λ left. performed setting old.types.now (Set local core) (state old.locals.items memory) left) old new memory (next.Goes ending.Went) set.types set.tasks
      (λ left. performed-Set setting old.types.now local core (state old.locals.items memory) left ∙ ap (λ r. on_ok r (λ v. Went (with_local (state old.locals.items memory) local (Some v)) left)) e
      ∙ ap (λ ls. Went (state ls memory) left) (sym set.locals))

  pub unsets : (new : Frame) (local : ℕ) → IsSet old new local None → Acts setting (Unset local) old memory new memory (Ok (next.Goes ending.Went))
  unsets new local set = stays setting (λ left. performed setting old.types.now (Unset local) (state old.locals.items memory) left) old new memory (next.Goes ending.Went) set.types set.tasks
      (λ left. performed-Unset setting old.types.now local (state old.locals.items memory) left ∙ ap (λ ls. Went (state ls memory) left) (sym set.locals))

  pub chooses_second : (new : Frame) (test : Core) (first : Action) (second : Bor kept.Action) (b : Bool) → truth (value setting old.locals.items memory 0 test) ≡ Ok b → b ≡ false → IsPushed old new (task.Do second)
      → Acts setting (If test first (action_of second.now)) old memory new memory (Ok (next.Goes ending.Went))
  unfolding applied through
  chooses_second new test first second b e not_so pushed = pushes setting (λ left. performed setting old.types.now (If test first (action_of second.now)) (state old.locals.items memory) left) old new memory (task.Do second ∷ []) (next.Goes ending.Went) pushed
      (λ left. performed-If setting old.types.now test first (action_of second.now) (state old.locals.items memory) left
      ∙ by_truth (value setting old.locals.items memory 0 test) false (performed setting old.types.now first (state old.locals.items memory) left) (performed setting old.types.now (action_of second.now) (state old.locals.items memory) left) (e ∙ ap (λ x. Ok x) not_so))

  pub chooses_first : (new : Frame) (test : Core) (first : Bor kept.Action) (second : Action) (b : Bool) → truth (value setting old.locals.items memory 0 test) ≡ Ok b → b ≡ true → IsPushed old new (task.Do first)
      → Acts setting (If test (action_of first.now) second) old memory new memory (Ok (next.Goes ending.Went))
  unfolding applied through
  chooses_first new test first second b e is_so pushed = pushes setting (λ left. performed setting old.types.now (If test (action_of first.now) second) (state old.locals.items memory) left) old new memory (task.Do first ∷ []) (next.Goes ending.Went) pushed
      (λ left. performed-If setting old.types.now test (action_of first.now) second (state old.locals.items memory) left
      ∙ by_truth (value setting old.locals.items memory 0 test) true (performed setting old.types.now (action_of first.now) (state old.locals.items memory) left) (performed setting old.types.now second (state old.locals.items memory) left) (e ∙ ap (λ x. Ok x) is_so))

  pub stores : (type : Scalar) (address : Core) (displacement : ℕ) (core : Core) (offset : ℕ) (a : ℤ) (place : ℕ) (v : ℤ) (after : Memory)
      → value setting old.locals.items memory 0 address ≡ Ok a → address_of a + displacement ≡ place → value setting old.locals.items memory place core ≡ Ok v → stored setting memory type place v offset ≡ Ok after
      → Acts setting (Store type address displacement core offset) old memory old after (Ok (next.Goes ending.Went))
  stores type address displacement core offset a place v after e1 at e2 e3 = stays setting (λ left. performed setting old.types.now (Store type address displacement core offset) (state old.locals.items memory) left) old old after (next.Goes ending.Went) refl refl
      (λ left. performed-Store setting old.types.now type address displacement core offset (state old.locals.items memory) left
      ∙ ap (λ r. on_ok r (λ a. on_ok (value setting old.locals.items memory (address_of a + displacement) core) (λ v. on_ok (stored setting memory type (address_of a + displacement) v offset) (λ m. Went (state old.locals.items m) left)))) e1
      ∙ ap (λ p. on_ok (value setting old.locals.items memory p core) (λ v. on_ok (stored setting memory type p v offset) (λ m. Went (state old.locals.items m) left))) at
      ∙ ap (λ r. on_ok r (λ v. on_ok (stored setting memory type place v offset) (λ m. Went (state old.locals.items m) left))) e2
      ∙ ap (λ r. on_ok r (λ m. Went (state old.locals.items m) left)) e3)

  -- `passed` is the frame where the arguments are there
  pub calls : (passed : Frame) (number : ℕ) (function : Bor (List ℕ)) (arguments : List Core) (local : Option ℕ) → values setting old.locals.items memory arguments ≡ Ok passed.arguments.items
      → passed.types ≡ old.types → passed.locals ≡ old.locals → passed.tasks ≡ old.tasks
      → Acts setting (Call number function.now arguments local) old memory (record passed { callee = function; receiver = local }) memory (Ok (next.Pauses pause.Calls))
  calls passed number function arguments local e types locals tasks =
      stays setting (λ left. performed setting old.types.now (Call number function.now arguments local) (state old.locals.items memory) left) old (record passed { callee = function; receiver = local }) memory (next.Pauses pause.Calls) types tasks
      (λ left. performed-Call setting old.types.now number function.now arguments local (state old.locals.items memory) left
      ∙ ap (λ r. on_ok r (λ vs. after_call old.types.now old.locals.items local (called setting function.now vs memory left))) e
      ∙ ap (λ (ls : Vec (Option ℤ) Global). after_call old.types.now ls.items local (called setting function.now passed.arguments.items memory left)) (sym locals))

  pub gives : (core : Core) (v : ℤ) (given : Option Core) → given ≡ Some core → value setting old.locals.items memory 0 core ≡ Ok v
      → Acts setting (Return given) old memory (record old { given = Some v }) memory (Ok (next.Pauses pause.Ended))
  gives core v given is e = stays setting (λ left. performed setting old.types.now (Return given) (state old.locals.items memory) left) old (record old { given = Some v }) memory (next.Pauses pause.Ended) refl refl
      (λ left. ap (λ g. performed setting old.types.now (Return g) (state old.locals.items memory) left) is
      ∙ performed-Return setting old.types.now core (state old.locals.items memory) left ∙ ap (λ r. on_ok r (λ v. Gave (Some v) memory left)) e)

  pub gives_nothing : (given : Option Core) → given ≡ None → Acts setting (Return given) old memory (record old { given = None }) memory (Ok (next.Pauses pause.Ended))
  gives_nothing given is = stays setting (λ left. performed setting old.types.now (Return given) (state old.locals.items memory) left) old (record old { given = None }) memory (next.Pauses pause.Ended) refl refl
      (λ left. ap (λ g. performed setting old.types.now (Return g) (state old.locals.items memory) left) is ∙ performed-end setting old.types.now (state old.locals.items memory) left)

  jumps : (j : Jump) (left : ℕ) → Jumped j (state old.locals.items memory) left ≡ flow_of (ending_of j) (state old.locals.items memory) left
  jumps jump.Break left = refl
  jumps jump.Continue left = refl

  pub leaves : (j : Jump) (e : Ending) → e ≡ ending_of j → Acts setting (Leave j) old memory old memory (Ok (next.Goes e))
  leaves j e is = subst (λ x. Acts setting (Leave j) old memory old memory (Ok (next.Goes x))) (sym is) (stays setting (λ left. performed setting old.types.now (Leave j) (state old.locals.items memory) left) old old memory (next.Goes (ending_of j)) refl refl
      (λ left. performed-Leave setting old.types.now j (state old.locals.items memory) left ∙ jumps j left))

  pub lacks_return : (offset : ℕ) → Acts setting (MissingReturn offset) old memory old memory (Err (Fault (stop.Broke guards.MissingReturn offset)))
  lacks_return offset = λ left. ap (through setting old.types.now old.tasks.items) (performed-MissingReturn setting old.types.now offset (state old.locals.items memory) left) ∙ through-Broke setting old.types.now old.tasks.items guards.MissingReturn offset

  pub evaluates_not : (new : Frame) (after : Memory) (core : Core) (e : Refusal Stop) → GivesValue (Err e) (value setting old.locals.items memory 0 core) → Acts setting (Evaluate core) old memory new after (Err e)
  evaluates_not new after core e broken = stops setting old new after (λ left. performed setting old.types.now (Evaluate core) (state old.locals.items memory) left) (λ v. v) e (value setting old.locals.items memory 0 core)
      (λ v left. Went (state old.locals.items memory) left) broken (λ left. performed-Evaluate setting old.types.now core (state old.locals.items memory) left)

  pub sets_not : (new : Frame) (after : Memory) (local : ℕ) (core : Core) (e : Refusal Stop) → GivesValue (Err e) (value setting old.locals.items memory 0 core) → Acts setting (Set local core) old memory new after (Err e)
  sets_not new after local core e broken = stops setting old new after (λ left. performed setting old.types.now (Set local core) (state old.locals.items memory) left) (λ v. v) e (value setting old.locals.items memory 0 core)
      (λ v left. Went (with_local (state old.locals.items memory) local (Some v)) left) broken (λ left. performed-Set setting old.types.now local core (state old.locals.items memory) left)

  pub chooses_not : (new : Frame) (after : Memory) (core : Core) (first second : Action) (seen : Bool → Bool) (e : Refusal Stop) → Gives seen (Err e) (truth (value setting old.locals.items memory 0 core)) → Acts setting (If core first second) old memory new after (Err e)
  chooses_not new after core first second seen e broken = stops setting old new after (λ left. performed setting old.types.now (If core first second) (state old.locals.items memory) left) (λ v. v) e (value setting old.locals.items memory 0 core)
      (λ v left. if is_zero v then performed setting old.types.now second (state old.locals.items memory) left else performed setting old.types.now first (state old.locals.items memory) left) (no_truth seen e (value setting old.locals.items memory 0 core) broken) (λ left. performed-If setting old.types.now core first second (state old.locals.items memory) left)

  pub gives_not : (new : Frame) (after : Memory) (core : Core) (given : Option Core) (e : Refusal Stop) → given ≡ Some core → GivesValue (Err e) (value setting old.locals.items memory 0 core) → Acts setting (Return given) old memory new after (Err e)
  gives_not new after core given e is broken = stops setting old new after (λ left. performed setting old.types.now (Return given) (state old.locals.items memory) left) (λ v. v) e (value setting old.locals.items memory 0 core)
      (λ v left. Gave (Some v) memory left) broken (λ left. ap (λ g. performed setting old.types.now (Return g) (state old.locals.items memory) left) is ∙ performed-Return setting old.types.now core (state old.locals.items memory) left)

  pub calls_not : (new : Frame) (after : Memory) (number : ℕ) (function : List ℕ) (arguments : List Core) (local : Option ℕ) (seen : Unit {0} → List ℤ) (e : Refusal Stop) → Gives seen (Err e) (values setting old.locals.items memory arguments)
      → Acts setting (Call number function arguments local) old memory new after (Err e)
  calls_not new after number function arguments local seen e broken = stops setting old new after (λ left. performed setting old.types.now (Call number function arguments local) (state old.locals.items memory) left) seen e (values setting old.locals.items memory arguments)
      (λ vs left. after_call old.types.now old.locals.items local (called setting function vs memory left)) broken (λ left. performed-Call setting old.types.now number function arguments local (state old.locals.items memory) left)

  pub addresses_not : (new : Frame) (after : Memory) (type : Scalar) (address : Core) (displacement : ℕ) (core : Core) (offset : ℕ) (e : Refusal Stop) → GivesValue (Err e) (value setting old.locals.items memory 0 address)
      → Acts setting (Store type address displacement core offset) old memory new after (Err e)
  addresses_not new after type address displacement core offset e broken = stops setting old new after (λ left. performed setting old.types.now (Store type address displacement core offset) (state old.locals.items memory) left) (λ v. v) e (value setting old.locals.items memory 0 address)
      (λ a left. on_ok (value setting old.locals.items memory (address_of a + displacement) core) (λ v. on_ok (stored setting memory type (address_of a + displacement) v offset) (λ m. Went (state old.locals.items m) left)))
      broken (λ left. performed-Store setting old.types.now type address displacement core offset (state old.locals.items memory) left)

  located : (type : Scalar) (address : Core) (displacement : ℕ) (core : Core) (offset : ℕ) (a : ℤ) (place left : ℕ) → value setting old.locals.items memory 0 address ≡ Ok a → address_of a + displacement ≡ place
      → performed setting old.types.now (Store type address displacement core offset) (state old.locals.items memory) left ≡ on_ok (value setting old.locals.items memory place core) (λ v. on_ok (stored setting memory type place v offset) (λ m. Went (state old.locals.items m) left))
  located type address displacement core offset a place left e1 at = performed-Store setting old.types.now type address displacement core offset (state old.locals.items memory) left
      ∙ ap (λ r. on_ok r (λ a. on_ok (value setting old.locals.items memory (address_of a + displacement) core) (λ v. on_ok (stored setting memory type (address_of a + displacement) v offset) (λ m. Went (state old.locals.items m) left)))) e1
      ∙ ap (λ p. on_ok (value setting old.locals.items memory p core) (λ v. on_ok (stored setting memory type p v offset) (λ m. Went (state old.locals.items m) left))) at

  pub stores_no_value : (new : Frame) (after : Memory) (type : Scalar) (address : Core) (displacement : ℕ) (core : Core) (offset : ℕ) (a : ℤ) (place : ℕ) (e : Refusal Stop)
      → value setting old.locals.items memory 0 address ≡ Ok a → address_of a + displacement ≡ place → GivesValue (Err e) (value setting old.locals.items memory place core)
      → Acts setting (Store type address displacement core offset) old memory new after (Err e)
  stores_no_value new after type address displacement core offset a place e e1 at broken = stops setting old new after (λ left. performed setting old.types.now (Store type address displacement core offset) (state old.locals.items memory) left) (λ v. v) e (value setting old.locals.items memory place core)
      (λ v left. on_ok (stored setting memory type place v offset) (λ m. Went (state old.locals.items m) left)) broken (λ left. located type address displacement core offset a place left e1 at)

  pub stores_not : (new : Frame) (after : Memory) (type : Scalar) (address : Core) (displacement : ℕ) (core : Core) (offset : ℕ) (a : ℤ) (place : ℕ) (v : ℤ) (seen : Unit {0} → Memory) (e : Refusal Stop)
      → value setting old.locals.items memory 0 address ≡ Ok a → address_of a + displacement ≡ place → value setting old.locals.items memory place core ≡ Ok v → Gives seen (Err e) (stored setting memory type place v offset)
      → Acts setting (Store type address displacement core offset) old memory new after (Err e)
  stores_not new after type address displacement core offset a place v seen e e1 at e2 broken = stops setting old new after (λ left. performed setting old.types.now (Store type address displacement core offset) (state old.locals.items memory) left) seen e (stored setting memory type place v offset)
      (λ m left. Went (state old.locals.items m) left) broken
      (λ left. located type address displacement core offset a place left e1 at ∙ ap (λ r. on_ok r (λ v. on_ok (stored setting memory type place v offset) (λ m. Went (state old.locals.items m) left))) e2)

  pub repeats : (new : Frame) (place place' : TestPlace) (action : Bor kept.Action) (test : Bor expression.Core) (step body : Bor kept.Action) → place ≡ place' → ArePushed old new (loop_tasks place' action test step body)
      → Repeats setting place action test step body old memory new memory (Ok (next.Pauses pause.Waits))
  repeats new place place' action test step body is pushed = subst (λ p. Repeats setting p action test step body old memory new memory (Ok (next.Pauses pause.Waits))) (sym is)
      (pushes setting (λ left. with_turn left (λ n. round_with setting old.types.now action test step body old.locals.items memory place' n)) old new memory
      (loop_tasks place' action test step body) (next.Pauses pause.Waits) pushed (λ left. round_is setting old.types.now action test step body old.locals.items memory place' left))

-- an action that is a loop
pub loops : (setting : Setting) (old new : Frame) (memory after : Memory) (result : Result Next (Refusal Stop)) (number : ℕ) (place : TestPlace) (action : Bor kept.Action) (test : Bor expression.Core) (step body : Bor kept.Action)
    → action_of action.now ≡ Loop number place (core_of test.now) (action_of step.now) (action_of body.now) → Repeats setting place action test step body old memory new after result → Acts setting (action_of action.now) old memory new after result
loops setting old new memory after result number place action test step body is repeated = changed setting new after result
    (λ left. through setting old.types.now old.tasks.items (with_turn left (λ n. round_with setting old.types.now action test step body old.locals.items memory place n)))
    (λ left. through setting old.types.now old.tasks.items (performed setting old.types.now (action_of action.now) (state old.locals.items memory) left))
    (λ left. ap (through setting old.types.now old.tasks.items)
    (subst (λ a. performed setting old.types.now a (state old.locals.items memory) left ≡ with_turn left (λ n. again (performed setting old.types.now a) (round_in setting old.types.now place (core_of test.now) (action_of step.now) (action_of body.now) (state old.locals.items memory) n)))
    (sym is) (turned setting old.types.now number place (core_of test.now) (action_of step.now) (action_of body.now) (state old.locals.items memory) left))) repeated
