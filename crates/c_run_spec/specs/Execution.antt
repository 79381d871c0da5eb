-- What a statement does with a number of turns. A turn is taken before each round of a loop and at each call, and what a
-- part leaves of the turns the next part has.
use Rattle.std.specs.Prelude.{ℕ, zero, suc, ◌+◌, Bool, if◌then◌else◌, ℤ, pos, List, slice_get, slice_set, Option, Some, None, option_map, Result, Ok, Err}
use Rattle.std.specs.Option.{option_or}
use Rattle.std.specs.List.{list_any}
use Rattle.memory_spec.specs.Memory.{Memory}
use Rattle.c_types_spec.specs.declared.Scalar.{Scalar}
use Rattle.c_types_spec.specs.declared.TestPlace.{TestPlace}
use Rattle.c_types_spec.specs.declared.TestPlace.TheVariants.{Before, After}
use Rattle.c_types_spec.specs.declared.Jump.{Jump}
use Rattle.c_types_spec.specs.declared.Jump.TheVariants.{Break, Continue}
use Rattle.c_types_spec.specs.Values.{converted, same_value}
use Rattle.c_types_spec.specs.Core.{Action, Skip, Sequence, Evaluate, Set, Unset, Store, Call, If, Loop, Leave, Switch, Return, MissingReturn, Groups, no_groups, groups}
use Rattle.c_types_spec.specs.Statements.{same_label}
use Rattle.c_run_spec.specs.declared.Guard.{Guard}
use Rattle.c_run_spec.specs.declared.Guard.TheVariants as guards
use Rattle.c_run_spec.specs.Setting.{Setting, Broken}
use Rattle.c_run_spec.specs.Accesses.{address_of, stored}
use Rattle.c_run_spec.specs.Evaluation.{Evaluated, Locals, value, values}

-- of a function that runs
pub record State : Type 0 where
  pub locals : Locals
  pub memory : Memory

abbrev pub state : Locals → Memory → State
state locals memory = record { locals = locals; memory = memory }

-- how a statement ends (6.8, 6.8.6), and how many turns are left
pub data Flow : Type 0 where
  -- the turns were too few
  More : Flow
  Broke : (guard : Guard) → (offset : ℕ) → Flow
  -- control goes on after it
  Went : (state : State) → (left : ℕ) → Flow
  Jumped : (jump : Jump) → (state : State) → (left : ℕ) → Flow
  Gave : (value : Option ℤ) → (memory : Memory) → (left : ℕ) → Flow

-- how a call ends
pub data Called : Type 0 where
  Unfinished : Called
  Failed : (guard : Guard) → (offset : ℕ) → Called
  Returned : (value : Option ℤ) → (memory : Memory) → (left : ℕ) → Called

-- what a call of a function does with a number of turns
abbrev pub Calls : Type 0
Calls = (function : List ℕ) → (arguments : List ℤ) → Memory → (turns : ℕ) → Called

-- ---- parts of statements

-- what a statement does next with a result, unless its evaluation broke a guard
abbrev pub on_ok : {A : Type 0} → Result A Broken → (A → Flow) → Flow
on_ok (Ok x) next = next x
on_ok (Err broken) next = Broke broken.0 broken.1

-- a statement, and then another
abbrev pub then_do : (State → ℕ → Flow) → Flow → Flow
then_do next (Went state left) = next state left
then_do next other = other

abbrev pub is_zero : ℤ → Bool
is_zero v = same_value v (pos 0)

abbrev pub with_local : State → (local : ℕ) → Option ℤ → State
with_local st local v = state (slice_set st.locals local v) st.memory

abbrev pub with_memory : State → Memory → State
with_memory st memory = state st.locals memory

-- ---- calls

-- a value in the type of a local
abbrev pub as_local : (types : List Scalar) → (local : ℕ) → Option ℤ → Option ℤ
as_local types local None = None
as_local types local (Some v) = option_map (λ type. converted type v) (slice_get types local)

-- 6.5.2.2p5, 6.5.16.1p2: the value of a call, converted to the type of the local that it is put into
abbrev pub received : (types : List Scalar) → Locals → Option ℕ → Option ℤ → Locals
received types locals None v = locals
received types locals (Some local) v = slice_set locals local (as_local types local v)

-- the caller goes on where the callee returns
abbrev pub after_call : (types : List Scalar) → Locals → (result : Option ℕ) → Called → Flow
after_call types locals result Unfinished = More
after_call types locals result (Failed guard offset) = Broke guard offset
after_call types locals result (Returned v memory left) = Went (state (received types locals result v) memory) left

-- ---- loops

-- a round leaves the loop by `break`
abbrev pub again : (State → ℕ → Flow) → Flow → Flow
again next (Went st left) = next st left
again next (Jumped Break st left) = Went st left
again next other = other

-- 6.8.5p4: the rounds of a loop. Each takes a turn. There are no more of them than turns, so that the depth does not
-- matter where it is at least their number
unfoldable pub rounds : (round : State → ℕ → Flow) → (depth : ℕ) → State → (turns : ℕ) → Flow
rounds round zero st turns = More
rounds round (suc depth) st zero = More
rounds round (suc depth) st (suc turns) = again (rounds round depth) (round st turns)

-- 6.8.6.2p2: `continue` goes to the end of the body
abbrev pub continued : Flow → Flow
continued (Jumped Continue st left) = Went st left
continued other = other

-- the rest of a round where the test is not 0, else the end of the loop
abbrev pub while_true : (State → Evaluated) → (State → ℕ → Flow) → State → ℕ → Flow
while_true test next st left = on_ok (test st) (λ v. if is_zero v then Jumped Break st left else next st left)

-- 6.8.5.1, 6.8.5.3: the test, the body, the step. 6.8.5.2: the body, the test
abbrev pub round_of : TestPlace → (test : State → Evaluated) → (step body : State → ℕ → Flow) → State → ℕ → Flow
round_of Before test step body st turns = while_true test (λ s m. then_do step (continued (body s m))) st turns
round_of After test step body st turns = then_do (while_true test (λ s m. Went s m)) (continued (body st turns))

-- ---- `switch`

-- the first group with a label, `default` being none, by its number
unfoldable pub labelled : Option ℤ → Groups → Option ℕ
labelled label no_groups = None
labelled label (groups labels body rest) =
    if list_any (λ other. same_label other label) labels then Some 0 else option_map suc (labelled label rest)

-- 6.8.4.2p5: the group with the value, else that with `default`
abbrev pub chosen_group : ℤ → Groups → Option ℕ
chosen_group v list = option_or (labelled (Some v) list) (labelled None list)

-- 6.8.6.3p2: `break` leaves the `switch`
abbrev pub switched : Flow → Flow
switched (Jumped Break st left) = Went st left
switched other = other

-- ---- statements

unfoldable mutual
  -- `types` are the types of the function's locals
  pub does : Setting → Calls → (types : List Scalar) → (depth : ℕ) → Action → State → (turns : ℕ) → Flow
  does setting calls types depth Skip st turns = Went st turns
  does setting calls types depth (Sequence first second) st turns =
      then_do (λ s m. does setting calls types depth second s m) (does setting calls types depth first st turns)
  does setting calls types depth (Evaluate core) st turns =
      on_ok (value setting st.locals st.memory 0 core) (λ v. Went st turns)
  does setting calls types depth (Set local core) st turns =
      on_ok (value setting st.locals st.memory 0 core) (λ v. Went (with_local st local (Some v)) turns)
  -- 6.2.4p6: a local has no value each time its declaration is reached
  does setting calls types depth (Unset local) st turns = Went (with_local st local None) turns
  does setting calls types depth (Store type address displacement core offset) st turns =
      on_ok (value setting st.locals st.memory 0 address)
      (λ a. on_ok (value setting st.locals st.memory (address_of a + displacement) core)
      (λ v. on_ok (stored setting st.memory type (address_of a + displacement) v offset)
      (λ memory. Went (with_memory st memory) turns)))
  does setting calls types depth (Call number function arguments result) st turns =
      on_ok (values setting st.locals st.memory arguments) (λ vs. after_call types st.locals result (calls function vs st.memory turns))
  does setting calls types depth (If test first second) st turns =
      on_ok (value setting st.locals st.memory 0 test)
      (λ v. if is_zero v then does setting calls types depth second st turns else does setting calls types depth first st turns)
  does setting calls types depth (Loop number place test step body) st turns =
      rounds (round_of place (λ s. value setting s.locals s.memory 0 test) (λ s m. does setting calls types depth step s m) (λ s m. does setting calls types depth body s m)) depth st turns
  does setting calls types depth (Leave jump) st turns = Jumped jump st turns
  does setting calls types depth (Switch test list) st turns =
      on_ok (value setting st.locals st.memory 0 test) (λ v. switched (does_group setting calls types depth list (chosen_group v list) st turns))
  does setting calls types depth (Return None) st turns = Gave None st.memory turns
  does setting calls types depth (Return (Some core)) st turns =
      on_ok (value setting st.locals st.memory 0 core) (λ v. Gave (Some v) st.memory turns)
  -- 6.9.1p12
  does setting calls types depth (MissingReturn offset) st turns = Broke guards.MissingReturn offset

  -- the group of a number, if there is one
  pub does_group : Setting → Calls → (types : List Scalar) → (depth : ℕ) → Groups → Option ℕ → State → (turns : ℕ) → Flow
  does_group setting calls types depth no_groups taken st turns = Went st turns
  does_group setting calls types depth (groups labels body rest) None st turns = Went st turns
  does_group setting calls types depth (groups labels body rest) (Some zero) st turns = does setting calls types depth body st turns
  does_group setting calls types depth (groups labels body rest) (Some (suc taken)) st turns = does_group setting calls types depth rest (Some taken) st turns
