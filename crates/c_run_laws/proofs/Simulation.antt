-- Runs in two settings are alike where their reads and writes are.
use Rattle.std.proofs.Common.{◌≡◌, ◌⊎◌, ℕ, zero, suc, ◌+◌, Bool, true, false, if◌then◌else◌, IsTrue, Option, Some, None, List, [], ◌∷◌, refl, sym, ap, subst, inl, inr, arith}
use Rattle.std.specs.Prelude.{ℤ, pos, slice_get, unwrap_or, Result, Ok, Err}
use Rattle.memory_spec.specs.Memory.{Memory}
use Rattle.c_types_spec.specs.declared.Scalar.{Scalar}
use Rattle.c_types_spec.specs.declared.Order.TheVariants.{PointerFirst, IndexFirst}
use Rattle.c_types_spec.specs.declared.TestPlace.{TestPlace}
use Rattle.c_types_spec.specs.declared.TestPlace.TheVariants.{Before, After}
use Rattle.c_types_spec.specs.Core.{Core, Constant, ReadLocal, GlobalAddress, Load, Target, Convert, Operate, Compare, Move, Within, Aligned, Choose, Action, Skip, Sequence, Evaluate, Set, Unset, Store, Call, If, Loop, Leave, Switch, Return, MissingReturn, Groups, no_groups, groups, Body}
use Rattle.c_types_spec.specs.Values.{same_value}
use Rattle.c_run_spec.specs.declared.Guard.{Guard}
use Rattle.c_run_spec.specs.Setting.{Setting, Broken}
use Rattle.c_run_spec.specs.Accesses.{address_of, object_value, stored}
use Rattle.c_run_spec.specs.Evaluation.{Evaluated, Locals, value, values, local_value, operated, moved}
use Rattle.c_run_spec.specs.Evaluation as rule
use Rattle.c_run_spec.specs.Execution.{State, state, Flow, More, Broke, Went, Jumped, Gave, Called, Unfinished, Failed, Returned, Calls, is_zero, then_do, rounds, continued, while_true, round_of, chosen_group, after_call, does, does_group}
use Rattle.c_run_spec.specs.Calls.{returned, body_named, runs_body, runs, locals_at_entry}
use Rattle.c_run_laws.proofs.Alike as alike

-- the settings have the same functions and globals, and reads and writes are alike
pub record SettingsAlike (waits : Bool) (excused : Guard → Bool) (extra : ℕ) (Near : Memory → Memory → Type 0) (one other : Setting) : Type 0 where
  pub bodies : other.bodies ≡ one.bodies
  pub globals : other.globals ≡ one.globals
  pub reads : (memory after : Memory) (type : Scalar) (address offset : ℕ) → Near memory after
      → alike.ResultsAlike waits excused extra Near (object_value one memory type address offset) (object_value other after type address offset)
  pub writes : (memory after : Memory) (type : Scalar) (address : ℕ) (v : ℤ) (offset : ℕ) → Near memory after
      → alike.StoresAlike waits excused extra Near (stored one memory type address v offset) (stored other after type address v offset)
  pub waiting : IsTrue waits ⊎ (extra ≡ 0)

pub no_depth : (round : State → ℕ → Flow) (depth turns : ℕ) (st : State) → depth ≡ 0 → rounds round depth st turns ≡ More
unfolding rounds
no_depth round zero turns st e = refl
no_depth round (suc depth) turns st e = absurd (omega arith)

pub no_turns : (round : State → ℕ → Flow) (depth turns : ℕ) (st : State) → turns ≡ 0 → rounds round depth st turns ≡ More
unfolding rounds
no_turns round zero turns st e = refl
no_turns round (suc depth) zero st e = refl
no_turns round (suc depth) (suc turns) st e = absurd (omega arith)

pub no_call_depth : (setting : Setting) (depth turns : ℕ) (function : List ℕ) (arguments : List ℤ) (memory : Memory) → depth ≡ 0 → runs setting depth function arguments memory turns ≡ Unfinished
unfolding runs
no_call_depth setting zero turns function arguments memory e = refl
no_call_depth setting (suc depth) turns function arguments memory e = absurd (omega arith)

pub no_call_turns : (setting : Setting) (depth turns : ℕ) (function : List ℕ) (arguments : List ℤ) (memory : Memory) → turns ≡ 0 → runs setting depth function arguments memory turns ≡ Unfinished
unfolding runs
no_call_turns setting zero turns function arguments memory e = refl
no_call_turns setting (suc depth) zero function arguments memory e = refl
no_call_turns setting (suc depth) (suc turns) function arguments memory e = absurd (omega arith)

abbrev good : ℤ → Evaluated
good v = Ok v

module _ (waits : Bool) (excused : Guard → Bool) (extra : ℕ) (Near : Memory → Memory → Type 0) (one other : Setting) (same : SettingsAlike waits excused extra Near one other) where
  abbrev ResultsAlike : {A : Type 0} → Result A Broken → Result A Broken → Type 0
  ResultsAlike r q = alike.ResultsAlike waits excused extra Near r q

  abbrev FlowsAlike : Flow → Flow → Type 0
  FlowsAlike f g = alike.FlowsAlike waits excused extra Near f g

  abbrev CallsAlike : Called → Called → Type 0
  CallsAlike c d = alike.CallsAlike waits excused extra Near c d

  abbrev NextAlike : (State → ℕ → Flow) → (State → ℕ → Flow) → Type 0
  NextAlike f g = alike.NextAlike waits excused extra Near f g

  -- a result that depends on neither setting nor memory
  result_itself : {A : Type 0} (r : Result A Broken) → ResultsAlike r r
  result_itself (Ok x) = refl
  result_itself (Err broken) = inr refl

  either_result : {A : Type 0} (b : Bool) (r q r' q' : Result A Broken) → ResultsAlike r q → ResultsAlike r' q' → ResultsAlike (if b then r else r') (if b then q else q')
  either_result true r q r' q' first second = first
  either_result false r q r' q' first second = second

  either_flow : (b : Bool) (f g f' g' : Flow) → FlowsAlike f g → FlowsAlike f' g' → FlowsAlike (if b then f else f') (if b then g else g')
  either_flow true f g f' g' first second = first
  either_flow false f g f' g' first second = second

  value_alike : (locals : Locals) (memory after : Memory) (target : ℕ) → Near memory after → (core : Core) → ResultsAlike (value one locals memory target core) (value other locals after target core)
  unfolding value
  value_alike locals memory after target near (Constant type v) = refl
  value_alike locals memory after target near (ReadLocal type local offset) = result_itself (local_value (slice_get locals local) offset)
  value_alike locals memory after target near (GlobalAddress name) =
      let found : unwrap_or (other.globals name) 0 ≡ unwrap_or (one.globals name) 0 = ap (λ globals. unwrap_or (globals name) 0) same.globals in
      ap (λ n. good (pos n)) found
  value_alike locals memory after target near (Load type address displacement offset) =
      alike.on_result_alike waits excused extra Near _ _ (λ a. object_value one memory type (address_of a + displacement) offset) (λ a. object_value other after type (address_of a + displacement) offset)
      (value_alike locals memory after target near address) (λ a. same.reads memory after type (address_of a + displacement) offset near)
  value_alike locals memory after target near (Target type offset) = same.reads memory after type target offset near
  value_alike locals memory after target near (Convert type operand) =
      alike.on_result_alike waits excused extra Near _ _ _ _ (value_alike locals memory after target near operand) (λ v. refl)
  value_alike locals memory after target near (Operate operator type left right offset) =
      alike.on_result_alike waits excused extra Near _ _ _ _ (value_alike locals memory after target near left)
      (λ a. alike.on_result_alike waits excused extra Near _ _ _ _ (value_alike locals memory after target near right) (λ b. result_itself (operated operator type a b offset)))
  value_alike locals memory after target near (Compare operator left right) =
      alike.on_result_alike waits excused extra Near _ _ _ _ (value_alike locals memory after target near left)
      (λ a. alike.on_result_alike waits excused extra Near _ _ _ _ (value_alike locals memory after target near right) (λ b. refl))
  value_alike locals memory after target near (Move direction PointerFirst size pointer index offset) =
      alike.on_result_alike waits excused extra Near _ _ _ _ (value_alike locals memory after target near pointer)
      (λ p. alike.on_result_alike waits excused extra Near _ _ _ _ (value_alike locals memory after target near index) (λ i. result_itself (moved direction size p i offset)))
  value_alike locals memory after target near (Move direction IndexFirst size pointer index offset) =
      alike.on_result_alike waits excused extra Near _ _ _ _ (value_alike locals memory after target near index)
      (λ i. alike.on_result_alike waits excused extra Near _ _ _ _ (value_alike locals memory after target near pointer) (λ p. result_itself (moved direction size p i offset)))
  value_alike locals memory after target near (Within bound index offset) =
      alike.on_result_alike waits excused extra Near _ _ _ _ (value_alike locals memory after target near index) (λ i. result_itself (rule.within bound i offset))
  value_alike locals memory after target near (Aligned alignment pointer offset) =
      alike.on_result_alike waits excused extra Near _ _ _ _ (value_alike locals memory after target near pointer) (λ p. result_itself (rule.aligned alignment p offset))
  value_alike locals memory after target near (Choose type test first second) =
      alike.on_result_alike waits excused extra Near _ _ _ _ (value_alike locals memory after target near test)
      (λ t. either_result (same_value t (pos 0)) _ _ _ _ (value_alike locals memory after target near second) (value_alike locals memory after target near first))

  values_alike : (locals : Locals) (memory after : Memory) → Near memory after → (cores : List Core) → ResultsAlike (values one locals memory cores) (values other locals after cores)
  unfolding values
  values_alike locals memory after near [] = refl
  values_alike locals memory after near (first ∷ rest) =
      alike.on_result_alike waits excused extra Near _ _ _ _ (value_alike locals memory after 0 near first)
      (λ v. alike.on_result_alike waits excused extra Near _ _ _ _ (values_alike locals memory after near rest) (λ vs. refl))

  went_alike : (locals : Locals) (memory after : Memory) (left more : ℕ) → more ≡ left + extra → Near memory after → FlowsAlike (Went (state locals memory) left) (Went (state locals after) more)
  went_alike locals memory after left more count near = (after, more, refl, count, near)

  rounds_alike : (round round' : State → ℕ → Flow) → NextAlike round round' → (depth depth' : ℕ) → depth' ≡ depth + extra → NextAlike (rounds round depth) (rounds round' depth')
  unfolding rounds
  rounds_alike round round' both zero depth' deep locals memory after left more count near =
      elim same.waiting [ inl w ↦ inl w | inr e ↦ inr (no_depth round' depth' more (state locals after) (omega arith)) ]
  rounds_alike round round' both (suc depth) depth' deep locals memory after zero more count near =
      elim same.waiting [ inl w ↦ inl w | inr e ↦ inr (no_turns round' depth' more (state locals after) (omega arith)) ]
  rounds_alike round round' both (suc depth) zero deep locals memory after (suc left) more count near = absurd (omega arith)
  rounds_alike round round' both (suc depth) (suc depth') deep locals memory after (suc left) zero count near = absurd (omega arith)
  rounds_alike round round' both (suc depth) (suc depth') deep locals memory after (suc left) (suc more) count near =
      alike.again_alike waits excused extra Near (rounds round depth) (rounds round' depth') _ _
      (rounds_alike round round' both depth depth' (omega arith)) (both locals memory after left more (omega arith) near)

  tests_alike : (test : Core) (next next' : State → ℕ → Flow) → NextAlike next next'
      → NextAlike (while_true (λ s. value one s.locals s.memory 0 test) next) (while_true (λ s. value other s.locals s.memory 0 test) next')
  tests_alike test next next' both locals memory after left more count near =
      alike.on_ok_alike waits excused extra Near _ _ _ _ (value_alike locals memory after 0 near test)
      (λ v. either_flow (is_zero v) _ _ _ _ (after, more, refl, count, near) (both locals memory after left more count near))

  round_alike : (place : TestPlace) (test : Core) (step step' body body' : State → ℕ → Flow) → NextAlike step step' → NextAlike body body'
      → NextAlike (round_of place (λ s. value one s.locals s.memory 0 test) step body) (round_of place (λ s. value other s.locals s.memory 0 test) step' body')
  round_alike Before test step step' body body' steps bodies locals memory after left more count near =
      tests_alike test (λ s m. then_do step (continued (body s m))) (λ s m. then_do step' (continued (body' s m))) (λ locals memory after left more count near.
      alike.then_do_alike waits excused extra Near step step' _ _ steps (alike.continued_alike waits excused extra Near _ _ (bodies locals memory after left more count near)))
      locals memory after left more count near
  round_alike After test step step' body body' steps bodies locals memory after left more count near =
      alike.then_do_alike waits excused extra Near _ _ _ _ (tests_alike test (λ s m. Went s m) (λ s m. Went s m) went_alike)
      (alike.continued_alike waits excused extra Near _ _ (bodies locals memory after left more count near))

  return_alike : (types : List Scalar) (locals : Locals) (result : Option ℕ) (c d : Called) → CallsAlike c d → FlowsAlike (after_call types locals result c) (after_call types locals result d)
  return_alike types locals result Unfinished d (inl w) = inl w
  return_alike types locals result Unfinished d (inr e) = inr (ap (after_call types locals result) e)
  return_alike types locals result (Failed guard offset) d (inl h) = inl h
  return_alike types locals result (Failed guard offset) d (inr e) = inr (ap (after_call types locals result) e)
  return_alike types locals result (Returned v memory left) d (after, more, e, count, near) = (after, more, ap (after_call types locals result) e, count, near)

  abbrev EachCallAlike : Calls → Calls → Type 0
  EachCallAlike calls calls' = (function : List ℕ) (arguments : List ℤ) (memory after : Memory) (left more : ℕ) → more ≡ left + extra → Near memory after
      → CallsAlike (calls function arguments memory left) (calls' function arguments after more)

  module _ (calls calls' : Calls) (each : EachCallAlike calls calls') (types : List Scalar) (depth depth' : ℕ) (deep : depth' ≡ depth + extra) where
    mutual
      unfolding does does_group

      does_alike : (action : Action) → NextAlike (does one calls types depth action) (does other calls' types depth' action)
      does_alike Skip locals memory after left more count near = (after, more, refl, count, near)
      does_alike (Sequence first second) locals memory after left more count near =
          alike.then_do_alike waits excused extra Near _ _ _ _ (does_alike second) (does_alike first locals memory after left more count near)
      does_alike (Evaluate core) locals memory after left more count near =
          alike.on_ok_alike waits excused extra Near _ _ _ _ (value_alike locals memory after 0 near core) (λ v. (after, more, refl, count, near))
      does_alike (Set local core) locals memory after left more count near =
          alike.on_ok_alike waits excused extra Near _ _ _ _ (value_alike locals memory after 0 near core) (λ v. (after, more, refl, count, near))
      does_alike (Unset local) locals memory after left more count near = (after, more, refl, count, near)
      does_alike (Store type address displacement core offset) locals memory after left more count near =
          alike.on_ok_alike waits excused extra Near _ _ _ _ (value_alike locals memory after 0 near address)
          (λ a. alike.on_ok_alike waits excused extra Near _ _ _ _ (value_alike locals memory after (address_of a + displacement) near core)
          (λ v. alike.on_store_alike waits excused extra Near _ _ _ _ (same.writes memory after type (address_of a + displacement) v offset near)
          (λ written written' nearer. (written', more, refl, count, nearer))))
      does_alike (Call number function arguments result) locals memory after left more count near =
          alike.on_ok_alike waits excused extra Near _ _ _ _ (values_alike locals memory after near arguments)
          (λ vs. return_alike types locals result _ _ (each function vs memory after left more count near))
      does_alike (If test first second) locals memory after left more count near =
          alike.on_ok_alike waits excused extra Near _ _ _ _ (value_alike locals memory after 0 near test)
          (λ v. either_flow (is_zero v) _ _ _ _ (does_alike second locals memory after left more count near) (does_alike first locals memory after left more count near))
      does_alike (Loop number place test step body) locals memory after left more count near =
          rounds_alike _ _ (round_alike place test _ _ _ _ (does_alike step) (does_alike body)) depth depth' deep locals memory after left more count near
      does_alike (Leave jump) locals memory after left more count near = (after, more, refl, count, near)
      does_alike (Switch test list) locals memory after left more count near =
          alike.on_ok_alike waits excused extra Near _ _ _ _ (value_alike locals memory after 0 near test)
          (λ v. alike.switched_alike waits excused extra Near _ _ (group_alike list (chosen_group v list) locals memory after left more count near))
      does_alike (Return None) locals memory after left more count near = (after, more, refl, count, near)
      does_alike (Return (Some core)) locals memory after left more count near =
          alike.on_ok_alike waits excused extra Near _ _ _ _ (value_alike locals memory after 0 near core) (λ v. (after, more, refl, count, near))
      does_alike (MissingReturn offset) locals memory after left more count near = inr refl

      group_alike : (list : Groups) (taken : Option ℕ) → NextAlike (does_group one calls types depth list taken) (does_group other calls' types depth' list taken)
      group_alike no_groups taken locals memory after left more count near = (after, more, refl, count, near)
      group_alike (groups labels body rest) None locals memory after left more count near = (after, more, refl, count, near)
      group_alike (groups labels body rest) (Some zero) locals memory after left more count near = does_alike body locals memory after left more count near
      group_alike (groups labels body rest) (Some (suc taken)) locals memory after left more count near = group_alike rest (Some taken) locals memory after left more count near

  end_alike : (f g : Flow) → FlowsAlike f g → CallsAlike (returned f) (returned g)
  end_alike More g (inl w) = inl w
  end_alike More g (inr e) = inr (ap returned e)
  end_alike (Broke guard offset) g (inl h) = inl h
  end_alike (Broke guard offset) g (inr e) = inr (ap returned e)
  end_alike (Went st left) g (after, more, e, count, near) = (after, more, ap returned e, count, near)
  end_alike (Jumped jump st left) g (after, more, e, count, near) = (after, more, ap returned e, count, near)
  end_alike (Gave v memory left) g (after, more, e, count, near) = (after, more, ap returned e, count, near)

  body_alike : (calls calls' : Calls) → EachCallAlike calls calls' → (depth depth' : ℕ) → depth' ≡ depth + extra → (found : Option Body) (arguments : List ℤ) (memory after : Memory) (left more : ℕ)
      → more ≡ left + extra → Near memory after → CallsAlike (runs_body one calls depth found arguments memory left) (runs_body other calls' depth' found arguments after more)
  body_alike calls calls' each depth depth' deep None arguments memory after left more count near = inr refl
  body_alike calls calls' each depth depth' deep (Some body) arguments memory after left more count near =
      end_alike _ _ (does_alike calls calls' each body.locals depth depth' deep body.action (locals_at_entry body.locals arguments) memory after left more count near)

  pub runs_alike : (depth depth' : ℕ) → depth' ≡ depth + extra → EachCallAlike (runs one depth) (runs other depth')
  unfolding runs
  runs_alike zero depth' deep function arguments memory after left more count near =
      elim same.waiting [ inl w ↦ inl w | inr e ↦ inr (no_call_depth other depth' more function arguments after (omega arith)) ]
  runs_alike (suc depth) depth' deep function arguments memory after zero more count near =
      elim same.waiting [ inl w ↦ inl w | inr e ↦ inr (no_call_turns other depth' more function arguments after (omega arith)) ]
  runs_alike (suc depth) zero deep function arguments memory after (suc left) more count near = absurd (omega arith)
  runs_alike (suc depth) (suc depth') deep function arguments memory after (suc left) zero count near = absurd (omega arith)
  runs_alike (suc depth) (suc depth') deep function arguments memory after (suc left) (suc more) count near =
      subst (λ bodies. CallsAlike (runs_body one (runs one depth) depth (body_named one.bodies function) arguments memory left) (runs_body other (runs other depth') depth' (body_named bodies function) arguments after more))
      (sym same.bodies)
      (body_alike (runs one depth) (runs other depth') (runs_alike depth depth' (omega arith)) depth depth' (omega arith) (body_named one.bodies function) arguments memory after left more (omega arith) near)
