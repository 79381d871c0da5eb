-- Functions that wait for their callees, and what a run comes to.
use Rattle.std.proofs.Common.{◌≡◌, ℕ, suc, ◌+◌, ◌-◌, ◌<◌, Option, Some, None, List, [], ◌∷◌, ◌++◌, length, length-append, refl, sym, ap, subst, ◌∙◌, arith}
use Rattle.std.specs.Prelude.{ℤ, option_map, Vec, Result, Ok, Err}
use Rattle.std.specs.Borrow.{Bor}
use Rattle.std.specs.declared.alloc.Global.{Global}
use Rattle.memory_spec.specs.Memory.{Memory}
use Rattle.c_types_spec.specs.declared.Scalar.{Scalar}
use Rattle.c_types_spec.specs.Core as tree
use Rattle.c_types_core.specs.declared.action.Action as kept
use Rattle.c_types_core.specs.Actions.{action_of}
use Rattle.c_run_spec.specs.declared.Guard.{Guard}
use Rattle.c_run_spec.specs.Setting.{Setting}
use Rattle.c_run_spec.specs.Execution.{State, state, Went, Called, Unfinished, Failed, Returned, after_call}
use Rattle.c_run_spec.specs.Calls as spec
use Rattle.c_run_spec.specs.Calls.{returned, outcome_of, locals_at_entry, body_named, runs, c_run}
use Rattle.c_run_laws.specs.Depth.{called, performed}
use Rattle.c_run_laws.proofs.Turns.{called-suc, called-missing}
use Rattle.c_types.specs.declared.typed.Body.{Body}
use Rattle.c_types.specs.Typed.{body_of_name}
use Rattle.attempt.specs.declared.refusal.Refusal.{Refusal}
use Rattle.attempt.specs.declared.refusal.Refusal.TheVariants.{Fault, NoMemory}
use Rattle.c_run_value.specs.declared.setting.Stop.{Stop}
use Rattle.c_run_value.specs.declared.setting.Stop.TheVariants as stop
use Rattle.c_run.specs.declared.frame.Pause.{Pause}
use Rattle.c_run.specs.declared.frame.Pause.TheVariants as pause
use Rattle.c_run.specs.declared.frame.Frame.{Frame}
use Rattle.c_run.specs.declared.frame.Task.{Task}
use Rattle.c_run.specs.declared.frame.Task.TheVariants as task
use Rattle.c_run.specs.declared.machine.Machine.{Machine}
use Rattle.c_run.specs.declared.machine.Ended.{Ended}
use Rattle.c_run.specs.declared.machine.Ended.TheVariants as ended
use Rattle.c_run.specs.Tasks.{applied, through, paused, reached, Goes}
use Rattle.c_run.specs.Outcomes.{outcome_at}
use Rattle.c_run.specs.Machines.{ends, comes_to, comes_by, Ends, Turns, Turned, weight, IsEntered, IsReceived, IsCalled}
use Rattle.c_run.proofs.Through.{through-More, through-Broke, through-Gave}

-- ---- functions that wait

ends-push : (setting : Setting) (waiting : List Frame) (w : Frame) (result : Called)
    → ends setting (waiting ++ w ∷ []) result ≡ ends setting waiting (returned (through setting w.types.now w.tasks.items (after_call w.types.now w.locals.items w.receiver result)))
unfolding ends
ends-push setting [] w result = refl
ends-push setting (x ∷ waiting) w result =
    ap (λ c. returned (through setting x.types.now x.tasks.items (after_call x.types.now x.locals.items x.receiver c))) (ends-push setting waiting w result)

ends-Unfinished : (setting : Setting) (waiting : List Frame) → ends setting waiting Unfinished ≡ Unfinished
unfolding ends
ends-Unfinished setting [] = refl
ends-Unfinished setting (w ∷ waiting) =
    ap (λ c. returned (through setting w.types.now w.tasks.items (after_call w.types.now w.locals.items w.receiver c))) (ends-Unfinished setting waiting)
    ∙ ap returned (through-More setting w.types.now w.tasks.items)

ends-Failed : (setting : Setting) (waiting : List Frame) (guard : Guard) (offset : ℕ) → ends setting waiting (Failed guard offset) ≡ Failed guard offset
unfolding ends
ends-Failed setting [] guard offset = refl
ends-Failed setting (w ∷ waiting) guard offset =
    ap (λ c. returned (through setting w.types.now w.tasks.items (after_call w.types.now w.locals.items w.receiver c))) (ends-Failed setting waiting guard offset)
    ∙ ap returned (through-Broke setting w.types.now w.tasks.items guard offset)

ends-none : (setting : Setting) (result : Called) → ends setting [] result ≡ result
unfolding ends
ends-none setting result = refl

does_body : (setting : Setting) (types : List Scalar) (action : Bor kept.Action) (st : State) (left : ℕ)
    → through setting types (task.Do action ∷ []) (Went st left) ≡ performed setting types (action_of action.now) st left
unfolding through applied
does_body setting types action st left = refl

begins : (setting : Setting) (body : Body) (arguments : List ℤ) (frame : Frame) (memory : Memory) (left : ℕ) → IsEntered body arguments frame
    → through setting frame.types.now frame.tasks.items (Went (state frame.locals.items memory) left) ≡ performed setting body.locals.items (action_of body.action.value) (state (locals_at_entry body.locals.items arguments) memory) left
begins setting body arguments frame memory left enters =
    ap (λ ts. through setting frame.types.now ts (Went (state frame.locals.items memory) left)) enters.tasks.1
    ∙ does_body setting frame.types.now enters.tasks.0 (state frame.locals.items memory) left
    ∙ ap (λ a. performed setting frame.types.now (action_of a) (state frame.locals.items memory) left) enters.tasks.2
    ∙ ap (λ ts. performed setting ts (action_of body.action.value) (state frame.locals.items memory) left) enters.types
    ∙ ap (λ ls. performed setting body.locals.items (action_of body.action.value) (state ls memory) left) enters.locals

one_more : (n : ℕ) → 0 < n → n ≡ suc (n - 1)
one_more n some = omega arith

called_zero : (setting : Setting) (function : List ℕ) (arguments : List ℤ) (memory : Memory) → called setting function arguments memory 0 ≡ Unfinished
unfolding runs
called_zero setting function arguments memory = refl

-- a call, where its body begins
called_begins : (setting : Setting) (function : List ℕ) (arguments : List ℤ) (memory : Memory) (body : Body) (frame : Frame) (left : ℕ) → body_named setting.bodies function ≡ Some (body_of_name function body) → IsEntered body arguments frame
    → called setting function arguments memory (suc left) ≡ returned (through setting frame.types.now frame.tasks.items (Went (state frame.locals.items memory) left))
called_begins setting function arguments memory body frame left found enters =
    called-suc setting function arguments memory left (body_of_name function body) found ∙ ap returned (sym (begins setting body arguments frame memory left enters))

found_body : (bodies : List tree.Body) (name : List ℕ) (result : Option (Bor Body)) (b : Bor Body) → option_map (λ (x : Bor Body). body_of_name name x.now) result ≡ body_named bodies name → result ≡ Some b → body_named bodies name ≡ Some (body_of_name name b.now)
found_body bodies name result b is some = sym is ∙ ap (λ r. option_map (λ (x : Bor Body). body_of_name name x.now) r) some

no_body : (bodies : List tree.Body) (name : List ℕ) (result : Option (Bor Body)) → option_map (λ (x : Bor Body). body_of_name name x.now) result ≡ body_named bodies name → result ≡ None → body_named bodies name ≡ None
no_body bodies name result is none = sym is ∙ ap (λ r. option_map (λ (x : Bor Body). body_of_name name x.now) r) none

-- ---- the innermost function doesn't go on by itself

module _ (setting : Setting) (old : Machine) (memory : Memory) where
  unfinished : (p : Pause) → paused setting old.frame memory p old.left ≡ Unfinished → Ends (comes_by setting old memory p) memory (Ok ended.More)
  unfinished p more = ap outcome_of (ap (ends setting old.waiting.items) more ∙ ends-Unfinished setting old.waiting.items)

  -- it has returned

  given_back : comes_by setting old memory pause.Ended ≡ ends setting old.waiting.items (Returned old.frame.given memory old.left)
  given_back = ap (λ f. ends setting old.waiting.items (returned f)) (through-Gave setting old.frame.types.now old.frame.tasks.items old.frame.given memory old.left)

  pub gives_back : old.waiting.items ≡ [] → Ends (comes_by setting old memory pause.Ended) memory (Ok (ended.Back old.frame.given))
  gives_back last = ap outcome_of (given_back ∙ ap (λ ws. ends setting ws (Returned old.frame.given memory old.left)) last ∙ ends-none setting (Returned old.frame.given memory old.left))

  pub goes_back : (new : Machine) (w : Frame) → old.waiting.items ≡ new.waiting.items ++ w ∷ [] → IsReceived w new.frame old.frame.given → new.left ≡ old.left
      → (comes_by setting old memory pause.Ended ≡ comes_to setting new memory) × (weight new < weight old)
  goes_back new w pushed got same_left =
      let counted : length old.waiting.items ≡ length new.waiting.items + 1 = ap length pushed ∙ length-append new.waiting.items (w ∷ []) in (
        given_back
            ∙ ap (λ ws. ends setting ws (Returned old.frame.given memory old.left)) pushed
            ∙ ends-push setting new.waiting.items w (Returned old.frame.given memory old.left)
            ∙ ap (λ ls. ends setting new.waiting.items (returned (through setting w.types.now w.tasks.items (Went (state ls memory) old.left)))) (sym got.locals)
            ∙ ap (λ (ts : Vec Task Global). ends setting new.waiting.items (returned (through setting w.types.now ts.items (Went (state new.frame.locals.items memory) old.left)))) (sym got.tasks)
            ∙ ap (λ (ty : Bor (List Scalar)). ends setting new.waiting.items (returned (through setting ty.now new.frame.tasks.items (Went (state new.frame.locals.items memory) old.left)))) (sym got.types)
            ∙ ap (λ m. ends setting new.waiting.items (reached setting new.frame memory m)) (sym same_left),
        omega arith,
      )

  -- it needs a turn

  pub waits_ended : old.left ≡ 0 → Ends (comes_by setting old memory pause.Waits) memory (Ok ended.More)
  waits_ended none = unfinished pause.Waits
      (ap (λ m. paused setting old.frame memory pause.Waits m) none ∙ ap returned (through-More setting old.frame.types.now old.frame.tasks.items))

  pub waits_no_more : 0 < old.left → (comes_by setting old memory pause.Waits ≡ comes_to setting (record old { left = old.left - 1 }) memory) × (weight (record old { left = old.left - 1 }) < weight old)
  waits_no_more some = (
    ap (λ m. ends setting old.waiting.items (paused setting old.frame memory pause.Waits m)) (one_more old.left some),
    omega arith,
  )

  -- it calls another

  abbrev called_with : Called → Called
  called_with c = returned (through setting old.frame.types.now old.frame.tasks.items (after_call old.frame.types.now old.frame.locals.items old.frame.receiver c))

  no_call : called_with Unfinished ≡ Unfinished
  no_call = ap returned (through-More setting old.frame.types.now old.frame.tasks.items)

  pub calls_ended : old.left ≡ 0 → Ends (comes_by setting old memory pause.Calls) memory (Ok ended.More)
  calls_ended none = unfinished pause.Calls
      (ap (λ m. paused setting old.frame memory pause.Calls m) none
      ∙ ap called_with (called_zero setting old.frame.callee.now old.frame.arguments.items memory) ∙ no_call)

  module _ (found : Option (Bor Body)) (search_is : option_map (λ (x : Bor Body). body_of_name old.frame.callee.now x.now) found ≡ body_named setting.bodies old.frame.callee.now) where
    pub calls_nothing : found ≡ None → Ends (comes_by setting old memory pause.Calls) memory (Ok ended.More)
    calls_nothing none = unfinished pause.Calls
        (ap called_with (called-missing setting old.frame.callee.now old.frame.arguments.items memory old.left (no_body setting.bodies old.frame.callee.now found search_is none)) ∙ no_call)

    pub calls_body : (b : Bor Body) (new : Machine) → found ≡ Some b → IsCalled b.now old new → (comes_by setting old memory pause.Calls ≡ comes_to setting new memory) × (weight new < weight old)
    calls_body b new some calls =
        let taken : old.left ≡ suc new.left = omega (arith, calls.left) in
        let counted : length new.waiting.items ≡ length old.waiting.items + 1 = ap length calls.waiting ∙ length-append old.waiting.items (old.frame ∷ []) in (
          ap (λ m. ends setting old.waiting.items (paused setting old.frame memory pause.Calls m)) taken
              ∙ ap (λ c. ends setting old.waiting.items (called_with c))
              (called_begins setting old.frame.callee.now old.frame.arguments.items memory b.now new.frame new.left (found_body setting.bodies old.frame.callee.now found b search_is some) calls.entered)
              ∙ sym (ends-push setting old.waiting.items old.frame (reached setting new.frame memory new.left))
              ∙ ap (λ ws. ends setting ws (reached setting new.frame memory new.left)) (sym calls.waiting),
          omega (arith, calls.left),
        )

-- ---- one turn

-- the tasks stop
pub goes_not : (setting : Setting) (old : Machine) (memory : Memory) (frame : Frame) (after : Memory) (new : Machine) (e : Refusal Stop) → Goes setting old.frame memory frame after (Err e) → Turns (comes_to setting old memory) setting old new after (Err e)
goes_not setting old memory frame after new (Fault (stop.Broke guard offset)) goes =
    ap outcome_of (ap (ends setting old.waiting.items) (goes old.left) ∙ ends-Failed setting old.waiting.items guard offset)
goes_not setting old memory frame after new NoMemory goes = tt {0}

turns_other : (other given : Called) (setting : Setting) (old new : Machine) (after : Memory) (result : Result (Option Ended) (Refusal Stop)) → given ≡ other → Turns other setting old new after result → Turns given setting old new after result
turns_other other given setting old new after result same holds = subst (λ c. Turns c setting old new after result) (sym same) holds

-- a machine weighs as much with another innermost function
with_frame : (given : Called) (setting : Setting) (old new : Machine) (frame : Frame) (after : Memory) (result : Result (Option Ended) (Refusal Stop)) → Turns given setting (record old { frame = frame }) new after result → Turns given setting old new after result
with_frame given setting old new frame after (Ok None) holds = holds
with_frame given setting old new frame after (Ok (Some e)) holds = holds
with_frame given setting old new frame after (Err e) holds = holds

-- the innermost function goes on as far as it does by itself, and then the run does
pub turns_on : (setting : Setting) (old new : Machine) (memory after : Memory) (frame : Frame) (p p' : Pause) (result : Result (Option Ended) (Refusal Stop)) → Goes setting old.frame memory frame after (Ok p) → p ≡ p'
    → Turned setting p' (record old { frame = frame }) new result → Turns (comes_to setting old memory) setting old new after result
turns_on setting old new memory after frame p p' result goes is turned =
    with_frame (comes_to setting old memory) setting old new frame after result
    (turns_other (comes_by setting (record old { frame = frame }) after p') (comes_to setting old memory) setting (record old { frame = frame }) new after result
    (ap (ends setting old.waiting.items) (goes old.left ∙ ap (λ x. paused setting frame after x old.left) is)) (turned after))

-- ---- a run

-- what one turn comes to, all come to
pub ends_by : (given other : Called) (after : Memory) (result : Result Ended (Refusal Stop)) → given ≡ other → Ends other after result → Ends given after result
ends_by given other after result is done = subst (λ c. Ends c after result) (sym is) done

pub starts : (setting : Setting) (function : List ℕ) (arguments : List ℤ) (memory : Memory) (turns : ℕ) (found : Option (Bor Body)) (b : Bor Body) (machine : Machine) → option_map (λ (x : Bor Body). body_of_name function x.now) found ≡ body_named setting.bodies function
    → found ≡ Some b → IsEntered b.now arguments machine.frame → machine.waiting.items ≡ [] → 0 < turns → machine.left ≡ turns - 1 → called setting function arguments memory turns ≡ comes_to setting machine memory
starts setting function arguments memory turns found b machine search_is some enters alone turns_left left_is =
    ap (called setting function arguments memory) (one_more turns turns_left ∙ ap suc (sym left_is))
    ∙ called_begins setting function arguments memory b.now machine.frame machine.left (found_body setting.bodies function found b search_is some) enters
    ∙ sym (ap (λ ws. ends setting ws (reached setting machine.frame memory machine.left)) alone ∙ ends-none setting (reached setting machine.frame memory machine.left))

pub starts_nothing : (setting : Setting) (function : List ℕ) (arguments : List ℤ) (memory after : Memory) (turns : ℕ) (found : Option (Bor Body)) → option_map (λ (x : Bor Body). body_of_name function x.now) found ≡ body_named setting.bodies function → found ≡ None
    → Ends (called setting function arguments memory turns) after (Ok ended.More)
starts_nothing setting function arguments memory after turns found search_is none =
    ap outcome_of (called-missing setting function arguments memory turns (no_body setting.bodies function found search_is none))

pub turn_goes_on : (setting : Setting) (old : Machine) (memory : Memory) (new : Machine) (after : Memory) (o : Option Ended) → Turns (comes_to setting old memory) setting old new after (Ok o) → o ≡ None → (comes_to setting old memory ≡ comes_to setting new after) × (weight new < weight old)
turn_goes_on setting old memory new after o turns is = subst (λ x. Turns (comes_to setting old memory) setting old new after (Ok x)) is turns

pub turn_ends : (setting : Setting) (old : Machine) (memory : Memory) (new : Machine) (after : Memory) (o : Option Ended) (e : Ended) → Turns (comes_to setting old memory) setting old new after (Ok o) → o ≡ Some e → Ends (comes_to setting old memory) after (Ok e)
turn_ends setting old memory new after o e turns is = subst (λ x. Turns (comes_to setting old memory) setting old new after (Ok x)) is turns

pub run_none : (setting : Setting) (function : List ℕ) (arguments : List ℤ) (memory : Memory) (turns : ℕ) → turns ≡ 0 → spec.More ≡ c_run setting function arguments memory turns
unfolding c_run
run_none setting function arguments memory turns is = sym (ap (λ n. outcome_of (called setting function arguments memory n)) is ∙ ap outcome_of (called_zero setting function arguments memory))

module _ (setting : Setting) (function : List ℕ) (arguments : List ℤ) (memory start after : Memory) (turns : ℕ) (same : start ≡ memory) where
  of_copy : outcome_of (called setting function arguments memory turns) ≡ outcome_of (called setting function arguments start turns)
  of_copy = ap (λ m. outcome_of (called setting function arguments m turns)) (sym same)

  pub run_more : (e : Ended) → Ends (called setting function arguments start turns) after (Ok e) → e ≡ ended.More → spec.More ≡ c_run setting function arguments memory turns
  unfolding c_run
  run_more e done is = sym (of_copy ∙ subst (λ x. Ends (called setting function arguments start turns) after (Ok x)) is done)

  pub run_back : (e : Ended) (v : Option ℤ) → Ends (called setting function arguments start turns) after (Ok e) → e ≡ ended.Back v → spec.Back v after ≡ c_run setting function arguments memory turns
  unfolding c_run
  run_back e v done is = sym (of_copy ∙ subst (λ x. Ends (called setting function arguments start turns) after (Ok x)) is done)

  pub run_broke : (e : Refusal Stop) (s : Stop) → Ends (called setting function arguments start turns) after (Err e) → e ≡ Fault s → outcome_at s ≡ c_run setting function arguments memory turns
  unfolding c_run
  run_broke e (stop.Broke guard offset) done is = sym (of_copy ∙ subst (λ x. Ends (called setting function arguments start turns) after (Err x)) is done)
