-- What a task makes of the flow that reaches it, by what the program does next.
use Rattle.std.proofs.Common.{◌≡◌, ℕ, Bool, true, false, if◌then◌else◌, Option, List, [], ◌∷◌, refl, sym, ap, subst, ◌∙◌}
use Rattle.std.specs.Prelude.{ℤ, map, Vec, Result, Ok, Err}
use Rattle.std.specs.Borrow.{Bor}
use Rattle.std.specs.declared.alloc.Global.{Global}
use Rattle.memory_spec.specs.Memory.{Memory}
use Rattle.c_types_spec.specs.declared.Scalar.{Scalar}
use Rattle.c_types_spec.specs.declared.Jump.TheVariants as jump
use Rattle.c_types_spec.specs.Core.{Action, Skip, sequence}
use Rattle.c_types_core.specs.declared.action.Action as kept
use Rattle.c_types_core.specs.declared.expression.Core as expression
use Rattle.c_types_core.specs.Actions.{action_of}
use Rattle.c_types_core.specs.Expressions.{core_of}
use Rattle.c_run_spec.specs.Setting.{Setting}
use Rattle.c_run_spec.specs.Evaluation.{value}
use Rattle.c_run_spec.specs.Execution.{State, state, Flow, More, Broke, Went, Jumped, Gave, on_ok, is_zero, then_do}
use Rattle.c_run_laws.specs.Depth.{performed}
use Rattle.c_run_laws.proofs.Turns.{performed-Sequence}
use Rattle.c_run_value.specs.Gives.{Gives}
use Rattle.attempt.specs.declared.refusal.Refusal.{Refusal}
use Rattle.c_run_value.specs.declared.setting.Stop.{Stop}
use Rattle.c_run.specs.declared.frame.Task.{Task}
use Rattle.c_run.specs.declared.frame.Task.TheVariants as task
use Rattle.c_run.specs.declared.frame.Frame.{Frame}
use Rattle.c_run.specs.declared.frame.Next.{Next}
use Rattle.c_run.specs.declared.frame.Next.TheVariants as next
use Rattle.c_run.specs.declared.frame.Ending.{Ending}
use Rattle.c_run.specs.declared.frame.Ending.TheVariants as ending
use Rattle.c_run.specs.Frames.{IsPushed}
use Rattle.c_run.specs.Tasks.{Acts, Proceeds, flow_of, applied, through, truth, after_break, follows_body}
use Rattle.c_run.proofs.Through.{through-push}
use Rattle.c_run.proofs.Acting.{changed, stays, stops, by_truth, no_truth, performed-Skip}

-- a statement, above one more task
below : (setting : Setting) (old middle : Frame) (memory : Memory) (t : Task) (action : Action) (left : ℕ) → IsPushed old middle t
    → through setting old.types.now old.tasks.items (applied setting old.types.now t (performed setting old.types.now action (state old.locals.items memory) left))
    ≡ through setting middle.types.now middle.tasks.items (performed setting middle.types.now action (state middle.locals.items memory) left)
below setting old middle memory t action left pushed =
    sym (through-push setting old.types.now old.tasks.items t (performed setting old.types.now action (state old.locals.items memory) left))
    ∙ ap (λ ts. through setting old.types.now ts (performed setting old.types.now action (state old.locals.items memory) left)) (sym pushed.tasks)
    ∙ ap (λ (ls : Vec (Option ℤ) Global). through setting old.types.now middle.tasks.items (performed setting old.types.now action (state ls.items memory) left)) (sym pushed.locals)
    ∙ ap (λ (ty : Bor (List Scalar)). through setting ty.now middle.tasks.items (performed setting ty.now action (state middle.locals.items memory) left)) (sym pushed.types)

then_skips : (setting : Setting) (types : List Scalar) (flow : Flow) → then_do (performed setting types Skip) flow ≡ flow
then_skips setting types More = refl
then_skips setting types (Broke guard offset) = refl
then_skips setting types (Went st left) = performed-Skip setting types st left
then_skips setting types (Jumped j st left) = refl
then_skips setting types (Gave v memory left) = refl

first_then : (setting : Setting) (types : List Scalar) (first : Action) (rest : List Action) (st : State) (left : ℕ)
    → performed setting types (sequence (first ∷ rest)) st left ≡ then_do (performed setting types (sequence rest)) (performed setting types first st left)
first_then setting types first [] st left = sym (then_skips setting types (performed setting types first st left))
first_then setting types first (x ∷ xs) st left = performed-Sequence setting types first (sequence (x ∷ xs)) st left

pub by_this : (setting : Setting) (old new : Frame) (memory after : Memory) (result : Result Next (Refusal Stop)) (t t' : Task) (e : Ending) → t ≡ t' → Proceeds setting t' e old memory new after result → Proceeds setting t e old memory new after result
by_this setting old new memory after result t t' e same proceeds = subst (λ u. Proceeds setting u e old memory new after result) (sym same) proceeds

pub by_ending : (setting : Setting) (old new : Frame) (memory after : Memory) (result : Result Next (Refusal Stop)) (t : Task) (e e' : Ending) → e ≡ e' → Proceeds setting t e' old memory new after result → Proceeds setting t e old memory new after result
by_ending setting old new memory after result t e e' same proceeds = subst (λ x. Proceeds setting t x old memory new after result) (sym same) proceeds

module _ (setting : Setting) (old : Frame) (memory : Memory) where
  pub rests_none : (actions : Bor (List kept.Action)) → actions.now ≡ [] → Proceeds setting (task.Rest actions) ending.Went old memory old memory (Ok (next.Goes ending.Went))
  unfolding applied
  rests_none actions is = stays setting (λ left. performed setting old.types.now (sequence (map action_of actions.now)) (state old.locals.items memory) left) old old memory (next.Goes ending.Went) refl refl
      (λ left. ap (λ xs. performed setting old.types.now (sequence (map action_of xs)) (state old.locals.items memory) left) is ∙ performed-Skip setting old.types.now (state old.locals.items memory) left)

  pub rests : (middle new : Frame) (after : Memory) (result : Result Next (Refusal Stop)) (actions others : Bor (List kept.Action)) (first : Bor kept.Action) → actions.now ≡ first.now ∷ others.now
      → IsPushed old middle (task.Rest others) → Acts setting (action_of first.now) middle memory new after result → Proceeds setting (task.Rest actions) ending.Went old memory new after result
  unfolding applied
  rests middle new after result actions others first is pushed acts = changed setting new after result (λ left. through setting middle.types.now middle.tasks.items (performed setting middle.types.now (action_of first.now) (state middle.locals.items memory) left)) _
      (λ left. ap (λ ys. through setting old.types.now old.tasks.items (performed setting old.types.now (sequence (map action_of ys)) (state old.locals.items memory) left)) is
      ∙ ap (through setting old.types.now old.tasks.items) (first_then setting old.types.now (action_of first.now) (map action_of others.now) (state old.locals.items memory) left)
      ∙ below setting old middle memory (task.Rest others) (action_of first.now) left pushed) acts

  -- ---- control goes on

  module _ (new : Frame) (after : Memory) (result : Result Next (Refusal Stop)) (action : Bor kept.Action) (acts : Acts setting (action_of action.now) old memory new after result) where
    abbrev acted : ℕ → Flow
    acted left = through setting old.types.now old.tasks.items (performed setting old.types.now (action_of action.now) (state old.locals.items memory) left)

    pub does : Proceeds setting (task.Do action) ending.Went old memory new after result
    unfolding applied
    does = changed setting new after result (λ left. acted left) _ (λ left. refl) acts

    pub steps : Proceeds setting (task.Step action) ending.Went old memory new after result
    unfolding applied
    steps = changed setting new after result (λ left. acted left) _ (λ left. refl) acts

    pub repeats_it : Proceeds setting (task.Repeat action) ending.Went old memory new after result
    unfolding applied
    repeats_it = changed setting new after result (λ left. acted left) _ (λ left. refl) acts

  pub ends_switch : Proceeds setting task.Switch ending.Went old memory old memory (Ok (next.Goes ending.Went))
  unfolding applied
  ends_switch = stays setting (λ left. Went (state old.locals.items memory) left) old old memory (next.Goes ending.Went) refl refl (λ left. refl)

  -- ---- tests

  module _ (test : Bor expression.Core) where
    abbrev tests : ℕ → Flow
    tests left = on_ok (value setting old.locals.items memory 0 (core_of test.now)) (λ v. if is_zero v then Jumped jump.Break (state old.locals.items memory) left else Went (state old.locals.items memory) left)

    tested : (b : Bool) (left : ℕ) → truth (value setting old.locals.items memory 0 (core_of test.now)) ≡ Ok b → tests left ≡ (if b then Went (state old.locals.items memory) left else Jumped jump.Break (state old.locals.items memory) left)
    tested b left e = by_truth (value setting old.locals.items memory 0 (core_of test.now)) b (Went (state old.locals.items memory) left) (Jumped jump.Break (state old.locals.items memory) left) e

    pub tests_true : (b : Bool) → truth (value setting old.locals.items memory 0 (core_of test.now)) ≡ Ok b → b ≡ true → Proceeds setting (task.Test test) ending.Went old memory old memory (Ok (next.Goes ending.Went))
    unfolding applied
    tests_true b e is = stays setting (λ left. tests left) old old memory (next.Goes ending.Went) refl refl (λ left. tested true left (e ∙ ap (λ x. Ok x) is))

    pub tests_false : (b : Bool) → truth (value setting old.locals.items memory 0 (core_of test.now)) ≡ Ok b → b ≡ false → Proceeds setting (task.Test test) ending.Went old memory old memory (Ok (next.Goes ending.Broke))
    unfolding applied
    tests_false b e is = stays setting (λ left. tests left) old old memory (next.Goes ending.Broke) refl refl (λ left. tested false left (e ∙ ap (λ x. Ok x) is))

    pub tests_not : (new : Frame) (after : Memory) (seen : Bool → Bool) (e : Refusal Stop) → Gives seen (Err e) (truth (value setting old.locals.items memory 0 (core_of test.now))) → Proceeds setting (task.Test test) ending.Went old memory new after (Err e)
    unfolding applied
    tests_not new after seen e broken = stops setting old new after (λ left. tests left) (λ v. v) e (value setting old.locals.items memory 0 (core_of test.now))
        (λ v left. if is_zero v then Jumped jump.Break (state old.locals.items memory) left else Went (state old.locals.items memory) left)
        (no_truth seen e (value setting old.locals.items memory 0 (core_of test.now)) broken) (λ left. refl)

  -- ---- jumps

  broken_at : (types : List Scalar) (t : Task) (left : ℕ) → applied setting types t (Jumped jump.Break (state old.locals.items memory) left) ≡ flow_of (after_break t) (state old.locals.items memory) left
  unfolding applied
  broken_at types (task.Do action) left = refl
  broken_at types (task.Rest actions) left = refl
  broken_at types (task.Step action) left = refl
  broken_at types (task.Test core) left = refl
  broken_at types (task.Repeat action) left = refl
  broken_at types task.Switch left = refl

  pub breaks_at : (t : Task) (e : Ending) → e ≡ after_break t → Proceeds setting t ending.Broke old memory old memory (Ok (next.Goes e))
  breaks_at t e is = subst (λ x. Proceeds setting t ending.Broke old memory old memory (Ok (next.Goes x))) (sym is)
      (stays setting (λ left. applied setting old.types.now t (Jumped jump.Break (state old.locals.items memory) left)) old old memory (next.Goes (after_break t)) refl refl (λ left. broken_at old.types.now t left))

  continued_past : (types : List Scalar) (t : Task) (left : ℕ) → follows_body t ≡ false → applied setting types t (Jumped jump.Continue (state old.locals.items memory) left) ≡ Jumped jump.Continue (state old.locals.items memory) left
  unfolding applied
  continued_past types (task.Do action) left e = refl
  continued_past types (task.Rest actions) left e = refl
  continued_past types (task.Step action) left e = absurd (cc)
  continued_past types (task.Test core) left e = absurd (cc)
  continued_past types (task.Repeat action) left e = refl
  continued_past types task.Switch left e = refl

  pub continues_past : (t : Task) (b : Bool) → b ≡ follows_body t → b ≡ false → Proceeds setting t ending.Continued old memory old memory (Ok (next.Goes ending.Continued))
  continues_past t b is no_it = stays setting (λ left. applied setting old.types.now t (Jumped jump.Continue (state old.locals.items memory) left)) old old memory (next.Goes ending.Continued) refl refl
      (λ left. continued_past old.types.now t left (sym is ∙ no_it))

  continued_at : (types : List Scalar) (t : Task) (left : ℕ) → follows_body t ≡ true → applied setting types t (Jumped jump.Continue (state old.locals.items memory) left) ≡ applied setting types t (Went (state old.locals.items memory) left)
  unfolding applied
  continued_at types (task.Do action) left e = absurd (cc)
  continued_at types (task.Rest actions) left e = absurd (cc)
  continued_at types (task.Step action) left e = refl
  continued_at types (task.Test core) left e = refl
  continued_at types (task.Repeat action) left e = absurd (cc)
  continued_at types task.Switch left e = absurd (cc)

  pub continues_at : (t : Task) (b : Bool) (new : Frame) (after : Memory) (result : Result Next (Refusal Stop)) → b ≡ follows_body t → b ≡ true → Proceeds setting t ending.Went old memory new after result → Proceeds setting t ending.Continued old memory new after result
  continues_at t b new after result is yes_it proceeds =
      changed setting new after result (λ left. through setting old.types.now old.tasks.items (applied setting old.types.now t (Went (state old.locals.items memory) left))) _
      (λ left. ap (through setting old.types.now old.tasks.items) (continued_at old.types.now t left (sym is ∙ yes_it))) proceeds
