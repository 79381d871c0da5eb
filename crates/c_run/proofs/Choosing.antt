-- The group of a `switch` that is chosen, by its number and by what it does.
use Rattle.std.proofs.Common.{◌≡◌, ℕ, suc, Bool, true, false, if◌then◌else◌, Option, Some, None, List, [], ◌∷◌, refl, ap, ◌∙◌}
use Rattle.std.specs.Prelude.{ℤ, option_map, Ok, Err}
use Rattle.std.specs.Option.{option_or}
use Rattle.std.specs.List.{list_any}
use Rattle.std.specs.Borrow.{Bor}
use Rattle.memory_spec.specs.Memory.{Memory}
use Rattle.c_types_spec.specs.declared.Scalar.{Scalar}
use Rattle.c_types_spec.specs.Core.{Core, Action, Switch, Groups, no_groups, groups}
use Rattle.c_types_spec.specs.Statements.{same_label}
use Rattle.c_types_core.specs.declared.action.Action as kept
use Rattle.c_types_core.specs.Actions.{action_of}
use Rattle.c_run_spec.specs.Setting.{Setting}
use Rattle.c_run_spec.specs.Evaluation.{value}
use Rattle.c_run_spec.specs.Execution.{State, state, Flow, Went, Calls, on_ok, switched, labelled, chosen_group, does, does_group}
use Rattle.c_run_spec.specs.Calls.{runs}
use Rattle.c_run_laws.specs.Depth.{performed}
use Rattle.c_run_value.specs.Gives.{GivesValue}
use Rattle.attempt.specs.declared.refusal.Refusal.{Refusal}
use Rattle.c_run_value.specs.declared.setting.Stop.{Stop}
use Rattle.c_run.specs.declared.frame.Task.TheVariants as task
use Rattle.c_run.specs.declared.frame.Frame.{Frame}
use Rattle.c_run.specs.declared.frame.Next.TheVariants as next
use Rattle.c_run.specs.declared.frame.Ending.TheVariants as ending
use Rattle.c_run.specs.Frames.{IsPushed}
use Rattle.c_run.specs.Groups.{picked, chosen_action}
use Rattle.c_run.specs.Tasks.{Acts, applied, through}
use Rattle.c_run.proofs.Acting.{stays, stops, pushes, and_pushed}

module _ (setting : Setting) (calls : Calls) (types : List Scalar) (depth : ℕ) where
  data Alike (list : Groups) : Option ℕ → Option Action → Type 0 where
    neither : Alike list None None
    both : (k : ℕ) → (a : Action) → ((st : State) (n : ℕ) → does_group setting calls types depth list (Some k) st n ≡ does setting calls types depth a st n) → Alike list (Some k) (Some a)

  here : (b : Bool) (labels : List (Option ℤ)) (body : Action) (rest : Groups) (x : Option ℕ) (y : Option Action) → Alike rest x y
      → Alike (groups labels body rest) (if b then Some 0 else option_map suc x) (if b then Some body else y)
  unfolding does
  here true labels body rest x y near = both 0 body (λ st n. refl)
  here false labels body rest _ _ neither = neither
  here false labels body rest _ _ (both k a same) = both (suc k) a (λ st n. same st n)

  labelled_alike : (label : Option ℤ) (list : Groups) → Alike list (labelled label list) (picked label list)
  unfolding labelled
  labelled_alike label no_groups = neither
  labelled_alike label (groups labels body rest) = here (list_any (λ other. same_label other label) labels) labels body rest (labelled label rest) (picked label rest) (labelled_alike label rest)

  or_alike : (list : Groups) (x x' : Option ℕ) (y y' : Option Action) → Alike list x y → Alike list x' y' → Alike list (option_or x x') (option_or y y')
  or_alike list _ x' _ y' neither near = near
  or_alike list _ x' _ y' (both k a same) near = both k a same

  none_taken : (list : Groups) (st : State) (n : ℕ) → does_group setting calls types depth list None st n ≡ Went st n
  unfolding does
  none_taken no_groups st n = refl
  none_taken (groups labels body rest) st n = refl

  abbrev by_taken : Option Action → State → ℕ → Flow
  by_taken None st n = Went st n
  by_taken (Some a) st n = does setting calls types depth a st n

  alike_does : (list : Groups) (x : Option ℕ) (y : Option Action) (st : State) (n : ℕ) → Alike list x y → does_group setting calls types depth list x st n ≡ by_taken y st n
  alike_does list _ _ st n neither = none_taken list st n
  alike_does list _ _ st n (both k a same) = same st n

  does_chosen : (v : ℤ) (list : Groups) (st : State) (n : ℕ) → does_group setting calls types depth list (chosen_group v list) st n ≡ by_taken (chosen_action v list) st n
  does_chosen v list st n = alike_does list (chosen_group v list) (chosen_action v list) st n
      (or_alike list (labelled (Some v) list) (labelled None list) (picked (Some v) list) (picked None list) (labelled_alike (Some v) list) (labelled_alike None list))

performed-Switch : (setting : Setting) (types : List Scalar) (test : Core) (list : Groups) (st : State) (left : ℕ)
    → performed setting types (Switch test list) st left ≡ on_ok (value setting st.locals st.memory 0 test) (λ v. switched (does_group setting (runs setting left) types left list (chosen_group v list) st left))
unfolding performed does
performed-Switch setting types test list st left = refl

takes : (setting : Setting) (types : List Scalar) (test : Core) (list : Groups) (v : ℤ) (a : Option Action) (st : State) (left : ℕ) → value setting st.locals st.memory 0 test ≡ Ok v → chosen_action v list ≡ a
    → performed setting types (Switch test list) st left ≡ switched (by_taken setting (runs setting left) types left a st left)
takes setting types test list v a st left e chosen = performed-Switch setting types test list st left
    ∙ ap (λ r. on_ok r (λ v. switched (does_group setting (runs setting left) types left list (chosen_group v list) st left))) e
    ∙ ap switched (does_chosen setting (runs setting left) types left v list st left)
    ∙ ap (λ x. switched (by_taken setting (runs setting left) types left x st left)) chosen

module _ (setting : Setting) (old : Frame) (memory : Memory) where
  pub switches_not : (new : Frame) (after : Memory) (core : Core) (list : Groups) (e : Refusal Stop) → GivesValue (Err e) (value setting old.locals.items memory 0 core)
      → Acts setting (Switch core list) old memory new after (Err e)
  switches_not new after core list e broken = stops setting old new after (λ left. performed setting old.types.now (Switch core list) (state old.locals.items memory) left) (λ v. v) e (value setting old.locals.items memory 0 core)
      (λ v left. switched (does_group setting (runs setting left) old.types.now left list (chosen_group v list) (state old.locals.items memory) left)) broken (λ left. performed-Switch setting old.types.now core list (state old.locals.items memory) left)

  pub switches : (middle new : Frame) (core : Core) (list : Groups) (v : ℤ) (a : Bor kept.Action) → value setting old.locals.items memory 0 core ≡ Ok v → chosen_action v list ≡ Some (action_of a.now) → IsPushed old middle task.Switch → IsPushed middle new (task.Do a)
      → Acts setting (Switch core list) old memory new memory (Ok (next.Goes ending.Went))
  unfolding applied performed through
  switches middle new core list v a e chosen first second = pushes setting (λ left. performed setting old.types.now (Switch core list) (state old.locals.items memory) left) old new memory (task.Switch ∷ task.Do a ∷ []) (next.Goes ending.Went) (and_pushed old middle new (task.Switch ∷ []) (task.Do a) first second)
      (λ left. takes setting old.types.now core list v (Some (action_of a.now)) (state old.locals.items memory) left e chosen)

  pub passes_by : (core : Core) (list : Groups) (v : ℤ) → value setting old.locals.items memory 0 core ≡ Ok v → chosen_action v list ≡ None
      → Acts setting (Switch core list) old memory old memory (Ok (next.Goes ending.Went))
  passes_by core list v e chosen = stays setting (λ left. performed setting old.types.now (Switch core list) (state old.locals.items memory) left) old old memory (next.Goes ending.Went) refl refl
      (λ left. takes setting old.types.now core list v None (state old.locals.items memory) left e chosen)
