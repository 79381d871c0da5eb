-- The tasks of a frame, taken one after the other.
use Rattle.std.proofs.Common.{◌≡◌, ℕ, Option, Some, None, List, refl, sym, ap, subst, ◌∙◌}
use Rattle.std.specs.Prelude.{ℤ, Vec, Ok, Err}
use Rattle.std.specs.Borrow.{Bor}
use Rattle.std.specs.declared.alloc.Global.{Global}
use Rattle.memory_spec.specs.Memory.{Memory}
use Rattle.c_types_spec.specs.declared.Scalar.{Scalar}
use Rattle.c_run_spec.specs.Setting.{Setting}
use Rattle.c_run_spec.specs.Execution.{State, state, Flow, Went, Returned}
use Rattle.c_run_spec.specs.Calls.{returned}
use Rattle.attempt.specs.declared.refusal.Refusal.{Refusal}
use Rattle.attempt.specs.declared.refusal.Refusal.TheVariants.{Fault, NoMemory}
use Rattle.c_run_value.specs.declared.setting.Stop.{Stop}
use Rattle.c_run_value.specs.declared.setting.Stop.TheVariants as stop
use Rattle.c_run.specs.declared.frame.Ending.{Ending}
use Rattle.c_run.specs.declared.frame.Ending.TheVariants as ending
use Rattle.c_run.specs.declared.frame.Pause.{Pause}
use Rattle.c_run.specs.declared.frame.Pause.TheVariants as pause
use Rattle.c_run.specs.declared.frame.Frame.{Frame}
use Rattle.c_run.specs.declared.frame.Task.{Task}
use Rattle.c_run.specs.declared.frame.Next.{Next}
use Rattle.c_run.specs.declared.frame.Next.TheVariants as next
use Rattle.c_run.specs.Frames.{IsTaken}
use Rattle.c_run.specs.Tasks.{Proceeds, Goes, flow_of, flow_next, applied, through}
use Rattle.c_run.proofs.Through.{through-push, through-none, through-Gave}

-- control reaches the tasks of a frame, by how what was before them ended
abbrev pub Reaches : Setting → Frame → Memory → Ending → (ℕ → Flow) → Type 0
Reaches setting frame memory end given = (left : ℕ) → given left ≡ through setting frame.types.now frame.tasks.items (flow_of end (state frame.locals.items memory) left)

-- the tasks of a frame, as they are at first
abbrev pub begun : Setting → Frame → Memory → ℕ → Flow
begun setting frame memory left = through setting frame.types.now frame.tasks.items (Went (state frame.locals.items memory) left)

nothing_given : (end : Ending) (st : State) (left : ℕ) → returned (flow_of end st left) ≡ Returned None st.memory left
nothing_given ending.Went st left = refl
nothing_given ending.Broke st left = refl
nothing_given ending.Continued st left = refl

-- `first` is the frame at first
module _ (setting : Setting) (first frame : Frame) (start memory : Memory) (end : Ending) (popped : Frame) (taken : Option Task) (reaches : Reaches setting frame memory end (begun setting first start)) (takes : IsTaken frame popped taken) where
  pub taken_none : taken ≡ None → Goes setting first start (record popped { given = None }) memory (Ok pause.Ended)
  taken_none is = λ left.
      let none : IsTaken frame popped None = subst (λ o. IsTaken frame popped o) is takes in
      ap returned (reaches left
      ∙ ap (λ ts. through setting frame.types.now ts (flow_of end (state frame.locals.items memory) left)) none.tasks
      ∙ through-none setting frame.types.now (flow_of end (state frame.locals.items memory) left))
      ∙ nothing_given end (state frame.locals.items memory) left
      ∙ sym (ap returned (through-Gave setting popped.types.now popped.tasks.items None memory left))

  arrived : (t : Task) (left : ℕ) → taken ≡ Some t → begun setting first start left ≡ through setting popped.types.now popped.tasks.items (applied setting popped.types.now t (flow_of end (state popped.locals.items memory) left))
  arrived t left is =
      let some : IsTaken frame popped (Some t) = subst (λ o. IsTaken frame popped o) is takes in
      reaches left
      ∙ ap (λ ts. through setting frame.types.now ts (flow_of end (state frame.locals.items memory) left)) some.tasks
      ∙ through-push setting frame.types.now popped.tasks.items t (flow_of end (state frame.locals.items memory) left)
      ∙ ap (λ (ty : Bor (List Scalar)). through setting ty.now popped.tasks.items (applied setting ty.now t (flow_of end (state frame.locals.items memory) left))) (sym some.types)
      ∙ ap (λ (ls : Vec (Option ℤ) Global). through setting popped.types.now popped.tasks.items (applied setting popped.types.now t (flow_of end (state ls.items memory) left))) (sym some.locals)

  module _ (t : Task) (is : taken ≡ Some t) (new : Frame) (after : Memory) where
    pub taken_goes : (n : Next) (e : Ending) → Proceeds setting t end popped memory new after (Ok n) → n ≡ next.Goes e → Reaches setting new after e (begun setting first start)
    taken_goes n e proceeds goes = λ left. arrived t left is ∙ proceeds left ∙ ap (λ x. through setting new.types.now new.tasks.items (flow_next setting new.types.now new.locals.items new after x left)) goes

    pub taken_pauses : (n : Next) (p : Pause) → Proceeds setting t end popped memory new after (Ok n) → n ≡ next.Pauses p → Goes setting first start new after (Ok p)
    taken_pauses n p proceeds pauses = λ left. ap returned (arrived t left is ∙ proceeds left ∙ ap (λ x. through setting new.types.now new.tasks.items (flow_next setting new.types.now new.locals.items new after x left)) pauses)

    pub taken_stops : (e : Refusal Stop) → Proceeds setting t end popped memory new after (Err e) → Goes setting first start new after (Err e)
    taken_stops (Fault (stop.Broke guard offset)) proceeds = λ left. ap returned (arrived t left is ∙ proceeds left)
    taken_stops NoMemory proceeds = tt {0}
