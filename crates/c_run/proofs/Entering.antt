-- The locals of a function where a call of it begins, and those of its caller where it has returned.
use Rattle.std.proofs.Common.{◌≡◌, ℕ, zero, suc, ◌+◌, ◌<◌, ◌≤◌, false, Option, Some, None, List, [], ◌∷◌, ◌++◌, length, drop, get_or, drop-cons, refl, sym, ap, subst, ◌∙◌, arith}
use Rattle.std.specs.Prelude.{ℤ, slice_get, slice_set, Vec}
use Rattle.std.specs.Borrow.{Bor}
use Rattle.std.specs.declared.alloc.Global.{Global}
use Rattle.std.proofs.lemmas.List.{drop_all, append-nil, append_assoc}
use Rattle.c_types_spec.specs.declared.Scalar.{Scalar}
use Rattle.c_types_core.specs.declared.action.Action as kept
use Rattle.c_run_spec.specs.Evaluation.{Locals}
use Rattle.c_run_spec.specs.Execution.{as_local, received}
use Rattle.c_run_spec.specs.Calls.{locals_at_entry}
use Rattle.c_types.specs.declared.typed.Body.{Body}
use Rattle.c_run.specs.declared.frame.Frame.{Frame}
use Rattle.c_run.specs.declared.frame.Task.{Task}
use Rattle.c_run.specs.declared.frame.Task.TheVariants as task
use Rattle.c_run.specs.declared.machine.Machine.{Machine}
use Rattle.c_run.specs.Frames.{IsPushed, IsSet}
use Rattle.c_run.specs.Machines.{IsBegun, IsEntered, IsReceived, IsCalled}

-- ---- the locals at entry

entry_step : (t : Scalar) (ts : List Scalar) (vs : List ℤ) → locals_at_entry (t ∷ ts) vs ≡ slice_get vs 0 ∷ locals_at_entry ts (drop 1 vs)
entry_step t ts [] = refl
entry_step t ts (v ∷ vs) = refl

get_dropped : (xs : List ℤ) (i : ℕ) → slice_get (drop i xs) 0 ≡ slice_get xs i
get_dropped [] zero = refl
get_dropped [] (suc i) = refl
get_dropped (x ∷ xs) zero = refl
get_dropped (x ∷ xs) (suc i) = get_dropped xs i

dropped_more : (xs : List ℤ) (i : ℕ) → drop 1 (drop i xs) ≡ drop (suc i) xs
dropped_more [] zero = refl
dropped_more [] (suc i) = refl
dropped_more (x ∷ xs) zero = refl
dropped_more (x ∷ xs) (suc i) = dropped_more xs i

some_type : Scalar
some_type = record { width = 8; is_signed = false }

entry_at : (types : List Scalar) (arguments : List ℤ) (i : ℕ) → i < length types
    → locals_at_entry (drop i types) (drop i arguments) ≡ slice_get arguments i ∷ locals_at_entry (drop (i + 1) types) (drop (i + 1) arguments)
entry_at types arguments i within =
    let next : suc i ≡ i + 1 = omega arith in
    ap (λ ts. locals_at_entry ts (drop i arguments)) (drop-cons types i some_type within)
    ∙ entry_step (get_or types i some_type) (drop (suc i) types) (drop i arguments)
    ∙ ap (λ v. v ∷ locals_at_entry (drop (suc i) types) (drop 1 (drop i arguments))) (get_dropped arguments i)
    ∙ ap (λ vs. slice_get arguments i ∷ locals_at_entry (drop (suc i) types) vs) (dropped_more arguments i)
    ∙ ap (λ n. slice_get arguments i ∷ locals_at_entry (drop n types) (drop n arguments)) next

-- the locals before `i` are there
abbrev pub Begun : (old : Locals) (types : List Scalar) (arguments : List ℤ) (i : ℕ) (now : Locals) → Type 0
Begun old types arguments i now = now ++ locals_at_entry (drop i types) (drop i arguments) ≡ old ++ locals_at_entry types arguments

module _ (old : Locals) (types : List Scalar) (arguments : List ℤ) where
  pub begun_more : (i : ℕ) (now new : Locals) (v : Option ℤ) → i < length types → v ≡ slice_get arguments i → new ≡ now ++ v ∷ [] → Begun old types arguments i now → Begun old types arguments (i + 1) new
  begun_more i now new v within is added begun =
      ap (λ xs. xs ++ locals_at_entry (drop (i + 1) types) (drop (i + 1) arguments)) (added ∙ ap (λ x. now ++ x ∷ []) is)
      ∙ append_assoc now (slice_get arguments i ∷ []) (locals_at_entry (drop (i + 1) types) (drop (i + 1) arguments))
      ∙ ap (λ xs. now ++ xs) (sym (entry_at types arguments i within)) ∙ begun

  pub begun_all : (i : ℕ) (now : Locals) → length types ≤ i → Begun old types arguments i now → now ≡ old ++ locals_at_entry types arguments
  begun_all i now past begun =
      sym (append-nil now) ∙ ap (λ ts. now ++ locals_at_entry ts (drop i arguments)) (sym (drop_all i types past)) ∙ begun

-- `first` has its locals, and nothing to do
pub entered : (body : Body) (arguments : List ℤ) (types : List Scalar) (idle first new : Frame) (action : Bor kept.Action) → types ≡ body.locals.items → IsBegun types idle
    → first.types ≡ idle.types → first.locals.items ≡ idle.locals.items ++ locals_at_entry types arguments → first.tasks ≡ idle.tasks → IsPushed first new (task.Do action) → action.now ≡ body.action.value → IsEntered body arguments new
entered body arguments types idle first new action types_are begun same_types locals tasks pushed is = record {
  types = ap (λ (ty : Bor (List Scalar)). ty.now) (pushed.types ∙ same_types) ∙ begun.types ∙ types_are;
  locals = ap (λ (ls : Vec (Option ℤ) Global). ls.items) pushed.locals ∙ locals ∙ ap (λ xs. xs ++ locals_at_entry types arguments) begun.locals ∙ ap (λ ts. locals_at_entry ts arguments) types_are;
  tasks = (action, pushed.tasks ∙ ap (λ (ts : Vec Task Global). ts.items ++ task.Do action ∷ []) tasks ∙ ap (λ (ts : List Task). ts ++ task.Do action ∷ []) begun.tasks, is);
}

pub called_now : (body : Body) (old new : Machine) (callee frame : Frame) (arguments : List ℤ) → IsEntered body arguments callee → arguments ≡ old.frame.arguments.items → frame ≡ old.frame → new.frame ≡ callee
    → new.waiting.items ≡ old.waiting.items ++ frame ∷ [] → new.left + 1 ≡ old.left → IsCalled body old new
called_now body old new callee frame arguments enters args before after waits left = record {
  waiting = waits ∙ ap (λ f. old.waiting.items ++ f ∷ []) before;
  entered = subst (λ f. IsEntered body old.frame.arguments.items f) (sym after) (subst (λ vs. IsEntered body vs callee) args enters);
  left = left;
}

-- ---- the locals after a call

pub received_none : (old : Frame) (v : Option ℤ) → old.receiver ≡ None → IsReceived old old v
received_none old v is = record { types = refl; locals = sym (ap (λ l. received old.types.now old.locals.items l v) is); tasks = refl }

pub received_some : (old new : Frame) (v : Option ℤ) (number : ℕ) (put : Option ℤ) → old.receiver ≡ Some number → put ≡ as_local old.types.now number v → IsSet old new number put → IsReceived old new v
received_some old new v number put is value_is set = record {
  types = set.types;
  locals = set.locals ∙ ap (slice_set old.locals.items number) value_is ∙ sym (ap (λ l. received old.types.now old.locals.items l v) is);
  tasks = set.tasks;
}
