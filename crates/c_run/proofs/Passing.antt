-- The values of arguments, one after the other.
use Rattle.std.proofs.Common.{◌≡◌, ℕ, suc, ◌+◌, ◌<◌, ◌≤◌, List, [], ◌∷◌, ◌++◌, length, drop, get_or, drop-cons, refl, sym, ap, ◌∙◌, arith}
use Rattle.std.proofs.lemmas.List.{drop_all, append-nil, append_assoc}
use Rattle.std.specs.Prelude.{ℤ, map, Option, Vec, Result, Ok, Err}
use Rattle.std.specs.declared.alloc.Global.{Global}
use Rattle.std.specs.declared.boxed.Box.{Box}
use Rattle.memory_spec.specs.Memory.{Memory}
use Rattle.c_types_core.specs.declared.expression.Core as kept
use Rattle.c_types_core.specs.Expressions.{core_of}
use Rattle.c_run_spec.specs.Setting.{Setting, Broken}
use Rattle.c_run_spec.specs.Evaluation.{Locals, on_result, value, values}
use Rattle.c_run.specs.declared.frame.Frame.{Frame}
use Rattle.c_run.specs.Frames.{IsPassed}
use Rattle.c_run_value.specs.Gives.{Gives, GivesValue}
use Rattle.attempt.specs.declared.refusal.Refusal.{Refusal}
use Rattle.attempt.specs.declared.refusal.Refusal.TheVariants.{Fault, NoMemory}
use Rattle.c_run_value.specs.declared.setting.Stop.{Stop}
use Rattle.c_run_value.specs.declared.setting.Stop.TheVariants as stop

abbrev pub prefixed : List ℤ → Result (List ℤ) Broken → Result (List ℤ) Broken
prefixed done r = on_result r (λ rest. Ok (done ++ rest))

prefixed_nothing : (r : Result (List ℤ) Broken) → prefixed [] r ≡ r
prefixed_nothing (Ok vs) = refl
prefixed_nothing (Err b) = refl

one_more : (done : List ℤ) (v : ℤ) (r : Result (List ℤ) Broken) → prefixed done (on_result r (λ vs. Ok (v ∷ vs))) ≡ prefixed (done ++ v ∷ []) r
one_more done v (Ok vs) = ap (λ xs. Ok xs) (sym (append_assoc done (v ∷ []) vs))
one_more done v (Err b) = refl

abbrev pub values_of : Setting → Locals → Memory → List (Box kept.Core Global) → Result (List ℤ) Broken
values_of setting locals memory boxes = values setting locals memory (map (λ (b : Box kept.Core Global). core_of b.value) boxes)

module _ (setting : Setting) (locals : Locals) (memory : Memory) where
  abbrev cores : List (Box kept.Core Global) → Result (List ℤ) Broken
  cores boxes = values_of setting locals memory boxes

  first_of : (done : List ℤ) (b : Box kept.Core Global) (boxes : List (Box kept.Core Global))
      → prefixed done (cores (b ∷ boxes)) ≡ prefixed done (on_result (value setting locals memory 0 (core_of b.value)) (λ v. on_result (cores boxes) (λ vs. Ok (v ∷ vs))))
  unfolding values
  first_of done b boxes = refl

  at : (boxes : List (Box kept.Core Global)) (i : ℕ) (b : Box kept.Core Global) → i < length boxes → b ≡ get_or boxes i b → drop i boxes ≡ b ∷ drop (i + 1) boxes
  at boxes i b h is = let next : i + 1 ≡ suc i = omega arith in drop-cons boxes i b h ∙ ap (λ r. r ∷ drop (suc i) boxes) (sym is) ∙ ap (λ n. b ∷ drop n boxes) (sym next)

  pub passes : (boxes : List (Box kept.Core Global)) (i : ℕ) (b : Box kept.Core Global) (done : List ℤ) (v : ℤ) → i < length boxes → b ≡ get_or boxes i b → value setting locals memory 0 (core_of b.value) ≡ Ok v
      → prefixed done (cores (drop i boxes)) ≡ prefixed (done ++ v ∷ []) (cores (drop (i + 1) boxes))
  passes boxes i b done v h is e = ap (λ bs. prefixed done (cores bs)) (at boxes i b h is) ∙ first_of done b (drop (i + 1) boxes)
      ∙ ap (λ r. prefixed done (on_result r (λ v. on_result (cores (drop (i + 1) boxes)) (λ vs. Ok (v ∷ vs))))) e ∙ one_more done v (cores (drop (i + 1) boxes))

  pub passes_not : (boxes : List (Box kept.Core Global)) (i : ℕ) (b : Box kept.Core Global) (done : List ℤ) (broken : Broken) → i < length boxes → b ≡ get_or boxes i b → value setting locals memory 0 (core_of b.value) ≡ Err broken
      → prefixed done (cores (drop i boxes)) ≡ Err broken
  passes_not boxes i b done broken h is e = ap (λ bs. prefixed done (cores bs)) (at boxes i b h is) ∙ first_of done b (drop (i + 1) boxes)
      ∙ ap (λ r. prefixed done (on_result r (λ v. on_result (cores (drop (i + 1) boxes)) (λ vs. Ok (v ∷ vs))))) e

  pub passed : (boxes : List (Box kept.Core Global)) (i : ℕ) (done : List ℤ) → length boxes ≤ i → prefixed done (cores (drop i boxes)) ≡ Ok done
  unfolding values
  passed boxes i done h = ap (λ bs. prefixed done (cores bs)) (drop_all i boxes h) ∙ ap (λ xs. Ok xs) (append-nil done)

-- the arguments so far are those before `i`, in a frame that is else as it was
pub record Passed (setting : Setting) (old : Frame) (memory : Memory) (boxes : List (Box kept.Core Global)) (i : ℕ) (frame : Frame) : Type 0 where
  pub so_far : prefixed frame.arguments.items (values_of setting old.locals.items memory (drop i boxes)) ≡ values_of setting old.locals.items memory boxes
  pub same : IsPassed old frame

module _ (setting : Setting) (old : Frame) (memory : Memory) (boxes : List (Box kept.Core Global)) where
  pub passed_first : (frame : Frame) → frame.arguments.items ≡ [] → IsPassed old frame → Passed setting old memory boxes 0 frame
  passed_first frame none same = record {
    so_far = ap (λ xs. prefixed xs (values_of setting old.locals.items memory boxes)) none ∙ prefixed_nothing (values_of setting old.locals.items memory boxes);
    same = same;
  }

  module _ (i : ℕ) (frame : Frame) (b : Box kept.Core Global) (core : kept.Core) (passed_so_far : Passed setting old memory boxes i frame) (within : i < length boxes) (is : b ≡ get_or boxes i b) (inside : core ≡ b.value) where
    here : value setting frame.locals.items memory 0 (core_of core) ≡ value setting old.locals.items memory 0 (core_of b.value)
    here = ap (λ (ls : Vec (Option ℤ) Global). value setting ls.items memory 0 (core_of core)) passed_so_far.same.locals ∙ ap (λ x. value setting old.locals.items memory 0 (core_of x)) inside

    pub passed_more : (new : Frame) (v : ℤ) → value setting frame.locals.items memory 0 (core_of core) ≡ Ok v → new.types ≡ frame.types → new.locals ≡ frame.locals → new.tasks ≡ frame.tasks
        → new.arguments.items ≡ frame.arguments.items ++ v ∷ [] → Passed setting old memory boxes (i + 1) new
    passed_more new v e types locals tasks arguments = record {
      so_far = ap (λ xs. prefixed xs (values_of setting old.locals.items memory (drop (i + 1) boxes))) arguments
          ∙ sym (passes setting old.locals.items memory boxes i b frame.arguments.items v within is (sym here ∙ e)) ∙ passed_so_far.so_far;
      same = record { types = types ∙ passed_so_far.same.types; locals = locals ∙ passed_so_far.same.locals; tasks = tasks ∙ passed_so_far.same.tasks };
    }

    pub passed_stop : {A : Type 0} (seen : A → List ℤ) (e : Refusal Stop) → GivesValue (Err e) (value setting frame.locals.items memory 0 (core_of core)) → Gives seen (Err e) (values_of setting old.locals.items memory boxes)
    passed_stop seen (Fault (stop.Broke guard offset)) gives = sym passed_so_far.so_far ∙ passes_not setting old.locals.items memory boxes i b frame.arguments.items (guard, offset) within is (sym here ∙ gives)
    passed_stop seen NoMemory gives = tt {0}

  pub passed_all : (i : ℕ) (frame : Frame) → Passed setting old memory boxes i frame → length boxes ≤ i → values_of setting old.locals.items memory boxes ≡ Ok frame.arguments.items
  passed_all i frame passed_so_far past = sym passed_so_far.so_far ∙ passed setting old.locals.items memory boxes i frame.arguments.items past
