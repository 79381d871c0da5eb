-- Two runs side by side. `waits` says whether the first may have too few turns where the second has not, `excused` which
-- guards the first may break alone, `extra` how many turns more the second has, and `Near` how its memory may differ.
use Rattle.std.proofs.Common.{◌≡◌, ◌⊎◌, ℕ, ◌+◌, Bool, IsTrue, sym, ap, subst, inl, inr}
use Rattle.std.specs.Prelude.{Result, Ok, Err}
use Rattle.memory_spec.specs.Memory.{Memory}
use Rattle.c_types_spec.specs.declared.Jump.TheVariants.{Break, Continue}
use Rattle.c_run_spec.specs.declared.Guard.{Guard}
use Rattle.c_run_spec.specs.Setting.{Broken}
use Rattle.c_run_spec.specs.Evaluation.{Locals, on_result}
use Rattle.c_run_spec.specs.Execution.{State, state, Flow, More, Broke, Went, Jumped, Gave, Called, Unfinished, Failed, Returned, on_ok, then_do, again, continued, switched}

module _ (waits : Bool) (excused : Guard → Bool) (extra : ℕ) (Near : Memory → Memory → Type 0) where
  abbrev pub ResultsAlike : {A : Type 0} → Result A Broken → Result A Broken → Type 0
  ResultsAlike (Ok x) other = other ≡ Ok x
  ResultsAlike (Err broken) other = IsTrue (excused broken.0) ⊎ (other ≡ Err broken)

  abbrev pub StoresAlike : Result Memory Broken → Result Memory Broken → Type 0
  StoresAlike (Ok memory) other = (after : Memory) × (other ≡ Ok after) × Near memory after
  StoresAlike (Err broken) other = IsTrue (excused broken.0) ⊎ (other ≡ Err broken)

  abbrev pub FlowsAlike : Flow → Flow → Type 0
  FlowsAlike More other = IsTrue waits ⊎ (other ≡ More)
  FlowsAlike (Broke guard offset) other = IsTrue (excused guard) ⊎ (other ≡ Broke guard offset)
  FlowsAlike (Went st left) other = (after : Memory) × (more : ℕ) × (other ≡ Went (state st.locals after) more) × (more ≡ left + extra) × Near st.memory after
  FlowsAlike (Jumped jump st left) other = (after : Memory) × (more : ℕ) × (other ≡ Jumped jump (state st.locals after) more) × (more ≡ left + extra) × Near st.memory after
  FlowsAlike (Gave v memory left) other = (after : Memory) × (more : ℕ) × (other ≡ Gave v after more) × (more ≡ left + extra) × Near memory after

  abbrev pub CallsAlike : Called → Called → Type 0
  CallsAlike Unfinished other = IsTrue waits ⊎ (other ≡ Unfinished)
  CallsAlike (Failed guard offset) other = IsTrue (excused guard) ⊎ (other ≡ Failed guard offset)
  CallsAlike (Returned v memory left) other = (after : Memory) × (more : ℕ) × (other ≡ Returned v after more) × (more ≡ left + extra) × Near memory after

  -- parts that go on alike
  abbrev pub NextAlike : (State → ℕ → Flow) → (State → ℕ → Flow) → Type 0
  NextAlike next other = (locals : Locals) (memory after : Memory) (left more : ℕ) → more ≡ left + extra → Near memory after → FlowsAlike (next (state locals memory) left) (other (state locals after) more)

  pub on_result_alike : {A B : Type 0} (r q : Result A Broken) (f g : A → Result B Broken) → ResultsAlike r q → ((x : A) → ResultsAlike (f x) (g x)) → ResultsAlike (on_result r f) (on_result q g)
  on_result_alike (Ok x) q f g same next = subst (λ z. ResultsAlike (f x) (on_result z g)) (sym same) (next x)
  on_result_alike (Err broken) q f g (inl h) next = inl h
  on_result_alike (Err broken) q f g (inr e) next = inr (ap (λ z. on_result z g) e)

  pub on_ok_alike : {A : Type 0} (r q : Result A Broken) (f g : A → Flow) → ResultsAlike r q → ((x : A) → FlowsAlike (f x) (g x)) → FlowsAlike (on_ok r f) (on_ok q g)
  on_ok_alike (Ok x) q f g same next = subst (λ z. FlowsAlike (f x) (on_ok z g)) (sym same) (next x)
  on_ok_alike (Err broken) q f g (inl h) next = inl h
  on_ok_alike (Err broken) q f g (inr e) next = inr (ap (λ z. on_ok z g) e)

  pub on_store_alike : (r q : Result Memory Broken) (f g : Memory → Flow) → StoresAlike r q → ((memory after : Memory) → Near memory after → FlowsAlike (f memory) (g after)) → FlowsAlike (on_ok r f) (on_ok q g)
  on_store_alike (Ok memory) q f g (after, e, near) next = subst (λ z. FlowsAlike (f memory) (on_ok z g)) (sym e) (next memory after near)
  on_store_alike (Err broken) q f g (inl h) next = inl h
  on_store_alike (Err broken) q f g (inr e) next = inr (ap (λ z. on_ok z g) e)

  pub then_do_alike : (next other : State → ℕ → Flow) (f g : Flow) → NextAlike next other → FlowsAlike f g → FlowsAlike (then_do next f) (then_do other g)
  then_do_alike next other More g both (inl w) = inl w
  then_do_alike next other More g both (inr e) = inr (ap (then_do other) e)
  then_do_alike next other (Broke guard offset) g both (inl h) = inl h
  then_do_alike next other (Broke guard offset) g both (inr e) = inr (ap (then_do other) e)
  then_do_alike next other (Went st left) g both (after, more, e, count, near) =
      subst (λ z. FlowsAlike (next st left) (then_do other z)) (sym e) (both st.locals st.memory after left more count near)
  then_do_alike next other (Jumped jump st left) g both (after, more, e, count, near) = (after, more, ap (then_do other) e, count, near)
  then_do_alike next other (Gave v memory left) g both (after, more, e, count, near) = (after, more, ap (then_do other) e, count, near)

  pub again_alike : (next other : State → ℕ → Flow) (f g : Flow) → NextAlike next other → FlowsAlike f g → FlowsAlike (again next f) (again other g)
  again_alike next other More g both (inl w) = inl w
  again_alike next other More g both (inr e) = inr (ap (again other) e)
  again_alike next other (Broke guard offset) g both (inl h) = inl h
  again_alike next other (Broke guard offset) g both (inr e) = inr (ap (again other) e)
  again_alike next other (Went st left) g both (after, more, e, count, near) =
      subst (λ z. FlowsAlike (next st left) (again other z)) (sym e) (both st.locals st.memory after left more count near)
  again_alike next other (Jumped Break st left) g both (after, more, e, count, near) = (after, more, ap (again other) e, count, near)
  again_alike next other (Jumped Continue st left) g both (after, more, e, count, near) = (after, more, ap (again other) e, count, near)
  again_alike next other (Gave v memory left) g both (after, more, e, count, near) = (after, more, ap (again other) e, count, near)

  pub continued_alike : (f g : Flow) → FlowsAlike f g → FlowsAlike (continued f) (continued g)
  continued_alike More g (inl w) = inl w
  continued_alike More g (inr e) = inr (ap continued e)
  continued_alike (Broke guard offset) g (inl h) = inl h
  continued_alike (Broke guard offset) g (inr e) = inr (ap continued e)
  continued_alike (Went st left) g (after, more, e, count, near) = (after, more, ap continued e, count, near)
  continued_alike (Jumped Break st left) g (after, more, e, count, near) = (after, more, ap continued e, count, near)
  continued_alike (Jumped Continue st left) g (after, more, e, count, near) = (after, more, ap continued e, count, near)
  continued_alike (Gave v memory left) g (after, more, e, count, near) = (after, more, ap continued e, count, near)

  pub switched_alike : (f g : Flow) → FlowsAlike f g → FlowsAlike (switched f) (switched g)
  switched_alike More g (inl w) = inl w
  switched_alike More g (inr e) = inr (ap switched e)
  switched_alike (Broke guard offset) g (inl h) = inl h
  switched_alike (Broke guard offset) g (inr e) = inr (ap switched e)
  switched_alike (Went st left) g (after, more, e, count, near) = (after, more, ap switched e, count, near)
  switched_alike (Jumped Break st left) g (after, more, e, count, near) = (after, more, ap switched e, count, near)
  switched_alike (Jumped Continue st left) g (after, more, e, count, near) = (after, more, ap switched e, count, near)
  switched_alike (Gave v memory left) g (after, more, e, count, near) = (after, more, ap switched e, count, near)
