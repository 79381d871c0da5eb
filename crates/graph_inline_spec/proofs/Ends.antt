-- The runs before and after inlining end alike.
use Rattle.std.proofs.Common.{◌≡◌, ◌≢◌, ◌∙◌, ◌⊎◌, inl, inr, ℕ, ◌<◌, zero, suc, Bool, true, false, if◌then◌else◌, refl, sym, ap, List, [], length, All, Option}
use Rattle.std.proofs.lemmas.List.Elements.{All-weaker}
use Rattle.term_core_spec.specs.declared.Variable.{Variable}
use Rattle.term_core_spec.specs.Value.{Value, Assignment}
use Rattle.term_core_spec.specs.Same.{same_variable}
use Rattle.graph_core_spec.specs.TransitionSystem.{after}
use Rattle.graph_core_spec.specs.Graph.{Graphs}
use Rattle.graph_core_spec.specs.Run.{State, Running, Returned, Failed, step, system_of, has_returned, has_failed, is_shared, resumed}
use Rattle.graph_core_spec.specs.Fixed.{has_byte, holds_byte, AlwaysHoldsFixed}
use Rattle.graph_inline_spec.specs.Inlining.{Inlines}
use Rattle.graph_inline_spec.specs.Kept.{SameElsewhere, EndsAlike}
use Rattle.graph_inline_spec.proofs.Naming.{clash, differ}
use Rattle.graph_inline_spec.proofs.Bindings.{inside_shared, bound_apart}
use Rattle.graph_inline_spec.proofs.Alike.{Place, outside, inside, away, beyond, ended, failed, old_of, new_of, Meets, Returns, step_on, step_back}

module _ (graphs : Graphs) (g n : ℕ) (own : List Variable) (instance : ℕ) (new : Graphs) (is : Inlines graphs g n own instance new) where
  abbrev Met : State → State → Type 0
  Met = Meets graphs g n own instance new is

  abbrev Back : State → State → Type 0
  Back = Returns graphs g n own instance new is

  abbrev old_after : ℕ → State → State
  old_after k x = after (system_of graphs g) k x

  abbrev new_after : ℕ → State → State
  new_after j y = after (system_of new g) j y

  step_met : (x y : State) → Met x y → Met (step graphs x) (step new y) ⊎ Back (step graphs x) (step new y)
  step_met x y m = moved (step_on graphs g n own instance new is m.place)
    where
      moved : Met (step graphs (old_of graphs g n own instance new is m.place)) (step new (new_of graphs g n own instance new is m.place))
          ⊎ Back (step graphs (old_of graphs g n own instance new is m.place)) (step new (new_of graphs g n own instance new is m.place))
          → Met (step graphs x) (step new y) ⊎ Back (step graphs x) (step new y)
      moved (inl q) = inl (record { place = q.place; old = ap (step graphs) m.old ∙ q.old; now = ap (step new) m.now ∙ q.now })
      moved (inr r) = inr (record {
        callee = r.callee;
        waiting = r.waiting;
        values = r.values;
        is_inside = r.is_inside;
        old = ap (step graphs) m.old ∙ r.old;
        now = ap (step new) m.now ∙ r.now;
      })

  -- each state of the old run is met by the new one
  pub forth : (k : ℕ) (x y : State) → Met x y → (j : ℕ) × Met (old_after k x) (new_after j y)
  unfolding after
  forth zero x y m = (0, m)
  forth (suc k) x y m = on (step_met x y m) (λ z met. forth k (step graphs x) z met)
    where
      on : Met (step graphs x) (step new y) ⊎ Back (step graphs x) (step new y)
          → ((z : State) → Met (step graphs x) z → (j : ℕ) × Met (old_after k (step graphs x)) (new_after j z))
          → (j : ℕ) × Met (old_after k (step graphs x)) (new_after j y)
      on (inl q) follow = let later = follow (step new y) q in (suc later.0, later.1)
      on (inr r) follow = let later = follow (step new (step new y)) (step_back graphs g n own instance new is _ _ r) in (suc (suc later.0), later.1)

  -- each state of the new run meets the old one, or is at the end of the inlined body
  pub back : (j : ℕ) (x y : State) → Met x y ⊎ Back x y → (k : ℕ) × (Met (old_after k x) (new_after j y) ⊎ Back (old_after k x) (new_after j y))
  unfolding after
  back zero x y m = (0, m)
  back (suc j) x y (inl m) = let later = back j (step graphs x) (step new y) (step_met x y m) in (suc later.0, later.1)
  back (suc j) x y (inr r) = back j x (step new y) (inl (step_back graphs g n own instance new is x y r))

  -- ---- ends

  values_of : State → Assignment → Assignment
  values_of (Running h m values below) other = other
  values_of (Returned values) other = values
  values_of Failed other = other

  no_return : (x : State) (values : Assignment) → has_returned x ≡ false → x ≡ Returned values → ⊥
  no_return x values runs e = clash (ap has_returned e) runs

  no_failure : (x : State) → has_failed x ≡ false → x ≡ Failed → ⊥
  no_failure x runs e = clash (ap has_failed e) runs

  place_returned : (p : Place graphs g n own instance new is) (values : Assignment) → old_of graphs g n own instance new is p ≡ Returned values
      → (result : Assignment) × (new_of graphs g n own instance new is p ≡ Returned result) × SameElsewhere instance values result
  unfolding values_of
  place_returned (outside m a b less alike) values e = absurd (no_return _ values refl e)
  place_returned (inside k a b c less in_body) values e = absurd (no_return _ values refl e)
  place_returned (away call landing outputs a b less alike h m v below other avoids) values e = absurd (no_return _ values refl e)
  place_returned (beyond call landing outputs a b c less in_body speak h m v below other avoids) values e = absurd (no_return _ values refl e)
  place_returned (ended a b alike) values e = (b, refl, λ v elsewhere. alike v elsewhere ∙ ap (λ (s : State). values_of s a v) e)
  place_returned failed values e = absurd (no_return _ values refl e)

  place_returned_new : (p : Place graphs g n own instance new is) (result : Assignment) → new_of graphs g n own instance new is p ≡ Returned result
      → (values : Assignment) × (old_of graphs g n own instance new is p ≡ Returned values) × SameElsewhere instance values result
  unfolding values_of
  place_returned_new (outside m a b less alike) values e = absurd (no_return _ values refl e)
  place_returned_new (inside k a b c less in_body) values e = absurd (no_return _ values refl e)
  place_returned_new (away call landing outputs a b less alike h m v below other avoids) values e = absurd (no_return _ values refl e)
  place_returned_new (beyond call landing outputs a b c less in_body speak h m v below other avoids) values e = absurd (no_return _ values refl e)
  place_returned_new (ended a b alike) values e = (a, refl, λ v elsewhere. sym (ap (λ (s : State). values_of s b v) e) ∙ alike v elsewhere)
  place_returned_new failed values e = absurd (no_return _ values refl e)

  place_failed : (p : Place graphs g n own instance new is) → old_of graphs g n own instance new is p ≡ Failed → new_of graphs g n own instance new is p ≡ Failed
  place_failed (outside m a b less alike) e = absurd (no_failure _ refl e)
  place_failed (inside k a b c less in_body) e = absurd (no_failure _ refl e)
  place_failed (away call landing outputs a b less alike h m v below other avoids) e = absurd (no_failure _ refl e)
  place_failed (beyond call landing outputs a b c less in_body speak h m v below other avoids) e = absurd (no_failure _ refl e)
  place_failed (ended a b alike) e = absurd (no_failure _ refl e)
  place_failed failed e = refl

  place_failed_new : (p : Place graphs g n own instance new is) → new_of graphs g n own instance new is p ≡ Failed → old_of graphs g n own instance new is p ≡ Failed
  place_failed_new (outside m a b less alike) e = absurd (no_failure _ refl e)
  place_failed_new (inside k a b c less in_body) e = absurd (no_failure _ refl e)
  place_failed_new (away call landing outputs a b less alike h m v below other avoids) e = absurd (no_failure _ refl e)
  place_failed_new (beyond call landing outputs a b c less in_body speak h m v below other avoids) e = absurd (no_failure _ refl e)
  place_failed_new (ended a b alike) e = absurd (no_failure _ refl e)
  place_failed_new failed e = refl

  module _ (x y : State) (start : Met x y) where
    returns : (k : ℕ) (old : Assignment) → old_after k x ≡ Returned old → (j : ℕ) × (result : Assignment) × (new_after j y ≡ Returned result) × SameElsewhere instance old result
    returns k old e =
        let there = forth k x y start in
        let end = place_returned there.1.place old (sym there.1.old ∙ e) in
        (there.0, end.0, there.1.now ∙ end.1, end.2)

    returns_only : (j : ℕ) (result : Assignment) → new_after j y ≡ Returned result → (k : ℕ) × (old : Assignment) × (old_after k x ≡ Returned old) × SameElsewhere instance old result
    returns_only j result e = let there = back j x y (inl start) in from there.0 there.1
      where
        from : (k : ℕ) → Met (old_after k x) (new_after j y) ⊎ Back (old_after k x) (new_after j y) → (k : ℕ) × (old : Assignment) × (old_after k x ≡ Returned old) × SameElsewhere instance old result
        from k (inl m) = let end = place_returned_new m.place result (sym m.now ∙ e) in (k, end.0, m.old ∙ end.1, end.2)
        from k (inr r) = absurd (no_return _ result refl (sym r.now ∙ e))

    fails : (k : ℕ) → old_after k x ≡ Failed → (j : ℕ) × (new_after j y ≡ Failed)
    fails k e = let there = forth k x y start in (there.0, there.1.now ∙ place_failed there.1.place (sym there.1.old ∙ e))

    fails_only : (j : ℕ) → new_after j y ≡ Failed → (k : ℕ) × (old_after k x ≡ Failed)
    fails_only j e = let there = back j x y (inl start) in from there.0 there.1
      where
        from : (k : ℕ) → Met (old_after k x) (new_after j y) ⊎ Back (old_after k x) (new_after j y) → (k : ℕ) × (old_after k x ≡ Failed)
        from k (inl m) = (k, m.old ∙ place_failed_new m.place (sym m.now ∙ e))
        from k (inr r) = absurd (no_failure _ refl (sym r.now ∙ e))

  pub ends_alike : (m : ℕ) → m < length is.caller.nodes → (old_values new_values : Assignment) → SameElsewhere instance old_values new_values
      → EndsAlike instance graphs new g (Running g m old_values []) (Running g m new_values [])
  ends_alike m less old_values new_values alike =
      let start : Met (Running g m old_values []) (Running g m new_values []) = record { place = outside m old_values new_values less alike; old = refl; now = refl } in
      record {
        returns = returns _ _ start;
        returns_only = returns_only _ _ start;
        fails = fails _ _ start;
        fails_only = fails_only _ _ start;
      }

  -- ---- fixed bytes

  module _ (fixed : ℕ → Option ℕ) (memory : Variable) (shared : is_shared memory ≡ true) (unbound : All (λ b. b.variable ≢ memory) is.can.outputs) (address : ℕ) where
    one_byte : (old_memory new_memory : Value) → new_memory ≡ old_memory → has_byte old_memory address (fixed address) ≡ true → has_byte new_memory address (fixed address) ≡ true
    one_byte old_memory new_memory e holds = ap (λ (v : Value). has_byte v address (fixed address)) e ∙ holds

    place_holds : (p : Place graphs g n own instance new is) → holds_byte fixed memory address (old_of graphs g n own instance new is p) ≡ true
        → holds_byte fixed memory address (new_of graphs g n own instance new is p) ≡ true
    place_holds (outside m a b less alike) holds = one_byte (a memory) (b memory) (alike memory (inl shared)) holds
    place_holds (inside k a b c less in_body) holds = one_byte (a memory) (c memory) (inside_shared instance own is.can.own_variables a b c in_body memory shared) holds
    place_holds (away call landing outputs a b less alike h m v below other avoids) holds = holds
    place_holds (beyond call landing outputs a b c less in_body speak h m v below other avoids) holds = holds
    place_holds (ended a b alike) holds = one_byte (a memory) (b memory) (alike memory (inl shared)) holds
    place_holds failed holds = holds

    met_holds : (x y : State) → Met x y → holds_byte fixed memory address x ≡ true → holds_byte fixed memory address y ≡ true
    met_holds x y m holds =
        ap (holds_byte fixed memory address) m.now ∙ place_holds m.place (ap (holds_byte fixed memory address) (sym m.old) ∙ holds)

    -- at the end of the inlined body the memory is the one with which the callee has returned
    same_memory : (callee waiting : Assignment) → resumed is.can.outputs callee waiting memory ≡ callee memory
    same_memory callee waiting =
        bound_apart is.can.outputs callee _ memory
        (All-weaker (λ b. b.variable ≢ memory) (λ b. same_variable memory b.variable ≡ false) (λ b other. differ memory b.variable (λ e. other (sym e))) is.can.outputs unbound)
        ∙ ap (λ (c : Bool). if c then callee memory else waiting memory) shared

    back_holds : (x y : State) → Back x y → holds_byte fixed memory address x ≡ true → holds_byte fixed memory address y ≡ true
    back_holds x y r holds =
        let here : has_byte (resumed is.can.outputs r.callee r.waiting memory) address (fixed address) ≡ true = ap (holds_byte fixed memory address) (sym r.old) ∙ holds in
        ap (holds_byte fixed memory address) r.now
        ∙ one_byte (resumed is.can.outputs r.callee r.waiting memory) (r.values memory)
        (inside_shared instance own is.can.own_variables r.callee r.waiting r.values r.is_inside memory shared ∙ sym (same_memory r.callee r.waiting)) here

    pub holds_after : (x y : State) → Met x y → ((k : ℕ) → holds_byte fixed memory address (old_after k x) ≡ true) → (j : ℕ) → holds_byte fixed memory address (new_after j y) ≡ true
    holds_after x y start always j = let there = back j x y (inl start) in from there.0 there.1
      where
        from : (k : ℕ) → Met (old_after k x) (new_after j y) ⊎ Back (old_after k x) (new_after j y) → holds_byte fixed memory address (new_after j y) ≡ true
        from k (inl m) = met_holds _ _ m (always k)
        from k (inr r) = back_holds _ _ r (always k)

  pub fixed_kept : (m : ℕ) → m < length is.caller.nodes → (old_values new_values : Assignment) → SameElsewhere instance old_values new_values
      → (fixed : ℕ → Option ℕ) (memory : Variable) → is_shared memory ≡ true → All (λ b. b.variable ≢ memory) is.can.outputs
      → AlwaysHoldsFixed graphs g fixed memory (Running g m old_values []) → AlwaysHoldsFixed new g fixed memory (Running g m new_values [])
  fixed_kept m less old_values new_values alike fixed memory shared unbound always =
      λ j address. holds_after fixed memory shared unbound address (Running g m old_values []) (Running g m new_values [])
      (record { place = outside m old_values new_values less alike; old = refl; now = refl }) (λ k. always k address) j
