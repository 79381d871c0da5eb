-- The stack of a function, from its words and the stacks of what it calls.
use Rattle.std.proofs.Common.{◌≡◌, ◌⊎◌, ◌∙◌, ℕ, zero, suc, ◌+◌, ◌<◌, ◌≤◌, Bool, true, false, cond, List, [], ◌∷◌, ◌++◌, map, refl, sym, ap, subst, inl, inr, arith, eqb-true}
use Rattle.std.specs.Prelude.{Contains, All, get_or, nat_le, nat_lt, sum_by, nat_eq, Option, Some, None, IfSome, IsSome, option_and_then, unwrap_or}
use Rattle.std.proofs.lemmas.Bool.{cases_lt, and_from, le-leb, lt-ltb}
use Rattle.std.proofs.lemmas.List.Elements.{All-contains, Contains-get_or, Contains-append_left, Contains-append_cases, Contains-push}
use Rattle.std.proofs.lemmas.List.Sums.{sum_by-cons, sum_by_push}
use Rattle.rv_instr.specs.Instr.{instr}
use Rattle.elf_read_spec.specs.Image.{Image, size_at}
use Rattle.code_reach_spec.specs.Code.{InRange, Flow, Falls, Branches, Jumps, Calls, Links, Returns, Switches, Stops, flow_at, opening_of, instr_at, word_at, IsReachable, CallsOn, call, tail, IsGreatest, IsStack, deep}
use Rattle.code_reach_spec.specs.FaultAt.{in_range}
use Rattle.code_reach.specs.Flows.{called_by, callee_at}
use Rattle.code_reach.specs.Found.{IsCode}
use Rattle.code_reach.specs.Surveys.{CallsFrom}
use Rattle.code_reach.proofs.Called.{called-on, from-call, from-tail_call}
use Rattle.decompile_laws.proofs.Reached.{inside_range, whole_word, jumps_inside, calls_function}
use Rattle.pair_setup.specs.Calling.{opening_of_word, step_of, IsWhole, AreSteps}
use Rattle.pair_setup.specs.declared.calling.Step.{Step}
use Rattle.pair_setup.specs.Stacks.{Known, AreStacks, IsTally, IsRaised, IsMore, IsTotal}
use Rattle.pair_setup.specs.declared.stacks.Tally.{Tally}
use Rattle.pair_setup.proofs.Added.{only_contained, none_contained}

pub if-some : {X : Type 0} (o : Option X) (P Q : X → Type 0) → ((x : X) → P x → Q x) → IfSome o P → IfSome o Q
if-some None P Q f h = tt
if-some (Some x) P Q f h = f x h

-- ---- one instruction after the other

module _ (known : Known) where
  pub tally-none : IsTally known [] (record { own = 0; deepest = 0 })
  tally-none = record { own_is = refl; above = λ step target among is. absurd (none_contained step among); reached = inl refl }

  raised-up : (old new : ℕ) (o : Option ℕ) → IsRaised known old o new → old ≤ new
  raised-up old new None h = omega (arith, h)
  raised-up old new (Some target) (stack, is, e) = omega (arith, e)

  raised-above : (old new target : ℕ) → IsRaised known old (Some target) new → (stack : ℕ) × (known target ≡ Some stack) × (stack ≤ new)
  raised-above old new target (stack, is, e) = (stack, is, omega (arith, e))

  -- one of some instructions has this greatest stack of what they call
  abbrev Reached : List Step → ℕ → Type 0
  Reached steps deepest = (deepest ≡ 0) ⊎ ((s : Step) × (target : ℕ) × Contains steps s × (s.callee ≡ Some target) × (known target ≡ Some deepest))

  reached-still : (steps : List Step) (step : Step) (old new : ℕ) → new ≡ old → Reached steps old → Reached (steps ++ step ∷ []) new
  reached-still steps step old new e (inl none) = inl (e ∙ none)
  reached-still steps step old new e (inr (s, target, among, is, there)) = inr (s, target, Contains-append_left steps (step ∷ []) s among, is, there ∙ ap Some (sym e))

  reached-more : (steps : List Step) (step : Step) (old new : ℕ) (o : Option ℕ) → step.callee ≡ o → IsRaised known old o new → Reached steps old → Reached (steps ++ step ∷ []) new
  reached-more steps step old new None c h r = reached-still steps step old new h r
  reached-more steps step old new (Some target) c (stack, is, e) r = at (cases_lt old stack)
    where
      at : (old < stack) ⊎ (stack ≤ old) → Reached (steps ++ step ∷ []) new
      at (inl deeper) = let same : new ≡ stack = omega (arith, deeper, e) in inr (step, target, Contains-push steps step, c, is ∙ ap Some (sym same))
      at (inr within) = reached-still steps step old new (omega (arith, within, e)) r

  pub tally-more : (steps : List Step) (step : Step) (old new : Tally) → IsTally known steps old → IsMore known old step new → IsTally known (steps ++ step ∷ []) new
  tally-more steps step old new so_far more = record {
    own_is = more.own_is ∙ (ap (λ n. n + step.opening) so_far.own_is ∙ sym (sum_by_push (λ (s : Step). s.opening) steps step));
    above = above;
    reached = reached-more steps step old.deepest new.deepest step.callee refl more.deepest_is so_far.reached;
  }
    where
      above : (s : Step) (target : ℕ) → Contains (steps ++ step ∷ []) s → s.callee ≡ Some target → (stack : ℕ) × (known target ≡ Some stack) × (stack ≤ new.deepest)
      above s target among is = elim (Contains-append_cases steps (step ∷ []) s among) [
        | inl before ↦ (let a = so_far.above s target before is in (a.0, a.1, omega (arith, a.2, raised-up old.deepest new.deepest step.callee more.deepest_is)))
        | inr last ↦
            raised-above old.deepest new.deepest target
            (subst (λ o. IsRaised known old.deepest o new.deepest) (ap (λ (x : Step). x.callee) (sym (only_contained step s last)) ∙ is) more.deepest_is)
      ]

key_in : (words : List (ℕ × ℕ)) (w : ℕ × ℕ) → Contains words w → Contains (map (λ (v : ℕ × ℕ). v.0) words) w.0
key_in [] w (k, below, e) = absurd (omega arith)
key_in (x ∷ xs) w (zero, below, e) = (0, omega arith, ap (λ (v : ℕ × ℕ). v.0) e)
key_in (x ∷ xs) w (suc k, below, e) =
    let at = key_in xs w (k, omega arith, e) in
    (suc at.0, omega (arith, at.1), at.2)

-- a word at an address
record At (words : List (ℕ × ℕ)) (address : ℕ) : Type 0 where
  word : ℕ × ℕ
  among : Contains words word
  address_is : word.0 ≡ address

word-at : (words : List (ℕ × ℕ)) (address : ℕ) → Contains (map (λ (v : ℕ × ℕ). v.0) words) address → At words address
word-at [] address (k, below, e) = absurd (omega arith)
word-at (x ∷ xs) address (zero, below, e) = record { word = x; among = (0, omega arith, refl); address_is = e }
word-at (x ∷ xs) address (suc k, below, e) =
    let at = word-at xs address (k, omega arith, e) in
    record { word = at.word; among = (suc at.among.0, omega (arith, at.among.1), at.among.2); address_is = at.address_is }

pub stack-sized : (image : Image) (entry stack : ℕ) → IsStack image entry stack → IsSome (size_at image entry)
stack-sized image _ _ (deep entry size deepest places below is reachable stacks greatest) = subst IsSome (sym is) refl

openings-same : (image : Image) (entry size : ℕ) (words : List (ℕ × ℕ)) → ((w : ℕ × ℕ) → Contains words w → instr_at image w.0 ≡ instr w.1)
    → sum_by (λ (s : Step). s.opening) (map (step_of image entry size) words)
    ≡ sum_by (λ address. opening_of (instr_at image address)) (map (λ (v : ℕ × ℕ). v.0) words)
openings-same image entry size [] all = refl
openings-same image entry size (w ∷ words) all =
    let f : ℕ → ℕ = λ address. opening_of (instr_at image address) in
    let steps : List Step = map (step_of image entry size) words in
    let head : opening_of_word w.1 ≡ f w.0 = ap opening_of (sym (all w (0, omega arith, refl))) in
    let tail = openings-same image entry size words (λ v among. all v (suc among.0, omega (arith, among.1), among.2)) in
    sum_by-cons (λ (s : Step). s.opening) (step_of image entry size w) steps
    ∙ (ap (λ n. n + sum_by (λ (s : Step). s.opening) steps) head ∙ (ap (λ n. f w.0 + n) tail ∙ sym (sum_by-cons f w.0 (map (λ (v : ℕ × ℕ). v.0) words))))

step-in : (f : ℕ × ℕ → Step) (words : List (ℕ × ℕ)) (w : ℕ × ℕ) → Contains words w → Contains (map f words) (f w)
step-in f [] w (k, below, e) = absurd (omega arith)
step-in f (x ∷ xs) w (zero, below, e) = (0, omega arith, ap f e)
step-in f (x ∷ xs) w (suc k, below, e) =
    let at = step-in f xs w (k, omega arith, e) in
    (suc at.0, omega (arith, at.1), at.2)

word-of : (f : ℕ × ℕ → Step) (words : List (ℕ × ℕ)) (step : Step) → Contains (map f words) step → (w : ℕ × ℕ) × Contains words w × (f w ≡ step)
word-of f [] step (k, below, e) = absurd (omega arith)
word-of f (x ∷ xs) step (zero, below, e) = (x, (0, omega arith, refl), e)
word-of f (x ∷ xs) step (suc k, below, e) =
    let at = word-of f xs step (k, omega arith, e) in
    (at.0, (suc at.1.0, omega (arith, at.1.1), at.1.2), at.2)

-- ---- the words of a function

module _ (image : Image) (entry : ℕ) (words : List (ℕ × ℕ)) (is : IsCode image entry words) where
  decoded : (w : ℕ × ℕ) → Contains words w → instr_at image w.0 ≡ instr w.1
  unfolding instr_at
  decoded w among = ap (λ (o : Option ℕ). option_and_then instr o) (All-contains (λ (v : ℕ × ℕ). word_at image v.0 ≡ Some v.1) words w is.words_are among)

  reached-word : (w : ℕ × ℕ) → Contains words w → IsReachable image entry is.size w.0
  reached-word w among = (is.places.exactly w.0).0 (key_in words w among)

  pub are-whole : All (IsWhole entry) words
  are-whole k d below =
      let reached = reached-word (get_or words k d) (Contains-get_or words k d below) in
      record { from = (inside_range image entry is.size (get_or words k d).0 reached).from; whole = whole_word image entry is.size (get_or words k d).0 reached }

  -- where a word calls there is a function
  sized-by : (address target : ℕ) → IsReachable image entry is.size address → (flow : Flow) → flow_at image entry address ≡ Some flow
      → called_by entry is.size flow ≡ Some target → IsSome (size_at image target)
  sized-by address target reached Falls is_flow e = absurd (cc)
  sized-by address target reached (Branches t) is_flow e = absurd (cc)
  sized-by address target reached (Jumps t) is_flow e = by (jumps_inside image entry is.size address is.sound reached t is_flow) (in_range entry is.size t) refl e
    where
      by : InRange entry is.size t ⊎ ((InRange entry is.size t → ⊥) × IsSome (size_at image t)) → (b : Bool) → in_range entry is.size t ≡ b
          → cond b None (Some t) ≡ Some target → IsSome (size_at image target)
      by where_to true inside f = absurd (cc)
      by (inl here) false inside f =
          let there : in_range entry is.size t ≡ true =
          and_from (nat_le entry t) (nat_lt t (entry + is.size)) (le-leb entry t here.from) (lt-ltb t (entry + is.size) here.below) in
          absurd (cc)
      by (inr out) false inside f = let same : t ≡ target = cc in subst (λ z. IsSome (size_at image z)) same out.1
  sized-by address target reached (Calls t) is_flow e =
      let same : t ≡ target = cc in subst (λ z. IsSome (size_at image z)) same (calls_function image entry is.size address is.sound reached t is_flow)
  sized-by address target reached (Links t) is_flow e = absurd (cc)
  sized-by address target reached Returns is_flow e = absurd (cc)
  sized-by address target reached (Switches jump) is_flow e = absurd (cc)
  sized-by address target reached Stops is_flow e = absurd (cc)

  sized-at : (address target : ℕ) → IsReachable image entry is.size address → callee_at image entry is.size address ≡ Some target → IsSome (size_at image target)
  sized-at address target reached e = at (flow_at image entry address) refl
    where
      at : (o : Option Flow) → flow_at image entry address ≡ o → IsSome (size_at image target)
      at None none = let off = ap (option_and_then (called_by entry is.size)) none in absurd (cc)
      at (Some flow) some = sized-by address target reached flow some (sym (ap (option_and_then (called_by entry is.size)) some) ∙ e)

-- ---- the stack

module _ (image : Image) (entry : ℕ) (steps : List Step) (are : AreSteps image entry steps) where
  abbrev size : ℕ
  size = are.code.size

  pub record CalledAt (target : ℕ) : Type 0 where
    pub step : Step
    pub among : Contains steps step
    pub calls : step.callee ≡ Some target

  from-word : (address target : ℕ) → IsReachable image entry size address → CallsFrom image entry size address target → CalledAt target
  from-word address target reached c =
      let at = word-at are.words address ((are.code.places.exactly address).1 reached) in
      record {
        step = step_of image entry size at.word;
        among = subst (λ (l : List Step). Contains l (step_of image entry size at.word)) (sym are.steps_are) (step-in (step_of image entry size) are.words at.word at.among);
        calls = ap (callee_at image entry size) at.address_is ∙ c.callee_is;
      }

  pub called-at : (target : ℕ) → CallsOn image entry size target → CalledAt target
  called-at target (call address _ reached flow some) = from-word address target reached (from-call image entry size address target flow some)
  called-at target (tail address _ reached flow out some) = from-word address target reached (from-tail_call image entry size address target flow out some)

  pub calls-back : (step : Step) (target : ℕ) → Contains steps step → step.callee ≡ Some target → CallsOn image entry size target
  calls-back step target among e =
      let at = word-of (step_of image entry size) are.words step (subst (λ (l : List Step). Contains l step) are.steps_are among) in
      let reached = reached-word image entry are.words are.code at.0 at.1 in
      let callee : callee_at image entry size at.0.0 ≡ Some target = ap (λ (s : Step). s.callee) at.2 ∙ e in
      called-on image entry size at.0.0 target reached
      (record { callee_is = callee; entry_there = sized-at image entry are.words are.code at.0.0 target reached callee })

  module _ (known : Known) (stacks : AreStacks image known) (tally : Tally) (t : IsTally known steps tally) where
    below : ℕ → ℕ
    below target = unwrap_or (known target) 0

    stacks-below : (target : ℕ) → CallsOn image entry size target → IsStack image target (below target)
    unfolding below
    stacks-below target on =
        let at = called-at target on in
        let a = t.above at.step target at.among at.calls in
        subst (IsStack image target) (sym (ap (λ o. unwrap_or o 0) a.1)) (stacks target a.0 a.1)

    greatest : IsGreatest (CallsOn image entry size) below tally.deepest
    unfolding below
    greatest = record { above = above; reached = from t.reached }
      where
        above : (target : ℕ) → CallsOn image entry size target → below target ≤ tally.deepest
        above target on =
            let at = called-at target on in
            let a = t.above at.step target at.among at.calls in
            omega (arith, ap (λ o. unwrap_or o 0) a.1, a.2)

        from : Reached known steps tally.deepest → (tally.deepest ≡ 0) ⊎ ((target : ℕ) × CallsOn image entry size target × (below target ≡ tally.deepest))
        from (inl none) = inl none
        from (inr (s, target, among, c, there)) = inr (target, calls-back s target among c, ap (λ o. unwrap_or o 0) there)

    own-same : tally.own ≡ sum_by (λ address. opening_of (instr_at image address)) (map (λ (v : ℕ × ℕ). v.0) are.words)
    own-same =
        t.own_is ∙ (ap (λ (l : List Step). sum_by (λ (s : Step). s.opening) l) are.steps_are
        ∙ openings-same image entry size are.words (decoded image entry are.words are.code))

    pub tally-stack : IsStack image entry (tally.own + tally.deepest)
    tally-stack =
        subst (IsStack image entry) (ap (λ n. n + tally.deepest) (sym own-same))
        (deep entry size tally.deepest (map (λ (v : ℕ × ℕ). v.0) are.words) below are.code.size_is are.code.places stacks-below greatest)

  pub total-stack : (known : Known) (stack : ℕ) → AreStacks image known → IsTotal known steps stack → IsStack image entry stack
  total-stack known stack stacks (tally, t, e) = subst (IsStack image entry) (sym e) (tally-stack known stacks tally t)

-- ---- what is known

pub no-stacks : (image : Image) (known : Known) → ((entry : ℕ) → known entry ≡ None) → AreStacks image known
no-stacks image known none entry stack is = absurd (let no_stack = none entry in cc)

pub one-stack-more : (image : Image) (known new : Known) (entry stack : ℕ) → AreStacks image known → IsStack image entry stack
    → ((t : ℕ) → new t ≡ cond (nat_eq entry t) (Some stack) (known t)) → AreStacks image new
one-stack-more image known new entry stack are is updates t other there = at (nat_eq entry t) refl
  where
    at : (b : Bool) → nat_eq entry t ≡ b → IsStack image t other
    at true b =
        let given = updates t ∙ ap (λ b. cond b (Some stack) (known t)) b in
        let same : stack ≡ other = cc in
        subst (λ z. IsStack image z other) (eqb-true entry t b) (subst (IsStack image entry) same is)
    at false b = let given = updates t ∙ ap (λ b. cond b (Some stack) (known t)) b in are t other (sym given ∙ there)
