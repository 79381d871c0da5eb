-- What nodes bind, before and after inlining.
use Rattle.std.proofs.Common.{◌≡◌, ◌≢◌, ◌∙◌, inl, inr, ℕ, zero, suc, Bool, true, false, cond, if◌then◌else◌, refl, sym, ap, arith, List, [], ◌∷◌, ◌++◌, map, get_or, filter, All, Contains}
use Rattle.std.specs.Prelude.{◌||◌}
use Rattle.std.proofs.lemmas.List.Elements.{All-head, All-tail, All-weaker, All-map, All-contains_itself, filter_passes}
use Rattle.term_core_spec.specs.declared.Sort.{Sort}
use Rattle.term_core_spec.specs.declared.Sort.TheVariants as sort
use Rattle.term_core_spec.specs.declared.Variable.{Variable}
use Rattle.term_core_spec.specs.Sort.{is_memory}
use Rattle.term_core_spec.specs.Term.{Term}
use Rattle.term_core_spec.specs.Same.{same_variable}
use Rattle.term_core_spec.specs.Value.{Value, Assignment, value}
use Rattle.term_core_spec.proofs.Same.{variable-same}
use Rattle.term_core_spec.proofs.Substitution.{value-renamed}
use Rattle.term_core_spec.proofs.Variables.{value-occurs}
use Rattle.graph_core_spec.specs.Graph.{Binding}
use Rattle.graph_core_spec.specs.Run.{bound, entered, resumed, is_shared, unset}
use Rattle.graph_inline_spec.specs.Naming.{inlined_variable, inlined_term, inlined_binding, with_inlined_term, with_inlined_variable}
use Rattle.graph_inline_spec.specs.Inlined.{unset_term, start_term, start_binding, start_bindings}
use Rattle.graph_inline_spec.specs.Inlining.{TermSpeaksOf, IsOfCallee, IsElsewhere, IsOwn}
use Rattle.graph_inline_spec.specs.Kept.{SameElsewhere}
use Rattle.graph_inline_spec.proofs.Naming.{clash, same, differ, name_shared, name_is_shared, name_elsewhere, own_is, same_name}

-- what a callee starts with that no input binds
abbrev unbound : Assignment → Assignment
unbound values = λ v. if is_shared v then values v else unset v.sort

-- ---- any bindings

chosen : (c d : Bool) (x y u w : Value) → d ≡ c → y ≡ x → w ≡ u → (if d then y else w) ≡ (if c then x else u)
chosen c d x y u w p q r = λ i. if p i then q i else r i

-- bindings of which each is changed, at a variable and at its new name
pub bound_alike : (change : Binding → Binding) (bindings : List Binding) (old new old_rest new_rest : Assignment) (v w : Variable)
    → All (λ b. (same_variable w (change b).variable ≡ same_variable v b.variable) × (value new (change b).term ≡ value old b.term)) bindings
    → new_rest w ≡ old_rest v → bound (map change bindings) new new_rest w ≡ bound bindings old old_rest v
unfolding bound
bound_alike change [] old new old_rest new_rest v w alike rest = rest
bound_alike change (b ∷ bindings) old new old_rest new_rest v w alike rest =
    let first = All-head (λ b. (same_variable w (change b).variable ≡ same_variable v b.variable) × (value new (change b).term ≡ value old b.term)) b bindings alike in
    chosen (same_variable v b.variable) (same_variable w (change b).variable) _ _ _ _ first.0 first.1
    (bound_alike change bindings old new old_rest new_rest v w (All-tail (λ b. (same_variable w (change b).variable ≡ same_variable v b.variable) × (value new (change b).term ≡ value old b.term)) b bindings alike) rest)

-- the same bindings, where their terms have the same values
pub bound_same : (bindings : List Binding) (old new old_rest new_rest : Assignment) (v : Variable)
    → All (λ b. value new b.term ≡ value old b.term) bindings → new_rest v ≡ old_rest v → bound bindings new new_rest v ≡ bound bindings old old_rest v
unfolding bound
bound_same [] old new old_rest new_rest v alike rest = rest
bound_same (b ∷ bindings) old new old_rest new_rest v alike rest =
    chosen (same_variable v b.variable) (same_variable v b.variable) _ _ _ _ refl (All-head (λ b. value new b.term ≡ value old b.term) b bindings alike)
    (bound_same bindings old new old_rest new_rest v (All-tail (λ b. value new b.term ≡ value old b.term) b bindings alike) rest)

-- no binding is of the variable
pub bound_apart : (bindings : List Binding) (values rest : Assignment) (v : Variable) → All (λ b. same_variable v b.variable ≡ false) bindings → bound bindings values rest v ≡ rest v
unfolding bound
bound_apart [] values rest v apart = refl
bound_apart (b ∷ bindings) values rest v apart =
    ap (λ (c : Bool). if c then value values b.term else bound bindings values rest v) (All-head (λ b. same_variable v b.variable ≡ false) b bindings apart)
    ∙ bound_apart bindings values rest v (All-tail (λ b. same_variable v b.variable ≡ false) b bindings apart)

pub bound_append : (xs ys : List Binding) (values rest : Assignment) (v : Variable) → bound (xs ++ ys) values rest v ≡ bound xs values (bound ys values rest) v
unfolding bound
bound_append [] ys values rest v = refl
bound_append (b ∷ xs) ys values rest v = ap (λ (x : Value). if same_variable v b.variable then value values b.term else x) (bound_append xs ys values rest v)

-- a shared variable gets the same from the shared inputs alone
shared_inputs : (inputs : List Binding) (old new old_rest new_rest : Assignment) (v : Variable) → is_shared v ≡ true
    → All (λ b. value new b.term ≡ value old b.term) inputs → new_rest v ≡ old_rest v
    → bound (filter (λ (b : Binding). is_shared b.variable) inputs) new new_rest v ≡ bound inputs old old_rest v
unfolding bound
shared_inputs [] old new old_rest new_rest v shared alike rest = rest
shared_inputs (b ∷ inputs) old new old_rest new_rest v shared alike rest =
    let first = All-head (λ b. value new b.term ≡ value old b.term) b inputs alike in
    let later = shared_inputs inputs old new old_rest new_rest v shared (All-tail (λ b. value new b.term ≡ value old b.term) b inputs alike) rest in
    by (is_shared b.variable) refl first later
  where
    by : (c : Bool) → is_shared b.variable ≡ c → value new b.term ≡ value old b.term → bound (filter (λ (b : Binding). is_shared b.variable) inputs) new new_rest v ≡ bound inputs old old_rest v
        → bound (cond c (b ∷ filter (λ (b : Binding). is_shared b.variable) inputs) (filter (λ (b : Binding). is_shared b.variable) inputs)) new new_rest v ≡ (if same_variable v b.variable then value old b.term else bound inputs old old_rest v)
    by true is first later = chosen (same_variable v b.variable) (same_variable v b.variable) _ _ _ _ refl first later
    by false is first later =
        let apart : same_variable v b.variable ≡ false = differ v b.variable (λ e. clash (sym (ap is_shared e) ∙ shared) is) in
        later ∙ sym (ap (λ (c : Bool). if c then value old b.term else bound inputs old old_rest v) apart)

-- ---- what an own variable starts with

pub or_no : (a b : Bool) → (a || b) ≡ false → a ≡ false
or_no true b h = h
or_no false b h = refl

unset_value : (v : Variable) (s : Sort) (values : Assignment) → is_memory s ≡ false → value values (unset_term v s) ≡ unset s
unfolding value
unset_value v sort.Truth values own = refl
unset_value v (sort.Word width) values own = refl
unset_value v sort.Memory values own = let bad : true ≡ false = own in cc

picked : (values : Assignment) (c : Bool) (t u : Term) (x y : Value) → value values t ≡ x → value values u ≡ y → value values (if c then t else u) ≡ (if c then x else y)
picked values true t u x y p q = p
picked values false t u x y p q = q

start_value : (inputs : List Binding) (old new : Assignment) (v : Variable) → is_shared v ≡ false → All (λ b. value new b.term ≡ value old b.term) inputs
    → value new (start_term inputs v) ≡ bound inputs old (λ w. if is_shared w then old w else unset w.sort) v
unfolding start_term bound
start_value [] old new v own alike =
    unset_value v v.sort new (or_no (is_memory v.sort) _ own) ∙ sym (ap (λ (c : Bool). if c then old v else unset v.sort) own)
start_value (b ∷ inputs) old new v own alike =
    picked new (same_variable v b.variable) b.term (start_term inputs v) _ _ (All-head (λ b. value new b.term ≡ value old b.term) b inputs alike)
    (start_value inputs old new v own (All-tail (λ b. value new b.term ≡ value old b.term) b inputs alike))

module _ (instance : ℕ) (own : List Variable) (are_own : All IsOwn own) where
  -- ---- states

  -- the callee's values are there under their names, and the waiting caller's values are still there
  pub record Inside (callee waiting new : Assignment) : Type 0 where
    pub seen : (v : Variable) → IsOfCallee own v → new (inlined_variable instance v) ≡ callee v
    pub kept : (v : Variable) → IsElsewhere instance v → is_shared v ≡ false → new v ≡ waiting v

  pub inside_shared : (callee waiting new : Assignment) → Inside callee waiting new → (v : Variable) → is_shared v ≡ true → new v ≡ callee v
  inside_shared callee waiting new inside v shared = ap new (sym (name_shared instance v shared)) ∙ inside.seen v (inl shared)

  pub inlined_value : (callee waiting new : Assignment) → Inside callee waiting new → (t : Term) → TermSpeaksOf (IsOfCallee own) t
      → value new (inlined_term instance t) ≡ value callee t
  inlined_value callee waiting new inside t speaks =
      value-renamed new (inlined_variable instance) t ∙ value-occurs (λ v. new (inlined_variable instance v)) callee t (λ v o. inside.seen v (speaks v o))

  pub elsewhere_value : (old new : Assignment) → SameElsewhere instance old new → (t : Term) → TermSpeaksOf (IsElsewhere instance) t → value new t ≡ value old t
  elsewhere_value old new alike t speaks = value-occurs new old t (λ v o. alike v (speaks v o))

  -- ---- the caller's own bindings

  module _ (old new : Assignment) (alike : SameElsewhere instance old new) where
    caller_terms : (bindings : List Binding) → All (λ b. TermSpeaksOf (IsElsewhere instance) b.term) bindings → All (λ b. value new b.term ≡ value old b.term) bindings
    caller_terms bindings speak =
        All-weaker (λ b. TermSpeaksOf (IsElsewhere instance) b.term) (λ b. value new b.term ≡ value old b.term)
        (λ b speaks. elsewhere_value old new alike b.term speaks) bindings speak

    pub caller_bound : (bindings : List Binding) → All (λ b. IsElsewhere instance b.variable × TermSpeaksOf (IsElsewhere instance) b.term) bindings
        → SameElsewhere instance (bound bindings old old) (bound bindings new new)
    caller_bound bindings speak v elsewhere =
        bound_same bindings old new old new v
        (All-weaker (λ b. IsElsewhere instance b.variable × TermSpeaksOf (IsElsewhere instance) b.term) (λ b. value new b.term ≡ value old b.term)
        (λ b speaks. elsewhere_value old new alike b.term speaks.1) bindings speak) (alike v elsewhere)

    started_rest : (v : Variable) → (c : Bool) → is_shared v ≡ c → (if c then new v else unset v.sort) ≡ (if c then old v else unset v.sort)
    started_rest v true shared = alike v (inl shared)
    started_rest v false shared = refl

    pub caller_entered : (inputs : List Binding) → All (λ b. TermSpeaksOf (IsElsewhere instance) b.term) inputs → entered inputs new ≡ entered inputs old
    caller_entered inputs speak = λ i v. bound_same inputs old new (unbound old) (unbound new) v (caller_terms inputs speak) (started_rest v (is_shared v) refl) i

    pub caller_resumed : (outputs : List Binding) (values : Assignment) → SameElsewhere instance (resumed outputs values old) (resumed outputs values new)
    caller_resumed outputs values v elsewhere = bound_same outputs values values _ _ v (λ k d less. refl) (rest (is_shared v))
      where
        rest : (c : Bool) → (if c then values v else new v) ≡ (if c then values v else old v)
        rest true = refl
        rest false = alike v elsewhere

    -- ---- the call

    found : (inputs : List Binding) (us : List Variable) (rest : Assignment) (v : Variable) → All (IsOfCallee own) us → IsOfCallee own v → Contains us v
        → bound (map (start_binding instance inputs) us) new rest (inlined_variable instance v) ≡ value new (start_term inputs v)
    unfolding bound
    found inputs [] rest v all is there = absurd (omega (arith, there.1))
    found inputs (u ∷ us) rest v all is there =
        by (same_variable v u) refl (same_name instance own are_own v u is (All-head (IsOfCallee own) u us all)) there
        (λ within. found inputs us rest v (All-tail (IsOfCallee own) u us all) is within)
      where
        by : (c : Bool) → same_variable v u ≡ c → same_variable (inlined_variable instance v) (inlined_variable instance u) ≡ same_variable v u → Contains (u ∷ us) v
            → (Contains us v → bound (map (start_binding instance inputs) us) new rest (inlined_variable instance v) ≡ value new (start_term inputs v))
            → (if same_variable (inlined_variable instance v) (inlined_variable instance u) then value new (start_term inputs u)
            else bound (map (start_binding instance inputs) us) new rest (inlined_variable instance v)) ≡ value new (start_term inputs v)
        by true agree test within later =
            ap (λ (c : Bool). if c then value new (start_term inputs u) else bound (map (start_binding instance inputs) us) new rest (inlined_variable instance v)) (test ∙ agree)
            ∙ sym (ap (λ (w : Variable). value new (start_term inputs w)) (variable-same v u agree))
        by false disagree test (zero, less, here) later = absurd (clash (ap (λ (w : Variable). same_variable v w) here ∙ same v) disagree)
        by false disagree test (suc k, less, here) later =
            ap (λ (c : Bool). if c then value new (start_term inputs u) else bound (map (start_binding instance inputs) us) new rest (inlined_variable instance v)) (test ∙ disagree)
            ∙ later (k, omega (arith, less), here)

    shared_bindings : List Binding → List Binding
    shared_bindings inputs = filter (λ (b : Binding). is_shared b.variable) inputs

    -- no name of an own variable is a shared variable, nor one elsewhere
    own_apart : (inputs : List Binding) (v : Variable) → ((w : Variable) → Contains own w → v ≢ inlined_variable instance w)
        → All (λ b. same_variable v b.variable ≡ false) (map (start_binding instance inputs) own)
    own_apart inputs v apart =
        All-map (λ b. same_variable v b.variable ≡ false) (start_binding instance inputs) own
        (All-weaker (Contains own) (λ w. same_variable v (inlined_variable instance w) ≡ false) (λ w there. differ v _ (apart w there)) own (All-contains_itself own))

    shared_apart : (inputs : List Binding) (v : Variable) → is_shared v ≡ false → All (λ b. same_variable v b.variable ≡ false) (shared_bindings inputs)
    unfolding shared_bindings
    shared_apart inputs v own_variable =
        All-weaker (λ (b : Binding). is_shared b.variable ≡ true) (λ b. same_variable v b.variable ≡ false)
        (λ b shared. differ v b.variable (λ e. clash (ap is_shared e ∙ shared) own_variable))
        (shared_bindings inputs) (filter_passes (λ (b : Binding). is_shared b.variable) inputs)

    module _ (inputs : List Binding) (speak : All (λ b. TermSpeaksOf (IsElsewhere instance) b.term) inputs) where
      own_bindings : List Binding
      own_bindings = map (start_binding instance inputs) own

      started_shared : (v : Variable) → is_shared v ≡ true → bound (start_bindings own instance inputs) new new v ≡ entered inputs old v
      unfolding own_bindings
      started_shared v shared =
          bound_append (filter (λ (b : Binding). is_shared b.variable) inputs) own_bindings new new v
          ∙ shared_inputs inputs old new _ _ v shared (caller_terms inputs speak)
          (bound_apart own_bindings new new v (own_apart inputs v (λ w there e. clash (sym (ap is_shared e ∙ name_is_shared instance w) ∙ shared) (own_is instance own are_own w there).0))
          ∙ alike v (inl shared) ∙ sym (ap (λ (c : Bool). if c then old v else unset v.sort) shared))

      started_own : (v : Variable) → Contains own v → bound (start_bindings own instance inputs) new new (inlined_variable instance v) ≡ entered inputs old v
      unfolding own_bindings shared_bindings
      started_own v there =
          let is = (own_is instance own are_own v there).0 in
          bound_append (filter (λ (b : Binding). is_shared b.variable) inputs) own_bindings new new (inlined_variable instance v)
          ∙ bound_apart (filter (λ (b : Binding). is_shared b.variable) inputs) new _ (inlined_variable instance v) (shared_apart inputs (inlined_variable instance v) (name_is_shared instance v ∙ is))
          ∙ found inputs own new v (All-weaker (Contains own) (IsOfCallee own) (λ w c. inr c) own (All-contains_itself own)) (inr there) there
          ∙ start_value inputs old new v is (caller_terms inputs speak)

      started_kept : (v : Variable) → IsElsewhere instance v → is_shared v ≡ false → bound (start_bindings own instance inputs) new new v ≡ old v
      unfolding own_bindings shared_bindings
      started_kept v elsewhere apart =
          bound_append (filter (λ (b : Binding). is_shared b.variable) inputs) own_bindings new new v
          ∙ bound_apart (filter (λ (b : Binding). is_shared b.variable) inputs) new _ v (shared_apart inputs v apart)
          ∙ bound_apart own_bindings new new v (own_apart inputs v (λ w there. name_elsewhere instance v w elsewhere apart))
          ∙ alike v elsewhere

      started_seen : (v : Variable) → IsOfCallee own v → bound (start_bindings own instance inputs) new new (inlined_variable instance v) ≡ entered inputs old v
      started_seen v (inl shared) = ap (bound (start_bindings own instance inputs) new new) (name_shared instance v shared) ∙ started_shared v shared
      started_seen v (inr there) = started_own v there

      -- the callee begins
      pub started : Inside (entered inputs old) old (bound (start_bindings own instance inputs) new new)
      started = record { seen = started_seen; kept = started_kept }

  -- ---- the callee's bindings

  module _ (callee waiting new : Assignment) (inside : Inside callee waiting new) where
    -- what binds names leaves the caller's variables
    names_kept : (bindings : List Binding) (change : Binding → Binding) (values rest : Assignment) → ((b : Binding) → (change b).variable ≡ inlined_variable instance b.variable)
        → (v : Variable) → IsElsewhere instance v → is_shared v ≡ false → bound (map change bindings) values rest v ≡ rest v
    names_kept bindings change values rest names v elsewhere apart =
        bound_apart (map change bindings) values rest v
        (All-map (λ b. same_variable v b.variable ≡ false) change bindings
        (λ k d less. differ v (change (get_or bindings k d)).variable (λ e. name_elsewhere instance v (get_or bindings k d).variable elsewhere apart (e ∙ names (get_or bindings k d)))))

    seen_bindings : (bindings : List Binding) (v : Variable) → IsOfCallee own v → All (λ b. IsOfCallee own b.variable × TermSpeaksOf (IsOfCallee own) b.term) bindings
        → All (λ b. (same_variable (inlined_variable instance v) (inlined_binding instance b).variable ≡ same_variable v b.variable)
        × (value new (inlined_binding instance b).term ≡ value callee b.term)) bindings
    seen_bindings bindings v of_callee speak =
        All-weaker (λ b. IsOfCallee own b.variable × TermSpeaksOf (IsOfCallee own) b.term)
        (λ b. (same_variable (inlined_variable instance v) (inlined_binding instance b).variable ≡ same_variable v b.variable)
        × (value new (inlined_binding instance b).term ≡ value callee b.term))
        (λ b speaks. (same_name instance own are_own v b.variable of_callee speaks.0, inlined_value callee waiting new inside b.term speaks.1)) bindings speak

    pub callee_bound : (bindings : List Binding) → All (λ b. IsOfCallee own b.variable × TermSpeaksOf (IsOfCallee own) b.term) bindings
        → Inside (bound bindings callee callee) waiting (bound (map (inlined_binding instance) bindings) new new)
    callee_bound bindings speak = record {
      seen = λ v of_callee. bound_alike (inlined_binding instance) bindings callee new callee new v (inlined_variable instance v) (seen_bindings bindings v of_callee speak) (inside.seen v of_callee);
      kept = λ v elsewhere apart. names_kept bindings (inlined_binding instance) new new (λ b. refl) v elsewhere apart ∙ inside.kept v elsewhere apart;
    }

    term_values : (bindings : List Binding) (v : Variable) → All (λ b. TermSpeaksOf (IsOfCallee own) b.term) bindings
        → All (λ b. (same_variable v (with_inlined_term instance b).variable ≡ same_variable v b.variable) × (value new (with_inlined_term instance b).term ≡ value callee b.term)) bindings
    term_values bindings v speak =
        All-weaker (λ b. TermSpeaksOf (IsOfCallee own) b.term)
        (λ b. (same_variable v (with_inlined_term instance b).variable ≡ same_variable v b.variable) × (value new (with_inlined_term instance b).term ≡ value callee b.term))
        (λ b speaks. (refl, inlined_value callee waiting new inside b.term speaks)) bindings speak

    entered_rest : (v : Variable) (c : Bool) → is_shared v ≡ c → (if c then new v else unset v.sort) ≡ (if c then callee v else unset v.sort)
    entered_rest v true shared = inside_shared callee waiting new inside v shared
    entered_rest v false shared = refl

    pub callee_entered : (inputs : List Binding) → All (λ b. TermSpeaksOf (IsOfCallee own) b.term) inputs
        → entered (map (with_inlined_term instance) inputs) new ≡ entered inputs callee
    callee_entered inputs speak = λ i v. bound_alike (with_inlined_term instance) inputs callee new (unbound callee) (unbound new) v v (term_values inputs v speak) (entered_rest v (is_shared v) refl) i

    -- a further callee returns
    output_names : (outputs : List Binding) (values : Assignment) (v : Variable) → IsOfCallee own v → All (λ b. IsOfCallee own b.variable) outputs
        → All (λ b. (same_variable (inlined_variable instance v) (with_inlined_variable instance b).variable ≡ same_variable v b.variable)
        × (value values (with_inlined_variable instance b).term ≡ value values b.term)) outputs
    output_names outputs values v of_callee speak =
        All-weaker (λ b. IsOfCallee own b.variable)
        (λ b. (same_variable (inlined_variable instance v) (with_inlined_variable instance b).variable ≡ same_variable v b.variable)
        × (value values (with_inlined_variable instance b).term ≡ value values b.term))
        (λ b speaks. (same_name instance own are_own v b.variable of_callee speaks, refl)) outputs speak

    resumed_rest : (values : Assignment) (v : Variable) → IsOfCallee own v → (c : Bool) → is_shared v ≡ c
        → (if is_shared (inlined_variable instance v) then values (inlined_variable instance v) else new (inlined_variable instance v)) ≡ (if c then values v else callee v)
    resumed_rest values v of_callee true shared =
        ap (λ (w : Variable). if is_shared w then values w else new w) (name_shared instance v shared)
        ∙ ap (λ (c : Bool). if c then values v else new v) shared
    resumed_rest values v of_callee false apart =
        ap (λ (c : Bool). if c then values (inlined_variable instance v) else new (inlined_variable instance v)) (name_is_shared instance v ∙ apart) ∙ inside.seen v of_callee

    pub callee_resumed : (outputs : List Binding) (values : Assignment) → All (λ b. IsOfCallee own b.variable) outputs
        → Inside (resumed outputs values callee) waiting (resumed (map (with_inlined_variable instance) outputs) values new)
    callee_resumed outputs values speak = record {
      seen = λ v of_callee. bound_alike (with_inlined_variable instance) outputs values values _ _ v (inlined_variable instance v) (output_names outputs values v of_callee speak) (resumed_rest values v of_callee (is_shared v) refl);
      kept = λ v elsewhere apart.
          names_kept outputs (with_inlined_variable instance) values _ (λ b. refl) v elsewhere apart
          ∙ ap (λ (c : Bool). if c then values v else new v) apart ∙ inside.kept v elsewhere apart;
    }

    -- the callee returns
    returned_rest : (v : Variable) → IsElsewhere instance v → (c : Bool) → is_shared v ≡ c → new v ≡ (if c then callee v else waiting v)
    returned_rest v elsewhere true shared = inside_shared callee waiting new inside v shared
    returned_rest v elsewhere false apart = inside.kept v elsewhere apart

    pub returned : (outputs : List Binding) → All (λ b. TermSpeaksOf (IsOfCallee own) b.term) outputs
        → SameElsewhere instance (resumed outputs callee waiting) (bound (map (with_inlined_term instance) outputs) new new)
    returned outputs speak v elsewhere =
        bound_alike (with_inlined_term instance) outputs callee new _ _ v v (term_values outputs v speak) (returned_rest v elsewhere (is_shared v) refl)
