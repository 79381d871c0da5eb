-- The stack of listed functions, or the first fault of what one reaches.
use Rattle.std.proofs.Common.{◌≡◌, ◌⊎◌, ◌∙◌, ◌+◌, ◌-◌, ◌<◌, ◌≤◌, ℕ, List, [], ◌∷◌, ◌++◌, length, take, drop, get_or, refl, sym, ap, subst, inl, inr, arith, true≢false}
use Rattle.std.specs.Prelude.{true, false, nat_lt, if◌then◌else◌, All, IsSome, MatchOption, Option, Some, None, slice_get, unwrap_or}
use Rattle.std.proofs.lemmas.Bool.{cases_Bool, cases_lt, ltb-true, ltb-false}
use Rattle.std.proofs.lemmas.List.{get_or_append_left, get_or-append_right, length-append}
use Rattle.std.proofs.lemmas.List.Elements.{All-from_get_or}
use Rattle.std.proofs.lemmas.Option.{slice_get_within, slice_get-get_or}
use Rattle.elf_read_spec.specs.Image.{Image, function_named, size_at}
use Rattle.elf_read_spec.specs.declared.SymbolValues.TheVariants.{One}
use Rattle.code_reach_spec.specs.Code as code
use Rattle.code_reach_spec.specs.Code.{IsStack}
use Rattle.c_token_spec.specs.Words.{entry_of}
use Rattle.c_types_spec.specs.Core.{Body, Typed}
use Rattle.c_types_spec.specs.HasType.{IsTypedUnit}
use Rattle.pair_setup_calls.specs.Graph.{IsCyclic}
use Rattle.pair_setup_calls.specs.Names.{IsCallGraph}
use Rattle.pair_setup_calls.proofs.Sources.{cyclic-there, cyclic-back}
use Rattle.tv_limits.specs.declared.TheConstants.{MAX_STACK}
use Rattle.pair_setup_spec.specs.declared.PairKind.TheVariants.{Recursive, StackTooDeep}
use Rattle.pair_setup_spec.specs.SourceReach as source
use Rattle.pair_setup_spec.specs.SourceReach.{body_of}
use Rattle.pair_setup_spec.specs.Faults.{HasNames, IsRecursive, in_source, in_code, HasReachFault, recursive, too_deep, IsShallow, IsTooDeep}
use Rattle.pair_setup_spec.specs.Code.{HasSoundCode}
use Rattle.pair_setup_spec.proofs.Stacks.{one_stack}
use Rattle.pair_setup.specs.Names.{IsDeclaredAt, NoFunction}
use Rattle.pair_setup.specs.Depths.{IsShallowStack, IsDepthOf, IsSoundFunction, AreFunctions, IsDepthErrorAt, IsFirstDepthError}
use Rattle.pair_setup.specs.declared.reach.Depth.TheVariants.{Stack, Fault}
use Rattle.pair_setup.specs.declared.outcome.Function.{Function}
use Rattle.pair_setup.specs.declared.outcome.Named.TheVariants.{Nothing, Listed, Declared}
use Rattle.attempt.specs.declared.refusal.Refusal.{Refusal}
use Rattle.attempt.specs.declared.refusal.Refusal.TheVariants as refusal
use Rattle.pair_setup.specs.declared.outcome.PairFault.{PairFault}
use Rattle.pair_setup.specs.declared.outcome.PairFault.TheVariants.{Refused, Code, Nodes}
use Rattle.pair_setup.proofs.Typing.{body-declared}
use Rattle.pair_setup.proofs.Numbering.{IsNumbering}
use Rattle.pair_setup.proofs.NameFaults.{calls_are_declared}
use Rattle.pair_setup.proofs.Prefixes.{split-at}

-- ---- one function

module _ (image : Image) (unit : Typed) (names : List (List ℕ)) (typed : IsTypedUnit unit) (n : IsNumbering unit names) (graph : List (List ℕ)) (is : IsCallGraph unit names graph)
    (start : ℕ) (entry : ℕ) (name : List ℕ) (at : IsDeclaredAt unit names name start) where
  pub source-cyclic : IsCyclic graph start → HasReachFault image unit name entry Recursive
  source-cyclic c = recursive (in_source (cyclic-there unit names graph is start name at.number_is c))

  pub code-cyclic : code.IsCyclic image entry → HasReachFault image unit name entry Recursive
  code-cyclic c = recursive (in_code c)

  module _ (no_source : IsCyclic graph start → ⊥) (no_code : code.IsCyclic image entry → ⊥) (stack : ℕ) (stack_is : IsStack image entry stack) where
    acyclic : IsRecursive image unit name entry → ⊥
    acyclic (in_source c) = no_source (cyclic-back unit names graph is (calls_are_declared unit names typed n) start name at.number_is c)
    acyclic (in_code c) = no_code c

    pub within-depth : IsDepthOf image unit name entry (if nat_lt MAX_STACK stack then Fault StackTooDeep else Stack stack)
    within-depth = at_least (cases_Bool (nat_lt MAX_STACK stack))
      where
        at_least : (nat_lt MAX_STACK stack ≡ true) ⊎ (nat_lt MAX_STACK stack ≡ false) → IsDepthOf image unit name entry (if nat_lt MAX_STACK stack then Fault StackTooDeep else Stack stack)
        at_least (inl deep) = rw deep (too_deep acyclic (record { stack = stack; stack_is = stack_is; above = ltb-true MAX_STACK stack deep }))
        at_least (inr low) = rw low (record { acyclic = acyclic; stack_is = stack_is; within = ltb-false MAX_STACK stack low })

-- the number of a function whose names have no fault
pub declared-number : (image : Image) (unit : Typed) (names : List (List ℕ)) (typed : IsTypedUnit unit) (name : List ℕ) (o : Option ℕ) → HasNames image unit name
    → MatchOption o (NoFunction unit name) (IsDeclaredAt unit names name) → IsDeclaredAt unit names name (unwrap_or o 0)
declared-number image unit names typed name (Some number) fine h = h
declared-number image unit names typed name None fine none = absurd (at (body_of unit name) refl)
  where
    at : (o : Option Body) → body_of unit name ≡ o → ⊥
    at None e = fine.bodies name (record { reached = source.itself; absent = e })
    at (Some body) e = let some : IsSome (entry_of unit.functions name) = body-declared unit typed name body e in let absent = none in cc

module _ (image : Image) (unit : Typed) (name : List ℕ) (entry : ℕ) (code_is : HasSoundCode image name entry) where
  pub sound-function : (o : Option ℕ) (stack : ℕ) → o ≡ size_at image entry → IsSome (size_at image entry) → IsShallowStack image unit name entry stack
      → IsSoundFunction image unit name (record { entry = entry; size = unwrap_or o 0; stack = stack })
  sound-function None stack e some h = absurd (let is : IsSome (size_at image entry) = some in let none : false ≡ true = subst IsSome (sym e) is in true≢false (sym none))
  sound-function (Some size) stack e some h = record {
    function_is = record { entry_is = code_is.named; size_is = sym e; stack_is = h.stack_is; within = h.within };
    shallow = record {
      entry = entry;
      entry_is = code_is.named;
      acyclic = h.acyclic;
      within = λ deep. never deep;
    };
  }
    where
      never : IsTooDeep image entry → ⊥
      never deep = let same = one_stack image entry deep.stack stack deep.stack_is h.stack_is in omega (arith, same, deep.above, h.within)

-- ---- a list

module _ (image : Image) (unit : Typed) where
  pub functions-none : AreFunctions image unit [] []
  functions-none = record {
    long = refl;
    each = λ index name d there. absurd (let below = slice_get_within [] index name there in omega (arith, below));
  }

  pub functions-more : (list : List (List ℕ)) (name : List ℕ) (functions : List Function) (f : Function) → AreFunctions image unit list functions
      → IsSoundFunction image unit name f → AreFunctions image unit (list ++ name ∷ []) (functions ++ f ∷ [])
  functions-more list name functions f so_far one = record {
    long = omega (arith, length-append list (name ∷ []), length-append functions (f ∷ []), so_far.long);
    each = each;
  }
    where
      each : (index : ℕ) (other : List ℕ) (d : Function) → slice_get (list ++ name ∷ []) index ≡ Some other → IsSoundFunction image unit other (get_or (functions ++ f ∷ []) index d)
      each index other d there = at (cases_lt index (length list))
        where
          inside : index < length (list ++ name ∷ [])
          inside = slice_get_within (list ++ name ∷ []) index other there

          read : get_or (list ++ name ∷ []) index other ≡ other
          read = let got : Some (get_or (list ++ name ∷ []) index other) ≡ Some other = sym (slice_get-get_or (list ++ name ∷ []) index other inside) ∙ there in cc

          at : (index < length list) ⊎ (length list ≤ index) → IsSoundFunction image unit other (get_or (functions ++ f ∷ []) index d)
          at (inl before) =
              let same : get_or list index other ≡ other = sym (get_or_append_left list (name ∷ []) other index before) ∙ read in
              subst (IsSoundFunction image unit other) (sym (get_or_append_left functions (f ∷ []) d index (omega (arith, before, so_far.long))))
              (so_far.each index other d (slice_get-get_or list index other before ∙ ap Some same))
          at (inr from) =
              let last : index ≡ length list = omega (arith, from, inside, length-append list (name ∷ [])) in
              let long = so_far.long in
              let zero_list : get_or (name ∷ []) (index - length list) other ≡ name = ap (λ k. get_or (name ∷ []) k other) (let z : index - length list ≡ 0 = omega (arith, last) in z) in
              let zero_first : get_or (f ∷ []) (index - length functions) d ≡ f = ap (λ k. get_or (f ∷ []) k d) (let z : index - length functions ≡ 0 = omega (arith, last, long) in z) in
              let is_name : name ≡ other = sym zero_list ∙ sym (get_or-append_right list (name ∷ []) (length list) index other refl from) ∙ read in
              let is_f : get_or (functions ++ f ∷ []) index d ≡ f = get_or-append_right functions (f ∷ []) (length functions) index d refl (omega (arith, from, long)) ∙ zero_first in
              subst (IsSoundFunction image unit other) (sym is_f) (subst (λ x. IsSoundFunction image unit x f) is_name one)

  pub all-shallow : (list : List (List ℕ)) (functions : List Function) (d : Function) → AreFunctions image unit list functions → All (IsShallow image unit) list
  all-shallow list functions d are =
      All-from_get_or (IsShallow image unit) list [] (λ i below. (are.each i (get_or list i []) d (slice_get-get_or list i [] below)).shallow)

  pub first-depth-error : (list : List (List ℕ)) (i : ℕ) (name : List ℕ) (entry : ℕ) (error : Refusal PairFault) → slice_get list i ≡ Some name
      → function_named image name ≡ One entry → All (IsShallow image unit) (take i list) → IsDepthErrorAt image unit name entry i error → IsFirstDepthError image unit list error
  first-depth-error list i name entry (refusal.Fault (Refused kind Nothing)) there is earlier h = absurd h
  first-depth-error list i name entry (refusal.Fault (Refused kind (Listed index))) there is earlier h = (
    name,
    subst (λ m. slice_get list m ≡ Some name) (sym h.0) there,
    record { prefix = take i list; rest = drop (i + 1) list; split = split-at list i name there; earlier = earlier; entry = entry; entry_is = is; fault = h.1 },
  )
  first-depth-error list i name entry (refusal.Fault (Refused kind (Declared number))) there is earlier h = absurd h
  first-depth-error list i name entry (refusal.Fault (Code fault at)) there is earlier h = absurd h
  first-depth-error list i name entry (refusal.Fault Nodes) there is earlier h = absurd h
  first-depth-error list i name entry refusal.NoMemory there is earlier h = tt
