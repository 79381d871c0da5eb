-- Calls: the callee's graph runs as the callee does, and the caller goes on.
use Rattle.std.proofs.Common.{◌≡◌, ◌∙◌, ℕ, ◌+◌, ◌≤◌, min, ℤ, refl, sym, ap, subst, List, [], Option, Some, None, option_map}
use Rattle.std.specs.Prelude.{slice_get, slice_set}
use Rattle.std.specs.Option.{option_map_or}
use Rattle.std.proofs.lemmas.List.Elements.{All-nil}
use Rattle.memory_spec.specs.Memory.{Memory}
use Rattle.memory_spec.specs.Zones.{Zone}
use Rattle.term_core_spec.specs.declared.Sort.TheVariants as sort
use Rattle.term_core_spec.specs.Term.{open_term}
use Rattle.term_core_spec.specs.Sort.{sort_of, sort_of_atom}
use Rattle.term_core_spec.specs.Value.{Number, Assignment, value}
use Rattle.graph_core_spec.specs.Graph.{Graphs, IsBinding, Binding}
use Rattle.graph_core_spec.specs.Run.{Waiting, State, Failed, leave, bound, resumed, system_of}
use Rattle.graph_core_spec.proofs.Sorts.{resumed_sorted}
use Rattle.graph_core_spec.specs.TransitionSystem.{after}
use Rattle.c_token_spec.specs.Words.{entry_of}
use Rattle.c_types_spec.specs.declared.Scalar.{Scalar}
use Rattle.c_types_spec.specs.Types.{int}
use Rattle.c_types_spec.specs.Values.{bits_of, of_bits, converted}
use Rattle.c_types_spec.specs.Core.{FunctionType, Body, Typed}
use Rattle.c_run_spec.specs.declared.Guard.{Guard}
use Rattle.c_run_spec.specs.Execution as c
use Rattle.c_run_spec.specs.Execution.{Flow, More, Broke, Went, Jumped, Gave, Called, Unfinished, Returned, Calls, does, received, as_local, after_call, on_ok}
use Rattle.c_run_spec.specs.Evaluation.{Locals}
use Rattle.c_graph_spec.specs.State.{width_of, result}
use Rattle.c_graph_spec.specs.Values.{at_width}
use Rattle.c_graph_spec.specs.Guards.{Place}
use Rattle.c_graph_laws.proofs.Extents.{IsPlain}
use Rattle.c_graph_spec.specs.Layout.{Setting, set_local, outputs, result_put}
use Rattle.c_graph_spec.specs.SourceGraph.{void_function, setting_of}
use Rattle.c_graph_laws.specs.Together.{HasValue, Alike, Gives, gives_none, gives_some, IsRunning}
use Rattle.c_graph_laws.proofs.Changes.{alike_set, local_kept}
use Rattle.c_graph_laws.proofs.Flows.{Left}
use Rattle.c_graph_laws.proofs.Bits.{bits_below, bits_resized}
use Rattle.c_graph_laws.proofs.Divisions.{at_width_is}
use Rattle.c_graph_laws.proofs.Sorted.{at_width_sorted}

converted_bits : (t : Scalar) (x : ℤ) → converted t x ≡ of_bits t (bits_of t.width x)
unfolding converted
converted_bits t x = refl

absurd_gives : (s : Assignment) (o : Option Scalar) (v : Option ℤ) (r : Scalar) → o ≡ Some r → v ≡ None → Gives s o v → ⊥
absurd_gives s _ _ r e d gives_none = cc
absurd_gives s _ _ r e d (gives_some type x has) = cc

value_given : (s : Assignment) (o : Option Scalar) (v : Option ℤ) (r : Scalar) (x : ℤ) → o ≡ Some r → v ≡ Some x → Gives s o v → HasValue s (result r) r x
value_given s _ _ r x e d gives_none = absurd (cc)
value_given s _ _ r x e d (gives_some type y has) =
    let t : type ≡ r = cc in
    let u : y ≡ x = cc in
    subst (λ (q : Scalar). HasValue s (result q) q x) t (subst (λ (z : ℤ). HasValue s (result type) type z) u has)

-- ---- how a callee ends

module _ (graphs : Graphs) (outermost : ℕ) (below : List Waiting) (type : Option Scalar) (zone : Zone) where
  pub data Ends (d n : ℕ) (x : State) : Called → Type 0 where
    unfinished : (k : ℕ) → min d n ≤ k → IsRunning (after (system_of graphs outermost) k x) → Ends d n x Unfinished
    breaks_off : (guard : Guard) (offset k : ℕ) → after (system_of graphs outermost) k x ≡ Failed → Ends d n x (c.Failed guard offset)
    returned : (v : Option ℤ) (bytes : Memory) (left k : ℕ) (s : Assignment) → n ≤ k + left → Left type v bytes zone s → after (system_of graphs outermost) k x ≡ leave s below
        → Ends d n x (Returned v bytes left)

-- ---- the caller goes on

module _ (unit : Typed) (p : Place) (zone : Zone) (body : Body) (locals : Locals) (old bytes : Memory) (s callee_s : Assignment) (alike : Alike body.locals locals old zone s) where
  abbrev f : Setting
  f = setting_of unit p body

  -- nothing is taken from the callee
  pub alike_on : (type : Option Scalar) (v : Option ℤ) → Left type v bytes zone callee_s → Alike body.locals locals bytes zone (resumed [] callee_s s)
  unfolding bound
  alike_on type v left = record {
    sorted = resumed_sorted [] callee_s s (All-nil IsBinding) left.sorted alike.sorted;
    local_is = λ number t w et ew. local_kept s (resumed [] callee_s s) number t w refl refl (alike.local_is number t w et ew);
    local_there = alike.local_there;
    memory_is = left.memory_is;
    low_is = left.low_is;
    high_is = left.high_is;
  }

  outputs_are : (function : List ℕ) (type : FunctionType) (number : ℕ) (given r : Scalar) → entry_of unit.functions function ≡ Some type → type.result ≡ Some r → slice_get body.locals number ≡ Some given
      → outputs f function (Some number) ≡ set_local number given (at_width r (width_of given) (open_term (result r)))
  outputs_are function type number given r named is there =
      ap (λ (o : Option FunctionType). result_put (Some number) f.local_type (option_map_or (λ (type : FunctionType). type) o void_function).result) named
      ∙ ap (λ (o : Option Scalar). result_put (Some number) f.local_type o) is
      ∙ ap (λ (o : Option Scalar). set_local number (option_map_or (λ (t : Scalar). t) o int) (at_width r (width_of (option_map_or (λ (t : Scalar). t) o int)) (open_term (result r)))) there

  result_sorted : (r : Scalar) → sort_of (open_term (result r)) ≡ Some (sort.Word (width_of r))
  unfolding sort_of sort_of_atom
  result_sorted r = refl

  result_value : (r : Scalar) (x : ℤ) (has : HasValue callee_s (result r) r x) → value callee_s (open_term (result r)) ≡ Number (width_of r) has.bits
  unfolding value
  result_value r x has = has.word

  pub alike_result : (function : List ℕ) (type : FunctionType) (number : ℕ) (given r : Scalar) → entry_of unit.functions function ≡ Some type → type.result ≡ Some r → slice_get body.locals number ≡ Some given
      → IsPlain r → IsPlain given → (v : Option ℤ) → Left (Some r) v bytes zone callee_s → Alike body.locals (received body.locals locals (Some number) v) bytes zone (resumed (outputs f function (Some number)) callee_s s)
  unfolding bound
  alike_result function type number given r named is there plain_r plain_given v left = at v left left.gives
    where
      at : (v : Option ℤ) → Left (Some r) v bytes zone callee_s → Gives callee_s (Some r) v
          → Alike body.locals (received body.locals locals (Some number) v) bytes zone (resumed (outputs f function (Some number)) callee_s s)
      at (Some x) left gives = some x left (value_given callee_s (Some r) (Some x) r x refl refl gives)
        where
          some : (x : ℤ) → Left (Some r) (Some x) bytes zone callee_s → HasValue callee_s (result r) r x
              → Alike body.locals (received body.locals locals (Some number) (Some x)) bytes zone (resumed (outputs f function (Some number)) callee_s s)
          some x left has =
              subst (λ (o : List Binding). Alike body.locals (slice_set locals number (as_local body.locals number (Some x))) bytes zone (resumed o callee_s s)) (sym (outputs_are function type number given r named is there))
              (subst (λ (o : Option Scalar). Alike body.locals (slice_set locals number (option_map (λ (t : Scalar). converted t x) o)) bytes zone
              (resumed (set_local number given (at_width r (width_of given) (open_term (result r)))) callee_s s)) (sym there)
              (alike_set body.locals locals bytes zone (resumed [] callee_s s) (alike_on (Some r) (Some x) left) callee_s left.sorted number given (at_width r (width_of given) (open_term (result r)))
              (converted given x) (bits_of given.width x) there (at_width_sorted r given plain_r plain_given (open_term (result r)) (result_sorted r)) (bits_below given.width x)
              (at_width_is callee_s r given plain_r plain_given (open_term (result r)) has.bits (result_value r x has)
              ∙ ap (Number (width_of given)) (sym (ap (bits_of given.width) has.value_is ∙ bits_resized r given plain_r plain_given has.bits has.below)))
              (converted_bits given x)))
      at None left gives = absurd (absurd_gives callee_s (Some r) None r refl refl gives)
