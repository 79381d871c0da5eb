-- A start for each call: that of a callee whose arguments are constants.
use Rattle.std.proofs.Common.{◌≡◌, ℕ, ◌+◌, ◌<◌, ◌≤◌, ◌^◌, length, Bool, true, false, if◌then◌else◌, ℤ, refl, sym, subst, arith, List, [], ◌∷◌, ◌++◌, All, Contains, None}
use Rattle.std.specs.Prelude.{IsTrue}
use Rattle.std.proofs.lemmas.List.Elements.{All-nil, All-cons, All-head, All-tail, All-contains}
use Rattle.memory_spec.specs.Memory.{Memory, byte_at}
use Rattle.memory_spec.specs.Zones.{Zone}
use Rattle.memory_spec.specs.Runs.{Run}
use Rattle.term_core_spec.specs.declared.Width.{Width}
use Rattle.term_core_spec.specs.declared.Width.TheVariants.{W32}
use Rattle.term_core_spec.specs.Sort.{bits}
use Rattle.std.proofs.lemmas.Nat.{pow_pos}
use Rattle.term_core_spec.specs.declared.Sort.{Sort}
use Rattle.term_core_spec.specs.declared.Sort.TheVariants as sort
use Rattle.term_core_spec.specs.declared.Variable.{Variable}
use Rattle.term_core_spec.specs.Same.{same_variable}
use Rattle.term_core_spec.proofs.Same.{variable-same}
use Rattle.term_core_spec.specs.Value.{Value, Number, Bytes, Assignment, IsAssignment, IsOfSort}
use Rattle.graph_core_spec.specs.Run.{unset, entered}
use Rattle.c_types_spec.specs.declared.Scalar.{Scalar}
use Rattle.c_types_spec.specs.Values.{bits_of}
use Rattle.c_types_spec.specs.Core.{Core, Constant, Skip, Body, Typed}
use Rattle.c_types_spec.specs.HasType.{IsTypedUnit, IsTypedBody, is_narrow}
use Rattle.c_run_spec.specs.Calls.{locals_at_entry}
use Rattle.c_graph_spec.specs.State.{width_of, memory, zone_low, zone_high}
use Rattle.c_graph_spec.specs.Values.{terms}
use Rattle.c_graph_spec.specs.Guards.{Place}
use Rattle.c_graph_spec.specs.Layout.{inputs}
use Rattle.c_graph_spec.specs.SourceGraph.{setting_of}
use Rattle.c_graph_laws.specs.Together.{Alike, IsPlace}
use Rattle.c_graph_laws.specs.Starts.{ValuesOf}
use Rattle.c_graph_laws.proofs.Extents.{plain_from}
use Rattle.c_graph_laws.proofs.Bits.{bits_below, value_back}
use Rattle.c_graph_laws.proofs.Evaluates.{constant_is}
use Rattle.c_graph_laws.proofs.ExpressionSorts.{constant_value_sorted}
use Rattle.c_graph_laws.proofs.Entering.{Passed, alike_entered}

no_place : Place
no_place = record { globals = λ name. None; runs = [] }

no_body : Body
no_body = record { name = []; signature = record { parameters = []; result = None }; locals = []; loops = 0; calls = 0; mentions = []; action = Skip }

some_word : (w : Width) → 0 < 2 ^ bits w
some_word w = pow_pos (bits w)

unset_value : (t : Sort) → IsOfSort t (unset t)
unset_value sort.Truth = tt
unset_value (sort.Word w) = (refl, some_word w)
unset_value sort.Memory = λ address. omega arith

module _ (bytes : Memory) (ranged : (q : ℕ) → byte_at bytes q < 2 ^ 8) (zone : Zone) (low : zone.low < 2 ^ 32) (high : zone.high < 2 ^ 32) where
  base : Assignment
  base v =
      if same_variable v memory then Bytes (byte_at bytes)
      else if same_variable v zone_low then Number W32 zone.low
      else if same_variable v zone_high then Number W32 zone.high
      else unset v.sort

  picked : (v x : Variable) (a b : Value) → IsOfSort x.sort a → IsOfSort v.sort b → (t : Bool) → same_variable v x ≡ t → IsOfSort v.sort (if t then a else b)
  picked v x a b is other true e = subst (λ (y : Variable). IsOfSort y.sort a) (sym (variable-same v x e)) is
  picked v x a b is other false e = other

  base_sorted : IsAssignment base
  unfolding base
  base_sorted v =
      picked v memory (Bytes (byte_at bytes)) _ ranged
      (picked v zone_low (Number W32 zone.low) _ (refl, low) (picked v zone_high (Number W32 zone.high) _ (refl, high) (unset_value v.sort) (same_variable v zone_high) refl) (same_variable v zone_low) refl)
      (same_variable v memory) refl

  base_alike : Alike [] [] bytes zone base
  unfolding base
  base_alike = record {
    sorted = base_sorted;
    local_is = λ number t v e d. absurd (cc);
    local_there = λ number t e. absurd (cc);
    memory_is = refl;
    low_is = refl;
    high_is = refl;
  }

  constants : List Scalar → List ℤ → List Core
  constants [] vs = []
  constants (t ∷ types) [] = []
  constants (t ∷ types) (v ∷ vs) = Constant t v ∷ constants types vs

  place_is : IsPlace no_place
  unfolding no_place
  place_is = record { global = λ name address e. absurd (cc); run = All-nil (λ (r : Run). (0 < length r.bytes) × (r.start + length r.bytes ≤ 2 ^ 32)) }

  start_alike : (unit : Typed) → Alike no_body.locals [] bytes zone base
  unfolding no_body
  start_alike unit = base_alike

  passed : (unit : Typed) (types : List Scalar) (vs : List ℤ) → All (λ (t : Scalar). IsTrue (is_narrow t)) types → ValuesOf types vs
      → Passed unit no_place place_is zone no_body [] bytes base (start_alike unit) types (constants types vs) vs
  unfolding constants terms
  passed unit [] [] narrow are = tt
  passed unit [] (v ∷ vs) narrow are = absurd are
  passed unit (t ∷ types) [] narrow are = absurd are
  passed unit (t ∷ types) (v ∷ vs) narrow are = (
    bits_of t.width v,
    bits_below t.width v,
    value_back t v are.0,
    constant_is base (width_of t) (bits_of t.width v),
    refl,
    constant_value_sorted t (plain_from t (All-head (λ (t : Scalar). IsTrue (is_narrow t)) t types narrow)) v,
    passed unit types vs (All-tail (λ (t : Scalar). IsTrue (is_narrow t)) t types narrow) are.1,
  )

  front : (a b : List Scalar) → All (λ (t : Scalar). IsTrue (is_narrow t)) (a ++ b) → All (λ (t : Scalar). IsTrue (is_narrow t)) a
  front [] b all = All-nil (λ (t : Scalar). IsTrue (is_narrow t))
  front (t ∷ a) b all =
      All-cons (λ (t : Scalar). IsTrue (is_narrow t)) t a (All-head (λ (t : Scalar). IsTrue (is_narrow t)) t (a ++ b) all) (front a b (All-tail (λ (t : Scalar). IsTrue (is_narrow t)) t (a ++ b) all))

  pub start : (unit : Typed) (body : Body) → IsTypedUnit unit → Contains unit.bodies body → (arguments : List ℤ) → ValuesOf body.signature.parameters arguments
      → (values : Assignment) × Alike body.locals (locals_at_entry body.locals arguments) bytes zone values
  start unit body is there arguments are =
      let typed = All-contains (λ (b : Body). IsTypedBody unit b) unit.bodies body is.bodies_typed there in
      let others = typed.begun.0 in
      let params = body.signature.parameters in
      let narrow = front params others (subst (λ (l : List Scalar). All (λ (t : Scalar). IsTrue (is_narrow t)) l) typed.begun.1 typed.narrow) in
      let given = passed unit params arguments narrow are in (
        entered (inputs (setting_of unit no_place no_body) 0 (constants params arguments)) base,
        subst (λ (l : List Scalar). Alike l (locals_at_entry l arguments) bytes zone (entered (inputs (setting_of unit no_place no_body) 0 (constants params arguments)) base)) (sym typed.begun.1)
            (alike_entered unit no_place place_is zone no_body [] bytes base (start_alike unit) params others (constants params arguments) arguments given),
      )
