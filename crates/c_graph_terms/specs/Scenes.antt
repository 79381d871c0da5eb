-- What an expression is evaluated in.
use Rattle.std.specs.Prelude.{◌≡◌, ℕ, ◌<◌, List, ◌++◌, length, map, Result, IfOk}
use Rattle.term_core_spec.specs.Term.{Term}
use Rattle.term_bank.specs.Nodes.{tree_at}
use Rattle.memory_spec.specs.Runs.{Run}
use Rattle.memory_spec.specs.Viewed.{runs_of}
use Rattle.c_types_spec.specs.declared.Scalar.{Scalar}
use Rattle.c_types_spec.specs.Core.{Core}
use Rattle.c_graph_spec.specs.Values as spec
use Rattle.c_graph_spec.specs.Values.{Globals, terms, stored}
use Rattle.c_graph_spec.specs.Guards as guards
use Rattle.c_graph_spec.specs.Guards.{tests, under, write_tests}
use Rattle.c_run_value.specs.Settings.{address_in}
use Rattle.c_run_value.specs.declared.setting.Place.{Place}
use Rattle.c_graph_terms.specs.declared.values.ValueIds.{ValueIds}
use Rattle.c_graph_terms.specs.declared.values.Operands.{Operands}
use Rattle.c_graph_terms.specs.declared.values.Object.{Object}
use Rattle.c_graph_terms.specs.declared.values.Scene.{Scene}
use Rattle.c_graph_terms.specs.Built.{IsGrown}
use Rattle.c_graph_terms.specs.Accesses.{Stores}
use Rattle.c_graph_terms.specs.Tests.{Evaluates, AreEvaluated}

-- where globals and fixed bytes are
abbrev pub place_of : Place → guards.Place
place_of place = record { globals = address_in place.globals.now; runs = runs_of place.fixed.now }

abbrev pub globals_of : Scene → Globals
globals_of scene = address_in scene.globals.now

abbrev pub object_at : List Term → Object → spec.Object
object_at trees x = spec.object (tree_at trees x.base) x.displacement

-- the bank has grown, and has an object's term at its id
pub record IsObject (old new : List Term) (x : Object) (object : spec.Object) : Type 0 where
  pub is_grown : IsGrown old new
  pub within : x.base < length new
  pub is : object_at new x ≡ object

abbrev pub BuildsObject : {E : Type 0} → (old new : List Term) → Result Object E → spec.Object → Type 0
BuildsObject old new result object = IfOk result (λ x. IsObject old new x object)

-- the terms of an expression, and the tests of its guards
abbrev pub EvaluatesTo : {E : Type 0} → Scene → (old new : List Term) → (before after : List ℕ) → Result ValueIds E → Core → Type 0
EvaluatesTo scene old new before after result core =
    Evaluates old new before after result (terms (globals_of scene) (object_at old scene.target) core)
    (tests (globals_of scene) (object_at old scene.target) core)

-- an expression that is evaluated only where a condition holds
abbrev pub EvaluatesUnder : {E : Type 0} → Scene → (old new : List Term) → (before after : List ℕ) → Result ValueIds E → (condition : Term) → Core → Type 0
EvaluatesUnder scene old new before after result condition core =
    Evaluates old new before after result (terms (globals_of scene) (object_at old scene.target) core)
    (map (under condition) (tests (globals_of scene) (object_at old scene.target) core))

-- two expressions, one after the other
abbrev pub EvaluatesBoth : {E : Type 0} → Scene → (old new : List Term) → (before after : List ℕ) → Result Operands E → (first second : Core) → Type 0
EvaluatesBoth scene old new before after result first second =
    IfOk result (λ ids. AreEvaluated old new before after ids
    (terms (globals_of scene) (object_at old scene.target) first) (terms (globals_of scene) (object_at old scene.target) second)
    (tests (globals_of scene) (object_at old scene.target) first ++ tests (globals_of scene) (object_at old scene.target) second))

-- ---- assignments to objects

-- the object that an assignment stores to
abbrev pub target_of : Globals → (target : spec.Object) → (address : Core) → (displacement : ℕ) → spec.Object
target_of globals target address displacement = spec.object (terms globals target address).word displacement

abbrev pub stored_term : Globals → (target : spec.Object) → Scalar → (address : Core) → (displacement : ℕ) → (value : Core) → Term
stored_term globals target type address displacement value =
    stored type (target_of globals target address displacement) (terms globals (target_of globals target address displacement) value).word

abbrev pub stored_tests : Globals → (target : spec.Object) → List Run → Scalar → (address : Core) → (displacement : ℕ) → (value : Core) → List Term
stored_tests globals target runs type address displacement value =
    tests globals target address
    ++ (tests globals (target_of globals target address displacement) value
    ++ write_tests runs type (target_of globals target address displacement))

abbrev pub StoresTo : {E : Type 0} → Scene → (old new : List Term) → (before after : List ℕ) → Result ℕ E → List Run → Scalar → (address : Core) → (displacement : ℕ) → (value : Core) → Type 0
StoresTo scene old new before after result runs type address displacement value =
    Stores old new before after result
    (stored_term (globals_of scene) (object_at old scene.target) type address displacement value)
    (stored_tests (globals_of scene) (object_at old scene.target) runs type address displacement value)
