-- What it means that the graphs of a unit run as its C functions do.
use Rattle.std.specs.Prelude.{◌≡◌, ℕ, ◌+◌, ◌^◌, ◌<◌, ◌≤◌, ℤ, true, false, is_some, IsSome, List, [], All, length, Option, Some, None, slice_get}
use Rattle.memory_spec.specs.Memory.{Memory, byte_at}
use Rattle.memory_spec.specs.Zones.{Zone}
use Rattle.memory_spec.specs.Runs.{Run, fixed_byte}
use Rattle.term_core_spec.specs.declared.Variable.{Variable}
use Rattle.term_core_spec.specs.declared.Width.TheVariants.{W32}
use Rattle.term_core_spec.specs.Value.{Truth, Number, Bytes, Assignment, IsAssignment}
use Rattle.graph_core_spec.specs.Run.{Waiting, State, Running, Returned, Failed, system_of}
use Rattle.graph_core_spec.specs.TransitionSystem.{after}
use Rattle.c_types_spec.specs.declared.Scalar.{Scalar}
use Rattle.c_types_spec.specs.Values.{of_bits}
use Rattle.c_types_spec.specs.Core.{Body, Typed}
use Rattle.c_types_spec.specs.HasType.{IsTypedUnit}
use Rattle.c_run_spec.specs.declared.Guard.{Guard}
use Rattle.c_run_spec.specs.Setting.{Setting}
use Rattle.c_run_spec.specs.Evaluation.{Locals}
use Rattle.c_run_spec.specs.Calls.{More, Broke, Back, locals_at_entry, body_named, c_run}
use Rattle.pair_setup_spec.specs.SourceReach.{Reaches}
use Rattle.c_graph_spec.specs.State.{width_of, local, is_set, memory, zone_low, zone_high, result}
use Rattle.c_graph_spec.specs.Sizes.{UnitSizes}
use Rattle.c_graph_spec.specs.Guards.{Place}
use Rattle.c_graph_spec.specs.SourceGraph.{body_number, graphs_of}

-- ---- values

-- the variable has the bits of a value of the type
pub record HasValue (s : Assignment) (x : Variable) (type : Scalar) (value : ℤ) : Type 0 where
  pub bits : ℕ
  pub below : bits < 2 ^ type.width
  pub word : s x ≡ Number (width_of type) bits
  pub value_is : value ≡ of_bits type bits

-- the variables of a local have its value, or none
pub data HasLocal (s : Assignment) (number : ℕ) (type : Scalar) : Option ℤ → Type 0 where
  unset : s (is_set number) ≡ Truth false → HasLocal s number type None
  set : (value : ℤ) → s (is_set number) ≡ Truth true → HasValue s (local number type) type value → HasLocal s number type (Some value)

-- the variables of a function's locals, of the memory and of the zone have what a C run has
pub record Alike (types : List Scalar) (locals : Locals) (bytes : Memory) (zone : Zone) (s : Assignment) : Type 0 where
  pub sorted : IsAssignment s
  pub local_is : (number : ℕ) (type : Scalar) (value : Option ℤ) → slice_get types number ≡ Some type → slice_get locals number ≡ Some value → HasLocal s number type value
  pub local_there : (number : ℕ) (type : Scalar) → slice_get types number ≡ Some type → (value : Option ℤ) × (slice_get locals number ≡ Some value)
  pub memory_is : s memory ≡ Bytes (byte_at bytes)
  pub low_is : s zone_low ≡ Number W32 zone.low
  pub high_is : s zone_high ≡ Number W32 zone.high

-- what a function gives back: a value where its type has one
pub data Gives (s : Assignment) : (type : Option Scalar) → Option ℤ → Type 0 where
  gives_none : Gives s None None
  gives_some : (type : Scalar) (value : ℤ) → HasValue s (result type) type value → Gives s (Some type) (Some value)

-- ---- where a run takes place

-- globals have addresses of 32 bits, and so have fixed bytes; each run has some
pub record IsPlace (p : Place) : Type 0 where
  pub global : (name : List ℕ) (address : ℕ) → p.globals name ≡ Some address → address < 2 ^ 32
  pub run : All (λ (r : Run). (0 < length r.bytes) × (r.start + length r.bytes ≤ 2 ^ 32)) p.runs

abbrev pub setting_at : Typed → Place → Zone → Setting
setting_at unit where_it_is zone = record {
  bodies = unit.bodies;
  globals = where_it_is.globals;
  barred = zone;
  is_fixed = λ address. is_some (fixed_byte where_it_is.runs address);
}

-- ---- runs

-- the state of the graphs' run after so many steps, from the entry of a function's graph on
abbrev pub run : Typed → Place → (name : List ℕ) → Assignment → ℕ → State
run unit where_it_is name values k =
    after (system_of (graphs_of unit where_it_is) (body_number name unit.bodies)) k
    (Running (body_number name unit.bodies) 0 values [])

-- a call of a function with a body, of a typed unit, all of whose reached functions have bodies
pub record IsStart (unit : Typed) (where_it_is : Place) (zone : Zone) (name : List ℕ) (body : Body) (arguments : List ℤ) (bytes : Memory) (values : Assignment) : Type 0 where
  pub typed : IsTypedUnit unit
  pub sizes : UnitSizes unit
  pub placed : IsPlace where_it_is
  pub body_is : body_named unit.bodies name ≡ Some body
  pub bodies : (other : List ℕ) → Reaches unit name other → IsSome (body_named unit.bodies other)
  pub alike : Alike body.locals (locals_at_entry body.locals arguments) bytes zone values

-- the run has neither returned nor failed
pub data IsRunning : State → Type 0 where
  running : (graph node : ℕ) (values : Assignment) (below : List Waiting) → IsRunning (Running graph node values below)

-- what both sides give back
pub record ReturnsAlike (body : Body) (value : Option ℤ) (bytes : Memory) (final : Assignment) : Type 0 where
  pub value_is : Gives final body.signature.result value
  pub memory_is : final memory ≡ Bytes (byte_at bytes)

-- the C run breaks a guard exactly if the graphs' run fails, returns exactly if it returns, with the same result and
-- memory, and is endless exactly if it is
pub record RunTogether (unit : Typed) (where_it_is : Place) (zone : Zone) (name : List ℕ) (body : Body) (arguments : List ℤ) (bytes : Memory) (values : Assignment) : Type 0 where
  pub breaks : (n : ℕ) (guard : Guard) (offset : ℕ) → c_run (setting_at unit where_it_is zone) name arguments bytes n ≡ Broke guard offset
      → (k : ℕ) × (run unit where_it_is name values k ≡ Failed)
  pub fails : (k : ℕ) → run unit where_it_is name values k ≡ Failed
      → (n : ℕ) × (guard : Guard) × (offset : ℕ) × (c_run (setting_at unit where_it_is zone) name arguments bytes n ≡ Broke guard offset)
  pub gives_back : (n : ℕ) (value : Option ℤ) (after_it : Memory) → c_run (setting_at unit where_it_is zone) name arguments bytes n ≡ Back value after_it
      → (k : ℕ) × (final : Assignment) × (run unit where_it_is name values k ≡ Returned final) × ReturnsAlike body value after_it final
  pub returns : (k : ℕ) (final : Assignment) → run unit where_it_is name values k ≡ Returned final
      → (n : ℕ) × (value : Option ℤ) × (after_it : Memory) × (c_run (setting_at unit where_it_is zone) name arguments bytes n ≡ Back value after_it)
      × ReturnsAlike body value after_it final
  pub goes_on : ((n : ℕ) → c_run (setting_at unit where_it_is zone) name arguments bytes n ≡ More) → (k : ℕ) → IsRunning (run unit where_it_is name values k)
  pub runs_on : ((k : ℕ) → IsRunning (run unit where_it_is name values k)) → (n : ℕ) → c_run (setting_at unit where_it_is zone) name arguments bytes n ≡ More

-- from every such start
abbrev pub RunsTogether : Type 0
RunsTogether = (unit : Typed) (where_it_is : Place) (zone : Zone) (name : List ℕ) (body : Body) (arguments : List ℤ) (bytes : Memory) (values : Assignment)
    → IsStart unit where_it_is zone name body arguments bytes values → RunTogether unit where_it_is zone name body arguments bytes values
