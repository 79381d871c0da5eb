-- There is a start for each call of a function with a body.
use Rattle.std.specs.Prelude.{ℕ, ◌^◌, ◌<◌, ℤ, List, [], ◌∷◌, IsTrue, Contains}
use Rattle.memory_spec.specs.Memory.{Memory, byte_at}
use Rattle.memory_spec.specs.Zones.{Zone}
use Rattle.term_core_spec.specs.Value.{Assignment}
use Rattle.c_types_spec.specs.declared.Scalar.{Scalar}
use Rattle.c_types_spec.specs.Values.{is_of}
use Rattle.c_types_spec.specs.Core.{Body, Typed}
use Rattle.c_types_spec.specs.HasType.{IsTypedUnit}
use Rattle.c_run_spec.specs.Calls.{locals_at_entry}
use Rattle.c_graph_laws.specs.Together.{Alike}

-- as many values as types, each of its type
abbrev pub ValuesOf : List Scalar → List ℤ → Type 0
ValuesOf [] [] = Unit {0}
ValuesOf (type ∷ types) (value ∷ values) = IsTrue (is_of type value) × ValuesOf types values
ValuesOf types values = ⊥

-- whatever values of the parameters' types, memory and zone
abbrev pub StartsExist : Type 0
StartsExist = (unit : Typed) (body : Body) → IsTypedUnit unit → Contains unit.bodies body → (arguments : List ℤ) → ValuesOf body.signature.parameters arguments
    → (bytes : Memory) → ((address : ℕ) → byte_at bytes address < 2 ^ 8) → (zone : Zone) → zone.low < 2 ^ 32 → zone.high < 2 ^ 32
    → (values : Assignment) × Alike body.locals (locals_at_entry body.locals arguments) bytes zone values
