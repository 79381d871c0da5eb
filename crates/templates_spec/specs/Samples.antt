-- What is known of small functions at a point.
use Rattle.std.specs.Prelude.{ℕ, false, pos, [], ◌∷◌}
use Rattle.term_core_spec.specs.declared.Family.TheVariants.{Parameter}
use Rattle.c_types_spec.specs.declared.Scalar.{Scalar}
use Rattle.c_types_spec.specs.declared.Comparison.TheVariants as comparison
use Rattle.c_types_spec.specs.declared.TestPlace.TheVariants.{Before}
use Rattle.c_types_spec.specs.Types.{int, unsigned_int, scalar}
use Rattle.c_types_spec.specs.Core.{Constant, ReadLocal, Convert, Compare, Action, Skip, Loop}
use Rattle.c_graph_spec.specs.State.{local, sort_of_scalar}
use Rattle.templates_spec.specs.Templates.{Value, Facts}

abbrev pub unsigned_local : ℕ → Value
unsigned_local n = record { variable = local n unsigned_int; type = unsigned_int }

abbrev pub byte_type : Scalar
byte_type = scalar false 8

abbrev pub byte_local : ℕ → Value
byte_local n = record { variable = local n byte_type; type = byte_type }

abbrev pub long_type : Scalar
long_type = scalar false 64

abbrev pub long_local : ℕ → Value
long_local n = record { variable = local n long_type; type = long_type }

abbrev pub parameter : Value
parameter = record { variable = record { family = Parameter; index = 0; instance = 0; sort = sort_of_scalar unsigned_int }; type = unsigned_int }

-- nothing but the stack pointer: no stack, and nothing that is known at entry
abbrev pub bare : Facts
bare = record { depths = 0 ∷ []; saved = []; stack = 0; entries = []; parameters = []; globals = []; locals = []; compared = [] }

-- a function that saves x1 in 16 bytes of stack, and another word above these
abbrev pub saving : Facts
saving = record bare { depths = 0 ∷ 16 ∷ []; saved = pos 12 ∷ pos 20 ∷ []; stack = 16; entries = 1 ∷ [] }

-- a loop over an array of words: `for (i = 0; i < n; i++)` with the local 0 for i and 1 for n
abbrev pub counting : Facts
counting = record bare {
  parameters = parameter ∷ [];
  locals = unsigned_local 0 ∷ [];
  compared = (unsigned_local 0, unsigned_local 1) ∷ [];
}

-- a byte and a word of 64 bits, which are compared
abbrev pub wide : Facts
wide = record bare { locals = byte_local 0 ∷ long_local 1 ∷ []; compared = (byte_local 0, long_local 1) ∷ [] }

-- the body of `while (i < n) while (i != 3) ;`, whose locals are unsigned
abbrev pub loops : Action
loops =
    Loop 0 Before (Compare comparison.Less (ReadLocal unsigned_int 0 7) (ReadLocal unsigned_int 1 9)) Skip
    (Loop 1 Before (Compare comparison.NotEqual (ReadLocal unsigned_int 0 20) (Convert unsigned_int (Constant int (pos 3)))) Skip Skip)
