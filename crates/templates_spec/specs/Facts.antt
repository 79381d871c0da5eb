-- What is known of a function at a point.
use Rattle.std.specs.Prelude.{◌≡◌, ℕ, ◌+◌, ◌==◌, ◌&&◌, ◌||◌, Bool, if◌then◌else◌, ℤ, List, [], ◌∷◌, ◌++◌, flat_map, sum_by, Option, Some, None}
use Rattle.std.specs.List.{list_any}
use Rattle.rv_instr.specs.declared.Instr.{Instr}
use Rattle.rv_instr.specs.declared.Instr.TheVariants.{Store}
use Rattle.rv_instr.specs.declared.StoreKind.TheVariants as store
use Rattle.elf_read_spec.specs.Image.{Image}
use Rattle.code_reach_spec.specs.Code.{instr_at, opening_of, AreReachable}
use Rattle.c_types_spec.specs.Core.{Core, ReadLocal, Load, Convert, Operate, Compare, Move, Within, Aligned, Choose, Action, Sequence, If, Loop, Switch, Groups, no_groups, groups}

-- ---- the stack

-- of a function of the code: by how much it lowers the stack pointer, and at which offsets from this or from the frame
-- pointer it saves words
pub record Opened : Type 0 where
  pub opening : ℕ
  pub saved : List ℤ

-- `sw r, offset(x2)` and `sw r, offset(x8)`
abbrev pub saved_by : Option Instr → List ℤ
saved_by (Some (Store store.Word base source offset)) = if (base == 2) || (base == 8) then offset ∷ [] else []
saved_by other = []

-- the reachable instructions of the function at an entry, in order
pub record IsOpened (image : Image) (entry size : ℕ) (o : Opened) : Type 0 where
  pub places : List ℕ
  pub reachable : AreReachable image entry size places
  pub opening : o.opening ≡ sum_by (λ address. opening_of (instr_at image address)) places
  pub saved : o.saved ≡ flat_map (λ address. saved_by (instr_at image address)) places

unfoldable pub sums_from : (depth : ℕ) → List Opened → List ℕ
sums_from depth [] = []
sums_from depth (o ∷ functions) = (depth + o.opening) ∷ sums_from (depth + o.opening) functions

-- with the functions on a point's path, outermost first
abbrev pub depths_of : List Opened → List ℕ
depths_of functions = 0 ∷ sums_from 0 functions

abbrev pub saved_of : List Opened → List ℤ
saved_of functions = flat_map (λ (o : Opened). o.saved) functions

-- ---- the tests of loops

-- the local whose value, converted or not, an expression is
unfoldable pub local_of : Core → Option ℕ
local_of (ReadLocal type local offset) = Some local
local_of (Convert type operand) = local_of operand
local_of other = None

abbrev pub both_locals : Option ℕ → Option ℕ → List (ℕ × ℕ)
both_locals (Some i) (Some n) = (i, n) ∷ []
both_locals left right = []

-- the locals that are compared in an expression, from left to right
unfoldable pub compared_in : Core → List (ℕ × ℕ)
compared_in (Compare operator left right) = both_locals (local_of left) (local_of right) ++ (compared_in left ++ compared_in right)
compared_in (Load type address displacement offset) = compared_in address
compared_in (Convert type operand) = compared_in operand
compared_in (Operate operator type left right offset) = compared_in left ++ compared_in right
compared_in (Move direction order size pointer index offset) = compared_in pointer ++ compared_in index
compared_in (Within bound index offset) = compared_in index
compared_in (Aligned alignment pointer offset) = compared_in pointer
compared_in (Choose type test first second) = compared_in test ++ (compared_in first ++ compared_in second)
compared_in other = []

-- the tests of the loops of a body, in its order
unfoldable mutual
  pub tests_of : Action → List Core
  tests_of (Sequence first second) = tests_of first ++ tests_of second
  tests_of (If test first second) = tests_of first ++ tests_of second
  tests_of (Loop number place test step body) = test ∷ (tests_of step ++ tests_of body)
  tests_of (Switch test list) = tests_in list
  tests_of other = []

  pub tests_in : Groups → List Core
  tests_in no_groups = []
  tests_in (groups values body rest) = tests_of body ++ tests_in rest

abbrev pub is_pair : ℕ × ℕ → ℕ × ℕ → Bool
is_pair p q = (p.0 == q.0) && (p.1 == q.1)

-- pairs of locals, each where it is first
unfoldable pub pairs_once : (seen : List (ℕ × ℕ)) → List (ℕ × ℕ) → List (ℕ × ℕ)
pairs_once seen [] = []
pairs_once seen (p ∷ pairs) = if list_any (is_pair p) seen then pairs_once seen pairs else p ∷ pairs_once (p ∷ seen) pairs

-- those that the tests of a body's loops compare
abbrev pub compared_of : Action → List (ℕ × ℕ)
compared_of body = pairs_once [] (flat_map compared_in (tests_of body))
