-- The value of an expression, or the first guard that it breaks. Operands are evaluated from left to right, where C11
-- leaves the order open (6.5p3).
use Rattle.std.specs.Prelude.{ℕ, ◌%◌, ◌==◌, ◌&&◌, Bool, not, if◌then◌else◌, ℤ, pos, ◌+ℤ◌, ◌-ℤ◌, ◌*ℤ◌, int_lt, List, [], ◌∷◌, slice_get, Option, Some, None, unwrap_or, Result, Ok, Err, ◌+◌}
use Rattle.memory_spec.specs.Memory.{Memory}
use Rattle.c_types_spec.specs.declared.Scalar.{Scalar}
use Rattle.c_types_spec.specs.declared.Arithmetic.{Arithmetic}
use Rattle.c_types_spec.specs.declared.Arithmetic.TheVariants.{Divide, Remainder, ShiftLeft, ShiftRight}
use Rattle.c_types_spec.specs.declared.Direction.{Direction}
use Rattle.c_types_spec.specs.declared.Direction.TheVariants.{Up, Down}
use Rattle.c_types_spec.specs.declared.Order.{Order}
use Rattle.c_types_spec.specs.declared.Order.TheVariants.{PointerFirst, IndexFirst}
use Rattle.c_types_spec.specs.Types.{word}
use Rattle.c_types_spec.specs.Values.{converted, same_value, is_of, arithmetic_value, comparison_value}
use Rattle.c_types_spec.specs.Core.{Core, Constant, ReadLocal, GlobalAddress, Load, Target, Convert, Operate, Compare, Move, Within, Aligned, Choose}
use Rattle.c_run_spec.specs.declared.Guard.{Guard}
use Rattle.c_run_spec.specs.declared.Guard.TheVariants.{UnsetLocal, SignedOverflow, Division, ShiftCount, Access, PointerRange, Index}
use Rattle.c_run_spec.specs.Setting.{Setting, Broken}
use Rattle.c_run_spec.specs.Accesses.{address_of, object_value}

abbrev pub Evaluated : Type 0
Evaluated = Result ℤ Broken

-- the values of the locals by their numbers, none where one is unset
abbrev pub Locals : Type 0
Locals = List (Option ℤ)

-- a part, and then what follows from its result
abbrev pub on_result : {A B : Type 0} → Result A Broken → (A → Result B Broken) → Result B Broken
on_result (Ok x) next = next x
on_result (Err broken) next = Err broken

-- a value that has to pass a test
abbrev pub tested : Bool → ℤ → Guard → (offset : ℕ) → Evaluated
tested passes value guard offset = if passes then Ok value else Err (guard, offset)

abbrev pub or_broken : Option ℤ → Guard → (offset : ℕ) → Evaluated
or_broken (Some value) guard offset = Ok value
or_broken None guard offset = Err (guard, offset)

-- 6.7.9p10, 6.3.2.1p2: a local without value is not read
unfoldable pub local_value : Option (Option ℤ) → (offset : ℕ) → Evaluated
local_value (Some (Some value)) offset = Ok value
local_value other offset = Err (UnsetLocal, offset)

-- the guard of an operator: 6.5p5; 6.5.5p5, p6; 6.5.7p3
abbrev pub guard_of : Arithmetic → Guard
guard_of Divide = Division
guard_of Remainder = Division
guard_of ShiftLeft = ShiftCount
guard_of ShiftRight = ShiftCount
guard_of other = SignedOverflow

unfoldable pub operated : Arithmetic → Scalar → (left right : ℤ) → (offset : ℕ) → Evaluated
operated operator type left right offset = or_broken (arithmetic_value operator type left right) (guard_of operator) offset

abbrev pub in_order : Order → (pointer index : Evaluated) → (ℤ → ℤ → Evaluated) → Evaluated
in_order PointerFirst pointer index next = on_result pointer (λ p. on_result index (λ i. next p i))
in_order IndexFirst pointer index next = on_result index (λ i. on_result pointer (λ p. next p i))

abbrev pub sum_of : Direction → (pointer distance : ℤ) → ℤ
sum_of Up pointer distance = pointer +ℤ distance
sum_of Down pointer distance = pointer -ℤ distance

-- 6.5.6p8. That the sum may be any address, and has to be one, is ours
unfoldable pub moved : Direction → (size : ℕ) → (pointer index : ℤ) → (offset : ℕ) → Evaluated
moved direction size pointer index offset =
    tested (is_of word (sum_of direction pointer (index *ℤ pos size))) (sum_of direction pointer (index *ℤ pos size)) PointerRange offset

-- 6.5.6p8: an element of an array; that it is one of the declared ones is ours
unfoldable pub within : (bound : ℕ) → (index : ℤ) → (offset : ℕ) → Evaluated
within bound index offset = tested (not (int_lt index (pos 0)) && int_lt index (pos bound)) index Index offset

-- 6.5.2.3p4, 6.5.3.2p4
unfoldable pub aligned : (alignment : ℕ) → (pointer : ℤ) → (offset : ℕ) → Evaluated
aligned alignment pointer offset = tested (not (address_of pointer == 0) && (address_of pointer % alignment == 0)) pointer Access offset

-- `target` is the address of the object that the assignment around the expression stores to, or 0, where no object is
unfoldable pub value : Setting → Locals → Memory → (target : ℕ) → Core → Evaluated
value setting locals memory target (Constant type v) = Ok v
value setting locals memory target (ReadLocal type local offset) = local_value (slice_get locals local) offset
value setting locals memory target (GlobalAddress name) = Ok (pos (unwrap_or (setting.globals name) 0))
value setting locals memory target (Load type address displacement offset) =
    on_result (value setting locals memory target address) (λ a. object_value setting memory type (address_of a + displacement) offset)
value setting locals memory target (Target type offset) = object_value setting memory type target offset
value setting locals memory target (Convert type operand) =
    on_result (value setting locals memory target operand) (λ v. Ok (converted type v))
value setting locals memory target (Operate operator type left right offset) =
    on_result (value setting locals memory target left) (λ a. on_result (value setting locals memory target right) (λ b. operated operator type a b offset))
value setting locals memory target (Compare operator left right) =
    on_result (value setting locals memory target left) (λ a. on_result (value setting locals memory target right) (λ b. Ok (comparison_value operator a b)))
value setting locals memory target (Move direction order size pointer index offset) =
    in_order order (value setting locals memory target pointer) (value setting locals memory target index) (λ p i. moved direction size p i offset)
value setting locals memory target (Within bound index offset) =
    on_result (value setting locals memory target index) (λ i. within bound i offset)
value setting locals memory target (Aligned alignment pointer offset) =
    on_result (value setting locals memory target pointer) (λ p. aligned alignment p offset)
-- 6.5.13p4, 6.5.14p4, 6.5.15p4: the other operand is not evaluated
value setting locals memory target (Choose type test first second) =
    on_result (value setting locals memory target test)
    (λ t. if same_value t (pos 0) then value setting locals memory target second else value setting locals memory target first)

-- 6.5.2.2p10: the values of arguments. Their order is ours
unfoldable pub values : Setting → Locals → Memory → List Core → Result (List ℤ) Broken
values setting locals memory [] = Ok []
values setting locals memory (first ∷ rest) =
    on_result (value setting locals memory 0 first) (λ v. on_result (values setting locals memory rest) (λ vs. Ok (v ∷ vs)))
