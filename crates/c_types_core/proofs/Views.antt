-- The tree of each expression, by the trees of its parts.
use Rattle.std.proofs.Common.{◌≡◌, ℕ, List, ap, sym, ◌∙◌}
use Rattle.std.specs.Prelude.{ℤ}
use Rattle.std.specs.Borrow.{Bor}
use Rattle.std.specs.declared.alloc.Global.{Global}
use Rattle.std.specs.declared.boxed.Box.{Box}
use Rattle.c_types_spec.specs.declared.Scalar.{Scalar}
use Rattle.c_types_spec.specs.declared.Arithmetic.{Arithmetic}
use Rattle.c_types_spec.specs.declared.Comparison.{Comparison}
use Rattle.c_types_spec.specs.declared.Direction.{Direction}
use Rattle.c_types_spec.specs.declared.Order.{Order}
use Rattle.c_types_spec.specs.Core as tree
use Rattle.c_types_core.specs.declared.expression.Core.{Core, fold-roll-Core}
use Rattle.c_types_core.specs.declared.expression.Core.TheOpen as layer
use Rattle.c_types_core.specs.declared.expression.Core.TheVariants as made
use Rattle.c_types_core.specs.Expressions.{core_of, core_step}

pub Constant-view : (type : Scalar) (value : ℤ) → core_of (made.Constant type value) ≡ tree.Constant type value
unfolding core_of
Constant-view type value = ap core_of (sym (made.rolls-Constant type value)) ∙ fold-roll-Core _ core_step (layer.Constant type value)

pub ReadLocal-view : (type : Scalar) (local : ℕ) (offset : ℕ) → core_of (made.ReadLocal type local offset) ≡ tree.ReadLocal type local offset
unfolding core_of
ReadLocal-view type local offset = ap core_of (sym (made.rolls-ReadLocal type local offset)) ∙ fold-roll-Core _ core_step (layer.ReadLocal type local offset)

pub GlobalAddress-view : (name : Bor (List ℕ)) → core_of (made.GlobalAddress name) ≡ tree.GlobalAddress name.now
unfolding core_of
GlobalAddress-view name = ap core_of (sym (made.rolls-GlobalAddress name)) ∙ fold-roll-Core _ core_step (layer.GlobalAddress name)

pub Load-view : (type : Scalar) (address : Box Core Global) (displacement : ℕ) (offset : ℕ) → core_of (made.Load type address displacement offset) ≡ tree.Load type (core_of address.value) displacement offset
unfolding core_of
Load-view type address displacement offset = ap core_of (sym (made.rolls-Load type address displacement offset)) ∙ fold-roll-Core _ core_step (layer.Load type address displacement offset)

pub Target-view : (type : Scalar) (offset : ℕ) → core_of (made.Target type offset) ≡ tree.Target type offset
unfolding core_of
Target-view type offset = ap core_of (sym (made.rolls-Target type offset)) ∙ fold-roll-Core _ core_step (layer.Target type offset)

pub Convert-view : (type : Scalar) (operand : Box Core Global) → core_of (made.Convert type operand) ≡ tree.Convert type (core_of operand.value)
unfolding core_of
Convert-view type operand = ap core_of (sym (made.rolls-Convert type operand)) ∙ fold-roll-Core _ core_step (layer.Convert type operand)

pub Operate-view : (operator : Arithmetic) (type : Scalar) (left : Box Core Global) (right : Box Core Global) (offset : ℕ) → core_of (made.Operate operator type left right offset) ≡ tree.Operate operator type (core_of left.value) (core_of right.value) offset
unfolding core_of
Operate-view operator type left right offset = ap core_of (sym (made.rolls-Operate operator type left right offset)) ∙ fold-roll-Core _ core_step (layer.Operate operator type left right offset)

pub Compare-view : (operator : Comparison) (left : Box Core Global) (right : Box Core Global) → core_of (made.Compare operator left right) ≡ tree.Compare operator (core_of left.value) (core_of right.value)
unfolding core_of
Compare-view operator left right = ap core_of (sym (made.rolls-Compare operator left right)) ∙ fold-roll-Core _ core_step (layer.Compare operator left right)

pub Move-view : (direction : Direction) (order : Order) (size : ℕ) (pointer : Box Core Global) (index : Box Core Global) (offset : ℕ) → core_of (made.Move direction order size pointer index offset) ≡ tree.Move direction order size (core_of pointer.value) (core_of index.value) offset
unfolding core_of
Move-view direction order size pointer index offset = ap core_of (sym (made.rolls-Move direction order size pointer index offset)) ∙ fold-roll-Core _ core_step (layer.Move direction order size pointer index offset)

pub Within-view : (bound : ℕ) (index : Box Core Global) (offset : ℕ) → core_of (made.Within bound index offset) ≡ tree.Within bound (core_of index.value) offset
unfolding core_of
Within-view bound index offset = ap core_of (sym (made.rolls-Within bound index offset)) ∙ fold-roll-Core _ core_step (layer.Within bound index offset)

pub Aligned-view : (alignment : ℕ) (pointer : Box Core Global) (offset : ℕ) → core_of (made.Aligned alignment pointer offset) ≡ tree.Aligned alignment (core_of pointer.value) offset
unfolding core_of
Aligned-view alignment pointer offset = ap core_of (sym (made.rolls-Aligned alignment pointer offset)) ∙ fold-roll-Core _ core_step (layer.Aligned alignment pointer offset)

pub Choose-view : (type : Scalar) (test : Box Core Global) (first : Box Core Global) (second : Box Core Global) → core_of (made.Choose type test first second) ≡ tree.Choose type (core_of test.value) (core_of first.value) (core_of second.value)
unfolding core_of
Choose-view type test first second = ap core_of (sym (made.rolls-Choose type test first second)) ∙ fold-roll-Core _ core_step (layer.Choose type test first second)

pub ruleset views = (Constant-view, ReadLocal-view, GlobalAddress-view, Load-view, Target-view, Convert-view, Operate-view, Compare-view, Move-view, Within-view, Aligned-view, Choose-view)
