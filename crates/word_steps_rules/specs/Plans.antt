-- By which plan the bits of a term come from those of its arguments, which are rows by the indices of their ids.
use Rattle.std.specs.Prelude.{ℕ, ◌*◌, ◌||◌, Bool, false, if◌then◌else◌, List, [], ◌∷◌, length}
use Rattle.term_core_spec.specs.declared.Atom.{Atom}
use Rattle.term_core_spec.specs.declared.Atom.TheVariants as atom
use Rattle.term_core_spec.specs.declared.UnaryOperator.{UnaryOperator}
use Rattle.term_core_spec.specs.declared.UnaryOperator.TheVariants as unary
use Rattle.term_core_spec.specs.declared.WordOperator.{WordOperator}
use Rattle.term_core_spec.specs.declared.WordOperator.TheVariants as word
use Rattle.term_core_spec.specs.declared.BinaryOperator.{BinaryOperator}
use Rattle.term_core_spec.specs.declared.BinaryOperator.TheVariants as binary
use Rattle.term_core_spec.specs.declared.TernaryOperator.{TernaryOperator}
use Rattle.term_core_spec.specs.declared.TernaryOperator.TheVariants as ternary
use Rattle.term_core_spec.specs.declared.QuaternaryOperator.{QuaternaryOperator}
use Rattle.term_core_spec.specs.declared.QuaternaryOperator.TheVariants as quaternary
use Rattle.term_core_spec.specs.Term.{Term}
use Rattle.term_norm_spec.specs.Patterns.{is_constant, number_of}
use Rattle.term_bank.specs.declared.node.TermNode.{TermNode}
use Rattle.term_bank.specs.declared.node.TermNode.TheVariants as node
use Rattle.term_bank.specs.Nodes.{tree_at}
use Rattle.word_steps_spec.specs.Bitwise as spec
use Rattle.word_steps_rules.specs.declared.bit.Bit.{Bit}
use Rattle.word_steps_rules.specs.declared.plan.Gate.TheVariants.{And, Or, Xor, Choose}
use Rattle.word_steps_rules.specs.declared.plan.Shift.{Shift}
use Rattle.word_steps_rules.specs.declared.plan.Shift.TheVariants.{Up, Down, DownSigned}
use Rattle.word_steps_rules.specs.declared.plan.Bytes.{Bytes}
use Rattle.word_steps_rules.specs.declared.plan.Bytes.TheVariants.{Two, Four, Eight}
use Rattle.word_steps_rules.specs.declared.plan.Plan.{Plan}
use Rattle.word_steps_rules.specs.declared.plan.Plan.TheVariants.{Own, Number, Both, Shifted, Joined}
use Rattle.word_steps_rules.specs.Bits.{bits_in, row_in, index_among, IsRow}

abbrev pub atom_plan : Atom → Plan
atom_plan (atom.Constant width number) = Number number
atom_plan (atom.Truth value) = Own
atom_plan (atom.Open variable) = Own

abbrev pub unary_plan : UnaryOperator → (index : ℕ) → Plan
unary_plan (unary.ZeroExtend width) index = Shifted Down index 0
unary_plan (unary.SignExtend width) index = Shifted DownSigned index 0
unary_plan (unary.Low width) index = Shifted Down index 0
unary_plan (unary.Byte place) index = Shifted Down index (8 * place)
unary_plan unary.Not index = Own
unary_plan unary.Complement index = Own

-- one of two bits is known to be 0
abbrev pub is_apart : spec.Bit → spec.Bit → Bool
is_apart p q = spec.is_fixed false p || spec.is_fixed false q

abbrev pub sum_plan : List Term → List (List Bit) → (first second : ℕ) → Plan
sum_plan trees rows first second =
    if spec.are_apart (length (row_in rows first)) (bits_in trees (row_in rows first)) (bits_in trees (row_in rows second))
    then Both Or first second else Own

-- of a word that is shifted by the term t
abbrev pub shift_plan : Shift → (index : ℕ) → (t : Term) → Plan
shift_plan shift index t = if is_constant t then Shifted shift index (number_of t) else Own

-- of which the second is the term t
unfoldable pub operation_plan : List Term → List (List Bit) → WordOperator → (first second : ℕ) → (t : Term) → Plan
operation_plan trees rows word.And first second t = Both And first second
operation_plan trees rows word.Or first second t = Both Or first second
operation_plan trees rows word.Xor first second t = Both Xor first second
operation_plan trees rows word.Add first second t = sum_plan trees rows first second
operation_plan trees rows word.ShiftLeft first second t = shift_plan Up first t
operation_plan trees rows word.ShiftRight first second t = shift_plan Down first t
operation_plan trees rows word.ShiftRightSigned first second t = shift_plan DownSigned first t
operation_plan trees rows word.Multiply first second t = Own
operation_plan trees rows word.Subtract first second t = Own
operation_plan trees rows word.Divide first second t = Own
operation_plan trees rows word.Remainder first second t = Own

abbrev pub binary_plan : List Term → (ids : List ℕ) → List (List Bit) → BinaryOperator → (x y : ℕ) → Plan
binary_plan trees ids rows (binary.Word operator) x y = operation_plan trees rows operator (index_among ids x) (index_among ids y) (tree_at trees y)
binary_plan trees ids rows binary.Join x y = Joined (Two (index_among ids x) (index_among ids y))
binary_plan trees ids rows binary.And x y = Own
binary_plan trees ids rows binary.Or x y = Own
binary_plan trees ids rows binary.Equal x y = Own
binary_plan trees ids rows binary.Less x y = Own
binary_plan trees ids rows binary.Load x y = Own

abbrev pub ternary_plan : TernaryOperator → (second third : ℕ) → Plan
ternary_plan ternary.Choose second third = Both Choose second third
ternary_plan ternary.Store second third = Own

abbrev pub quaternary_plan : QuaternaryOperator → Bytes → Plan
quaternary_plan quaternary.Join bytes = Joined bytes
quaternary_plan quaternary.Over bytes = Own

abbrev pub four : List ℕ → (a b c d : ℕ) → Bytes
four ids a b c d = Four (index_among ids a) (index_among ids b) (index_among ids c) (index_among ids d)

-- the plan of a node's term
abbrev pub node_plan : List Term → (ids : List ℕ) → List (List Bit) → TermNode → Plan
node_plan trees ids rows (node.Leaf leaf) = atom_plan leaf
node_plan trees ids rows (node.Unary operator a) = unary_plan operator (index_among ids a)
node_plan trees ids rows (node.Binary operator a b) = binary_plan trees ids rows operator a b
node_plan trees ids rows (node.Ternary operator a b c) = ternary_plan operator (index_among ids b) (index_among ids c)
node_plan trees ids rows (node.Quaternary operator a b c d) = quaternary_plan operator (four ids a b c d)
node_plan trees ids rows (node.Octonary a b c d e f g h) =
    Joined
    (Eight (index_among ids a) (index_among ids b) (index_among ids c) (index_among ids d) (index_among ids e) (index_among ids f) (index_among ids g) (index_among ids h))

-- these terms have rows
abbrev pub HaveRows : List Term → (ids : List ℕ) → List (List Bit) → List ℕ → Type 0
HaveRows trees ids rows [] = Unit {0}
HaveRows trees ids rows (a ∷ rest) = IsRow trees (tree_at trees a) (row_in rows (index_among ids a)) × HaveRows trees ids rows rest
