-- The entry of a term whose arguments are there.
use Rattle.std.proofs.Common.{◌≡◌, ℕ, [], ◌∷◌, ◌++◌, refl}
use Rattle.term_core_spec.specs.declared.WordOperator.TheVariants as word
use Rattle.term_core_spec.specs.declared.BinaryOperator.{BinaryOperator}
use Rattle.term_core_spec.specs.declared.BinaryOperator.TheVariants as binary
use Rattle.term_core_spec.specs.Term.{Term, Leaf, Unary, Binary, Ternary, Quaternary, Octonary}
use Rattle.bit_blast_spec.specs.Goal.{Table, divided, with_binary}
use Rattle.bit_blast.specs.Steps.{arguments, finish, AllThere, IsClosed}
use Rattle.bit_blast.proofs.Closed.{closed_one, closed_two}

pub record Finished (before after : Table) : Type 0 where
  pub closed : IsClosed after
  pub more : Table
  pub grown : after ≡ before ++ more

binary_finished : (operator : BinaryOperator) (x y : Term) (t : Table) (n : ℕ) → IsClosed t → AllThere (x ∷ y ∷ []) t → Finished t (with_binary operator x y t n).out
unfolding divided
binary_finished binary.And x y t n c all = record { closed = closed_one t (Binary binary.And x y) _ c all; more = _; grown = refl }
binary_finished binary.Or x y t n c all = record { closed = closed_one t (Binary binary.Or x y) _ c all; more = _; grown = refl }
binary_finished binary.Equal x y t n c all = record { closed = closed_one t (Binary binary.Equal x y) _ c all; more = _; grown = refl }
binary_finished binary.Less x y t n c all = record { closed = closed_one t (Binary binary.Less x y) _ c all; more = _; grown = refl }
binary_finished binary.Load x y t n c all = record { closed = closed_one t (Binary binary.Load x y) _ c all; more = _; grown = refl }
binary_finished binary.Join x y t n c all = record { closed = closed_one t (Binary binary.Join x y) _ c all; more = _; grown = refl }
binary_finished (binary.Word word.Divide) x y t n c all = record { closed = closed_two t x y _ _ c all.0 all.1.0; more = _; grown = refl }
binary_finished (binary.Word word.Remainder) x y t n c all = record { closed = closed_two t x y _ _ c all.0 all.1.0; more = _; grown = refl }
binary_finished (binary.Word word.Add) x y t n c all = record { closed = closed_one t (Binary (binary.Word word.Add) x y) _ c all; more = _; grown = refl }
binary_finished (binary.Word word.Subtract) x y t n c all = record { closed = closed_one t (Binary (binary.Word word.Subtract) x y) _ c all; more = _; grown = refl }
binary_finished (binary.Word word.Multiply) x y t n c all = record { closed = closed_one t (Binary (binary.Word word.Multiply) x y) _ c all; more = _; grown = refl }
binary_finished (binary.Word word.And) x y t n c all = record { closed = closed_one t (Binary (binary.Word word.And) x y) _ c all; more = _; grown = refl }
binary_finished (binary.Word word.Or) x y t n c all = record { closed = closed_one t (Binary (binary.Word word.Or) x y) _ c all; more = _; grown = refl }
binary_finished (binary.Word word.Xor) x y t n c all = record { closed = closed_one t (Binary (binary.Word word.Xor) x y) _ c all; more = _; grown = refl }
binary_finished (binary.Word word.ShiftLeft) x y t n c all = record { closed = closed_one t (Binary (binary.Word word.ShiftLeft) x y) _ c all; more = _; grown = refl }
binary_finished (binary.Word word.ShiftRight) x y t n c all = record { closed = closed_one t (Binary (binary.Word word.ShiftRight) x y) _ c all; more = _; grown = refl }
binary_finished (binary.Word word.ShiftRightSigned) x y t n c all = record { closed = closed_one t (Binary (binary.Word word.ShiftRightSigned) x y) _ c all; more = _; grown = refl }

pub finished : (term : Term) (t : Table) (n : ℕ) → IsClosed t → AllThere (arguments term) t → Finished t (finish term t n).out
finished (Leaf leaf) t n c all = record { closed = closed_one t (Leaf leaf) _ c all; more = _; grown = refl }
finished (Unary operator a) t n c all = record { closed = closed_one t (Unary operator a) _ c all; more = _; grown = refl }
finished (Binary operator a b) t n c all = binary_finished operator a b t n c all
finished (Ternary operator a b d) t n c all = record { closed = closed_one t (Ternary operator a b d) _ c all; more = _; grown = refl }
finished (Quaternary operator a b d e) t n c all = record { closed = closed_one t (Quaternary operator a b d e) _ c all; more = _; grown = refl }
finished (Octonary a b d e f g h i) t n c all = record { closed = closed_one t (Octonary a b d e f g h i) _ c all; more = _; grown = refl }
