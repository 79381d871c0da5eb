-- The table of a term whose loads are from variables.
use Rattle.std.proofs.Common.{ℕ, Bool, true, false, [], ◌∷◌, ◌++◌}
use Rattle.std.specs.Prelude.{if◌then◌else◌}
use Rattle.term_core_spec.specs.declared.WordOperator.TheVariants as word
use Rattle.term_core_spec.specs.declared.BinaryOperator.{BinaryOperator}
use Rattle.term_core_spec.specs.declared.BinaryOperator.TheVariants as binary
use Rattle.term_core_spec.specs.Term.{Term, Leaf, Unary, Binary, Ternary, Quaternary, Octonary}
use Rattle.bit_blast_spec.specs.Gates.{Build, give, ◌>>=◌}
use Rattle.bit_blast_spec.specs.Circuits.{Bits}
use Rattle.bit_blast_spec.specs.Goal.{Table, is_there, bits_in, enter, atom_bits, unary_bits, ternary_bits, quaternary_bits, divided, with_binary, visit}
use Rattle.bit_blast_laws.specs.Back.{IfFromVariable, TableLoadsFromVariables}
use Rattle.mem_terms_spec.specs.Assignments.{LoadsFromVariables}

both : (table more : Table) → TableLoadsFromVariables table → TableLoadsFromVariables more → TableLoadsFromVariables (table ++ more)
both [] more ft fm = fm
both (entry ∷ table) more ft fm = (ft.0, both table more ft.1 fm)

once_from : (test : Bool) (table : Table) (build : Build Table) (last : ℕ) → TableLoadsFromVariables table → TableLoadsFromVariables (build last).out
    → TableLoadsFromVariables ((if test then give table else build) last).out
once_from true table build last ft fb = ft
once_from false table build last ft fb = fb

added : (term : Term) (found : Bits) (table : Table) → IfFromVariable term → TableLoadsFromVariables table → TableLoadsFromVariables (table ++ (term, found) ∷ [])
added term found table f ft = both table ((term, found) ∷ []) ft (f, tt)

divided_from : (x y : Term) (table : Table) (last : ℕ) → TableLoadsFromVariables table → TableLoadsFromVariables (divided x y table last).out
unfolding divided
divided_from x y table last ft = both table _ ft (tt, (tt, tt))

binary_from : (operator : BinaryOperator) (x y : Term) (table : Table) (last : ℕ) → IfFromVariable (Binary operator x y) → TableLoadsFromVariables table
    → TableLoadsFromVariables (with_binary operator x y table last).out
binary_from (binary.Word word.Divide) x y table last f ft = divided_from x y table last ft
binary_from (binary.Word word.Remainder) x y table last f ft = divided_from x y table last ft
binary_from (binary.Word word.Add) x y table last f ft = added _ _ table f ft
binary_from (binary.Word word.Subtract) x y table last f ft = added _ _ table f ft
binary_from (binary.Word word.Multiply) x y table last f ft = added _ _ table f ft
binary_from (binary.Word word.And) x y table last f ft = added _ _ table f ft
binary_from (binary.Word word.Or) x y table last f ft = added _ _ table f ft
binary_from (binary.Word word.Xor) x y table last f ft = added _ _ table f ft
binary_from (binary.Word word.ShiftLeft) x y table last f ft = added _ _ table f ft
binary_from (binary.Word word.ShiftRight) x y table last f ft = added _ _ table f ft
binary_from (binary.Word word.ShiftRightSigned) x y table last f ft = added _ _ table f ft
binary_from binary.And x y table last f ft = added _ _ table f ft
binary_from binary.Or x y table last f ft = added _ _ table f ft
binary_from binary.Equal x y table last f ft = added _ _ table f ft
binary_from binary.Less x y table last f ft = added _ _ table f ft
binary_from binary.Load x y table last f ft = added _ _ table f ft
binary_from binary.Join x y table last f ft = added _ _ table f ft

pub visit_from : (t : Term) → LoadsFromVariables t → (table : Table) (last : ℕ) → TableLoadsFromVariables table → TableLoadsFromVariables (visit t table last).out
unfolding LoadsFromVariables visit
visit_from (Leaf leaf) all table last ft =
    once_from (is_there (Leaf leaf) table) table (enter (Leaf leaf) table (atom_bits leaf)) last ft (added (Leaf leaf) _ table tt ft)
visit_from (Unary operator x) all table last ft =
    once_from (is_there (Unary operator x) table) table
    (visit x table >>= λ t. enter (Unary operator x) t (unary_bits operator (bits_in t x)))
    last ft
    (added (Unary operator x) _ _ tt (visit_from x all table last ft))
visit_from (Binary operator x y) all table last ft =
    once_from (is_there (Binary operator x y) table) table
    (visit x table >>= λ t. visit y t >>= λ t. with_binary operator x y t)
    last ft
    (binary_from operator x y _ _ all.0 (visit_from y all.2 _ _ (visit_from x all.1 table last ft)))
visit_from (Ternary operator x y z) all table last ft =
    once_from (is_there (Ternary operator x y z) table) table
    (visit x table >>= λ t. visit y t >>= λ t. visit z t >>= λ t. enter (Ternary operator x y z) t (ternary_bits operator (bits_in t x) (bits_in t y) (bits_in t z)))
    last ft
    (added (Ternary operator x y z) _ _ tt (visit_from z all.2 _ _ (visit_from y all.1 _ _ (visit_from x all.0 table last ft))))
visit_from (Quaternary operator a b c d) all table last ft =
    once_from (is_there (Quaternary operator a b c d) table) table
    (visit a table >>= λ t. visit b t >>= λ t. visit c t >>= λ t. visit d t >>= λ t. enter (Quaternary operator a b c d) t (quaternary_bits operator (bits_in t a) (bits_in t b) (bits_in t c) (bits_in t d)))
    last ft
    (added (Quaternary operator a b c d) _ _ tt (visit_from d all.3 _ _ (visit_from c all.2 _ _ (visit_from b all.1 _ _ (visit_from a all.0 table last ft)))))
visit_from (Octonary a b c d e f g h) all table last ft =
    once_from (is_there (Octonary a b c d e f g h) table) table
    (visit a table >>= λ t. visit b t >>= λ t. visit c t >>= λ t. visit d t >>= λ t. visit e t >>= λ t. visit f t >>= λ t. visit g t >>= λ t. visit h t >>= λ t. enter (Octonary a b c d e f g h) t (give (bits_in t a ++ bits_in t b ++ bits_in t c ++ bits_in t d ++ bits_in t e ++ bits_in t f ++ bits_in t g ++ bits_in t h)))
    last ft
    (added (Octonary a b c d e f g h) _ _ tt (visit_from h all.7 _ _ (visit_from g all.6 _ _ (visit_from f all.5 _ _ (visit_from e all.4 _ _ (visit_from d all.3 _ _ (visit_from c all.2 _ _ (visit_from b all.1 _ _ (visit_from a all.0 table last ft)))))))))
