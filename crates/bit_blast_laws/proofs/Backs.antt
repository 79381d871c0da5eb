-- Each term that is taken is reconstructed.
use Rattle.std.proofs.Common.{◌≡◌, ℕ, Bool, true, false, List, [], ◌∷◌, ◌++◌, length, Option, Some, None, refl, ap, ◌∙◌}
use Rattle.std.specs.Prelude.{◌&&◌, if◌then◌else◌}
use Rattle.std.proofs.lemmas.Bool.{and_parts}
use Rattle.clause_check_spec.specs.Clause.{Valuation}
use Rattle.term_core_spec.specs.declared.Width.TheVariants.{W8, W32, W64}
use Rattle.term_core_spec.specs.declared.Sort.{Sort}
use Rattle.term_core_spec.specs.declared.Sort.TheVariants as sort
use Rattle.term_core_spec.specs.declared.WordOperator.TheVariants as word
use Rattle.term_core_spec.specs.declared.BinaryOperator.{BinaryOperator}
use Rattle.term_core_spec.specs.declared.BinaryOperator.TheVariants as binary
use Rattle.term_core_spec.specs.Term.{Term, Leaf, Unary, Binary, Ternary, Quaternary, Octonary, divide, remainder}
use Rattle.term_core_spec.specs.Sort.{is_byte, is_memory, is_address, all_bytes, sort_of, sort_of_unary, sort_of_binary, sort_of_ternary, sort_of_quaternary}
use Rattle.term_core_spec.proofs.Sorts.{same_sort-true, sort_if-some, with_one-some, with_two-some, with_three-some, with_four-some}
use Rattle.term_core_spec.proofs.Soundness.{value-sort}
use Rattle.bit_blast_spec.specs.Gates.{Build, last_of, give, ◌>>=◌}
use Rattle.bit_blast_spec.specs.Circuits.{Bits, new_bits, division}
use Rattle.bit_blast_spec.specs.Goal.{Table, is_there, bits_in, enter, atom_bits, unary_bits, binary_bits, ternary_bits, quaternary_bits, divided, with_binary, visit}
use Rattle.bit_blast_laws.specs.Meaning.{AllHold}
use Rattle.bit_blast_laws.proofs.Gates.{hold_parts}
use Rattle.bit_blast_laws.specs.Shows.{AllShow}
use Rattle.bit_blast_laws.specs.Reads.{Reads}
use Rattle.bit_blast_laws.proofs.Tables.{Visited, shown_there}
use Rattle.bit_blast_laws.proofs.Visits.{Takes, all_taken}
use Rattle.bit_blast_laws.specs.Back.{read_back, TableLoadsFromVariables}
use Rattle.bit_blast_laws.proofs.Every.{every-append, every_new, every_division, every_unary, every_binary, every_ternary, every_quaternary}
use Rattle.bit_blast_laws.proofs.Silent.{IsSilent, NoReads, silent, silent_reads, reads_both}
use Rattle.bit_blast_laws.proofs.Prefixes.{Prefix, prefix_prefix, Growing, then_grows, binary_grows}
use Rattle.bit_blast_laws.proofs.Reading.{is_assignment, Found, leaf_reads, load_reads}

-- what is made for a term in a table whose whole is known is reconstructed
unfoldable pub Backs : Valuation → Table → Term → Type 0
Backs values whole t =
    (s : Sort) → sort_of t ≡ Some s → (table : Table) (last : ℕ) → AllShow values (read_back values whole) table
    → Prefix (visit t table last).out whole → AllHold values last (visit t table last).gates
    → Reads (read_back values whole) values last (visit t table last).gates

enter_backs : (values : Valuation) (whole : Table) (term : Term) (table : Table) (build : Build Bits) (last : ℕ) → NoReads (build last).gates
    → Reads (read_back values whole) values last (enter term table build last).gates
enter_backs values whole term table build last silent =
    reads_both (read_back values whole) values last (build last).gates [] (silent_reads (read_back values whole) values last (build last).gates silent) tt

once_backs : (values : Valuation) (whole : Table) (term : Term) (table : Table) (build : Build Table) (last : ℕ) (b : Bool) → is_there term table ≡ b
    → Prefix ((if b then give table else build) last).out whole → AllHold values last ((if b then give table else build) last).gates
    → (is_there term table ≡ false → Prefix (build last).out whole → AllHold values last (build last).gates → Reads (read_back values whole) values last (build last).gates)
    → Reads (read_back values whole) values last ((if b then give table else build) last).gates
once_backs values whole term table build last true e prefix hold go = tt
once_backs values whole term table build last false e prefix hold go = go e prefix hold

-- first a term, and then what uses it
after_backs : (values : Valuation) (whole : Table) → values 1 ≡ true → (t : Term) → Backs values whole t
    → (s : Sort) → sort_of t ≡ Some s → (more : Table → Build Table) → Growing more → (table : Table) (last : ℕ) → AllShow values (read_back values whole) table
    → Prefix ((visit t table >>= more) last).out whole → AllHold values last ((visit t table >>= more) last).gates
    → ((next : Table) (end : ℕ) → Visited values (read_back values whole) t table next → Prefix (more next end).out whole → AllHold values end (more next end).gates
    → Reads (read_back values whole) values end (more next end).gates)
    → Reads (read_back values whole) values last ((visit t table >>= more) last).gates
unfolding Backs Takes
after_backs values whole truth t backs s e more growing table last shows prefix hold go =
    let first = visit t table last in
    let middle = last_of last first.gates in
    let parts = hold_parts values last first.gates (more first.out middle).gates hold in
    let own = backs s e table last shows (prefix_prefix first.out (more first.out middle).out whole (growing first.out middle) prefix) parts.0 in
    let visited = all_taken values (read_back values whole) truth (is_assignment values whole) t s e table last shows (record { hold = parts.0; read = own }) in
    reads_both (read_back values whole) values last first.gates (more first.out middle).gates own (go first.out middle visited prefix parts.1)

divided_backs : (values : Valuation) (whole : Table) (x y : Term) (table : Table) (last : ℕ) → Reads (read_back values whole) values last (divided x y table last).gates
unfolding divided
divided_backs values whole x y table last =
    let xs = bits_in table x in
    let quotients = new_bits (divide x y) 0 (length xs) last in
    let first = last_of last quotients.gates in
    let rests = new_bits (remainder x y) 0 (length xs) first in
    let second = last_of first rests.gates in
    let gates = division quotients.out rests.out xs (bits_in table y) second in
    silent_reads (read_back values whole) values last (quotients.gates ++ (rests.gates ++ (gates.gates ++ [])))
    (every-append IsSilent quotients.gates (rests.gates ++ (gates.gates ++ [])) (every_new IsSilent silent (divide x y) 0 (length xs) last (λ at e. cc))
    (every-append IsSilent rests.gates (gates.gates ++ []) (every_new IsSilent silent (remainder x y) 0 (length xs) first (λ at e. cc))
    (every-append IsSilent gates.gates [] (every_division IsSilent silent quotients.out rests.out xs (bits_in table y) second (λ clause. tt)) tt)))

binary_backs : (values : Valuation) (whole : Table) → TableLoadsFromVariables whole → Found values whole
    → (operator : BinaryOperator) (x y : Term) (p q s : Sort) (table : Table) (last : ℕ) → sort_of_binary operator p q ≡ Some s
    → sort_of x ≡ Some p → sort_of y ≡ Some q → AllShow values (read_back values whole) table → is_there y table ≡ true
    → Prefix (with_binary operator x y table last).out whole → Reads (read_back values whole) values last (with_binary operator x y table last).gates
unfolding sort_of_binary binary_bits
binary_backs values whole from known binary.Load x y p q s table last e sx sy all there prefix =
    let tests = and_parts (is_memory p) (is_address q) (sort_if-some (is_memory p && is_address q) (sort.Word W8) s e).0 in
    load_reads values whole from known x y table last (sx ∙ ap Some (same_sort-true p sort.Memory tests.0))
    (value-sort (read_back values whole) (is_assignment values whole) y (sort.Word W32) (sy ∙ ap Some (same_sort-true q (sort.Word W32) tests.1)))
    there (shown_there values (read_back values whole) y table all there) prefix
binary_backs values whole from known (binary.Word word.Divide) x y p q s table last e sx sy all there prefix = divided_backs values whole x y table last
binary_backs values whole from known (binary.Word word.Remainder) x y p q s table last e sx sy all there prefix = divided_backs values whole x y table last
binary_backs values whole from known binary.And x y p q s table last e sx sy all there prefix =
    enter_backs values whole (Binary binary.And x y) table (binary_bits (Binary binary.And x y) binary.And (bits_in table x) (bits_in table y)) last
    (every_binary IsSilent silent (Binary binary.And x y) binary.And (bits_in table x) (bits_in table y) last (λ at e. cc))
binary_backs values whole from known binary.Or x y p q s table last e sx sy all there prefix =
    enter_backs values whole (Binary binary.Or x y) table (binary_bits (Binary binary.Or x y) binary.Or (bits_in table x) (bits_in table y)) last
    (every_binary IsSilent silent (Binary binary.Or x y) binary.Or (bits_in table x) (bits_in table y) last (λ at e. cc))
binary_backs values whole from known binary.Equal x y p q s table last e sx sy all there prefix =
    enter_backs values whole (Binary binary.Equal x y) table (binary_bits (Binary binary.Equal x y) binary.Equal (bits_in table x) (bits_in table y)) last
    (every_binary IsSilent silent (Binary binary.Equal x y) binary.Equal (bits_in table x) (bits_in table y) last (λ at e. cc))
binary_backs values whole from known binary.Less x y p q s table last e sx sy all there prefix =
    enter_backs values whole (Binary binary.Less x y) table (binary_bits (Binary binary.Less x y) binary.Less (bits_in table x) (bits_in table y)) last
    (every_binary IsSilent silent (Binary binary.Less x y) binary.Less (bits_in table x) (bits_in table y) last (λ at e. cc))
binary_backs values whole from known binary.Join x y p q s table last e sx sy all there prefix =
    enter_backs values whole (Binary binary.Join x y) table (binary_bits (Binary binary.Join x y) binary.Join (bits_in table x) (bits_in table y)) last
    (every_binary IsSilent silent (Binary binary.Join x y) binary.Join (bits_in table x) (bits_in table y) last (λ at e. cc))
binary_backs values whole from known (binary.Word word.Add) x y p q s table last e sx sy all there prefix =
    enter_backs values whole (Binary (binary.Word word.Add) x y) table (binary_bits (Binary (binary.Word word.Add) x y) (binary.Word word.Add) (bits_in table x) (bits_in table y)) last
    (every_binary IsSilent silent (Binary (binary.Word word.Add) x y) (binary.Word word.Add) (bits_in table x) (bits_in table y) last (λ at e. cc))
binary_backs values whole from known (binary.Word word.Subtract) x y p q s table last e sx sy all there prefix =
    enter_backs values whole (Binary (binary.Word word.Subtract) x y) table (binary_bits (Binary (binary.Word word.Subtract) x y) (binary.Word word.Subtract) (bits_in table x) (bits_in table y)) last
    (every_binary IsSilent silent (Binary (binary.Word word.Subtract) x y) (binary.Word word.Subtract) (bits_in table x) (bits_in table y) last (λ at e. cc))
binary_backs values whole from known (binary.Word word.Multiply) x y p q s table last e sx sy all there prefix =
    enter_backs values whole (Binary (binary.Word word.Multiply) x y) table (binary_bits (Binary (binary.Word word.Multiply) x y) (binary.Word word.Multiply) (bits_in table x) (bits_in table y)) last
    (every_binary IsSilent silent (Binary (binary.Word word.Multiply) x y) (binary.Word word.Multiply) (bits_in table x) (bits_in table y) last (λ at e. cc))
binary_backs values whole from known (binary.Word word.And) x y p q s table last e sx sy all there prefix =
    enter_backs values whole (Binary (binary.Word word.And) x y) table (binary_bits (Binary (binary.Word word.And) x y) (binary.Word word.And) (bits_in table x) (bits_in table y)) last
    (every_binary IsSilent silent (Binary (binary.Word word.And) x y) (binary.Word word.And) (bits_in table x) (bits_in table y) last (λ at e. cc))
binary_backs values whole from known (binary.Word word.Or) x y p q s table last e sx sy all there prefix =
    enter_backs values whole (Binary (binary.Word word.Or) x y) table (binary_bits (Binary (binary.Word word.Or) x y) (binary.Word word.Or) (bits_in table x) (bits_in table y)) last
    (every_binary IsSilent silent (Binary (binary.Word word.Or) x y) (binary.Word word.Or) (bits_in table x) (bits_in table y) last (λ at e. cc))
binary_backs values whole from known (binary.Word word.Xor) x y p q s table last e sx sy all there prefix =
    enter_backs values whole (Binary (binary.Word word.Xor) x y) table (binary_bits (Binary (binary.Word word.Xor) x y) (binary.Word word.Xor) (bits_in table x) (bits_in table y)) last
    (every_binary IsSilent silent (Binary (binary.Word word.Xor) x y) (binary.Word word.Xor) (bits_in table x) (bits_in table y) last (λ at e. cc))
binary_backs values whole from known (binary.Word word.ShiftLeft) x y p q s table last e sx sy all there prefix =
    enter_backs values whole (Binary (binary.Word word.ShiftLeft) x y) table (binary_bits (Binary (binary.Word word.ShiftLeft) x y) (binary.Word word.ShiftLeft) (bits_in table x) (bits_in table y)) last
    (every_binary IsSilent silent (Binary (binary.Word word.ShiftLeft) x y) (binary.Word word.ShiftLeft) (bits_in table x) (bits_in table y) last (λ at e. cc))
binary_backs values whole from known (binary.Word word.ShiftRight) x y p q s table last e sx sy all there prefix =
    enter_backs values whole (Binary (binary.Word word.ShiftRight) x y) table (binary_bits (Binary (binary.Word word.ShiftRight) x y) (binary.Word word.ShiftRight) (bits_in table x) (bits_in table y)) last
    (every_binary IsSilent silent (Binary (binary.Word word.ShiftRight) x y) (binary.Word word.ShiftRight) (bits_in table x) (bits_in table y) last (λ at e. cc))
binary_backs values whole from known (binary.Word word.ShiftRightSigned) x y p q s table last e sx sy all there prefix =
    enter_backs values whole (Binary (binary.Word word.ShiftRightSigned) x y) table (binary_bits (Binary (binary.Word word.ShiftRightSigned) x y) (binary.Word word.ShiftRightSigned) (bits_in table x) (bits_in table y)) last
    (every_binary IsSilent silent (Binary (binary.Word word.ShiftRightSigned) x y) (binary.Word word.ShiftRightSigned) (bits_in table x) (bits_in table y) last (λ at e. cc))

byte_parts : (o : Option Sort) (rest : List (Option Sort)) → all_bytes (o ∷ rest) ≡ true → (o ≡ Some (sort.Word W8)) × (all_bytes rest ≡ true)
byte_parts (Some s) rest e = let parts = and_parts (is_byte s) (all_bytes rest) e in (ap Some (same_sort-true s (sort.Word W8) parts.0), parts.1)
byte_parts None rest e = absurd (cc)

pub all_back : (values : Valuation) (whole : Table) → values 1 ≡ true → TableLoadsFromVariables whole → Found values whole → (t : Term) → Backs values whole t
unfolding Backs visit sort_of
all_back values whole truth from known (Leaf leaf) s e table last shows prefix hold =
    once_backs values whole (Leaf leaf) table (enter (Leaf leaf) table (atom_bits leaf)) last (is_there (Leaf leaf) table) refl prefix hold
    (λ new f0 a0. leaf_reads values whole leaf table last new f0)
all_back values whole truth from known (Unary operator x) s e table last shows prefix hold =
    let sorts = with_one-some (sort_of_unary operator) (sort_of x) s e in
    let g1 : Growing (λ t. enter (Unary operator x) t (unary_bits operator (bits_in t x))) = (λ table last. (_, refl)) in
    once_backs values whole (Unary operator x) table (visit x table >>= λ t. enter (Unary operator x) t (unary_bits operator (bits_in t x))) last (is_there (Unary operator x) table) refl prefix hold
    (λ new f0 a0. after_backs values whole truth x (all_back values whole truth from known x) sorts.0 sorts.1 (λ t. enter (Unary operator x) t (unary_bits operator (bits_in t x))) g1 table last shows f0 a0
    (λ n1 e1 v1 f1 a1. enter_backs values whole (Unary operator x) n1 (unary_bits operator (bits_in n1 x)) e1 (every_unary IsSilent silent operator (bits_in n1 x) e1)))
all_back values whole truth from known (Binary operator x y) s e table last shows prefix hold =
    let sorts = with_two-some (sort_of_binary operator) (sort_of x) (sort_of y) s e in
    let g2 : Growing (λ t. with_binary operator x y t) = binary_grows operator x y in
    let g1 : Growing (λ t. visit y t >>= λ t. with_binary operator x y t) = then_grows y (λ t. with_binary operator x y t) g2 in
    once_backs values whole (Binary operator x y) table (visit x table >>= λ t. visit y t >>= λ t. with_binary operator x y t) last (is_there (Binary operator x y) table) refl prefix hold
    (λ new f0 a0. after_backs values whole truth x (all_back values whole truth from known x) sorts.0 sorts.2 (λ t. visit y t >>= λ t. with_binary operator x y t) g1 table last shows f0 a0
    (λ n1 e1 v1 f1 a1. after_backs values whole truth y (all_back values whole truth from known y) sorts.1 sorts.3 (λ t. with_binary operator x y t) g2 n1 e1 v1.shows f1 a1
    (λ n2 e2 v2 f2 a2. binary_backs values whole from known operator x y sorts.0 sorts.1 s n2 e2 sorts.4 sorts.2 sorts.3 v2.shows v2.there f2)))
all_back values whole truth from known (Ternary operator x y z) s e table last shows prefix hold =
    let sorts = with_three-some (sort_of_ternary operator) (sort_of x) (sort_of y) (sort_of z) s e in
    let g3 : Growing (λ t. enter (Ternary operator x y z) t (ternary_bits operator (bits_in t x) (bits_in t y) (bits_in t z))) = (λ table last. (_, refl)) in
    let g2 : Growing (λ t. visit z t >>= λ t. enter (Ternary operator x y z) t (ternary_bits operator (bits_in t x) (bits_in t y) (bits_in t z))) = then_grows z (λ t. enter (Ternary operator x y z) t (ternary_bits operator (bits_in t x) (bits_in t y) (bits_in t z))) g3 in
    let g1 : Growing (λ t. visit y t >>= λ t. visit z t >>= λ t. enter (Ternary operator x y z) t (ternary_bits operator (bits_in t x) (bits_in t y) (bits_in t z))) = then_grows y (λ t. visit z t >>= λ t. enter (Ternary operator x y z) t (ternary_bits operator (bits_in t x) (bits_in t y) (bits_in t z))) g2 in
    once_backs values whole (Ternary operator x y z) table (visit x table >>= λ t. visit y t >>= λ t. visit z t >>= λ t. enter (Ternary operator x y z) t (ternary_bits operator (bits_in t x) (bits_in t y) (bits_in t z))) last (is_there (Ternary operator x y z) table) refl prefix hold
    (λ new f0 a0. after_backs values whole truth x (all_back values whole truth from known x) sorts.0 sorts.3 (λ t. visit y t >>= λ t. visit z t >>= λ t. enter (Ternary operator x y z) t (ternary_bits operator (bits_in t x) (bits_in t y) (bits_in t z))) g1 table last shows f0 a0
    (λ n1 e1 v1 f1 a1. after_backs values whole truth y (all_back values whole truth from known y) sorts.1 sorts.4 (λ t. visit z t >>= λ t. enter (Ternary operator x y z) t (ternary_bits operator (bits_in t x) (bits_in t y) (bits_in t z))) g2 n1 e1 v1.shows f1 a1
    (λ n2 e2 v2 f2 a2. after_backs values whole truth z (all_back values whole truth from known z) sorts.2 sorts.5 (λ t. enter (Ternary operator x y z) t (ternary_bits operator (bits_in t x) (bits_in t y) (bits_in t z))) g3 n2 e2 v2.shows f2 a2
    (λ n3 e3 v3 f3 a3. enter_backs values whole (Ternary operator x y z) n3 (ternary_bits operator (bits_in n3 x) (bits_in n3 y) (bits_in n3 z)) e3 (every_ternary IsSilent silent operator (bits_in n3 x) (bits_in n3 y) (bits_in n3 z) e3)))))
all_back values whole truth from known (Quaternary operator x y z k) s e table last shows prefix hold =
    let sorts = with_four-some (sort_of_quaternary operator) (sort_of x) (sort_of y) (sort_of z) (sort_of k) s e in
    let g4 : Growing (λ t. enter (Quaternary operator x y z k) t (quaternary_bits operator (bits_in t x) (bits_in t y) (bits_in t z) (bits_in t k))) = (λ table last. (_, refl)) in
    let g3 : Growing (λ t. visit k t >>= λ t. enter (Quaternary operator x y z k) t (quaternary_bits operator (bits_in t x) (bits_in t y) (bits_in t z) (bits_in t k))) = then_grows k (λ t. enter (Quaternary operator x y z k) t (quaternary_bits operator (bits_in t x) (bits_in t y) (bits_in t z) (bits_in t k))) g4 in
    let g2 : Growing (λ t. visit z t >>= λ t. visit k t >>= λ t. enter (Quaternary operator x y z k) t (quaternary_bits operator (bits_in t x) (bits_in t y) (bits_in t z) (bits_in t k))) = then_grows z (λ t. visit k t >>= λ t. enter (Quaternary operator x y z k) t (quaternary_bits operator (bits_in t x) (bits_in t y) (bits_in t z) (bits_in t k))) g3 in
    let g1 : Growing (λ t. visit y t >>= λ t. visit z t >>= λ t. visit k t >>= λ t. enter (Quaternary operator x y z k) t (quaternary_bits operator (bits_in t x) (bits_in t y) (bits_in t z) (bits_in t k))) = then_grows y (λ t. visit z t >>= λ t. visit k t >>= λ t. enter (Quaternary operator x y z k) t (quaternary_bits operator (bits_in t x) (bits_in t y) (bits_in t z) (bits_in t k))) g2 in
    once_backs values whole (Quaternary operator x y z k) table (visit x table >>= λ t. visit y t >>= λ t. visit z t >>= λ t. visit k t >>= λ t. enter (Quaternary operator x y z k) t (quaternary_bits operator (bits_in t x) (bits_in t y) (bits_in t z) (bits_in t k))) last (is_there (Quaternary operator x y z k) table) refl prefix hold
    (λ new f0 a0. after_backs values whole truth x (all_back values whole truth from known x) sorts.0 sorts.4 (λ t. visit y t >>= λ t. visit z t >>= λ t. visit k t >>= λ t. enter (Quaternary operator x y z k) t (quaternary_bits operator (bits_in t x) (bits_in t y) (bits_in t z) (bits_in t k))) g1 table last shows f0 a0
    (λ n1 e1 v1 f1 a1. after_backs values whole truth y (all_back values whole truth from known y) sorts.1 sorts.5 (λ t. visit z t >>= λ t. visit k t >>= λ t. enter (Quaternary operator x y z k) t (quaternary_bits operator (bits_in t x) (bits_in t y) (bits_in t z) (bits_in t k))) g2 n1 e1 v1.shows f1 a1
    (λ n2 e2 v2 f2 a2. after_backs values whole truth z (all_back values whole truth from known z) sorts.2 sorts.6 (λ t. visit k t >>= λ t. enter (Quaternary operator x y z k) t (quaternary_bits operator (bits_in t x) (bits_in t y) (bits_in t z) (bits_in t k))) g3 n2 e2 v2.shows f2 a2
    (λ n3 e3 v3 f3 a3. after_backs values whole truth k (all_back values whole truth from known k) sorts.3 sorts.7 (λ t. enter (Quaternary operator x y z k) t (quaternary_bits operator (bits_in t x) (bits_in t y) (bits_in t z) (bits_in t k))) g4 n3 e3 v3.shows f3 a3
    (λ n4 e4 v4 f4 a4. enter_backs values whole (Quaternary operator x y z k) n4 (quaternary_bits operator (bits_in n4 x) (bits_in n4 y) (bits_in n4 z) (bits_in n4 k)) e4 (every_quaternary IsSilent silent operator (bits_in n4 x) (bits_in n4 y) (bits_in n4 z) (bits_in n4 k) e4))))))
all_back values whole truth from known (Octonary t1 t2 t3 t4 t5 t6 t7 t8) s e table last shows prefix hold =
    let parts = sort_if-some (all_bytes (sort_of t1 ∷ sort_of t2 ∷ sort_of t3 ∷ sort_of t4 ∷ sort_of t5 ∷ sort_of t6 ∷ sort_of t7 ∷ sort_of t8 ∷ [])) (sort.Word W64) s e in
    let of1 = byte_parts (sort_of t1) (sort_of t2 ∷ sort_of t3 ∷ sort_of t4 ∷ sort_of t5 ∷ sort_of t6 ∷ sort_of t7 ∷ sort_of t8 ∷ []) parts.0 in
    let of2 = byte_parts (sort_of t2) (sort_of t3 ∷ sort_of t4 ∷ sort_of t5 ∷ sort_of t6 ∷ sort_of t7 ∷ sort_of t8 ∷ []) of1.1 in
    let of3 = byte_parts (sort_of t3) (sort_of t4 ∷ sort_of t5 ∷ sort_of t6 ∷ sort_of t7 ∷ sort_of t8 ∷ []) of2.1 in
    let of4 = byte_parts (sort_of t4) (sort_of t5 ∷ sort_of t6 ∷ sort_of t7 ∷ sort_of t8 ∷ []) of3.1 in
    let of5 = byte_parts (sort_of t5) (sort_of t6 ∷ sort_of t7 ∷ sort_of t8 ∷ []) of4.1 in
    let of6 = byte_parts (sort_of t6) (sort_of t7 ∷ sort_of t8 ∷ []) of5.1 in
    let of7 = byte_parts (sort_of t7) (sort_of t8 ∷ []) of6.1 in
    let of8 = byte_parts (sort_of t8) ([]) of7.1 in
    let g8 : Growing (λ t. enter (Octonary t1 t2 t3 t4 t5 t6 t7 t8) t (give (bits_in t t1 ++ bits_in t t2 ++ bits_in t t3 ++ bits_in t t4 ++ bits_in t t5 ++ bits_in t t6 ++ bits_in t t7 ++ bits_in t t8))) = (λ table last. (_, refl)) in
    let g7 : Growing (λ t. visit t8 t >>= λ t. enter (Octonary t1 t2 t3 t4 t5 t6 t7 t8) t (give (bits_in t t1 ++ bits_in t t2 ++ bits_in t t3 ++ bits_in t t4 ++ bits_in t t5 ++ bits_in t t6 ++ bits_in t t7 ++ bits_in t t8))) = then_grows t8 (λ t. enter (Octonary t1 t2 t3 t4 t5 t6 t7 t8) t (give (bits_in t t1 ++ bits_in t t2 ++ bits_in t t3 ++ bits_in t t4 ++ bits_in t t5 ++ bits_in t t6 ++ bits_in t t7 ++ bits_in t t8))) g8 in
    let g6 : Growing (λ t. visit t7 t >>= λ t. visit t8 t >>= λ t. enter (Octonary t1 t2 t3 t4 t5 t6 t7 t8) t (give (bits_in t t1 ++ bits_in t t2 ++ bits_in t t3 ++ bits_in t t4 ++ bits_in t t5 ++ bits_in t t6 ++ bits_in t t7 ++ bits_in t t8))) = then_grows t7 (λ t. visit t8 t >>= λ t. enter (Octonary t1 t2 t3 t4 t5 t6 t7 t8) t (give (bits_in t t1 ++ bits_in t t2 ++ bits_in t t3 ++ bits_in t t4 ++ bits_in t t5 ++ bits_in t t6 ++ bits_in t t7 ++ bits_in t t8))) g7 in
    let g5 : Growing (λ t. visit t6 t >>= λ t. visit t7 t >>= λ t. visit t8 t >>= λ t. enter (Octonary t1 t2 t3 t4 t5 t6 t7 t8) t (give (bits_in t t1 ++ bits_in t t2 ++ bits_in t t3 ++ bits_in t t4 ++ bits_in t t5 ++ bits_in t t6 ++ bits_in t t7 ++ bits_in t t8))) = then_grows t6 (λ t. visit t7 t >>= λ t. visit t8 t >>= λ t. enter (Octonary t1 t2 t3 t4 t5 t6 t7 t8) t (give (bits_in t t1 ++ bits_in t t2 ++ bits_in t t3 ++ bits_in t t4 ++ bits_in t t5 ++ bits_in t t6 ++ bits_in t t7 ++ bits_in t t8))) g6 in
    let g4 : Growing (λ t. visit t5 t >>= λ t. visit t6 t >>= λ t. visit t7 t >>= λ t. visit t8 t >>= λ t. enter (Octonary t1 t2 t3 t4 t5 t6 t7 t8) t (give (bits_in t t1 ++ bits_in t t2 ++ bits_in t t3 ++ bits_in t t4 ++ bits_in t t5 ++ bits_in t t6 ++ bits_in t t7 ++ bits_in t t8))) = then_grows t5 (λ t. visit t6 t >>= λ t. visit t7 t >>= λ t. visit t8 t >>= λ t. enter (Octonary t1 t2 t3 t4 t5 t6 t7 t8) t (give (bits_in t t1 ++ bits_in t t2 ++ bits_in t t3 ++ bits_in t t4 ++ bits_in t t5 ++ bits_in t t6 ++ bits_in t t7 ++ bits_in t t8))) g5 in
    let g3 : Growing (λ t. visit t4 t >>= λ t. visit t5 t >>= λ t. visit t6 t >>= λ t. visit t7 t >>= λ t. visit t8 t >>= λ t. enter (Octonary t1 t2 t3 t4 t5 t6 t7 t8) t (give (bits_in t t1 ++ bits_in t t2 ++ bits_in t t3 ++ bits_in t t4 ++ bits_in t t5 ++ bits_in t t6 ++ bits_in t t7 ++ bits_in t t8))) = then_grows t4 (λ t. visit t5 t >>= λ t. visit t6 t >>= λ t. visit t7 t >>= λ t. visit t8 t >>= λ t. enter (Octonary t1 t2 t3 t4 t5 t6 t7 t8) t (give (bits_in t t1 ++ bits_in t t2 ++ bits_in t t3 ++ bits_in t t4 ++ bits_in t t5 ++ bits_in t t6 ++ bits_in t t7 ++ bits_in t t8))) g4 in
    let g2 : Growing (λ t. visit t3 t >>= λ t. visit t4 t >>= λ t. visit t5 t >>= λ t. visit t6 t >>= λ t. visit t7 t >>= λ t. visit t8 t >>= λ t. enter (Octonary t1 t2 t3 t4 t5 t6 t7 t8) t (give (bits_in t t1 ++ bits_in t t2 ++ bits_in t t3 ++ bits_in t t4 ++ bits_in t t5 ++ bits_in t t6 ++ bits_in t t7 ++ bits_in t t8))) = then_grows t3 (λ t. visit t4 t >>= λ t. visit t5 t >>= λ t. visit t6 t >>= λ t. visit t7 t >>= λ t. visit t8 t >>= λ t. enter (Octonary t1 t2 t3 t4 t5 t6 t7 t8) t (give (bits_in t t1 ++ bits_in t t2 ++ bits_in t t3 ++ bits_in t t4 ++ bits_in t t5 ++ bits_in t t6 ++ bits_in t t7 ++ bits_in t t8))) g3 in
    let g1 : Growing (λ t. visit t2 t >>= λ t. visit t3 t >>= λ t. visit t4 t >>= λ t. visit t5 t >>= λ t. visit t6 t >>= λ t. visit t7 t >>= λ t. visit t8 t >>= λ t. enter (Octonary t1 t2 t3 t4 t5 t6 t7 t8) t (give (bits_in t t1 ++ bits_in t t2 ++ bits_in t t3 ++ bits_in t t4 ++ bits_in t t5 ++ bits_in t t6 ++ bits_in t t7 ++ bits_in t t8))) = then_grows t2 (λ t. visit t3 t >>= λ t. visit t4 t >>= λ t. visit t5 t >>= λ t. visit t6 t >>= λ t. visit t7 t >>= λ t. visit t8 t >>= λ t. enter (Octonary t1 t2 t3 t4 t5 t6 t7 t8) t (give (bits_in t t1 ++ bits_in t t2 ++ bits_in t t3 ++ bits_in t t4 ++ bits_in t t5 ++ bits_in t t6 ++ bits_in t t7 ++ bits_in t t8))) g2 in
    once_backs values whole (Octonary t1 t2 t3 t4 t5 t6 t7 t8) table (visit t1 table >>= λ t. visit t2 t >>= λ t. visit t3 t >>= λ t. visit t4 t >>= λ t. visit t5 t >>= λ t. visit t6 t >>= λ t. visit t7 t >>= λ t. visit t8 t >>= λ t. enter (Octonary t1 t2 t3 t4 t5 t6 t7 t8) t (give (bits_in t t1 ++ bits_in t t2 ++ bits_in t t3 ++ bits_in t t4 ++ bits_in t t5 ++ bits_in t t6 ++ bits_in t t7 ++ bits_in t t8))) last (is_there (Octonary t1 t2 t3 t4 t5 t6 t7 t8) table) refl prefix hold
    (λ new f0 a0. after_backs values whole truth t1 (all_back values whole truth from known t1) (sort.Word W8) of1.0 (λ t. visit t2 t >>= λ t. visit t3 t >>= λ t. visit t4 t >>= λ t. visit t5 t >>= λ t. visit t6 t >>= λ t. visit t7 t >>= λ t. visit t8 t >>= λ t. enter (Octonary t1 t2 t3 t4 t5 t6 t7 t8) t (give (bits_in t t1 ++ bits_in t t2 ++ bits_in t t3 ++ bits_in t t4 ++ bits_in t t5 ++ bits_in t t6 ++ bits_in t t7 ++ bits_in t t8))) g1 table last shows f0 a0
    (λ n1 e1 v1 f1 a1. after_backs values whole truth t2 (all_back values whole truth from known t2) (sort.Word W8) of2.0 (λ t. visit t3 t >>= λ t. visit t4 t >>= λ t. visit t5 t >>= λ t. visit t6 t >>= λ t. visit t7 t >>= λ t. visit t8 t >>= λ t. enter (Octonary t1 t2 t3 t4 t5 t6 t7 t8) t (give (bits_in t t1 ++ bits_in t t2 ++ bits_in t t3 ++ bits_in t t4 ++ bits_in t t5 ++ bits_in t t6 ++ bits_in t t7 ++ bits_in t t8))) g2 n1 e1 v1.shows f1 a1
    (λ n2 e2 v2 f2 a2. after_backs values whole truth t3 (all_back values whole truth from known t3) (sort.Word W8) of3.0 (λ t. visit t4 t >>= λ t. visit t5 t >>= λ t. visit t6 t >>= λ t. visit t7 t >>= λ t. visit t8 t >>= λ t. enter (Octonary t1 t2 t3 t4 t5 t6 t7 t8) t (give (bits_in t t1 ++ bits_in t t2 ++ bits_in t t3 ++ bits_in t t4 ++ bits_in t t5 ++ bits_in t t6 ++ bits_in t t7 ++ bits_in t t8))) g3 n2 e2 v2.shows f2 a2
    (λ n3 e3 v3 f3 a3. after_backs values whole truth t4 (all_back values whole truth from known t4) (sort.Word W8) of4.0 (λ t. visit t5 t >>= λ t. visit t6 t >>= λ t. visit t7 t >>= λ t. visit t8 t >>= λ t. enter (Octonary t1 t2 t3 t4 t5 t6 t7 t8) t (give (bits_in t t1 ++ bits_in t t2 ++ bits_in t t3 ++ bits_in t t4 ++ bits_in t t5 ++ bits_in t t6 ++ bits_in t t7 ++ bits_in t t8))) g4 n3 e3 v3.shows f3 a3
    (λ n4 e4 v4 f4 a4. after_backs values whole truth t5 (all_back values whole truth from known t5) (sort.Word W8) of5.0 (λ t. visit t6 t >>= λ t. visit t7 t >>= λ t. visit t8 t >>= λ t. enter (Octonary t1 t2 t3 t4 t5 t6 t7 t8) t (give (bits_in t t1 ++ bits_in t t2 ++ bits_in t t3 ++ bits_in t t4 ++ bits_in t t5 ++ bits_in t t6 ++ bits_in t t7 ++ bits_in t t8))) g5 n4 e4 v4.shows f4 a4
    (λ n5 e5 v5 f5 a5. after_backs values whole truth t6 (all_back values whole truth from known t6) (sort.Word W8) of6.0 (λ t. visit t7 t >>= λ t. visit t8 t >>= λ t. enter (Octonary t1 t2 t3 t4 t5 t6 t7 t8) t (give (bits_in t t1 ++ bits_in t t2 ++ bits_in t t3 ++ bits_in t t4 ++ bits_in t t5 ++ bits_in t t6 ++ bits_in t t7 ++ bits_in t t8))) g6 n5 e5 v5.shows f5 a5
    (λ n6 e6 v6 f6 a6. after_backs values whole truth t7 (all_back values whole truth from known t7) (sort.Word W8) of7.0 (λ t. visit t8 t >>= λ t. enter (Octonary t1 t2 t3 t4 t5 t6 t7 t8) t (give (bits_in t t1 ++ bits_in t t2 ++ bits_in t t3 ++ bits_in t t4 ++ bits_in t t5 ++ bits_in t t6 ++ bits_in t t7 ++ bits_in t t8))) g7 n6 e6 v6.shows f6 a6
    (λ n7 e7 v7 f7 a7. after_backs values whole truth t8 (all_back values whole truth from known t8) (sort.Word W8) of8.0 (λ t. enter (Octonary t1 t2 t3 t4 t5 t6 t7 t8) t (give (bits_in t t1 ++ bits_in t t2 ++ bits_in t t3 ++ bits_in t t4 ++ bits_in t t5 ++ bits_in t t6 ++ bits_in t t7 ++ bits_in t t8))) g8 n7 e7 v7.shows f7 a7
    (λ n8 e8 v8 f8 a8. enter_backs values whole (Octonary t1 t2 t3 t4 t5 t6 t7 t8) n8 (give (bits_in n8 t1 ++ bits_in n8 t2 ++ bits_in n8 t3 ++ bits_in n8 t4 ++ bits_in n8 t5 ++ bits_in n8 t6 ++ bits_in n8 t7 ++ bits_in n8 t8)) e8 tt)))))))))
