-- Tables only grow; bits that are there stay.
use Rattle.std.proofs.Common.{◌≡◌, ℕ, Bool, true, false, [], ◌∷◌, ◌++◌, Option, Some, refl, ap, sym, ◌∙◌}
use Rattle.std.specs.Prelude.{if◌then◌else◌, is_some}
use Rattle.std.specs.List.{find}
use Rattle.std.proofs.lemmas.List.{append-nil, append_assoc}
use Rattle.term_core_spec.specs.declared.WordOperator.TheVariants as word
use Rattle.term_core_spec.specs.declared.BinaryOperator.{BinaryOperator}
use Rattle.term_core_spec.specs.declared.BinaryOperator.TheVariants as binary
use Rattle.term_core_spec.specs.Term.{Term, Leaf, Unary, Binary, Ternary, Quaternary, Octonary}
use Rattle.term_core_spec.specs.Same.{same_term}
use Rattle.term_core_spec.proofs.Same.{same_itself}
use Rattle.bit_blast_spec.specs.Gates.{Build, last_of, give, ◌>>=◌}
use Rattle.bit_blast_spec.specs.Circuits.{Bits}
use Rattle.bit_blast_spec.specs.Goal.{Table, is_there, bits_in, found_bits, enter, atom_bits, unary_bits, ternary_bits, quaternary_bits, divided, with_binary, visit}

-- one table is a prefix of another
abbrev pub Prefix : (table whole : Table) → Type 0
Prefix table whole = (more : Table) × (whole ≡ table ++ more)

pub prefix_prefix : (a b c : Table) → Prefix a b → Prefix b c → Prefix a c
prefix_prefix a b c f g = (f.0 ++ g.0, g.1 ∙ ap (λ t. t ++ g.0) f.1 ∙ append_assoc a f.0 g.0)

abbrev entry_test : Term → Term × Bits → Bool
entry_test term entry = same_term term entry.0

prefix_by : (b : Bool) (entry : Term × Bits) (found more : Option (Term × Bits)) → is_some (if b then Some entry else found) ≡ true
    → (is_some found ≡ true → found_bits more ≡ found_bits found) → found_bits (if b then Some entry else more) ≡ found_bits (if b then Some entry else found)
prefix_by true entry found more e f = refl
prefix_by false entry found more e f = f e

more_bits : (term : Term) (table more : Table) → is_there term table ≡ true → bits_in (table ++ more) term ≡ bits_in table term
more_bits term [] more there = absurd (cc)
more_bits term (entry ∷ table) more there =
    prefix_by (same_term term entry.0) entry (find (entry_test term) table) (find (entry_test term) (table ++ more)) there (more_bits term table more)

pub prefix_bits : (term : Term) (table whole : Table) → Prefix table whole → is_there term table ≡ true → bits_in whole term ≡ bits_in table term
prefix_bits term table whole prefix there = ap (λ t. bits_in t term) prefix.1 ∙ more_bits term table prefix.0 there

new_by : (b : Bool) (entry : Term × Bits) (found more : Option (Term × Bits)) (bits : Bits) → is_some (if b then Some entry else found) ≡ false
    → (is_some found ≡ false → found_bits more ≡ bits) → found_bits (if b then Some entry else more) ≡ bits
new_by true entry found more bits e f = absurd (cc)
new_by false entry found more bits e f = f e

pub new_there : (term : Term) (table : Table) (found : Bits) (more : Table) → is_there term table ≡ false → bits_in (table ++ (term, found) ∷ more) term ≡ found
new_there term [] found more there = ap (λ b. found_bits (if b then Some (term, found) else find (entry_test term) more)) (same_itself term)
new_there term (entry ∷ table) found more there =
    new_by (same_term term entry.0) entry (find (entry_test term) table) (find (entry_test term) (table ++ (term, found) ∷ more)) found there
    (new_there term table found more)

-- ---- what is made grows a table

abbrev pub Growing : (Table → Build Table) → Type 0
Growing build = (table : Table) (last : ℕ) → Prefix table (build table last).out

unfoldable pub Grows : Term → Type 0
Grows t = (table : Table) (last : ℕ) → Prefix table (visit t table last).out

once_grows : (table : Table) (build : Build Table) (last : ℕ) (b : Bool) → Prefix table (build last).out → Prefix table ((if b then give table else build) last).out
once_grows table build last true prefix = ([], sym (append-nil table))
once_grows table build last false prefix = prefix

term_then : (t : Term) → Grows t → (more : Table → Build Table) → Growing more → Growing (λ table. visit t table >>= more)
unfolding Grows
term_then t grows more growing table last =
    let first = visit t table last in
    let after = last_of last first.gates in
    prefix_prefix table first.out (more first.out after).out (grows table last) (growing first.out after)

pub divided_grows : (x y : Term) → Growing (λ t. divided x y t)
unfolding divided
divided_grows x y table last = (_, refl)

pub binary_grows : (operator : BinaryOperator) (x y : Term) → Growing (λ t. with_binary operator x y t)
binary_grows binary.And x y table last = (_, refl)
binary_grows binary.Or x y table last = (_, refl)
binary_grows binary.Equal x y table last = (_, refl)
binary_grows binary.Less x y table last = (_, refl)
binary_grows binary.Load x y table last = (_, refl)
binary_grows binary.Join x y table last = (_, refl)
binary_grows (binary.Word word.Divide) x y table last = divided_grows x y table last
binary_grows (binary.Word word.Remainder) x y table last = divided_grows x y table last
binary_grows (binary.Word word.Add) x y table last = (_, refl)
binary_grows (binary.Word word.Subtract) x y table last = (_, refl)
binary_grows (binary.Word word.Multiply) x y table last = (_, refl)
binary_grows (binary.Word word.And) x y table last = (_, refl)
binary_grows (binary.Word word.Or) x y table last = (_, refl)
binary_grows (binary.Word word.Xor) x y table last = (_, refl)
binary_grows (binary.Word word.ShiftLeft) x y table last = (_, refl)
binary_grows (binary.Word word.ShiftRight) x y table last = (_, refl)
binary_grows (binary.Word word.ShiftRightSigned) x y table last = (_, refl)

pub all_grow : (t : Term) → Grows t
unfolding Grows visit
all_grow (Leaf leaf) table last = once_grows table (enter (Leaf leaf) table (atom_bits leaf)) last (is_there (Leaf leaf) table) (_, refl)
all_grow (Unary operator x) table last =
    once_grows table (visit x table >>= λ t. enter (Unary operator x) t (unary_bits operator (bits_in t x))) last (is_there (Unary operator x) table)
    ((term_then x (all_grow x) (λ t. enter (Unary operator x) t (unary_bits operator (bits_in t x)))
    (λ table last. (_, refl))) table last)
all_grow (Binary operator x y) table last =
    once_grows table (visit x table >>= λ t. visit y t >>= λ t. with_binary operator x y t) last (is_there (Binary operator x y) table)
    ((term_then x (all_grow x) (λ t. visit y t >>= λ t. with_binary operator x y t)
    (term_then y (all_grow y) (λ t. with_binary operator x y t)
    (binary_grows operator x y))) table last)
all_grow (Ternary operator x y z) table last =
    once_grows table (visit x table >>= λ t. visit y t >>= λ t. visit z t >>= λ t. enter (Ternary operator x y z) t (ternary_bits operator (bits_in t x) (bits_in t y) (bits_in t z))) last (is_there (Ternary operator x y z) table)
    ((term_then x (all_grow x) (λ t. visit y t >>= λ t. visit z t >>= λ t. enter (Ternary operator x y z) t (ternary_bits operator (bits_in t x) (bits_in t y) (bits_in t z)))
    (term_then y (all_grow y) (λ t. visit z t >>= λ t. enter (Ternary operator x y z) t (ternary_bits operator (bits_in t x) (bits_in t y) (bits_in t z)))
    (term_then z (all_grow z) (λ t. enter (Ternary operator x y z) t (ternary_bits operator (bits_in t x) (bits_in t y) (bits_in t z)))
    (λ table last. (_, refl))))) table last)
all_grow (Quaternary operator x y z k) table last =
    once_grows table (visit x table >>= λ t. visit y t >>= λ t. visit z t >>= λ t. visit k t >>= λ t. enter (Quaternary operator x y z k) t (quaternary_bits operator (bits_in t x) (bits_in t y) (bits_in t z) (bits_in t k))) last (is_there (Quaternary operator x y z k) table)
    ((term_then x (all_grow x) (λ t. visit y t >>= λ t. visit z t >>= λ t. visit k t >>= λ t. enter (Quaternary operator x y z k) t (quaternary_bits operator (bits_in t x) (bits_in t y) (bits_in t z) (bits_in t k)))
    (term_then y (all_grow y) (λ t. visit z t >>= λ t. visit k t >>= λ t. enter (Quaternary operator x y z k) t (quaternary_bits operator (bits_in t x) (bits_in t y) (bits_in t z) (bits_in t k)))
    (term_then z (all_grow z) (λ t. visit k t >>= λ t. enter (Quaternary operator x y z k) t (quaternary_bits operator (bits_in t x) (bits_in t y) (bits_in t z) (bits_in t k)))
    (term_then k (all_grow k) (λ t. enter (Quaternary operator x y z k) t (quaternary_bits operator (bits_in t x) (bits_in t y) (bits_in t z) (bits_in t k)))
    (λ table last. (_, refl)))))) table last)
all_grow (Octonary t1 t2 t3 t4 t5 t6 t7 t8) table last =
    once_grows table (visit t1 table >>= λ t. visit t2 t >>= λ t. visit t3 t >>= λ t. visit t4 t >>= λ t. visit t5 t >>= λ t. visit t6 t >>= λ t. visit t7 t >>= λ t. visit t8 t >>= λ t. enter (Octonary t1 t2 t3 t4 t5 t6 t7 t8) t (give (bits_in t t1 ++ bits_in t t2 ++ bits_in t t3 ++ bits_in t t4 ++ bits_in t t5 ++ bits_in t t6 ++ bits_in t t7 ++ bits_in t t8))) last (is_there (Octonary t1 t2 t3 t4 t5 t6 t7 t8) table)
    ((term_then t1 (all_grow t1) (λ t. visit t2 t >>= λ t. visit t3 t >>= λ t. visit t4 t >>= λ t. visit t5 t >>= λ t. visit t6 t >>= λ t. visit t7 t >>= λ t. visit t8 t >>= λ t. enter (Octonary t1 t2 t3 t4 t5 t6 t7 t8) t (give (bits_in t t1 ++ bits_in t t2 ++ bits_in t t3 ++ bits_in t t4 ++ bits_in t t5 ++ bits_in t t6 ++ bits_in t t7 ++ bits_in t t8)))
    (term_then t2 (all_grow t2) (λ t. visit t3 t >>= λ t. visit t4 t >>= λ t. visit t5 t >>= λ t. visit t6 t >>= λ t. visit t7 t >>= λ t. visit t8 t >>= λ t. enter (Octonary t1 t2 t3 t4 t5 t6 t7 t8) t (give (bits_in t t1 ++ bits_in t t2 ++ bits_in t t3 ++ bits_in t t4 ++ bits_in t t5 ++ bits_in t t6 ++ bits_in t t7 ++ bits_in t t8)))
    (term_then t3 (all_grow t3) (λ t. visit t4 t >>= λ t. visit t5 t >>= λ t. visit t6 t >>= λ t. visit t7 t >>= λ t. visit t8 t >>= λ t. enter (Octonary t1 t2 t3 t4 t5 t6 t7 t8) t (give (bits_in t t1 ++ bits_in t t2 ++ bits_in t t3 ++ bits_in t t4 ++ bits_in t t5 ++ bits_in t t6 ++ bits_in t t7 ++ bits_in t t8)))
    (term_then t4 (all_grow t4) (λ t. visit t5 t >>= λ t. visit t6 t >>= λ t. visit t7 t >>= λ t. visit t8 t >>= λ t. enter (Octonary t1 t2 t3 t4 t5 t6 t7 t8) t (give (bits_in t t1 ++ bits_in t t2 ++ bits_in t t3 ++ bits_in t t4 ++ bits_in t t5 ++ bits_in t t6 ++ bits_in t t7 ++ bits_in t t8)))
    (term_then t5 (all_grow t5) (λ t. visit t6 t >>= λ t. visit t7 t >>= λ t. visit t8 t >>= λ t. enter (Octonary t1 t2 t3 t4 t5 t6 t7 t8) t (give (bits_in t t1 ++ bits_in t t2 ++ bits_in t t3 ++ bits_in t t4 ++ bits_in t t5 ++ bits_in t t6 ++ bits_in t t7 ++ bits_in t t8)))
    (term_then t6 (all_grow t6) (λ t. visit t7 t >>= λ t. visit t8 t >>= λ t. enter (Octonary t1 t2 t3 t4 t5 t6 t7 t8) t (give (bits_in t t1 ++ bits_in t t2 ++ bits_in t t3 ++ bits_in t t4 ++ bits_in t t5 ++ bits_in t t6 ++ bits_in t t7 ++ bits_in t t8)))
    (term_then t7 (all_grow t7) (λ t. visit t8 t >>= λ t. enter (Octonary t1 t2 t3 t4 t5 t6 t7 t8) t (give (bits_in t t1 ++ bits_in t t2 ++ bits_in t t3 ++ bits_in t t4 ++ bits_in t t5 ++ bits_in t t6 ++ bits_in t t7 ++ bits_in t t8)))
    (term_then t8 (all_grow t8) (λ t. enter (Octonary t1 t2 t3 t4 t5 t6 t7 t8) t (give (bits_in t t1 ++ bits_in t t2 ++ bits_in t t3 ++ bits_in t t4 ++ bits_in t t5 ++ bits_in t t6 ++ bits_in t t7 ++ bits_in t t8)))
    (λ table last. (_, refl)))))))))) table last)

-- a visit and what comes then
pub then_grows : (t : Term) (more : Table → Build Table) → Growing more → Growing (λ table. visit t table >>= more)
then_grows t more growing = term_then t (all_grow t) more growing
