-- Each term that is taken has bits that show its value.
use Rattle.std.proofs.Common.{◌≡◌, ◌<◌, ◌+◌, ◌^◌, ℕ, zero, suc, Bool, true, false, List, [], ◌∷◌, ◌++◌, length, Option, Some, None, refl, ap, sym, ◌∙◌, subst, arith}
use Rattle.std.specs.Prelude.{◌&&◌}
use Rattle.std.proofs.lemmas.Bool.{and_parts}
use Rattle.std.proofs.lemmas.List.{append-nil, append_assoc}
use Rattle.clause_check_spec.specs.Clause.{Valuation}
use Rattle.term_core_spec.specs.declared.Width.{Width}
use Rattle.term_core_spec.specs.declared.Width.TheVariants.{W8, W64}
use Rattle.term_core_spec.specs.declared.Sort.{Sort}
use Rattle.term_core_spec.specs.declared.Sort.TheVariants as sort
use Rattle.term_core_spec.specs.declared.Atom.{Atom}
use Rattle.term_core_spec.specs.declared.UnaryOperator.{UnaryOperator}
use Rattle.term_core_spec.specs.declared.WordOperator.{WordOperator}
use Rattle.term_core_spec.specs.declared.WordOperator.TheVariants as word
use Rattle.term_core_spec.specs.declared.TernaryOperator.{TernaryOperator}
use Rattle.term_core_spec.specs.declared.QuaternaryOperator.{QuaternaryOperator}
use Rattle.term_core_spec.specs.declared.BinaryOperator.{BinaryOperator}
use Rattle.term_core_spec.specs.declared.BinaryOperator.TheVariants as binary
use Rattle.term_core_spec.specs.Term.{Term, Leaf, Unary, Binary, Ternary, Quaternary, Octonary, divide, remainder}
use Rattle.term_core_spec.specs.Sort.{bits, same_sort, is_word, is_byte, is_memory, is_address, all_bytes, sort_if, sort_of, sort_of_unary, sort_of_binary, sort_of_ternary, sort_of_quaternary}
use Rattle.term_core_spec.specs.Value.{Value, Number, IsOfSort, Assignment, IsAssignment, operation, on_two_words, joined, value, unary_value, binary_value, ternary_value, quaternary_value}
use Rattle.term_core_spec.proofs.Sorts.{same_sort-true, sort_if-some, with_one-some, with_two-some, with_three-some, with_four-some}
use Rattle.term_core_spec.proofs.Soundness.{value-sort, ternary_value-sort, quaternary_value-sort, of_same_sort, on_two_words-same}
use Rattle.bit_blast_spec.specs.Gates.{Gate, Build, last_of, give, ◌>>=◌}
use Rattle.bit_blast_spec.specs.Circuits.{Bits, new_bits, division}
use Rattle.bit_blast_spec.specs.Goal.{Table, is_there, bits_in, enter, once, atom_bits, unary_bits, binary_bits, ternary_bits, quaternary_bits, divided, with_binary, visit}
use Rattle.bit_blast_laws.specs.Meaning.{number_of, AllHold}
use Rattle.bit_blast_laws.proofs.Division.{division_holds}
use Rattle.bit_blast_laws.specs.Shows.{Shows, AllShow}
use Rattle.bit_blast_laws.proofs.Unaries.{unary_shows}
use Rattle.bit_blast_laws.proofs.Binaries.{is_divided}
use Rattle.bit_blast_laws.proofs.Leaves.{new_length, read_word_shows, atom_shows, joined_shows}
use Rattle.bit_blast_laws.proofs.Operators.{at_words, is_plain, binary_shows, ternary_shows, quaternary_shows}
use Rattle.bit_blast_laws.proofs.Tables.{Obeys, obeys_parts, Visited, entered, once_visited, shown_there, shown_more, still_there, now_there}

-- with what was there before the arguments
onwards : (values : Valuation) (assignment : Assignment) (term : Term) (before middle after : Table)
    → ((other : Term) → is_there other before ≡ true → is_there other middle ≡ true)
    → Visited values assignment term middle after → Visited values assignment term before after
onwards values assignment term before middle after kept visited = record {
  shows = visited.shows;
  there = visited.there;
  kept = λ other there. visited.kept other (kept other there);
}

-- ---- two arguments

plain_visited : (values : Valuation) (assignment : Assignment) → values 1 ≡ true → IsAssignment assignment
    → (operator : BinaryOperator) (x y : Term) (p q s : Sort) (table : Table) (last : ℕ) → is_plain operator ≡ true → sort_of_binary operator p q ≡ Some s
    → sort_of x ≡ Some p → sort_of y ≡ Some q → AllShow values assignment table → is_there x table ≡ true → is_there y table ≡ true
    → Obeys values assignment last (enter (Binary operator x y) table (binary_bits (Binary operator x y) operator (bits_in table x) (bits_in table y)) last).gates
    → Visited values assignment (Binary operator x y) table (enter (Binary operator x y) table (binary_bits (Binary operator x y) operator (bits_in table x) (bits_in table y)) last).out
unfolding value
plain_visited values assignment truth h operator x y p q s table last plain e sx sy all tx ty obeys =
    let made = binary_bits (Binary operator x y) operator (bits_in table x) (bits_in table y) last in
    let parts = obeys_parts values assignment last made.gates [] obeys in
    entered values assignment (Binary operator x y) table made.out all
    (binary_shows values (Binary operator x y) operator p q s (value assignment x) (value assignment y) (bits_in table x) (bits_in table y) last truth plain e
    (value-sort assignment h x p sx) (value-sort assignment h y q sy)
    (shown_there values assignment x table all tx) (shown_there values assignment y table all ty) parts.0.hold)

load_visited : (values : Valuation) (assignment : Assignment) → IsAssignment assignment
    → (x y : Term) (s : Sort) (table : Table) (last : ℕ) → sort_of (Binary binary.Load x y) ≡ Some s → s ≡ sort.Word W8 → AllShow values assignment table
    → Obeys values assignment last (enter (Binary binary.Load x y) table (new_bits (Binary binary.Load x y) 0 8) last).gates
    → Visited values assignment (Binary binary.Load x y) table (enter (Binary binary.Load x y) table (new_bits (Binary binary.Load x y) 0 8) last).out
load_visited values assignment h x y s table last e byte all obeys =
    let load = Binary binary.Load x y in
    let parts = obeys_parts values assignment last (new_bits load 0 8 last).gates [] obeys in
    entered values assignment load table (new_bits load 0 8 last).out all
    (read_word_shows assignment values load W8 (value assignment load) last refl refl
    (of_same_sort s (sort.Word W8) (value assignment load) byte (value-sort assignment h load s e)) parts.0.read)

-- both the quotient and the remainder
record Divided (values : Valuation) (assignment : Assignment) (x y : Term) (before after : Table) : Type 0 where
  quotient : Visited values assignment (divide x y) before after
  rest : Visited values assignment (remainder x y) before after

quotient_shows : (values : Valuation) (operator : WordOperator) (p q : Sort) (x y : Value) (xs ys found : Bits) → is_word p ≡ true → same_sort p q ≡ true
    → IsOfSort p x → IsOfSort q y → Shows values x xs → Shows values y ys → length found ≡ length xs
    → number_of values found ≡ operation operator (length xs) (number_of values xs) (number_of values ys)
    → Shows values (on_two_words (λ w a b. Number w (operation operator (bits w) a b)) x y) found
quotient_shows values operator p q x y xs ys found of_words same hx hy sx sy long number =
    at_words (λ u v. Shows values u xs → Shows values v ys → Shows values (on_two_words (λ w a b. Number w (operation operator (bits w) a b)) u v) found) p q x y of_words same hx hy
    (λ w a b below_a below_b sx sy.
    subst (λ u. Shows values u found) (sym (on_two_words-same (λ w a b. Number w (operation operator (bits w) a b)) w a b)) (
      long ∙ sx.0,
      number ∙ ap (λ n. operation operator n (number_of values xs) (number_of values ys)) sx.0
          ∙ ap (λ n. operation operator (bits w) n (number_of values ys)) sx.1 ∙ ap (operation operator (bits w) a) sy.1,
    )) sx sy

same_length : (values : Valuation) (p q : Sort) (x y : Value) (xs ys : Bits) → is_word p ≡ true → same_sort p q ≡ true
    → IsOfSort p x → IsOfSort q y → Shows values x xs → Shows values y ys → length ys ≡ length xs
same_length values p q x y xs ys of_words same hx hy sx sy =
    at_words (λ u v. Shows values u xs → Shows values v ys → length ys ≡ length xs) p q x y of_words same hx hy
    (λ w a b below_a below_b sx sy. sy.0 ∙ sym sx.0) sx sy

divided_visited : (values : Valuation) (assignment : Assignment) → values 1 ≡ true → IsAssignment assignment
    → (x y : Term) (p q : Sort) (table : Table) (last : ℕ) → is_word p ≡ true → same_sort p q ≡ true
    → sort_of x ≡ Some p → sort_of y ≡ Some q → AllShow values assignment table → is_there x table ≡ true → is_there y table ≡ true
    → Obeys values assignment last (divided x y table last).gates → Divided values assignment x y table (divided x y table last).out
unfolding divided value binary_value
divided_visited values assignment truth h x y p q table last of_words same sx sy all tx ty obeys =
    let xs = bits_in table x in
    let ys = bits_in table y in
    let quotients = new_bits (divide x y) 0 (length xs) last in
    let first = last_of last quotients.gates in
    let rests = new_bits (remainder x y) 0 (length xs) first in
    let second = last_of first rests.gates in
    let gates = division quotients.out rests.out xs ys second in
    let one = obeys_parts values assignment last quotients.gates (rests.gates ++ (gates.gates ++ [])) obeys in
    let two = obeys_parts values assignment first rests.gates (gates.gates ++ []) one.1 in
    let three = obeys_parts values assignment second gates.gates [] two.1 in
    let hx = value-sort assignment h x p sx in
    let hy = value-sort assignment h y q sy in
    let show_x = shown_there values assignment x table all tx in
    let show_y = shown_there values assignment y table all ty in
    let long_y = same_length values p q (value assignment x) (value assignment y) xs ys of_words same hx hy show_x show_y in
    let long_q = new_length (divide x y) 0 (length xs) last in
    let long_r = new_length (remainder x y) 0 (length xs) first in
    let found = division_holds values quotients.out rests.out xs ys second truth long_q long_r long_y three.0.hold in
    let show_q = quotient_shows values word.Divide p q (value assignment x) (value assignment y) xs ys quotients.out of_words same hx hy show_x show_y long_q found.quotient in
    let show_r = quotient_shows values word.Remainder p q (value assignment x) (value assignment y) xs ys rests.out of_words same hx hy show_x show_y long_r found.remainder in
    let entries = (divide x y, quotients.out) ∷ (remainder x y, rests.out) ∷ [] in
    let shows = shown_more values assignment table entries all (show_q, (show_r, tt)) in
    let kept = λ (other : Term) (there : is_there other table ≡ true). still_there other table entries there in
    record {
      quotient = record { shows = shows; there = now_there (divide x y) table quotients.out ((remainder x y, rests.out) ∷ []); kept = kept };
      rest = record {
        shows = shows;
        there = subst (λ t. is_there (remainder x y) t ≡ true) (append_assoc table ((divide x y, quotients.out) ∷ []) ((remainder x y, rests.out) ∷ []))
            (now_there (remainder x y) (table ++ (divide x y, quotients.out) ∷ []) rests.out []);
        kept = kept;
      };
    }

-- a term of two arguments that are there
binary_visited : (values : Valuation) (assignment : Assignment) → values 1 ≡ true → IsAssignment assignment
    → (operator : BinaryOperator) (x y : Term) (p q s : Sort) (table : Table) (last : ℕ) → sort_of_binary operator p q ≡ Some s
    → sort_of x ≡ Some p → sort_of y ≡ Some q → sort_of (Binary operator x y) ≡ Some s → AllShow values assignment table → is_there x table ≡ true → is_there y table ≡ true
    → Obeys values assignment last (with_binary operator x y table last).gates
    → Visited values assignment (Binary operator x y) table (with_binary operator x y table last).out
unfolding sort_of_binary binary_bits
binary_visited values assignment truth h binary.And x y p q s table last e sx sy whole all tx ty obeys =
    plain_visited values assignment truth h binary.And x y p q s table last refl e sx sy all tx ty obeys
binary_visited values assignment truth h binary.Or x y p q s table last e sx sy whole all tx ty obeys =
    plain_visited values assignment truth h binary.Or x y p q s table last refl e sx sy all tx ty obeys
binary_visited values assignment truth h binary.Equal x y p q s table last e sx sy whole all tx ty obeys =
    plain_visited values assignment truth h binary.Equal x y p q s table last refl e sx sy all tx ty obeys
binary_visited values assignment truth h binary.Less x y p q s table last e sx sy whole all tx ty obeys =
    plain_visited values assignment truth h binary.Less x y p q s table last refl e sx sy all tx ty obeys
binary_visited values assignment truth h binary.Join x y p q s table last e sx sy whole all tx ty obeys =
    plain_visited values assignment truth h binary.Join x y p q s table last refl e sx sy all tx ty obeys
binary_visited values assignment truth h binary.Load x y p q s table last e sx sy whole all tx ty obeys =
    load_visited values assignment h x y s table last whole (sym (sort_if-some (is_memory p && is_address q) (sort.Word W8) s e).1) all obeys
binary_visited values assignment truth h (binary.Word word.Divide) x y p q s table last e sx sy whole all tx ty obeys =
    let tests = and_parts (is_word p) (same_sort p q) (sort_if-some (is_word p && same_sort p q) p s e).0 in
    (divided_visited values assignment truth h x y p q table last tests.0 tests.1 sx sy all tx ty obeys).quotient
binary_visited values assignment truth h (binary.Word word.Remainder) x y p q s table last e sx sy whole all tx ty obeys =
    let tests = and_parts (is_word p) (same_sort p q) (sort_if-some (is_word p && same_sort p q) p s e).0 in
    (divided_visited values assignment truth h x y p q table last tests.0 tests.1 sx sy all tx ty obeys).rest
binary_visited values assignment truth h (binary.Word word.Add) x y p q s table last e sx sy whole all tx ty obeys =
    plain_visited values assignment truth h (binary.Word word.Add) x y p q s table last refl e sx sy all tx ty obeys
binary_visited values assignment truth h (binary.Word word.Subtract) x y p q s table last e sx sy whole all tx ty obeys =
    plain_visited values assignment truth h (binary.Word word.Subtract) x y p q s table last refl e sx sy all tx ty obeys
binary_visited values assignment truth h (binary.Word word.Multiply) x y p q s table last e sx sy whole all tx ty obeys =
    plain_visited values assignment truth h (binary.Word word.Multiply) x y p q s table last refl e sx sy all tx ty obeys
binary_visited values assignment truth h (binary.Word word.And) x y p q s table last e sx sy whole all tx ty obeys =
    plain_visited values assignment truth h (binary.Word word.And) x y p q s table last refl e sx sy all tx ty obeys
binary_visited values assignment truth h (binary.Word word.Or) x y p q s table last e sx sy whole all tx ty obeys =
    plain_visited values assignment truth h (binary.Word word.Or) x y p q s table last refl e sx sy all tx ty obeys
binary_visited values assignment truth h (binary.Word word.Xor) x y p q s table last e sx sy whole all tx ty obeys =
    plain_visited values assignment truth h (binary.Word word.Xor) x y p q s table last refl e sx sy all tx ty obeys
binary_visited values assignment truth h (binary.Word word.ShiftLeft) x y p q s table last e sx sy whole all tx ty obeys =
    plain_visited values assignment truth h (binary.Word word.ShiftLeft) x y p q s table last refl e sx sy all tx ty obeys
binary_visited values assignment truth h (binary.Word word.ShiftRight) x y p q s table last e sx sy whole all tx ty obeys =
    plain_visited values assignment truth h (binary.Word word.ShiftRight) x y p q s table last refl e sx sy all tx ty obeys
binary_visited values assignment truth h (binary.Word word.ShiftRightSigned) x y p q s table last e sx sy whole all tx ty obeys =
    plain_visited values assignment truth h (binary.Word word.ShiftRightSigned) x y p q s table last refl e sx sy all tx ty obeys

-- ---- all terms

-- each term that is well sorted is taken so
unfoldable pub Takes : Valuation → Assignment → Term → Type 0
Takes values assignment t =
    (s : Sort) → sort_of t ≡ Some s → (table : Table) (last : ℕ) → AllShow values assignment table → Obeys values assignment last (visit t table last).gates
    → Visited values assignment t table (visit t table last).out

leaf_taken : (values : Valuation) (assignment : Assignment) (truth : values 1 ≡ true) (h : IsAssignment assignment) (leaf : Atom) → Takes values assignment (Leaf leaf)
unfolding Takes visit sort_of
leaf_taken values assignment truth h leaf s e table last all obeys =
    once_visited values assignment (Leaf leaf) table (enter (Leaf leaf) table (atom_bits leaf)) last (is_there (Leaf leaf) table) refl all obeys
    (λ own.
    let parts = obeys_parts values assignment last (atom_bits leaf last).gates [] own in
    entered values assignment (Leaf leaf) table (atom_bits leaf last).out all (atom_shows assignment values leaf s last truth h e parts.0.read))

unary_taken : (values : Valuation) (assignment : Assignment) (truth : values 1 ≡ true) (h : IsAssignment assignment)
    (operator : UnaryOperator) (x : Term) → Takes values assignment x → Takes values assignment (Unary operator x)
unfolding Takes visit sort_of value
unary_taken values assignment truth h operator x take_x s e table last all obeys =
    let sorts = with_one-some (sort_of_unary operator) (sort_of x) s e in
    once_visited values assignment (Unary operator x) table (visit x table >>= λ t. enter (Unary operator x) t (unary_bits operator (bits_in t x))) last
    (is_there (Unary operator x) table) refl all obeys
    (λ own.
    let first = visit x table last in
    let made = unary_bits operator (bits_in first.out x) (last_of last first.gates) in
    let parts = obeys_parts values assignment last first.gates (made.gates ++ []) own in
    let v = take_x sorts.0 sorts.1 table last all parts.0 in
    onwards values assignment (Unary operator x) table first.out (first.out ++ (Unary operator x, made.out) ∷ []) v.kept
    (entered values assignment (Unary operator x) first.out made.out v.shows
    (unary_shows values operator sorts.0 s (value assignment x) (bits_in first.out x) (last_of last first.gates) truth sorts.2
    (value-sort assignment h x sorts.0 sorts.1) (shown_there values assignment x first.out v.shows v.there))))

binary_taken : (values : Valuation) (assignment : Assignment) (truth : values 1 ≡ true) (h : IsAssignment assignment)
    (operator : BinaryOperator) (x y : Term) → Takes values assignment x → Takes values assignment y → Takes values assignment (Binary operator x y)
unfolding Takes visit sort_of
binary_taken values assignment truth h operator x y take_x take_y s e table last all obeys =
    let sorts = with_two-some (sort_of_binary operator) (sort_of x) (sort_of y) s e in
    once_visited values assignment (Binary operator x y) table (visit x table >>= λ t. visit y t >>= λ t. with_binary operator x y t) last
    (is_there (Binary operator x y) table) refl all obeys
    (λ own.
    let first = visit x table last in
    let then_last = last_of last first.gates in
    let second = visit y first.out then_last in
    let end_last = last_of then_last second.gates in
    let made = with_binary operator x y second.out end_last in
    let one = obeys_parts values assignment last first.gates (second.gates ++ made.gates) own in
    let two = obeys_parts values assignment then_last second.gates made.gates one.1 in
    let v = take_x sorts.0 sorts.2 table last all one.0 in
    let w = take_y sorts.1 sorts.3 first.out then_last v.shows two.0 in
    onwards values assignment (Binary operator x y) table second.out made.out (λ other there. w.kept other (v.kept other there))
    (binary_visited values assignment truth h operator x y sorts.0 sorts.1 s second.out end_last sorts.4 sorts.2 sorts.3 e w.shows (w.kept x v.there) w.there two.1))

ternary_taken : (values : Valuation) (assignment : Assignment) (truth : values 1 ≡ true) (h : IsAssignment assignment)
    (operator : TernaryOperator) (x y z : Term) → Takes values assignment x → Takes values assignment y → Takes values assignment z → Takes values assignment (Ternary operator x y z)
unfolding Takes visit sort_of value
ternary_taken values assignment truth h operator x y z take_x take_y take_z s e table last all obeys =
    let sorts = with_three-some (sort_of_ternary operator) (sort_of x) (sort_of y) (sort_of z) s e in
    once_visited values assignment (Ternary operator x y z) table
    (visit x table >>= λ t. visit y t >>= λ t. visit z t >>= λ t.
    enter (Ternary operator x y z) t (ternary_bits operator (bits_in t x) (bits_in t y) (bits_in t z))) last
    (is_there (Ternary operator x y z) table) refl all obeys
    (λ own.
    let a = visit x table last in
    let la = last_of last a.gates in
    let b = visit y a.out la in
    let lb = last_of la b.gates in
    let d = visit z b.out lb in
    let ld = last_of lb d.gates in
    let made = ternary_bits operator (bits_in d.out x) (bits_in d.out y) (bits_in d.out z) ld in
    let one = obeys_parts values assignment last a.gates (b.gates ++ (d.gates ++ (made.gates ++ []))) own in
    let two = obeys_parts values assignment la b.gates (d.gates ++ (made.gates ++ [])) one.1 in
    let three = obeys_parts values assignment lb d.gates (made.gates ++ []) two.1 in
    let four = obeys_parts values assignment ld made.gates [] three.1 in
    let u = take_x sorts.0 sorts.3 table last all one.0 in
    let v = take_y sorts.1 sorts.4 a.out la u.shows two.0 in
    let w = take_z sorts.2 sorts.5 b.out lb v.shows three.0 in
    let hx = value-sort assignment h x sorts.0 sorts.3 in
    let hy = value-sort assignment h y sorts.1 sorts.4 in
    let hz = value-sort assignment h z sorts.2 sorts.5 in
    onwards values assignment (Ternary operator x y z) table d.out (d.out ++ (Ternary operator x y z, made.out) ∷ [])
    (λ other there. w.kept other (v.kept other (u.kept other there)))
    (entered values assignment (Ternary operator x y z) d.out made.out w.shows
    (ternary_shows values operator sorts.0 sorts.1 sorts.2 s (value assignment x) (value assignment y) (value assignment z)
    (bits_in d.out x) (bits_in d.out y) (bits_in d.out z) ld sorts.6 hx hy hz
    (ternary_value-sort operator sorts.0 sorts.1 sorts.2 s (value assignment x) (value assignment y) (value assignment z) sorts.6 hx hy hz)
    (shown_there values assignment x d.out w.shows (w.kept x (v.kept x u.there)))
    (shown_there values assignment y d.out w.shows (w.kept y v.there))
    (shown_there values assignment z d.out w.shows w.there) four.0.hold)))

quaternary_taken : (values : Valuation) (assignment : Assignment) (truth : values 1 ≡ true) (h : IsAssignment assignment)
    (operator : QuaternaryOperator) (x y z k : Term) → Takes values assignment x → Takes values assignment y → Takes values assignment z → Takes values assignment k
    → Takes values assignment (Quaternary operator x y z k)
unfolding Takes visit sort_of value
quaternary_taken values assignment truth h operator x y z k take_x take_y take_z take_k s e table last all obeys =
    let sorts = with_four-some (sort_of_quaternary operator) (sort_of x) (sort_of y) (sort_of z) (sort_of k) s e in
    once_visited values assignment (Quaternary operator x y z k) table
    (visit x table >>= λ t. visit y t >>= λ t. visit z t >>= λ t. visit k t >>= λ t.
    enter (Quaternary operator x y z k) t (quaternary_bits operator (bits_in t x) (bits_in t y) (bits_in t z) (bits_in t k))) last
    (is_there (Quaternary operator x y z k) table) refl all obeys
    (λ own.
    let a = visit x table last in
    let la = last_of last a.gates in
    let b = visit y a.out la in
    let lb = last_of la b.gates in
    let d = visit z b.out lb in
    let ld = last_of lb d.gates in
    let f = visit k d.out ld in
    let lf = last_of ld f.gates in
    let made = quaternary_bits operator (bits_in f.out x) (bits_in f.out y) (bits_in f.out z) (bits_in f.out k) lf in
    let one = obeys_parts values assignment last a.gates (b.gates ++ (d.gates ++ (f.gates ++ (made.gates ++ [])))) own in
    let two = obeys_parts values assignment la b.gates (d.gates ++ (f.gates ++ (made.gates ++ []))) one.1 in
    let three = obeys_parts values assignment lb d.gates (f.gates ++ (made.gates ++ [])) two.1 in
    let four = obeys_parts values assignment ld f.gates (made.gates ++ []) three.1 in
    let u = take_x sorts.0 sorts.4 table last all one.0 in
    let v = take_y sorts.1 sorts.5 a.out la u.shows two.0 in
    let w = take_z sorts.2 sorts.6 b.out lb v.shows three.0 in
    let g = take_k sorts.3 sorts.7 d.out ld w.shows four.0 in
    let hx = value-sort assignment h x sorts.0 sorts.4 in
    let hy = value-sort assignment h y sorts.1 sorts.5 in
    let hz = value-sort assignment h z sorts.2 sorts.6 in
    let hk = value-sort assignment h k sorts.3 sorts.7 in
    onwards values assignment (Quaternary operator x y z k) table f.out (f.out ++ (Quaternary operator x y z k, made.out) ∷ [])
    (λ other there. g.kept other (w.kept other (v.kept other (u.kept other there))))
    (entered values assignment (Quaternary operator x y z k) f.out made.out g.shows
    (quaternary_shows values operator sorts.0 sorts.1 sorts.2 sorts.3 s (value assignment x) (value assignment y) (value assignment z) (value assignment k)
    (bits_in f.out x) (bits_in f.out y) (bits_in f.out z) (bits_in f.out k) lf sorts.8 hx hy hz hk
    (quaternary_value-sort operator sorts.0 sorts.1 sorts.2 sorts.3 s (value assignment x) (value assignment y) (value assignment z) (value assignment k) sorts.8 hx hy hz hk)
    (shown_there values assignment x f.out g.shows (g.kept x (w.kept x (v.kept x u.there))))
    (shown_there values assignment y f.out g.shows (g.kept y (w.kept y v.there)))
    (shown_there values assignment z f.out g.shows (g.kept z w.there))
    (shown_there values assignment k f.out g.shows g.there))))

byte_parts : (o : Option Sort) (rest : List (Option Sort)) → all_bytes (o ∷ rest) ≡ true → (o ≡ Some (sort.Word W8)) × (all_bytes rest ≡ true)
byte_parts (Some s) rest e = let parts = and_parts (is_byte s) (all_bytes rest) e in (ap Some (same_sort-true s (sort.Word W8) parts.0), parts.1)
byte_parts None rest e = absurd (cc)

-- one byte more of a list that is taken
byte_taken : (values : Valuation) (assignment : Assignment) → (t : Term) → Takes values assignment t → sort_of t ≡ Some (sort.Word W8) → (table : Table) (last : ℕ)
    → AllShow values assignment table → Obeys values assignment last (visit t table last).gates → Visited values assignment t table (visit t table last).out
unfolding Takes
byte_taken values assignment t take e table last all obeys = take (sort.Word W8) e table last all obeys

octonary_taken : (values : Valuation) (assignment : Assignment) (truth : values 1 ≡ true) (h : IsAssignment assignment)
    (t1 t2 t3 t4 t5 t6 t7 t8 : Term) → Takes values assignment t1 → Takes values assignment t2 → Takes values assignment t3 → Takes values assignment t4 → Takes values assignment t5 → Takes values assignment t6 → Takes values assignment t7 → Takes values assignment t8
    → Takes values assignment (Octonary t1 t2 t3 t4 t5 t6 t7 t8)
unfolding sort_of value visit Takes
octonary_taken values assignment truth h t1 t2 t3 t4 t5 t6 t7 t8 k1 k2 k3 k4 k5 k6 k7 k8 s e table last all obeys =
    let parts = sort_if-some (all_bytes (sort_of t1 ∷ sort_of t2 ∷ sort_of t3 ∷ sort_of t4 ∷ sort_of t5 ∷ sort_of t6 ∷ sort_of t7 ∷ sort_of t8 ∷ [])) (sort.Word W64) s e in
    let of1 = byte_parts (sort_of t1) (sort_of t2 ∷ sort_of t3 ∷ sort_of t4 ∷ sort_of t5 ∷ sort_of t6 ∷ sort_of t7 ∷ sort_of t8 ∷ []) parts.0 in
    let of2 = byte_parts (sort_of t2) (sort_of t3 ∷ sort_of t4 ∷ sort_of t5 ∷ sort_of t6 ∷ sort_of t7 ∷ sort_of t8 ∷ []) of1.1 in
    let of3 = byte_parts (sort_of t3) (sort_of t4 ∷ sort_of t5 ∷ sort_of t6 ∷ sort_of t7 ∷ sort_of t8 ∷ []) of2.1 in
    let of4 = byte_parts (sort_of t4) (sort_of t5 ∷ sort_of t6 ∷ sort_of t7 ∷ sort_of t8 ∷ []) of3.1 in
    let of5 = byte_parts (sort_of t5) (sort_of t6 ∷ sort_of t7 ∷ sort_of t8 ∷ []) of4.1 in
    let of6 = byte_parts (sort_of t6) (sort_of t7 ∷ sort_of t8 ∷ []) of5.1 in
    let of7 = byte_parts (sort_of t7) (sort_of t8 ∷ []) of6.1 in
    let of8 = byte_parts (sort_of t8) ([]) of7.1 in
    let term = Octonary t1 t2 t3 t4 t5 t6 t7 t8 in
    once_visited values assignment term table
    (visit t1 table >>= λ t. visit t2 t >>= λ t. visit t3 t >>= λ t. visit t4 t >>= λ t. visit t5 t >>= λ t. visit t6 t >>= λ t. visit t7 t >>= λ t. visit t8 t >>= λ t.
    enter term t
    (give (bits_in t t1 ++ bits_in t t2 ++ bits_in t t3 ++ bits_in t t4 ++ bits_in t t5 ++ bits_in t t6 ++ bits_in t t7 ++ bits_in t t8))) last
    (is_there term table) refl all obeys
    (λ own.
    let a1 = visit t1 table last in
    let l1 = last_of last a1.gates in
    let a2 = visit t2 a1.out l1 in
    let l2 = last_of l1 a2.gates in
    let a3 = visit t3 a2.out l2 in
    let l3 = last_of l2 a3.gates in
    let a4 = visit t4 a3.out l3 in
    let l4 = last_of l3 a4.gates in
    let a5 = visit t5 a4.out l4 in
    let l5 = last_of l4 a5.gates in
    let a6 = visit t6 a5.out l5 in
    let l6 = last_of l5 a6.gates in
    let a7 = visit t7 a6.out l6 in
    let l7 = last_of l6 a7.gates in
    let a8 = visit t8 a7.out l7 in
    let l8 = last_of l7 a8.gates in
    let o1 = obeys_parts values assignment last a1.gates (a2.gates ++ (a3.gates ++ (a4.gates ++ (a5.gates ++ (a6.gates ++ (a7.gates ++ (a8.gates ++ []))))))) own in
    let o2 = obeys_parts values assignment l1 a2.gates (a3.gates ++ (a4.gates ++ (a5.gates ++ (a6.gates ++ (a7.gates ++ (a8.gates ++ [])))))) o1.1 in
    let o3 = obeys_parts values assignment l2 a3.gates (a4.gates ++ (a5.gates ++ (a6.gates ++ (a7.gates ++ (a8.gates ++ []))))) o2.1 in
    let o4 = obeys_parts values assignment l3 a4.gates (a5.gates ++ (a6.gates ++ (a7.gates ++ (a8.gates ++ [])))) o3.1 in
    let o5 = obeys_parts values assignment l4 a5.gates (a6.gates ++ (a7.gates ++ (a8.gates ++ []))) o4.1 in
    let o6 = obeys_parts values assignment l5 a6.gates (a7.gates ++ (a8.gates ++ [])) o5.1 in
    let o7 = obeys_parts values assignment l6 a7.gates (a8.gates ++ []) o6.1 in
    let o8 = obeys_parts values assignment l7 a8.gates [] o7.1 in
    let v1 = byte_taken values assignment t1 k1 of1.0 table last all o1.0 in
    let v2 = byte_taken values assignment t2 k2 of2.0 a1.out l1 v1.shows o2.0 in
    let v3 = byte_taken values assignment t3 k3 of3.0 a2.out l2 v2.shows o3.0 in
    let v4 = byte_taken values assignment t4 k4 of4.0 a3.out l3 v3.shows o4.0 in
    let v5 = byte_taken values assignment t5 k5 of5.0 a4.out l4 v4.shows o5.0 in
    let v6 = byte_taken values assignment t6 k6 of6.0 a5.out l5 v5.shows o6.0 in
    let v7 = byte_taken values assignment t7 k7 of7.0 a6.out l6 v6.shows o7.0 in
    let v8 = byte_taken values assignment t8 k8 of8.0 a7.out l7 v7.shows o8.0 in
    let found = bits_in a8.out t1 ++ bits_in a8.out t2 ++ bits_in a8.out t3 ++ bits_in a8.out t4 ++ bits_in a8.out t5 ++ bits_in a8.out t6 ++ bits_in a8.out t7 ++ bits_in a8.out t8 in
    let s1 = shown_there values assignment t1 a8.out v8.shows (v8.kept t1 (v7.kept t1 (v6.kept t1 (v5.kept t1 (v4.kept t1 (v3.kept t1 (v2.kept t1 v1.there))))))) in
    let s2 = shown_there values assignment t2 a8.out v8.shows (v8.kept t2 (v7.kept t2 (v6.kept t2 (v5.kept t2 (v4.kept t2 (v3.kept t2 v2.there)))))) in
    let s3 = shown_there values assignment t3 a8.out v8.shows (v8.kept t3 (v7.kept t3 (v6.kept t3 (v5.kept t3 (v4.kept t3 v3.there))))) in
    let s4 = shown_there values assignment t4 a8.out v8.shows (v8.kept t4 (v7.kept t4 (v6.kept t4 (v5.kept t4 v4.there)))) in
    let s5 = shown_there values assignment t5 a8.out v8.shows (v8.kept t5 (v7.kept t5 (v6.kept t5 v5.there))) in
    let s6 = shown_there values assignment t6 a8.out v8.shows (v8.kept t6 (v7.kept t6 v6.there)) in
    let s7 = shown_there values assignment t7 a8.out v8.shows (v8.kept t7 v7.there) in
    let s8 = shown_there values assignment t8 a8.out v8.shows v8.there in
    onwards values assignment term table a8.out (a8.out ++ (term, found) ∷ []) (λ other there. v8.kept other (v7.kept other (v6.kept other (v5.kept other (v4.kept other (v3.kept other (v2.kept other (v1.kept other there))))))))
    (entered values assignment term a8.out found v8.shows
    (subst (Shows values (joined W64 (value assignment t1 ∷ value assignment t2 ∷ value assignment t3 ∷ value assignment t4 ∷ value assignment t5 ∷ value assignment t6 ∷ value assignment t7 ∷ value assignment t8 ∷ [])))
    (grouped (bits_in a8.out t1) (bits_in a8.out t2) (bits_in a8.out t3) (bits_in a8.out t4) (bits_in a8.out t5) (bits_in a8.out t6) (bits_in a8.out t7) (bits_in a8.out t8))
    (joined_shows values W64 (value assignment t1 ∷ value assignment t2 ∷ value assignment t3 ∷ value assignment t4 ∷ value assignment t5 ∷ value assignment t6 ∷ value assignment t7 ∷ value assignment t8 ∷ [])
    (bits_in a8.out t1 ∷ bits_in a8.out t2 ∷ bits_in a8.out t3 ∷ bits_in a8.out t4 ∷ bits_in a8.out t5 ∷ bits_in a8.out t6 ∷ bits_in a8.out t7 ∷ bits_in a8.out t8 ∷ []) refl
    (value-sort assignment h t1 (sort.Word W8) of1.0, s1, (value-sort assignment h t2 (sort.Word W8) of2.0, s2, (value-sort assignment h t3 (sort.Word W8) of3.0, s3, (value-sort assignment h t4 (sort.Word W8) of4.0, s4, (value-sort assignment h t5 (sort.Word W8) of5.0, s5, (value-sort assignment h t6 (sort.Word W8) of6.0, s6, (value-sort assignment h t7 (sort.Word W8) of7.0, s7, (value-sort assignment h t8 (sort.Word W8) of8.0, s8, tt))))))))))))
  where
    grouped : (a b c d e f g h : Bits) → a ++ (b ++ (c ++ (d ++ (e ++ (f ++ (g ++ (h ++ []))))))) ≡ a ++ b ++ c ++ d ++ e ++ f ++ g ++ h
    grouped a b c d e f g h = simp (append-nil, append_assoc)

pub all_taken : (values : Valuation) (assignment : Assignment) → values 1 ≡ true → IsAssignment assignment → (t : Term) → Takes values assignment t
all_taken values assignment truth h (Leaf leaf) = leaf_taken values assignment truth h leaf
all_taken values assignment truth h (Unary operator x) = unary_taken values assignment truth h operator x (all_taken values assignment truth h x)
all_taken values assignment truth h (Binary operator x y) =
    binary_taken values assignment truth h operator x y (all_taken values assignment truth h x) (all_taken values assignment truth h y)
all_taken values assignment truth h (Ternary operator x y z) =
    ternary_taken values assignment truth h operator x y z (all_taken values assignment truth h x) (all_taken values assignment truth h y) (all_taken values assignment truth h z)
all_taken values assignment truth h (Quaternary operator x y z k) =
    quaternary_taken values assignment truth h operator x y z k (all_taken values assignment truth h x) (all_taken values assignment truth h y)
    (all_taken values assignment truth h z) (all_taken values assignment truth h k)
all_taken values assignment truth h (Octonary a b c d e f g i) =
    octonary_taken values assignment truth h a b c d e f g i (all_taken values assignment truth h a) (all_taken values assignment truth h b)
    (all_taken values assignment truth h c) (all_taken values assignment truth h d) (all_taken values assignment truth h e)
    (all_taken values assignment truth h f) (all_taken values assignment truth h g) (all_taken values assignment truth h i)
