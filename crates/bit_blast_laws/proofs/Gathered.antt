-- The address of each load that is taken is in the table.
use Rattle.std.proofs.Common.{◌≡◌, ℕ, Bool, true, false, List, [], ◌∷◌, ◌++◌, length, Option, Some, None, refl, ap, ◌∙◌, subst}
use Rattle.std.specs.Prelude.{◌&&◌, if◌then◌else◌}
use Rattle.std.proofs.lemmas.Bool.{and_parts}
use Rattle.std.proofs.lemmas.List.{append_assoc}
use Rattle.term_core_spec.specs.declared.Width.TheVariants.{W8, W32, W64}
use Rattle.term_core_spec.specs.declared.Sort.{Sort}
use Rattle.term_core_spec.specs.declared.Sort.TheVariants as sort
use Rattle.term_core_spec.specs.declared.Atom.{Atom}
use Rattle.term_core_spec.specs.declared.UnaryOperator.{UnaryOperator}
use Rattle.term_core_spec.specs.declared.WordOperator.TheVariants as word
use Rattle.term_core_spec.specs.declared.BinaryOperator.{BinaryOperator}
use Rattle.term_core_spec.specs.declared.BinaryOperator.TheVariants as binary
use Rattle.term_core_spec.specs.declared.TernaryOperator.{TernaryOperator}
use Rattle.term_core_spec.specs.declared.QuaternaryOperator.{QuaternaryOperator}
use Rattle.term_core_spec.specs.Term.{Term, Leaf, Unary, Binary, Ternary, Quaternary, Octonary, divide, remainder}
use Rattle.term_core_spec.specs.Sort.{is_byte, is_memory, is_address, all_bytes, sort_of, sort_of_unary, sort_of_binary, sort_of_ternary, sort_of_quaternary}
use Rattle.term_core_spec.proofs.Sorts.{same_sort-true, sort_if-some, with_one-some, with_two-some, with_three-some, with_four-some}
use Rattle.bit_blast_spec.specs.Gates.{Build, last_of, give, ◌>>=◌}
use Rattle.bit_blast_spec.specs.Circuits.{Bits, new_bits}
use Rattle.bit_blast_spec.specs.Goal.{Table, is_there, bits_in, enter, atom_bits, unary_bits, ternary_bits, quaternary_bits, divided, with_binary, visit}
use Rattle.bit_blast_laws.proofs.Tables.{still_there, now_there}
use Rattle.bit_blast_laws.proofs.Loaded.{IfLoaded, AllLoaded}

-- ---- tables that grow

still_loaded : (table more : Table) (term : Term) → IfLoaded table term → IfLoaded (table ++ more) term
still_loaded table more (Binary binary.Load memory address) known =
    record { from = known.from; at = known.at; there = still_there address table more known.there }
still_loaded table more (Binary binary.And x y) known = tt
still_loaded table more (Binary binary.Or x y) known = tt
still_loaded table more (Binary binary.Equal x y) known = tt
still_loaded table more (Binary binary.Less x y) known = tt
still_loaded table more (Binary (binary.Word operator) x y) known = tt
still_loaded table more (Binary binary.Join x y) known = tt
still_loaded table more (Leaf leaf) known = tt
still_loaded table more (Unary operator x) known = tt
still_loaded table more (Ternary operator x y z) known = tt
still_loaded table more (Quaternary operator a b c d) known = tt
still_loaded table more (Octonary a b c d e f g h) known = tt

all_still : (table more entries : Table) → AllLoaded table entries → AllLoaded (table ++ more) entries
all_still table more [] all = tt
all_still table more (entry ∷ entries) all = (still_loaded table more entry.0 all.0, all_still table more entries all.1)

loaded-append : (table entries more : Table) → AllLoaded table entries → AllLoaded table more → AllLoaded table (entries ++ more)
loaded-append table [] more all also = also
loaded-append table (entry ∷ entries) more all also = (all.0, loaded-append table entries more all.1 also)

-- ---- a term is taken

-- a table with a term and all that was there
record Gathered (term : Term) (before after : Table) : Type 0 where
  pub loaded : AllLoaded after after
  pub there : is_there term after ≡ true
  pub kept : (other : Term) → is_there other before ≡ true → is_there other after ≡ true

onwards : (term : Term) (before middle after : Table) → ((other : Term) → is_there other before ≡ true → is_there other middle ≡ true)
    → Gathered term middle after → Gathered term before after
onwards term before middle after kept gathered = record {
  loaded = gathered.loaded;
  there = gathered.there;
  kept = λ other there. gathered.kept other (kept other there);
}

entered : (term : Term) (before : Table) (found : Bits) → AllLoaded before before → IfLoaded before term → Gathered term before (before ++ (term, found) ∷ [])
entered term before found all here =
    let entry = (term, found) ∷ [] in
    record {
      loaded = loaded-append (before ++ entry) before entry (all_still before entry before all) (still_loaded before entry term here, tt);
      there = now_there term before found [];
      kept = λ other there. still_there other before entry there;
    }

once_gathered : (term : Term) (table : Table) (build : Build Table) (last : ℕ) (b : Bool) → is_there term table ≡ b → AllLoaded table table
    → Gathered term table (build last).out → Gathered term table ((if b then give table else build) last).out
once_gathered term table build last true e all own = record { loaded = all; there = e; kept = λ other there. there }
once_gathered term table build last false e all own = own

-- ---- two arguments

if_loaded : (operator : BinaryOperator) (x y : Term) (p q s : Sort) (table : Table) → sort_of_binary operator p q ≡ Some s
    → sort_of x ≡ Some p → sort_of y ≡ Some q → is_there y table ≡ true → IfLoaded table (Binary operator x y)
unfolding sort_of_binary
if_loaded binary.Load x y p q s table e sx sy there =
    let tests = and_parts (is_memory p) (is_address q) (sort_if-some (is_memory p && is_address q) (sort.Word W8) s e).0 in
    record {
      from = sx ∙ ap Some (same_sort-true p sort.Memory tests.0);
      at = sy ∙ ap Some (same_sort-true q (sort.Word W32) tests.1);
      there = there;
    }
if_loaded binary.And x y p q s table e sx sy there = tt
if_loaded binary.Or x y p q s table e sx sy there = tt
if_loaded binary.Equal x y p q s table e sx sy there = tt
if_loaded binary.Less x y p q s table e sx sy there = tt
if_loaded (binary.Word operator) x y p q s table e sx sy there = tt
if_loaded binary.Join x y p q s table e sx sy there = tt

-- both the quotient and the remainder
record Divided (x y : Term) (before after : Table) : Type 0 where
  quotient : Gathered (divide x y) before after
  rest : Gathered (remainder x y) before after

divided_gathered : (x y : Term) (table : Table) (last : ℕ) → AllLoaded table table → Divided x y table (divided x y table last).out
unfolding divided
divided_gathered x y table last all =
    let xs = bits_in table x in
    let quotients = new_bits (divide x y) 0 (length xs) last in
    let first = last_of last quotients.gates in
    let rests = new_bits (remainder x y) 0 (length xs) first in
    let entries = (divide x y, quotients.out) ∷ (remainder x y, rests.out) ∷ [] in
    let loaded = loaded-append (table ++ entries) table entries (all_still table entries table all) (tt, (tt, tt)) in
    let kept = λ (other : Term) (there : is_there other table ≡ true). still_there other table entries there in
    record {
      quotient = record { loaded = loaded; there = now_there (divide x y) table quotients.out ((remainder x y, rests.out) ∷ []); kept = kept };
      rest = record {
        loaded = loaded;
        there = subst (λ t. is_there (remainder x y) t ≡ true) (append_assoc table ((divide x y, quotients.out) ∷ []) ((remainder x y, rests.out) ∷ []))
            (now_there (remainder x y) (table ++ (divide x y, quotients.out) ∷ []) rests.out []);
        kept = kept;
      };
    }

binary_gathered : (operator : BinaryOperator) (x y : Term) (table : Table) (last : ℕ) → AllLoaded table table → IfLoaded table (Binary operator x y)
    → Gathered (Binary operator x y) table (with_binary operator x y table last).out
binary_gathered binary.And x y table last all here = entered _ table _ all here
binary_gathered binary.Or x y table last all here = entered _ table _ all here
binary_gathered binary.Equal x y table last all here = entered _ table _ all here
binary_gathered binary.Less x y table last all here = entered _ table _ all here
binary_gathered binary.Load x y table last all here = entered _ table _ all here
binary_gathered binary.Join x y table last all here = entered _ table _ all here
binary_gathered (binary.Word word.Divide) x y table last all here = (divided_gathered x y table last all).quotient
binary_gathered (binary.Word word.Remainder) x y table last all here = (divided_gathered x y table last all).rest
binary_gathered (binary.Word word.Add) x y table last all here = entered _ table _ all here
binary_gathered (binary.Word word.Subtract) x y table last all here = entered _ table _ all here
binary_gathered (binary.Word word.Multiply) x y table last all here = entered _ table _ all here
binary_gathered (binary.Word word.And) x y table last all here = entered _ table _ all here
binary_gathered (binary.Word word.Or) x y table last all here = entered _ table _ all here
binary_gathered (binary.Word word.Xor) x y table last all here = entered _ table _ all here
binary_gathered (binary.Word word.ShiftLeft) x y table last all here = entered _ table _ all here
binary_gathered (binary.Word word.ShiftRight) x y table last all here = entered _ table _ all here
binary_gathered (binary.Word word.ShiftRightSigned) x y table last all here = entered _ table _ all here

-- ---- all terms

unfoldable Gathers : Term → Type 0
Gathers t = (s : Sort) → sort_of t ≡ Some s → (table : Table) (last : ℕ) → AllLoaded table table → Gathered t table (visit t table last).out

leaf_gathers : (leaf : Atom) → Gathers (Leaf leaf)
unfolding Gathers visit
leaf_gathers leaf s e table last all =
    once_gathered (Leaf leaf) table (enter (Leaf leaf) table (atom_bits leaf)) last (is_there (Leaf leaf) table) refl all
    (entered (Leaf leaf) table (atom_bits leaf last).out all tt)

unary_gathers : (operator : UnaryOperator) (x : Term) → Gathers x → Gathers (Unary operator x)
unfolding Gathers visit sort_of
unary_gathers operator x take_x s e table last all =
    let sorts = with_one-some (sort_of_unary operator) (sort_of x) s e in
    let first = visit x table last in
    let made = unary_bits operator (bits_in first.out x) (last_of last first.gates) in
    let v = take_x sorts.0 sorts.1 table last all in
    once_gathered (Unary operator x) table (visit x table >>= λ t. enter (Unary operator x) t (unary_bits operator (bits_in t x))) last
    (is_there (Unary operator x) table) refl all
    (onwards (Unary operator x) table first.out (first.out ++ (Unary operator x, made.out) ∷ []) v.kept (entered (Unary operator x) first.out made.out v.loaded tt))

binary_gathers : (operator : BinaryOperator) (x y : Term) → Gathers x → Gathers y → Gathers (Binary operator x y)
unfolding Gathers visit sort_of
binary_gathers operator x y take_x take_y s e table last all =
    let sorts = with_two-some (sort_of_binary operator) (sort_of x) (sort_of y) s e in
    let first = visit x table last in
    let then_last = last_of last first.gates in
    let second = visit y first.out then_last in
    let end_last = last_of then_last second.gates in
    let v = take_x sorts.0 sorts.2 table last all in
    let w = take_y sorts.1 sorts.3 first.out then_last v.loaded in
    once_gathered (Binary operator x y) table (visit x table >>= λ t. visit y t >>= λ t. with_binary operator x y t) last
    (is_there (Binary operator x y) table) refl all
    (onwards (Binary operator x y) table second.out (with_binary operator x y second.out end_last).out (λ other there. w.kept other (v.kept other there))
    (binary_gathered operator x y second.out end_last w.loaded (if_loaded operator x y sorts.0 sorts.1 s second.out sorts.4 sorts.2 sorts.3 w.there)))

ternary_gathers : (operator : TernaryOperator) (x y z : Term) → Gathers x → Gathers y → Gathers z → Gathers (Ternary operator x y z)
unfolding Gathers visit sort_of
ternary_gathers operator x y z take_x take_y take_z s e table last all =
    let sorts = with_three-some (sort_of_ternary operator) (sort_of x) (sort_of y) (sort_of z) s e in
    let a = visit x table last in
    let la = last_of last a.gates in
    let b = visit y a.out la in
    let lb = last_of la b.gates in
    let d = visit z b.out lb in
    let ld = last_of lb d.gates in
    let made = ternary_bits operator (bits_in d.out x) (bits_in d.out y) (bits_in d.out z) ld in
    let u = take_x sorts.0 sorts.3 table last all in
    let v = take_y sorts.1 sorts.4 a.out la u.loaded in
    let w = take_z sorts.2 sorts.5 b.out lb v.loaded in
    once_gathered (Ternary operator x y z) table
    (visit x table >>= λ t. visit y t >>= λ t. visit z t >>= λ t.
    enter (Ternary operator x y z) t (ternary_bits operator (bits_in t x) (bits_in t y) (bits_in t z))) last
    (is_there (Ternary operator x y z) table) refl all
    (onwards (Ternary operator x y z) table d.out (d.out ++ (Ternary operator x y z, made.out) ∷ [])
    (λ other there. w.kept other (v.kept other (u.kept other there))) (entered (Ternary operator x y z) d.out made.out w.loaded tt))

quaternary_gathers : (operator : QuaternaryOperator) (x y z k : Term) → Gathers x → Gathers y → Gathers z → Gathers k → Gathers (Quaternary operator x y z k)
unfolding Gathers visit sort_of
quaternary_gathers operator x y z k take_x take_y take_z take_k s e table last all =
    let sorts = with_four-some (sort_of_quaternary operator) (sort_of x) (sort_of y) (sort_of z) (sort_of k) s e in
    let a = visit x table last in
    let la = last_of last a.gates in
    let b = visit y a.out la in
    let lb = last_of la b.gates in
    let d = visit z b.out lb in
    let ld = last_of lb d.gates in
    let f = visit k d.out ld in
    let lf = last_of ld f.gates in
    let made = quaternary_bits operator (bits_in f.out x) (bits_in f.out y) (bits_in f.out z) (bits_in f.out k) lf in
    let u = take_x sorts.0 sorts.4 table last all in
    let v = take_y sorts.1 sorts.5 a.out la u.loaded in
    let w = take_z sorts.2 sorts.6 b.out lb v.loaded in
    let g = take_k sorts.3 sorts.7 d.out ld w.loaded in
    once_gathered (Quaternary operator x y z k) table
    (visit x table >>= λ t. visit y t >>= λ t. visit z t >>= λ t. visit k t >>= λ t.
    enter (Quaternary operator x y z k) t (quaternary_bits operator (bits_in t x) (bits_in t y) (bits_in t z) (bits_in t k))) last
    (is_there (Quaternary operator x y z k) table) refl all
    (onwards (Quaternary operator x y z k) table f.out (f.out ++ (Quaternary operator x y z k, made.out) ∷ [])
    (λ other there. g.kept other (w.kept other (v.kept other (u.kept other there)))) (entered (Quaternary operator x y z k) f.out made.out g.loaded tt))

byte_parts : (o : Option Sort) (rest : List (Option Sort)) → all_bytes (o ∷ rest) ≡ true → (o ≡ Some (sort.Word W8)) × (all_bytes rest ≡ true)
byte_parts (Some s) rest e = let parts = and_parts (is_byte s) (all_bytes rest) e in (ap Some (same_sort-true s (sort.Word W8) parts.0), parts.1)
byte_parts None rest e = absurd (cc)

octonary_gathers : (t1 t2 t3 t4 t5 t6 t7 t8 : Term) → Gathers t1 → Gathers t2 → Gathers t3 → Gathers t4 → Gathers t5 → Gathers t6 → Gathers t7 → Gathers t8
    → Gathers (Octonary t1 t2 t3 t4 t5 t6 t7 t8)
unfolding Gathers visit sort_of
octonary_gathers t1 t2 t3 t4 t5 t6 t7 t8 k1 k2 k3 k4 k5 k6 k7 k8 s e table last all =
    let parts = sort_if-some (all_bytes (sort_of t1 ∷ sort_of t2 ∷ sort_of t3 ∷ sort_of t4 ∷ sort_of t5 ∷ sort_of t6 ∷ sort_of t7 ∷ sort_of t8 ∷ [])) (sort.Word W64) s e in
    let of1 = byte_parts (sort_of t1) (sort_of t2 ∷ sort_of t3 ∷ sort_of t4 ∷ sort_of t5 ∷ sort_of t6 ∷ sort_of t7 ∷ sort_of t8 ∷ []) parts.0 in
    let of2 = byte_parts (sort_of t2) (sort_of t3 ∷ sort_of t4 ∷ sort_of t5 ∷ sort_of t6 ∷ sort_of t7 ∷ sort_of t8 ∷ []) of1.1 in
    let of3 = byte_parts (sort_of t3) (sort_of t4 ∷ sort_of t5 ∷ sort_of t6 ∷ sort_of t7 ∷ sort_of t8 ∷ []) of2.1 in
    let of4 = byte_parts (sort_of t4) (sort_of t5 ∷ sort_of t6 ∷ sort_of t7 ∷ sort_of t8 ∷ []) of3.1 in
    let of5 = byte_parts (sort_of t5) (sort_of t6 ∷ sort_of t7 ∷ sort_of t8 ∷ []) of4.1 in
    let of6 = byte_parts (sort_of t6) (sort_of t7 ∷ sort_of t8 ∷ []) of5.1 in
    let of7 = byte_parts (sort_of t7) (sort_of t8 ∷ []) of6.1 in
    let of8 = byte_parts (sort_of t8) [] of7.1 in
    let term = Octonary t1 t2 t3 t4 t5 t6 t7 t8 in
    let a1 = visit t1 table last in
    let l1 = last_of last a1.gates in
    let a2 = visit t2 a1.out l1 in
    let l2 = last_of l1 a2.gates in
    let a3 = visit t3 a2.out l2 in
    let l3 = last_of l2 a3.gates in
    let a4 = visit t4 a3.out l3 in
    let l4 = last_of l3 a4.gates in
    let a5 = visit t5 a4.out l4 in
    let l5 = last_of l4 a5.gates in
    let a6 = visit t6 a5.out l5 in
    let l6 = last_of l5 a6.gates in
    let a7 = visit t7 a6.out l6 in
    let l7 = last_of l6 a7.gates in
    let a8 = visit t8 a7.out l7 in
    let v1 = k1 (sort.Word W8) of1.0 table last all in
    let v2 = k2 (sort.Word W8) of2.0 a1.out l1 v1.loaded in
    let v3 = k3 (sort.Word W8) of3.0 a2.out l2 v2.loaded in
    let v4 = k4 (sort.Word W8) of4.0 a3.out l3 v3.loaded in
    let v5 = k5 (sort.Word W8) of5.0 a4.out l4 v4.loaded in
    let v6 = k6 (sort.Word W8) of6.0 a5.out l5 v5.loaded in
    let v7 = k7 (sort.Word W8) of7.0 a6.out l6 v6.loaded in
    let v8 = k8 (sort.Word W8) of8.0 a7.out l7 v7.loaded in
    let found = bits_in a8.out t1 ++ bits_in a8.out t2 ++ bits_in a8.out t3 ++ bits_in a8.out t4 ++ bits_in a8.out t5 ++ bits_in a8.out t6 ++ bits_in a8.out t7 ++ bits_in a8.out t8 in
    once_gathered term table
    (visit t1 table >>= λ t. visit t2 t >>= λ t. visit t3 t >>= λ t. visit t4 t >>= λ t. visit t5 t >>= λ t. visit t6 t >>= λ t. visit t7 t >>= λ t. visit t8 t >>= λ t.
    enter term t
    (give (bits_in t t1 ++ bits_in t t2 ++ bits_in t t3 ++ bits_in t t4 ++ bits_in t t5 ++ bits_in t t6 ++ bits_in t t7 ++ bits_in t t8))) last
    (is_there term table) refl all
    (onwards term table a8.out (a8.out ++ (term, found) ∷ [])
    (λ other there. v8.kept other (v7.kept other (v6.kept other (v5.kept other (v4.kept other (v3.kept other (v2.kept other (v1.kept other there))))))))
    (entered term a8.out found v8.loaded tt))

all_gather : (t : Term) → Gathers t
all_gather (Leaf leaf) = leaf_gathers leaf
all_gather (Unary operator x) = unary_gathers operator x (all_gather x)
all_gather (Binary operator x y) = binary_gathers operator x y (all_gather x) (all_gather y)
all_gather (Ternary operator x y z) = ternary_gathers operator x y z (all_gather x) (all_gather y) (all_gather z)
all_gather (Quaternary operator x y z k) = quaternary_gathers operator x y z k (all_gather x) (all_gather y) (all_gather z) (all_gather k)
all_gather (Octonary a b c d e f g h) =
    octonary_gathers a b c d e f g h (all_gather a) (all_gather b) (all_gather c) (all_gather d) (all_gather e) (all_gather f) (all_gather g) (all_gather h)

-- in the table of a goal
pub goal_loaded : (goal : Term) (s : Sort) → sort_of goal ≡ Some s → AllLoaded (visit goal [] 1).out (visit goal [] 1).out
unfolding Gathers
goal_loaded goal s e = (all_gather goal s e [] 1 tt).loaded
