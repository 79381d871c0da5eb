-- The lines of which the relation at a cut may be made, in order.
use Rattle.std.specs.Prelude.{ℕ, suc, ◌+◌, ◌-◌, ◌==◌, ◌&&◌, ◌||◌, nat_le, nat_eq, if◌then◌else◌, ℤ, pos, negsuc, List, [], ◌∷◌, ◌++◌, map, flat_map, filter}
use Rattle.std.specs.List.{list_any}
use Rattle.term_core_spec.specs.declared.Width.{Width}
use Rattle.term_core_spec.specs.declared.Width.TheVariants.{W32, W64}
use Rattle.term_core_spec.specs.declared.Variable.{Variable}
use Rattle.term_core_spec.specs.Term.{Term, open_term, not_term, equal, less, add, subtract, multiply, low, byte, join_four}
use Rattle.term_core_spec.specs.Shapes.{load_word}
use Rattle.c_types_spec.specs.declared.Scalar.{Scalar}
use Rattle.c_graph_spec.specs.State.{number}
use Rattle.c_graph_spec.specs.Values.{at_width}
use Rattle.decompile_spec.specs.State as code
use Rattle.sim_rules_spec.specs.Calling.{at_entry}

-- a parameter or a local, and its type
pub record Value : Type 0 where
  pub variable : Variable
  pub type : Scalar

-- what is known of a function at a point: by how much the stack pointer may be below where it was at entry, outermost first;
-- at which offsets from it, or from the frame pointer, words are saved; how many bytes of stack there are; the registers
-- whose value at entry is known; the parameters, the addresses of globals, and the locals in scope; and the locals that the
-- tests of loops compare
pub record Facts : Type 0 where
  pub depths : List ℕ
  pub saved : List ℤ
  pub stack : ℕ
  pub entries : List ℕ
  pub parameters : List Value
  pub globals : List ℕ
  pub locals : List Value
  pub compared : List (Value × Value)

-- ---- words

abbrev pub register : ℕ → Term
register r = open_term (code.register r)

abbrev pub below_entry : ℕ → Term
below_entry n = subtract (at_entry 2) (number n)

-- the word of a value, widened by its type; of 64 bits the low word, then the high one
abbrev pub words_of : Value → List Term
words_of v =
    if v.type.width == 64
    then low W32 (open_term v.variable) ∷ join_four (byte 4 (open_term v.variable)) (byte 5 (open_term v.variable)) (byte 6 (open_term v.variable)) (byte 7 (open_term v.variable)) ∷ []
    else at_width v.type W32 (open_term v.variable) ∷ []

abbrev pub all_words : List Value → List Term
all_words values = flat_map words_of values

-- ---- places: the registers but x0 and the stack pointer, and words of the stack

abbrev pub registers : List ℕ
registers =
    1 ∷ 3 ∷ 4 ∷ 5 ∷ 6 ∷ 7 ∷ 8 ∷ 9 ∷ 10 ∷ 11 ∷ 12 ∷ 13 ∷ 14 ∷ 15 ∷ 16 ∷ 17 ∷ 18 ∷ 19 ∷ 20 ∷ 21 ∷ 22 ∷ 23 ∷ 24 ∷ 25 ∷ 26 ∷ 27 ∷ 28 ∷ 29
    ∷ 30 ∷ 31 ∷ []

-- how far below the stack pointer at entry a word is that is saved at this offset at this depth; 0 where it isn't below
abbrev pub distance : (depth : ℕ) → (offset : ℤ) → ℕ
distance depth (pos n) = depth - n
distance depth (negsuc n) = depth + suc n

-- numbers, each where it is first
unfoldable pub each_once : (seen : List ℕ) → List ℕ → List ℕ
each_once seen [] = []
each_once seen (n ∷ numbers) = if list_any (nat_eq n) seen then each_once seen numbers else n ∷ each_once (n ∷ seen) numbers

-- the words that are saved in the stack of the function and of what it calls
abbrev pub slots : Facts → List ℕ
slots f = filter (λ n. nat_le 4 n && nat_le n f.stack) (each_once [] (flat_map (λ depth. map (distance depth) f.saved) f.depths))

abbrev pub slot : ℕ → Term
slot n = load_word (open_term code.memory) (below_entry n)

abbrev pub places : Facts → List Term
places f = map register registers ++ map slot (slots f)

-- ---- lines

-- the stack pointer and the frame pointer
abbrev pub pointer_lines : Facts → List Term
pointer_lines f = flat_map (λ r. map (λ depth. equal (register r) (below_entry depth)) f.depths) (2 ∷ 8 ∷ [])

-- places that have what a register had at entry, or the value of a local
abbrev pub entry_lines : Facts → List Term → List Term
entry_lines f at = flat_map (λ (place : Term). map (λ r. equal place (at_entry r)) f.entries) at

abbrev pub local_lines : Facts → List Term → List Term
local_lines f at = flat_map (λ (place : Term). map (λ y. equal place y) (all_words f.locals)) at

-- what a sum may begin with: a parameter, the address of a global, or a local
abbrev pub bases : Facts → List Term
bases f = all_words f.parameters ++ (map number f.globals ++ all_words f.locals)

abbrev pub scales : List ℕ
scales = 1 ∷ 2 ∷ 4 ∷ 8 ∷ []

-- places that have such a sum with a local, scaled
abbrev pub sum_lines : Facts → List Term → List Term
sum_lines f at =
    flat_map (λ (place : Term). flat_map (λ (b : Term). flat_map (λ s. map (λ y. equal place (add b (multiply (number s) y))) (all_words f.locals)) scales) (bases f)) at

-- the first value is at most the second, both unsigned: as words, or at 64 bits where one of them has these
abbrev pub width_of_both : Value → Value → Width
width_of_both i n = if (i.type.width == 64) || (n.type.width == 64) then W64 else W32

abbrev pub at_most : Value → Value → Term
at_most i n =
    not_term (less (at_width n.type (width_of_both i n) (open_term n.variable)) (at_width i.type (width_of_both i n) (open_term i.variable)))

abbrev pub order_lines : Facts → List Term
order_lines f = flat_map (λ (p : Value × Value). at_most p.0 p.1 ∷ at_most p.1 p.0 ∷ []) f.compared

abbrev pub template : Facts → List Term
template f = pointer_lines f ++ (entry_lines f (places f) ++ (local_lines f (places f) ++ (sum_lines f (places f) ++ order_lines f)))
