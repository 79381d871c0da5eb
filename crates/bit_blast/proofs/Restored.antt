-- Values of variables that are reconstructed.
use Rattle.std.proofs.Common.{◌≡◌, ◌<◌, ◌≤◌, ◌+◌, ℕ, zero, suc, Bool, true, false, List, [], ◌∷◌, ◌++◌, length, map, take, get_or, filter, Option, Some, None, refl, ap, sym, ◌∙◌, subst, arith, ◌^◌, lt-ltb}
use Rattle.std.specs.Prelude.{◌==◌, ◌||◌, ◌&&◌, not, if◌then◌else◌, is_some, slice_get, option_map, nat_lt}
use Rattle.std.specs.List.{find}
use Rattle.std.proofs.lemmas.List.{take_more}
use Rattle.std.proofs.lemmas.Option.{same_Some, slice_get-map, slice_get-get_or, get_or_from_slice_get}
use Rattle.clause_check_spec.specs.Clause.{Valuation, holds}
use Rattle.term_core_spec.specs.declared.Width.{Width}
use Rattle.term_core_spec.specs.declared.Width.TheVariants.{W8, W16, W32, W64}
use Rattle.term_core_spec.specs.declared.Sort.{Sort}
use Rattle.term_core_spec.specs.declared.Sort.TheVariants as sort
use Rattle.term_core_spec.specs.declared.Variable.{Variable}
use Rattle.term_core_spec.specs.declared.Atom.TheVariants as atom
use Rattle.term_core_spec.specs.contracts.VariableEq.TheImpl.Laws as variable_laws
use Rattle.term_core_spec.proofs.Same.{variable-same, same_is, same_itself}
use Rattle.term_core_spec.specs.Same.{same_variable, same_term}
use Rattle.term_core_spec.specs.Term.{Term, Leaf}
use Rattle.term_core_spec.specs.Sort.{bits, same_width}
use Rattle.term_core_spec.specs.Value as spec
use Rattle.term_core_spec.specs.Value.{low_bits, with_byte, IsOfSort}
use Rattle.term_bank.specs.Nodes.{tree_at, Holds, AreDistinct}
use Rattle.bit_blast_spec.specs.Circuits.{Bits}
use Rattle.bit_blast_spec.specs.Goal.{Table, Load, is_there, bits_in, bit_of, loads_of, is_of_memory, found_bits}
use Rattle.bit_blast_laws.specs.Meaning.{number_of}
use Rattle.bit_blast_laws.specs.Back.{first_byte, loads_from, value_back, read_back}
use Rattle.bit_blast_laws.proofs.Reading.{is_assignment}
use Rattle.term_core.specs.declared.value.Value.{Value}
use Rattle.term_core.specs.declared.value.Value.TheVariants as code
use Rattle.term_core.specs.Values.{value_of}
use Rattle.term_core.specs.Assignment.{default_of, given_or_default, is_of_sort}
use Rattle.bit_blast.specs.Terms.{terms_in}
use Rattle.bit_blast.proofs.Tables.{there_at}
use Rattle.bit_blast.specs.declared.loads.LoadIndices.{LoadIndices}
use Rattle.bit_blast.specs.Loads.{load_at, AreWithin}
use Rattle.bit_blast.specs.Backs.{AreShort}
use Rattle.bit_blast.proofs.Loading.{eqb_swap, loads_same, holds_at}

both : (a b : Bool) → a ≡ true → b ≡ true → (a && b) ≡ true
both true true e f = refl
both true false e f = absurd (cc)
both false b e f = absurd (cc)

take_all : {X : Type 0} → (xs : List X) (count : ℕ) → length xs ≤ count → take count xs ≡ xs
take_all [] zero done = refl
take_all [] (suc count) done = refl
take_all (x ∷ xs) zero done = absurd (omega arith)
take_all (x ∷ xs) (suc count) done = ap (λ list. x ∷ list) (take_all xs count (omega arith))

-- ---- memories

pub written_back : (values : Valuation) (load : Load) (loads : List Load) (old new : ℕ → ℕ)
    → new ≡ with_byte old (number_of values load.address) (low_bits 8 (number_of values load.byte))
    → ((q : ℕ) → old q ≡ low_bits 8 (first_byte values q loads))
    → (q : ℕ) → new q ≡ low_bits 8 (first_byte values q (load ∷ loads))
written_back values load loads old new e before q =
    ap (λ (f : ℕ → ℕ). f q) e ∙ by (q == number_of values load.address) (number_of values load.address == q) (eqb_swap q (number_of values load.address))
  where
    by : (c d : Bool) → c ≡ d → (if c then low_bits 8 (number_of values load.byte) else old q) ≡ low_bits 8 (if d then number_of values load.byte else first_byte values q loads)
    by true true same = refl
    by false false same = before q
    by true false same = absurd (cc)
    by false true same = absurd (cc)

pub short_filter : (test : Load → Bool) (loads : List Load) → AreShort loads → AreShort (filter test loads)
short_filter test [] short = tt
short_filter test (load ∷ loads) short = by (test load) (short_filter test loads short.1)
  where
    by : (b : Bool) → AreShort (filter test loads) → AreShort (if b then load ∷ filter test loads else filter test loads)
    by true rest = (short.0, rest)
    by false rest = rest

no_bits : (t : Table) (term : Term) → is_there term t ≡ false → bits_in t term ≡ []
no_bits t term absent = by (find (λ (entry : Term × Bits). same_term term entry.0) t) absent
  where
    by : (found : Option (Term × Bits)) → is_some found ≡ false → found_bits found ≡ []
    by None e = refl
    by (Some entry) e = absurd (cc)

zero_word : (w : Width) → spec.Number w 0 ≡ spec.Number w (low_bits (bits w) 0)
zero_word W8 = refl
zero_word W16 = refl
zero_word W32 = refl
zero_word W64 = refl

module _ (t : Table) (distinct : AreDistinct (terms_in t)) (loads : List LoadIndices) (within : AreWithin t loads) (all : map (load_at t) loads ≡ loads_of t t) where
  -- the loads of the memory at an index
  pub own_loads : (index : ℕ) (v : Variable) (own : List LoadIndices) → index < length t → Holds (terms_in t) index (Leaf (atom.Open v))
      → own ≡ filter (λ (load : LoadIndices). load.memory == index) loads → map (load_at t) own ≡ loads_from (Leaf (atom.Open v)) t
  own_loads index v own below holds e =
      ap (map (load_at t)) e ∙ sym (loads_same t distinct index below loads within)
      ∙ ap (λ (m : Term). filter (is_of_memory m) (map (load_at t) loads)) (get_or_from_slice_get (terms_in t) index (Leaf (atom.Open v)) (Leaf (atom.Truth false)) holds)
      ∙ ap (filter (is_of_memory (Leaf (atom.Open v)))) all

  -- a memory that isn't there has none
  no_loads : (m : Term) → is_there m t ≡ false → (some : List LoadIndices) → AreWithin t some → filter (is_of_memory m) (map (load_at t) some) ≡ []
  no_loads m absent [] inside = refl
  no_loads m absent (load ∷ some) inside = by (same_term (tree_at (terms_in t) load.memory) m) refl (no_loads m absent some inside.1)
    where
      by : (b : Bool) → same_term (tree_at (terms_in t) load.memory) m ≡ b → filter (is_of_memory m) (map (load_at t) some) ≡ []
          → (if b then load_at t load ∷ filter (is_of_memory m) (map (load_at t) some) else filter (is_of_memory m) (map (load_at t) some)) ≡ []
      by false e rest = rest
      by true e rest =
          let here = there_at t (tree_at (terms_in t) load.memory) load.memory (holds_at t distinct load.memory inside.0.0) in
          let there : is_there m t ≡ true = subst (λ (x : Term). is_there x t ≡ true) (same_is (tree_at (terms_in t) load.memory) m e) here in
          absurd (cc)

  -- the default of a variable that isn't there
  default_back : (values : Valuation) (v : Variable) (s : Sort) → values 1 ≡ true → is_there (Leaf (atom.Open v)) t ≡ false → default_of s ≡ value_back values t v s
  default_back values v sort.Truth one absent =
      ap (λ (b : Bool). spec.Truth (not b)) (sym one) ∙ ap (λ (found : Bits). spec.Truth (holds values (bit_of found))) (sym (no_bits t (Leaf (atom.Open v)) absent))
  default_back values v (sort.Word w) one absent =
      zero_word w ∙ ap (λ (found : Bits). spec.Number w (low_bits (bits w) (number_of values found))) (sym (no_bits t (Leaf (atom.Open v)) absent))
  default_back values v sort.Memory one absent =
      let none : loads_from (Leaf (atom.Open v)) t ≡ [] = ap (filter (is_of_memory (Leaf (atom.Open v)))) (sym all) ∙ no_loads (Leaf (atom.Open v)) absent loads within in
      ap (λ (list : List Load). spec.Bytes (λ address. low_bits 8 (first_byte values address list))) (sym none)

-- ---- variables of the first terms

there_last : (x y : Term) (found : Bits) (ts : Table) → is_there x (ts ++ (y, found) ∷ []) ≡ (is_there x ts || same_term x y)
there_last x y found [] = by (same_term x y)
  where
    by : (b : Bool) → is_some (if b then Some (y, found) else find (λ (entry : Term × Bits). same_term x entry.0) []) ≡ (false || b)
    by true = refl
    by false = refl
there_last x y found (entry ∷ ts) = by (same_term x entry.0) (there_last x y found ts)
  where
    by : (b : Bool) → is_there x (ts ++ (y, found) ∷ []) ≡ (is_there x ts || same_term x y)
        → is_some (if b then Some entry else find (λ (e : Term × Bits). same_term x e.0) (ts ++ (y, found) ∷ []))
        ≡ (is_some (if b then Some entry else find (λ (e : Term × Bits). same_term x e.0) ts) || same_term x y)
    by true e = refl
    by false e = e

pub record Read (values : Valuation) (t : Table) (count : ℕ) (assignment : spec.Assignment) : Type 0 where
  pub known : (v : Variable) → is_there (Leaf (atom.Open v)) (take count t) ≡ true → assignment v ≡ read_back values t v
  pub others : (v : Variable) → is_there (Leaf (atom.Open v)) (take count t) ≡ false → assignment v ≡ default_of v.sort

-- the first terms with the next
next_there : (t : Table) (index : ℕ) (term x : Term) → index < length t → Holds (terms_in t) index term → is_there x (take (index + 1) t) ≡ (is_there x (take index t) || same_term x term)
next_there t index term x below h =
    let entry : Term × Bits = get_or t index (Leaf (atom.Truth false), []) in
    let here : slice_get t index ≡ Some entry = slice_get-get_or t index (Leaf (atom.Truth false), []) below in
    let is : entry.0 ≡ term = same_Some entry.0 term (sym (slice_get-map (λ (e : Term × Bits). e.0) t index ∙ ap (option_map (λ (e : Term × Bits). e.0)) here) ∙ h) in
    ap (is_there x) (take_more t index (Leaf (atom.Truth false), []) below) ∙ there_last x entry.0 entry.1 (take index t)
    ∙ ap (λ (y : Term). is_there x (take index t) || same_term x y) is

or_parts : (a b : Bool) → (a || b) ≡ false → (a ≡ false) × (b ≡ false)
or_parts false false e = (refl, refl)
or_parts true b e = absurd (cc)
or_parts false true e = absurd (cc)

or_cases : (a b : Bool) → (a || b) ≡ true → b ≡ false → a ≡ true
or_cases true b e f = refl
or_cases false b e f = absurd (cc)

-- a term that is no variable changes nothing
pub read_other : (values : Valuation) (t : Table) (index : ℕ) (term : Term) (assignment : spec.Assignment) → index < length t → Holds (terms_in t) index term
    → ((v : Variable) → same_term (Leaf (atom.Open v)) term ≡ false) → Read values t index assignment → Read values t (index + 1) assignment
read_other values t index term assignment below h apart before = record {
  known = λ v there.
      before.known v (or_cases (is_there (Leaf (atom.Open v)) (take index t)) (same_term (Leaf (atom.Open v)) term) (sym (next_there t index term (Leaf (atom.Open v)) below h) ∙ there) (apart v));
  others = λ v absent.
      before.others v (or_parts (is_there (Leaf (atom.Open v)) (take index t)) (same_term (Leaf (atom.Open v)) term) (sym (next_there t index term (Leaf (atom.Open v)) below h) ∙ absent)).0;
}

same_number : (w v : Width) → v ≡ w → same_width v w ≡ true
same_number w v e = ap (λ (u : Width). same_width u w) e ∙ itself w
  where
    itself : (u : Width) → same_width u u ≡ true
    itself W8 = refl
    itself W16 = refl
    itself W32 = refl
    itself W64 = refl

-- a value of its sort is taken as it is
given : (s : Sort) (x : Value) → IsOfSort s (value_of x) → given_or_default s (Some x) ≡ value_of x
given s x h = by (is_of_sort s x) (fits s x h)
  where
    fits : (r : Sort) (y : Value) → IsOfSort r (value_of y) → is_of_sort r y ≡ true
    fits sort.Truth (code.Truth truth) i = refl
    fits (sort.Word w) (code.Number v number) i = both (same_width v w) (nat_lt number (2 ^ bits w)) (same_number w v i.0) (lt-ltb number (2 ^ bits w) i.1)
    fits sort.Memory (code.Bytes memory) i = refl
    fits sort.Truth (code.Number v number) i = absurd i
    fits sort.Truth (code.Bytes memory) i = absurd i
    fits (sort.Word w) (code.Truth truth) i = absurd i
    fits (sort.Word w) (code.Bytes memory) i = absurd i
    fits sort.Memory (code.Truth truth) i = absurd i
    fits sort.Memory (code.Number v number) i = absurd i

    by : (b : Bool) → b ≡ true → (if b then value_of x else default_of s) ≡ value_of x
    by true e = refl
    by false e = absurd (cc)

-- a variable has its value
pub read_variable : (values : Valuation) (t : Table) (index : ℕ) (w : Variable) (x : Value) (old new : spec.Assignment) → index < length t
    → Holds (terms_in t) index (Leaf (atom.Open w)) → value_of x ≡ read_back values t w
    → ((v : Variable) → new v ≡ (if same_variable w v then given_or_default v.sort (Some x) else old v)) → Read values t index old → Read values t (index + 1) new
read_variable values t index w x old new below h is updates before = record {
  known = λ v there. updates v ∙ known_by v (same_variable w v) refl (sym (next_there t index (Leaf (atom.Open w)) (Leaf (atom.Open v)) below h) ∙ there);
  others = λ v absent. updates v ∙ other_by v (same_variable w v) refl (sym (next_there t index (Leaf (atom.Open w)) (Leaf (atom.Open v)) below h) ∙ absent);
}
  where
    of_sort : IsOfSort w.sort (value_of x)
    of_sort = subst (IsOfSort w.sort) (sym is) (is_assignment values t w)

    same_test : (v : Variable) → w ≡ v → same_term (Leaf (atom.Open v)) (Leaf (atom.Open w)) ≡ true
    same_test v e = subst (λ (u : Variable). same_term (Leaf (atom.Open u)) (Leaf (atom.Open w)) ≡ true) e (same_itself (Leaf (atom.Open w)))

    other_test : (v : Variable) → same_variable w v ≡ false → same_term (Leaf (atom.Open v)) (Leaf (atom.Open w)) ≡ false
    other_test v e = by (same_term (Leaf (atom.Open v)) (Leaf (atom.Open w))) refl
      where
        by : (b : Bool) → same_term (Leaf (atom.Open v)) (Leaf (atom.Open w)) ≡ b → b ≡ false
        by false f = refl
        by true f =
            let one : Leaf (atom.Open v) ≡ Leaf (atom.Open w) = same_is (Leaf (atom.Open v)) (Leaf (atom.Open w)) f in
            let same : v ≡ w = cc in
            let test : same_variable w v ≡ true = subst (λ (u : Variable). same_variable w u ≡ true) (sym same) (variable_laws.lawful.laws.refl w) in
            absurd (cc)

    known_by : (v : Variable) (b : Bool) → same_variable w v ≡ b → (is_there (Leaf (atom.Open v)) (take index t) || same_term (Leaf (atom.Open v)) (Leaf (atom.Open w))) ≡ true
        → (if b then given_or_default v.sort (Some x) else old v) ≡ read_back values t v
    known_by v true e there =
        let same : w ≡ v = variable-same w v e in
        subst (λ (u : Variable). given_or_default u.sort (Some x) ≡ read_back values t u) same (given w.sort x of_sort ∙ is)
    known_by v false e there =
        before.known v (or_cases (is_there (Leaf (atom.Open v)) (take index t)) (same_term (Leaf (atom.Open v)) (Leaf (atom.Open w))) there (other_test v e))

    other_by : (v : Variable) (b : Bool) → same_variable w v ≡ b → (is_there (Leaf (atom.Open v)) (take index t) || same_term (Leaf (atom.Open v)) (Leaf (atom.Open w))) ≡ false
        → (if b then given_or_default v.sort (Some x) else old v) ≡ default_of v.sort
    other_by v true e absent =
        let there : same_term (Leaf (atom.Open v)) (Leaf (atom.Open w)) ≡ true = same_test v (variable-same w v e) in
        let none = (or_parts (is_there (Leaf (atom.Open v)) (take index t)) (same_term (Leaf (atom.Open v)) (Leaf (atom.Open w))) absent).1 in
        absurd (cc)
    other_by v false e absent =
        before.others v (or_parts (is_there (Leaf (atom.Open v)) (take index t)) (same_term (Leaf (atom.Open v)) (Leaf (atom.Open w))) absent).0

pub read_none : (values : Valuation) (t : Table) (assignment : spec.Assignment) → assignment ≡ (λ (v : Variable). default_of v.sort) → Read values t 0 assignment
read_none values t assignment e = record { known = λ v there. absurd (cc); others = λ v absent. ap (λ (a : spec.Assignment). a v) e }

-- ---- all variables

pub read_all : (values : Valuation) (t : Table) (count : ℕ) (assignment : spec.Assignment) (loads : List LoadIndices) → AreDistinct (terms_in t) → AreWithin t loads
    → map (load_at t) loads ≡ loads_of t t → length t ≤ count → Read values t count assignment → values 1 ≡ true → (v : Variable) → assignment v ≡ read_back values t v
read_all values t count assignment loads distinct within all done read one v = by (is_there (Leaf (atom.Open v)) t) refl
  where
    whole : take count t ≡ t
    whole = take_all t count done

    by : (b : Bool) → is_there (Leaf (atom.Open v)) t ≡ b → assignment v ≡ read_back values t v
    by true e = read.known v (ap (is_there (Leaf (atom.Open v))) whole ∙ e)
    by false e = read.others v (ap (is_there (Leaf (atom.Open v))) whole ∙ e) ∙ default_back t distinct loads within all values v v.sort one e
