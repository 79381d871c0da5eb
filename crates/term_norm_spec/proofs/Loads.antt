-- The rule on loads keeps sort and value.
use Rattle.std.proofs.Common.{◌≡◌, ℕ, ◌^◌, ◌<◌, Bool, true, false, cond, List, Option, Some, None, refl, sym, ap, ◌∙◌, arith}
use Rattle.std.specs.Prelude.{◌==◌, ◌&&◌, not, nat_le, nat_lt}
use Rattle.std.proofs.lemmas.Bool.{and_parts}
use Rattle.std.proofs.lemmas.Bool.Decides.{nat_tests}
use Rattle.term_core_spec.specs.declared.Width.TheVariants.{W8, W32}
use Rattle.term_core_spec.specs.declared.Sort.{Sort}
use Rattle.term_core_spec.specs.declared.Sort.TheVariants as sort
use Rattle.term_core_spec.specs.declared.Family.{Family}
use Rattle.term_core_spec.specs.declared.Family.TheVariants as family
use Rattle.term_core_spec.specs.declared.Variable.{Variable}
use Rattle.term_core_spec.specs.declared.Atom.TheVariants as atom
use Rattle.term_core_spec.specs.declared.UnaryOperator.TheVariants as unary
use Rattle.term_core_spec.specs.declared.BinaryOperator.TheVariants as binary
use Rattle.term_core_spec.specs.declared.TernaryOperator.TheVariants as ternary
use Rattle.term_core_spec.specs.declared.QuaternaryOperator.TheVariants as quaternary
use Rattle.term_core_spec.specs.Term.{Term, Leaf, Ternary, Quaternary, open_term, not_term, and_term, equal, less, load, choose, store, over}
use Rattle.term_core_spec.specs.Sort.{sort_of, sort_of_binary, sort_of_ternary, sort_of_quaternary, is_memory, is_address, is_byte, is_truth, same_sort}
use Rattle.term_core_spec.specs.Value.{Truth, Number, Bytes, Assignment, IsAssignment, value, binary_value, ternary_value, quaternary_value, loaded, low_bits, with_byte, overlaid}
use Rattle.term_core_spec.proofs.Sorts.{sort_if-some, with_three-some, with_four-some, as_memory, same_sort-true}
use Rattle.term_core_spec.proofs.Soundness.{value-sort}
use Rattle.memory_spec.specs.Runs.{Run, AreBytes, fixed_byte}
use Rattle.term_norm_spec.specs.Patterns.{is_constant, is_source_memory, is_of_source, number_of}
use Rattle.term_norm_spec.specs.Normal.{normal_not, normal_and, normal_equal, normal_less, byte_or, load_of_variable, normal_load}
use Rattle.term_norm_spec.proofs.Numbers.{mod-small}
use Rattle.term_norm_spec.proofs.Truths.{sort-not, sort-and, truth_value_of, value-not, value-and, value-choose, keeps_not, keeps_and, keeps_choose, sort-choose}
use Rattle.term_norm_spec.proofs.Words.{word_of, value-less, keeps_less, sort-less}
use Rattle.term_norm_spec.proofs.Equals.{words, sort-equal, value-equal_words, keeps_equal}
use Rattle.term_norm_spec.proofs.Keeps.{Keeps, keeps_itself, keeps_then, keeps_if, at_sort, ternary_keeps, binary_keeps, unary_keeps, constant_is, sort-constant, value-constant}

-- ---- sorts

sort-load : (m d : Term) → sort_of m ≡ Some sort.Memory → sort_of d ≡ Some (sort.Word W32) → sort_of (load m d) ≡ Some (sort.Word W8)
unfolding sort_of sort_of_binary
sort-load m d hm hd = rw (hm, hd) refl

store_is : (m a b : Term) → sort_of (store m a b) ≡ Some sort.Memory → (sort_of m ≡ Some sort.Memory) × (sort_of a ≡ Some (sort.Word W32)) × (sort_of b ≡ Some (sort.Word W8))
unfolding sort_of sort_of_ternary
store_is m a b h =
    let parts = with_three-some (sort_of_ternary ternary.Store) (sort_of m) (sort_of a) (sort_of b) sort.Memory h in
    let tests = sort_if-some _ sort.Memory sort.Memory parts.6 in
    let r1 = and_parts (is_memory parts.0) _ tests.0 in
    let r2 = and_parts (is_address parts.1) (is_byte parts.2) r1.1 in
    (parts.3 ∙ ap Some (same_sort-true parts.0 sort.Memory r1.0), parts.4 ∙ ap Some (same_sort-true parts.1 (sort.Word W32) r2.0), parts.5 ∙ ap Some (same_sort-true parts.2 (sort.Word W8) r2.1))

over_is : (m z from to : Term) → sort_of (over m z from to) ≡ Some sort.Memory
    → (sort_of m ≡ Some sort.Memory) × (sort_of z ≡ Some sort.Memory) × (sort_of from ≡ Some (sort.Word W32)) × (sort_of to ≡ Some (sort.Word W32))
unfolding sort_of sort_of_quaternary
over_is m z from to h =
    let parts = with_four-some (sort_of_quaternary quaternary.Over) (sort_of m) (sort_of z) (sort_of from) (sort_of to) sort.Memory h in
    let tests = sort_if-some _ sort.Memory sort.Memory parts.8 in
    let r1 = and_parts (is_memory parts.0) _ tests.0 in
    let r2 = and_parts (is_memory parts.1) _ r1.1 in
    let r3 = and_parts (is_address parts.2) (is_address parts.3) r2.1 in (
      parts.4 ∙ ap Some (same_sort-true parts.0 sort.Memory r1.0),
      parts.5 ∙ ap Some (same_sort-true parts.1 sort.Memory r2.0),
      parts.6 ∙ ap Some (same_sort-true parts.2 (sort.Word W32) r3.0),
      parts.7 ∙ ap Some (same_sort-true parts.3 (sort.Word W32) r3.1),
    )

pub choose_is : (c x y : Term) (s : Sort) → sort_of (choose c x y) ≡ Some s → (sort_of c ≡ Some sort.Truth) × (sort_of x ≡ Some s) × (sort_of y ≡ Some s)
unfolding sort_of sort_of_ternary
choose_is c x y s h =
    let parts = with_three-some (sort_of_ternary ternary.Choose) (sort_of c) (sort_of x) (sort_of y) s h in
    let tests = sort_if-some _ parts.1 s parts.6 in
    let both = and_parts (is_truth parts.0) (same_sort parts.1 parts.2) tests.0 in
    (parts.3 ∙ ap Some (same_sort-true parts.0 sort.Truth both.0), parts.4 ∙ ap Some tests.1, parts.5 ∙ ap Some (sym (same_sort-true parts.1 parts.2 both.1) ∙ tests.1))

-- ---- values

pub memory_of : (assignment : Assignment) → IsAssignment assignment → (m : Term) → sort_of m ≡ Some sort.Memory → (bytes : ℕ → ℕ) × (value assignment m ≡ Bytes bytes)
memory_of assignment h m hm = let is = as_memory (value assignment m) (value-sort assignment h m sort.Memory hm) in (is.0, is.1)

pub value-load : (assignment : Assignment) (m d : Term) (bytes : ℕ → ℕ) (q : ℕ) → value assignment m ≡ Bytes bytes → value assignment d ≡ Number W32 q → q < 2 ^ 32
    → value assignment (load m d) ≡ Number W8 (bytes q)
unfolding value binary_value
value-load assignment m d bytes q em ed below = rw (em, ed) (ap (λ a. Number W8 (bytes a)) (mod-small q (2 ^ 32) below))

value-store : (assignment : Assignment) (m a b : Term) (bytes : ℕ → ℕ) (address byte : ℕ) → value assignment m ≡ Bytes bytes → value assignment a ≡ Number W32 address → address < 2 ^ 32
    → value assignment b ≡ Number W8 byte → byte < 2 ^ 8 → value assignment (store m a b) ≡ Bytes (with_byte bytes address byte)
unfolding value ternary_value
value-store assignment m a b bytes address byte em ea below eb small =
    rw (em, ea, eb) (ap (λ c. Bytes (with_byte bytes c (low_bits 8 byte))) (mod-small address (2 ^ 32) below) ∙ ap (λ c. Bytes (with_byte bytes address c)) (mod-small byte (2 ^ 8) small))

value-over : (assignment : Assignment) (m z a b : Term) (bytes zone : ℕ → ℕ) (from to : ℕ) → value assignment m ≡ Bytes bytes → value assignment z ≡ Bytes zone
    → value assignment a ≡ Number W32 from → value assignment b ≡ Number W32 to → value assignment (over m z a b) ≡ Bytes (overlaid bytes zone from to)
unfolding value quaternary_value
value-over assignment m z a b bytes zone from to em ez ea eb = rw (em, ez, ea, eb) refl

-- a test moved into a byte
moved_in : (test : Bool) (a b : ℕ) → Number W8 (cond test a b) ≡ cond test (Number W8 a) (Number W8 b)
moved_in true a b = refl
moved_in false a b = refl

not_below : (a b : ℕ) → nat_le b a ≡ not (nat_lt a b)
not_below a b = grind (arith, nat_tests)

value-loaded : (assignment : Assignment) (x d : Term) → value assignment (load x d) ≡ loaded (value assignment x) (value assignment d)
unfolding value binary_value
value-loaded assignment x d = refl

variable_value : (assignment : Assignment) (v : Variable) (m : Term) (bytes : ℕ → ℕ) → m ≡ open_term v → value assignment m ≡ Bytes bytes → assignment v ≡ Bytes bytes
unfolding value
variable_value assignment v m bytes e is = sym (ap (value assignment) e) ∙ is

module _ (runs : List Run) where
  load_store : (m a b d : Term) → sort_of m ≡ Some sort.Memory → sort_of a ≡ Some (sort.Word W32) → sort_of b ≡ Some (sort.Word W8) → sort_of d ≡ Some (sort.Word W32)
      → Keeps runs (sort.Word W8) (load (store m a b) d) (choose (equal d a) b (load m d))
  load_store m a b d hm ha hb hd =
      record {
        sorted = sort-choose runs (sort.Word W8) (equal d a) b (load m d) (sort-equal d a (words W32 hd ha)) hb (sort-load m d hm hd);
        value_is = λ assignment h fixed.
            let vm = memory_of assignment h m hm in
            let va = word_of assignment h W32 a ha in
            let vb = word_of assignment h W8 b hb in
            let vd = word_of assignment h W32 d hd in
            let right : value assignment (choose (equal d a) b (load m d)) ≡ cond (vd.0 == va.0) (value assignment b) (value assignment (load m d)) =
            value-choose assignment (equal d a) b (load m d) (vd.0 == va.0) (value-equal_words assignment W32 d a vd.0 va.0 vd.1 va.1) in
            let arms : cond (vd.0 == va.0) (value assignment b) (value assignment (load m d)) ≡ cond (vd.0 == va.0) (Number W8 vb.0) (Number W8 (vm.0 vd.0)) =
            ap (λ u. cond (vd.0 == va.0) u (value assignment (load m d))) vb.1 ∙ ap (cond (vd.0 == va.0) (Number W8 vb.0)) (value-load assignment m d vm.0 vd.0 vm.1 vd.1 vd.2) in
            right ∙ arms ∙ sym (moved_in (vd.0 == va.0) vb.0 (vm.0 vd.0))
            ∙ sym (value-load assignment (store m a b) d (with_byte vm.0 va.0 vb.0) vd.0 (value-store assignment m a b vm.0 va.0 vb.0 vm.1 va.1 va.2 vb.1 vb.2) vd.1 vd.2);
      }

  abbrev inside : Term → Term → Term → Term
  inside d from to = and_term (not_term (less d from)) (less d to)

  sort-inside : (d from to : Term) → sort_of d ≡ Some (sort.Word W32) → sort_of from ≡ Some (sort.Word W32) → sort_of to ≡ Some (sort.Word W32) → sort_of (inside d from to) ≡ Some sort.Truth
  sort-inside d from to hd hf ht = sort-and (not_term (less d from)) (less d to) (sort-not (less d from) (sort-less W32 d from hd hf)) (sort-less W32 d to hd ht)

  load_over : (m z from to d : Term) → sort_of m ≡ Some sort.Memory → sort_of z ≡ Some sort.Memory → sort_of from ≡ Some (sort.Word W32) → sort_of to ≡ Some (sort.Word W32) → sort_of d ≡ Some (sort.Word W32)
      → Keeps runs (sort.Word W8) (load (over m z from to) d) (choose (inside d from to) (load z d) (load m d))
  load_over m z from to d hm hz hf ht hd =
      record {
        sorted = sort-choose runs (sort.Word W8) (inside d from to) (load z d) (load m d) (sort-inside d from to hd hf ht) (sort-load z d hz hd) (sort-load m d hm hd);
        value_is = λ assignment h fixed.
            let vm = memory_of assignment h m hm in
            let vz = memory_of assignment h z hz in
            let vf = word_of assignment h W32 from hf in
            let vt = word_of assignment h W32 to ht in
            let vd = word_of assignment h W32 d hd in
            let test : Bool = not (nat_lt vd.0 vf.0) && nat_lt vd.0 vt.0 in
            let test_is : value assignment (inside d from to) ≡ Truth test =
            value-and assignment (not_term (less d from)) (less d to) (not (nat_lt vd.0 vf.0)) (nat_lt vd.0 vt.0)
            (value-not assignment (less d from) (nat_lt vd.0 vf.0) (value-less assignment W32 d from vd.0 vf.0 vd.1 vf.1)) (value-less assignment W32 d to vd.0 vt.0 vd.1 vt.1) in
            let right : value assignment (choose (inside d from to) (load z d) (load m d)) ≡ cond test (value assignment (load z d)) (value assignment (load m d)) =
            value-choose assignment (inside d from to) (load z d) (load m d) test test_is in
            let arms : cond test (value assignment (load z d)) (value assignment (load m d)) ≡ cond test (Number W8 (vz.0 vd.0)) (Number W8 (vm.0 vd.0)) =
            ap (λ u. cond test u (value assignment (load m d))) (value-load assignment z d vz.0 vd.0 vz.1 vd.1 vd.2) ∙ ap (cond test (Number W8 (vz.0 vd.0))) (value-load assignment m d vm.0 vd.0 vm.1 vd.1 vd.2) in
            right ∙ arms ∙ sym (moved_in test (vz.0 vd.0) (vm.0 vd.0))
            ∙ ap (λ t. Number W8 (cond (t && nat_lt vd.0 vt.0) (vz.0 vd.0) (vm.0 vd.0))) (sym (not_below vd.0 vf.0))
            ∙ sym (value-load assignment (over m z from to) d (overlaid vm.0 vz.0 vf.0 vt.0) vd.0 (value-over assignment m z from to vm.0 vz.0 vf.0 vt.0 vm.1 vz.1 vf.1 vt.1) vd.1 vd.2);
      }

  load_choose : (c m n d : Term) → sort_of c ≡ Some sort.Truth → sort_of m ≡ Some sort.Memory → sort_of n ≡ Some sort.Memory → sort_of d ≡ Some (sort.Word W32)
      → Keeps runs (sort.Word W8) (load (choose c m n) d) (choose c (load m d) (load n d))
  load_choose c m n d hc hm hn hd =
      record {
        sorted = sort-choose runs (sort.Word W8) c (load m d) (load n d) hc (sort-load m d hm hd) (sort-load n d hn hd);
        value_is = λ assignment h fixed.
            let vc = truth_value_of assignment h c hc in
            value-choose assignment c (load m d) (load n d) vc.0 vc.1 ∙ by_test assignment vc.0
            ∙ ap (λ u. loaded u (value assignment d)) (sym (value-choose assignment c m n vc.0 vc.1)) ∙ sym (value-loaded assignment (choose c m n) d);
      }
    where
      by_test : (assignment : Assignment) (test : Bool) → cond test (value assignment (load m d)) (value assignment (load n d)) ≡ loaded (cond test (value assignment m) (value assignment n)) (value assignment d)
      by_test assignment true = value-loaded assignment m d
      by_test assignment false = value-loaded assignment n d

  choose_keeps : (c x y t u v : Term) → Keeps runs sort.Truth c t → Keeps runs (sort.Word W8) x u → Keeps runs (sort.Word W8) y v
      → sort_of c ≡ Some sort.Truth → sort_of x ≡ Some (sort.Word W8) → sort_of y ≡ Some (sort.Word W8) → Keeps runs (sort.Word W8) (choose c x y) (choose t u v)
  choose_keeps c x y t u v kc kx ky hc hx hy =
      ternary_keeps runs ternary.Choose c x y t u v (sort.Word W8) (sort-choose runs (sort.Word W8) c x y hc hx hy)
      (λ p. at_sort runs sort.Truth p c t hc kc) (λ p. at_sort runs (sort.Word W8) p x u hx kx) (λ p. at_sort runs (sort.Word W8) p y v hy ky)

  keeps_inside : (d from to : Term) → sort_of d ≡ Some (sort.Word W32) → sort_of from ≡ Some (sort.Word W32) → sort_of to ≡ Some (sort.Word W32)
      → Keeps runs sort.Truth (inside d from to) (normal_and (normal_not (normal_less d from)) (normal_less d to))
  keeps_inside d from to hd hf ht =
      let below = keeps_less runs W32 d from hd hf in
      let above = keeps_less runs W32 d to hd ht in
      let not_below : Keeps runs sort.Truth (not_term (less d from)) (normal_not (normal_less d from)) =
      keeps_then runs sort.Truth _ (not_term (normal_less d from)) _
      (unary_keeps runs unary.Not (less d from) (normal_less d from) sort.Truth (sort-not (less d from) (sort-less W32 d from hd hf)) (λ p. at_sort runs sort.Truth p (less d from) (normal_less d from) (sort-less W32 d from hd hf) below))
      (keeps_not runs (normal_less d from) below.sorted) in
      keeps_then runs sort.Truth _ (and_term (normal_not (normal_less d from)) (normal_less d to)) _
      (binary_keeps runs binary.And (not_term (less d from)) (less d to) (normal_not (normal_less d from)) (normal_less d to) sort.Truth (sort-inside d from to hd hf ht)
      (λ p. at_sort runs sort.Truth p (not_term (less d from)) (normal_not (normal_less d from)) (sort-not (less d from) (sort-less W32 d from hd hf)) not_below)
      (λ p. at_sort runs sort.Truth p (less d to) (normal_less d to) (sort-less W32 d to hd ht) above))
      (keeps_and runs (normal_not (normal_less d from)) (normal_less d to) not_below.sorted above.sorted)

  source_is : (m : Term) → is_source_memory m ≡ true → (v : Variable) × (m ≡ open_term v) × (v.family ≡ family.SourceMemory)
  unfolding is_source_memory
  source_is (Leaf (atom.Open v)) e = (v, refl, by_family v.family e)
    where
      by_family : (f : Family) → is_of_source f ≡ true → f ≡ family.SourceMemory
      by_family family.SourceMemory e = refl
      by_family f e = absurd (cc)
  source_is m e = absurd (cc)

  module _ (small : AreBytes runs) where
    keeps_variable : (m d : Term) → sort_of m ≡ Some sort.Memory → sort_of d ≡ Some (sort.Word W32) → Keeps runs (sort.Word W8) (load m d) (load_of_variable runs m d)
    unfolding load_of_variable
    keeps_variable m d hm hd =
        keeps_if runs (sort.Word W8) _ _ _ (is_source_memory m && is_constant d)
        (λ e.
        let both = and_parts (is_source_memory m) (is_constant d) e in
        fixed_keeps both.0 both.1 (fixed_byte runs (number_of d)) refl)
        (λ n1. keeps_itself runs (sort.Word W8) (load m d) (sort-load m d hm hd))
      where
        fixed_keeps : is_source_memory m ≡ true → is_constant d ≡ true → (o : Option ℕ) → fixed_byte runs (number_of d) ≡ o → Keeps runs (sort.Word W8) (load m d) (byte_or o (load m d))
        fixed_keeps source known None e = keeps_itself runs (sort.Word W8) (load m d) (sort-load m d hm hd)
        fixed_keeps source known (Some number) e =
            let is = constant_is W32 d hd known in
            let from = source_is m source in
            record {
              sorted = sort-constant W8 number (small (number_of d) number e);
              value_is = λ assignment h fixed.
                  let vm = memory_of assignment h m hm in
                  let vd : value assignment d ≡ Number W32 (number_of d) = ap (value assignment) is.0 ∙ value-constant assignment W32 (number_of d) in
                  value-constant assignment W8 number
                  ∙ ap (Number W8) (sym (fixed from.0 from.2 vm.0 (variable_value assignment from.0 m vm.0 from.1 vm.1) (number_of d) number e))
                  ∙ sym (value-load assignment m d vm.0 (number_of d) vm.1 vd is.1);
            }

    pub keeps_load : (m d : Term) → sort_of m ≡ Some sort.Memory → sort_of d ≡ Some (sort.Word W32) → Keeps runs (sort.Word W8) (load m d) (normal_load runs m d)
    unfolding normal_load
    keeps_load (Ternary ternary.Store m a b) d hm hd =
        let parts = store_is m a b hm in
        let test = keeps_equal runs d a (words W32 hd parts.1) in
        let rest = keeps_load m d parts.0 hd in
        keeps_then runs (sort.Word W8) _ (choose (equal d a) b (load m d)) _ (load_store m a b d parts.0 parts.1 parts.2 hd)
        (keeps_then runs (sort.Word W8) _ (choose (normal_equal d a) b (normal_load runs m d)) _
        (choose_keeps (equal d a) b (load m d) (normal_equal d a) b (normal_load runs m d) test (keeps_itself runs (sort.Word W8) b parts.2) rest (sort-equal d a (words W32 hd parts.1)) parts.2 (sort-load m d parts.0 hd))
        (keeps_choose runs (sort.Word W8) (normal_equal d a) b (normal_load runs m d) test.sorted parts.2 rest.sorted))
    keeps_load (Ternary ternary.Choose c m n) d hm hd =
        let parts = choose_is c m n sort.Memory hm in
        let one = keeps_load m d parts.1 hd in
        let other = keeps_load n d parts.2 hd in
        keeps_then runs (sort.Word W8) _ (choose c (load m d) (load n d)) _ (load_choose c m n d parts.0 parts.1 parts.2 hd)
        (keeps_then runs (sort.Word W8) _ (choose c (normal_load runs m d) (normal_load runs n d)) _
        (choose_keeps c (load m d) (load n d) c (normal_load runs m d) (normal_load runs n d) (keeps_itself runs sort.Truth c parts.0) one other parts.0 (sort-load m d parts.1 hd) (sort-load n d parts.2 hd))
        (keeps_choose runs (sort.Word W8) c (normal_load runs m d) (normal_load runs n d) parts.0 one.sorted other.sorted))
    keeps_load (Quaternary quaternary.Over m z from to) d hm hd =
        let parts = over_is m z from to hm in
        let test = keeps_inside d from to hd parts.2 parts.3 in
        let zone = keeps_load z d parts.1 hd in
        let rest = keeps_load m d parts.0 hd in
        let within : Term = normal_and (normal_not (normal_less d from)) (normal_less d to) in
        keeps_then runs (sort.Word W8) _ (choose (inside d from to) (load z d) (load m d)) _ (load_over m z from to d parts.0 parts.1 parts.2 parts.3 hd)
        (keeps_then runs (sort.Word W8) _ (choose within (normal_load runs z d) (normal_load runs m d)) _
        (choose_keeps (inside d from to) (load z d) (load m d) within (normal_load runs z d) (normal_load runs m d) test zone rest (sort-inside d from to hd parts.2 parts.3) (sort-load z d parts.1 hd) (sort-load m d parts.0 hd))
        (keeps_choose runs (sort.Word W8) within (normal_load runs z d) (normal_load runs m d) test.sorted zone.sorted rest.sorted))
    keeps_load m d hm hd = keeps_variable m d hm hd
