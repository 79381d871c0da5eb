-- Fixed bytes that are laid over memories, and what they change.
use Rattle.std.proofs.Common.{◌≡◌, ◌≢◌, ◌<◌, ◌^◌, ℕ, Bool, true, false, cond, List, Option, Some, None, refl, ap, sym, ◌∙◌, subst}
use Rattle.std.specs.Prelude.{unwrap_or}
use Rattle.term_core_spec.specs.declared.Width.TheVariants.{W8, W32}
use Rattle.term_core_spec.specs.declared.Sort.{Sort}
use Rattle.term_core_spec.specs.declared.Sort.TheVariants as sort
use Rattle.term_core_spec.specs.declared.Atom.{Atom}
use Rattle.term_core_spec.specs.declared.Atom.TheVariants as atom
use Rattle.term_core_spec.specs.declared.BinaryOperator.{BinaryOperator}
use Rattle.term_core_spec.specs.Term.{Term, Leaf, Unary, Binary, Ternary, Quaternary, Octonary}
use Rattle.term_core_spec.specs.Value.{Value, Truth, Number, Bytes, IsOfSort, Assignment, IsAssignment, low_bits, loaded, value_of_atom, value, unary_value, binary_value}
use Rattle.term_core_spec.proofs.Soundness.{value-sort, at_truth, at_word, at_memory}
use Rattle.memory_spec.specs.Runs.{Run, fixed_byte, AreBytes}
use Rattle.term_norm_spec.specs.Fixed.{HoldsFixed}
use Rattle.term_norm_spec.specs.Patterns.{is_of_source}
use Rattle.term_norm_spec.proofs.Numbers.{mod-small}
use Rattle.mem_terms_spec.specs.Flat.{VariableLoad, load_of, is_in}
use Rattle.mem_terms_spec.specs.Assignments.{IsNoMemory, term_of, number_of}
use Rattle.mem_terms_spec.proofs.Loads.{IfIn, AreIn}
use Rattle.mem_terms_spec.proofs.Readable.{IsLoad, Reads, IsReadable, IsTheLoad, is_the_load}
use Rattle.bit_blast_laws.specs.Held.{with_fixed, held}

module _ (runs : List Run) where
  -- ---- what they make of memories

  fixed_below : (o : Option ℕ) (byte : ℕ) → ((fixed : ℕ) → o ≡ Some fixed → fixed < 2 ^ 8) → byte < 2 ^ 8 → unwrap_or o byte < 2 ^ 8
  fixed_below None byte small below = below
  fixed_below (Some fixed) byte small below = small fixed refl

  with_fixed-sort : AreBytes runs → (s : Sort) (x : Value) → IsOfSort s x → IsOfSort s (with_fixed runs x)
  with_fixed-sort small sort.Truth x h = at_truth (λ u. IsOfSort sort.Truth (with_fixed runs u)) x h (λ a. tt)
  with_fixed-sort small (sort.Word w) x h = at_word (λ u. IsOfSort (sort.Word w) (with_fixed runs u)) w x h (λ a below. (refl, below))
  with_fixed-sort small sort.Memory x h =
      at_memory (λ u. IsOfSort sort.Memory (with_fixed runs u)) x h
      (λ memory below q. fixed_below (fixed_byte runs q) (memory q) (λ fixed e. small q fixed e) (below q))

  one_sort : AreBytes runs → (test : Bool) (s : Sort) (x : Value) → IsOfSort s x → IsOfSort s (cond test (with_fixed runs x) x)
  one_sort small true s x h = with_fixed-sort small s x h
  one_sort small false s x h = h

  pub held_assigns : AreBytes runs → (A : Assignment) → IsAssignment A → IsAssignment (held runs A)
  held_assigns small A assigns v = one_sort small (is_of_source v.family) v.sort (A v) (assigns v)

  abbrev bytes_in : Value → (ℕ → ℕ)
  bytes_in (Bytes memory) = memory
  bytes_in (Truth truth) = λ q. 0
  bytes_in (Number width number) = λ q. 0

  one_holds : (test : Bool) (x : Value) (memory : ℕ → ℕ) → test ≡ true → cond test (with_fixed runs x) x ≡ Bytes memory
      → (address byte : ℕ) → fixed_byte runs address ≡ Some byte → memory address ≡ byte
  one_holds false x memory t e address byte f = absurd (cc)
  one_holds true (Truth truth) memory t e address byte f = absurd (cc)
  one_holds true (Number width number) memory t e address byte f = absurd (cc)
  one_holds true (Bytes own) memory t e address byte f = sym (ap (λ u. bytes_in u address) e) ∙ ap (λ o. unwrap_or o (own address)) f

  pub held_holds : (A : Assignment) → HoldsFixed runs (held runs A)
  held_holds A v of memory e = one_holds (is_of_source v.family) (A v) memory (ap is_of_source of) e

  -- ---- what they don't change

  with_fixed-same : (s : Sort) (x : Value) → IsOfSort s x → s ≢ sort.Memory → with_fixed runs x ≡ x
  with_fixed-same sort.Truth x h n = at_truth (λ u. with_fixed runs u ≡ u) x h (λ a. refl)
  with_fixed-same (sort.Word w) x h n = at_word (λ u. with_fixed runs u ≡ u) w x h (λ a below. refl)
  with_fixed-same sort.Memory x h n = absurd (n refl)

  either_way : (test : Bool) (x y : Value) → x ≡ y → cond test x y ≡ y
  either_way true x y e = e
  either_way false x y e = refl

  byte_same : (o : Option ℕ) (byte : ℕ) → ((fixed : ℕ) → o ≡ Some fixed → byte ≡ fixed) → unwrap_or o byte ≡ byte
  byte_same None byte f = refl
  byte_same (Some fixed) byte f = sym (f fixed refl)

  -- the load of a memory at an address gives the byte that is fixed there
  abbrev GivesFixed : (memory address : Value) → Type 0
  GivesFixed m d = (address byte : ℕ) → d ≡ Number W32 address → fixed_byte runs address ≡ Some byte → loaded m d ≡ Number W8 byte

  loaded_same : (m d : Value) → IsOfSort sort.Memory m → IsOfSort (sort.Word W32) d → GivesFixed m d → loaded (with_fixed runs m) d ≡ loaded m d
  loaded_same m d hm hd =
      at_memory (λ u. GivesFixed u d → loaded (with_fixed runs u) d ≡ loaded u d) m hm
      (λ memory bytes.
      at_word (λ w. GivesFixed (Bytes memory) w → loaded (with_fixed runs (Bytes memory)) w ≡ loaded (Bytes memory) w) W32 d hd
      (λ n below gives.
      ap (Number W8)
      (byte_same (fixed_byte runs (low_bits 32 n)) (memory (low_bits 32 n))
      (λ fixed e. ap number_of (gives n fixed refl (sym (ap (fixed_byte runs) (mod-small n (2 ^ 32) below)) ∙ e))))))

  either_loaded : (test : Bool) (m d : Value) → IsOfSort sort.Memory m → IsOfSort (sort.Word W32) d → (test ≡ true → GivesFixed m d)
      → loaded (cond test (with_fixed runs m) m) d ≡ loaded m d
  either_loaded true m d hm hd gives = loaded_same m d hm hd (gives refl)
  either_loaded false m d hm hd gives = refl

  module _ (A : Assignment) (assigns : IsAssignment A) (all : List VariableLoad)
      (gives : (l : VariableLoad) → is_in l all ≡ true → is_of_source l.memory.family ≡ true → GivesFixed (A l.memory) (value A l.address)) where
    leaf_same : (leaf : Atom) → IsNoMemory leaf → value_of_atom (held runs A) leaf ≡ value_of_atom A leaf
    leaf_same (atom.Truth known) h = refl
    leaf_same (atom.Constant width number) h = refl
    leaf_same (atom.Open v) h = either_way (is_of_source v.family) (with_fixed runs (A v)) (A v) (with_fixed-same v.sort (A v) (assigns v) h)

    term_same : (l : VariableLoad) → IsLoad l → is_in l all ≡ true → value (held runs A) l.address ≡ value A l.address → value (held runs A) (term_of l) ≡ value A (term_of l)
    unfolding value binary_value
    term_same l good there e =
        ap (loaded (held runs A l.memory)) e
        ∙ either_loaded (is_of_source l.memory.family) (A l.memory) (value A l.address) (subst (λ s. IsOfSort s (A l.memory)) good.from (assigns l.memory))
        (value-sort A assigns l.address (sort.Word W32) good.at) (gives l there)

    load_same : (operator : BinaryOperator) (a b : Term) (l : VariableLoad) → IsTheLoad operator a b l → IsLoad l → is_in l all ≡ true
        → value (held runs A) b ≡ value A b → value (held runs A) (Binary operator a b) ≡ value A (Binary operator a b)
    load_same operator a b l is good there e =
        let whole : Binary operator a b ≡ term_of l = (let e1 = is.operator_is in let e2 = is.memory_is in let e3 = is.address_is in cc) in
        ap (value (held runs A)) whole ∙ term_same l good there (subst (λ d. value (held runs A) d ≡ value A d) is.address_is e) ∙ ap (value A) (sym whole)

    pub same : (t : Term) → IsReadable t → AreIn t all → value (held runs A) t ≡ value A t
    unfolding value IsReadable AreIn
    same (Leaf leaf) h i = leaf_same leaf h
    same (Unary operator a) h i = ap (unary_value operator) (same a h i)
    same (Binary operator a b) h i = by_load (load_of operator a b) refl h.0 i.0 (λ r. same a r i.1) (same b h.1 i.2)
      where
        by_load : (o : Option VariableLoad) → load_of operator a b ≡ o → Reads operator o (IsReadable a) (IsReadable b) → IfIn o all
            → (IsReadable a → value (held runs A) a ≡ value A a) → value (held runs A) b ≡ value A b
            → value (held runs A) (Binary operator a b) ≡ value A (Binary operator a b)
        by_load None e reads there first second = let e1 = first reads.1 in let e2 = second in cc
        by_load (Some l) e reads there first second = load_same operator a b l (is_the_load operator a b l e) reads there second
    same (Ternary operator a b c) h i =
        let e1 = same a h.0 i.0 in
        let e2 = same b h.1 i.1 in
        let e3 = same c h.2 i.2 in
        cc
    same (Quaternary operator a b c d) h i =
        let e1 = same a h.0 i.0 in
        let e2 = same b h.1 i.1 in
        let e3 = same c h.2 i.2 in
        let e4 = same d h.3 i.3 in
        cc
    same (Octonary a b c d e f g j) h i =
        let e1 = same a h.0 i.0 in
        let e2 = same b h.1 i.1 in
        let e3 = same c h.2 i.2 in
        let e4 = same d h.3 i.3 in
        let e5 = same e h.4 i.4 in
        let e6 = same f h.5 i.5 in
        let e7 = same g h.6 i.6 in
        let e8 = same j h.7 i.7 in
        rw (e1, e2, e3, e4, e5, e6, e7, e8) refl
