-- Two states at a cut, where memories are equal outside the zone, have the values of the terms there.
use Rattle.std.proofs.Common.{◌≡◌, ◌∙◌, ℕ, ◌<◌, ◌≤◌, ◌^◌, ◌==◌, ◌&&◌, ◌||◌, Bool, true, false, if◌then◌else◌, [], ◌∷◌, Option, Some, refl, sym, ap, inl, inr, arith, ap₂}
use Rattle.std.specs.Prelude.{◌%◌, nat_le, nat_lt, not}
use Rattle.std.proofs.lemmas.Bool.{cases_Bool, cases_lt, both_ways, and_parts, or_cases, false≢true, lt-ltb, le-ltb, lt-leb, le-leb, eqb-true}
use Rattle.term_core_spec.specs.declared.Width.TheVariants.{W32}
use Rattle.term_core_spec.specs.declared.Sort.TheVariants as sort
use Rattle.term_core_spec.specs.declared.Family.TheVariants as family
use Rattle.term_core_spec.specs.declared.Variable.{Variable}
use Rattle.term_core_spec.specs.Same.{same_variable}
use Rattle.term_core_spec.specs.Term.{Term, Occurs, open_term, over, equal, constant}
use Rattle.term_core_spec.specs.Substitution.{values_of}
use Rattle.term_core_spec.specs.Value.{Assignment, Value, Truth, Number, Bytes, IsAssignment, value, unary_value, binary_value, quaternary_value, low_bits, overlaid, equal_values}
use Rattle.term_core_spec.proofs.Same.{variable-same}
use Rattle.term_core_spec.proofs.Soundness.{value-sort}
use Rattle.term_core_spec.proofs.Sorts.{as_word, as_memory}
use Rattle.term_core_spec.proofs.Substitution.{values-sort as values-sort-of}
use Rattle.term_core_spec.proofs.Variables.{value-occurs}
use Rattle.term_core_spec.specs.Sort.{sort_of, sort_of_atom, sort_of_quaternary}
use Rattle.graph_core_spec.specs.Run.{State, Running, Returned, Failed, has_failed, is_truth}
use Rattle.graph_core_spec.specs.Fixed.{has_byte, holds_byte}
use Rattle.path_cond_spec.specs.Passages.{holds}
use Rattle.proof_tree_spec.specs.Frames.{Frame}
use Rattle.graph_core_spec.specs.TransitionSystem.{after}
use Rattle.graph_core_spec.specs.Simulation.{IsRelated}
use Rattle.sim_rules_spec.specs.Points.{Convention, binary_memory, source_memory, zone_memory, address, is_binary, values_in, values_at, other_values, bounded, nothing, same_byte, all_hold, zone_low, zone_high, entry_zone, source_zone, is_source}
use Rattle.sim_rules_spec.specs.Systems.{entry_holds, IsBinaryFine, IsSourceFine}
use Rattle.sim_rules_spec.specs.Rules.{at_cut}
use Rattle.sim_rules_spec.specs.Proper.{IsConvention, IsOpened, Opens, IsEntryLine}
use Rattle.sim_rules_spec.proofs.Sides.{joined-sort, sides-binary, sides-source}
use Rattle.sim_rules_spec.proofs.Case.{values-sort}

-- ---- memories

-- the byte of a memory at an address
byte_in : Value → ℕ → ℕ
byte_in (Bytes bytes) at = bytes at
byte_in (Truth truth) at = 0
byte_in (Number width number) at = 0

byte_in-bytes : (bytes : ℕ → ℕ) (at : ℕ) → byte_in (Bytes bytes) at ≡ bytes at
unfolding byte_in
byte_in-bytes bytes at = refl

zero_byte : (memory : Value) (at : ℕ) → has_byte memory at (Some 0) ≡ true → byte_in memory at ≡ 0
unfolding byte_in
zero_byte (Bytes bytes) at h = eqb-true (bytes at) 0 h
zero_byte (Truth truth) at h = absurd (false≢true h)
zero_byte (Number width number) at h = absurd (false≢true h)

-- from 2 ^ 32 on it is 0
zero_from : (fixed : ℕ → Option ℕ) (memory : Value) (at : ℕ) → 2 ^ 32 ≤ at → has_byte memory at (bounded fixed at) ≡ true → byte_in memory at ≡ 0
zero_from fixed memory at more h =
    let past : nat_lt at (2 ^ 32) ≡ false = le-ltb at (2 ^ 32) more in
    zero_byte memory at (ap (has_byte memory at) (sym (ap (λ (b : Bool). if b then fixed at else Some 0) past)) ∙ h)

binary_zero : (fixed : ℕ → Option ℕ) (s : State) (at : ℕ) → 2 ^ 32 ≤ at → holds_byte (bounded fixed) binary_memory at s ≡ true → byte_in (values_in s binary_memory) at ≡ 0
unfolding byte_in
binary_zero fixed (Running g n values []) at more h = zero_from fixed (values binary_memory) at more h
binary_zero fixed (Running g n values (f ∷ below)) at more h = zero_from fixed (values binary_memory) at more h
binary_zero fixed (Returned values) at more h = zero_from fixed (values binary_memory) at more h
binary_zero fixed Failed at more h = refl

source_zero : (fixed : ℕ → Option ℕ) (s : State) (at : ℕ) → 2 ^ 32 ≤ at → holds_byte (bounded fixed) source_memory at s ≡ true → byte_in (values_in s source_memory) at ≡ 0
unfolding byte_in
source_zero fixed (Running g n values []) at more h = zero_from fixed (values source_memory) at more h
source_zero fixed (Running g n values (f ∷ below)) at more h = zero_from fixed (values source_memory) at more h
source_zero fixed (Returned values) at more h = zero_from fixed (values source_memory) at more h
source_zero fixed Failed at more h = refl

-- ---- words

equal_words : (a : Assignment) (s : Term) (n m : ℕ) → value a s ≡ Number W32 n → holds a (equal s (constant W32 m)) ≡ true → n ≡ m
unfolding value binary_value
equal_words a s n m e h = eqb-true n m (sym (ap (λ (u : Value). is_truth (equal_values u (Number W32 m))) e) ∙ h)

-- ---- the bytes of a memory over another

low_same : (at : ℕ) → at < 2 ^ 32 → at % 2 ^ 32 ≡ at
low_same at less = omega (arith, less)

not_less : (at from : ℕ) → nat_le from at ≡ not (nat_lt at from)
not_less at from = elim (cases_lt at from) [
  | inl less ↦ lt-leb from at less ∙ sym (ap not (lt-ltb at from less))
  | inr more ↦ le-leb from at more ∙ sym (ap not (le-ltb at from more))
]

module _ (c : Convention) (convention : IsConvention c) (x y : State) (sorted_x : IsAssignment (values_in x)) (sorted_y : IsAssignment (values_in y)) where
  -- values at entry are the same at each address
  entry_value : (at : ℕ) (t : Term) → ((v : Variable) → Occurs v t → v.family ≡ family.Entry) → (from : ℕ) → value (values_at from x y) t ≡ value (values_at at x y) t
  entry_value at t entry from = value-occurs (values_at from x y) (values_at at x y) t (λ v o.
      let own : is_binary v.family ≡ true = ap is_binary (entry v o) in
      sides-binary (values_in x) (values_in y) (other_values from (values_in x binary_memory)) v own
      ∙ sym (sides-binary (values_in x) (values_in y) (other_values at (values_in x binary_memory)) v own))

  module _ (ab mb : ℕ → ℕ) (from to : ℕ) where
    -- what the line on bytes says, by its parts
    line_value : (a : Assignment) (q : ℕ) → a binary_memory ≡ Bytes ab → a source_memory ≡ Bytes mb → a address ≡ Number W32 q
        → value a c.zone_from ≡ Number W32 from → value a c.zone_to ≡ Number W32 to
        → value a (same_byte c) ≡ Truth ((not (nat_lt q from) && nat_lt q to) || (ab (low_bits 32 q) == mb (low_bits 32 q)))
    unfolding value unary_value binary_value
    line_value a q ea em eq ef et = rw (ea, em, eq, ef, et) refl

    -- the value of a memory over another
    over_value : (a : Assignment) → a source_memory ≡ Bytes mb → a zone_memory ≡ Bytes ab → value a c.zone_from ≡ Number W32 from → value a c.zone_to ≡ Number W32 to
        → value a (over (open_term source_memory) (open_term zone_memory) c.zone_from c.zone_to) ≡ Bytes (overlaid mb ab from to)
    unfolding value quaternary_value
    over_value a em ez ef et = rw (em, ez, ef, et) refl

  open_value : (a : Assignment) (v : Variable) → value a (open_term v) ≡ a v
  unfolding value
  open_value a v = refl

  module _ (f : Frame) (live_x : has_failed x ≡ false) (live_y : has_failed y ≡ false) (known : IsRelated (all_hold (same_byte c ∷ [])) x y) (fine_x : IsBinaryFine c f x) (fine_y : IsSourceFine c f y) (at : ℕ) where
    abbrev a : Assignment
    a = values_at at x y

    sorted_a : IsAssignment a
    sorted_a = joined-sort at (values_in x) (values_in y) sorted_x sorted_y

    from_is : (from : ℕ) × (value a c.zone_from ≡ Number W32 from) × (from < 2 ^ 32)
    from_is = as_word W32 (value a c.zone_from) (value-sort a sorted_a c.zone_from (sort.Word W32) convention.from_word)

    to_is : (to : ℕ) × (value a c.zone_to ≡ Number W32 to) × (to < 2 ^ 32)
    to_is = as_word W32 (value a c.zone_to) (value-sort a sorted_a c.zone_to (sort.Word W32) convention.to_word)

    -- what always holds, now
    binary_parts : (q : ℕ) → (holds_byte (bounded nothing) binary_memory q x ≡ true) × (all_hold (entry_zone c) q x Failed ≡ true)
    unfolding after
    binary_parts q =
        let parts = and_parts (holds_byte (bounded nothing) binary_memory q x) (entry_holds f q x Failed && (has_failed x || all_hold (entry_zone c) q x Failed)) (fine_x.held 0 q) in
        let zone = and_parts (entry_holds f q x Failed) (has_failed x || all_hold (entry_zone c) q x Failed) parts.1 in
        (parts.0, sym (ap (λ (b : Bool). b || all_hold (entry_zone c) q x Failed) live_x) ∙ zone.1)

    source_parts : (q : ℕ) → (holds_byte (bounded c.fixed) source_memory q y ≡ true) × (all_hold (source_zone c) q Failed y ≡ true)
    unfolding after
    source_parts q =
        let parts = and_parts (holds_byte (bounded c.fixed) source_memory q y) (has_failed y || all_hold (source_zone c) q Failed y) (fine_y.held 0 q) in
        (parts.0, sym (ap (λ (b : Bool). b || all_hold (source_zone c) q Failed y) live_y) ∙ parts.1)

    -- ---- the ends of the zone are the same on both sides

    entry_again : (t : Term) → IsEntryLine t → value (values_at at x Failed) t ≡ value a t
    entry_again t entry = value-occurs (values_at at x Failed) a t (λ v o.
        let own : is_binary v.family ≡ true = ap is_binary (entry v o) in
        sides-binary (values_in x) (values_in Failed) (other_values at (values_in x binary_memory)) v own
        ∙ sym (sides-binary (values_in x) (values_in y) (other_values at (values_in x binary_memory)) v own))

    two_lines : (s t : State) (l m : Term) → all_hold (l ∷ m ∷ []) at s t ≡ true → (holds (values_at at s t) l ≡ true) × (holds (values_at at s t) m ≡ true)
    two_lines s t l m h =
        let parts = and_parts (holds (values_at at s t) l) (holds (values_at at s t) m && true) h in
        (parts.0, (and_parts (holds (values_at at s t) m) true parts.1).0)

    ends_of_binary : (from_is.0 ≡ c.bottom) × (to_is.0 ≡ c.top)
    ends_of_binary =
        let lines = two_lines x Failed (equal c.zone_from (constant W32 c.bottom)) (equal c.zone_to (constant W32 c.top)) (binary_parts at).1 in (
          equal_words (values_at at x Failed) c.zone_from from_is.0 c.bottom (entry_again c.zone_from convention.from_entry ∙ from_is.1) lines.0,
          equal_words (values_at at x Failed) c.zone_to to_is.0 c.top (entry_again c.zone_to convention.to_entry ∙ to_is.1) lines.1,
        )

    low_word : (n : ℕ) × (values_in y zone_low ≡ Number W32 n) × (n < 2 ^ 32)
    low_word = as_word W32 (values_in y zone_low) (sorted_y zone_low)

    high_word : (n : ℕ) × (values_in y zone_high ≡ Number W32 n) × (n < 2 ^ 32)
    high_word = as_word W32 (values_in y zone_high) (sorted_y zone_high)

    ends_of_source : (low_word.0 ≡ c.bottom) × (high_word.0 ≡ c.top)
    ends_of_source =
        let lines = two_lines Failed y (equal (open_term zone_low) (constant W32 c.bottom)) (equal (open_term zone_high) (constant W32 c.top)) (source_parts at).1 in (
          equal_words (values_at at Failed y) (open_term zone_low) low_word.0 c.bottom (open_value (values_at at Failed y) zone_low ∙ low_word.1) lines.0,
          equal_words (values_at at Failed y) (open_term zone_high) high_word.0 c.top (open_value (values_at at Failed y) zone_high ∙ high_word.1) lines.1,
        )

    low_is : value a c.zone_from ≡ values_in y zone_low
    low_is = from_is.1 ∙ ap (λ (n : ℕ). Number W32 n) (ends_of_binary.0 ∙ sym ends_of_source.0) ∙ sym low_word.1

    high_is : value a c.zone_to ≡ values_in y zone_high
    high_is = to_is.1 ∙ ap (λ (n : ℕ). Number W32 n) (ends_of_binary.1 ∙ sym ends_of_source.1) ∙ sym high_word.1

    source_by : (v : Variable) → is_source v.family ≡ true → (p q : Bool) → same_variable v zone_low ≡ p → same_variable v zone_high ≡ q
        → values_of a (at_cut c).source v ≡ values_in y v
    source_by v own true q e h =
        ap (λ (b : Bool). value a (if b then c.zone_from else (if same_variable v zone_high then c.zone_to else open_term v))) e
        ∙ low_is ∙ ap (values_in y) (sym (variable-same v zone_low e))
    source_by v own false true e h =
        ap₂ (λ (b d : Bool). value a (if b then c.zone_from else (if d then c.zone_to else open_term v))) e h
        ∙ high_is ∙ ap (values_in y) (sym (variable-same v zone_high h))
    source_by v own false false e h =
        ap₂ (λ (b d : Bool). value a (if b then c.zone_from else (if d then c.zone_to else open_term v))) e h
        ∙ open_value a v ∙ sides-source (values_in x) (values_in y) (other_values at (values_in x binary_memory)) v own

    module _ (ab mb : ℕ → ℕ) (is_a : values_in x binary_memory ≡ Bytes ab) (is_m : values_in y source_memory ≡ Bytes mb) where
      -- outside the zone the bytes are the same
      outside : (q : ℕ) → (nat_le from_is.0 q && nat_lt q to_is.0) ≡ false → mb q ≡ ab q
      outside q out = elim (cases_lt q (2 ^ 32)) [
        | inr more ↦
            sym (byte_in-bytes mb q) ∙ ap (λ (m : Value). byte_in m q) (sym is_m) ∙ source_zero c.fixed y q more (source_parts q).0
            ∙ sym (sym (byte_in-bytes ab q) ∙ ap (λ (m : Value). byte_in m q) (sym is_a) ∙ binary_zero nothing x q more (binary_parts q).0)
        | inl less ↦
            let b : Assignment = values_at q x y in
            let low : low_bits 32 q ≡ q = low_same q less in
            let line : holds b (same_byte c) ≡ true = (and_parts (holds b (same_byte c)) true (known q)).0 in
            let is = line_value ab mb from_is.0 to_is.0 b (low_bits 32 q) is_a is_m refl
            (entry_value at c.zone_from convention.from_entry q ∙ from_is.1) (entry_value at c.zone_to convention.to_entry q ∙ to_is.1) in
            let test : ((not (nat_lt q from_is.0) && nat_lt q to_is.0) || (ab (low_bits 32 q) == mb (low_bits 32 q))) ≡ true =
            ap (λ (n : ℕ). (not (nat_lt n from_is.0) && nat_lt n to_is.0) || (ab (low_bits 32 n) == mb (low_bits 32 n))) (sym low)
            ∙ ap is_truth (sym is) ∙ line in
            let zone : (not (nat_lt q from_is.0) && nat_lt q to_is.0) ≡ false =
            ap (λ (p : Bool). p && nat_lt q to_is.0) (sym (not_less q from_is.0)) ∙ out in
            elim (or_cases (not (nat_lt q from_is.0) && nat_lt q to_is.0) (ab (low_bits 32 q) == mb (low_bits 32 q)) test) [
              | inl inside ↦ absurd (both_ways (not (nat_lt q from_is.0) && nat_lt q to_is.0) zone inside)
              | inr same ↦
                  let bytes : ab (low_bits 32 q) ≡ mb (low_bits 32 q) = eqb-true (ab (low_bits 32 q)) (mb (low_bits 32 q)) same in
                  ap mb (sym low) ∙ sym bytes ∙ ap ab low
            ]
      ]

      laid : (q : ℕ) (b : Bool) → (nat_le from_is.0 q && nat_lt q to_is.0) ≡ b → overlaid mb ab from_is.0 to_is.0 q ≡ ab q
      laid q true e = ap (λ (p : Bool). if p then ab q else mb q) e
      laid q false e = ap (λ (p : Bool). if p then ab q else mb q) e ∙ outside q e

      memory_is : value a (over (open_term source_memory) (open_term zone_memory) c.zone_from c.zone_to) ≡ values_in x binary_memory
      memory_is =
          over_value ab mb from_is.0 to_is.0 a is_m is_a from_is.1 to_is.1
          ∙ ap (λ (bytes : ℕ → ℕ). Bytes bytes) (λ i q. laid q (nat_le from_is.0 q && nat_lt q to_is.0) refl i) ∙ sym is_a

      binary_at : (v : Variable) → is_binary v.family ≡ true → values_of a (at_cut c).binary v ≡ values_in x v
      binary_at v own = elim (cases_Bool (same_variable v binary_memory)) [
        | inl same ↦
            let is : v ≡ binary_memory = variable-same v binary_memory same in
            ap (λ (p : Bool). value a (if p then over (open_term source_memory) (open_term zone_memory) c.zone_from c.zone_to else open_term v)) same
            ∙ memory_is ∙ ap (values_in x) (sym is)
        | inr apart ↦
            ap (λ (p : Bool). value a (if p then over (open_term source_memory) (open_term zone_memory) c.zone_from c.zone_to else open_term v)) apart
            ∙ open_value a v ∙ sides-binary (values_in x) (values_in y) (other_values at (values_in x binary_memory)) v own
      ]

    opened : IsOpened (at_cut c) at x y
    opened =
        let ab = as_memory (values_in x binary_memory) (sorted_x binary_memory) in
        let mb = as_memory (values_in y source_memory) (sorted_y source_memory) in
        record {
          binary = binary_at ab.0 mb.0 ab.1 mb.1;
          source = λ v own. source_by v own (same_variable v zone_low) (same_variable v zone_high) refl refl;
        }

-- ---- sorts of the terms at a cut

chosen_sort : (b : Bool) (v : Variable) (s t : Term) → (b ≡ true → sort_of s ≡ Some v.sort) → sort_of t ≡ Some v.sort → sort_of (if b then s else t) ≡ Some v.sort
chosen_sort true v s t p q = p refl
chosen_sort false v s t p q = q

open_sort : (v : Variable) → sort_of (open_term v) ≡ Some v.sort
unfolding sort_of sort_of_atom
open_sort v = refl

over_sort : (c : Convention) → IsConvention c → sort_of (over (open_term source_memory) (open_term zone_memory) c.zone_from c.zone_to) ≡ Some sort.Memory
unfolding sort_of sort_of_atom sort_of_quaternary
over_sort c convention = rw (convention.from_word, convention.to_word) refl

cut_sort : (c : Convention) → IsConvention c → (v : Variable) → sort_of ((at_cut c).binary v) ≡ Some v.sort
cut_sort c convention v = chosen_sort (same_variable v binary_memory) v (over (open_term source_memory) (open_term zone_memory) c.zone_from c.zone_to) (open_term v)
    (λ same. over_sort c convention ∙ ap (λ (w : Variable). Some w.sort) (sym (variable-same v binary_memory same))) (open_sort v)

cut_source_sort : (c : Convention) → IsConvention c → (v : Variable) → sort_of ((at_cut c).source v) ≡ Some v.sort
cut_source_sort c convention v =
    chosen_sort (same_variable v zone_low) v c.zone_from (if same_variable v zone_high then c.zone_to else open_term v)
    (λ same. convention.from_word ∙ ap (λ (w : Variable). Some w.sort) (sym (variable-same v zone_low same)))
    (chosen_sort (same_variable v zone_high) v c.zone_to (open_term v)
    (λ same. convention.to_word ∙ ap (λ (w : Variable). Some w.sort) (sym (variable-same v zone_high same))) (open_sort v))

pub cuts_open : (c : Convention) (f : Frame) → IsConvention c → Opens c f (at_cut c)
cuts_open c f convention = record {
  fixed_below = convention.fixed_below;
  binary_sorts = λ a sorted. values-sort-of a (at_cut c).binary sorted (cut_sort c convention);
  source_sorts = λ a sorted. values-sort-of a (at_cut c).source sorted (cut_source_sort c convention);
  opened = λ x y live_x live_y known fine_x fine_y at.
      opened c convention x y (values-sort x fine_x.kept.sorted) (values-sort y fine_y.kept.sorted) f live_x live_y known fine_x fine_y at;
}
