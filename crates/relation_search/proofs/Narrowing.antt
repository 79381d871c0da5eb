-- What is known of the lines that are left, from round to round.
use Rattle.std.proofs.Common.{◌<◌, ◌+◌, ℕ, not, List, length, get_or, ◌∙◌, ap, inl, inr, arith, zero-add}
use Rattle.std.specs.Prelude.{Contains, All, nat_eq, ◌↔◌}
use Rattle.std.specs.List.{list_any, range_with_len}
use Rattle.std.specs.List.Sorted.{IsStrictlyIncreasing}
use Rattle.std.proofs.lemmas.List.Elements.{All-contains, All-filter, All-from_get_or, All-weaker, Contains-get_or}
use Rattle.std.proofs.lemmas.List.Kept.{IsStrictlyIncreasing-filter}
use Rattle.std.proofs.lemmas.List.FromFn.{length-range_with_len, get_or-range_with_len}
use Rattle.relation_search.specs.Greatest.{Within, without, IsMonotone, NoneRefuted, IsGreatest}
use Rattle.relation_search.specs.Answers.{AreRefuted}
use Rattle.relation_search.proofs.Members.{contained_or_not, any_of_contained, none_of_others, in_filter, of_filter, fewer_pass}

-- two judges refute the same
abbrev pub AreAlike : (old new : List ℕ → ℕ → Type 0) → Type 0
AreAlike old new = (some : List ℕ) (line : ℕ) → old some line ↔ new some line

pub alike_then : (old middle new : List ℕ → ℕ → Type 0) → AreAlike old middle → AreAlike middle new → AreAlike old new
alike_then old middle new first second some line = (
  λ r. (second some line).0 ((first some line).0 r),
  λ r. (first some line).1 ((second some line).1 r),
)

-- ---- lines that are taken out

pub in_without : (out lines : List ℕ) (line : ℕ) → Contains lines line → (Contains out line → ⊥) → Contains (without out lines) line
in_without out lines line c absent = in_filter (λ l. not (list_any (λ other. nat_eq other l) out)) lines line c (ap not (none_of_others out line absent))

pub of_without : (out lines : List ℕ) → Within (without out lines) lines
of_without out lines line c = of_filter (λ l. not (list_any (λ other. nat_eq other l) out)) lines line c

pub fewer_left : (refutes : List ℕ → ℕ → Type 0) (lines out : List ℕ) → AreRefuted refutes lines out → length (without out lines) < length lines
fewer_left refutes lines out r =
    let some = r.some in
    let one = get_or out 0 0 in
    let there : Contains out one = Contains-get_or out 0 0 some in
    fewer_pass (λ l. not (list_any (λ other. nat_eq other l) out)) lines one (All-contains (Contains lines) out one r.among there)
    (ap not (any_of_contained out one there))

-- ---- rounds

module _ (refutes : List ℕ → ℕ → Type 0) where
  -- no set none of whose lines is refuted has lost a line, and each line that was lost is refuted where the others hold
  pub record IsNarrowed (count : ℕ) (lines : List ℕ) : Type 0 where
    pub below : All (λ line. line < count) lines
    pub ascending : IsStrictlyIncreasing lines
    pub greatest : (others : List ℕ) → All (λ line. line < count) others → NoneRefuted refutes others → Within others lines
    pub outside : (line : ℕ) → line < count → (Contains lines line → ⊥) → refutes lines line

  in_range : (count line : ℕ) → line < count → Contains (range_with_len 0 count) line
  in_range count line h =
      let many = length-range_with_len 0 count in
      (line, omega (arith, many, h), get_or-range_with_len 0 count line line h ∙ zero-add line)

  pub all_left : (count : ℕ) → IsNarrowed count (range_with_len 0 count)
  all_left count = record {
    below = All-from_get_or (λ line. line < count) (range_with_len 0 count) 0 (λ i h.
        let many = length-range_with_len 0 count in
        let less : i < count = omega (arith, many, h) in
        let is = get_or-range_with_len 0 count i 0 less in
        omega (arith, is, less));
    ascending = λ k h.
        let many = length-range_with_len 0 count in
        let next : k + 1 < count = omega (arith, many, h) in
        let less : k < count = omega (arith, next) in
        let first = get_or-range_with_len 0 count k 0 less in
        let second = get_or-range_with_len 0 count (k + 1) 0 next in
        omega (arith, first, second);
    greatest = λ others below clean line c. in_range count line (All-contains (λ l. l < count) others line below c);
    outside = λ line less absent. absurd (absent (in_range count line less));
  }

  pub narrowed : IsMonotone refutes → (count : ℕ) (lines out : List ℕ) → IsNarrowed count lines → AreRefuted refutes lines out → IsNarrowed count (without out lines)
  narrowed monotone count lines out n r = record {
    below = All-filter (λ l. not (list_any (λ other. nat_eq other l) out)) (λ line. line < count) lines n.below;
    ascending = IsStrictlyIncreasing-filter (λ l. not (list_any (λ other. nat_eq other l) out)) lines n.ascending;
    greatest = λ others below clean line c.
        in_without out lines line (n.greatest others below clean line c)
        (λ o. clean line c (monotone others lines line (n.greatest others below clean) (All-contains (refutes lines) out line r.refuted o)));
    outside = λ line less absent. elim (contained_or_not out line) [
      | inl o ↦ monotone (without out lines) lines line (of_without out lines) (All-contains (refutes lines) out line r.refuted o)
      | inr kept ↦ elim (contained_or_not lines line) [
        | inl there ↦ absurd (absent (in_without out lines line there kept))
        | inr gone ↦ monotone (without out lines) lines line (of_without out lines) (n.outside line less gone)
      ]
    ];
  }

  pub finished : (count : ℕ) (lines : List ℕ) → IsNarrowed count lines → NoneRefuted refutes lines → IsGreatest refutes count lines
  finished count lines n clean = record { below = n.below; ascending = n.ascending; kept = clean; greatest = n.greatest; outside = n.outside }

-- ---- where the judge that is asked refutes what another did

module _ (old new : List ℕ → ℕ → Type 0) (alike : AreAlike old new) where
  pub refuted_alike : (lines out : List ℕ) → AreRefuted new lines out → AreRefuted old lines out
  refuted_alike lines out r = record {
    some = r.some;
    among = r.among;
    refuted = All-weaker (new lines) (old lines) (λ line. (alike lines line).1) out r.refuted;
  }

  pub none_alike : (lines : List ℕ) → NoneRefuted new lines → NoneRefuted old lines
  none_alike lines clean line c r = clean line c ((alike lines line).0 r)
