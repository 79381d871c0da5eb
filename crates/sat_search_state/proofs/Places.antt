-- The places of variables, through each change of a trail.
use Rattle.std.proofs.Common.{◌≡◌, ◌≢◌, ◌⊎◌, inl, inr, ℕ, ◌+◌, ◌-◌, ◌*◌, ◌<◌, ◌≤◌, Bool, true, false, List, [], ◌∷◌, ◌++◌, Some, length, get_or, set, take, replicate, ap, sym, ◌∙◌, subst, arith}
use Rattle.std.specs.Prelude.{slice_get}
use Rattle.std.proofs.lemmas.Option.{slice_get_within}
use Rattle.std.proofs.lemmas.List.{length-set, get_or-set_same, get_or-set_other, get_or-replicate, get_or_past, length-replicate, take-take}
use Rattle.std.proofs.lemmas.Bool.Decides.{nat_tests}
use Rattle.clause_check_spec.specs.declared.Literal.{Literal}
use Rattle.clause_check_spec.specs.Clause.{negation, is_of}
use Rattle.sat_search_spec.specs.declared.Entry.{Entry}
use Rattle.sat_search_spec.specs.Trail.{IsAbsent}
use Rattle.cnf_core.specs.Codes.{code_of, code_within, same_code}
use Rattle.sat_search_spec.proofs.Members.{same_or_negated}
use Rattle.sat_search_spec.proofs.Trails.{get_cases, get_left, get_last, get_taken, taken_get, some_same}
use Rattle.sat_search_state.specs.Placed.{IsPlaced, IsTruth, IsValued, IsKept}

pub named_low : (variables : ℕ) (l : Literal) → is_of variables l ≡ true → 1 ≤ l.variable
named_low variables l e = grind (arith, nat_tests)

pub named_high : (variables : ℕ) (l : Literal) → is_of variables l ≡ true → l.variable ≤ variables
named_high variables l e = grind (arith, nat_tests)

-- no entry is of the variable of a literal without value
pub fresh : (entries : List Entry) (l : Literal) → IsAbsent entries l → IsAbsent entries (negation l)
    → (i : ℕ) (entry : Entry) → slice_get entries i ≡ Some entry → entry.literal.variable ≡ l.variable → ⊥
fresh entries l not_true not_false i entry here e =
    elim (same_or_negated entry.literal l e) [
      | inl same ↦ not_true i entry here same
      | inr negated ↦ not_false i entry here negated
    ]

other_index : (a b : ℕ) → 1 ≤ a → 1 ≤ b → (a ≡ b → ⊥) → a - 1 ≢ b - 1
other_index a b h k ne e = ne (omega (arith, h, k, e))

-- one more entry
pub placed_more : (entries : List Entry) (places : List ℕ) (more : Entry) → IsPlaced entries places → is_of (length places) more.literal ≡ true
    → IsAbsent entries more.literal → IsAbsent entries (negation more.literal)
    → IsPlaced (entries ++ more ∷ []) (set places (more.literal.variable - 1) (length entries))
placed_more entries places more placed named not_true not_false =
    let low = named_low (length places) more.literal named in
    let high = named_high (length places) more.literal named in
    let count = length-set places (more.literal.variable - 1) (length entries) in
    record {
      of_variables = λ i entry here.
          subst (λ n. is_of n entry.literal ≡ true) (sym count)
          (elim (get_cases entries more i entry here) as (λ _. is_of (length places) entry.literal ≡ true) [
            | inl there ↦ placed.of_variables i entry there
            | inr last ↦ subst (λ (e : Entry). is_of (length places) e.literal ≡ true) (sym last.1) named
          ]);
      placed = λ i entry here.
          elim (get_cases entries more i entry here) [
            | inl there ↦
                let entry_low = named_low (length places) entry.literal (placed.of_variables i entry there) in
                get_or-set_other places (more.literal.variable - 1) (entry.literal.variable - 1) (length entries) 0
                (other_index entry.literal.variable more.literal.variable entry_low low (fresh entries more.literal not_true not_false i entry there))
                ∙ placed.placed i entry there
            | inr last ↦
                ap (λ (e : Entry). get_or (set places (more.literal.variable - 1) (length entries)) (e.literal.variable - 1) 0) last.1
                ∙ get_or-set_same places (more.literal.variable - 1) (length entries) 0 (omega (arith, low, high))
                ∙ sym last.0
          ];
    }

-- fewer entries
pub placed_taken : (entries : List Entry) (places : List ℕ) (m : ℕ) → IsPlaced entries places → IsPlaced (take m entries) places
placed_taken entries places m placed = record {
  of_variables = λ i entry here. placed.of_variables i entry (get_taken m entries i entry here).1;
  placed = λ i entry here. placed.placed i entry (get_taken m entries i entry here).1;
}

pub nothing_placed : (places : List ℕ) → IsPlaced [] places
nothing_placed places = record { of_variables = λ i entry here. cc; placed = λ i entry here. cc }

equal_or_other : (a b : ℕ) → (a ≡ b) ⊎ (a ≡ b → ⊥)
equal_or_other a b = grind arith

lt_or_le : (a b : ℕ) → (a < b) ⊎ (b ≤ a)
lt_or_le a b = grind arith

-- ---- true literals

pub code_inside : (entries : List Entry) (places : List ℕ) (truths : List Bool) (l : Literal) → IsValued entries places truths → is_of (length places) l ≡ true
    → code_of l < length truths
code_inside entries places truths l valued named =
    let within = (code_within (length places) l named).1 in
    let count = valued.count in
    omega (arith, within, count)

pub absent_by_truth : (entries : List Entry) (places : List ℕ) (truths : List Bool) (l : Literal) → IsValued entries places truths
    → get_or truths (code_of l) false ≡ false → IsAbsent entries l
absent_by_truth entries places truths l valued unmarked i entry there same =
    let marked : IsTruth truths l = ap (λ (m : Literal). get_or truths (code_of m) false) (sym same) ∙ valued.all i entry there in cc

set_truth : (truths : List Bool) (m l : Literal) → code_of m < length truths → IsTruth (set truths (code_of m) true) l → (l ≡ m) ⊎ IsTruth truths l
set_truth truths m l inside marked =
    elim (equal_or_other (code_of l) (code_of m)) [
      | inl e ↦ inl (same_code l m e)
      | inr apart ↦ inr (sym (get_or-set_other truths (code_of m) (code_of l) true false apart) ∙ marked)
    ]

truth_set : (truths : List Bool) (m l : Literal) → code_of m < length truths → IsTruth truths l → IsTruth (set truths (code_of m) true) l
truth_set truths m l inside marked =
    elim (equal_or_other (code_of l) (code_of m)) [
      | inl e ↦ ap (λ k. get_or (set truths (code_of m) true) k false) e ∙ get_or-set_same truths (code_of m) true false inside
      | inr apart ↦ get_or-set_other truths (code_of m) (code_of l) true false apart ∙ marked
    ]

-- one more entry
pub valued_more : (entries : List Entry) (places : List ℕ) (truths : List Bool) (more : Entry) → IsPlaced entries places → IsValued entries places truths
    → is_of (length places) more.literal ≡ true → IsAbsent entries more.literal → IsAbsent entries (negation more.literal)
    → IsValued (entries ++ more ∷ []) (set places (more.literal.variable - 1) (length entries)) (set truths (code_of more.literal) true)
valued_more entries places truths more placed valued named not_true not_false =
    let low = named_low (length places) more.literal named in
    let high = named_high (length places) more.literal named in
    let inside = code_inside entries places truths more.literal valued named in
    record {
      count =
          length-set truths (code_of more.literal) true ∙ valued.count
          ∙ ap (λ n. 2 * n + 2) (sym (length-set places (more.literal.variable - 1) (length entries)));
      there = λ l marked.
          elim (set_truth truths more.literal l inside marked) [
            | inl same ↦
                record {
                  entry = more;
                  there =
                      ap (λ (m : Literal). slice_get (entries ++ more ∷ []) (get_or (set places (more.literal.variable - 1) (length entries)) (m.variable - 1) 0)) same
                      ∙ ap (slice_get (entries ++ more ∷ [])) (get_or-set_same places (more.literal.variable - 1) (length entries) 0 (omega (arith, low, high)))
                      ∙ get_last entries more;
                  same = sym same;
                }
            | inr was ↦
                let at = valued.there l was in
                let l_named = subst (λ m. is_of (length places) m ≡ true) at.same (placed.of_variables (get_or places (l.variable - 1) 0) at.entry at.there) in
                let l_low = named_low (length places) l l_named in
                let other : l.variable ≡ more.literal.variable → ⊥ =
                λ e. fresh entries more.literal not_true not_false (get_or places (l.variable - 1) 0) at.entry at.there (ap (λ m. m.variable) at.same ∙ e)
                in
                record {
                  entry = at.entry;
                  there =
                      ap (slice_get (entries ++ more ∷ []))
                      (get_or-set_other places (more.literal.variable - 1) (l.variable - 1) (length entries) 0 (other_index l.variable more.literal.variable l_low low other))
                      ∙ get_left entries more (get_or places (l.variable - 1) 0) at.entry at.there;
                  same = at.same;
                }
          ];
      all = λ i entry here.
          elim (get_cases entries more i entry here) [
            | inl there ↦ truth_set truths more.literal entry.literal inside (valued.all i entry there)
            | inr last ↦
                ap (λ (e : Entry). get_or (set truths (code_of more.literal) true) (code_of e.literal) false) last.1
                ∙ get_or-set_same truths (code_of more.literal) true false inside
          ];
    }

pub kept_more : (entries : List Entry) (places : List ℕ) (truths : List Bool) (more : Entry) → IsKept entries places truths
    → is_of (length places) more.literal ≡ true → IsAbsent entries more.literal → IsAbsent entries (negation more.literal)
    → IsKept (entries ++ more ∷ []) (set places (more.literal.variable - 1) (length entries)) (set truths (code_of more.literal) true)
kept_more entries places truths more kept named not_true not_false = record {
  placed = placed_more entries places more kept.placed named not_true not_false;
  valued = valued_more entries places truths more kept.placed kept.valued named not_true not_false;
}

-- the last entry goes
pub valued_less : (entries : List Entry) (places : List ℕ) (truths : List Bool) (last : Entry) → IsPlaced entries places → IsValued entries places truths
    → slice_get entries (length entries - 1) ≡ Some last
    → IsValued (take (length entries - 1) entries) places (set truths (code_of last.literal) false)
valued_less entries places truths last placed valued here =
    let end = slice_get_within entries (length entries - 1) last here in
    let inside = code_inside entries places truths last.literal valued (placed.of_variables (length entries - 1) last here) in
    record {
      count = length-set truths (code_of last.literal) false ∙ valued.count;
      there = λ l marked.
          elim (equal_or_other (code_of l) (code_of last.literal)) [
            | inl e ↦
                let unmarked = ap (λ k. get_or (set truths (code_of last.literal) false) k false) e ∙ get_or-set_same truths (code_of last.literal) false false inside in
                let both : true ≡ false = sym marked ∙ unmarked in cc
            | inr apart ↦
                let at = valued.there l (sym (get_or-set_other truths (code_of last.literal) (code_of l) false false apart) ∙ marked) in
                let place = get_or places (l.variable - 1) 0 in
                let within = slice_get_within entries place at.entry at.there in
                let before : place ≡ length entries - 1 → ⊥ =
                λ e. apart (ap code_of (sym at.same ∙ ap (λ (x : Entry). x.literal) (some_same entries place (length entries - 1) at.entry last e at.there here)))
                in
                record {
                  entry = at.entry;
                  there = taken_get (length entries - 1) entries place at.entry (omega (arith, within, before, end)) at.there;
                  same = at.same;
                }
          ];
      all = λ i entry there.
          let was = get_taken (length entries - 1) entries i entry there in
          let early = was.0 in
          let apart : code_of entry.literal ≡ code_of last.literal → ⊥ =
          λ e.
          let same_place : i ≡ length entries - 1 =
          sym (placed.placed i entry was.1) ∙ ap (λ (m : Literal). get_or places (m.variable - 1) 0) (same_code entry.literal last.literal e)
          ∙ placed.placed (length entries - 1) last here
          in
          absurd (omega (arith, early, same_place))
          in
          get_or-set_other truths (code_of last.literal) (code_of entry.literal) false false apart ∙ valued.all i entry was.1;
    }

pub kept_less : (entries : List Entry) (places : List ℕ) (truths : List Bool) (last : Entry) → IsKept entries places truths
    → slice_get entries (length entries - 1) ≡ Some last
    → IsKept (take (length entries - 1) entries) places (set truths (code_of last.literal) false)
kept_less entries places truths last kept here = record {
  placed = placed_taken entries places (length entries - 1) kept.placed;
  valued = valued_less entries places truths last kept.placed kept.valued here;
}

-- no entries
nothing_marked : (n : ℕ) (l : Literal) → IsTruth (replicate n false) l → ⊥
nothing_marked n l marked =
    elim (lt_or_le (code_of l) n) [
      | inl below ↦ let unmarked = get_or-replicate n (code_of l) false false below in cc
      | inr past ↦
          let count = length-replicate n false in
          let unmarked = get_or_past (replicate n false) (code_of l) false (omega (arith, past, count)) in cc
    ]

pub nothing_kept : (places : List ℕ) (n : ℕ) → n ≡ 2 * length places + 2 → IsKept [] places (replicate n false)
nothing_kept places n e = record {
  placed = nothing_placed places;
  valued = record {
    count = length-replicate n false ∙ e;
    there = λ l marked. absurd (nothing_marked n l marked);
    all = λ i entry here. cc;
  };
}

-- ---- going back

pub take_shorter : (place : ℕ) (entries : List Entry) → place < length entries → take place (take (length entries - 1) entries) ≡ take place entries
take_shorter place entries h = take-take place (length entries - 1) entries (omega (arith, h))
