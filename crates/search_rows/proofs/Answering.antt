-- What a table's answers say.
use Rattle.std.proofs.Common.{◌≡◌, ◌⊎◌, ◌||◌, ℕ, Bool, true, false, List, [], ◌∷◌, ◌<◌, length, refl, sym, subst, inl, inr, arith}
use Rattle.std.specs.Prelude.{if◌then◌else◌, Contains, All, filter}
use Rattle.std.specs.List.{list_any}
use Rattle.std.proofs.lemmas.List.Elements.{All-nil, All-cons}
use Rattle.visit_walk_spec.proofs.Members as member
use Rattle.relation_search.proofs.Members.{none_contained, contained_here, contained_later, contained_cases, any_of_contained, none_of_others, contained_or_not, in_filter, of_filter}
use Rattle.relation_search.specs.Greatest.{NoneRefuted}
use Rattle.relation_search.specs.Answers.{AreRefuted}
use Rattle.search_rows.specs.declared.tables.Row.{Row}
use Rattle.search_rows.specs.Tables.{Refutes, refutes, is_among, refuted_by, first_refuted, first_of}

among_contained : (some : List ℕ) (line : ℕ) → is_among some line ≡ true → Contains some line
among_contained some line e = elim (contained_or_not some line) [ inl c ↦ c | inr absent ↦ absurd (let is = none_of_others some line absent in cc) ]

filter_passes : (test : ℕ → Bool) (xs : List ℕ) (t : ℕ) → Contains (filter test xs) t → test t ≡ true
filter_passes test [] t c = absurd (none_contained t c)
filter_passes test (x ∷ xs) t c = by (test x) refl (λ later. filter_passes test xs t later) c
  where
    by : (b : Bool) → test x ≡ b → (Contains (filter test xs) t → test t ≡ true) → Contains (if b then x ∷ filter test xs else filter test xs) t → test t ≡ true
    by true e rest c = elim (contained_cases x (filter test xs) t c) [ inl same ↦ subst (λ z. test z ≡ true) (sym same) e | inr later ↦ rest later ]
    by false e rest c = rest c

no_meeting : (before lines : List ℕ) → list_any (is_among before) lines ≡ false → (other : ℕ) → Contains lines other → Contains before other → ⊥
no_meeting before [] e other c of = none_contained other c
no_meeting before (x ∷ lines) e other c of = by (is_among before x) refl (λ f later. no_meeting before lines f other later of) e (contained_cases x lines other c)
  where
    by : (b : Bool) → is_among before x ≡ b → (list_any (is_among before) lines ≡ false → Contains lines other → ⊥) → (b || list_any (is_among before) lines) ≡ false
        → (other ≡ x) ⊎ Contains lines other → ⊥
    by true f rest e cases = absurd (cc)
    by false f rest e (inl same) = let is = any_of_contained before x (subst (Contains before) same of) in absurd (cc)
    by false f rest e (inr later) = rest e later

all_apart : (before lines : List ℕ) → ((other : ℕ) → Contains lines other → Contains before other → ⊥) → list_any (is_among before) lines ≡ false
all_apart before [] apart = refl
all_apart before (x ∷ lines) apart =
    by (is_among before x) (none_of_others before x (apart x (contained_here x lines))) (all_apart before lines (λ other c. apart other (contained_later x lines other c)))
  where
    by : (b : Bool) → b ≡ false → list_any (is_among before) lines ≡ false → (b || list_any (is_among before) lines) ≡ false
    by true f rest = absurd (cc)
    by false f rest = rest

of_row : (row : Row) (lines : List ℕ) (line : ℕ) → Contains (refuted_by row.before.items row.after.items lines) line → Contains lines line × Refutes row lines line
of_row row lines line c = by (list_any (is_among row.before.items) lines) refl c
  where
    by : (b : Bool) → list_any (is_among row.before.items) lines ≡ b → Contains (if b then [] else filter (is_among row.after.items) lines) line
        → Contains lines line × Refutes row lines line
    by true e c = absurd (none_contained line c)
    by false e c = (
      of_filter (is_among row.after.items) lines line c,
      record {
        holds = no_meeting row.before.items lines e;
        false_after = among_contained row.after.items line (filter_passes (is_among row.after.items) lines line c);
      },
    )

in_row : (row : Row) (lines : List ℕ) (line : ℕ) → Contains lines line → Refutes row lines line → Contains (refuted_by row.before.items row.after.items lines) line
in_row row lines line c r =
    subst (λ (b : Bool). Contains (if b then [] else filter (is_among row.after.items) lines) line) (sym (all_apart row.before.items lines r.holds))
    (in_filter (is_among row.after.items) lines line c (any_of_contained row.after.items line r.false_after))

found : (rows : List Row) (lines : List ℕ) (line : ℕ) → Contains (first_refuted rows lines) line → Contains lines line × refutes rows lines line
found [] lines line c = absurd (none_contained line c)
found (row ∷ rows) lines line c = by (refuted_by row.before.items row.after.items lines) (of_row row lines line) (found rows lines line) c
  where
    by : (out : List ℕ) → (Contains out line → Contains lines line × Refutes row lines line)
        → (Contains (first_refuted rows lines) line → Contains lines line × refutes rows lines line)
        → Contains (first_of out (first_refuted rows lines)) line → Contains lines line × refutes (row ∷ rows) lines line
    by [] at_first rest c = let r = rest c in (r.0, (r.1.0, member.contained_later row rows r.1.0 r.1.1, r.1.2))
    by (x ∷ out) at_first rest c = let r = at_first c in (r.0, (row, member.contained_here row rows, r.1))

some_first : (line : ℕ) (out rest : List ℕ) → Contains out line ⊎ (0 < length rest) → 0 < length (first_of out rest)
some_first line [] rest (inl c) = absurd (none_contained line c)
some_first line [] rest (inr more) = more
some_first line (x ∷ out) rest some = omega arith

some_found : (rows : List Row) (lines : List ℕ) (line : ℕ) → Contains lines line → refutes rows lines line → 0 < length (first_refuted rows lines)
some_found [] lines line c r = absurd (member.none_contained r.0 r.1)
some_found (row ∷ rows) lines line c r =
    some_first line (refuted_by row.before.items row.after.items lines) (first_refuted rows lines) (elim (member.contained_cases row rows r.0 r.1) [
      | inl same ↦ inl (in_row row lines line c (subst (λ (one : Row). Refutes one lines line) same r.2))
      | inr later ↦ inr (some_found rows lines line c (r.0, later, r.2))
    ])

all_of : (P : ℕ → Type 0) (xs : List ℕ) → ((x : ℕ) → Contains xs x → P x) → All P xs
all_of P [] f = All-nil P
all_of P (x ∷ xs) f = All-cons P x xs (f x (contained_here x xs)) (all_of P xs (λ y c. f y (contained_later x xs y c)))

-- ---- the answers

pub refutes_some : (rows : List Row) (lines out : List ℕ) → out ≡ first_refuted rows lines → 0 < length out → AreRefuted (refutes rows) lines out
refutes_some rows lines out e some = record {
  some = some;
  among = all_of (Contains lines) out (λ line c. (found rows lines line (subst (λ (l : List ℕ). Contains l line) e c)).0);
  refuted = all_of (refutes rows lines) out (λ line c. (found rows lines line (subst (λ (l : List ℕ). Contains l line) e c)).1);
}

pub refutes_none : (rows : List Row) (lines out : List ℕ) → out ≡ first_refuted rows lines → length out ≡ 0 → NoneRefuted (refutes rows) lines
refutes_none rows lines out e empty line c r =
    let some = subst (λ (l : List ℕ). 0 < length l) (sym e) (some_found rows lines line c r) in
    omega (arith, some, empty)
