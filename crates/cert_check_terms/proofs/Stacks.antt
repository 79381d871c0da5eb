-- What has been read, as the bank grows and as entries are put on top.
use Rattle.std.proofs.Common.{◌≡◌, ◌≢◌, ◌∙◌, ℕ, ◌+◌, ◌<◌, ◌≤◌, Bool, true, false, if◌then◌else◌, List, [], ◌∷◌, ◌++◌, length, get_or, Option, Some, None, Ok, Err, Result, refl, sym, ap, subst, arith, length-append, append_assoc, append-nil}
use Rattle.std.specs.Prelude.{option_map, option_and_then}
use Rattle.std.proofs.lemmas.List.Elements.{All-nil, All-cons, All-append, All-head, All-tail, All-weaker}
use Rattle.term_core_spec.specs.Term.{Term}
use Rattle.term_bank.specs.Nodes.{tree_at, Extends}
use Rattle.term_bank.proofs.Growth.{tree_at-front}
use Rattle.cert_text_spec.specs.declared.Operator.{Operator}
use Rattle.cert_check_terms.specs.Reading as spec
use Rattle.attempt.specs.declared.refusal.Refusal.{Refusal}
use Rattle.attempt.specs.declared.refusal.Refusal.TheVariants.{Fault, NoMemory}
use Rattle.cert_check_terms.specs.declared.fault.TermFault.{TermFault}
use Rattle.cert_check_terms.specs.declared.fault.TermFault.TheVariants as fault
use Rattle.cert_check_terms.specs.declared.reading.Subterm.{Subterm}
use Rattle.cert_check_terms.specs.declared.reading.Entry.{Entry}
use Rattle.cert_check_terms.specs.declared.reading.Entry.TheVariants.{Bracket, Whole}
use Rattle.cert_check_terms.specs.declared.reading.Reading.{Reading}
use Rattle.cert_check_terms.specs.Views.{subterm_of, entry_of, stacked, entries_of, taken, arguments_of, IsInside, AreInside, AreSubtermsInside, IsSubtermInside}
use Rattle.cert_check_terms.specs.Outcomes.{IsMade, IsPushed, IsPushedIf, AreNext, IsTaken, Takes, Goes}

-- ---- the top

pub stacked_last : (trees : List Term) (below : List spec.Entry) (entries : List Entry) (e : Entry) → stacked trees below (entries ++ e ∷ []) ≡ entry_of trees e ∷ stacked trees below entries
unfolding stacked
stacked_last trees below [] e = refl
stacked_last trees below (d ∷ entries) e = stacked_last trees (entry_of trees d ∷ below) entries e

pub none_stacked : (trees : List Term) → entries_of trees [] ≡ []
unfolding stacked
none_stacked trees = refl

pub taken_last : (trees : List Term) (later : List spec.Sorted) (xs : List Subterm) (x : Subterm) → taken trees later (xs ++ x ∷ []) ≡ subterm_of trees x ∷ taken trees later xs
unfolding taken
taken_last trees later [] x = refl
taken_last trees later (y ∷ xs) x = taken_last trees (subterm_of trees y ∷ later) xs x

pub none_taken : (trees : List Term) → arguments_of trees [] ≡ []
unfolding taken
none_taken trees = refl

-- ---- a bank that grows

pub longer : (before now : List Term) → Extends before now → length before ≤ length now
longer before now (more, is) = omega (arith, length-append before more, ap length is)

same_subterm : (before now : List Term) (x : Subterm) → Extends before now → x.id < length before → subterm_of now x ≡ subterm_of before x
same_subterm before now x (more, is) within =
    ap (λ (t : Term). spec.with_sort t x.sort) (ap (λ (trees : List Term). tree_at trees x.id) is ∙ tree_at-front before more x.id within)

same_entry : (before now : List Term) (e : Entry) → Extends before now → IsInside (length before) e → entry_of now e ≡ entry_of before e
same_entry before now (Bracket o) extends within = refl
same_entry before now (Whole x) extends within = ap spec.Whole (same_subterm before now x extends within)

same_stacked : (before now : List Term) (below : List spec.Entry) (entries : List Entry) → Extends before now → AreInside (length before) entries
    → stacked now below entries ≡ stacked before below entries
unfolding stacked
same_stacked before now below [] extends inside = refl
same_stacked before now below (e ∷ entries) extends inside =
    ap (λ (f : spec.Entry). stacked now (f ∷ below) entries) (same_entry before now e extends (All-head (IsInside (length before)) e entries inside))
    ∙ same_stacked before now (entry_of before e ∷ below) entries extends (All-tail (IsInside (length before)) e entries inside)

pub same_entries : (before now : List Term) (entries : List Entry) → Extends before now → AreInside (length before) entries → entries_of now entries ≡ entries_of before entries
same_entries before now entries extends inside = same_stacked before now [] entries extends inside

inside_more : (n m : ℕ) (e : Entry) → n ≤ m → IsInside n e → IsInside m e
inside_more n m (Bracket o) le within = tt
inside_more n m (Whole x) le within = omega (arith, le, within)

pub inside_later : (n m : ℕ) (entries : List Entry) → n ≤ m → AreInside n entries → AreInside m entries
inside_later n m entries le inside = All-weaker (IsInside n) (IsInside m) (λ e h. inside_more n m e le h) entries inside

pub inside_pushed : (n : ℕ) (entries : List Entry) (e : Entry) → AreInside n entries → IsInside n e → AreInside n (entries ++ e ∷ [])
inside_pushed n entries e inside within = All-append (IsInside n) entries (e ∷ []) inside (All-cons (IsInside n) e [] within (All-nil (IsInside n)))

pub inside_front : (n : ℕ) (entries : List Entry) (e : Entry) → AreInside n (entries ++ e ∷ []) → AreInside n entries × IsInside n e
inside_front n [] e inside = (All-nil (IsInside n), All-head (IsInside n) e [] inside)
inside_front n (d ∷ entries) e inside =
    let rest = inside_front n entries e (All-tail (IsInside n) d (entries ++ e ∷ []) inside) in
    (All-cons (IsInside n) d entries (All-head (IsInside n) d (entries ++ e ∷ []) inside) rest.0, rest.1)

pub subterms_pushed : (n : ℕ) (xs : List Subterm) (x : Subterm) → AreSubtermsInside n xs → x.id < n → AreSubtermsInside n (xs ++ x ∷ [])
subterms_pushed n xs x inside within = All-append (IsSubtermInside n) xs (x ∷ []) inside (All-cons (IsSubtermInside n) x [] within (All-nil (IsSubtermInside n)))

-- ---- what is put on top

module _ (before now : List Term) (extends : Extends before now) (entries : List Entry) (inside : AreInside (length before) entries) where
  on_top_now : (new : List Entry) (x : Subterm) → new ≡ entries ++ Whole x ∷ [] → spec.on_top (entries_of before entries) (subterm_of now x) ≡ entries_of now new
  on_top_now new x is =
      ap (λ (below : List spec.Entry). spec.Whole (subterm_of now x) ∷ below) (sym (same_entries before now entries extends inside))
      ∙ (sym (stacked_last now [] entries (Whole x)) ∙ ap (entries_of now) (sym is))

  pub pushed_next : (new : List Entry) (expected : Option spec.Sorted) (made : Result Subterm (Refusal TermFault)) (result : Result (Unit {0}) (Refusal TermFault))
      → IsMade now expected made → IsPushedIf entries new made result → AreNext now (spec.pushed (entries_of before entries) expected) new result
  pushed_next new expected (Ok x) (Ok u) made is = (
    subst (AreInside (length now)) (sym is)
        (inside_pushed (length now) entries (Whole x) (inside_later (length before) (length now) entries (longer before now extends) inside) made.0),
    ap (spec.pushed (entries_of before entries)) made.1 ∙ ap Some (on_top_now new x is),
  )
  pushed_next new expected (Ok x) (Err (Fault fault.Sort)) made is = absurd is
  pushed_next new expected (Ok x) (Err NoMemory) made is = tt
  pushed_next new expected (Err (Fault fault.Sort)) result made is =
      subst (AreNext now (spec.pushed (entries_of before entries) expected) new) (sym is) (ap (spec.pushed (entries_of before entries)) made)
  pushed_next new expected (Err NoMemory) result made is = subst (AreNext now (spec.pushed (entries_of before entries) expected) new) (sym is) tt

pub bracket_next : (trees : List Term) (entries new : List Entry) (o : Operator) (result : Result (Unit {0}) (Refusal TermFault)) → AreInside (length trees) entries
    → IsPushed entries new (Bracket o) result → AreNext trees (Some (spec.Bracket o ∷ entries_of trees entries)) new result
bracket_next trees entries new o (Ok u) inside is = (
  subst (AreInside (length trees)) (sym is) (inside_pushed (length trees) entries (Bracket o) inside tt),
  ap Some (sym (stacked_last trees [] entries (Bracket o)) ∙ ap (entries_of trees) (sym is)),
)
bracket_next trees entries new o (Err (Fault fault.Sort)) inside is = absurd is
bracket_next trees entries new o (Err NoMemory) inside is = tt

-- ---- with calls

pub goes_on : (trees : List Term) (calls : List ℕ) (expected : Option (List spec.Entry)) (r : Reading) (result : Result (Unit {0}) (Refusal TermFault)) → r.calls.items ≡ calls
    → AreNext trees expected r.entries.items result → Goes trees (option_map (spec.with_calls calls) expected) r result
goes_on trees calls expected r (Ok u) same next =
    (next.0, ap (option_map (spec.with_calls calls)) next.1 ∙ ap (λ (c : List ℕ). Some (spec.with_calls c (entries_of trees r.entries.items))) (sym same))
goes_on trees calls expected r (Err (Fault fault.Sort)) same next = ap (option_map (spec.with_calls calls)) next
goes_on trees calls expected r (Err NoMemory) same next = tt

-- ---- brackets

pub closing_pushed : (trees : List Term) (entries : List Entry) (xs : List Subterm) (x : Subterm)
    → spec.closing (entries_of trees (entries ++ Whole x ∷ [])) (arguments_of trees xs) ≡ spec.closing (entries_of trees entries) (arguments_of trees (xs ++ x ∷ []))
closing_pushed trees entries xs x =
    ap (λ (es : List spec.Entry). spec.closing es (arguments_of trees xs)) (stacked_last trees [] entries (Whole x))
    ∙ ap (spec.closing (entries_of trees entries)) (sym (taken_last trees [] xs x))

pub closing_bracket : (trees : List Term) (entries : List Entry) (xs : List Subterm) (o : Operator)
    → spec.closing (entries_of trees (entries ++ Bracket o ∷ [])) (arguments_of trees xs)
    ≡ Some (record { operator = o; arguments = arguments_of trees xs; below = entries_of trees entries })
closing_bracket trees entries xs o = ap (λ (es : List spec.Entry). spec.closing es (arguments_of trees xs)) (stacked_last trees [] entries (Bracket o))

pub closing_none : (trees : List Term) (xs : List Subterm) → spec.closing (entries_of trees []) (arguments_of trees xs) ≡ None
closing_none trees xs = ap (λ (es : List spec.Entry). spec.closing es (arguments_of trees xs)) (none_stacked trees)

-- ---- taking arguments

pub record AreTaken (trees : List Term) (first entries : List Entry) (xs : List Subterm) : Type 0 where
  pub entries_inside : AreInside (length trees) entries
  pub subterms_inside : AreSubtermsInside (length trees) xs
  pub same : spec.closing (entries_of trees first) [] ≡ spec.closing (entries_of trees entries) (arguments_of trees xs)

-- from the first entries on these are left, and these arguments were taken
abbrev pub IsTakenSoFar : (first entries : List Entry) → List Subterm → Type 0
IsTakenSoFar first entries xs = (trees : List Term) → AreInside (length trees) first → AreTaken trees first entries xs

pub none_so_far : (first : List Entry) (xs : List Subterm) → xs ≡ [] → IsTakenSoFar first first xs
none_so_far first xs none trees inside = record {
  entries_inside = inside;
  subterms_inside = subst (AreSubtermsInside (length trees)) (sym none) (All-nil (IsSubtermInside (length trees)));
  same = ap (spec.closing (entries_of trees first)) (sym (none_taken trees) ∙ ap (arguments_of trees) (sym none));
}

pub one_taken : (first old new : List Entry) (xs ys : List Subterm) (x : Subterm) → IsTakenSoFar first old xs → old ≡ new ++ Whole x ∷ [] → ys ≡ xs ++ x ∷ []
    → IsTakenSoFar first new ys
one_taken first old new xs ys x so_far is pushed trees inside =
    let before = so_far trees inside in
    let parts = inside_front (length trees) new (Whole x) (subst (AreInside (length trees)) is before.entries_inside) in
    record {
      entries_inside = parts.0;
      subterms_inside = subst (AreSubtermsInside (length trees)) (sym pushed) (subterms_pushed (length trees) xs x before.subterms_inside parts.1);
      same = before.same
          ∙ (ap (λ (es : List Entry). spec.closing (entries_of trees es) (arguments_of trees xs)) is
          ∙ (closing_pushed trees new xs x ∙ ap (λ (zs : List Subterm). spec.closing (entries_of trees new) (arguments_of trees zs)) (sym pushed)));
    }

pub bracket_taken : (first old new : List Entry) (xs : List Subterm) (o : Operator) → IsTakenSoFar first old xs → old ≡ new ++ Bracket o ∷ [] → (trees : List Term)
    → AreInside (length trees) first → IsTaken trees (spec.closing (entries_of trees first) []) new xs o
bracket_taken first old new xs o so_far is trees inside =
    let before = so_far trees inside in
    record {
      entries_inside = (inside_front (length trees) new (Bracket o) (subst (AreInside (length trees)) is before.entries_inside)).0;
      arguments_inside = before.subterms_inside;
      is = before.same ∙ (ap (λ (es : List Entry). spec.closing (entries_of trees es) (arguments_of trees xs)) is ∙ closing_bracket trees new xs o);
    }

pub none_closes : (first old : List Entry) (xs : List Subterm) → IsTakenSoFar first old xs → length old ≡ 0 → (trees : List Term) → AreInside (length trees) first
    → spec.closing (entries_of trees first) [] ≡ None
none_closes first [] xs so_far none trees inside = (so_far trees inside).same ∙ closing_none trees xs
none_closes first (e ∷ old) xs so_far none trees inside = absurd (omega (arith, none))

-- ---- closing brackets

pub closed_next : (before now : List Term) → Extends before now → (first entries new : List Entry) (xs : List Subterm) (o : Operator) (made : Result Subterm (Refusal TermFault))
    (result : Result (Unit {0}) (Refusal TermFault)) → IsTaken before (spec.closing (entries_of before first) []) entries xs o
    → IsMade now (spec.around o (arguments_of before xs)) made → IsPushedIf entries new made result → AreNext now (spec.closed_by (entries_of before first)) new result
closed_next before now extends first entries new xs o made result taken is pushed =
    subst (λ (c : Option spec.Closing). AreNext now (option_and_then spec.closed c) new result) (sym taken.is)
    (pushed_next before now extends entries taken.entries_inside new (spec.around o (arguments_of before xs)) made result is pushed)

pub not_closed : (trees : List Term) (expected : Option spec.Closing) (entries new : List Entry) (xs : List Subterm) (f : Refusal TermFault) → Takes trees expected entries xs (Err f)
    → AreNext trees (option_and_then spec.closed expected) new (Err f)
not_closed trees expected entries new xs (Fault fault.Sort) takes = ap (option_and_then spec.closed) takes
not_closed trees expected entries new xs NoMemory takes = tt

-- ---- with calls, or none

pub other_on : (trees : List Term) (b : Bool) (calls : List ℕ) (expected : Option (List spec.Entry)) (r : Reading) (result : Result (Unit {0}) (Refusal TermFault)) → b ≡ true
    → r.calls.items ≡ calls → AreNext trees expected r.entries.items result → Goes trees (if b then option_map (spec.with_calls calls) expected else None) r result
other_on trees b calls expected r result is same next =
    subst (λ (t : Bool). Goes trees (if t then option_map (spec.with_calls calls) expected else None) r result) (sym is) (goes_on trees calls expected r result same next)

pub nothing_if : {X : Type 0} (b : Bool) (o : Option X) → b ≡ false → (if b then o else None) ≡ None
nothing_if true o is = absurd (cc)
nothing_if false o is = refl

pub read_calls : (trees : List Term) (calls : List ℕ) (n : ℕ) (entries : List Entry) (r : Reading) → AreInside (length trees) entries → r.calls.items ≡ calls ++ n ∷ []
    → r.entries.items ≡ entries → Goes trees (Some (spec.with_calls (calls ++ n ∷ []) (entries_of trees entries))) r (Ok (tt {0}))
read_calls trees calls n entries r inside calls_are entries_are = (
  subst (AreInside (length trees)) (sym entries_are) inside,
  ap (λ (c : List ℕ). Some (spec.with_calls c (entries_of trees entries))) (sym calls_are)
      ∙ ap (λ (es : List Entry). Some (spec.with_calls r.calls.items (entries_of trees es))) (sym entries_are),
)

-- ---- banks

pub unchanged : (trees : List Term) → Extends trees trees
unchanged trees = ([], sym (append-nil trees))

pub extends_on : (a b c : List Term) → Extends a b → Extends b c → Extends a c
extends_on a b c (more, is) (rest, after) = (more ++ rest, after ∙ (ap (λ (x : List Term). x ++ rest) is ∙ append_assoc a more rest))

-- ---- the only entry

pub only_one : (trees : List Term) (entries : List Entry) (d : Entry) → length entries ≡ 1 → entries_of trees entries ≡ entry_of trees (get_or entries 0 d) ∷ []
unfolding stacked
only_one trees (e ∷ []) d one = refl
only_one trees [] d one = absurd (omega (arith, one))
only_one trees (e ∷ f ∷ entries) d one = absurd (omega (arith, one))

length_stacked : (trees : List Term) (below : List spec.Entry) (entries : List Entry) → length (stacked trees below entries) ≡ length below + length entries
unfolding stacked
length_stacked trees below [] = omega arith
length_stacked trees below (e ∷ entries) = omega (arith, length_stacked trees (entry_of trees e ∷ below) entries)

not_only : (es : List spec.Entry) → length es ≢ 1 → spec.only es ≡ None
not_only [] many = refl
not_only (spec.Bracket o ∷ es) many = refl
not_only (spec.Whole x ∷ []) many = absurd (many refl)
not_only (spec.Whole x ∷ e ∷ es) many = refl

pub only_other : (trees : List Term) (entries : List Entry) → length entries ≢ 1 → spec.only (entries_of trees entries) ≡ None
only_other trees entries many = let same = length_stacked trees [] entries in not_only (entries_of trees entries) (λ h. many (omega (arith, same, h)))
