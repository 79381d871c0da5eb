-- Changes of the lists of watchers.
use Rattle.std.proofs.Common.{Vec, Global, ◌≡◌, ◌⊎◌, inl, inr, ℕ, ◌<◌, List, [], ◌∷◌, ◌++◌, Some, length, get_or, set, map, refl, ap, sym, ◌∙◌, subst, arith}
use Rattle.std.specs.Prelude.{slice_get}
use Rattle.std.proofs.lemmas.Option.{slice_get_within, slice_get-get_or, get_or_from_slice_get}
use Rattle.std.proofs.lemmas.List.{length-set, get_or-set_same, get_or-set_other}
use Rattle.cnf_core.specs.Codes.{code_of, same_code}
use Rattle.clause_check_spec.specs.declared.Literal.{Literal}
use Rattle.clause_check_spec.specs.Clause.{Clause}
use Rattle.sat_search_spec.specs.declared.Watch.{Watch}
use Rattle.sat_search_spec.specs.declared.Watcher.{Watcher}
use Rattle.sat_search_spec.specs.Clauses.{Has}
use Rattle.sat_search_spec.specs.Watches.{Watched, list_of, IsListed, AreListed, IsBlocker, AreBlockers}
use Rattle.sat_search_spec.proofs.Members.{same_or_other}
use Rattle.sat_search_spec.proofs.Trails.{get_left, get_last, get_cases, mapped_get, some_same}
use Rattle.sat_search_state.specs.Lists.{IsAdded, IsRemovedFrom, IsRemoved, IsReplaced, IsAttached}

equal_or_other : (a b : ℕ) → (a ≡ b) ⊎ (a ≡ b → ⊥)
equal_or_other a b = grind arith

-- ---- lists as the code keeps them

abbrev pub items_of : Vec Watcher Global → List Watcher
items_of v = v.items

abbrev pub lists_of : List (Vec Watcher Global) → List (List Watcher)
lists_of lists = map items_of lists

-- the list of a literal, read by its code
pub list_read : (lists : List (Vec Watcher Global)) (l : Literal) (code : ℕ) (list : Vec Watcher Global) → code_of l < length lists → code ≡ code_of l → list ≡ get_or lists code list
    → list.items ≡ list_of (lists_of lists) l
list_read lists l code list below e here =
    ap items_of (here ∙ ap (λ k. get_or lists k list) e)
    ∙ sym (get_or_from_slice_get (lists_of lists) (code_of l) (items_of (get_or lists (code_of l) list)) []
    (mapped_get items_of lists (code_of l) (get_or lists (code_of l) list) (slice_get-get_or lists (code_of l) list below)))

-- ---- one place of a list

pub set_same : {X : Type 0} (xs : List X) (n : ℕ) (x : X) → n < length xs → slice_get (set xs n x) n ≡ Some x
set_same xs n x below =
    let count = length-set xs n x in
    slice_get-get_or (set xs n x) n x (omega (arith, count, below)) ∙ ap Some (get_or-set_same xs n x x below)

pub set_other : {X : Type 0} (xs : List X) (n k : ℕ) (x there : X) → (k ≡ n → ⊥) → slice_get xs k ≡ Some there → slice_get (set xs n x) k ≡ Some there
set_other xs n k x there apart here =
    let count = length-set xs n x in
    let within = slice_get_within xs k there here in
    slice_get-get_or (set xs n x) k there (omega (arith, count, within))
    ∙ ap Some (get_or-set_other xs n k x there apart ∙ get_or_from_slice_get xs k there there here)

pub set_cases : {X : Type 0} (xs : List X) (n i : ℕ) (new x : X) → n < length xs → slice_get (set xs n new) i ≡ Some x
    → ((i ≡ n) × (x ≡ new)) ⊎ ((i ≡ n → ⊥) × (slice_get xs i ≡ Some x))
set_cases xs n i new x below here =
    let within = slice_get_within (set xs n new) i x here in
    let count = length-set xs n new in
    elim (equal_or_other i n) [
      | inl same ↦
          inl (same, sym (get_or_from_slice_get (set xs n new) i x new here) ∙ ap (λ k. get_or (set xs n new) k new) same ∙ get_or-set_same xs n new new below)
      | inr apart ↦
          inr (
            apart,
            slice_get-get_or xs i new (omega (arith, within, count))
                ∙ ap Some (sym (get_or-set_other xs n i new new apart) ∙ get_or_from_slice_get (set xs n new) i x new here),
          )
    ]

-- ---- a list of lists, one of which was changed

pub list_set_same : (lists : List (List Watcher)) (l : Literal) (list : List Watcher) → code_of l < length lists → list_of (set lists (code_of l) list) l ≡ list
list_set_same lists l list below = get_or-set_same lists (code_of l) list [] below

pub list_set_other : (lists : List (List Watcher)) (l other : Literal) (list : List Watcher) → (other ≡ l → ⊥) → list_of (set lists (code_of l) list) other ≡ list_of lists other
list_set_other lists l other list apart = get_or-set_other lists (code_of l) (code_of other) list [] (λ e. apart (same_code other l e))

-- ---- one more watcher

pub added : (old new : List (List Watcher)) (l : Literal) (watcher : Watcher) (list : List Watcher) → code_of l < length old → new ≡ set old (code_of l) list
    → list ≡ list_of old l ++ watcher ∷ [] → IsAdded old new l watcher
added old new l watcher list below e f = record {
  here = ap (λ n. list_of n l) e ∙ list_set_same old l list below ∙ f;
  others = λ other apart. ap (λ n. list_of n other) e ∙ list_set_other old l other list apart;
}

pub listed_added : (old new : List (List Watcher)) (l : Literal) (watcher : Watcher) → IsAdded old new l watcher
    → (other : Literal) (start i : ℕ) → IsListed (list_of old other) start i → IsListed (list_of new other) start i
listed_added old new l watcher is_added other start i listed =
    elim (same_or_other other l) [
      | inl e ↦
          record {
            place = listed.place;
            watcher = listed.watcher;
            later = listed.later;
            there =
                ap (λ m. slice_get (list_of new m) listed.place) e ∙ ap (λ xs. slice_get xs listed.place) is_added.here
                ∙ get_left (list_of old l) watcher listed.place listed.watcher (subst (λ m. slice_get (list_of old m) listed.place ≡ Some listed.watcher) e listed.there);
            same = listed.same;
          }
      | inr apart ↦ subst (λ xs. IsListed xs start i) (sym (is_added.others other apart)) listed
    ]

pub listed_new : (old new : List (List Watcher)) (l : Literal) (watcher : Watcher) → IsAdded old new l watcher → IsListed (list_of new l) 0 watcher.clause
listed_new old new l watcher is_added = record {
  place = length (list_of old l);
  watcher = watcher;
  later = omega arith;
  there = ap (λ xs. slice_get xs (length (list_of old l))) is_added.here ∙ get_last (list_of old l) watcher;
  same = refl;
}

pub blockers_added : (clauses : List Clause) (old new : List (List Watcher)) (l : Literal) (watcher : Watcher) → IsAdded old new l watcher → IsBlocker clauses watcher
    → AreBlockers clauses old → AreBlockers clauses new
blockers_added clauses old new l watcher is_added one blockers other k w there =
    elim (same_or_other other l) [
      | inl e ↦
          elim (get_cases (list_of old l) watcher k w (ap (λ xs. slice_get xs k) (sym is_added.here) ∙ ap (λ m. slice_get (list_of new m) k) (sym e) ∙ there)) [
            | inl before ↦ blockers l k w before
            | inr last ↦ subst (λ x. IsBlocker clauses x) (sym last.1) one
          ]
      | inr apart ↦ blockers other k w (ap (λ xs. slice_get xs k) (sym (is_added.others other apart)) ∙ there)
    ]

-- one more clause
pub blocker_more : (clauses : List Clause) (clause : Clause) (watcher : Watcher) → IsBlocker clauses watcher → IsBlocker (clauses ++ clause ∷ []) watcher
blocker_more clauses clause watcher one = record { clause = one.clause; there = get_left clauses clause watcher.clause one.clause one.there; has = one.has }

-- ---- a watcher less

pub removed : (old new : List (List Watcher)) (l : Literal) (place : ℕ) (was list : List Watcher) → code_of l < length old → new ≡ set old (code_of l) list
    → was ≡ list_of old l → IsRemovedFrom was list place → length list < length was → IsRemoved old new l place
removed old new l place was list below e same from shorter =
    let here : list_of new l ≡ list = ap (λ n. list_of n l) e ∙ list_set_same old l list below in
    record {
      here = subst (λ xs. IsRemovedFrom (list_of old l) xs place) (sym here) (subst (λ xs. IsRemovedFrom xs list place) same from);
      shorter = let n = ap length here in let m = ap length same in omega (arith, n, m, shorter);
      others = λ other apart. ap (λ n. list_of n other) e ∙ list_set_other old l other list apart;
    }

-- ---- another watcher in a place

pub replaced : (old new : List (List Watcher)) (l : Literal) (place : ℕ) (watcher : Watcher) (was list : List Watcher) → code_of l < length old → new ≡ set old (code_of l) list
    → was ≡ list_of old l → list ≡ set was place watcher → IsReplaced old new l place watcher
replaced old new l place watcher was list below e same f = record {
  here = ap (λ n. list_of n l) e ∙ list_set_same old l list below ∙ f ∙ ap (λ xs. set xs place watcher) same;
  others = λ other apart. ap (λ n. list_of n other) e ∙ list_set_other old l other list apart;
}

-- the clauses of a list stay the same
pub listed_replaced : (old new : List (List Watcher)) (l : Literal) (place : ℕ) (was watcher : Watcher) → IsReplaced old new l place watcher
    → slice_get (list_of old l) place ≡ Some was → watcher.clause ≡ was.clause
    → (other : Literal) (start i : ℕ) → IsListed (list_of old other) start i → IsListed (list_of new other) start i
listed_replaced old new l place was watcher is_replaced here e other start i listed =
    elim (same_or_other other l) [
      | inl f ↦
          let there : slice_get (list_of old l) listed.place ≡ Some listed.watcher = subst (λ m. slice_get (list_of old m) listed.place ≡ Some listed.watcher) f listed.there in
          subst (λ m. IsListed (list_of new m) start i) (sym f)
          (subst (λ xs. IsListed xs start i) (sym is_replaced.here) (in_place (equal_or_other listed.place place) there))
      | inr apart ↦ subst (λ xs. IsListed xs start i) (sym (is_replaced.others other apart)) listed
    ]
  where
    in_place : (listed.place ≡ place) ⊎ (listed.place ≡ place → ⊥) → slice_get (list_of old l) listed.place ≡ Some listed.watcher
        → IsListed (set (list_of old l) place watcher) start i
    in_place (inl k) there =
        let is_was = some_same (list_of old l) listed.place place listed.watcher was k there here in
        let later = listed.later in
        record {
          place = place;
          watcher = watcher;
          later = omega (arith, later, k);
          there = set_same (list_of old l) place watcher (slice_get_within (list_of old l) place was here);
          same = e ∙ ap (λ (w : Watcher). w.clause) (sym is_was) ∙ listed.same;
        }
    in_place (inr apart) there = record {
      place = listed.place;
      watcher = listed.watcher;
      later = listed.later;
      there = set_other (list_of old l) place listed.place watcher listed.watcher apart there;
      same = listed.same;
    }

pub blockers_replaced : (clauses : List Clause) (old new : List (List Watcher)) (l : Literal) (place : ℕ) (was watcher : Watcher) → IsReplaced old new l place watcher
    → slice_get (list_of old l) place ≡ Some was → IsBlocker clauses watcher → AreBlockers clauses old → AreBlockers clauses new
blockers_replaced clauses old new l place was watcher is_replaced here one blockers other k w there =
    elim (same_or_other other l) [
      | inl e ↦
          elim (set_cases (list_of old l) place k watcher w (slice_get_within (list_of old l) place was here)
          (ap (λ xs. slice_get xs k) (sym is_replaced.here) ∙ ap (λ m. slice_get (list_of new m) k) (sym e) ∙ there)) [
            | inl now ↦ subst (λ x. IsBlocker clauses x) (sym now.1) one
            | inr before ↦ blockers l k w before.1
          ]
      | inr apart ↦ blockers other k w (ap (λ xs. slice_get xs k) (sym (is_replaced.others other apart)) ∙ there)
    ]

-- ---- one more clause with its watches

listed_before : (old new : List (List Watcher)) (watches : List Watch) → ((other : Literal) (start i : ℕ) → IsListed (list_of old other) start i → IsListed (list_of new other) start i)
    → AreListed watches old → AreListed watches new
listed_before old new watches more listed i watch there =
    elim (listed i watch there) [
      | inl same ↦ inl same
      | inr both ↦ inr (more watch.first 0 i both.0, more watch.second 0 i both.1)
    ]

listed_push : (watches : List Watch) (lists : List (List Watcher)) (watch : Watch)
    → (watch.first ≡ watch.second) ⊎ (IsListed (list_of lists watch.first) 0 (length watches) × IsListed (list_of lists watch.second) 0 (length watches))
    → AreListed watches lists → AreListed (watches ++ watch ∷ []) lists
listed_push watches lists watch one listed i w there =
    elim (get_cases watches watch i w there) [
      | inl before ↦ listed i w before
      | inr last ↦
          subst (λ x. (x.first ≡ x.second) ⊎ (IsListed (list_of lists x.first) 0 i × IsListed (list_of lists x.second) 0 i)) (sym last.1)
          (subst (λ n. (watch.first ≡ watch.second) ⊎ (IsListed (list_of lists watch.first) 0 n × IsListed (list_of lists watch.second) 0 n)) (sym last.0) one)
    ]

new_blocker : (clauses : List Clause) (clause : Clause) (watcher : Watcher) → watcher.clause ≡ length clauses → Has clause watcher.blocker → IsBlocker (clauses ++ clause ∷ []) watcher
new_blocker clauses clause watcher e has = record { clause = clause; there = ap (slice_get (clauses ++ clause ∷ [])) e ∙ get_last clauses clause; has = has }

-- both watches are one literal
pub attached_one : (old new : Watched) (watch : Watch) → new.watches ≡ old.watches ++ watch ∷ [] → new.lists ≡ old.lists → new.head ≡ old.head
    → watch.first ≡ watch.second → IsAttached old new watch
attached_one old new watch e f g same = record {
  watches = e;
  head = g;
  room = ap length f;
  lists = λ listed.
      subst (λ ws. AreListed ws new.lists) (sym e) (subst (λ ls. AreListed (old.watches ++ watch ∷ []) ls) (sym f)
      (listed_push old.watches old.lists watch (inl same) listed));
  blockers = λ clauses clause count first second blockers.
      subst (λ ls. AreBlockers (clauses ++ clause ∷ []) ls) (sym f) (λ l k w there. blocker_more clauses clause w (blockers l k w there));
}

pub attached_two : (old new : Watched) (watch : Watch) (middle : List (List Watcher)) (first second : Watcher) → new.watches ≡ old.watches ++ watch ∷ [] → new.head ≡ old.head
    → length new.lists ≡ length old.lists → first.clause ≡ length old.watches → first.blocker ≡ watch.second → second.clause ≡ length old.watches → second.blocker ≡ watch.first
    → IsAdded old.lists middle watch.first first → IsAdded middle new.lists watch.second second → IsAttached old new watch
attached_two old new watch middle first second e g room first_clause first_blocker second_clause second_blocker one two = record {
  watches = e;
  head = g;
  room = room;
  lists = λ listed.
      subst (λ ws. AreListed ws new.lists) (sym e)
      (listed_push old.watches new.lists watch
      (inr (
        subst (λ n. IsListed (list_of new.lists watch.first) 0 n) first_clause
            (listed_added middle new.lists watch.second second two watch.first 0 first.clause (listed_new old.lists middle watch.first first one)),
        subst (λ n. IsListed (list_of new.lists watch.second) 0 n) second_clause (listed_new middle new.lists watch.second second two),
      ))
      (listed_before old.lists new.lists old.watches
      (λ other start i h. listed_added middle new.lists watch.second second two other start i (listed_added old.lists middle watch.first first one other start i h))
      listed));
  blockers = λ clauses clause count has_first has_second blockers.
      blockers_added (clauses ++ clause ∷ []) middle new.lists watch.second second two
      (new_blocker clauses clause second (second_clause ∙ sym count) (subst (λ l. Has clause l) (sym second_blocker) has_first))
      (blockers_added (clauses ++ clause ∷ []) old.lists middle watch.first first one
      (new_blocker clauses clause first (first_clause ∙ sym count) (subst (λ l. Has clause l) (sym first_blocker) has_second))
      (λ l k w there. blocker_more clauses clause w (blockers l k w there)));
}
