-- Items one after the other keep roles.
use Rattle.std.proofs.Common.{◌≡◌, inl, inr, ℕ, suc, zero, arith, Bool, true, false, List, [], ◌∷◌, ◌++◌, Ok, Err, refl, ap, sym, ◌∙◌, subst, cond, IsTrue, length, length-append}
use Rattle.exact_read.specs.Reading.{Wrong, Outcome, Parser, Marks, plains, Within, Stops}
use Rattle.exact_read.specs.Grammar.{bind, read_at_most, read_many, Many, none, some, Then, context_after, opens, stop_many}
use Rattle.exact_read.proofs.Basics.{ok, err, err_again}
use Rattle.exact_read.proofs.Then.{Joins}
use Rattle.exact_read.proofs.Many.{Items, exact-many, many_opens}
use Rattle.exact_read.specs.Roles.{IsAsked, Roled}
use Rattle.exact_read.specs.Expected.{Roles, Next, Reported}
use Rattle.exact_read.proofs.RoleLists.{cut_of, within_right}
use Rattle.exact_read.proofs.RoleBasics.{Meets}
use Rattle.exact_read.proofs.RoleThen.{Follows, WrongIn, early, late, pair_of, asks_then, reports_then, firm_then, alike_then}

-- what is asked of the items: a token that begins one is not called wrong by it, or they are loose; what begins one
-- has the role of the context or none; the role at the end of one is that of the next context
pub record ItemRoles {T U K X C : Type 0} (marks : Marks T U) (roles : Roles U K) (starts : C → T → Bool) (S : C → X → List U → Type 0) (next : C → X → C) (ending : C → X → K) (end_of : C → K) (Loose : Type 0) (item : C → Parser T K X) : Type 0 where
  pub enters : (context : C) (token : T) (more : List T) (kind : K) → starts context token ≡ true → item context (token ∷ more) ≡ err {X = X} (Wrong kind) (token ∷ more) → Loose × (kind ≡ roles.none)
  pub loose : Loose → (context : C) → end_of context ≡ roles.none
  pub begins : (context : C) (u : U) → Next marks (S context) [] u → Reported roles u (end_of context)
  pub ends : (context : C) (x : X) (text : List U) → S context x text → Meets roles (ending context x) (end_of (next context x))

-- what is expected at the end of some items
abbrev pub many_ending : {K X C : Type 0} → (next : C → X → C) → (end_of : C → K) → C → List X → K
many_ending next end_of context xs = end_of (context_after next context xs)

-- items by the first of them
abbrev pub FirstItem : {U X C : Type 0} → (next : C → X → C) → (S : C → X → List U → Type 0) → C → X × List X → List U → Type 0
FirstItem next S context = Then (S context) (λ x. Many next S (next context x))

pub data ManyParts {U X C : Type 0} (next : C → X → C) (S : C → X → List U → Type 0) (context : C) : List X → List U → Type 0 where
  nothing : ManyParts next S context [] []
  parts : (x : X) (xs : List X) (text : List U) → FirstItem next S context (x, xs) text → ManyParts next S context (x ∷ xs) text

pub many_parts : {U X C : Type 0} (next : C → X → C) (S : C → X → List U → Type 0) (context : C) (xs : List X) (text : List U) → Many next S context xs text → ManyParts next S context xs text
many_parts next S context xs text (none c) = nothing
many_parts next S context xs text (some c x ys left right one two) = parts x ys (left ++ right) (record { left = left; right = right; cut = refl; first = one; second = two })

many_of : {U X C : Type 0} (next : C → X → C) (S : C → X → List U → Type 0) (context : C) (pair : X × List X) (text : List U) → FirstItem next S context pair text → Many next S context (pair.0 ∷ pair.1) text
many_of next S context pair text t = subst (λ r. Many next S context (pair.0 ∷ pair.1) r) (sym t.cut) (some context pair.0 pair.1 t.left t.right t.first t.second)

-- how items call a token wrong
data ManyWrong {T K X C : Type 0} (starts : C → T → Bool) (item : C → Parser T K X) (next : C → X → C) (context : C) (kind : K) (rest : List T) : ℕ → List T → Type 0 where
  at_item : (n : ℕ) (token : T) (more : List T) → starts context token ≡ true → WrongIn (item context) (λ x. read_at_most starts item next n (next context x)) (token ∷ more) kind rest → ManyWrong starts item next context kind rest (suc n) (token ∷ more)

many_wrong : {T K X C : Type 0} (starts : C → T → Bool) (item : C → Parser T K X) (next : C → X → C) (context : C) (kind : K) (rest : List T) (n : ℕ) (before : List T) → read_at_most starts item next n context before ≡ err {X = List X} (Wrong kind) rest → ManyWrong starts item next context kind rest n before
many_wrong starts item next context kind rest zero before e = absurd (cc)
many_wrong starts item next context kind rest (suc n) [] e = absurd (cc)
many_wrong {T} {K} {X} {C} starts item next context kind rest (suc n) (token ∷ more) e = by_test (starts context token) refl e
  where
    by_rest : starts context token ≡ true → (x : X) (middle : List T) → item context (token ∷ more) ≡ ok x middle → (o : Outcome T K (List X)) → read_at_most starts item next n (next context x) middle ≡ o → bind o (λ xs after. ok (x ∷ xs) after) ≡ err {X = List X} (Wrong kind) rest → ManyWrong starts item next context kind rest (suc n) (token ∷ more)
    by_rest s x middle f (Ok (xs, after)) g e = absurd (cc)
    by_rest s x middle f (Err (fault, after)) g e = at_item n token more s (late x middle f (g ∙ err_again {X = List X} {Y = List X} e))

    by_item : starts context token ≡ true → (o : Outcome T K X) → item context (token ∷ more) ≡ o → bind o (λ x middle. bind (read_at_most starts item next n (next context x) middle) (λ xs after. ok (x ∷ xs) after)) ≡ err {X = List X} (Wrong kind) rest → ManyWrong starts item next context kind rest (suc n) (token ∷ more)
    by_item s (Ok (x, middle)) f e = by_rest s x middle f (read_at_most starts item next n (next context x) middle) refl e
    by_item s (Err (fault, after)) f e = at_item n token more s (early (f ∙ err_again {X = X} {Y = List X} e))

    by_test : (b : Bool) → starts context token ≡ b → cond b (bind (item context (token ∷ more)) (λ x middle. bind (read_at_most starts item next n (next context x) middle) (λ xs after. ok (x ∷ xs) after))) (ok [] (token ∷ more)) ≡ err {X = List X} (Wrong kind) rest → ManyWrong starts item next context kind rest (suc n) (token ∷ more)
    by_test true s e = by_item s (item context (token ∷ more)) refl e
    by_test false s e = absurd (cc)

is_true : (b : Bool) → b ≡ true → IsTrue b
is_true b e = subst IsTrue (sym e) refl

-- items in the form of two parts
items_join : {T U X C : Type 0} {marks : Marks T U} {starts ends : C → T → Bool} {S : C → X → List U → Type 0} {stop : C → X → T → Bool} {next : C → X → C} → Items marks starts ends S stop next → (context : C)
    → Joins marks (S context) (stop context) (λ x. Many next S (next context x)) (λ x. stop_many starts ends next (next context x))
items_join {marks = marks} {next = next} items context =
    record {
      ends = λ x xs left right rest one two stops. items.stops_item context x (plains marks right ++ rest) (many_opens items (next context x) xs right rest two stops);
      goes_on = λ x left one. ([], [], none (next context x));
    }

-- no item is no text
pub no_items : {T U X C : Type 0} {marks : Marks T U} {starts ends : C → T → Bool} {S : C → X → List U → Type 0} {stop : C → X → T → Bool} {next : C → X → C} → Items marks starts ends S stop next
    → (context : C) (xs : List X) (text : List U) → Many next S context xs text → text ≡ [] → xs ≡ []
no_items items context xs text (none c) e = refl
no_items items context xs text (some c x ys left right one two) e =
    let b = items.begins c x left one in
    let h : b.0 ∷ (b.1 ++ right) ≡ [] = ap (λ t. t ++ right) (sym b.2) ∙ e in absurd (cc)

-- what begins items begins the first
first_of_items : {T U X C : Type 0} {marks : Marks T U} {starts ends : C → T → Bool} {S : C → X → List U → Type 0} {stop : C → X → T → Bool} {next : C → X → C} → Items marks starts ends S stop next
    → (context : C) (xs : List X) (u : U) (text more : List U) → ManyParts next S context xs text → text ≡ u ∷ more → Next marks (S context) [] u
first_of_items items context xs u text more nothing e = absurd (cc)
first_of_items {S = S} items context xs u text more (parts x ys t pair) e =
    let b = items.begins context x pair.left pair.first in
    let h : b.0 ∷ (b.1 ++ pair.right) ≡ u ∷ more = ap (λ l. l ++ pair.right) (sym b.2) ∙ sym pair.cut ∙ e in
    let head : b.0 ≡ u = cc in
    record { value = x; before = []; more = b.1; derives = subst (S context x) (b.2 ∙ ap (λ w. w ∷ b.1) head) pair.first; same = refl }

-- items that go on, by the first of them
next_first : {T U X C : Type 0} {marks : Marks T U} {S : C → X → List U → Type 0} (next : C → X → C) (context : C) (prefix : List T) (u : U) → Next marks (Many next S context) prefix u → Next marks (FirstItem next S context) prefix u
next_first {T} {U} {X} {C} {marks} {S} next context prefix u n = by_parts n.value (n.before ++ u ∷ n.more) (many_parts next S context n.value (n.before ++ u ∷ n.more) n.derives) n.before refl n.same
  where
    by_parts : (xs : List X) (text : List U) → ManyParts next S context xs text → (before : List U) → text ≡ before ++ u ∷ n.more → plains marks before ≡ prefix → Next marks (FirstItem next S context) prefix u
    by_parts xs text nothing [] e same = absurd (cc)
    by_parts xs text nothing (v ∷ before) e same = absurd (cc)
    by_parts xs text (parts x ys t pair) before e same = record { value = (x, ys); before = before; more = n.more; derives = subst (FirstItem next S context (x, ys)) e pair; same = same }

next_many : {T U X C : Type 0} {marks : Marks T U} {S : C → X → List U → Type 0} (next : C → X → C) (context : C) (prefix : List T) (u : U) → Next marks (FirstItem next S context) prefix u → Next marks (Many next S context) prefix u
next_many {S = S} next context prefix u n = record { value = n.value.0 ∷ n.value.1; before = n.before; more = n.more; derives = many_of next S context n.value (n.before ++ u ∷ n.more) n.derives; same = n.same }

asked_many : {T U K X C : Type 0} {marks : Marks T U} {roles : Roles U K} {S : C → X → List U → Type 0} (next : C → X → C) (context : C) (before : List T) (kind : K) (rest : List T) → IsAsked marks roles (FirstItem next S context) before kind rest → IsAsked marks roles (Many next S context) before kind rest
asked_many {marks = marks} {S = S} next context before kind rest a =
    record {
      prefix = a.prefix;
      cut = a.cut;
      within = a.within;
      value = a.value.0 ∷ a.value.1;
      more = a.more;
      derives = many_of next S context a.value (a.prefix ++ a.more) a.derives;
      asked = record {
        agreed = λ u n. a.asked.agreed u (next_first next context (plains marks a.prefix) u n);
        asked = elim a.asked.asked [ inl h ↦ inl h | inr m ↦ inr (m.0, next_many next context (plains marks a.prefix) m.0 m.1, m.2) ];
      };
    }

-- after some tokens less is left
no_longer : {T : Type 0} (token : T) (more prefix rest : List T) → rest ≡ token ∷ more ++ (prefix ++ rest) → ⊥
no_longer token more prefix rest e = omega (arith, ap length e, length-append more (prefix ++ rest), length-append prefix rest)

-- how many items there may be at most: what they ask, and that their first token is not called wrong
record AtMost {T U K X C : Type 0} (marks : Marks T U) (roles : Roles U K) (starts : C → T → Bool) (S : C → X → List U → Type 0) (next : C → X → C) (Loose : Type 0) (item : C → Parser T K X) (n : ℕ) : Type 0 where
  asks : (context : C) (before : List T) (kind : K) (rest : List T) → read_at_most starts item next n context before ≡ err {X = List X} (Wrong kind) rest → IsAsked marks roles (Many next S context) before kind rest
  enters : (context : C) (before : List T) (kind : K) → read_at_most starts item next n context before ≡ err {X = List X} (Wrong kind) before → Loose × (kind ≡ roles.none)

items_follow : {T U K X C : Type 0} {marks : Marks T U} {roles : Roles U K} {starts ends : C → T → Bool} {S : C → X → List U → Type 0} {stop : C → X → T → Bool} {next : C → X → C} {ending : C → X → K} {end_of : C → K} {Loose : Type 0} {item : C → Parser T K X}
    → Items marks starts ends S stop next → ItemRoles marks roles starts S next ending end_of Loose item → (n : ℕ) → AtMost marks roles starts S next Loose item n → (context : C)
    → Follows marks roles (S context) (stop context) (ending context) ⊥ (λ x. Many next S (next context x)) (λ x. many_ending next end_of (next context x)) Loose (λ x. read_at_most starts item next n (next context x))
items_follow {T} {U} {K} {X} {C} {roles = roles} {next = next} {ending = ending} {end_of = end_of} items report n most context =
    record {
      between = λ x left kind rest is stops e. inl (nothing_reported (ending context x) (end_of (next context x)) (report.ends context x left is) (report.loose (most.enters (next context x) rest kind e).0 (next context x)));
      empty = λ x xs left one two. subst (λ ys. Meets roles (ending context x) (many_ending next end_of (next context x) ys)) (sym (no_items items (next context x) xs [] two refl)) (report.ends context x left one);
      loose = λ never x left u one n. absurd never;
      loose_empty = λ never x xs left one two. absurd never;
    }
  where
    nothing_reported : (reported wanted : K) → Meets roles reported wanted → wanted ≡ roles.none → reported ≡ roles.none
    nothing_reported reported wanted (inl e) silent = e
    nothing_reported reported wanted (inr e) silent = e ∙ silent

at_most : {T U K X C : Type 0} {marks : Marks T U} {roles : Roles U K} {starts ends : C → T → Bool} {S : C → X → List U → Type 0} {stop : C → X → T → Bool} {next : C → X → C} {ending : C → X → K} {end_of : C → K} {Loose : Type 0} {item : C → Parser T K X}
    → Items marks starts ends S stop next → ItemRoles marks roles starts S next ending end_of Loose item → ((c : C) → Roled marks roles (starts c) (S c) (stop c) (ending c) ⊥ (item c)) → (n : ℕ) → AtMost marks roles starts S next Loose item n
at_most items report item_is zero = record { asks = λ context before kind rest e. absurd (cc); enters = λ context before kind e. absurd (cc) }
at_most {T} {U} {K} {X} {C} {marks} {roles} {starts} {ends} {S} {stop} {next} {ending} {end_of} {Loose} {item} items report item_is (suc n) =
    record {
      asks = λ context before kind rest e. asked_many next context before kind rest (asks_by (at_most items report item_is n) context kind rest before (many_wrong starts item next context kind rest (suc n) before e));
      enters = λ context before kind e. enters_by (at_most items report item_is n) context kind before before (many_wrong starts item next context kind before (suc n) before e) refl;
    }
  where
    asks_by : AtMost marks roles starts S next Loose item n → (context : C) (kind : K) (rest before : List T) → ManyWrong starts item next context kind rest (suc n) before → IsAsked marks roles (FirstItem next S context) before kind rest
    asks_by most context kind rest before (at_item m token more s wrong) =
        asks_then (item_is context) (λ x left one within middle k r stops e. most.asks (next context x) middle k r e) (items_join items context) (items_follow items report n most context)
        (token ∷ more) kind rest (is_true (starts context token) s) wrong

    enters_by : AtMost marks roles starts S next Loose item n → (context : C) (kind : K) (rest before : List T) → ManyWrong starts item next context kind rest (suc n) before → rest ≡ before → Loose × (kind ≡ roles.none)
    enters_by most context kind rest before (at_item m token more s (early e)) same = report.enters context token more kind s (e ∙ ap (λ r. err {X = X} (Wrong kind) r) same)
    enters_by most context kind rest before (at_item m token more s (late x middle e e')) same =
        let t = (item_is context).exact.takes (token ∷ more) x middle (is_true (starts context token) s) e in
        let a = most.asks (next context x) middle kind rest e' in
        let b = items.begins context x t.text t.derives in
        absurd (no_longer (marks.plain b.0) (plains marks b.1) (plains marks a.prefix) rest
        (same ∙ t.cut ∙ ap (λ l. plains marks l ++ middle) b.2 ∙ ap (λ r. marks.plain b.0 ∷ plains marks b.1 ++ r) a.cut))

-- the first token of an item begins one
item_starts : {T U X C : Type 0} {marks : Marks T U} {starts ends : C → T → Bool} {S : C → X → List U → Type 0} {stop : C → X → T → Bool} {next : C → X → C} → Items marks starts ends S stop next
    → (context : C) (x : X) (left right : List U) → S context x left → Stops (starts context) (plains marks (left ++ right))
item_starts {marks = marks} {starts = starts} items context x left right one =
    let b = items.begins context x left one in
    subst (λ t. Stops (starts context) (plains marks (t ++ right))) (sym b.2) (is_true (starts context (marks.plain b.0)) b.3)

reports_many : {T U K X C : Type 0} {marks : Marks T U} {roles : Roles U K} {starts ends : C → T → Bool} {S : C → X → List U → Type 0} {stop : C → X → T → Bool} {next : C → X → C} {ending : C → X → K} {end_of : C → K} {Loose : Type 0} {item : C → Parser T K X}
    → Items marks starts ends S stop next → ItemRoles marks roles starts S next ending end_of Loose item → ((c : C) → Roled marks roles (starts c) (S c) (stop c) (ending c) ⊥ (item c))
    → (context : C) (xs : List X) (text : List U) (u : U) → Many next S context xs text → Within marks text → Next marks (Many next S context) (plains marks text) u → Reported roles u (many_ending next end_of context xs)
reports_many {T} {U} {K} {X} {C} {marks} {S = S} {next = next} items report item_is context xs text u (none c) within n = report.begins c u (by_before n.before n.derives n.same)
  where
    by_before : (before : List U) → Many next S c n.value (before ++ u ∷ n.more) → plains marks before ≡ [] → Next marks (S c) [] u
    by_before [] m same = first_of_items items c n.value u (u ∷ n.more) n.more (many_parts next S c n.value (u ∷ n.more) m) refl
    by_before (v ∷ before) m same = absurd (cc)
reports_many {marks = marks} {roles = roles} {next = next} {ending = ending} {end_of = end_of} items report item_is context xs text u (some c x ys left right one two) within n =
    reports_then (item_is c) (items_join items c) x ys left right u (many_ending next end_of (next c x) ys)
    (λ stops m. reports_many items report item_is (next c x) ys right u two (within_right marks left right within) m)
    (λ empty. subst (λ zs. Meets roles (ending c x) (many_ending next end_of (next c x) zs)) (sym (no_items items (next c x) ys [] empty refl)) (report.ends c x left one))
    one two within (item_starts items c x left right one) (next_first next c (plains marks (left ++ right)) u n)

firm_many : {T U K X C : Type 0} {marks : Marks T U} {roles : Roles U K} {starts ends : C → T → Bool} {S : C → X → List U → Type 0} {stop : C → X → T → Bool} {next : C → X → C} {ending : C → X → K} {end_of : C → K} {Loose : Type 0} {item : C → Parser T K X}
    → Items marks starts ends S stop next → ItemRoles marks roles starts S next ending end_of Loose item → ((c : C) → Roled marks roles (starts c) (S c) (stop c) (ending c) ⊥ (item c))
    → (n : ℕ) (context : C) (xs : List X) (text : List U) (kind : K) (rest : List T) → Many next S context xs text → Within marks text → read_at_most starts item next n context (plains marks text ++ rest) ≡ err {X = List X} (Wrong kind) rest → Loose × (kind ≡ roles.none)
firm_many items report item_is n context xs text kind rest (none c) within e = (at_most items report item_is n).enters c rest kind e
firm_many {T} {U} {K} {X} {C} {marks} {roles} {starts} {ends} {S} {stop} {next} {ending} {end_of} {Loose} {item} items report item_is n context xs text kind rest (some c x ys left right one two) within e =
    by_wrong n (plains marks (left ++ right) ++ rest) (λ m e. firm_many items report item_is m (next c x) ys right kind rest two (within_right marks left right within) e) refl (many_wrong starts item next c kind rest n (plains marks (left ++ right) ++ rest) e)
  where
    by_wrong : (n : ℕ) (before : List T) → ((m : ℕ) → read_at_most starts item next m (next c x) (plains marks right ++ rest) ≡ err {X = List X} (Wrong kind) rest → Loose × (kind ≡ roles.none)) → before ≡ plains marks (left ++ right) ++ rest → ManyWrong starts item next c kind rest n before → Loose × (kind ≡ roles.none)
    by_wrong n before again here (at_item m token more s wrong) =
        firm_then (item_is c) (λ z l o w middle k r stops e. (at_most items report item_is m).asks (next c z) middle k r e) (items_join items c) x ys left right kind (token ∷ more) rest
        (λ stops e. again m e) (λ never empty. absurd never) here one two within (is_true (starts c token) s) wrong

alike_many : {T U K X C : Type 0} {marks : Marks T U} {roles : Roles U K} {starts ends : C → T → Bool} {S : C → X → List U → Type 0} {stop : C → X → T → Bool} {next : C → X → C} {ending : C → X → K} {item : C → Parser T K X}
    → Items marks starts ends S stop next → ((c : C) → Roled marks roles (starts c) (S c) (stop c) (ending c) ⊥ (item c))
    → (context : C) (xs ys : List X) (text prefix following other after : List U) → Many next S context xs text → text ≡ prefix ++ following → Many next S context ys (other ++ after) → plains marks prefix ≡ plains marks other → Within marks prefix → Within marks other
alike_many items item_is context xs ys text prefix following [] after d e other_is same within = tt
alike_many items item_is context xs ys text [] following (v ∷ other) after d e other_is same within = absurd (cc)
alike_many items item_is context xs ys text (u ∷ prefix) following (v ∷ other) after (none c) e other_is same within = absurd (cc)
alike_many {T} {U} {K} {X} {C} {marks} {starts = starts} {S = S} {next = next} items item_is context xs ys text (u ∷ prefix) following (v ∷ other) after (some c x zs left right one two) e other_is same within =
    by_parts (λ z w middle piece a b d w2. alike_many items item_is (next c x) zs z right (w ∷ middle) following piece after two a b d w2) ys (v ∷ (other ++ after)) (many_parts next S c ys (v ∷ (other ++ after)) other_is) refl
  where
    starts_prefix : Stops (starts c) (plains marks (u ∷ prefix))
    starts_prefix = subst (λ t. Stops (starts c) (plains marks t)) e (item_starts items c x left right one)

    by_parts : ((z : List X) (w : U) (middle piece : List U) → right ≡ w ∷ middle ++ following → Many next S (next c x) z (piece ++ after) → plains marks (w ∷ middle) ≡ plains marks piece → Within marks (w ∷ middle) → Within marks piece)
        → (ys : List X) (all : List U) → ManyParts next S c ys all → all ≡ v ∷ (other ++ after) → Within marks (v ∷ other)
    by_parts again ys all nothing f = absurd (cc)
    by_parts again ys all (parts y rest t pair) f =
        alike_then (item_is c) (items_join items c) x zs left right (u ∷ prefix) following (v ∷ other) after
        (λ w z a middle piece b d g w2 stops. again z a middle piece b d g w2)
        one two (pair_of (y, rest) (v ∷ other) after (subst (FirstItem next S c (y, rest)) f pair)) same within starts_prefix (cut_of (u ∷ prefix) following left right (sym e))

pub roled-many : {T U K X C : Type 0} {marks : Marks T U} {roles : Roles U K} {starts ends : C → T → Bool} {S : C → X → List U → Type 0} {stop : C → X → T → Bool} {next : C → X → C} {ending : C → X → K} {end_of : C → K} {Loose : Type 0} {item : C → Parser T K X}
    → Items marks starts ends S stop next → ItemRoles marks roles starts S next ending end_of Loose item → ((c : C) → Roled marks roles (starts c) (S c) (stop c) (ending c) ⊥ (item c)) → (context : C)
    → Roled marks roles (opens starts ends context) (Many next S context) (stop_many starts ends next context) (many_ending next end_of context) Loose (read_many starts item next context)
roled-many items report item_is context =
    record {
      exact = exact-many items (λ c. (item_is c).exact) context;
      asks = λ before kind rest enters e. (at_most items report item_is (length before)).asks context before kind rest e;
      reports = λ xs text u derives within enters n. reports_many items report item_is context xs text u derives within n;
      firm = λ xs text kind rest derives within enters e. firm_many items report item_is _ context xs text kind rest derives within e;
      alike = λ xs ys prefix following other after s t same within enters. alike_many items item_is context xs ys (prefix ++ following) prefix following other after s refl t same within;
    }

-- the first token of items is not called wrong, or they are loose
pub many_enters : {T U K X C : Type 0} {marks : Marks T U} {roles : Roles U K} {starts ends : C → T → Bool} {S : C → X → List U → Type 0} {stop : C → X → T → Bool} {next : C → X → C} {ending : C → X → K} {end_of : C → K} {Loose : Type 0} {item : C → Parser T K X}
    → Items marks starts ends S stop next → ItemRoles marks roles starts S next ending end_of Loose item → ((c : C) → Roled marks roles (starts c) (S c) (stop c) (ending c) ⊥ (item c))
    → (context : C) (before : List T) (kind : K) → read_many starts item next context before ≡ err {X = List X} (Wrong kind) before → Loose × (kind ≡ roles.none)
many_enters items report item_is context before kind e = (at_most items report item_is (length before)).enters context before kind e
