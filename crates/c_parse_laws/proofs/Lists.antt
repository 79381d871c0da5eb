-- Parts with `,` between them and a token after the last keep roles, where a part hangs on those before.
use Rattle.std.proofs.Common.{List, ℕ, ◌≡◌, Bool, false, IsTrue, true, refl, [], ◌∷◌, ◌++◌, ap, sym, ◌∙◌, subst, ◌||◌, not, ◌&&◌, inl}
use Rattle.c_token_spec.specs.declared.token.Punctuator.{Punctuator}
use Rattle.c_token_spec.specs.declared.token.Punctuator.TheVariants as punctuator
use Rattle.c_token_spec.specs.Lexical.{Placed, Mark}
use Rattle.c_parse_spec.specs.declared.Role.{Role}
use Rattle.c_parse_spec.specs.Leaves.{Leaf, mark, marks, roles}
use Rattle.exact_read.specs.Reading.{Stops, Parser, plains}
use Rattle.exact_read.specs.Grammar.{One, Many, Then, some, read_then, read_many, none, anything, context_after, stop_many}
use Rattle.exact_read.proofs.Many.{Items}
use Rattle.c_parse_laws.specs.Classes.{mark_offset, is_mark}
use Rattle.c_parse_laws.specs.Parsers.{token, following}
use Rattle.c_parse_laws.proofs.Marks.{Following, mark-is, mark-passes, Keeps, one-mark, mark-one, Says, mark-self, mark-some, roled-mark, roled-opened, after_begins}
use Rattle.exact_read.proofs.Contexts.{many-context_same}
use Rattle.c_parse_laws.proofs.Tokens.{or_right}
use Rattle.exact_read.specs.Roles.{Roled, IsAsked}
use Rattle.exact_read.specs.Expected.{Next}
use Rattle.exact_read.proofs.RoleBasics.{Meets, roled-same, roled-enter}
use Rattle.exact_read.proofs.RoleBegins.{begun_enters}
use Rattle.exact_read.proofs.RoleThen.{roled-then_within}
use Rattle.exact_read.proofs.RoleMany.{ItemRoles, many_ending, roled-many}
use Rattle.c_parse_laws.specs.Firm.{Firm}
use Rattle.c_parse_laws.proofs.Listed.{follows_token, begins_meet}

-- a state, and the part before
abbrev pub Before : (E X : Type 0) → Type 0
Before E X = E × X

abbrev pub next_before : {E X : Type 0} → (step : E → X → E) → Before E X → X → Before E X
next_before step d x = (step d.0 x, x)

-- a `,` as the part before asks, and a part
abbrev pub CommaText : {E X : Type 0} → (put : E → X → Placed → Leaf) → (S : E → X → List Leaf → Type 0) → Before E X → X → List Leaf → Type 0
CommaText put S d = Following (One (put d.0 d.1) (mark_offset punctuator.Comma)) (λ _. S d.0)

abbrev pub MoreText : {E X : Type 0} → (step : E → X → E) → (put : E → X → Placed → Leaf) → (S : E → X → List Leaf → Type 0) → Before E X → List X → List Leaf → Type 0
MoreText step put S = Many (next_before step) (CommaText put S)

abbrev pub EndText : {E X : Type 0} → (step : E → X → E) → (put : E → X → Placed → Leaf) → (S : E → X → List Leaf → Type 0) → (close : Punctuator) → (put_close : Before E X → List X → Placed → Leaf) → Before E X → List X × ℕ → List Leaf → Type 0
EndText step put S close put_close d = Then (MoreText step put S d) (λ xs. One (put_close d xs) (mark_offset close))

-- what is asked of the parts
pub record Lists {E X : Type 0} (S : E → X → List Leaf → Type 0) (stop : X → Placed → Bool) (close : Punctuator) : Type 0 where
  pub at_comma : (x : X) (offset : ℕ) → IsTrue (stop x (mark punctuator.Comma offset))
  pub at_close : (x : X) (offset : ℕ) → IsTrue (stop x (mark close offset))
  pub apart : is_mark punctuator.Comma (Mark close) ≡ false
  pub some : (e : E) → (x : X) × (text : List Leaf) × S e x text

comma-token : (t : Placed) → is_mark punctuator.Comma t.token ≡ true → t ≡ mark punctuator.Comma t.offset
comma-token t e = mark-is punctuator.Comma t t.offset (rw e refl)

comma_items : {E X : Type 0} {S : E → X → List Leaf → Type 0} {stop : X → Placed → Bool} {close : Punctuator} → Lists S stop close → (step : E → X → E) (put : E → X → Placed → Leaf) → ((e : E) (x : X) → Keeps (put e x))
    → Items marks (λ (_ : Before E X) t. is_mark punctuator.Comma t.token) (λ d. stop d.1) (CommaText put S) (λ _ x. stop x) (next_before step)
comma_items {E} {X} {S} {stop} {close} lists step put keeps =
    record {
      begins = λ d x text b. (put d.0 d.1 b.is_first.token, b.right, b.cut ∙ ap (λ t. t ++ b.right) b.is_first.cut, ap (λ (t : Placed). is_mark punctuator.Comma t.token) (keeps d.0 d.1 b.is_first.token) ∙ mark-passes punctuator.Comma b.is_first.token b.first b.is_first.is);
      opens_next = λ d x rest stops. opened x rest stops;
      stops_item = λ d x rest stops. ended x rest stops;
    }
  where
    opened : (x : X) (rest : List Placed) → Stops (stop x) rest → Stops (λ t. is_mark punctuator.Comma t.token || stop x t) rest
    opened x [] h = tt
    opened x (t ∷ rest) h = or_right (is_mark punctuator.Comma t.token) (stop x t) h

    by_test : (x : X) (t : Placed) (b : Bool) → is_mark punctuator.Comma t.token ≡ b → IsTrue (b || stop x t) → IsTrue (stop x t)
    by_test x t true e h = subst (λ (s : Placed). IsTrue (stop x s)) (sym (comma-token t e)) (lists.at_comma x t.offset)
    by_test x t false e h = h

    ended : (x : X) (rest : List Placed) → Stops (λ t. is_mark punctuator.Comma t.token || stop x t) rest → Stops (stop x) rest
    ended x [] h = tt
    ended x (t ∷ rest) h = by_test x t (is_mark punctuator.Comma t.token) refl h

-- how the parts after the first are read
abbrev pub read_end : {C X : Type 0} → (role : C → Role) → (put : C → Placed → Leaf) → (item : C → Parser Placed Role X) → (next : C → X → C) → (close : Punctuator) → (close_role : List X → Role) → (put_close : List X → Placed → Leaf) → C → Parser Placed Role (List X × ℕ)
read_end role put item next close close_role put_close c =
    read_then (read_many (λ (_ : _) t. is_mark punctuator.Comma t.token) (λ c. following (token (role c) (put c) (mark_offset punctuator.Comma)) (λ _. item c)) next c) (λ xs. token (close_role xs) (put_close xs) (mark_offset close))

and_true : (a b : Bool) → IsTrue a → b ≡ false → IsTrue (a && not b)
and_true true b h e = rw e refl
and_true false b h e = absurd (cc)

-- a part stops where the parts after it begin
pub end_stops : {E X : Type 0} {S : E → X → List Leaf → Type 0} {stop : X → Placed → Bool} {close : Punctuator} → Lists S stop close → (step : E → X → E) (put : E → X → Placed → Leaf) → ((e : E) (x : X) → Keeps (put e x)) → (put_close : Before E X → List X → Placed → Leaf) → ((d : Before E X) (xs : List X) → Keeps (put_close d xs))
    → (d : Before E X) (pair : List X × ℕ) (right : List Leaf) (rest : List Placed) → EndText step put S close put_close d pair right → Stops (stop d.1) (plains marks right ++ rest)
end_stops {E} {X} {S} {stop} {close} lists step put keeps put_close keeps_close d pair right rest t =
    subst (λ r. Stops (stop d.1) (plains marks r ++ rest)) (sym t.cut) (by_more pair.0 t.left t.first)
  where
    close_first : List Placed → Stops (stop d.1) (plains marks t.right ++ rest)
    close_first _ =
        let cut : plains marks t.right ++ rest ≡ mark close pair.1 ∷ rest = ap (λ r. plains marks r ++ rest) (one-mark close (put_close d pair.0) pair.1 t.right t.second) ∙ ap (λ p. p ∷ rest) (keeps_close d pair.0 (mark close pair.1)) in
        subst (Stops (stop d.1)) (sym cut) (lists.at_close d.1 pair.1)

    by_more : (xs : List X) (left : List Leaf) → MoreText step put S d xs left → Stops (stop d.1) (plains marks (left ++ t.right) ++ rest)
    by_more xs left m = by_many d xs left m refl
      where
        by_many : (c : Before E X) (xs : List X) (left : List Leaf) → MoreText step put S c xs left → c ≡ d → Stops (stop d.1) (plains marks (left ++ t.right) ++ rest)
        by_many c xs left (none _) e = close_first rest
        by_many c xs left (some k x ys one two b more) e =
            let cut : one ≡ put k.0 k.1 (mark punctuator.Comma b.first) ∷ b.right = b.cut ∙ ap (λ l. l ++ b.right) (one-mark punctuator.Comma (put k.0 k.1) b.first b.left b.is_first) in
            subst (λ l. Stops (stop d.1) (plains marks ((l ++ two) ++ t.right) ++ rest)) (sym cut) (subst (λ (p : Placed). IsTrue (stop d.1 p)) (sym (keeps k.0 k.1 (mark punctuator.Comma b.first))) (lists.at_comma d.1 b.first))

-- after each first part the parts after it can end at once
pub end_some : {E X : Type 0} (step : E → X → E) (put : E → X → Placed → Leaf) (S : E → X → List Leaf → Type 0) (close : Punctuator) (put_close : Before E X → List X → Placed → Leaf) (d : Before E X) → (pair : List X × ℕ) × (text : List Leaf) × EndText step put S close put_close d pair text
end_some step put S close put_close d = (([], 0), put_close d [] (mark close 0) ∷ [], record { left = []; right = put_close d [] (mark close 0) ∷ []; cut = refl; first = none d; second = mark-one close (put_close d []) 0 })

comma_next : {X : Type 0} (put : Placed → Leaf) (role : Role) → Says put role → (S : X → List Leaf → Type 0) (u : Leaf) → Next marks (Following (One put (mark_offset punctuator.Comma)) (λ _. S)) [] u → u.role ≡ role
comma_next put role says S u n = by_before n.before n.derives n.same
  where
    by_before : (prefix : List Leaf) → Following (One put (mark_offset punctuator.Comma)) (λ _. S) n.value (prefix ++ u ∷ n.more) → plains marks prefix ≡ [] → u.role ≡ role
    by_before [] b same =
        let e : u ∷ n.more ≡ put b.is_first.token ∷ b.right = b.cut ∙ ap (λ t. t ++ b.right) b.is_first.cut in
        let head : u ≡ put b.is_first.token = cc in
        ap (λ (l : Leaf). l.role) head ∙ says b.is_first.token
    by_before (v ∷ prefix) b same = absurd (cc)

-- what is expected at the end of a part is what a `,` after it asks, and at the end of the last what the token
-- after it asks
pub roled-end : {E X C : Type 0} {S : E → X → List Leaf → Type 0} {stop : X → Placed → Bool} {ending : X → Role} {close : Punctuator} → Lists S stop close → (step : E → X → E) (of : E → X → C) (role : C → Role) (put : C → Placed → Leaf) (item : C → Parser Placed Role X) (next : C → X → C)
    → ((c : C) → Keeps (put c)) → ((c : C) → Says (put c) (role c)) → ((e : E) (y x : X) → of (step e x) x ≡ next (of e y) x) → ((e : E) (y : X) → Roled marks roles anything (S e) stop ending ⊥ (item (of e y)))
    → (close_role : Before E X → List X → Role) (put_close : Before E X → List X → Placed → Leaf) → ((d : Before E X) (xs : List X) → Keeps (put_close d xs)) → ((d : Before E X) (xs : List X) → Says (put_close d xs) (close_role d xs))
    → ((e : E) (x : X) → Meets roles (ending x) (role (of e x))) → ((d : Before E X) (xs : List X) → Meets roles (many_ending (next_before step) (λ (k : Before E X). role (of k.0 k.1)) d xs) (close_role d xs)) → (d : Before E X)
    → Firm (stop d.1) (EndText step (λ e x. put (of e x)) S close put_close d) (λ _. anything) (read_end role put item next close (close_role d) (put_close d) (of d.0 d.1))
roled-end {E} {X} {C} {S} {stop} {ending} {close} lists step of role put item next keeps says same item_is close_role put_close keeps_close says_close meets_item meets_close d =
    roled-then_within more_is (λ xs left one within. roled-mark (stop_many (λ (_ : Before E X) t. is_mark punctuator.Comma t.token) (λ d. stop d.1) (next_before step) d xs) close (close_role d xs) (put_close d xs) (keeps_close d xs) (says_close d xs))
    record {
      ends = λ xs offset left right rest one two stops. at_end xs offset right rest two;
      goes_on = λ xs left one. (0, put_close d xs (mark close 0) ∷ [], mark-one close (put_close d xs) 0);
    }
    (follows_token (mark_offset close) (close_role d) (put_close d) (λ xs left one. meets_close d xs))
  where
    commas : Items marks (λ (_ : Before E X) t. is_mark punctuator.Comma t.token) (λ d. stop d.1) (CommaText (λ e x. put (of e x)) S) (λ _ x. stop x) (next_before step)
    commas = comma_items lists step (λ e x. put (of e x)) (λ e x. keeps (of e x))

    comma_is : (d : Before E X) → Roled marks roles (λ t. is_mark punctuator.Comma t.token) (CommaText (λ e x. put (of e x)) S d) stop ending ⊥ (following (token (role (of d.0 d.1)) (put (of d.0 d.1)) (mark_offset punctuator.Comma)) (λ _. item (of d.0 d.1)))
    comma_is d =
        roled-enter (λ t. is_mark punctuator.Comma t.token)
        (roled-opened (mark_offset punctuator.Comma) (role (of d.0 d.1)) (put (of d.0 d.1)) (keeps (of d.0 d.1)) (says (of d.0 d.1)) (mark punctuator.Comma 0) 0 (mark-self punctuator.Comma 0) (λ x. lists.some d.0) (λ x t e within. item_is d.0 d.1))

    comma_roles : ItemRoles marks roles (λ (_ : Before E X) t. is_mark punctuator.Comma t.token) (CommaText (λ e x. put (of e x)) S) (next_before step) (λ _. ending) (λ d. role (of d.0 d.1)) ⊥ (λ d. following (token (role (of d.0 d.1)) (put (of d.0 d.1)) (mark_offset punctuator.Comma)) (λ _. item (of d.0 d.1)))
    comma_roles =
        record {
          enters = λ d t more kind s e. absurd (begun_enters (comma_is d).exact t more kind s (after_begins (mark_offset punctuator.Comma) (put (of d.0 d.1)) (keeps (of d.0 d.1)) t t.offset (mark-some punctuator.Comma t s) (lists.some d.0)) e);
          loose = λ never d. absurd never;
          begins = λ d u n. inl (comma_next (put (of d.0 d.1)) (role (of d.0 d.1)) (says (of d.0 d.1)) (S d.0) u n);
          ends = λ d x text one. meets_item (step d.0 x) x;
        }

    more_is : Roled marks roles (stop d.1) (MoreText step (λ e x. put (of e x)) S d) (stop_many (λ (_ : Before E X) t. is_mark punctuator.Comma t.token) (λ d. stop d.1) (next_before step) d) (many_ending (next_before step) (λ (k : Before E X). role (of k.0 k.1)) d) ⊥
        (read_many (λ (_ : C) t. is_mark punctuator.Comma t.token) (λ c. following (token (role c) (put c) (mark_offset punctuator.Comma)) (λ _. item c)) next (of d.0 d.1))
    more_is =
        roled-same (stop d.1) (MoreText step (λ e x. put (of e x)) S d) (read_many (λ (_ : C) t. is_mark punctuator.Comma t.token) (λ c. following (token (role c) (put c) (mark_offset punctuator.Comma)) (λ _. item c)) next (of d.0 d.1))
        (λ t h. or_right (is_mark punctuator.Comma t.token) (stop d.1 t) h) (λ xs text h. h) (λ xs text h. h)
        (many-context_same (λ (_ : C) t. is_mark punctuator.Comma t.token) (λ c. following (token (role c) (put c) (mark_offset punctuator.Comma)) (λ _. item c)) next (λ (d : Before E X). of d.0 d.1) (next_before step) (λ d x. same d.0 d.1 x) d)
        (roled-many commas comma_roles comma_is d)

    at_end : (xs : List X) (offset : ℕ) (right : List Leaf) (rest : List Placed) → One (put_close d xs) (mark_offset close) offset right → Stops (stop_many (λ (_ : Before E X) t. is_mark punctuator.Comma t.token) (λ d. stop d.1) (next_before step) d xs) (plains marks right ++ rest)
    at_end xs offset right rest one =
        let last = context_after (next_before step) d xs in
        let cut : plains marks right ++ rest ≡ mark close offset ∷ rest = ap (λ r. plains marks r ++ rest) (one-mark close (put_close d xs) offset right one) ∙ ap (λ t. t ∷ rest) (keeps_close d xs (mark close offset)) in
        subst (Stops (stop_many (λ (_ : Before E X) t. is_mark punctuator.Comma t.token) (λ d. stop d.1) (next_before step) d xs)) (sym cut) (and_true (stop last.1 (mark close offset)) (is_mark punctuator.Comma (Mark close)) (lists.at_close last.1 offset) lists.apart)

-- a `,` can follow the first
pub end_meets : {E X : Type 0} {S : E → X → List Leaf → Type 0} {stop : X → Placed → Bool} {close : Punctuator} → Lists S stop close → (step : E → X → E) (put : E → X → Placed → Leaf) (role : Role) (put_close : Before E X → List X → Placed → Leaf) (d : Before E X) → Says (put d.0 d.1) role → (kind : Role) (rest : List Placed) → IsAsked marks roles (EndText step put S close put_close d) rest kind rest → Meets roles role kind
end_meets {E} {X} {S} {stop} {close} lists step put role put_close d says kind rest a =
    let s = lists.some d.0 in
    let comma = put d.0 d.1 (mark punctuator.Comma 0) in
    let last = put_close d (s.0 ∷ []) (mark close 0) in
    let one : CommaText put S d s.0 (comma ∷ s.1) = record { first = 0; left = comma ∷ []; right = s.1; is_first = mark-one punctuator.Comma (put d.0 d.1) 0; is_second = s.2; cut = refl } in
    subst (λ (r : Role). Meets roles r kind) (says (mark punctuator.Comma 0))
    (begins_meet kind rest a (s.0 ∷ [], 0) comma ((s.1 ++ []) ++ last ∷ []) (record { left = (comma ∷ s.1) ++ []; right = last ∷ []; cut = refl; first = some d s.0 [] (comma ∷ s.1) [] one (none (next_before step d s.0)); second = mark-one close (put_close d (s.0 ∷ [])) 0 }))

pub end_not_empty : {E X : Type 0} (S : E → X → List Leaf → Type 0) (close : Punctuator) (step : E → X → E) (put : E → X → Placed → Leaf) (put_close : Before E X → List X → Placed → Leaf) (d : Before E X) (pair : List X × ℕ) → EndText step put S close put_close d pair [] → ⊥
end_not_empty S close step put put_close d pair t = not_empty t.left (put_close d pair.0 t.second.token) (t.cut ∙ ap (λ r. t.left ++ r) t.second.cut)
  where
    not_empty : (left : List Leaf) (u : Leaf) → [] ≡ left ++ u ∷ [] → ⊥
    not_empty [] u e = cc
    not_empty (v ∷ left) u e = cc
