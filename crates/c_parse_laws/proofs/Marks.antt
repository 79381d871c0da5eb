-- Single tokens, and parts around them, keep roles.
use Rattle.std.proofs.Common.{◌≡◌, ℕ, Some, refl, Bool, true, false, None, ap, cond, ◌∙◌, List, [], ◌∷◌, ◌++◌, Option, inl, Ok, Err, sym, subst, IsTrue, inr, not}
use denote.Enum.Bare.{true_same, sameb, same_true}
use Rattle.c_token_spec.specs.declared.token.Punctuator.{Punctuator}
use Rattle.c_token_spec.specs.contracts.token.Punctuator.{the_type}
use Rattle.c_token_spec.specs.Lexical.{Token, Name as name_token, Word, Number as number_token, Character as character_token, Mark, Placed}
use Rattle.c_parse_spec.specs.declared.Role.{Role}
use Rattle.c_parse_spec.specs.Leaves.{mark, Leaf, marks, is_over, roles}
use Rattle.exact_read.specs.Reading.{LimitExceeded, Wrong, Outcome, Parser, plains, Stops, Within}
use Rattle.exact_read.specs.Exact.{Exact}
use Rattle.exact_read.specs.Grammar.{One, anything, bind, read_then, Map, Then, read_or, Or}
use Rattle.exact_read.proofs.Parts.{exact-one, stops_anything, Apart, both}
use Rattle.exact_read.proofs.Then.{Joins}
use Rattle.c_parse_laws.specs.Classes.{mark_offset, is_mark, with_offset}
use Rattle.c_parse_laws.specs.Parsers.{token, before, following, choose}
use Rattle.c_parse_laws.specs.Exactness.{Closed}
use Rattle.std.specs.Option.{is_some, option_map_or}
use Rattle.std.specs.Prelude.{option_map}
use Rattle.exact_read.proofs.Basics.{ok, err, err_parts}
use Rattle.c_parse_spec.specs.declared.Role.TheVariants.{Nothing}
use Rattle.exact_read.specs.Roles.{Roled}
use Rattle.exact_read.specs.Expected.{Next}
use Rattle.exact_read.proofs.RoleBasics.{Meets, roled-map, roled-same, roled-enter}
use Rattle.exact_read.proofs.RoleThen.{Follows, roled-then_within, silence}
use Rattle.exact_read.proofs.RoleBegins.{Begins, Silent}
use Rattle.exact_read.proofs.RoleOr.{roled-or, chooses_by}
use Rattle.c_parse_laws.specs.Firm.{Firm, quiet}
use Rattle.c_parse_laws.proofs.Firm.{firm-one}

pub mark-self : (p : Punctuator) (offset : ℕ) → mark_offset p (mark p offset) ≡ Some offset
mark-self p offset = rw (true_same the_type p p refl) refl

mark-token : (p : Punctuator) (k : Token) (o offset : ℕ) → cond (is_mark p k) (Some o) None ≡ Some offset → (k ≡ Mark p) × (o ≡ offset)
mark-token p (Mark q) o offset e = by_test (sameb the_type q p) refl e
  where
    by_test : (b : Bool) → sameb the_type q p ≡ b → cond b (Some o) None ≡ Some offset → (Mark q ≡ Mark p) × (o ≡ offset)
    by_test true f e = (ap Mark (same_true the_type tt q p f), cc)
    by_test false f e = absurd (cc)
mark-token p (name_token spelling) o offset e = absurd (cc)
mark-token p (Word keyword) o offset e = absurd (cc)
mark-token p (number_token value type) o offset e = absurd (cc)
mark-token p (character_token value) o offset e = absurd (cc)

abbrev pub at : Token → ℕ → Placed
at k o = record { token = k; offset = o }

pub mark-is : (p : Punctuator) (t : Placed) (offset : ℕ) → mark_offset p t ≡ Some offset → t ≡ mark p offset
mark-is p t offset e = let h = mark-token p t.token t.offset offset e in ap (λ k. at k t.offset) h.0 ∙ ap (λ o. at (Mark p) o) h.1

pub mark-passes : (p : Punctuator) (t : Placed) (offset : ℕ) → mark_offset p t ≡ Some offset → is_mark p t.token ≡ true
mark-passes p t offset e = by_test (is_mark p t.token) refl e
  where
    by_test : (b : Bool) → is_mark p t.token ≡ b → cond b (Some t.offset) None ≡ Some offset → is_mark p t.token ≡ true
    by_test true f e = f
    by_test false f e = absurd (cc)

-- a leaf keeps its token
abbrev pub Keeps : (Placed → Leaf) → Type 0
Keeps offset = (t : Placed) → (offset t).token ≡ t

pub one-mark : (p : Punctuator) (as_leaf : Placed → Leaf) (x : ℕ) (text : List Leaf) → One as_leaf (mark_offset p) x text → text ≡ as_leaf (mark p x) ∷ []
one-mark p as_leaf x text o = o.cut ∙ ap (λ t. as_leaf t ∷ []) (mark-is p o.token x o.is)

pub mark-one : (p : Punctuator) (as_leaf : Placed → Leaf) (x : ℕ) → One as_leaf (mark_offset p) x (as_leaf (mark p x) ∷ [])
mark-one p as_leaf x = record { token = mark p x; is = mark-self p x; cut = refl }

pub exact-mark : (entry : Placed → Bool) (p : Punctuator) (role : Role) (as_leaf : Placed → Leaf) → Keeps as_leaf → Exact marks entry (One as_leaf (mark_offset p)) (λ _. anything) (token role as_leaf (mark_offset p))
exact-mark entry p role as_leaf keeps = exact-one marks entry as_leaf (mark_offset p) role keeps (mark p 0) 0 (mark-self p 0)

-- a part, and another after it whose value is kept
pub record Following {X Y : Type 0} (S1 : X → List Leaf → Type 0) (S2 : X → Y → List Leaf → Type 0) (y : Y) (text : List Leaf) : Type 0 where
  pub first : X
  pub left : List Leaf
  pub right : List Leaf
  pub is_first : S1 first left
  pub is_second : S2 first y right
  pub cut : text ≡ left ++ right

-- a token is placed with this role
abbrev pub Says : (Placed → Leaf) → Role → Type 0
Says offset role = (t : Placed) → (offset t).role ≡ role

-- a token that is a punctuator is one of its class
pub mark-some : (p : Punctuator) (t : Placed) → is_mark p t.token ≡ true → mark_offset p t ≡ Some t.offset
mark-some p t e = rw e refl

-- a class that has some value
pub some_value : {A : Type 0} (o : Option A) → is_some o ≡ true → (a : A) × (o ≡ Some a)
some_value None e = absurd (cc)
some_value (Some a) e = (a, refl)

pub roled-mark : (entry : Placed → Bool) (p : Punctuator) (role : Role) (as_leaf : Placed → Leaf) → Keeps as_leaf → Says as_leaf role → Firm entry (One as_leaf (mark_offset p)) (λ _. anything) (token role as_leaf (mark_offset p))
roled-mark entry p role as_leaf keeps says = firm-one entry as_leaf (mark_offset p) role keeps says (mark p 0) 0 (mark-self p 0)

pub one_first : {X : Type 0} {as_leaf : Placed → Leaf} {class : Placed → Option X} (x : X) (u : Leaf) (more : List Leaf) (o : One as_leaf class x (u ∷ more)) → u ≡ as_leaf o.token
one_first {as_leaf = as_leaf} x u more o = let e : u ∷ more ≡ as_leaf o.token ∷ [] = o.cut in cc

-- the role by which a token is called wrong
pub token_wrong : {X : Type 0} (role : Role) (as_leaf : Placed → Leaf) (class : Placed → Option X) (tokens : List Placed) (kind : Role) (rest : List Placed) → token role as_leaf class tokens ≡ err {X = X} (Wrong kind) rest → kind ≡ role
token_wrong {X} role as_leaf class [] kind rest e = let f : Wrong role ≡ Wrong kind = (err_parts {X = X} e).0 in cc
token_wrong {X} role as_leaf class (t ∷ more) kind rest e = by_class (class t) e
  where
    by_mark : (x : X) (b : Bool) → cond b (err LimitExceeded (t ∷ more)) (ok x more) ≡ err {X = X} (Wrong kind) rest → kind ≡ role
    by_mark x true e = absurd (let f : LimitExceeded ≡ Wrong kind = (err_parts {X = X} e).0 in cc)
    by_mark x false e = absurd (cc)

    by_class : (o : Option X) → option_map_or (λ x. cond (is_over (as_leaf t)) (err LimitExceeded (t ∷ more)) (ok x more)) o (err (Wrong role) (t ∷ more)) ≡ err {X = X} (Wrong kind) rest → kind ≡ role
    by_class None e = let f : Wrong role ≡ Wrong kind = (err_parts {X = X} e).0 in cc
    by_class (Some x) e = by_mark x (is_over (as_leaf t)) e

-- a part and a punctuator that follows it, with the punctuator's offset: what the part's end expects is this role
pub roled-ended_by : {X : Type 0} {entry : Placed → Bool} {S : X → List Leaf → Type 0} {stop : X → Placed → Bool} {ending : X → Role} {Loose : Type 0} {read : Parser Placed Role X} (p : Punctuator) (role : Role) (as_leaf : Placed → Leaf) → Keeps as_leaf → Says as_leaf role → ((x : X) → Meets roles (ending x) role) → (Loose → role ≡ Nothing) → Roled marks roles entry S stop ending Loose read → ((x : X) (close : ℕ) → IsTrue (stop x (mark p close)))
    → Firm entry (Then S (λ (_ : X). One as_leaf (mark_offset p))) (λ (_ : X × ℕ). anything) (read_then read (λ (_ : X). token role as_leaf (mark_offset p)))
roled-ended_by {X} {entry} {S} {stop} {ending} {Loose} {read} p role as_leaf keeps says meets loose is ends =
    roled-then_within is (λ x left one within. roled-mark (stop x) p role as_leaf keeps says) joins follows
  where
    joins : Joins marks S stop (λ _. One as_leaf (mark_offset p)) (λ _ _. anything)
    joins =
        record {
          ends = λ x close left right rest one two stops. subst (λ r. Stops (stop x) (plains marks r ++ rest)) (sym (one-mark p as_leaf close right two)) (subst (λ t. IsTrue (stop x t)) (sym (keeps (mark p close))) (ends x close));
          goes_on = λ x left one. (0, as_leaf (mark p 0) ∷ [], mark-one p as_leaf 0);
        }

    no_token : (close : ℕ) → One as_leaf (mark_offset p) close [] → ⊥
    no_token close o = let e : [] ≡ as_leaf o.token ∷ [] = o.cut in cc

    first_says : (u : Leaf) → Next marks (One as_leaf (mark_offset p)) [] u → u.role ≡ role
    first_says u n = by_before n.before n.derives n.same
      where
        by_before : (prefix : List Leaf) → One as_leaf (mark_offset p) n.value (prefix ++ u ∷ n.more) → plains marks prefix ≡ [] → u.role ≡ role
        by_before [] o same = ap (λ (l : Leaf). l.role) (one_first n.value u n.more o) ∙ says o.token
        by_before (v ∷ prefix) o same = absurd (cc)

    follows : Follows marks roles S stop ending Loose (λ _. One as_leaf (mark_offset p)) (λ _. quiet) ⊥ (λ _. token role as_leaf (mark_offset p))
    follows =
        record {
          between = λ x left kind rest one stops e. subst (Meets roles (ending x)) (sym (token_wrong role as_leaf (mark_offset p) rest kind rest e)) (meets x);
          empty = λ x close left one two. absurd (no_token close two);
          loose = λ is_loose x left u one n. first_says u n ∙ loose is_loose;
          loose_empty = λ is_loose x close left one two. no_token close two;
        }

-- the same without the offset
pub roled-closed_by : {X : Type 0} {entry : Placed → Bool} {S : X → List Leaf → Type 0} {stop : X → Placed → Bool} {ending : X → Role} {Loose : Type 0} {read : Parser Placed Role X} (p : Punctuator) (role : Role) (as_leaf : Placed → Leaf) → Keeps as_leaf → Says as_leaf role → ((x : X) → Meets roles (ending x) role) → (Loose → role ≡ Nothing) → Roled marks roles entry S stop ending Loose read → ((x : X) (close : ℕ) → IsTrue (stop x (mark p close)))
    → Firm entry (Closed as_leaf p S) (λ _. anything) (before read (token role as_leaf (mark_offset p)))
roled-closed_by {X} {entry} {S} {stop} {ending} {Loose} {read} p role as_leaf keeps says meets loose is ends =
    roled-same entry (Closed as_leaf p S) (before read (token role as_leaf (mark_offset p))) (λ t h. h) to from (λ tokens. same_read (read tokens))
    (roled-map (λ (pair : X × ℕ). pair.0) (λ _. anything) quiet (λ pair. refl) (λ pair. inl refl) (roled-ended_by p role as_leaf keeps says meets loose is ends))
  where
    same_token : (x : X) (o : Outcome Placed Role ℕ) → bind o (λ _ after. Ok (x, after)) ≡ bind {X = X × ℕ} (bind o (λ y after. Ok ((x, y), after))) (λ pair after. Ok (pair.0, after))
    same_token x (Ok found) = refl
    same_token x (Err fault) = refl

    same_read : (o : Outcome Placed Role X) → bind o (λ x rest. bind (token role as_leaf (mark_offset p) rest) (λ _ after. Ok (x, after))) ≡ bind {X = X × ℕ} (bind o (λ x rest. bind (token role as_leaf (mark_offset p) rest) (λ y after. Ok ((x, y), after)))) (λ pair after. Ok (pair.0, after))
    same_read (Ok (x, rest)) = same_token x (token role as_leaf (mark_offset p) rest)
    same_read (Err fault) = refl

    to : (x : X) (text : List Leaf) → Map (λ (pair : X × ℕ). pair.0) (Then S (λ _. One as_leaf (mark_offset p))) x text → Closed as_leaf p S x text
    to x text m = let t = m.derives in
        record { inside = t.left; close = m.inner.1; derives = subst (λ (y : X). S y t.left) (sym m.is) t.first; cut = t.cut ∙ ap (λ r. t.left ++ r) (one-mark p as_leaf m.inner.1 t.right t.second) }

    from : (x : X) (text : List Leaf) → Closed as_leaf p S x text → Map (λ (pair : X × ℕ). pair.0) (Then S (λ _. One as_leaf (mark_offset p))) x text
    from x text c = record { inner = (x, c.close); is = refl; derives = record { left = c.inside; right = as_leaf (mark p c.close) ∷ []; cut = c.cut; first = c.derives; second = mark-one p as_leaf c.close } }

pub roled-closed : {X : Type 0} {entry : Placed → Bool} {S : X → List Leaf → Type 0} {stop : X → Placed → Bool} {read : Parser Placed Role X} (p : Punctuator) (role : Role) (as_leaf : Placed → Leaf) → Keeps as_leaf → Says as_leaf role → Firm entry S stop read → ((x : X) (close : ℕ) → IsTrue (stop x (mark p close)))
    → Firm entry (Closed as_leaf p S) (λ _. anything) (before read (token role as_leaf (mark_offset p)))
roled-closed p role as_leaf keeps says is ends = roled-closed_by p role as_leaf keeps says (λ x. inl refl) (λ never. absurd never) is ends

-- a part, and another after it whose value is kept
pub roled-following : {X Y : Type 0} {entry : Placed → Bool} {S1 : X → List Leaf → Type 0} {stop1 : X → Placed → Bool} {first : Parser Placed Role X} {S2 : X → Y → List Leaf → Type 0} {stop : Y → Placed → Bool} {ending : Y → Role} {Loose : Type 0} {second : X → Parser Placed Role Y}
    → Firm entry S1 stop1 first → ((x : X) (left : List Leaf) → S1 x left → Within marks left → Roled marks roles (stop1 x) (S2 x) stop ending Loose (second x)) → Joins marks S1 stop1 S2 (λ _. stop)
    → Roled marks roles entry (Following S1 S2) stop ending Loose (following first second)
roled-following {X} {Y} {entry} {S1} {stop1} {first} {S2} {stop} {ending} {Loose} {second} one two joins =
    roled-same entry (Following S1 S2) (following first second) (λ t h. h) to from (λ tokens. same_read (first tokens))
    (roled-map (λ (pair : X × Y). pair.1) stop ending (λ pair. refl) (λ pair. inr refl) (roled-then_within one two joins (silence marks roles S1 stop1 S2 (λ _. ending) Loose second)))
  where
    same_second : (x : X) (o : Outcome Placed Role Y) → o ≡ bind {X = X × Y} (bind o (λ y after. Ok ((x, y), after))) (λ pair after. Ok (pair.1, after))
    same_second x (Ok (y, after)) = refl
    same_second x (Err fault) = refl

    same_read : (o : Outcome Placed Role X) → bind o (λ x rest. second x rest) ≡ bind {X = X × Y} (bind o (λ x rest. bind (second x rest) (λ y after. Ok ((x, y), after)))) (λ pair after. Ok (pair.1, after))
    same_read (Ok (x, rest)) = same_second x (second x rest)
    same_read (Err fault) = refl

    to : (y : Y) (text : List Leaf) → Map (λ (pair : X × Y). pair.1) (Then S1 S2) y text → Following S1 S2 y text
    to y text m = let t = m.derives in
        record { first = m.inner.0; left = t.left; right = t.right; is_first = t.first; is_second = subst (λ (z : Y). S2 m.inner.0 z t.right) (sym m.is) t.second; cut = t.cut }

    from : (y : Y) (text : List Leaf) → Following S1 S2 y text → Map (λ (pair : X × Y). pair.1) (Then S1 S2) y text
    from y text b = record { inner = (b.first, y); is = refl; derives = record { left = b.left; right = b.right; cut = b.cut; first = b.is_first; second = b.is_second } }

-- a token, and a part after it: where at the token no limit is exceeded
pub roled-opened : {X Y : Type 0} {S2 : X → Y → List Leaf → Type 0} {stop : Y → Placed → Bool} {ending : Y → Role} {Loose : Type 0} {second : X → Parser Placed Role Y} (class : Placed → Option X) (role : Role) (as_leaf : Placed → Leaf) → Keeps as_leaf → Says as_leaf role → (t : Placed) (value : X) → class t ≡ Some value
    → ((x : X) → (y : Y) × (right : List Leaf) × S2 x y right) → ((x : X) (t : Placed) → class t ≡ Some x → is_over (as_leaf t) ≡ false → Roled marks roles anything (S2 x) stop ending Loose (second x))
    → Roled marks roles anything (Following (One as_leaf class) S2) stop ending Loose (following (token role as_leaf class) second)
roled-opened {X} {Y} {S2} {stop} {ending} {Loose} {second} class role as_leaf keeps says t value is some two =
    roled-following (firm-one anything as_leaf class role keeps says t value is)
    (λ x left one within. two x one.token one.is (first_within left (as_leaf one.token) one.cut within))
    record {
      ends = λ x y left right rest one two stops. stops_anything (plains marks right ++ rest);
      goes_on = λ x left one. some x;
    }
  where
    first_within : (left : List Leaf) (leaf : Leaf) → left ≡ leaf ∷ [] → Within marks left → is_over leaf ≡ false
    first_within left leaf cut within = (subst (Within marks) cut within).0

-- what a token and a part after it begin with
pub after_begins : {X Y : Type 0} {S2 : X → Y → List Leaf → Type 0} (class : Placed → Option X) (as_leaf : Placed → Leaf) → Keeps as_leaf → (t : Placed) (x : X) → class t ≡ Some x → (y : Y) × (right : List Leaf) × S2 x y right → Begins marks (Following (One as_leaf class) S2) t
after_begins class as_leaf keeps t x is some =
    record { value = some.0; first = as_leaf t; more = some.1; derives = record { first = x; left = as_leaf t ∷ []; right = some.1; is_first = record { token = t; is = is; cut = refl }; is_second = some.2; cut = refl }; is = keeps t }

pub after_silent : {X Y : Type 0} {S2 : X → Y → List Leaf → Type 0} (class : Placed → Option X) (as_leaf : Placed → Leaf) → Says as_leaf Nothing → Silent marks roles (Following (One as_leaf class) S2)
after_silent class as_leaf says y u more b =
    let e : u ∷ more ≡ as_leaf b.is_first.token ∷ b.right = b.cut ∙ ap (λ t. t ++ b.right) b.is_first.cut in
    let head : u ≡ as_leaf b.is_first.token = cc in
    ap (λ (l : Leaf). l.role) head ∙ says b.is_first.token

-- one of two parts by the next token: each token that passes the test begins the first part, which has no role there
pub roled-choose : {X : Type 0} {entry : Placed → Bool} {S1 S2 : X → List Leaf → Type 0} {stop : X → Placed → Bool} {ending : X → Role} {Loose : Type 0} {one two : Parser Placed Role X} (test : Token → Bool) → Apart marks (λ t. test t.token) S1 S2 stop
    → ((t : Placed) → test t.token ≡ true → Begins marks S1 t) → Silent marks roles S1
    → Roled marks roles (both entry (λ t. test t.token)) S1 stop ending Loose one → Roled marks roles (both entry (λ t. not (test t.token))) S2 stop ending Loose two → Roled marks roles entry (Or S1 S2) stop ending Loose (choose test one two)
roled-choose {entry = entry} {S1 = S1} {S2 = S2} {one = one} {two = two} test apart begins silent one_is two_is =
    roled-same entry (Or S1 S2) (choose test one two) (λ t h. h) (λ x text h. h) (λ x text h. h) same (roled-or (λ t. test t.token) apart (chooses_by (λ t. test t.token) one_is.exact begins silent) one_is two_is)
  where
    same : (tokens : List Placed) → choose test one two tokens ≡ read_or (λ t. test t.token) one two tokens
    same [] = refl
    same (t ∷ tokens) = refl

-- the same where nothing is asked of the next token before
pub roled-choice : {X : Type 0} {S1 S2 : X → List Leaf → Type 0} {stop : X → Placed → Bool} {ending : X → Role} {Loose : Type 0} {one two : Parser Placed Role X} (test : Token → Bool) → Apart marks (λ t. test t.token) S1 S2 stop
    → ((t : Placed) → test t.token ≡ true → Begins marks S1 t) → Silent marks roles S1
    → Roled marks roles anything S1 stop ending Loose one → Roled marks roles anything S2 stop ending Loose two → Roled marks roles anything (Or S1 S2) stop ending Loose (choose test one two)
roled-choice test apart begins silent one_is two_is = roled-choose test apart begins silent (roled-enter (both anything (λ t. test t.token)) one_is) (roled-enter (both anything (λ t. not (test t.token))) two_is)

-- a part with its value changed begins as it does
pub map_begins : {X Y : Type 0} {S : X → List Leaf → Type 0} (change : X → Y) (t : Placed) → Begins marks S t → Begins marks (Map change S) t
map_begins change t b = record { value = change b.value; first = b.first; more = b.more; derives = record { inner = b.value; is = refl; derives = b.derives }; is = b.is }

pub map_silent : {X Y : Type 0} {S : X → List Leaf → Type 0} (change : X → Y) → Silent marks roles S → Silent marks roles (Map change S)
map_silent change silent y u more m = silent m.inner u more m.derives

-- texts in another form begin as they do
pub same_begins : {X : Type 0} {S S' : X → List Leaf → Type 0} → ((x : X) (text : List Leaf) → S x text → S' x text) → (t : Placed) → Begins marks S t → Begins marks S' t
same_begins to t b = record { value = b.value; first = b.first; more = b.more; derives = to b.value (b.first ∷ b.more) b.derives; is = b.is }

-- a class with the offset beside it
pub placed-some : {A : Type 0} (class : Token → Option A) (t : Placed) → is_some (class t.token) ≡ true → (found : A × ℕ) × (with_offset class t ≡ Some found)
placed-some class t e = let a = some_value (class t.token) e in ((a.0, t.offset), ap (option_map (λ b. (b, t.offset))) a.1)

-- a part and another after it begin as the first
pub first_begins : {X Y : Type 0} {S1 : X → List Leaf → Type 0} {S2 : X → Y → List Leaf → Type 0} (t : Placed) → Begins marks S1 t → ((x : X) → (y : Y) × (right : List Leaf) × S2 x y right) → Begins marks (Following S1 S2) t
first_begins t b some =
    let s = some b.value in
    record { value = s.0; first = b.first; more = b.more ++ s.1; derives = record { first = b.value; left = b.first ∷ b.more; right = s.1; is_first = b.derives; is_second = s.2; cut = refl }; is = b.is }

pub closed_begins : {X : Type 0} {S : X → List Leaf → Type 0} (as_leaf : Placed → Leaf) (p : Punctuator) (t : Placed) → Begins marks S t → Begins marks (Closed as_leaf p S) t
closed_begins as_leaf p t b = record { value = b.value; first = b.first; more = b.more ++ as_leaf (mark p 0) ∷ []; derives = record { inside = b.first ∷ b.more; close = 0; derives = b.derives; cut = refl }; is = b.is }

-- where the first part is never empty, both have no role where it does
pub first_silent : {X Y : Type 0} {S1 : X → List Leaf → Type 0} {S2 : X → Y → List Leaf → Type 0} → ((x : X) → S1 x [] → ⊥) → Silent marks roles S1 → Silent marks roles (Following S1 S2)
first_silent {X} {Y} {S1} {S2} some silent y u more b = by_left b.left b.is_first b.cut
  where
    by_left : (left : List Leaf) → S1 b.first left → u ∷ more ≡ left ++ b.right → u.role ≡ Nothing
    by_left [] one e = absurd (some b.first one)
    by_left (v ∷ left) one e = let head : v ≡ u = cc in subst (λ (l : Leaf). l.role ≡ Nothing) head (silent b.first v left one)

pub closed_silent : {X : Type 0} {S : X → List Leaf → Type 0} (as_leaf : Placed → Leaf) (p : Punctuator) → ((x : X) → S x [] → ⊥) → Silent marks roles S → Silent marks roles (Closed as_leaf p S)
closed_silent {X} {S} as_leaf p some silent x u more c = by_inside c.inside c.derives c.cut
  where
    by_inside : (inside : List Leaf) → S x inside → u ∷ more ≡ inside ++ as_leaf (mark p c.close) ∷ [] → u.role ≡ Nothing
    by_inside [] one e = absurd (some x one)
    by_inside (v ∷ inside) one e = let head : v ≡ u = cc in subst (λ (l : Leaf). l.role ≡ Nothing) head (silent x v inside one)
