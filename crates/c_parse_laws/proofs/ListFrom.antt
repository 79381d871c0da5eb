-- Lists of parts that say what is expected after them keep roles.
use Rattle.std.proofs.Common.{List, ℕ, [], ◌∷◌, ◌++◌, ◌≡◌, ap, ◌∙◌, refl, sym, subst, append-nil, append_assoc, Bool, inr}
use Rattle.c_token_spec.specs.declared.token.Punctuator.{Punctuator}
use Rattle.c_token_spec.specs.declared.token.Punctuator.TheVariants as punctuator
use Rattle.c_token_spec.specs.Lexical.{Placed}
use Rattle.c_parse_spec.specs.declared.Role.{Role}
use Rattle.c_parse_spec.specs.Leaves.{Leaf, expected, mark, marks, roles}
use Rattle.exact_read.specs.Reading.{Parser}
use Rattle.exact_read.specs.Grammar.{Then, Map, One, none, some, anything, context_after}
use Rattle.c_parse_laws.specs.Classes.{mark_offset}
use Rattle.c_parse_laws.proofs.Marks.{one-mark, mark-one, Following}
use Rattle.c_parse_laws.specs.Declarations.{last_of, read_list_from}
use Rattle.c_parse_laws.proofs.Lists.{Before, MoreText, EndText, read_end, next_before, Lists, end_stops, end_some, roled-end, end_meets, end_not_empty}
use Rattle.exact_read.specs.Roles.{Roled}
use Rattle.exact_read.proofs.RoleBasics.{Meets, roled-same}
use Rattle.exact_read.proofs.RoleThen.{roled-then_within}
use Rattle.c_parse_laws.specs.Firm.{Firm}
use Rattle.c_parse_laws.proofs.Firm.{firm-map}
use Rattle.c_parse_laws.proofs.Listed.{meets_by}

abbrev pub no_step : {X : Type 0} → Unit {0} → X → Unit {0}
no_step e x = tt {0}

abbrev pub put_end : {X : Type 0} → (end : X → Role) → Unit {0} → X → Placed → Leaf
put_end end e x = expected (end x)

abbrev pub same_part : {X : Type 0} → (S : X → List Leaf → Type 0) → Unit {0} → X → List Leaf → Type 0
same_part S e = S

abbrev pub OthersText : {X : Type 0} → (S : X → List Leaf → Type 0) → (end : X → Role) → Before (Unit {0}) X → List X → List Leaf → Type 0
OthersText S end = MoreText no_step (put_end end) (same_part S)

-- parts with `,` between them, as each asks, and what is expected after the last
pub data Listed {X : Type 0} (S : X → List Leaf → Type 0) (end : X → Role) : X → List X → Role → List Leaf → Type 0 where
  last : (x : X) (text : List Leaf) → S x text → Listed S end x [] (end x) text
  more : (x y : X) (ys : List X) (role : Role) (text right : List Leaf) (comma : ℕ) → S x text → Listed S end y ys role right → Listed S end x (y ∷ ys) role (text ++ expected (end x) (mark punctuator.Comma comma) ∷ right)

-- a first part, which may be said in another way, others, and a token after them
pub record ListText {X : Type 0} (First S : X → List Leaf → Type 0) (end : X → Role) (close : Punctuator) (list : List X) (text : List Leaf) : Type 0 where
  pub head : X
  pub rest : List X
  pub left : List Leaf
  pub right : List Leaf
  pub offset : ℕ
  pub is : list ≡ head ∷ rest
  pub is_head : First head left
  pub are_rest : OthersText S end (tt {0}, head) rest right
  pub cut : text ≡ left ++ (right ++ expected (end (last_of head rest)) (mark close offset) ∷ [])

abbrev put_last : {X : Type 0} → (end : X → Role) → Before (Unit {0}) X → List X → Placed → Leaf
put_last end d xs = expected (end (last_of d.1 xs))

abbrev Raw : {X : Type 0} → (First S : X → List Leaf → Type 0) → (end : X → Role) → (close : Punctuator) → X × (List X × ℕ) → List Leaf → Type 0
Raw First S end close = Then First (λ x. EndText no_step (put_end end) (same_part S) close (put_last end) (tt {0}, x))

abbrev made_list : {X : Type 0} → X × (List X × ℕ) → List X
made_list made = made.0 ∷ made.1.0

raw_list : {X : Type 0} (First S : X → List Leaf → Type 0) (end : X → Role) (close : Punctuator) (list : List X) (text : List Leaf) → Map made_list (Raw First S end close) list text → ListText First S end close list text
raw_list First S end close list text m =
    let t = m.derives in
    let u = t.second in
    record { head = m.inner.0; rest = m.inner.1.0; left = t.left; right = u.left; offset = m.inner.1.1; is = m.is; is_head = t.first; are_rest = u.first; cut = t.cut ∙ ap (λ l. t.left ++ l) (u.cut ∙ ap (λ l. u.left ++ l) (one-mark close (put_last end (tt, m.inner.0) m.inner.1.0) m.inner.1.1 u.right u.second)) }

list_raw : {X : Type 0} (First S : X → List Leaf → Type 0) (end : X → Role) (close : Punctuator) (list : List X) (text : List Leaf) → ListText First S end close list text → Map made_list (Raw First S end close) list text
list_raw First S end close list text r =
    let last = expected (end (last_of r.head r.rest)) (mark close r.offset) ∷ [] in
    record { inner = (r.head, (r.rest, r.offset)); is = r.is; derives = record { left = r.left; right = r.right ++ last; cut = r.cut; first = r.is_head; second = record { left = r.right; right = last; cut = refl; first = r.are_rest; second = mark-one close (put_last end (tt, r.head) r.rest) r.offset } } }

-- others after a first part are a list
abbrev AfterFirst : {X : Type 0} → (S : X → List Leaf → Type 0) → (end : X → Role) → Before (Unit {0}) X → List X → List Leaf → Type 0
AfterFirst S end d xs text = (left : List Leaf) → S d.1 left → Listed S end d.1 xs (end (last_of d.1 xs)) (left ++ text)

others_none : {X : Type 0} (S : X → List Leaf → Type 0) (end : X → Role) (d : Before (Unit {0}) X) → AfterFirst S end d [] []
others_none S end d left h = subst (λ l. Listed S end d.1 [] (end d.1) l) (sym (append-nil left)) (last d.1 left h)

others_some : {X : Type 0} (S : X → List Leaf → Type 0) (end : X → Role) (d : Before (Unit {0}) X) (y : X) (ys : List X) (one two : List Leaf) → Following (One (put_end end d.0 d.1) (mark_offset punctuator.Comma)) (λ _. S) y one → AfterFirst S end (tt, y) ys two → AfterFirst S end d (y ∷ ys) (one ++ two)
others_some S end d y ys one two b again left h =
    let cut : one ++ two ≡ expected (end d.1) (mark punctuator.Comma b.first) ∷ (b.right ++ two) = ap (λ l. l ++ two) (b.cut ∙ ap (λ l. l ++ b.right) (one-mark punctuator.Comma (expected (end d.1)) b.first b.left b.is_first)) in
    subst (λ l. Listed S end d.1 (y ∷ ys) (end (last_of y ys)) (left ++ l)) (sym cut) (more d.1 y ys (end (last_of y ys)) left (b.right ++ two) b.first h (again b.right b.is_second))

others_after : {X : Type 0} (S : X → List Leaf → Type 0) (end : X → Role) (d : Before (Unit {0}) X) (xs : List X) (text : List Leaf) → OthersText S end d xs text → AfterFirst S end d xs text
others_after S end d xs text (none k) = others_none S end k
others_after S end d xs text (some k y ys one two b rest) = others_some S end k y ys one two b (others_after S end (tt, y) ys two rest)

pub listed : {X : Type 0} (S : X → List Leaf → Type 0) (end : X → Role) (x : X) (xs : List X) (left right : List Leaf) → S x left → OthersText S end (tt {0}, x) xs right → Listed S end x xs (end (last_of x xs)) (left ++ right)
listed S end x xs left right h m = others_after S end (tt, x) xs right m left h

-- and back
pub record ListSplit {X : Type 0} (S : X → List Leaf → Type 0) (end : X → Role) (x : X) (xs : List X) (role : Role) (text : List Leaf) : Type 0 where
  pub left : List Leaf
  pub right : List Leaf
  pub is_head : S x left
  pub are_rest : OthersText S end (tt {0}, x) xs right
  pub role_is : role ≡ end (last_of x xs)
  pub cut : text ≡ left ++ right

pub list_split : {X : Type 0} (S : X → List Leaf → Type 0) (end : X → Role) (x : X) (xs : List X) (role : Role) (text : List Leaf) → Listed S end x xs role text → ListSplit S end x xs role text
list_split S end x xs role text (last y t h) = record { left = t; right = []; is_head = h; are_rest = none (tt, y); role_is = refl; cut = sym (append-nil t) }
list_split S end x xs role text (more y z zs r t right comma h k) =
    let s = list_split S end z zs r right k in
    record {
      left = t;
      right = (expected (end y) (mark punctuator.Comma comma) ∷ s.left) ++ s.right;
      is_head = h;
      are_rest = some (tt, y) z zs (expected (end y) (mark punctuator.Comma comma) ∷ s.left) s.right
          (record { first = comma; left = expected (end y) (mark punctuator.Comma comma) ∷ []; right = s.left; is_first = mark-one punctuator.Comma (expected (end y)) comma; is_second = s.is_head; cut = refl })
          s.are_rest;
      role_is = s.role_is;
      cut = ap (λ l. t ++ expected (end y) (mark punctuator.Comma comma) ∷ l) s.cut;
    }

-- a list whose first part is one as the others, with the token after it
pub record Listing {X : Type 0} (S : X → List Leaf → Type 0) (end : X → Role) (close : Punctuator) (list : List X) (text : List Leaf) : Type 0 where
  pub head : X
  pub rest : List X
  pub role : Role
  pub inside : List Leaf
  pub offset : ℕ
  pub is : list ≡ head ∷ rest
  pub derives : Listed S end head rest role inside
  pub cut : text ≡ inside ++ expected role (mark close offset) ∷ []

pub text_listing : {X : Type 0} (S : X → List Leaf → Type 0) (end : X → Role) (close : Punctuator) (list : List X) (text : List Leaf) → ListText S S end close list text → Listing S end close list text
text_listing S end close list text r =
    record { head = r.head; rest = r.rest; role = end (last_of r.head r.rest); inside = r.left ++ r.right; offset = r.offset; is = r.is; derives = listed S end r.head r.rest r.left r.right r.is_head r.are_rest; cut = r.cut ∙ sym (append_assoc r.left r.right (expected (end (last_of r.head r.rest)) (mark close r.offset) ∷ [])) }

pub listing_text : {X : Type 0} (S : X → List Leaf → Type 0) (end : X → Role) (close : Punctuator) (list : List X) (text : List Leaf) → Listing S end close list text → ListText S S end close list text
listing_text S end close list text l =
    let s = list_split S end l.head l.rest l.role l.inside l.derives in
    record {
      head = l.head;
      rest = l.rest;
      left = s.left;
      right = s.right;
      offset = l.offset;
      is = l.is;
      is_head = s.is_head;
      are_rest = s.are_rest;
      cut = l.cut ∙ ap (λ (r : Role). l.inside ++ expected r (mark close l.offset) ∷ []) s.role_is ∙ ap (λ t. t ++ expected (end (last_of l.head l.rest)) (mark close l.offset) ∷ []) s.cut ∙ append_assoc s.left s.right (expected (end (last_of l.head l.rest)) (mark close l.offset) ∷ []);
    }

pub roled-list_from : {X : Type 0} {entry : Placed → Bool} {First S : X → List Leaf → Type 0} {stop : X → Placed → Bool} {ending : X → Role} {close : Punctuator} {one item : Parser Placed Role X} (end : X → Role) → ((x : X) → Meets roles (ending x) (end x)) → Lists (same_part S) stop close → Roled marks roles entry First stop ending ⊥ one → Roled marks roles anything S stop ending ⊥ item
    → Firm entry (ListText First S end close) (λ _. anything) (read_list_from end close one item)
roled-list_from {X} {entry} {First} {S} {stop} {ending} {close} {one} {item} end meets lists one_is item_is =
    roled-same entry (ListText First S end close) (read_list_from end close one item) (λ t h. h) (raw_list First S end close) (list_raw First S end close) (λ tokens. refl)
    (firm-map made_list (λ _. anything) (λ x. refl)
    (roled-then_within one_is (λ x left h within. rest_is x)
    record {
      ends = λ x pair left right rest h two stops. end_stops lists no_step (put_end end) (λ e y t. refl) (put_last end) (λ d xs t. refl) (tt, x) pair right rest two;
      goes_on = λ x left h. end_some no_step (put_end end) (same_part S) close (put_last end) (tt, x);
    }
    record {
      between = λ x left kind rest h stops e. meets_by (ending x) (end x) kind (meets x) (end_meets lists no_step (put_end end) (end x) (put_last end) (tt, x) (λ t. refl) kind rest ((rest_is x).asks rest kind rest stops e));
      empty = λ x pair left h two. absurd (end_not_empty (same_part S) close no_step (put_end end) (put_last end) (tt, x) pair two);
      loose = λ never x left u h n. absurd never;
      loose_empty = λ never x pair left h two. absurd never;
    }))
  where
    last_same : (d : Before (Unit {0}) X) (xs : List X) → end (context_after (next_before no_step) d xs).1 ≡ end (last_of d.1 xs)
    last_same d [] = refl
    last_same d (y ∷ ys) = last_same (tt, y) ys

    rest_is : (x : X) → Firm (stop x) (EndText no_step (put_end end) (same_part S) close (put_last end) (tt, x)) (λ _. anything) (read_end (λ role. role) (λ role. expected role) (λ _. item) (λ _ y. end y) close (λ xs. end (last_of x xs)) (put_last end (tt, x)) (end x))
    rest_is x =
        roled-end lists no_step (λ _ y. end y) (λ role. role) (λ role. expected role) (λ _. item) (λ _ y. end y) (λ c t. refl) (λ c t. refl) (λ e y z. refl) (λ e y. item_is) (λ d xs. end (last_of d.1 xs)) (put_last end) (λ d xs t. refl) (λ d xs t. refl)
        (λ e y. meets y) (λ d xs. inr (last_same d xs)) (tt, x)
