-- Texts of two parts that begin with the same tokens: where the first part of each ends.
use Rattle.std.proofs.Common.{◌≡◌, Bool, true, false, List, [], ◌∷◌, ◌++◌, Ok, refl, ap, sym, ◌∙◌, subst, append-nil, append_assoc, cond, IsTrue}
use Rattle.exact_read.specs.Reading.{LimitExceeded, Wrong, Parser, Marks, plains, Within, limit, Stops}
use Rattle.exact_read.specs.Exact.{Exact}
use Rattle.exact_read.proofs.Basics.{plains-append, limit-within, ok, err, ok_parts, err_parts}
use Rattle.exact_read.proofs.Then.{Joins}
use Rattle.exact_read.proofs.RoleLists.{Cut, inside, beyond, cut_of, plain_cut, within_left, stops_left, stops_more}

-- texts that begin with the same tokens exceed a limit at the same one
abbrev pub Alike : {T U X : Type 0} → Marks T U → (entry : T → Bool) → (S : X → List U → Type 0) → Type 0
Alike {T} {U} {X} marks entry S = (x y : X) (one following two after : List U) → S x (one ++ following) → S y (two ++ after) → plains marks one ≡ plains marks two → Within marks one → Stops entry (plains marks one) → Within marks two

-- what a whole text gives is no value with a rest
pub limit_rest : {T U K X : Type 0} (marks : Marks T U) (text : List U) (x y : X) (token : T) (more : List T) → limit marks text [] (ok {K = K} x []) ≡ ok y (token ∷ more) → ⊥
limit_rest {K = K} marks [] x y token more e = let p : [] ≡ token ∷ more = (ok_parts {K = K} e).1 in cc
limit_rest {T} {U} {K} {X} marks (u ∷ text) x y token more e = by_mark (marks.over u) (limit_rest {K = K} marks text x y token more) e
  where
    by_mark : (b : Bool) → (limit marks text [] (ok {K = K} x []) ≡ ok y (token ∷ more) → ⊥) → cond b (err LimitExceeded (marks.plain u ∷ plains marks text ++ [])) (limit marks text [] (ok {K = K} x [])) ≡ ok y (token ∷ more) → ⊥
    by_mark false h e = h e
    by_mark true h e = cc

-- what a text gives is no wrong token
pub limit_wrong : {T U K X : Type 0} (marks : Marks T U) (text : List U) (x : X) (rest : List T) (kind : K) (at : List T) → limit marks text rest (ok x rest) ≡ err {X = X} (Wrong kind) at → ⊥
limit_wrong {K = K} marks [] x rest kind at e = cc
limit_wrong {T} {U} {K} {X} marks (u ∷ text) x rest kind at e = by_mark (marks.over u) (limit_wrong marks text x rest kind at) e
  where
    by_mark : (b : Bool) → (limit marks text rest (ok x rest) ≡ err {X = X} (Wrong kind) at → ⊥) → cond b (err LimitExceeded (marks.plain u ∷ plains marks text ++ rest)) (limit marks text rest (ok x rest)) ≡ err {X = X} (Wrong kind) at → ⊥
    by_mark false h e = h e
    by_mark true h e = let p : LimitExceeded ≡ Wrong kind = (err_parts {X = X} e).0 in cc

-- a part is not read where a longer one can be
pub clash : {T U K X : Type 0} {marks : Marks T U} {entry : T → Bool} {S : X → List U → Type 0} {stop : X → T → Bool} {read : Parser T K X} → Exact marks entry S stop read
    → (x y : X) (short long : List U) (token : T) (more : List T) → S x short → S y long → Within marks short → plains marks long ≡ plains marks short ++ token ∷ more → IsTrue (stop x token) → Stops entry (plains marks long) → ⊥
clash {T} {U} {K} {X} {marks} {entry} {S} {stop} {read} is x y short long token more one two within same stops enters =
    limit_rest {K = K} marks long y x token more
    (sym (is.again y long [] two tt (subst (Stops entry) (sym (append-nil (plains marks long))) enters))
    ∙ ap read (append-nil (plains marks long) ∙ same)
    ∙ is.again x short (token ∷ more) one stops (subst (Stops entry) same enters)
    ∙ limit-within marks short (token ∷ more) (Ok (x, token ∷ more)) within)

-- texts of the same tokens have one value
pub one_value : {T U K X : Type 0} {marks : Marks T U} {entry : T → Bool} {S : X → List U → Type 0} {stop : X → T → Bool} {read : Parser T K X} → Exact marks entry S stop read
    → (x y : X) (left right : List U) → S x left → S y right → Within marks left → Within marks right → plains marks left ≡ plains marks right → Stops entry (plains marks left) → x ≡ y
one_value {T} {U} {K} {X} {marks} {entry} {S} {stop} {read} is x y left right one two within_one within_two same enters =
    (ok_parts {K = K}
    (sym (is.again x left [] one tt (subst (Stops entry) (sym (append-nil (plains marks left))) enters) ∙ limit-within marks left [] (Ok (x, [])) within_one)
    ∙ ap (λ t. read (t ++ [])) same
    ∙ is.again y right [] two tt (subst (Stops entry) (sym (append-nil (plains marks right))) (subst (Stops entry) same enters))
    ∙ limit-within marks right [] (Ok (y, [])) within_two)).0

-- a text of two parts, of which `prefix` is the first piece
pub record Pair {U X Y : Type 0} (S1 : X → List U → Type 0) (S2 : X → Y → List U → Type 0) (prefix following : List U) : Type 0 where
  pub x : X
  pub y : Y
  pub left : List U
  pub right : List U
  pub first : S1 x left
  pub second : S2 x y right
  pub cut : prefix ++ following ≡ left ++ right

-- The first text goes on after its first part, which is `left`, with `middle`. The other goes on inside its first part,
-- directly after those tokens, or after its first part, which has the same tokens as that of the first.
pub data Beyond {T U X Y : Type 0} (marks : Marks T U) (S1 : X → List U → Type 0) (S2 : X → Y → List U → Type 0) (x : X) (left middle prefix following : List U) (pair : Pair S1 S2 prefix following) : Type 0 where
  still : (u : U) (more : List U) → middle ≡ [] → pair.left ≡ prefix ++ u ∷ more → following ≡ u ∷ more ++ pair.right → Beyond marks S1 S2 x left middle prefix following pair
  also : (other : List U) → prefix ≡ pair.left ++ other → pair.right ≡ other ++ following → x ≡ pair.x → Within marks pair.left → plains marks left ≡ plains marks pair.left → plains marks middle ≡ plains marks other → Beyond marks S1 S2 x left middle prefix following pair

pub prefix_stops : {T U X Y : Type 0} {marks : Marks T U} {S1 : X → List U → Type 0} {stop1 : X → T → Bool} {S2 : X → Y → List U → Type 0} {stop2 : X → Y → T → Bool} → Joins marks S1 stop1 S2 stop2
    → (x : X) (y : Y) (left : List U) (u : U) (more : List U) (token : T) → S1 x left → S2 x y (u ∷ more) → marks.plain u ≡ token → IsTrue (stop1 x token)
prefix_stops {stop1 = stop1} joins x y left u more token one two same = subst (λ t. IsTrue (stop1 x t)) same (joins.ends x y left (u ∷ more) [] one two tt)

-- where the first text goes on after its first part
pub where_beyond : {T U K X Y : Type 0} {marks : Marks T U} {entry : T → Bool} {S1 : X → List U → Type 0} {stop1 : X → T → Bool} {S2 : X → Y → List U → Type 0} {stop2 : X → Y → T → Bool} {read : Parser T K X}
    → Exact marks entry S1 stop1 read → Alike marks entry S1 → Joins marks S1 stop1 S2 stop2
    → (x : X) (y : Y) (left middle more prefix following : List U) → S1 x left → S2 x y (middle ++ more) → Within marks left → (pair : Pair S1 S2 prefix following) → plains marks left ++ plains marks middle ≡ plains marks prefix → Stops entry (plains marks prefix)
    → Beyond marks S1 S2 x left middle prefix following pair
where_beyond {T} {U} {K} {X} {Y} {marks} {entry} {S1} {stop1} {S2} {stop2} {read} is alike joins x y left middle more prefix following first second within pair same enters =
    by_cut (cut_of prefix following pair.left pair.right pair.cut)
  where
    enters_left : Stops entry (plains marks left)
    enters_left = stops_left entry (plains marks left) (plains marks middle) (subst (Stops entry) (sym same) enters)

    -- both first parts have the same tokens
    equal : (other : List U) → prefix ≡ pair.left ++ other → pair.right ≡ other ++ following → plains marks left ≡ plains marks pair.left → plains marks middle ≡ plains marks other → Beyond marks S1 S2 x left middle prefix following pair
    equal other cut is_right lefts middles =
        let w : Within marks pair.left = alike x pair.x left [] pair.left [] (subst (S1 x) (sym (append-nil left)) first) (subst (S1 pair.x) (sym (append-nil pair.left)) pair.first) lefts within enters_left in
        also other cut is_right (one_value is x pair.x left pair.left first pair.first within w lefts enters_left) w lefts middles

    -- the first part of the other ends at the prefix or after it
    ends_at : (m : List U) → plains marks left ++ plains marks m ≡ plains marks prefix → (n : List U) → m ≡ middle → S2 x y (m ++ more) → pair.left ≡ prefix ++ n → following ≡ n ++ pair.right → Beyond marks S1 S2 x left middle prefix following pair
    ends_at [] here [] e two a b =
        equal [] (sym (append-nil prefix) ∙ sym a ∙ sym (append-nil pair.left)) (sym b) (sym (append-nil (plains marks left)) ∙ here ∙ ap (plains marks) (sym (append-nil prefix) ∙ sym a)) (ap (plains marks) (sym e))
    ends_at [] here (u ∷ n) e two a b = still u n (sym e) a b
    ends_at (v ∷ m) here n e two a b =
        let long : plains marks pair.left ≡ plains marks left ++ marks.plain v ∷ (plains marks m ++ plains marks n) =
        ap (plains marks) a ∙ plains-append marks prefix n ∙ ap (λ t. t ++ plains marks n) (sym here) ∙ append_assoc (plains marks left) (plains marks (v ∷ m)) (plains marks n) in
        absurd (clash is x pair.x left pair.left (marks.plain v) (plains marks m ++ plains marks n) first pair.first within long (prefix_stops joins x y left v (m ++ more) (marks.plain v) first two refl)
        (subst (Stops entry) (sym (ap (plains marks) a ∙ plains-append marks prefix n ∙ ap (λ t. t ++ plains marks n) (sym here)))
        (stops_more entry (plains marks left) (marks.plain v) (plains marks m) (plains marks n) (subst (Stops entry) (sym here) enters))))

    -- a nonempty piece comes next
    stops_middle : (m : List U) (token : T) (tokens : List T) → S2 x y (m ++ more) → plains marks m ≡ token ∷ tokens → IsTrue (stop1 x token)
    stops_middle [] token tokens two e = absurd (cc)
    stops_middle (v ∷ m) token tokens two e = prefix_stops joins x y left v (m ++ more) token first two (let head : marks.plain v ≡ token = cc in head)

    by_tokens : (u : U) (n : List U) → prefix ≡ pair.left ++ u ∷ n → pair.right ≡ u ∷ n ++ following → Cut (plains marks left) (plains marks middle) (plains marks pair.left) (plains marks (u ∷ n)) → Beyond marks S1 S2 x left middle prefix following pair
    by_tokens u n a b (inside [] c d) = equal (u ∷ n) a b (sym (append-nil (plains marks left)) ∙ sym c) d
    by_tokens u n a b (inside (t ∷ tokens) c d) =
        absurd (clash is x pair.x left pair.left t tokens first pair.first within c (stops_middle middle t (tokens ++ plains marks (u ∷ n)) second d)
        (stops_left entry (plains marks pair.left) (plains marks (u ∷ n)) (subst (Stops entry) (ap (plains marks) a ∙ plains-append marks pair.left (u ∷ n)) enters)))
    by_tokens u n a b (beyond t tokens c d) =
        let p = plain_cut marks left (plains marks pair.left) (t ∷ tokens) c in
        let w : Within marks pair.left = alike x pair.x p.first p.second pair.left [] (subst (S1 x) p.cut first) (subst (S1 pair.x) (sym (append-nil pair.left)) pair.first) p.is_left
        (within_left marks p.first p.second (subst (Within marks) p.cut within))
        (subst (Stops entry) (sym p.is_left) (stops_left entry (plains marks pair.left) (t ∷ tokens) (subst (Stops entry) c enters_left))) in
        let head : marks.plain u ≡ t = cc in
        absurd (clash is pair.x x pair.left left t tokens pair.first first w c
        (prefix_stops joins pair.x pair.y pair.left u (n ++ following) t pair.first (subst (S2 pair.x pair.y) b pair.second) head) enters_left)

    by_cut : Cut prefix following pair.left pair.right → Beyond marks S1 S2 x left middle prefix following pair
    by_cut (inside n a b) = ends_at middle same n refl second a b
    by_cut (beyond u n a b) = by_tokens u n a b (cut_of (plains marks left) (plains marks middle) (plains marks pair.left) (plains marks (u ∷ n)) (same ∙ ap (plains marks) a ∙ plains-append marks pair.left (u ∷ n)))

-- where the first text goes on inside its first part, of which `inner` and `u` and `more` are left, so does the
-- other, or it does so directly after it
pub where_inside : {T U K X Y : Type 0} {marks : Marks T U} {entry : T → Bool} {S1 : X → List U → Type 0} {stop1 : X → T → Bool} {S2 : X → Y → List U → Type 0} {stop2 : X → Y → T → Bool} {read : Parser T K X}
    → Exact marks entry S1 stop1 read → Alike marks entry S1 → Joins marks S1 stop1 S2 stop2
    → (x : X) (inner more prefix following : List U) → S1 x (inner ++ more) → Within marks inner → (pair : Pair S1 S2 prefix following) → plains marks inner ≡ plains marks prefix → Stops entry (plains marks prefix)
    → (middle : List U) × (pair.left ≡ prefix ++ middle) × (following ≡ middle ++ pair.right)
where_inside {T} {U} {K} {X} {Y} {marks} {entry} {S1} {stop1} {S2} {stop2} {read} is alike joins x inner more prefix following first within pair same enters =
    by_cut (cut_of prefix following pair.left pair.right pair.cut)
  where
    by_cut : Cut prefix following pair.left pair.right → (middle : List U) × (pair.left ≡ prefix ++ middle) × (following ≡ middle ++ pair.right)
    by_cut (inside m a b) = (m, a, b)
    by_cut (beyond u n a b) =
        let tokens : plains marks inner ≡ plains marks pair.left ++ plains marks (u ∷ n) = same ∙ ap (plains marks) a ∙ plains-append marks pair.left (u ∷ n) in
        let p = plain_cut marks inner (plains marks pair.left) (plains marks (u ∷ n)) tokens in
        let enters_inner : Stops entry (plains marks inner) = subst (Stops entry) (sym same) enters in
        let w : Within marks pair.left = alike x pair.x p.first (p.second ++ more) pair.left [] (subst (S1 x) (ap (λ t. t ++ more) p.cut ∙ append_assoc p.first p.second more) first) (subst (S1 pair.x) (sym (append-nil pair.left)) pair.first) p.is_left
        (within_left marks p.first p.second (subst (Within marks) p.cut within))
        (subst (Stops entry) (sym p.is_left) (stops_left entry (plains marks pair.left) (plains marks (u ∷ n)) (subst (Stops entry) tokens enters_inner))) in
        absurd (clash is pair.x x pair.left (inner ++ more) (marks.plain u) (plains marks n ++ plains marks more) pair.first first w
        (plains-append marks inner more ∙ ap (λ t. t ++ plains marks more) tokens ∙ append_assoc (plains marks pair.left) (plains marks (u ∷ n)) (plains marks more))
        (prefix_stops joins pair.x pair.y pair.left u (n ++ following) (marks.plain u) pair.first (subst (S2 pair.x pair.y) b pair.second) refl)
        (subst (Stops entry) (sym (plains-append marks inner more ∙ ap (λ t. t ++ plains marks more) tokens))
        (stops_more entry (plains marks pair.left) (marks.plain u) (plains marks n) (plains marks more) (subst (Stops entry) tokens enters_inner))))
