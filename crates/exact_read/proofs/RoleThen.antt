-- One part and then another keep roles.
use Rattle.std.proofs.Common.{◌≡◌, inl, inr, Bool, List, [], ◌∷◌, ◌++◌, Ok, Err, refl, ap, sym, ◌∙◌, subst, append_assoc, append-nil}
use Rattle.std.proofs.lemmas.List.{append_cancel_left, append_cancel_right}
use Rattle.exact_read.specs.Reading.{Wrong, Outcome, Parser, Marks, plains, Within, Stops}
use Rattle.exact_read.specs.Grammar.{bind, read_then, Then, stop_then}
use Rattle.exact_read.proofs.Basics.{plains-append, plains-two, Within-append, ok, err, err_again}
use Rattle.exact_read.proofs.Then.{Joins, exact-then_within}
use Rattle.exact_read.specs.Roles.{IsAsked, Roled, silent}
use Rattle.exact_read.specs.Expected.{Roles, Next, Reported, Asked}
use Rattle.exact_read.proofs.RoleLists.{Cut, inside, beyond, cut_of, nothing_between, within_left, within_right, stops_left}
use Rattle.exact_read.proofs.RolePrefixes.{Pair, Beyond, still, also, where_beyond, where_inside, prefix_stops, limit_wrong}
use Rattle.exact_read.proofs.RoleBasics.{Meets, reported_as}

-- what is expected at the end of the first part is what the second expects, or what is expected at the end of both
-- where it is empty; where the first is loose, what begins the second has no role
pub record Follows {T U K X Y : Type 0} (marks : Marks T U) (roles : Roles U K) (S1 : X → List U → Type 0) (stop1 : X → T → Bool) (ending1 : X → K) (Loose1 : Type 0) (S2 : X → Y → List U → Type 0) (ending2 : X → Y → K) (Loose2 : Type 0) (second : X → Parser T K Y) : Type 0 where
  pub between : (x : X) (left : List U) (kind : K) (rest : List T) → S1 x left → Stops (stop1 x) rest → second x rest ≡ Err (Wrong kind, rest) → Meets roles (ending1 x) kind
  pub empty : (x : X) (y : Y) (left : List U) → S1 x left → S2 x y [] → Meets roles (ending1 x) (ending2 x y)
  pub loose : Loose1 → (x : X) (left : List U) (u : U) → S1 x left → Next marks (S2 x) [] u → roles.role u ≡ roles.none
  pub loose_empty : Loose1 → (x : X) (y : Y) (left : List U) → S1 x left → S2 x y [] → Loose2

-- how a parser of two parts calls a token wrong
pub data WrongIn {T K X Y : Type 0} (first : Parser T K X) (second : X → Parser T K Y) (before : List T) (kind : K) (rest : List T) : Type 0 where
  early : first before ≡ err {X = X} (Wrong kind) rest → WrongIn first second before kind rest
  late : (x : X) (middle : List T) → first before ≡ ok x middle → second x middle ≡ err {X = Y} (Wrong kind) rest → WrongIn first second before kind rest

wrong_in : {T K X Y : Type 0} (first : Parser T K X) (second : X → Parser T K Y) (before : List T) (kind : K) (rest : List T) → read_then first second before ≡ err {X = X × Y} (Wrong kind) rest → WrongIn first second before kind rest
wrong_in {T} {K} {X} {Y} first second before kind rest e = by_first (first before) refl e
  where
    by_second : (x : X) (middle : List T) → first before ≡ ok x middle → (o : Outcome T K Y) → second x middle ≡ o → bind o (λ y after. ok {X = X × Y} (x, y) after) ≡ err {X = X × Y} (Wrong kind) rest → WrongIn first second before kind rest
    by_second x middle f (Ok (y, after)) g e = absurd (cc)
    by_second x middle f (Err (fault, after)) g e = late x middle f (g ∙ err_again {X = Y} {Y = X × Y} e)

    by_first : (o : Outcome T K X) → first before ≡ o → bind o (λ x middle. bind (second x middle) (λ y after. ok {X = X × Y} (x, y) after)) ≡ err {X = X × Y} (Wrong kind) rest → WrongIn first second before kind rest
    by_first (Ok (x, middle)) f e = by_second x middle f (second x middle) refl e
    by_first (Err (fault, after)) f e = early (f ∙ err_again {X = X} {Y = X × Y} e)

pub pair_of : {U X Y : Type 0} {S1 : X → List U → Type 0} {S2 : X → Y → List U → Type 0} (pair : X × Y) (prefix following : List U) → Then S1 S2 pair (prefix ++ following) → Pair S1 S2 prefix following
pair_of pair prefix following t = record { x = pair.0; y = pair.1; left = t.left; right = t.right; first = t.first; second = t.second; cut = t.cut }

-- what goes on with a text of two parts goes on with the first, after these tokens
first_next : {T U X : Type 0} {marks : Marks T U} {S : X → List U → Type 0} (x : X) (left before : List U) (u v : U) (middle rest more : List U) (prefix : List T) → S x left → left ≡ before ++ v ∷ middle → u ∷ more ≡ v ∷ middle ++ rest → plains marks before ≡ prefix → Next marks S prefix u
first_next {S = S} x left before u v middle rest more prefix one cut e same =
    let head : v ≡ u = cc in
    record { value = x; before = before; more = middle; derives = subst (S x) (cut ∙ ap (λ w. before ++ w ∷ middle) head) one; same = same }

-- the laws of the second part, after a first
abbrev pub SecondAsks : {T U K X Y : Type 0} → (marks : Marks T U) → (roles : Roles U K) → (S1 : X → List U → Type 0) → (stop1 : X → T → Bool) → (S2 : X → Y → List U → Type 0) → (second : X → Parser T K Y) → Type 0
SecondAsks {T} {U} {K} {X} {Y} marks roles S1 stop1 S2 second = (x : X) (left : List U) → S1 x left → Within marks left → (before : List T) (kind : K) (rest : List T) → Stops (stop1 x) before → second x before ≡ err {X = Y} (Wrong kind) rest → IsAsked marks roles (S2 x) before kind rest

pub asks_then : {T U K X Y : Type 0} {marks : Marks T U} {roles : Roles U K} {entry : T → Bool} {S1 : X → List U → Type 0} {stop1 : X → T → Bool} {ending1 : X → K} {Loose1 : Type 0} {S2 : X → Y → List U → Type 0} {stop2 : X → Y → T → Bool} {ending2 : X → Y → K} {Loose2 : Type 0} {first : Parser T K X} {second : X → Parser T K Y}
    → Roled marks roles entry S1 stop1 ending1 Loose1 first → SecondAsks marks roles S1 stop1 S2 second → Joins marks S1 stop1 S2 stop2 → Follows marks roles S1 stop1 ending1 Loose1 S2 ending2 Loose2 second
    → (before : List T) (kind : K) (rest : List T) → Stops entry before → WrongIn first second before kind rest → IsAsked marks roles (Then S1 S2) before kind rest
asks_then {T} {U} {K} {X} {Y} {marks} {roles} {entry} {S1} {stop1} {ending1} {Loose1} {S2} {stop2} {ending2} {Loose2} {first} {second} one two joins follows before kind rest enters (early e) =
    let a = one.asks before kind rest enters e in
    let goes = joins.goes_on a.value (a.prefix ++ a.more) a.derives in
    let enters_prefix : Stops entry (plains marks a.prefix) = stops_left entry (plains marks a.prefix) rest (subst (Stops entry) a.cut enters) in
    record {
      prefix = a.prefix;
      cut = a.cut;
      within = a.within;
      value = (a.value, goes.0);
      more = a.more ++ goes.1;
      derives = record { left = a.prefix ++ a.more; right = goes.1; cut = sym (append_assoc a.prefix a.more goes.1); first = a.derives; second = goes.2 };
      asked = record {
        agreed = λ u n.
            let pair = pair_of n.value n.before (u ∷ n.more) n.derives in
            let w = where_inside one.exact one.alike joins a.value a.prefix a.more n.before (u ∷ n.more) a.derives a.within pair (sym n.same) (subst (Stops entry) (sym n.same) enters_prefix) in
            by_middle a.prefix a.more a.value u n.before n.more pair n.same a.within a.cut enters_prefix a.derives a.asked w.0 w.1 w.2;
        asked = elim a.asked.asked [ inl h ↦ inl h | inr m ↦ inr (m.0, goes_further (plains marks a.prefix) m.0 m.1, m.2) ];
      };
    }
  where
    goes_further : (prefix : List T) (u : U) → Next marks S1 prefix u → Next marks (Then S1 S2) prefix u
    goes_further prefix u n =
        let goes = joins.goes_on n.value (n.before ++ u ∷ n.more) n.derives in
        record {
          value = (n.value, goes.0);
          before = n.before;
          more = n.more ++ goes.1;
          derives = record { left = n.before ++ u ∷ n.more; right = goes.1; cut = sym (append_assoc n.before (u ∷ n.more) goes.1); first = n.derives; second = goes.2 };
          same = n.same;
        }

    by_middle : (inner more : List U) (value : X) (u : U) (prefix following : List U) (pair : Pair S1 S2 prefix (u ∷ following)) → plains marks prefix ≡ plains marks inner → Within marks inner → before ≡ plains marks inner ++ rest → Stops entry (plains marks inner) → S1 value (inner ++ more) → Asked marks roles S1 (plains marks inner) kind
        → (middle : List U) → pair.left ≡ prefix ++ middle → u ∷ following ≡ middle ++ pair.right → Reported roles u kind
    by_middle inner more value u prefix following pair same within cut enters_inner derives asked [] a b =
        let whole : plains marks inner ≡ plains marks pair.left = sym same ∙ ap (plains marks) (sym (append-nil prefix) ∙ sym a) in
        let w : Within marks pair.left = one.alike value pair.x inner more pair.left [] derives (subst (S1 pair.x) (sym (append-nil pair.left)) pair.first) whole within enters_inner in
        let here : before ≡ plains marks pair.left ++ rest = cut ∙ ap (λ t. t ++ rest) whole in
        let f = one.firm pair.x pair.left kind rest pair.first w (subst (Stops entry) here enters) (ap first (sym here) ∙ e) in
        inr (follows.loose f.0 pair.x pair.left u pair.first (record { value = pair.y; before = []; more = following; derives = subst (S2 pair.x pair.y) (sym b) pair.second; same = refl }))
    by_middle inner more value u prefix following pair same within cut enters_inner derives asked (v ∷ middle) a b = asked.agreed u (first_next pair.x pair.left prefix u v middle pair.right following (plains marks inner) pair.first a b same)
asks_then {T} {U} {K} {X} {Y} {marks} {roles} {entry} {S1} {stop1} {ending1} {Loose1} {S2} {stop2} {ending2} {Loose2} {first} {second} one two joins follows before kind rest enters (late x middle e e') =
    let t = one.exact.takes before x middle enters e in
    let a = two x t.text t.derives t.within middle kind rest t.stops e' in
    let cut : before ≡ plains marks (t.text ++ a.prefix) ++ rest = t.cut ∙ ap (λ r. plains marks t.text ++ r) a.cut ∙ sym (plains-two marks t.text a.prefix rest) in
    record {
      prefix = t.text ++ a.prefix;
      cut = cut;
      within = Within-append marks t.text a.prefix t.within a.within;
      value = (x, a.value);
      more = a.more;
      derives = record { left = t.text; right = a.prefix ++ a.more; cut = append_assoc t.text a.prefix a.more; first = t.derives; second = a.derives };
      asked = record {
        agreed = λ u n.
            let pair = pair_of n.value n.before (u ∷ n.more) n.derives in
            let same : plains marks t.text ++ plains marks a.prefix ≡ plains marks n.before = sym (plains-append marks t.text a.prefix) ∙ sym n.same in
            let enters_prefix : Stops entry (plains marks n.before) = subst (Stops entry) (sym n.same) (stops_left entry (plains marks (t.text ++ a.prefix)) rest (subst (Stops entry) cut enters)) in
            by_place t.text a.prefix a.more t.derives t.within t.stops a.cut a.asked u n.before n.more pair same enters_prefix
            (where_beyond one.exact one.alike joins x a.value t.text a.prefix a.more n.before (u ∷ n.more) t.derives a.derives t.within pair same enters_prefix);
        asked = elim a.asked.asked [ inl h ↦ inl h | inr m ↦ inr (m.0, after_first t.text a.prefix t.derives m.0 m.1, m.2) ];
      };
    }
  where
    after_first : (left prefix : List U) → S1 x left → (u : U) → Next marks (S2 x) (plains marks prefix) u → Next marks (Then S1 S2) (plains marks (left ++ prefix)) u
    after_first left prefix one_is u n =
        record {
          value = (x, n.value);
          before = left ++ n.before;
          more = n.more;
          derives = record { left = left; right = n.before ++ u ∷ n.more; cut = append_assoc left n.before (u ∷ n.more); first = one_is; second = n.derives };
          same = plains-append marks left n.before ∙ ap (λ r. plains marks left ++ r) n.same ∙ sym (plains-append marks left prefix);
        }

    by_place : (left prefix more : List U) → S1 x left → Within marks left → Stops (stop1 x) middle → middle ≡ plains marks prefix ++ rest → Asked marks roles (S2 x) (plains marks prefix) kind
        → (u : U) (other following : List U) (pair : Pair S1 S2 other (u ∷ following)) → plains marks left ++ plains marks prefix ≡ plains marks other → Stops entry (plains marks other) → Beyond marks S1 S2 x left prefix other (u ∷ following) pair → Reported roles u kind
    by_place left prefix more one_is within stops cut asked u other following pair same enters_other (still v rest' empty a b) =
        let nothing : plains marks prefix ≡ [] = ap (plains marks) empty in
        let tokens : plains marks left ≡ plains marks other = sym (append-nil (plains marks left)) ∙ ap (λ r. plains marks left ++ r) (sym nothing) ∙ same in
        let here : middle ≡ rest = cut ∙ ap (λ r. r ++ rest) nothing in
        reported_as roles u (ending1 x) kind
        (one.reports x left u one_is within (subst (Stops entry) (sym tokens) enters_other) (first_next pair.x pair.left other u v rest' pair.right following (plains marks left) pair.first a b (sym tokens)))
        (follows.between x left kind rest one_is (subst (Stops (stop1 x)) here stops) (ap (second x) (sym here) ∙ e'))
    by_place left prefix more one_is within stops cut asked u other following pair same enters_other (also piece a b value w lefts middles) =
        asked.agreed u (record { value = pair.y; before = piece; more = following; derives = subst (λ (z : X). S2 z pair.y (piece ++ u ∷ following)) (sym value) (subst (S2 pair.x pair.y) b pair.second); same = sym middles })

pub reports_then : {T U K X Y : Type 0} {marks : Marks T U} {roles : Roles U K} {entry : T → Bool} {S1 : X → List U → Type 0} {stop1 : X → T → Bool} {ending1 : X → K} {Loose1 : Type 0} {S2 : X → Y → List U → Type 0} {stop2 : X → Y → T → Bool} {first : Parser T K X}
    → Roled marks roles entry S1 stop1 ending1 Loose1 first → Joins marks S1 stop1 S2 stop2
    → (x : X) (y : Y) (left right : List U) (u : U) (wanted : K) → (Stops (stop1 x) (plains marks right) → Next marks (S2 x) (plains marks right) u → Reported roles u wanted) → (S2 x y [] → Meets roles (ending1 x) wanted) → S1 x left → S2 x y right → Within marks (left ++ right) → Stops entry (plains marks (left ++ right)) → Next marks (Then S1 S2) (plains marks (left ++ right)) u → Reported roles u wanted
reports_then {T} {U} {K} {X} {Y} {marks} {roles} {entry} {S1} {stop1} {ending1} {Loose1} {S2} {stop2} {first} one joins x y left right u wanted two empty_is one_is two_is within enters n =
    by_place (where_beyond one.exact one.alike joins x y left right [] n.before (u ∷ n.more) one_is (subst (S2 x y) (sym (append-nil right)) two_is) within_one pair same (subst (Stops entry) (sym n.same) enters))
  where
    pair : Pair S1 S2 n.before (u ∷ n.more)
    pair = pair_of n.value n.before (u ∷ n.more) n.derives

    within_one : Within marks left
    within_one = within_left marks left right within

    same : plains marks left ++ plains marks right ≡ plains marks n.before
    same = sym (plains-append marks left right) ∙ sym n.same

    enters_one : Stops entry (plains marks left)
    enters_one = stops_left entry (plains marks left) (plains marks right) (subst (Stops entry) (plains-append marks left right) enters)

    by_place : Beyond marks S1 S2 x left right n.before (u ∷ n.more) pair → Reported roles u wanted
    by_place (still v more empty a b) =
        let tokens : plains marks n.before ≡ plains marks left = sym same ∙ ap (λ r. plains marks left ++ plains marks r) empty ∙ append-nil (plains marks left) in
        reported_as roles u (ending1 x) wanted
        (one.reports x left u one_is within_one enters_one (first_next pair.x pair.left n.before u v more pair.right n.more (plains marks left) pair.first a b tokens))
        (empty_is (subst (S2 x y) empty two_is))
    by_place (also piece a b value w lefts middles) =
        two
        (subst (Stops (stop1 x)) (append-nil (plains marks right)) (joins.ends x y left right [] one_is two_is tt))
        (record { value = pair.y; before = piece; more = n.more; derives = subst (λ (z : X). S2 z pair.y (piece ++ u ∷ n.more)) (sym value) (subst (S2 pair.x pair.y) b pair.second); same = sym middles })

pub firm_then : {T U K X Y : Type 0} {marks : Marks T U} {roles : Roles U K} {entry : T → Bool} {S1 : X → List U → Type 0} {stop1 : X → T → Bool} {ending1 : X → K} {Loose1 : Type 0} {S2 : X → Y → List U → Type 0} {stop2 : X → Y → T → Bool} {Loose2 : Type 0} {first : Parser T K X} {second : X → Parser T K Y}
    → Roled marks roles entry S1 stop1 ending1 Loose1 first → SecondAsks marks roles S1 stop1 S2 second → Joins marks S1 stop1 S2 stop2
    → (x : X) (y : Y) (left right : List U) (kind : K) (before rest : List T) → (Stops (stop1 x) (plains marks right ++ rest) → second x (plains marks right ++ rest) ≡ err {X = Y} (Wrong kind) rest → Loose2 × (kind ≡ roles.none)) → (Loose1 → S2 x y [] → Loose2) → before ≡ plains marks (left ++ right) ++ rest → S1 x left → S2 x y right → Within marks (left ++ right) → Stops entry before → WrongIn first second before kind rest → Loose2 × (kind ≡ roles.none)
firm_then {T} {U} {K} {X} {Y} {marks} {roles} {entry} {S1} {stop1} {ending1} {Loose1} {S2} {stop2} {Loose2} {first} {second} one two joins x y left right kind before rest two_firm loose here one_is two_is within enters (early e) = by_right right here two_is within
  where
    by_right : (right : List U) → before ≡ plains marks (left ++ right) ++ rest → S2 x y right → Within marks (left ++ right) → Loose2 × (kind ≡ roles.none)
    by_right [] here two_is within =
        let same : before ≡ plains marks left ++ rest = here ∙ ap (λ t. plains marks t ++ rest) (append-nil left) in
        let f = one.firm x left kind rest one_is (within_left marks left [] within) (subst (Stops entry) same enters) (ap first (sym same) ∙ e) in
        (loose f.0 two_is, f.1)
    by_right (v ∷ right) here two_is within =
        let same : before ≡ plains marks left ++ (plains marks (v ∷ right) ++ rest) = here ∙ plains-two marks left (v ∷ right) rest in
        absurd (limit_wrong marks left x (plains marks (v ∷ right) ++ rest) kind rest
        (sym (one.exact.again x left (plains marks (v ∷ right) ++ rest) one_is (prefix_stops joins x y left v right (marks.plain v) one_is two_is refl) (subst (Stops entry) same enters)) ∙ ap first (sym same) ∙ e))
firm_then {T} {U} {K} {X} {Y} {marks} {roles} {entry} {S1} {stop1} {ending1} {Loose1} {S2} {stop2} {Loose2} {first} {second} one two joins x y left right kind before rest two_firm loose here one_is two_is within enters (late x' middle e e') =
    let t = one.exact.takes before x' middle enters e in
    let a = two x' t.text t.derives t.within middle kind rest t.stops e' in
    let cut : plains marks (left ++ right) ≡ plains marks (t.text ++ a.prefix) =
    append_cancel_right (plains marks (left ++ right)) (plains marks (t.text ++ a.prefix)) rest (sym here ∙ t.cut ∙ ap (λ r. plains marks t.text ++ r) a.cut ∙ sym (plains-two marks t.text a.prefix rest)) in
    let pair : Pair S1 S2 (t.text ++ a.prefix) a.more = record { x = x'; y = a.value; left = t.text; right = a.prefix ++ a.more; first = t.derives; second = a.derives; cut = append_assoc t.text a.prefix a.more } in
    by_place t.text a.prefix a.more pair refl refl t.stops a.cut
    (where_beyond one.exact one.alike joins x y left right [] (t.text ++ a.prefix) a.more one_is (subst (S2 x y) (sym (append-nil right)) two_is) (within_left marks left right within) pair (sym (plains-append marks left right) ∙ cut)
    (subst (Stops entry) cut (stops_left entry (plains marks (left ++ right)) rest (subst (Stops entry) here enters))))
  where
    by_place : (text prefix more : List U) (pair : Pair S1 S2 (text ++ prefix) more) → pair.left ≡ text → pair.x ≡ x' → Stops (stop1 x') middle → middle ≡ plains marks prefix ++ rest → Beyond marks S1 S2 x left right (text ++ prefix) more pair → Loose2 × (kind ≡ roles.none)
    by_place text prefix more pair is_left is_x stops cut (still u rest' empty a b) =
        let h : u ∷ rest' ≡ [] = (nothing_between text prefix (u ∷ rest') (sym is_left ∙ a)).1 in absurd (cc)
    by_place text prefix more pair is_left is_x stops cut (also other a b value w lefts middles) =
        let same : prefix ≡ other = append_cancel_left text prefix other (a ∙ ap (λ t. t ++ other) is_left) in
        let values : x ≡ x' = value ∙ is_x in
        let tokens : middle ≡ plains marks right ++ rest = cut ∙ ap (λ t. t ++ rest) (ap (plains marks) same ∙ sym middles) in
        two_firm
        (subst (λ (z : X). Stops (stop1 z) (plains marks right ++ rest)) (sym values) (subst (Stops (stop1 x')) tokens stops))
        (ap (λ (z : X). second z (plains marks right ++ rest)) values ∙ ap (second x') (sym tokens) ∙ e')

pub alike_then : {T U K X Y : Type 0} {marks : Marks T U} {roles : Roles U K} {entry : T → Bool} {S1 : X → List U → Type 0} {stop1 : X → T → Bool} {ending1 : X → K} {Loose1 : Type 0} {S2 : X → Y → List U → Type 0} {stop2 : X → Y → T → Bool} {first : Parser T K X}
    → Roled marks roles entry S1 stop1 ending1 Loose1 first → Joins marks S1 stop1 S2 stop2
    → (x : X) (y : Y) (left right prefix following other after : List U)
    → (Within marks left → (z : Y) (u : U) (middle piece : List U) → right ≡ u ∷ middle ++ following → S2 x z (piece ++ after) → plains marks (u ∷ middle) ≡ plains marks piece → Within marks (u ∷ middle) → Stops (stop1 x) (plains marks (u ∷ middle)) → Within marks piece) → S1 x left → S2 x y right → Pair S1 S2 other after → plains marks prefix ≡ plains marks other → Within marks prefix → Stops entry (plains marks prefix) → Cut prefix following left right → Within marks other
alike_then {T} {U} {K} {X} {Y} {marks} {roles} {entry} {S1} {stop1} {ending1} {Loose1} {S2} {stop2} {first} one joins x y left right prefix following other after two one_is two_is pair same within enters (inside middle a b) =
    let w = where_inside one.exact one.alike joins x prefix middle other after (subst (S1 x) a one_is) within pair same (subst (Stops entry) same enters) in
    one.alike x pair.x prefix middle other w.0 (subst (S1 x) a one_is) (subst (S1 pair.x) w.1 pair.first) same within enters
alike_then {T} {U} {K} {X} {Y} {marks} {roles} {entry} {S1} {stop1} {ending1} {Loose1} {S2} {stop2} {first} one joins x y left right prefix following other after two one_is two_is pair same within enters (beyond u middle a b) =
    by_place (where_beyond one.exact one.alike joins x y left (u ∷ middle) following other after one_is (subst (S2 x y) b two_is) within_one pair (sym (plains-append marks left (u ∷ middle)) ∙ ap (plains marks) (sym a) ∙ same) (subst (Stops entry) same enters))
  where
    within_both : Within marks (left ++ u ∷ middle)
    within_both = subst (Within marks) a within

    within_one : Within marks left
    within_one = within_left marks left (u ∷ middle) within_both

    by_place : Beyond marks S1 S2 x left (u ∷ middle) other after pair → Within marks other
    by_place (still v more empty c d) = absurd (cc)
    by_place (also piece c d value w lefts middles) =
        let w2 : Within marks piece = two within_one pair.y u middle piece b (subst (λ (z : X). S2 z pair.y (piece ++ after)) (sym value) (subst (S2 pair.x pair.y) d pair.second)) middles
        (within_right marks left (u ∷ middle) within_both) (prefix_stops joins x y left u (middle ++ following) (marks.plain u) one_is (subst (S2 x y) b two_is) refl) in
        subst (Within marks) (sym c) (Within-append marks pair.left piece w w2)

-- the second part may ask that the first has no token at which a limit is exceeded
pub roled-then_within : {T U K X Y : Type 0} {marks : Marks T U} {roles : Roles U K} {entry : T → Bool} {S1 : X → List U → Type 0} {stop1 : X → T → Bool} {ending1 : X → K} {Loose1 : Type 0} {S2 : X → Y → List U → Type 0} {stop2 : X → Y → T → Bool} {ending2 : X → Y → K} {Loose2 : Type 0} {first : Parser T K X} {second : X → Parser T K Y}
    → Roled marks roles entry S1 stop1 ending1 Loose1 first → ((x : X) (left : List U) → S1 x left → Within marks left → Roled marks roles (stop1 x) (S2 x) (stop2 x) (ending2 x) Loose2 (second x)) → Joins marks S1 stop1 S2 stop2 → Follows marks roles S1 stop1 ending1 Loose1 S2 ending2 Loose2 second
    → Roled marks roles entry (Then S1 S2) (stop_then stop2) (λ pair. ending2 pair.0 pair.1) Loose2 (read_then first second)
roled-then_within {T} {U} {K} {X} {Y} {marks} {roles} {entry} {S1} {stop1} {ending1} {Loose1} {S2} {stop2} {ending2} {Loose2} {first} {second} one two joins follows =
    record {
      exact = exact-then_within one.exact (λ x left is within. (two x left is within).exact) joins;
      asks = λ before kind rest enters e. asks_then one (λ x left is within. (two x left is within).asks) joins follows before kind rest enters (wrong_in first second before kind rest e);
      reports = λ value text u derives within enters n.
          let w : Within marks (derives.left ++ derives.right) = subst (Within marks) derives.cut within in
          reports_then one joins value.0 value.1 derives.left derives.right u (ending2 value.0 value.1)
          (λ stops next. (two value.0 derives.left derives.first (within_left marks derives.left derives.right w)).reports value.1 derives.right u derives.second (within_right marks derives.left derives.right w) stops next)
          (λ empty. follows.empty value.0 value.1 derives.left derives.first empty) derives.first derives.second (subst (Within marks) derives.cut within) (subst (λ t. Stops entry (plains marks t)) derives.cut enters) (subst (λ t. Next marks (Then S1 S2) (plains marks t) u) derives.cut n);
      firm = λ value text kind rest derives within enters e.
          let w : Within marks (derives.left ++ derives.right) = subst (Within marks) derives.cut within in
          firm_then one (λ x left is within. (two x left is within).asks) joins value.0 value.1 derives.left derives.right kind (plains marks text ++ rest) rest
          (λ stops e. (two value.0 derives.left derives.first (within_left marks derives.left derives.right w)).firm value.1 derives.right kind rest derives.second (within_right marks derives.left derives.right w) stops e)
          (λ loose empty. follows.loose_empty loose value.0 value.1 derives.left derives.first empty)
          (ap (λ t. plains marks t ++ rest) derives.cut) derives.first derives.second (subst (Within marks) derives.cut within) enters (wrong_in first second (plains marks text ++ rest) kind rest e);
      alike = λ x y prefix following other after s t same within enters.
          alike_then one joins x.0 x.1 s.left s.right prefix following other after
          (λ w z v middle piece c d e w2 stops. (two x.0 s.left s.first w).alike x.1 z (v ∷ middle) following piece after (subst (S2 x.0 x.1) c s.second) d e w2 stops)
          s.first s.second (pair_of y other after t) same within enters (cut_of prefix following s.left s.right s.cut);
    }

-- nothing is expected at the end of the first part, and it is firm
pub silence : {T U K X Y : Type 0} (marks : Marks T U) (roles : Roles U K) (S1 : X → List U → Type 0) (stop1 : X → T → Bool) (S2 : X → Y → List U → Type 0) (ending2 : X → Y → K) (Loose2 : Type 0) (second : X → Parser T K Y) → Follows marks roles S1 stop1 (silent roles) ⊥ S2 ending2 Loose2 second
silence marks roles S1 stop1 S2 ending2 Loose2 second =
    record { between = λ x left kind rest is stops e. inl refl; empty = λ x y left one two. inl refl; loose = λ never x left u one n. absurd never; loose_empty = λ never x y left one two. absurd never }

pub roled-then : {T U K X Y : Type 0} {marks : Marks T U} {roles : Roles U K} {entry : T → Bool} {S1 : X → List U → Type 0} {stop1 : X → T → Bool} {S2 : X → Y → List U → Type 0} {stop2 : X → Y → T → Bool} {ending2 : X → Y → K} {Loose2 : Type 0} {first : Parser T K X} {second : X → Parser T K Y}
    → Roled marks roles entry S1 stop1 (silent roles) ⊥ first → ((x : X) → Roled marks roles (stop1 x) (S2 x) (stop2 x) (ending2 x) Loose2 (second x)) → Joins marks S1 stop1 S2 stop2
    → Roled marks roles entry (Then S1 S2) (stop_then stop2) (λ pair. ending2 pair.0 pair.1) Loose2 (read_then first second)
roled-then {marks = marks} {roles = roles} {S1 = S1} {stop1 = stop1} {S2 = S2} {ending2 = ending2} {Loose2 = Loose2} {second = second} one two joins = roled-then_within one (λ x left is within. two x) joins (silence marks roles S1 stop1 S2 ending2 Loose2 second)
