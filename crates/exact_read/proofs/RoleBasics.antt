-- What is expected, and the smaller operators: nothing, one token, a changed value, another way to say it.
use Rattle.std.proofs.Common.{◌≡◌, ◌⊎◌, inl, inr, Bool, true, false, List, [], ◌∷◌, ◌++◌, Ok, Err, Option, Some, None, refl, ap, sym, ◌∙◌, subst, IsTrue, cond}
use Rattle.std.specs.Option.{option_map_or}
use Rattle.exact_read.specs.Reading.{LimitExceeded, Wrong, Outcome, Parser, Marks, plains, Within, Stops}
use Rattle.exact_read.specs.Grammar.{bind, anything, read_nothing, Nothing, nothing, read_one, One, read_map, Map}
use Rattle.exact_read.proofs.Basics.{ok, err, err_parts, err_again}
use Rattle.exact_read.proofs.Parts.{exact-nothing, exact-one, exact-map, exact-same}
use Rattle.exact_read.proofs.Stop.{exact-stop}
use Rattle.exact_read.specs.Roles.{IsAsked, Roled, silent}
use Rattle.exact_read.specs.Expected.{Roles, Next, Reported, Asked}

-- one kind is expected where another is, or nothing is
abbrev pub Meets : {U K : Type 0} → Roles U K → (reported wanted : K) → Type 0
Meets roles reported wanted = (reported ≡ roles.none) ⊎ (reported ≡ wanted)

pub reported_as : {U K : Type 0} (roles : Roles U K) (u : U) (reported wanted : K) → Reported roles u reported → Meets roles reported wanted → Reported roles u wanted
reported_as roles u reported wanted (inl a) (inl b) = inr (a ∙ b)
reported_as roles u reported wanted (inl a) (inr b) = inl (a ∙ b)
reported_as roles u reported wanted (inr a) m = inr a

-- what is asked is one kind
pub asked_once : {T U K X : Type 0} {marks : Marks T U} {roles : Roles U K} {S : X → List U → Type 0} {prefix : List T} (one two : K) → Asked marks roles S prefix one → Asked marks roles S prefix two → one ≡ two
asked_once {T} {U} {K} {X} {marks} {roles} {S} {prefix} one two a b = by_said a.asked b.asked
  where
    agree : (u : U) → roles.role u ≡ one → Reported roles u two → (one ≡ two) ⊎ (one ≡ roles.none)
    agree u is (inl e) = inl (sym is ∙ e)
    agree u is (inr e) = inr (sym is ∙ e)

    settle : (one ≡ two) ⊎ (one ≡ roles.none) → (two ≡ one) ⊎ (two ≡ roles.none) → one ≡ two
    settle (inl e) other = e
    settle (inr e) (inl f) = sym f
    settle (inr e) (inr f) = e ∙ sym f

    agree_two : (u : U) → roles.role u ≡ two → Reported roles u one → (two ≡ one) ⊎ (two ≡ roles.none)
    agree_two u is (inl e) = inl (sym is ∙ e)
    agree_two u is (inr e) = inr (sym is ∙ e)

    by_said : (one ≡ roles.none) ⊎ ((u : U) × Next marks S prefix u × (roles.role u ≡ one)) → (two ≡ roles.none) ⊎ ((u : U) × Next marks S prefix u × (roles.role u ≡ two)) → one ≡ two
    by_said (inl e) (inl f) = e ∙ sym f
    by_said (inl e) (inr n) = settle (inr e) (agree_two n.0 n.2 (a.agreed n.0 n.1))
    by_said (inr n) (inl f) = settle (agree n.0 n.2 (b.agreed n.0 n.1)) (inr f)
    by_said (inr n) (inr k) = settle (agree n.0 n.2 (b.agreed n.0 n.1)) (agree_two k.0 k.2 (a.agreed k.0 k.1))

-- a text goes on in one grammar where it does in another
pub next_same : {T U X : Type 0} {marks : Marks T U} {S S' : X → List U → Type 0} (to : (x : X) (text : List U) → S x text → S' x text) (prefix : List T) (u : U) → Next marks S prefix u → Next marks S' prefix u
next_same to prefix u n = record { value = n.value; before = n.before; more = n.more; derives = to n.value _ n.derives; same = n.same }

pub roled-same : {T U K X : Type 0} {marks : Marks T U} {roles : Roles U K} {entry : T → Bool} {S : X → List U → Type 0} {stop : X → T → Bool} {ending : X → K} {Loose : Type 0} {read : Parser T K X} (entry' : T → Bool) (S' : X → List U → Type 0) (read' : Parser T K X)
    → ((token : T) → IsTrue (entry' token) → IsTrue (entry token)) → ((x : X) (text : List U) → S x text → S' x text) → ((x : X) (text : List U) → S' x text → S x text) → ((before : List T) → read' before ≡ read before)
    → Roled marks roles entry S stop ending Loose read → Roled marks roles entry' S' stop ending Loose read'
roled-same {T} {U} {K} {X} {marks} {roles} {entry} {S} {stop} {ending} {Loose} {read} entry' S' read' enter to from same is =
    record {
      exact = exact-same entry' S' read' enter to from same is.exact;
      asks = λ before kind rest enters e.
          let a = is.asks before kind rest (entered before enters) (sym (same before) ∙ e) in
          record {
            prefix = a.prefix;
            cut = a.cut;
            within = a.within;
            value = a.value;
            more = a.more;
            derives = to a.value (a.prefix ++ a.more) a.derives;
            asked = record {
              agreed = λ u n. a.asked.agreed u (next_same from (plains marks a.prefix) u n);
              asked = elim a.asked.asked [ inl h ↦ inl h | inr n ↦ inr (n.0, next_same to (plains marks a.prefix) n.0 n.1, n.2) ];
            };
          };
      reports = λ x text u derives within enters n. is.reports x text u (from x text derives) within (entered (plains marks text) enters) (next_same from (plains marks text) u n);
      firm = λ x text kind rest derives within enters e. is.firm x text kind rest (from x text derives) within (entered (plains marks text ++ rest) enters) (sym (same (plains marks text ++ rest)) ∙ e);
      alike = λ x y one following two after s t e within enters. is.alike x y one following two after (from x (one ++ following) s) (from y (two ++ after) t) e within (entered (plains marks one) enters);
    }
  where
    entered : (before : List T) → Stops entry' before → Stops entry before
    entered [] h = tt
    entered (token ∷ more) h = enter token h

-- the same parser, said to stop elsewhere where that is the same for each of its values
pub roled-stop : {T U K X : Type 0} {marks : Marks T U} {roles : Roles U K} {entry : T → Bool} {S : X → List U → Type 0} {stop : X → T → Bool} {ending : X → K} {Loose : Type 0} {read : Parser T K X} (stop' : X → T → Bool) → ((x : X) (text : List U) → S x text → (token : T) → stop x token ≡ stop' x token)
    → Roled marks roles entry S stop ending Loose read → Roled marks roles entry S stop' ending Loose read
roled-stop stop' same is = record { exact = exact-stop stop' same is.exact; asks = is.asks; reports = is.reports; firm = is.firm; alike = is.alike }

-- where more is known at entry
pub roled-enter : {T U K X : Type 0} {marks : Marks T U} {roles : Roles U K} {S : X → List U → Type 0} {stop : X → T → Bool} {ending : X → K} {Loose : Type 0} {read : Parser T K X} (entry : T → Bool) → Roled marks roles anything S stop ending Loose read → Roled marks roles entry S stop ending Loose read
roled-enter {S = S} {read = read} entry is = roled-same entry S read (λ token h. refl) (λ x text h. h) (λ x text h. h) (λ before. refl) is

pub roled-nothing : {T U K X : Type 0} {marks : Marks T U} {roles : Roles U K} (test : T → Bool) (value : X) → Roled {K = K} marks roles test (Nothing value) (λ _. test) (silent roles) ⊥ (read_nothing value)
roled-nothing {T} {U} {K} {X} {marks} {roles} test value =
    record {
      exact = exact-nothing test value;
      asks = λ before kind rest enters e. absurd (cc);
      reports = λ x text u derives within enters n. absurd (no_text (n.before ++ u ∷ n.more) n.value n.derives n.before u n.more refl);
      firm = λ x text kind rest derives within enters e. absurd (cc);
      alike = λ x y one following two after s t e within enters. subst (Within marks) (sym (empty_prefix two after (nothing_text y (two ++ after) t))) tt;
    }
  where
    nothing_text : (y : X) (text : List U) → Nothing value y text → text ≡ []
    nothing_text y text nothing = refl

    empty_prefix : (left right : List U) → left ++ right ≡ [] → left ≡ []
    empty_prefix [] right e = refl
    empty_prefix (u ∷ left) right e = absurd (cc)

    no_text : (text : List U) (y : X) → Nothing value y text → (before : List U) (u : U) (more : List U) → text ≡ before ++ u ∷ more → ⊥
    no_text text y m [] u more e = let h : u ∷ more ≡ [] = sym e ∙ nothing_text y text m in cc
    no_text text y m (v ∷ before) u more e = let h : v ∷ (before ++ u ∷ more) ≡ [] = sym e ∙ nothing_text y text m in cc

-- one token of a class, placed with the role by which another is called wrong
pub roled-one : {T U K X : Type 0} (marks : Marks T U) (roles : Roles U K) (entry : T → Bool) (as_leaf : T → U) (class : T → Option X) (kind : K) → ((token : T) → marks.plain (as_leaf token) ≡ token) → ((token : T) → roles.role (as_leaf token) ≡ kind) → (some : T) (value : X) → class some ≡ Some value
    → Roled marks roles entry (One as_leaf class) (λ _. anything) (silent roles) ⊥ (read_one marks as_leaf class kind)
roled-one {T} {U} {K} {X} marks roles entry as_leaf class kind keeps says some value some_is =
    record {
      exact = exact-one marks entry as_leaf class kind keeps some value some_is;
      asks = λ before k rest enters e. asks_at before k rest (wrong_at before k rest e);
      reports = λ x text u derives within enters n. absurd (longer text derives.token n.value derives.cut n.before n.more u n.derives n.same);
      firm = λ x text k rest derives within enters e. absurd (firm_at x derives.token k rest derives.is (subst (λ t. read_one marks as_leaf class kind (plains marks t ++ rest) ≡ err (Wrong k) rest) derives.cut e));
      alike = λ x y one following two after s t e within enters. alike_at one following two after s.token t.token s.cut t.cut e within;
    }
  where
    wrong_at : (before : List T) (k : K) (rest : List T) → read_one marks as_leaf class kind before ≡ err (Wrong k) rest → (k ≡ kind) × (before ≡ rest)
    wrong_at [] k rest e = let p = err_parts {X = X} e in let f : Wrong kind ≡ Wrong k = p.0 in (cc, p.1)
    wrong_at (token ∷ more) k rest e = by_class (class token) e
      where
        by_mark : (x : X) (b : Bool) → cond b (err LimitExceeded (token ∷ more)) (ok x more) ≡ err (Wrong k) rest → (k ≡ kind) × (token ∷ more ≡ rest)
        by_mark x true e = let p : LimitExceeded ≡ Wrong k = (err_parts {X = X} e).0 in absurd (cc)
        by_mark x false e = absurd (cc)

        by_class : (o : Option X) → option_map_or (λ x. cond (marks.over (as_leaf token)) (err LimitExceeded (token ∷ more)) (ok x more)) o (err (Wrong kind) (token ∷ more)) ≡ err (Wrong k) rest → (k ≡ kind) × (token ∷ more ≡ rest)
        by_class None e = let p = err_parts {X = X} e in let f : Wrong kind ≡ Wrong k = p.0 in (cc, p.1)
        by_class (Some x) e = by_mark x (marks.over (as_leaf token)) e

    first_leaf : (before : List U) (u : U) (more : List U) (token : T) → plains marks before ≡ [] → before ++ u ∷ more ≡ as_leaf token ∷ [] → u ≡ as_leaf token
    first_leaf [] u more token none e = cc
    first_leaf (v ∷ before) u more token none e = absurd (cc)

    asks_at : (before : List T) (k : K) (rest : List T) → (k ≡ kind) × (before ≡ rest) → IsAsked marks roles (One as_leaf class) before k rest
    asks_at before k rest h =
        record {
          prefix = [];
          cut = h.1;
          within = tt;
          value = value;
          more = as_leaf some ∷ [];
          derives = record { token = some; is = some_is; cut = refl };
          asked = record {
            agreed = λ u n. inl (ap roles.role (first_leaf n.before u n.more n.derives.token n.same n.derives.cut) ∙ says n.derives.token ∙ sym h.0);
            asked = inr (as_leaf some, record { value = value; before = []; more = []; derives = record { token = some; is = some_is; cut = refl }; same = refl }, says some ∙ sym h.0);
          };
        }

    longer : (text : List U) (token : T) (x : X) → text ≡ as_leaf token ∷ [] → (before more : List U) (u : U) → One as_leaf class x (before ++ u ∷ more) → plains marks before ≡ plains marks text → ⊥
    longer text token x cut before more u o same = two_leaves before more u o.token o.cut (same ∙ ap (plains marks) cut)
      where
        two_leaves : (before more : List U) (u : U) (t : T) → before ++ u ∷ more ≡ as_leaf t ∷ [] → plains marks before ≡ marks.plain (as_leaf token) ∷ [] → ⊥
        two_leaves [] more u t e f = cc
        two_leaves (v ∷ []) more u t e f = cc
        two_leaves (v ∷ w ∷ before) more u t e f = cc

    firm_at : (x : X) (token : T) (k : K) (rest : List T) → class token ≡ Some x → read_one marks as_leaf class kind (marks.plain (as_leaf token) ∷ rest) ≡ err (Wrong k) rest → ⊥
    firm_at x token k rest is e = by_mark (marks.over (as_leaf token)) (subst (λ o. option_map_or (λ x. cond (marks.over (as_leaf token)) (err LimitExceeded (token ∷ rest)) (ok x rest)) o (err (Wrong kind) (token ∷ rest)) ≡ err (Wrong k) rest) is (subst (λ t. read_one marks as_leaf class kind (t ∷ rest) ≡ err (Wrong k) rest) (keeps token) e))
      where
        by_mark : (b : Bool) → cond b (err LimitExceeded (token ∷ rest)) (ok x rest) ≡ err (Wrong k) rest → ⊥
        by_mark true e = let p : LimitExceeded ≡ Wrong k = (err_parts {X = X} e).0 in cc
        by_mark false e = cc

    alike_at : (one following two after : List U) (s t : T) → one ++ following ≡ as_leaf s ∷ [] → two ++ after ≡ as_leaf t ∷ [] → plains marks one ≡ plains marks two → Within marks one → Within marks two
    alike_at one following [] after s t a b e within = tt
    alike_at [] following (v ∷ two) after s t a b e within = absurd (cc)
    alike_at (u ∷ one) following (v ∷ two) after s t a b e within =
        let first : u ≡ as_leaf s = cc in
        let second : v ≡ as_leaf t = cc in
        let none : two ++ after ≡ [] = cc in
        let tokens : marks.plain u ≡ marks.plain v = cc in
        let same : s ≡ t = sym (keeps s) ∙ ap marks.plain (sym first) ∙ tokens ∙ ap marks.plain second ∙ keeps t in
        let leaves : u ≡ v = first ∙ ap as_leaf same ∙ sym second in
        (ap marks.over (sym leaves) ∙ within.0, subst (Within marks) (sym (empty_prefix two after none)) tt)
      where
        empty_prefix : (left right : List U) → left ++ right ≡ [] → left ≡ []
        empty_prefix [] right e = refl
        empty_prefix (u ∷ left) right e = absurd (cc)

-- a part with its value changed, where the new value determines where the part stops and what is expected at its end
pub roled-map : {T U K X Y : Type 0} {marks : Marks T U} {roles : Roles U K} {entry : T → Bool} {S : X → List U → Type 0} {stop : X → T → Bool} {ending : X → K} {Loose : Type 0} {read : Parser T K X} (change : X → Y) (stop' : Y → T → Bool) (ending' : Y → K) → ((x : X) → stop' (change x) ≡ stop x) → ((x : X) → Meets roles (ending x) (ending' (change x)))
    → Roled marks roles entry S stop ending Loose read → Roled marks roles entry (Map change S) stop' ending' Loose (read_map change read)
roled-map {T} {U} {K} {X} {Y} {marks} {roles} {entry} {S} {stop} {ending} {Loose} {read} change stop' ending' same ends is =
    record {
      exact = exact-map change stop' same is.exact;
      asks = λ before kind rest enters e.
          let a = is.asks before kind rest enters (map_wrong (read before) kind rest e) in
          record {
            prefix = a.prefix;
            cut = a.cut;
            within = a.within;
            value = change a.value;
            more = a.more;
            derives = record { inner = a.value; is = refl; derives = a.derives };
            asked = record {
              agreed = λ u n. a.asked.agreed u (next_inner (plains marks a.prefix) u n);
              asked = elim a.asked.asked [ inl h ↦ inl h | inr n ↦ inr (n.0, record { value = change n.1.value; before = n.1.before; more = n.1.more; derives = record { inner = n.1.value; is = refl; derives = n.1.derives }; same = n.1.same }, n.2) ];
            };
          };
      reports = λ y text u derives within enters n.
          reported_as roles u (ending derives.inner) (ending' y) (is.reports derives.inner text u derives.derives within enters (next_inner (plains marks text) u n))
          (subst (λ k. Meets roles (ending derives.inner) k) (ap ending' (sym derives.is)) (ends derives.inner));
      firm = λ y text kind rest derives within enters e. is.firm derives.inner text kind rest derives.derives within enters (map_wrong (read (plains marks text ++ rest)) kind rest e);
      alike = λ x y one following two after s t e within enters. is.alike s.inner t.inner one following two after s.derives t.derives e within enters;
    }
  where
    map_wrong : (o : Outcome T K X) (kind : K) (rest : List T) → bind o (λ x more. ok (change x) more) ≡ err {T = T} {K = K} (Wrong kind) rest → o ≡ err {T = T} {K = K} {X = X} (Wrong kind) rest
    map_wrong (Ok (x, more)) kind rest e = absurd (cc)
    map_wrong (Err (fault, more)) kind rest e = err_again {Y = Y} e

    next_inner : (prefix : List T) (u : U) → Next marks (Map change S) prefix u → Next marks S prefix u
    next_inner prefix u n = record { value = n.derives.inner; before = n.before; more = n.more; derives = n.derives.derives; same = n.same }
