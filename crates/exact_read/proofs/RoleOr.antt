-- One of two parts, chosen by the next token, keeps roles.
use Rattle.std.proofs.Common.{◌≡◌, inl, inr, Bool, true, false, List, [], ◌∷◌, ◌++◌, refl, ap, sym, ◌∙◌, subst, IsTrue, append-nil, not, ◌&&◌}
use Rattle.exact_read.specs.Reading.{Wrong, Parser, Marks, plains, Within, Stops}
use Rattle.exact_read.specs.Exact.{Exact}
use Rattle.exact_read.specs.Grammar.{read_or, Or, first, second}
use Rattle.exact_read.proofs.Basics.{err}
use Rattle.exact_read.proofs.Parts.{Apart, both, exact-or}
use Rattle.exact_read.specs.Roles.{IsAsked, Roled}
use Rattle.exact_read.specs.Expected.{Roles, Next, Reported, Asked}
use Rattle.exact_read.proofs.RoleLists.{no_tokens}
use Rattle.exact_read.proofs.RoleBegins.{Begins, Silent, begun_enters, silent_next}

-- what is asked of a choice: a token that passes the test begins the first part; what begins the first part has the
-- role that is expected where the second begins, or at its end where it is empty, or none
pub record Chooses {T U K X : Type 0} (marks : Marks T U) (roles : Roles U K) (entry test : T → Bool) (S1 S2 : X → List U → Type 0) (ending : X → K) (one two : Parser T K X) : Type 0 where
  pub enters : (token : T) (more : List T) (kind : K) → IsTrue (both entry test token) → one (token ∷ more) ≡ err {X = X} (Wrong kind) (token ∷ more) → ⊥
  pub begins : (u : U) (before : List T) (kind : K) → Next marks S1 [] u → Stops (both entry (λ token. not (test token))) before → two before ≡ err {X = X} (Wrong kind) before → Reported roles u kind
  pub empty : (x : X) (u : U) → S2 x [] → Next marks S1 [] u → Reported roles u (ending x)

and_both : (a b : Bool) → IsTrue a → b ≡ true → IsTrue (a && b)
and_both true b x e = subst IsTrue (sym e) refl
and_both false b x e = absurd (cc)

and_not : (a b : Bool) → IsTrue a → b ≡ false → IsTrue (a && not b)
and_not true b x e = subst (λ c. IsTrue (not c)) (sym e) refl
and_not false b x e = absurd (cc)

is_false : (b : Bool) → IsTrue (not b) → b ≡ false
is_false true h = absurd (cc)
is_false false h = refl

-- which of the two reads
pub data Reads {T K X : Type 0} (entry test : T → Bool) (one two : Parser T K X) : List T → Type 0 where
  by_one : (token : T) (more : List T) → test token ≡ true → IsTrue (both entry test token) → read_or test one two (token ∷ more) ≡ one (token ∷ more) → Reads entry test one two (token ∷ more)
  by_two : (before : List T) → Stops (λ token. not (test token)) before → Stops (both entry (λ token. not (test token))) before → read_or test one two before ≡ two before → Reads entry test one two before

and_right : (a b : Bool) → IsTrue (a && b) → b ≡ true
and_right true true h = refl
and_right true false h = absurd (cc)
and_right false b h = absurd (cc)

reads : {T K X : Type 0} (entry test : T → Bool) (one two : Parser T K X) (before : List T) → Stops entry before → Reads entry test one two before
reads entry test one two [] enters = by_two [] tt tt refl
reads {T} {K} {X} entry test one two (token ∷ more) enters = by_test (test token) refl
  where
    by_test : (b : Bool) → test token ≡ b → Reads entry test one two (token ∷ more)
    by_test true e = by_one token more e (and_both (entry token) (test token) enters e) (rw e refl)
    by_test false e = by_two (token ∷ more) (rw e refl) (and_not (entry token) (test token) enters e) (rw e refl)

pub roled-or : {T U K X : Type 0} {marks : Marks T U} {roles : Roles U K} {entry : T → Bool} {S1 S2 : X → List U → Type 0} {stop : X → T → Bool} {ending : X → K} {Loose : Type 0} {one two : Parser T K X} (test : T → Bool) → Apart marks test S1 S2 stop → Chooses marks roles entry test S1 S2 ending one two
    → Roled marks roles (both entry test) S1 stop ending Loose one → Roled marks roles (both entry (λ token. not (test token))) S2 stop ending Loose two → Roled marks roles entry (Or S1 S2) stop ending Loose (read_or test one two)
roled-or {T} {U} {K} {X} {marks} {roles} {entry} {S1} {S2} {stop} {ending} {Loose} {one} {two} test apart chooses one_is two_is =
    record {
      exact = exact-or test apart one_is.exact two_is.exact;
      asks = λ before kind rest enters e. asks_by before kind rest (reads entry test one two before enters) e;
      reports = λ x text u derives within enters n. reports_by x text u derives within enters n.value n.before n.more n.derives n.same;
      firm = λ x text kind rest derives within enters e. firm_by x text kind rest derives within enters e;
      alike = λ x y prefix following other after s t same within enters. alike_by x y prefix following other after s t same within enters;
    }
  where
    first_passes : (x : X) (u : U) (more : List U) → S1 x (u ∷ more) → test (marks.plain u) ≡ true
    first_passes x u more is =
        let b = apart.first_begins x (u ∷ more) is in
        let head : u ≡ b.0 = (let e : u ∷ more ≡ b.0 ∷ b.1 = b.2 in cc) in ap (λ w. test (marks.plain w)) head ∙ b.3

    first_some : (x : X) → S1 x [] → ⊥
    first_some x is = let b = apart.first_begins x [] is in let e : [] ≡ b.0 ∷ b.1 = b.2 in cc

    second_fails : (x : X) (u : U) (more : List U) → S2 x (u ∷ more) → test (marks.plain u) ≡ false
    second_fails x u more is = is_false (test (marks.plain u)) (apart.second_begins x (u ∷ more) [] is tt)

    mixed : (u v : U) → marks.plain u ≡ marks.plain v → test (marks.plain u) ≡ true → test (marks.plain v) ≡ false → ⊥
    mixed u v same a b = let e : true ≡ false = sym a ∙ ap test same ∙ b in cc

    to_first : (prefix : List T) (u : U) → Next marks S1 prefix u → Next marks (Or S1 S2) prefix u
    to_first prefix u n = record { value = n.value; before = n.before; more = n.more; derives = first n.derives; same = n.same }

    to_second : (prefix : List T) (u : U) → Next marks S2 prefix u → Next marks (Or S1 S2) prefix u
    to_second prefix u n = record { value = n.value; before = n.before; more = n.more; derives = second n.derives; same = n.same }

    -- after a prefix of the first
    agreed_one : (token : T) (following : List T) (kind : K) (rest : List T) (prefix : List U) → test token ≡ true → IsTrue (both entry test token) → one (token ∷ following) ≡ err {X = X} (Wrong kind) rest → token ∷ following ≡ plains marks prefix ++ rest → Asked marks roles S1 (plains marks prefix) kind → (u : U) (y : X) (before more : List U) → Or S1 S2 y (before ++ u ∷ more) → plains marks before ≡ plains marks prefix → Reported roles u kind
    agreed_one token following kind rest prefix passes opens e cut asked u y before more (first s) same = asked.agreed u (record { value = y; before = before; more = more; derives = s; same = same })
    agreed_one token following kind rest [] passes opens e cut asked u y before more (second s) same = absurd (chooses.enters token following kind opens (e ∙ ap (λ r. err {X = X} (Wrong kind) r) (sym cut)))
    agreed_one token following kind rest (v ∷ prefix) passes opens e cut asked u y [] more (second s) same = absurd (cc)
    agreed_one token following kind rest (v ∷ prefix) passes opens e cut asked u y (w ∷ before) more (second s) same =
        let tokens : token ≡ marks.plain v = (let c : token ∷ following ≡ marks.plain v ∷ (plains marks prefix ++ rest) = cut in cc) in
        let leaves : marks.plain v ≡ marks.plain w = cc in
        absurd (mixed v w leaves (ap test (sym tokens) ∙ passes) (second_fails y w (before ++ u ∷ more) s))

    -- after a prefix of the second
    agreed_two : (all : List T) (kind : K) (rest : List T) (prefix : List U) → Stops (λ token. not (test token)) all → Stops (both entry (λ token. not (test token))) all → two all ≡ err {X = X} (Wrong kind) rest → all ≡ plains marks prefix ++ rest → Asked marks roles S2 (plains marks prefix) kind → (u : U) (y : X) (before more : List U) → Or S1 S2 y (before ++ u ∷ more) → plains marks before ≡ plains marks prefix → Reported roles u kind
    agreed_two all kind rest prefix fails enters e cut asked u y before more (second s) same = asked.agreed u (record { value = y; before = before; more = more; derives = s; same = same })
    agreed_two all kind rest [] fails enters e cut asked u y [] more (first s) same = chooses.begins u all kind (record { value = y; before = []; more = more; derives = s; same = refl }) enters (e ∙ ap (λ r. err {X = X} (Wrong kind) r) (sym cut))
    agreed_two all kind rest [] fails enters e cut asked u y (w ∷ before) more (first s) same = absurd (cc)
    agreed_two all kind rest (v ∷ prefix) fails enters e cut asked u y [] more (first s) same = absurd (cc)
    agreed_two all kind rest (v ∷ prefix) fails enters e cut asked u y (w ∷ before) more (first s) same =
        let leaves : marks.plain w ≡ marks.plain v = cc in
        absurd (mixed w v leaves (first_passes y w (before ++ u ∷ more) s) (is_false (test (marks.plain v)) (subst (Stops (λ token. not (test token))) cut fails)))

    asks_by : (before : List T) (kind : K) (rest : List T) → Reads entry test one two before → read_or test one two before ≡ err {X = X} (Wrong kind) rest → IsAsked marks roles (Or S1 S2) before kind rest
    asks_by before kind rest (by_one token more passes opens goes) e =
        let a = one_is.asks (token ∷ more) kind rest opens (sym goes ∙ e) in
        record {
          prefix = a.prefix;
          cut = a.cut;
          within = a.within;
          value = a.value;
          more = a.more;
          derives = first a.derives;
          asked = record {
            agreed = λ u n. agreed_one token more kind rest a.prefix passes opens (sym goes ∙ e) a.cut a.asked u n.value n.before n.more n.derives n.same;
            asked = elim a.asked.asked [ inl h ↦ inl h | inr m ↦ inr (m.0, to_first (plains marks a.prefix) m.0 m.1, m.2) ];
          };
        }
    asks_by before kind rest (by_two all fails opens goes) e =
        let a = two_is.asks all kind rest opens (sym goes ∙ e) in
        record {
          prefix = a.prefix;
          cut = a.cut;
          within = a.within;
          value = a.value;
          more = a.more;
          derives = second a.derives;
          asked = record {
            agreed = λ u n. agreed_two all kind rest a.prefix fails opens (sym goes ∙ e) a.cut a.asked u n.value n.before n.more n.derives n.same;
            asked = elim a.asked.asked [ inl h ↦ inl h | inr m ↦ inr (m.0, to_second (plains marks a.prefix) m.0 m.1, m.2) ];
          };
        }

    enters_one : (x : X) (text : List U) (rest : List T) → S1 x text → Stops entry (plains marks text ++ rest) → Stops (both entry test) (plains marks text ++ rest)
    enters_one x [] rest is enters = absurd (first_some x is)
    enters_one x (u ∷ text) rest is enters = and_both (entry (marks.plain u)) (test (marks.plain u)) enters (first_passes x u text is)

    enters_two : (x : X) (text : List U) → S2 x text → Stops entry (plains marks text) → Stops (both entry (λ token. not (test token))) (plains marks text)
    enters_two x [] is enters = tt
    enters_two x (u ∷ text) is enters = and_not (entry (marks.plain u)) (test (marks.plain u)) enters (second_fails x u text is)

    reports_by : (x : X) (text : List U) (u : U) → Or S1 S2 x text → Within marks text → Stops entry (plains marks text) → (y : X) (before more : List U) → Or S1 S2 y (before ++ u ∷ more) → plains marks before ≡ plains marks text → Reported roles u (ending x)
    reports_by x text u (first s) within enters y before more (first t) same =
        one_is.reports x text u s within (subst (Stops (both entry test)) (append-nil (plains marks text)) (enters_one x text [] s (subst (Stops entry) (sym (append-nil (plains marks text))) enters))) (record { value = y; before = before; more = more; derives = t; same = same })
    reports_by x text u (second s) within enters y before more (second t) same =
        two_is.reports x text u s within (enters_two x text s enters) (record { value = y; before = before; more = more; derives = t; same = same })
    reports_by x [] u (first s) within enters y before more (second t) same = absurd (first_some x s)
    reports_by x (v ∷ text) u (first s) within enters y [] more (second t) same = absurd (cc)
    reports_by x (v ∷ text) u (first s) within enters y (w ∷ before) more (second t) same =
        let leaves : marks.plain v ≡ marks.plain w = cc in absurd (mixed v w leaves (first_passes x v text s) (second_fails y w (before ++ u ∷ more) t))
    reports_by x [] u (second s) within enters y [] more (first t) same = chooses.empty x u s (record { value = y; before = []; more = more; derives = t; same = refl })
    reports_by x [] u (second s) within enters y (w ∷ before) more (first t) same = absurd (cc)
    reports_by x (v ∷ text) u (second s) within enters y [] more (first t) same = absurd (cc)
    reports_by x (v ∷ text) u (second s) within enters y (w ∷ before) more (first t) same =
        let leaves : marks.plain w ≡ marks.plain v = cc in absurd (mixed w v leaves (first_passes y w (before ++ u ∷ more) t) (second_fails x v text s))

    firm_by : (x : X) (text : List U) (kind : K) (rest : List T) → Or S1 S2 x text → Within marks text → Stops entry (plains marks text ++ rest) → read_or test one two (plains marks text ++ rest) ≡ err {X = X} (Wrong kind) rest → Loose × (kind ≡ roles.none)
    firm_by x [] kind rest (first s) within enters e = absurd (first_some x s)
    firm_by x (u ∷ text) kind rest (first s) within enters e =
        let goes : read_or test one two (plains marks (u ∷ text) ++ rest) ≡ one (plains marks (u ∷ text) ++ rest) = rw (first_passes x u text s) refl in
        one_is.firm x (u ∷ text) kind rest s within (enters_one x (u ∷ text) rest s enters) (sym goes ∙ e)
    firm_by x (u ∷ text) kind rest (second s) within enters e =
        let goes : read_or test one two (plains marks (u ∷ text) ++ rest) ≡ two (plains marks (u ∷ text) ++ rest) = rw (second_fails x u text s) refl in
        two_is.firm x (u ∷ text) kind rest s within (and_not (entry (marks.plain u)) (test (marks.plain u)) enters (second_fails x u text s)) (sym goes ∙ e)
    firm_by x [] kind rest (second s) within enters e = by_rest rest (reads entry test one two rest enters) e
      where
        by_rest : (rest : List T) → Reads entry test one two rest → read_or test one two rest ≡ err {X = X} (Wrong kind) rest → Loose × (kind ≡ roles.none)
        by_rest rest (by_one token more passes opens goes) e = absurd (chooses.enters token more kind opens (sym goes ∙ e))
        by_rest rest (by_two all fails opens goes) e = two_is.firm x [] kind all s tt opens (sym goes ∙ e)

    alike_by : (x y : X) (prefix following other after : List U) → Or S1 S2 x (prefix ++ following) → Or S1 S2 y (other ++ after) → plains marks prefix ≡ plains marks other → Within marks prefix → Stops entry (plains marks prefix) → Within marks other
    alike_by x y [] following other after s t same within enters = subst (Within marks) (sym (no_tokens marks other (sym same))) tt
    alike_by x y (u ∷ prefix) following [] after s t same within enters = tt
    alike_by x y (u ∷ prefix) following (v ∷ other) after (first s) (first t) same within enters =
        one_is.alike x y (u ∷ prefix) following (v ∷ other) after s t same within (and_both (entry (marks.plain u)) (test (marks.plain u)) enters (first_passes x u (prefix ++ following) s))
    alike_by x y (u ∷ prefix) following (v ∷ other) after (second s) (second t) same within enters =
        two_is.alike x y (u ∷ prefix) following (v ∷ other) after s t same within (and_not (entry (marks.plain u)) (test (marks.plain u)) enters (second_fails x u (prefix ++ following) s))
    alike_by x y (u ∷ prefix) following (v ∷ other) after (first s) (second t) same within enters =
        let leaves : marks.plain u ≡ marks.plain v = cc in absurd (mixed u v leaves (first_passes x u (prefix ++ following) s) (second_fails y v (other ++ after) t))
    alike_by x y (u ∷ prefix) following (v ∷ other) after (second s) (first t) same within enters =
        let leaves : marks.plain v ≡ marks.plain u = cc in absurd (mixed v u leaves (first_passes y v (other ++ after) t) (second_fails x u (prefix ++ following) s))

-- each token that passes the test begins a text of the first part, and what begins one has no role
pub chooses_by : {T U K X : Type 0} {marks : Marks T U} {roles : Roles U K} {entry : T → Bool} {S1 S2 : X → List U → Type 0} {stop : X → T → Bool} {ending : X → K} {one two : Parser T K X} (test : T → Bool) → Exact marks (both entry test) S1 stop one
    → ((token : T) → test token ≡ true → Begins marks S1 token) → Silent marks roles S1 → Chooses marks roles entry test S1 S2 ending one two
chooses_by {entry = entry} test is begins silent =
    record {
      enters = λ token more kind opens e. begun_enters is token more kind opens (begins token (and_right (entry token) (test token) opens)) e;
      begins = λ u before kind n opens e. inr (silent_next silent u n);
      empty = λ x u s n. inr (silent_next silent u n);
    }
