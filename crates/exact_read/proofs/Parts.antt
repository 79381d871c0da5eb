-- The smaller operators are read exactly: nothing, one token, a changed value, one of two parts.
use Rattle.std.proofs.Common.{◌≡◌, Bool, true, false, List, [], ◌∷◌, ◌++◌, Ok, Err, Option, Some, None, refl, ap, sym, ◌∙◌, subst, IsTrue, cond, ◌⊎◌, inl, inr, ◌&&◌, not}
use Rattle.exact_read.specs.Reading.{LimitExceeded, Wrong, Outcome, Parser, Marks, plains, limit, Stops}
use Rattle.exact_read.specs.Exact.{IsTaken, IsWrong, Exact}
use Rattle.exact_read.specs.Whole.{IsLimitExceeded}
use Rattle.std.specs.Option.{option_map_or}
use Rattle.exact_read.specs.Grammar.{bind, anything, read_nothing, Nothing, nothing, read_one, One, read_map, Map, read_or, Or, first, second}
use Rattle.exact_read.proofs.Basics.{limit-bind, ok, err, ok_parts, err_again}

pub stops_anything : {T : Type 0} (rest : List T) → Stops anything rest
stops_anything [] = tt
stops_anything (token ∷ more) = refl

pub exact-nothing : {T U K X : Type 0} {marks : Marks T U} (test : T → Bool) (value : X) → Exact {K = K} marks test (Nothing value) (λ _. test) (read_nothing value)
exact-nothing {T} {U} {K} {X} {marks} test value =
    record {
      takes = λ before x rest enters e.
          let same : (value ≡ x) × (before ≡ rest) = ok_parts {K = K} e in
          record { text = []; cut = same.1; derives = subst (λ y. Nothing {U = U} value y []) same.0 nothing; within = tt; stops = subst (Stops test) same.1 enters };
      again = λ x text rest derives stops enters. nothing_again x text rest derives;
      wrongs = λ before kind rest enters e. absurd (cc);
      exceeds = λ before rest enters e. absurd (cc);
    }
  where
    nothing_again : (x : X) (text : List U) (rest : List T) → Nothing value x text → read_nothing {K = K} value (plains marks text ++ rest) ≡ limit marks text rest (Ok (x, rest))
    nothing_again x text rest nothing = refl

-- the same parser, for another way to say the texts, and where less is known at entry
pub exact-same : {T U K X : Type 0} {marks : Marks T U} {entry : T → Bool} {S : X → List U → Type 0} {stop : X → T → Bool} {read : Parser T K X} (entry' : T → Bool) (S' : X → List U → Type 0) (read' : Parser T K X)
    → ((token : T) → IsTrue (entry' token) → IsTrue (entry token)) → ((x : X) (text : List U) → S x text → S' x text) → ((x : X) (text : List U) → S' x text → S x text) → ((before : List T) → read' before ≡ read before)
    → Exact marks entry S stop read → Exact marks entry' S' stop read'
exact-same {T} {U} {K} {X} {marks} {entry} {S} {stop} {read} entry' S' read' enter to from same is =
    record {
      takes = λ before x rest enters e. let one = is.takes before x rest (entered before enters) (sym (same before) ∙ e) in
          record { text = one.text; cut = one.cut; derives = to x one.text one.derives; within = one.within; stops = one.stops };
      again = λ x text rest derives stops enters. same (plains marks text ++ rest) ∙ is.again x text rest (from x text derives) stops (entered (plains marks text ++ rest) enters);
      wrongs = λ before kind rest enters e. let one = is.wrongs before kind rest (entered before enters) (sym (same before) ∙ e) in
          record { prefix = one.prefix; cut = one.cut; within = one.within; value = one.value; more = one.more; derives = to one.value (one.prefix ++ one.more) one.derives; whatever = λ token old new here. same (plains marks one.prefix ++ token ∷ new) ∙ one.whatever token old new here };
      exceeds = λ before rest enters e. let one = is.exceeds before rest (entered before enters) (sym (same before) ∙ e) in
          record { prefix = one.prefix; last = one.last; following = one.following; here = one.here; cut = one.cut; within = one.within; over = one.over; value = one.value; more = one.more; derives = to one.value (one.prefix ++ one.last ∷ one.more) one.derives };
    }
  where
    entered : (before : List T) → Stops entry' before → Stops entry before
    entered [] h = tt
    entered (token ∷ more) h = enter token h

-- how the parser of one token ends
data OneEnded {T U K X : Type 0} (marks : Marks T U) (as_leaf : T → U) (class : T → Option X) (kind : K) : List T → Outcome T K X → Type 0 where
  at_end : OneEnded marks as_leaf class kind [] (Err (Wrong kind, []))
  no_class : (token : T) (more : List T) → class token ≡ None → OneEnded marks as_leaf class kind (token ∷ more) (Err (Wrong kind, token ∷ more))
  limit_exceeded : (token : T) (more : List T) (x : X) → class token ≡ Some x → marks.over (as_leaf token) ≡ true → OneEnded marks as_leaf class kind (token ∷ more) (Err (LimitExceeded, token ∷ more))
  read : (token : T) (more : List T) (x : X) → class token ≡ Some x → marks.over (as_leaf token) ≡ false → OneEnded marks as_leaf class kind (token ∷ more) (Ok (x, more))

one_ended : {T U K X : Type 0} (marks : Marks T U) (as_leaf : T → U) (class : T → Option X) (kind : K) (before : List T) → OneEnded marks as_leaf class kind before (read_one marks as_leaf class kind before)
one_ended marks as_leaf class kind [] = at_end
one_ended {T} {U} {K} {X} marks as_leaf class kind (token ∷ more) = by_class (class token) refl
  where
    by_mark : (x : X) → class token ≡ Some x → (over : Bool) → marks.over (as_leaf token) ≡ over → OneEnded marks as_leaf class kind (token ∷ more) (cond over (Err (LimitExceeded, token ∷ more)) (Ok (x, more)))
    by_mark x is true e = limit_exceeded token more x is e
    by_mark x is false e = read token more x is e

    by_class : (o : Option X) → class token ≡ o → OneEnded marks as_leaf class kind (token ∷ more) (option_map_or (λ x. cond (marks.over (as_leaf token)) (Err (LimitExceeded, token ∷ more)) (Ok (x, more))) o (Err (Wrong kind, token ∷ more)))
    by_class None e = no_class token more e
    by_class (Some x) e = by_mark x e (marks.over (as_leaf token)) refl

-- one token of a class that has a token, where placing a token keeps it
pub exact-one : {T U K X : Type 0} (marks : Marks T U) (entry : T → Bool) (as_leaf : T → U) (class : T → Option X) (kind : K) → ((token : T) → marks.plain (as_leaf token) ≡ token) → (some : T) (value : X) → class some ≡ Some value
    → Exact marks entry (One as_leaf class) (λ _. anything) (read_one marks as_leaf class kind)
exact-one {T} {U} {K} {X} marks entry as_leaf class kind keeps some value some_is =
    record {
      takes = λ before x rest enters e. taken before x rest (subst (OneEnded marks as_leaf class kind before) e (one_ended marks as_leaf class kind before));
      again = λ x text rest derives stops enters. read_again x text rest derives;
      wrongs = λ before k rest enters e. wrong before k rest (subst (OneEnded marks as_leaf class kind before) e (one_ended marks as_leaf class kind before));
      exceeds = λ before rest enters e. exceeded before rest (subst (OneEnded marks as_leaf class kind before) e (one_ended marks as_leaf class kind before));
    }
  where
    taken : (before : List T) (x : X) (rest : List T) → OneEnded marks as_leaf class kind before (Ok (x, rest)) → IsTaken marks (One as_leaf class) (λ _. anything) before x rest
    taken before x rest (read token more y is e) =
        record { text = as_leaf token ∷ []; cut = ap (λ t. t ∷ more) (sym (keeps token)); derives = record { token = token; is = is; cut = refl }; within = (e, tt); stops = stops_anything more }

    read_again : (x : X) (text : List U) (rest : List T) → One as_leaf class x text → read_one marks as_leaf class kind (plains marks text ++ rest) ≡ limit marks text rest (Ok (x, rest))
    read_again x text rest derives =
        rw (derives.cut, keeps derives.token, derives.is) refl

    wrong : (before : List T) (k : K) (rest : List T) → OneEnded marks as_leaf class kind before (Err (Wrong k, rest)) → IsWrong marks (One as_leaf class) (read_one marks as_leaf class kind) before k rest
    wrong before k rest at_end =
        record { prefix = []; cut = refl; within = tt; value = value; more = as_leaf some ∷ []; derives = record { token = some; is = some_is; cut = refl }; whatever = λ token old new here. absurd (cc) }
    wrong before k rest (no_class token more none) =
        record {
          prefix = [];
          cut = refl;
          within = tt;
          value = value;
          more = as_leaf some ∷ [];
          derives = record { token = some; is = some_is; cut = refl };
          whatever = λ t old new here. let same : token ≡ t = cc in subst (λ c. read_one marks as_leaf class kind (c ∷ new) ≡ Err (Wrong kind, c ∷ new)) same (rw none refl);
        }

    exceeded : (before rest : List T) → OneEnded marks as_leaf class kind before (Err (LimitExceeded, rest)) → IsLimitExceeded marks (One as_leaf class) before rest
    exceeded before rest (limit_exceeded token more x is over) =
        record { prefix = []; last = as_leaf token; following = more; here = ap (λ t. t ∷ more) (sym (keeps token)); cut = refl; within = tt; over = over; value = x; more = []; derives = record { token = token; is = is; cut = refl } }

-- a part with its value changed, where the new value determines where the part stops
pub exact-map : {T U K X Y : Type 0} {marks : Marks T U} {entry : T → Bool} {S : X → List U → Type 0} {stop : X → T → Bool} {read : Parser T K X} (change : X → Y) (stop' : Y → T → Bool) → ((x : X) → stop' (change x) ≡ stop x)
    → Exact marks entry S stop read → Exact marks entry (Map change S) stop' (read_map change read)
exact-map {T} {U} {K} {X} {Y} {marks} {entry} {S} {stop} {read} change stop' same is =
    record {
      takes = λ before y rest enters e. taken before enters (read before) refl y rest e;
      again = λ y text rest derives stops enters.
          ap (λ o. bind o (λ x more. Ok (change x, more))) (is.again derives.inner text rest derives.derives (subst (λ t. Stops t rest) (ap stop' derives.is ∙ same derives.inner) stops) enters)
          ∙ limit-bind marks text rest derives.inner (λ x more. Ok (change x, more))
          ∙ ap (λ v. limit marks text rest (Ok (v, rest))) (sym derives.is);
      wrongs = λ before kind rest enters e. wrong before enters (read before) refl kind rest e;
      exceeds = λ before rest enters e. exceeded before enters (read before) refl rest e;
    }
  where
    taken : (before : List T) → Stops entry before → (o : Outcome T K X) → read before ≡ o → (y : Y) (rest : List T) → bind o (λ x more. ok (change x) more) ≡ ok {T = T} {K = K} y rest → IsTaken marks (Map change S) stop' before y rest
    taken before enters (Ok (x, more)) e y rest e' =
        let one = is.takes before x more enters e in
        let parts : (change x ≡ y) × (more ≡ rest) = ok_parts {K = K} e' in
        subst (λ r. IsTaken marks (Map change S) stop' before y r) parts.1
        record {
          text = one.text;
          cut = one.cut;
          derives = record { inner = x; is = sym parts.0; derives = one.derives };
          within = one.within;
          stops = subst (λ t. Stops t more) (sym (same x) ∙ ap stop' parts.0) one.stops;
        }
    taken before enters (Err (fault, more)) e y rest e' = absurd (cc)

    wrong : (before : List T) → Stops entry before → (o : Outcome T K X) → read before ≡ o → (kind : K) (rest : List T) → bind o (λ x more. ok (change x) more) ≡ err {T = T} {K = K} (Wrong kind) rest → IsWrong marks (Map change S) (read_map change read) before kind rest
    wrong before enters (Ok (x, more)) e kind rest e' = absurd (cc)
    wrong before enters (Err (fault, more)) e kind rest e' =
        let one = is.wrongs before kind rest enters (e ∙ err_again {Y = Y} e') in
        record {
          prefix = one.prefix;
          cut = one.cut;
          within = one.within;
          value = change one.value;
          more = one.more;
          derives = record { inner = one.value; is = refl; derives = one.derives };
          whatever = λ token old new here. ap (λ o. bind o (λ x more. Ok (change x, more))) (one.whatever token old new here);
        }

    exceeded : (before : List T) → Stops entry before → (o : Outcome T K X) → read before ≡ o → (rest : List T) → bind o (λ x more. ok (change x) more) ≡ err {T = T} {K = K} LimitExceeded rest → IsLimitExceeded marks (Map change S) before rest
    exceeded before enters (Ok (x, more)) e rest e' = absurd (cc)
    exceeded before enters (Err (fault, more)) e rest e' =
        let one = is.exceeds before rest enters (e ∙ err_again {Y = Y} e') in
        record { prefix = one.prefix; last = one.last; following = one.following; here = one.here; cut = one.cut; within = one.within; over = one.over; value = change one.value; more = one.more; derives = record { inner = one.value; is = refl; derives = one.derives } }

-- where each of two parts is
pub record Apart {T U X : Type 0} (marks : Marks T U) (test : T → Bool) (S1 S2 : X → List U → Type 0) (stop : X → T → Bool) : Type 0 where
  -- the first begins with a token that passes the test
  pub first_begins : (x : X) (text : List U) → S1 x text → (u : U) × (more : List U) × (text ≡ u ∷ more) × (test (marks.plain u) ≡ true)
  -- the second, or what follows it where it is empty, begins with none
  pub second_begins : (x : X) (text : List U) (rest : List T) → S2 x text → Stops (stop x) rest → Stops (λ token. not (test token)) (plains marks text ++ rest)

-- the next token passes both tests
abbrev pub both : {T : Type 0} → (T → Bool) → (T → Bool) → T → Bool
both test1 test2 token = test1 token && test2 token

and_true : (a b : Bool) → IsTrue a → IsTrue b → IsTrue (a && b)
and_true true b x y = y
and_true false b x y = x

not_true : (b : Bool) → IsTrue (not b) → b ≡ false
not_true true x = absurd (cc)
not_true false x = refl

pub exact-or : {T U K X : Type 0} {marks : Marks T U} {entry : T → Bool} {S1 S2 : X → List U → Type 0} {stop : X → T → Bool} {one two : Parser T K X} (test : T → Bool) → Apart marks test S1 S2 stop
    → Exact marks (both entry test) S1 stop one → Exact marks (both entry (λ token. not (test token))) S2 stop two → Exact marks entry (Or S1 S2) stop (read_or test one two)
exact-or {T} {U} {K} {X} {marks} {entry} {S1} {S2} {stop} {one} {two} test apart one_is two_is =
    record {
      takes = λ before x rest enters e. taken before x rest (which before enters) e;
      again = λ x text rest derives stops enters. or_again x text rest derives stops enters;
      wrongs = λ before kind rest enters e. wrong before kind rest (which before enters) e;
      exceeds = λ before rest enters e. exceeded before rest (which before enters) e;
    }
  where
    -- which of the two reads
    picks : List T → Type 0
    picks before = (Stops (both entry test) before × (read_or test one two before ≡ one before) × ((token : T) (more : List T) → before ≡ token ∷ more → test token ≡ true)) ⊎ (Stops (both entry (λ token. not (test token))) before × (read_or test one two before ≡ two before) × ((token : T) (more : List T) → before ≡ token ∷ more → test token ≡ false))

    which_by : (token : T) (more : List T) → IsTrue (entry token) → (b : Bool) → test token ≡ b → picks (token ∷ more)
    which_by token more enters true e = inl (and_true (entry token) (test token) enters e, rw e refl, λ t m here. let same : token ≡ t = cc in ap test (sym same) ∙ e)
    which_by token more enters false e = inr (and_true (entry token) (not (test token)) enters (rw e refl), rw e refl, λ t m here. let same : token ≡ t = cc in ap test (sym same) ∙ e)

    which : (before : List T) → Stops entry before → picks before
    which [] enters = inr (tt, refl, λ t m here. absurd (cc))
    which (token ∷ more) enters = which_by token more enters (test token) refl

    taken : (before : List T) (x : X) (rest : List T) → picks before → read_or test one two before ≡ Ok (x, rest) → IsTaken marks (Or S1 S2) stop before x rest
    taken before x rest (inl p) e = let i = one_is.takes before x rest p.0 (sym p.1 ∙ e) in record { text = i.text; cut = i.cut; derives = first i.derives; within = i.within; stops = i.stops }
    taken before x rest (inr p) e = let i = two_is.takes before x rest p.0 (sym p.1 ∙ e) in record { text = i.text; cut = i.cut; derives = second i.derives; within = i.within; stops = i.stops }

    or_again : (x : X) (text : List U) (rest : List T) → Or S1 S2 x text → Stops (stop x) rest → Stops entry (plains marks text ++ rest) → read_or test one two (plains marks text ++ rest) ≡ limit marks text rest (Ok (x, rest))
    or_again x text rest (first derives) stops enters = by_first (apart.first_begins x text derives)
      where
        by_first : (u : U) × (more : List U) × (text ≡ u ∷ more) × (test (marks.plain u) ≡ true) → read_or test one two (plains marks text ++ rest) ≡ limit marks text rest (Ok (x, rest))
        by_first (u, more, cut, passes) =
            let same : plains marks text ++ rest ≡ marks.plain u ∷ plains marks more ++ rest = ap (λ t. plains marks t ++ rest) cut in
            let goes : read_or test one two (marks.plain u ∷ plains marks more ++ rest) ≡ one (marks.plain u ∷ plains marks more ++ rest) = rw passes refl in
            let opens : Stops (both entry test) (marks.plain u ∷ plains marks more ++ rest) = and_true (entry (marks.plain u)) (test (marks.plain u)) (subst (Stops entry) same enters) passes in
            ap (read_or test one two) same ∙ goes ∙ ap one (sym same) ∙ one_is.again x text rest derives stops (subst (Stops (both entry test)) (sym same) opens)
    or_again x text rest (second derives) stops enters =
        two_goes (plains marks text ++ rest) enters (apart.second_begins x text rest derives stops) (λ opens. two_is.again x text rest derives stops opens)
      where
        two_goes : (before : List T) → Stops entry before → Stops (λ token. not (test token)) before → (Stops (both entry (λ token. not (test token))) before → two before ≡ limit marks text rest (Ok (x, rest))) → read_or test one two before ≡ limit marks text rest (Ok (x, rest))
        two_goes [] a b h = h tt
        two_goes (token ∷ more) a b h = rw (not_true (test token) b) (h (and_true (entry token) (not (test token)) a b))

    first_token : (prefix : List U) (token : T) (old new : List T) (b : Bool) → ((t : T) (m : List T) → plains marks prefix ++ token ∷ old ≡ t ∷ m → test t ≡ b) → (t : T) × (m : List T) × (plains marks prefix ++ token ∷ new ≡ t ∷ m) × (test t ≡ b)
    first_token [] token old new b h = (token, new, refl, h token old refl)
    first_token (u ∷ prefix) token old new b h = (marks.plain u, plains marks prefix ++ token ∷ new, refl, h (marks.plain u) (plains marks prefix ++ token ∷ old) refl)

    wrong : (before : List T) (kind : K) (rest : List T) → picks before → read_or test one two before ≡ Err (Wrong kind, rest) → IsWrong marks (Or S1 S2) (read_or test one two) before kind rest
    wrong before kind rest (inl p) e =
        let i = one_is.wrongs before kind rest p.0 (sym p.1 ∙ e) in
        record {
          prefix = i.prefix;
          cut = i.cut;
          within = i.within;
          value = i.value;
          more = i.more;
          derives = first i.derives;
          whatever = λ token old new here.
              let f = first_token i.prefix token old new true (λ t m q. p.2 t m (i.cut ∙ ap (λ r. plains marks i.prefix ++ r) here ∙ q)) in
              let goes : read_or test one two (f.0 ∷ f.1) ≡ one (f.0 ∷ f.1) = rw f.3 refl in
              ap (read_or test one two) f.2 ∙ goes ∙ ap one (sym f.2) ∙ i.whatever token old new here;
        }
    wrong before kind rest (inr p) e =
        let i = two_is.wrongs before kind rest p.0 (sym p.1 ∙ e) in
        record {
          prefix = i.prefix;
          cut = i.cut;
          within = i.within;
          value = i.value;
          more = i.more;
          derives = second i.derives;
          whatever = λ token old new here.
              let f = first_token i.prefix token old new false (λ t m q. p.2 t m (i.cut ∙ ap (λ r. plains marks i.prefix ++ r) here ∙ q)) in
              let goes : read_or test one two (f.0 ∷ f.1) ≡ two (f.0 ∷ f.1) = rw f.3 refl in
              ap (read_or test one two) f.2 ∙ goes ∙ ap two (sym f.2) ∙ i.whatever token old new here;
        }

    exceeded : (before rest : List T) → picks before → read_or test one two before ≡ Err (LimitExceeded, rest) → IsLimitExceeded marks (Or S1 S2) before rest
    exceeded before rest (inl p) e = let i = one_is.exceeds before rest p.0 (sym p.1 ∙ e) in
        record { prefix = i.prefix; last = i.last; following = i.following; here = i.here; cut = i.cut; within = i.within; over = i.over; value = i.value; more = i.more; derives = first i.derives }
    exceeded before rest (inr p) e = let i = two_is.exceeds before rest p.0 (sym p.1 ∙ e) in
        record { prefix = i.prefix; last = i.last; following = i.following; here = i.here; cut = i.cut; within = i.within; over = i.over; value = i.value; more = i.more; derives = second i.derives }
