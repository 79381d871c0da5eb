-- One part and then another are read exactly where each is.
use Rattle.std.proofs.Common.{◌≡◌, Bool, List, [], ◌∷◌, ◌++◌, Ok, Err, refl, ap, sym, ◌∙◌, subst, append_assoc, append-nil, ◌⊎◌, inl, inr}
use Rattle.exact_read.specs.Reading.{Fault, LimitExceeded, Wrong, Outcome, Parser, Marks, plains, Within, limit, Stops}
use Rattle.exact_read.specs.Exact.{IsTaken, IsWrong, Exact}
use Rattle.exact_read.specs.Whole.{IsLimitExceeded}
use Rattle.exact_read.specs.Grammar.{bind, read_then, Then, stop_then}
use Rattle.exact_read.proofs.Basics.{plains-two, Within-append, limit-within, bind-limit, limit-bind, Stops-other, ok}
use Rattle.exact_read.proofs.Within.{FirstOver, within_or_over, over-limit}

-- what two parts ask of each other
pub record Joins {T U X Y : Type 0} (marks : Marks T U) (S1 : X → List U → Type 0) (stop1 : X → T → Bool) (S2 : X → Y → List U → Type 0) (stop2 : X → Y → T → Bool) : Type 0 where
  -- the first part ends where the second begins
  pub ends : (x : X) (y : Y) (left right : List U) (rest : List T) → S1 x left → S2 x y right → Stops (stop2 x y) rest → Stops (stop1 x) (plains marks right ++ rest)
  -- after each first part there can be a second
  pub goes_on : (x : X) (left : List U) → S1 x left → (y : Y) × (right : List U) × S2 x y right

-- how a parser of two parts ended
data Ended {T K X Y : Type 0} (first : Parser T K X) (second : X → Parser T K Y) (before : List T) : Outcome T K (X × Y) → Type 0 where
  early : (fault : Fault K) (rest : List T) → first before ≡ Err (fault, rest) → Ended first second before (Err (fault, rest))
  late : (x : X) (middle : List T) (fault : Fault K) (rest : List T) → first before ≡ Ok (x, middle) → second x middle ≡ Err (fault, rest) → Ended first second before (Err (fault, rest))
  both : (x : X) (middle : List T) (y : Y) (rest : List T) → first before ≡ Ok (x, middle) → second x middle ≡ Ok (y, rest) → Ended first second before (Ok ((x, y), rest))

ended : {T K X Y : Type 0} (first : Parser T K X) (second : X → Parser T K Y) (before : List T) → Ended first second before (read_then first second before)
ended {T} {K} {X} {Y} first second before = by_first (first before) refl
  where
    by_second : (x : X) (middle : List T) → first before ≡ Ok (x, middle) → (o : Outcome T K Y) → second x middle ≡ o → Ended first second before (bind o (λ y rest. Ok ((x, y), rest)))
    by_second x middle e (Ok (y, rest)) e' = both x middle y rest e e'
    by_second x middle e (Err (fault, rest)) e' = late x middle fault rest e e'

    by_first : (o : Outcome T K X) → first before ≡ o → Ended first second before (bind o (λ x rest. bind (second x rest) (λ y more. Ok ((x, y), more))))
    by_first (Ok (x, middle)) e = by_second x middle e (second x middle) refl
    by_first (Err (fault, rest)) e = early fault rest e

taken_both : {T U K X Y : Type 0} {marks : Marks T U} {entry : T → Bool} {S1 : X → List U → Type 0} {stop1 : X → T → Bool} {S2 : X → Y → List U → Type 0} {stop2 : X → Y → T → Bool} {first : Parser T K X} {second : X → Parser T K Y}
    (one_is : Exact marks entry S1 stop1 first) (two_is : (x : X) (left : List U) → S1 x left → Within marks left → Exact marks (stop1 x) (S2 x) (stop2 x) (second x))
    (before : List T) (value : X × Y) (rest : List T) → Stops entry before → Ended first second before (Ok (value, rest)) → IsTaken marks (Then S1 S2) (stop_then stop2) before value rest
taken_both {marks = marks} {entry = entry} {stop1 = stop1} {first = first} {second = second} one_is two_is before value rest enters (both x middle y more e e') =
    let one = one_is.takes before x middle enters e in
    let two = (two_is x one.text one.derives one.within).takes middle y more one.stops e' in
    record {
      text = one.text ++ two.text;
      cut = one.cut ∙ ap (λ t. plains marks one.text ++ t) two.cut ∙ sym (plains-two marks one.text two.text rest);
      derives = record { left = one.text; right = two.text; cut = refl; first = one.derives; second = two.derives };
      within = Within-append marks one.text two.text one.within two.within;
      stops = two.stops;
    }

again_both : {T U K X Y : Type 0} {marks : Marks T U} {entry : T → Bool} {S1 : X → List U → Type 0} {stop1 : X → T → Bool} {S2 : X → Y → List U → Type 0} {stop2 : X → Y → T → Bool} {first : Parser T K X} {second : X → Parser T K Y}
    (one_is : Exact marks entry S1 stop1 first) (two_is : (x : X) (left : List U) → S1 x left → Within marks left → Exact marks (stop1 x) (S2 x) (stop2 x) (second x)) (joins : Joins marks S1 stop1 S2 stop2)
    (value : X × Y) (text : List U) (rest : List T) → Then S1 S2 value text → Stops (stop_then stop2 value) rest → Stops entry (plains marks text ++ rest) → read_then first second (plains marks text ++ rest) ≡ limit marks text rest (Ok (value, rest))
again_both {T} {U} {K} {X} {Y} {marks = marks} {entry = entry} {stop1 = stop1} {S2 = S2} {stop2 = stop2} {first = first} {second = second} one_is two_is joins value text rest derives stops enters =
    by_left (within_or_over marks derives.left)
  where
    ends : Stops (stop1 value.0) (plains marks derives.right ++ rest)
    ends = joins.ends value.0 value.1 derives.left derives.right rest derives.first derives.second stops

    same : plains marks text ++ rest ≡ plains marks derives.left ++ (plains marks derives.right ++ rest)
    same = ap (λ t. plains marks t ++ rest) derives.cut ∙ plains-two marks derives.left derives.right rest

    left_is : first (plains marks derives.left ++ (plains marks derives.right ++ rest)) ≡ limit marks derives.left (plains marks derives.right ++ rest) (Ok (value.0, plains marks derives.right ++ rest))
    left_is = one_is.again value.0 derives.left (plains marks derives.right ++ rest) derives.first ends (subst (Stops entry) same enters)

    next : X → Parser T K (X × Y)
    next x more = bind (second x more) (λ y after. Ok ((x, y), after))

    by_left : Within marks derives.left ⊎ FirstOver marks derives.left → read_then first second (plains marks text ++ rest) ≡ limit marks text rest (Ok (value, rest))
    by_left (inl w) =
        let right_is : second value.0 (plains marks derives.right ++ rest) ≡ limit marks derives.right rest (Ok (value.1, rest)) =
        (two_is value.0 derives.left derives.first w).again value.1 derives.right rest derives.second stops ends in
        ap (read_then first second) same
        ∙ ap (λ o. bind o (λ x more. bind (second x more) (λ y after. Ok ((x, y), after)))) left_is
        ∙ bind-limit marks derives.left derives.right rest value.0 (λ x more. bind (second x more) (λ y after. Ok ((x, y), after))) (Ok (value, rest))
        (ap (λ o. bind o (λ y after. Ok ((value.0, y), after))) right_is ∙ limit-bind marks derives.right rest value.1 (λ y after. Ok ((value.0, y), after)))
        ∙ ap (λ t. limit marks t rest (Ok (value, rest))) (sym derives.cut)
    by_left (inr f) =
        let goes : limit marks derives.left (plains marks derives.right ++ rest) (ok {K = K} value.0 (plains marks derives.right ++ rest)) ≡ Err (LimitExceeded, marks.plain f.last ∷ plains marks f.more ++ (plains marks derives.right ++ rest)) =
        ap (λ t. limit marks t (plains marks derives.right ++ rest) (ok value.0 (plains marks derives.right ++ rest))) (sym (append-nil derives.left)) ∙ over-limit marks derives.left [] (plains marks derives.right ++ rest) (ok value.0 (plains marks derives.right ++ rest)) f in
        ap (read_then first second) same
        ∙ ap (λ o. bind o (λ x more. bind (second x more) (λ y after. Ok ((x, y), after)))) (left_is ∙ goes)
        ∙ sym (over-limit marks derives.left derives.right rest (Ok (value, rest)) f)
        ∙ ap (λ t. limit marks t rest (Ok (value, rest))) (sym derives.cut)

wrong_either : {T U K X Y : Type 0} {marks : Marks T U} {entry : T → Bool} {S1 : X → List U → Type 0} {stop1 : X → T → Bool} {S2 : X → Y → List U → Type 0} {stop2 : X → Y → T → Bool} {first : Parser T K X} {second : X → Parser T K Y}
    (one_is : Exact marks entry S1 stop1 first) (two_is : (x : X) (left : List U) → S1 x left → Within marks left → Exact marks (stop1 x) (S2 x) (stop2 x) (second x)) (joins : Joins marks S1 stop1 S2 stop2)
    (before : List T) (kind : K) (rest : List T) → Stops entry before → Ended first second before (Err (Wrong kind, rest)) → IsWrong marks (Then S1 S2) (read_then first second) before kind rest
wrong_either {marks = marks} {entry = entry} {stop1 = stop1} {first = first} {second = second} one_is two_is joins before kind rest enters (early fault more e) =
    let one = one_is.wrongs before kind more enters e in
    let following = joins.goes_on one.value (one.prefix ++ one.more) one.derives in
    record {
      prefix = one.prefix;
      cut = one.cut;
      within = one.within;
      value = (one.value, following.0);
      more = one.more ++ following.1;
      derives = record { left = one.prefix ++ one.more; right = following.1; cut = sym (append_assoc one.prefix one.more following.1); first = one.derives; second = following.2 };
      whatever = λ token old new here. ap (λ o. bind o (λ x more. bind (second x more) (λ y after. Ok ((x, y), after)))) (one.whatever token old new here);
    }
wrong_either {T = T} {X = X} {marks = marks} {entry = entry} {stop1 = stop1} {first = first} {second = second} one_is two_is joins before kind rest enters (late x middle fault more e e') =
    let one = one_is.takes before x middle enters e in
    let two = (two_is x one.text one.derives one.within).wrongs middle kind more one.stops e' in
    let next = λ (v : X) (r : List T). bind (second v r) (λ y after. Ok ((v, y), after)) in
    record {
      prefix = one.text ++ two.prefix;
      cut = one.cut ∙ ap (λ t. plains marks one.text ++ t) two.cut ∙ sym (plains-two marks one.text two.prefix rest);
      within = Within-append marks one.text two.prefix one.within two.within;
      value = (x, two.value);
      more = two.more;
      derives = record { left = one.text; right = two.prefix ++ two.more; cut = append_assoc one.text two.prefix two.more; first = one.derives; second = two.derives };
      whatever = λ token old new here.
          let stops_old : Stops (stop1 x) (plains marks two.prefix ++ token ∷ old) = subst (Stops (stop1 x)) (two.cut ∙ ap (λ t. plains marks two.prefix ++ t) here) one.stops in
          let enters_old : Stops entry (plains marks (one.text ++ two.prefix) ++ token ∷ old) = subst (Stops entry) (one.cut ∙ ap (λ t. plains marks one.text ++ t) (two.cut ∙ ap (λ t. plains marks two.prefix ++ t) here) ∙ sym (plains-two marks one.text two.prefix (token ∷ old))) enters in
          let enters_new : Stops entry (plains marks one.text ++ (plains marks two.prefix ++ token ∷ new)) = subst (Stops entry) (plains-two marks one.text two.prefix (token ∷ new)) (Stops-other marks entry (one.text ++ two.prefix) token old new enters_old) in
          let one_new : first (plains marks one.text ++ (plains marks two.prefix ++ token ∷ new)) ≡ Ok (x, plains marks two.prefix ++ token ∷ new) =
          one_is.again x one.text (plains marks two.prefix ++ token ∷ new) one.derives (Stops-other marks (stop1 x) two.prefix token old new stops_old) enters_new ∙ limit-within marks one.text _ _ one.within in
          ap (read_then first second) (plains-two marks one.text two.prefix (token ∷ new))
          ∙ ap (λ o. bind o next) one_new
          ∙ ap (λ o. bind o (λ y after. Ok ((x, y), after))) (two.whatever token old new here);
    }

exceeded_either : {T U K X Y : Type 0} {marks : Marks T U} {entry : T → Bool} {S1 : X → List U → Type 0} {stop1 : X → T → Bool} {S2 : X → Y → List U → Type 0} {stop2 : X → Y → T → Bool} {first : Parser T K X} {second : X → Parser T K Y}
    (one_is : Exact marks entry S1 stop1 first) (two_is : (x : X) (left : List U) → S1 x left → Within marks left → Exact marks (stop1 x) (S2 x) (stop2 x) (second x)) (joins : Joins marks S1 stop1 S2 stop2)
    (before rest : List T) → Stops entry before → Ended first second before (Err (LimitExceeded, rest)) → IsLimitExceeded marks (Then S1 S2) before rest
exceeded_either {marks = marks} {entry = entry} {stop1 = stop1} {first = first} {second = second} one_is two_is joins before rest enters (early fault more e) =
    let one = one_is.exceeds before more enters e in
    let following = joins.goes_on one.value (one.prefix ++ one.last ∷ one.more) one.derives in
    record {
      prefix = one.prefix;
      last = one.last;
      following = one.following;
      here = one.here;
      cut = one.cut;
      within = one.within;
      over = one.over;
      value = (one.value, following.0);
      more = one.more ++ following.1;
      derives = record { left = one.prefix ++ one.last ∷ one.more; right = following.1; cut = sym (append_assoc one.prefix (one.last ∷ one.more) following.1); first = one.derives; second = following.2 };
    }
exceeded_either {marks = marks} {entry = entry} {stop1 = stop1} {first = first} {second = second} one_is two_is joins before rest enters (late x middle fault more e e') =
    let one = one_is.takes before x middle enters e in
    let two = (two_is x one.text one.derives one.within).exceeds middle more one.stops e' in
    record {
      prefix = one.text ++ two.prefix;
      last = two.last;
      following = two.following;
      here = two.here;
      cut = one.cut ∙ ap (λ t. plains marks one.text ++ t) two.cut ∙ sym (plains-two marks one.text two.prefix rest);
      within = Within-append marks one.text two.prefix one.within two.within;
      over = two.over;
      value = (x, two.value);
      more = two.more;
      derives = record { left = one.text; right = two.prefix ++ two.last ∷ two.more; cut = append_assoc one.text two.prefix (two.last ∷ two.more); first = one.derives; second = two.derives };
    }

-- the second part may ask that the first has no token at which a limit is exceeded
pub exact-then_within : {T U K X Y : Type 0} {marks : Marks T U} {entry : T → Bool} {S1 : X → List U → Type 0} {stop1 : X → T → Bool} {S2 : X → Y → List U → Type 0} {stop2 : X → Y → T → Bool} {first : Parser T K X} {second : X → Parser T K Y}
    (one_is : Exact marks entry S1 stop1 first) (two_is : (x : X) (left : List U) → S1 x left → Within marks left → Exact marks (stop1 x) (S2 x) (stop2 x) (second x)) → Joins marks S1 stop1 S2 stop2
    → Exact marks entry (Then S1 S2) (stop_then stop2) (read_then first second)
exact-then_within {marks = marks} {entry = entry} {stop1 = stop1} {first = first} {second = second} one_is two_is joins =
    record {
      takes = λ before value rest enters e. taken_both one_is two_is before value rest enters (subst (Ended first second before) e (ended first second before));
      again = λ value text rest. again_both one_is two_is joins value text rest;
      wrongs = λ before kind rest enters e. wrong_either one_is two_is joins before kind rest enters (subst (Ended first second before) e (ended first second before));
      exceeds = λ before rest enters e. exceeded_either one_is two_is joins before rest enters (subst (Ended first second before) e (ended first second before));
    }

pub exact-then : {T U K X Y : Type 0} {marks : Marks T U} {entry : T → Bool} {S1 : X → List U → Type 0} {stop1 : X → T → Bool} {S2 : X → Y → List U → Type 0} {stop2 : X → Y → T → Bool} {first : Parser T K X} {second : X → Parser T K Y}
    (one_is : Exact marks entry S1 stop1 first) (two_is : (x : X) → Exact marks (stop1 x) (S2 x) (stop2 x) (second x)) → Joins marks S1 stop1 S2 stop2
    → Exact marks entry (Then S1 S2) (stop_then stop2) (read_then first second)
exact-then one_is two_is joins = exact-then_within one_is (λ x left one within. two_is x) joins
