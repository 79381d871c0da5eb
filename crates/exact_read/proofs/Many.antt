-- Items one after the other are read exactly.
use Rattle.std.proofs.Common.{◌≡◌, ℕ, suc, zero, ◌≤◌, arith, length, Bool, true, false, List, [], ◌∷◌, ◌++◌, Ok, Err, refl, ap, sym, ◌∙◌, subst, append_assoc, IsTrue, cond, not, ◌&&◌, ◌||◌, length-append}
use Rattle.exact_read.specs.Reading.{Fault, LimitExceeded, Wrong, Outcome, Parser, Marks, plains, Within, limit, Stops}
use Rattle.exact_read.specs.Exact.{IsTaken, Exact}
use Rattle.exact_read.specs.Whole.{IsLimitExceeded}
use Rattle.exact_read.specs.Grammar.{bind, read_at_most, read_many, Many, none, some, opens, stop_many}
use Rattle.exact_read.proofs.Basics.{plains-two, Within-append, limit-within, bind-limit, limit-bind, Stops-other, ok, ok_parts}

-- what the items ask
pub record Items {T U X C : Type 0} (marks : Marks T U) (starts ends : C → T → Bool) (S : C → X → List U → Type 0) (stop : C → X → T → Bool) (next : C → X → C) : Type 0 where
  -- an item begins with a token that begins one
  pub begins : (context : C) (x : X) (text : List U) → S context x text → (u : U) × (more : List U) × (text ≡ u ∷ more) × (starts context (marks.plain u) ≡ true)
  -- an item stops exactly where another can begin or where the items can end
  pub opens_next : (context : C) (x : X) (rest : List T) → Stops (stop context x) rest → Stops (opens starts ends (next context x)) rest
  pub stops_item : (context : C) (x : X) (rest : List T) → Stops (opens starts ends (next context x)) rest → Stops (stop context x) rest

-- how items end
data ManyEnded {T K X C : Type 0} (starts : C → T → Bool) (item : C → Parser T K X) (next : C → X → C) (n : ℕ) (context : C) (token : T) (more : List T) : Outcome T K (List X) → Type 0 where
  over : starts context token ≡ false → ManyEnded starts item next n context token more (Ok ([], token ∷ more))
  early : (fault : Fault K) (rest : List T) → starts context token ≡ true → item context (token ∷ more) ≡ Err (fault, rest) → ManyEnded starts item next n context token more (Err (fault, rest))
  late : (x : X) (middle : List T) (fault : Fault K) (rest : List T) → starts context token ≡ true → item context (token ∷ more) ≡ Ok (x, middle) → read_at_most starts item next n (next context x) middle ≡ Err (fault, rest) → ManyEnded starts item next n context token more (Err (fault, rest))
  both : (x : X) (middle : List T) (xs : List X) (rest : List T) → starts context token ≡ true → item context (token ∷ more) ≡ Ok (x, middle) → read_at_most starts item next n (next context x) middle ≡ Ok (xs, rest) → ManyEnded starts item next n context token more (Ok (x ∷ xs, rest))

many_ended : {T K X C : Type 0} (starts : C → T → Bool) (item : C → Parser T K X) (next : C → X → C) (n : ℕ) (context : C) (token : T) (more : List T) → ManyEnded starts item next n context token more (read_at_most starts item next (suc n) context (token ∷ more))
many_ended {T} {K} {X} {C} starts item next n context token more = by_test (starts context token) refl
  where
    by_rest : (x : X) (middle : List T) → starts context token ≡ true → item context (token ∷ more) ≡ Ok (x, middle) → (o : Outcome T K (List X)) → read_at_most starts item next n (next context x) middle ≡ o → ManyEnded starts item next n context token more (bind o (λ xs after. Ok (x ∷ xs, after)))
    by_rest x middle s e (Ok (xs, rest)) e' = both x middle xs rest s e e'
    by_rest x middle s e (Err (fault, rest)) e' = late x middle fault rest s e e'

    by_item : starts context token ≡ true → (o : Outcome T K X) → item context (token ∷ more) ≡ o → ManyEnded starts item next n context token more (bind o (λ x rest. bind (read_at_most starts item next n (next context x) rest) (λ xs after. Ok (x ∷ xs, after))))
    by_item s (Ok (x, middle)) e = by_rest x middle s e (read_at_most starts item next n (next context x) middle) refl
    by_item s (Err (fault, rest)) e = early fault rest s e

    by_test : (b : Bool) → starts context token ≡ b → ManyEnded starts item next n context token more (cond b (bind (item context (token ∷ more)) (λ x rest. bind (read_at_most starts item next n (next context x) rest) (λ xs after. Ok (x ∷ xs, after)))) (Ok ([], token ∷ more)))
    by_test true s = by_item s (item context (token ∷ more)) refl
    by_test false s = over s

-- after an item fewer tokens are left
shorter : {T U : Type 0} (marks : Marks T U) (token : T) (more rest : List T) (u : U) (text text' : List U) (n : ℕ) → text ≡ u ∷ text' → token ∷ more ≡ plains marks text ++ rest → length (token ∷ more) ≤ suc n → length rest ≤ n
shorter marks token more rest u text text' n nonempty cut bound =
    let e : token ∷ more ≡ marks.plain u ∷ (plains marks text' ++ rest) = cut ∙ ap (λ t. plains marks t ++ rest) nonempty in
    omega (arith, ap length e, length-append (plains marks text') rest)

-- one step where an item begins
step_item : {T K X C : Type 0} (starts : C → T → Bool) (item : C → Parser T K X) (next : C → X → C) (n : ℕ) (context : C) (before : List T) (token : T) (more : List T) → before ≡ token ∷ more → starts context token ≡ true → length before ≤ n → (m : ℕ) × (n ≡ suc m) × (read_at_most starts item next n context before ≡ bind (item context before) (λ x rest. bind (read_at_most starts item next m (next context x) rest) (λ xs after. Ok (x ∷ xs, after))))
step_item starts item next zero context before token more here s bound = absurd (let e : length before ≡ suc (length more) = ap length here ∙ omega arith in omega arith)
step_item {T} {K} {X} {C} starts item next (suc n) context before token more here s bound =
    (n, refl, subst (λ (b : List T). read_at_most starts item next (suc n) context b ≡ bind (item context b) (λ x rest. bind (read_at_most starts item next n (next context x) rest) (λ xs after. Ok (x ∷ xs, after)))) (sym here) (rw s refl))

-- the first token stays the same when what follows the prefix changes
first_same : {T U : Type 0} (marks : Marks T U) (prefix : List U) (token : T) (old new : List T) (t : T) (more : List T) → plains marks prefix ++ token ∷ old ≡ t ∷ more → (m : List T) × (plains marks prefix ++ token ∷ new ≡ t ∷ m)
first_same marks [] token old new t more e = let same : token ≡ t = cc in (new, ap (λ c. c ∷ new) same)
first_same marks (u ∷ prefix) token old new t more e = let same : marks.plain u ≡ t = cc in (plains marks prefix ++ token ∷ new, ap (λ c. c ∷ (plains marks prefix ++ token ∷ new)) same)

or_left : (a b : Bool) → a ≡ true → IsTrue (a || b)
or_left true b e = refl
or_left false b e = absurd (cc)

-- what the tests at an end say together
end_tests : (s e : Bool) → s ≡ false → IsTrue (s || e) → IsTrue (e && not s)
end_tests true e a b = absurd (cc)
end_tests false true a b = refl
end_tests false false a b = absurd (cc)

ends_true : (e s : Bool) → IsTrue (e && not s) → IsTrue (s || e) × (s ≡ false)
ends_true true true h = absurd (cc)
ends_true true false h = (refl, refl)
ends_true false s h = absurd (cc)

pub many_opens : {T U X C : Type 0} {marks : Marks T U} {starts ends : C → T → Bool} {S : C → X → List U → Type 0} {stop : C → X → T → Bool} {next : C → X → C} → Items marks starts ends S stop next
    → (context : C) (xs : List X) (text : List U) (rest : List T) → Many next S context xs text → Stops (stop_many starts ends next context xs) rest → Stops (opens starts ends context) (plains marks text ++ rest)
many_opens {starts = starts} {ends = ends} items context xs text [] (none c) stops = tt
many_opens {starts = starts} {ends = ends} items context xs text (token ∷ more) (none c) stops = (ends_true (ends context token) (starts context token) stops).0
many_opens {marks = marks} {starts = starts} {ends = ends} items context xs text rest (some c x ys left right one two) stops =
    let b = items.begins context x left one in
    subst (Stops (opens starts ends context)) (sym (plains-two marks left right rest ∙ ap (λ t. plains marks t ++ (plains marks right ++ rest)) b.2)) (or_left (starts context (marks.plain b.0)) (ends context (marks.plain b.0)) b.3)

item_opens : {T U X C : Type 0} {marks : Marks T U} {starts ends : C → T → Bool} {S : C → X → List U → Type 0} {stop : C → X → T → Bool} {next : C → X → C} → Items marks starts ends S stop next
    → (context : C) (x : X) (left : List U) (rest : List T) → S context x left → Stops (starts context) (plains marks left ++ rest)
item_opens {marks = marks} {starts = starts} items context x left rest one =
    let b = items.begins context x left one in
    subst (Stops (starts context)) (sym (ap (λ t. plains marks t ++ rest) b.2)) b.3

again_items : {T U K X C : Type 0} {marks : Marks T U} {starts ends : C → T → Bool} {S : C → X → List U → Type 0} {stop : C → X → T → Bool} {next : C → X → C} {item : C → Parser T K X}
    (items : Items marks starts ends S stop next) (item_is : (c : C) → Exact marks (starts c) (S c) (stop c) (item c))
    (n : ℕ) (context : C) (xs : List X) (text : List U) (rest : List T) → Many next S context xs text → length (plains marks text ++ rest) ≤ n → Stops (stop_many starts ends next context xs) rest → read_at_most starts item next n context (plains marks text ++ rest) ≡ limit marks text rest (Ok (xs, rest))
again_items items item_is zero context xs text rest (none c) bound stops = refl
again_items items item_is (suc n) context xs text [] (none c) bound stops = refl
again_items {starts = starts} {ends = ends} items item_is (suc n) context xs text (token ∷ more) (none c) bound stops =
    rw (ends_true (ends context token) (starts context token) stops).1 refl
again_items {T} {U} {K} {X} {C} {marks = marks} {starts = starts} {ends = ends} {S = S} {stop = stop} {next = next} {item = item} items item_is n context xs text rest (some c x ys left right one two) bound stops =
    let middle = plains marks right ++ rest in
    let b = items.begins context x left one in
    let same : plains marks (left ++ right) ++ rest ≡ plains marks left ++ middle = plains-two marks left right rest in
    let here : plains marks (left ++ right) ++ rest ≡ marks.plain b.0 ∷ plains marks b.1 ++ middle = same ∙ ap (λ t. plains marks t ++ middle) b.2 in
    let step = step_item starts item next n context (plains marks (left ++ right) ++ rest) (marks.plain b.0) (plains marks b.1 ++ middle) here b.3 bound in
    let after = λ (v : X) (r : List T). bind (read_at_most starts item next step.0 (next context v) r) (λ vs o. ok {T = T} {K = K} (v ∷ vs) o) in
    let item_again : item context (plains marks left ++ middle) ≡ limit marks left middle (Ok (x, middle)) =
    (item_is context).again x left middle one (items.stops_item context x middle (many_opens items (next context x) ys right rest two stops)) (item_opens items context x left middle one) in
    let short : length middle ≤ step.0 = shorter_text marks b.0 b.1 middle n step.0 (subst (λ l. length l ≤ n) here bound) step.1 in
    let rest_again : read_at_most starts item next step.0 (next context x) middle ≡ limit marks right rest (Ok (ys, rest)) =
    again_items items item_is step.0 (next context x) ys right rest two short stops in
    step.2 ∙ ap (λ l. bind (item context l) after) same ∙ ap (λ o. bind o after) item_again
    ∙ bind-limit marks left right rest x after (Ok (x ∷ ys, rest)) (ap (λ o. bind o (λ vs o. ok (x ∷ vs) o)) rest_again ∙ limit-bind marks right rest ys (λ vs o. ok (x ∷ vs) o))
  where
    shorter_text : (marks : Marks T U) (u : U) (text : List U) (middle : List T) (n m : ℕ) → length (marks.plain u ∷ plains marks text ++ middle) ≤ n → n ≡ suc m → length middle ≤ m
    shorter_text marks u text middle n m bound e = omega (arith, length-append (plains marks text) middle)

-- what items that were read are
abbrev pub TakenFrom : {T U X C : Type 0} (marks : Marks T U) (starts ends : C → T → Bool) (S : C → X → List U → Type 0) (next : C → X → C) (context : C) (before : List T) (xs : List X) (rest : List T) → Type 0
TakenFrom marks starts ends S next context before xs rest = IsTaken marks (Many next S context) (stop_many starts ends next context) before xs rest

taken_nothing : {T U X C : Type 0} (marks : Marks T U) (starts ends : C → T → Bool) (S : C → X → List U → Type 0) (next : C → X → C) (context : C) (before : List T) → Stops (stop_many starts ends next context []) before → TakenFrom marks starts ends S next context before [] before
taken_nothing marks starts ends S next context before stops = record { text = []; cut = refl; derives = none context; within = tt; stops = stops }

taken_step : {T U K X C : Type 0} {marks : Marks T U} {starts ends : C → T → Bool} {S : C → X → List U → Type 0} {stop : C → X → T → Bool} {next : C → X → C} {item : C → Parser T K X}
    (items : Items marks starts ends S stop next) (item_is : (c : C) → Exact marks (starts c) (S c) (stop c) (item c))
    (n : ℕ) (context : C) (token : T) (more : List T) (value : List X) (rest : List T)
    → ((c : C) (before : List T) (xs : List X) (r : List T) → length before ≤ n → Stops (opens starts ends c) before → read_at_most starts item next n c before ≡ Ok (xs, r) → TakenFrom marks starts ends S next c before xs r)
    → length (token ∷ more) ≤ suc n → IsTrue (opens starts ends context token) → ManyEnded starts item next n context token more (Ok (value, rest)) → TakenFrom marks starts ends S next context (token ∷ more) value rest
taken_step {T} {U} {K} {X} {C} {marks = marks} {starts = starts} {ends = ends} {S = S} {stop = stop} {next = next} {item = item} items item_is n context token more value rest again bound enters (over fails) =
    taken_nothing marks starts ends S next context (token ∷ more) (end_tests (starts context token) (ends context token) fails enters)
taken_step {T} {U} {K} {X} {C} {marks = marks} {starts = starts} {ends = ends} {S = S} {stop = stop} {next = next} {item = item} items item_is n context token more value rest again bound enters (both x middle xs r s e e') =
    let one = (item_is context).takes (token ∷ more) x middle s e in
    let b = items.begins context x one.text one.derives in
    let short : length middle ≤ n = shorter marks token more middle b.0 one.text b.1 n b.2 one.cut bound in
    let two = again (next context x) middle xs rest short (items.opens_next context x middle one.stops) e' in
    record {
      text = one.text ++ two.text;
      cut = one.cut ∙ ap (λ t. plains marks one.text ++ t) two.cut ∙ sym (plains-two marks one.text two.text rest);
      derives = some context x xs one.text two.text one.derives two.derives;
      within = Within-append marks one.text two.text one.within two.within;
      stops = two.stops;
    }

taken_items : {T U K X C : Type 0} {marks : Marks T U} {starts ends : C → T → Bool} {S : C → X → List U → Type 0} {stop : C → X → T → Bool} {next : C → X → C} {item : C → Parser T K X}
    (items : Items marks starts ends S stop next) (item_is : (c : C) → Exact marks (starts c) (S c) (stop c) (item c))
    (n : ℕ) (context : C) (before : List T) (xs : List X) (rest : List T) → length before ≤ n → Stops (opens starts ends context) before → read_at_most starts item next n context before ≡ Ok (xs, rest) → TakenFrom marks starts ends S next context before xs rest
taken_items {T} {U} {K} {X} {C} {marks = marks} {starts = starts} {ends = ends} {S = S} {stop = stop} {next = next} {item = item} items item_is zero context [] xs rest bound enters e =
    let p = ok_parts {K = K} e in subst (λ r. TakenFrom marks starts ends S next context [] xs r) p.1 (subst (λ v. TakenFrom marks starts ends S next context [] v []) p.0 (taken_nothing marks starts ends S next context [] tt))
taken_items {T} {U} {K} {X} {C} {marks = marks} {starts = starts} {ends = ends} {S = S} {stop = stop} {next = next} {item = item} items item_is zero context (token ∷ more) xs rest bound enters e = absurd (omega arith)
taken_items {T} {U} {K} {X} {C} {marks = marks} {starts = starts} {ends = ends} {S = S} {stop = stop} {next = next} {item = item} items item_is (suc n) context [] xs rest bound enters e =
    let p = ok_parts {K = K} e in subst (λ r. TakenFrom marks starts ends S next context [] xs r) p.1 (subst (λ v. TakenFrom marks starts ends S next context [] v []) p.0 (taken_nothing marks starts ends S next context [] tt))
taken_items {T} {U} {K} {X} {C} {marks = marks} {starts = starts} {ends = ends} {S = S} {stop = stop} {next = next} {item = item} items item_is (suc n) context (token ∷ more) xs rest bound enters e =
    taken_step items item_is n context token more xs rest (λ c b v r. taken_items items item_is n c b v r) bound enters (subst (ManyEnded starts item next n context token more) e (many_ended starts item next n context token more))

-- items with a wrong token, whatever number of them is looked for
record IsWrongItems {T U K X C : Type 0} (marks : Marks T U) (starts : C → T → Bool) (S : C → X → List U → Type 0) (next : C → X → C) (item : C → Parser T K X) (context : C) (before : List T) (kind : K) (rest : List T) : Type 0 where
  prefix : List U
  cut : before ≡ plains marks prefix ++ rest
  within : Within marks prefix
  value : List X
  more : List U
  derives : Many next S context value (prefix ++ more)
  whatever : (m : ℕ) (token : T) (old new : List T) → rest ≡ token ∷ old → length (plains marks prefix ++ token ∷ new) ≤ m → read_at_most starts item next m context (plains marks prefix ++ token ∷ new) ≡ Err (Wrong kind, token ∷ new)

wrong_step : {T U K X C : Type 0} {marks : Marks T U} {starts ends : C → T → Bool} {S : C → X → List U → Type 0} {stop : C → X → T → Bool} {next : C → X → C} {item : C → Parser T K X}
    (items : Items marks starts ends S stop next) (item_is : (c : C) → Exact marks (starts c) (S c) (stop c) (item c))
    (n : ℕ) (context : C) (token : T) (more : List T) (kind : K) (rest : List T)
    → ((c : C) (before : List T) (k : K) (r : List T) → length before ≤ n → Stops (opens starts ends c) before → read_at_most starts item next n c before ≡ Err (Wrong k, r) → IsWrongItems marks starts S next item c before k r)
    → length (token ∷ more) ≤ suc n → ManyEnded starts item next n context token more (Err (Wrong kind, rest)) → IsWrongItems marks starts S next item context (token ∷ more) kind rest
wrong_step {T} {U} {K} {X} {C} {marks = marks} {starts = starts} {ends = ends} {S = S} {stop = stop} {next = next} {item = item} items item_is n context token more kind rest again bound (early fault r s e) =
    let one = (item_is context).wrongs (token ∷ more) kind rest s e in
    record {
      prefix = one.prefix;
      cut = one.cut;
      within = one.within;
      value = one.value ∷ [];
      more = one.more ++ [];
      derives = subst (Many next S context (one.value ∷ [])) (append_assoc one.prefix one.more []) (some context one.value [] (one.prefix ++ one.more) [] one.derives (none (next context one.value)));
      whatever = λ m t old new here fits.
          let f = first_same marks one.prefix t old new token more (sym (one.cut ∙ ap (λ r. plains marks one.prefix ++ r) here)) in
          let step = step_item starts item next m context (plains marks one.prefix ++ t ∷ new) token f.0 f.1 s fits in
          step.2 ∙ ap (λ o. bind o (λ x r. bind (read_at_most starts item next step.0 (next context x) r) (λ xs o. ok (x ∷ xs) o))) (one.whatever t old new here);
    }
wrong_step {T} {U} {K} {X} {C} {marks = marks} {starts = starts} {ends = ends} {S = S} {stop = stop} {next = next} {item = item} items item_is n context token more kind rest again bound (late x middle fault r s e e') =
    let one = (item_is context).takes (token ∷ more) x middle s e in
    let b = items.begins context x one.text one.derives in
    let short : length middle ≤ n = shorter marks token more middle b.0 one.text b.1 n b.2 one.cut bound in
    let two = again (next context x) middle kind rest short (items.opens_next context x middle one.stops) e' in
    record {
      prefix = one.text ++ two.prefix;
      cut = one.cut ∙ ap (λ t. plains marks one.text ++ t) two.cut ∙ sym (plains-two marks one.text two.prefix rest);
      within = Within-append marks one.text two.prefix one.within two.within;
      value = x ∷ two.value;
      more = two.more;
      derives = subst (Many next S context (x ∷ two.value)) (sym (append_assoc one.text two.prefix two.more)) (some context x two.value one.text (two.prefix ++ two.more) one.derives two.derives);
      whatever = λ m t old new here fits.
          let middle_old : middle ≡ plains marks two.prefix ++ t ∷ old = two.cut ∙ ap (λ r. plains marks two.prefix ++ r) here in
          let same : plains marks (one.text ++ two.prefix) ++ t ∷ new ≡ plains marks one.text ++ (plains marks two.prefix ++ t ∷ new) = plains-two marks one.text two.prefix (t ∷ new) in
          let stops_new : Stops (stop context x) (plains marks two.prefix ++ t ∷ new) = Stops-other marks (stop context x) two.prefix t old new (subst (Stops (stop context x)) middle_old one.stops) in
          let item_new : item context (plains marks one.text ++ (plains marks two.prefix ++ t ∷ new)) ≡ Ok (x, plains marks two.prefix ++ t ∷ new) =
          (item_is context).again x one.text (plains marks two.prefix ++ t ∷ new) one.derives stops_new (item_opens items context x one.text (plains marks two.prefix ++ t ∷ new) one.derives) ∙ limit-within marks one.text _ _ one.within in
          let first : plains marks one.text ++ (plains marks two.prefix ++ t ∷ new) ≡ marks.plain b.0 ∷ plains marks b.1 ++ (plains marks two.prefix ++ t ∷ new) = ap (λ l. plains marks l ++ (plains marks two.prefix ++ t ∷ new)) b.2 in
          let step = step_item starts item next m context (plains marks (one.text ++ two.prefix) ++ t ∷ new) (marks.plain b.0) (plains marks b.1 ++ (plains marks two.prefix ++ t ∷ new)) (same ∙ first) b.3 fits in
          let after = λ (v : X) (r : List T). bind (read_at_most starts item next step.0 (next context v) r) (λ vs o. ok {T = T} {K = K} (v ∷ vs) o) in
          let short_new : length (plains marks two.prefix ++ t ∷ new) ≤ step.0 = shorter_by marks b.0 b.1 (plains marks two.prefix ++ t ∷ new) m step.0 (subst (λ l. length l ≤ m) (same ∙ first) fits) step.1 in
          step.2 ∙ ap (λ l. bind (item context l) after) same ∙ ap (λ o. bind o after) item_new
          ∙ ap (λ o. bind o (λ vs o. ok (x ∷ vs) o)) (two.whatever step.0 t old new here short_new);
    }
  where
    shorter_by : (marks : Marks T U) (u : U) (text : List U) (middle : List T) (n m : ℕ) → length (marks.plain u ∷ plains marks text ++ middle) ≤ n → n ≡ suc m → length middle ≤ m
    shorter_by marks u text middle n m bound e = omega (arith, length-append (plains marks text) middle)

wrong_items : {T U K X C : Type 0} {marks : Marks T U} {starts ends : C → T → Bool} {S : C → X → List U → Type 0} {stop : C → X → T → Bool} {next : C → X → C} {item : C → Parser T K X}
    (items : Items marks starts ends S stop next) (item_is : (c : C) → Exact marks (starts c) (S c) (stop c) (item c))
    (n : ℕ) (context : C) (before : List T) (kind : K) (rest : List T) → length before ≤ n → Stops (opens starts ends context) before → read_at_most starts item next n context before ≡ Err (Wrong kind, rest) → IsWrongItems marks starts S next item context before kind rest
wrong_items {T} {U} {K} {X} {C} {marks = marks} {starts = starts} {ends = ends} {S = S} {stop = stop} {next = next} {item = item} items item_is zero context before kind rest bound enters e = absurd (cc)
wrong_items {T} {U} {K} {X} {C} {marks = marks} {starts = starts} {ends = ends} {S = S} {stop = stop} {next = next} {item = item} items item_is (suc n) context [] kind rest bound enters e = absurd (cc)
wrong_items {T} {U} {K} {X} {C} {marks = marks} {starts = starts} {ends = ends} {S = S} {stop = stop} {next = next} {item = item} items item_is (suc n) context (token ∷ more) kind rest bound enters e =
    wrong_step items item_is n context token more kind rest (λ c b k r. wrong_items items item_is n c b k r) bound (subst (ManyEnded starts item next n context token more) e (many_ended starts item next n context token more))

exceeded_step : {T U K X C : Type 0} {marks : Marks T U} {starts ends : C → T → Bool} {S : C → X → List U → Type 0} {stop : C → X → T → Bool} {next : C → X → C} {item : C → Parser T K X}
    (items : Items marks starts ends S stop next) (item_is : (c : C) → Exact marks (starts c) (S c) (stop c) (item c))
    (n : ℕ) (context : C) (token : T) (more rest : List T)
    → ((c : C) (before r : List T) → length before ≤ n → Stops (opens starts ends c) before → read_at_most starts item next n c before ≡ Err (LimitExceeded, r) → IsLimitExceeded marks (Many next S c) before r)
    → length (token ∷ more) ≤ suc n → ManyEnded starts item next n context token more (Err (LimitExceeded, rest)) → IsLimitExceeded marks (Many next S context) (token ∷ more) rest
exceeded_step {T} {U} {K} {X} {C} {marks = marks} {starts = starts} {ends = ends} {S = S} {stop = stop} {next = next} {item = item} items item_is n context token more rest again bound (early fault r s e) =
    let one = (item_is context).exceeds (token ∷ more) rest s e in
    record {
      prefix = one.prefix;
      last = one.last;
      following = one.following;
      here = one.here;
      cut = one.cut;
      within = one.within;
      over = one.over;
      value = one.value ∷ [];
      more = one.more ++ [];
      derives = subst (Many next S context (one.value ∷ [])) (append_assoc one.prefix (one.last ∷ one.more) []) (some context one.value [] (one.prefix ++ one.last ∷ one.more) [] one.derives (none (next context one.value)));
    }
exceeded_step {T} {U} {K} {X} {C} {marks = marks} {starts = starts} {ends = ends} {S = S} {stop = stop} {next = next} {item = item} items item_is n context token more rest again bound (late x middle fault r s e e') =
    let one = (item_is context).takes (token ∷ more) x middle s e in
    let b = items.begins context x one.text one.derives in
    let short : length middle ≤ n = shorter marks token more middle b.0 one.text b.1 n b.2 one.cut bound in
    let two = again (next context x) middle rest short (items.opens_next context x middle one.stops) e' in
    record {
      prefix = one.text ++ two.prefix;
      last = two.last;
      following = two.following;
      here = two.here;
      cut = one.cut ∙ ap (λ t. plains marks one.text ++ t) two.cut ∙ sym (plains-two marks one.text two.prefix rest);
      within = Within-append marks one.text two.prefix one.within two.within;
      over = two.over;
      value = x ∷ two.value;
      more = two.more;
      derives = subst (Many next S context (x ∷ two.value)) (sym (append_assoc one.text two.prefix (two.last ∷ two.more))) (some context x two.value one.text (two.prefix ++ two.last ∷ two.more) one.derives two.derives);
    }

exceeded_items : {T U K X C : Type 0} {marks : Marks T U} {starts ends : C → T → Bool} {S : C → X → List U → Type 0} {stop : C → X → T → Bool} {next : C → X → C} {item : C → Parser T K X}
    (items : Items marks starts ends S stop next) (item_is : (c : C) → Exact marks (starts c) (S c) (stop c) (item c))
    (n : ℕ) (context : C) (before rest : List T) → length before ≤ n → Stops (opens starts ends context) before → read_at_most starts item next n context before ≡ Err (LimitExceeded, rest) → IsLimitExceeded marks (Many next S context) before rest
exceeded_items {T} {U} {K} {X} {C} {marks = marks} {starts = starts} {ends = ends} {S = S} {stop = stop} {next = next} {item = item} items item_is zero context before rest bound enters e = absurd (cc)
exceeded_items {T} {U} {K} {X} {C} {marks = marks} {starts = starts} {ends = ends} {S = S} {stop = stop} {next = next} {item = item} items item_is (suc n) context [] rest bound enters e = absurd (cc)
exceeded_items {T} {U} {K} {X} {C} {marks = marks} {starts = starts} {ends = ends} {S = S} {stop = stop} {next = next} {item = item} items item_is (suc n) context (token ∷ more) rest bound enters e =
    exceeded_step items item_is n context token more rest (λ c b r. exceeded_items items item_is n c b r) bound (subst (ManyEnded starts item next n context token more) e (many_ended starts item next n context token more))

pub exact-many : {T U K X C : Type 0} {marks : Marks T U} {starts ends : C → T → Bool} {S : C → X → List U → Type 0} {stop : C → X → T → Bool} {next : C → X → C} {item : C → Parser T K X}
    (items : Items marks starts ends S stop next) (item_is : (c : C) → Exact marks (starts c) (S c) (stop c) (item c)) (context : C)
    → Exact marks (opens starts ends context) (Many next S context) (stop_many starts ends next context) (read_many starts item next context)
exact-many {T} {U} {K} {X} {C} {marks = marks} {starts = starts} {ends = ends} {S = S} {stop = stop} {next = next} {item = item} items item_is context =
    record {
      takes = λ before xs rest enters e. taken_items items item_is (length before) context before xs rest (omega arith) enters e;
      again = λ xs text rest derives stops enters. again_items items item_is (length (plains marks text ++ rest)) context xs text rest derives (omega arith) stops;
      wrongs = λ before kind rest enters e.
          let w = wrong_items items item_is (length before) context before kind rest (omega arith) enters e in
          record { prefix = w.prefix; cut = w.cut; within = w.within; value = w.value; more = w.more; derives = w.derives; whatever = λ token old new here. w.whatever (length (plains marks w.prefix ++ token ∷ new)) token old new here (omega arith) };
      exceeds = λ before rest enters e. exceeded_items items item_is (length before) context before rest (omega arith) enters e;
    }
