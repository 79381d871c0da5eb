-- The items of a derivation are read exactly where each item is.
use Rattle.std.proofs.Common.{◌≡◌, ℕ, zero, suc, ◌<◌, Bool, List, [], ◌∷◌, ◌++◌, length, Ok, Err, refl, ap, sym, ◌∙◌, subst, append_assoc, arith, length-append, IsTrue}
use Rattle.exact_read.specs.Reading.{LimitExceeded, Wrong, Outcome, Stops}
use Rattle.exact_read.specs.Grammar.{bind}
use Rattle.cert_text_spec.specs.Derivation.{Derives, none, some, spelled}
use Rattle.cert_text_laws.specs.Readers.{Reader, refused, given, Reads, read_at_most, read_items}
use Rattle.cert_text_laws.proofs.Bytes.{Simply, exact-simply, simply-exact, given_parts, refused_rest, refused_kind, given_kind}

-- an item and its text, where something is expected
pub record ItemText {N I : Type 0} (Fits : N → I → Type 0) (text : N → I → List ℕ) (n : N) (i : I) (t : List ℕ) : Type 0 where
  pub fits : Fits n i
  pub is : t ≡ text n i

-- items and their text
pub record ItemsText {N I : Type 0} (Fits : N → I → Type 0) (after : N → I → List N) (text : N → I → List ℕ) (expected : List N) (items : List I) (t : List ℕ) : Type 0 where
  pub derives : Derives Fits after expected items
  pub is : t ≡ spelled after text expected items

-- each element has the property
abbrev pub Each : {X : Type 0} → (X → Type 0) → List X → Type 0
Each P [] = Unit {0}
Each P (x ∷ xs) = P x × Each P xs

-- what the productions ask
pub record Productions {N I : Type 0} (Fits : N → I → Type 0) (after : N → I → List N) (text : N → I → List ℕ) (Later : N → Type 0) (stop : ℕ → Bool) : Type 0 where
  -- an item has a byte; and what can be expected after an item begins with one at which that can stop
  pub first : (n : N) (i : I) → Fits n i → (c : ℕ) × (more : List ℕ) × (text n i ≡ c ∷ more) × (Later n → IsTrue (stop c))
  pub later : (n : N) (i : I) → Each Later (after n i)
  -- there are items wherever something is expected
  pub ends : (n : N) → (items : List I) × Derives Fits after (n ∷ []) items

module _ {N I : Type 0} (Fits : N → I → Type 0) (after : N → I → List N) (text : N → I → List ℕ) (Later : N → Type 0) (stop : ℕ → Bool) (item : N → Reader I) where
  derives-append : (expected others : List N) (is js : List I) → Derives Fits after expected is → Derives Fits after others js → Derives Fits after (expected ++ others) (is ++ js)
  derives-append expected others is js none rest = rest
  derives-append expected others is js (some n ns i items fits d) rest =
      some n (ns ++ others) i (items ++ js) fits (subst (λ e. Derives Fits after e (items ++ js)) (append_assoc (after n i) ns others) (derives-append (after n i ++ ns) others items js d rest))

  module _ (p : Productions Fits after text Later stop) (item_is : (n : N) → Reads (ItemText Fits text n) stop (item n)) where
    ended : (expected : List N) → (items : List I) × Derives Fits after expected items
    ended [] = ([], none)
    ended (n ∷ others) = let a = p.ends n in let b = ended others in (a.0 ++ b.0, derives-append (n ∷ []) others a.0 b.0 a.1 b.1)

    simply : (n : N) → Simply (ItemText Fits text n) stop (item n)
    simply n = simply-exact (item_is n).exact

    all_later : (xs ys : List N) → Each Later xs → Each Later ys → Each Later (xs ++ ys)
    all_later [] ys a b = b
    all_later (x ∷ xs) ys a b = (a.0, all_later xs ys a.1 b)

    -- what follows an item stops it
    stops_spelled : (expected : List N) (items : List I) (rest : List ℕ) → Each Later expected → Derives Fits after expected items → Stops stop rest → Stops stop (spelled after text expected items ++ rest)
    unfolding spelled
    stops_spelled expected items rest l none s = s
    stops_spelled expected items rest l (some n others i more fits d) s =
        let f = p.first n i fits in
        subst (λ t. Stops stop ((t ++ spelled after text (after n i ++ others) more) ++ rest)) (sym f.2) (f.3 l.0)

    -- where nothing is expected the text has stopped already
    stopped : List N → List ℕ → Type 0
    stopped [] before = Stops stop before
    stopped (n ∷ others) before = Unit {0}

    after_stop : (expected : List N) (rest : List ℕ) → Stops stop rest → stopped expected rest
    unfolding stopped
    after_stop [] rest s = s
    after_stop (n ∷ others) rest s = tt

    record TakenItems (expected : List N) (before : List ℕ) (items : List I) (rest : List ℕ) : Type 0 where
      derives : Derives Fits after expected items
      cut : before ≡ spelled after text expected items ++ rest
      stops : Stops stop rest

    taken_items : (fuel : ℕ) (expected : List N) (before : List ℕ) (items : List I) (rest : List ℕ) → stopped expected before → read_at_most item after fuel expected before ≡ given items rest → TakenItems expected before items rest
    unfolding spelled stopped
    taken_items fuel [] before items rest s e =
        let q = given_parts e in
        subst (λ xs. TakenItems [] before xs rest) q.0 (subst (λ r. TakenItems [] before [] r) q.1 (record { derives = none; cut = refl; stops = s }))
    taken_items zero (n ∷ others) before items rest s e = absurd (cc)
    taken_items (suc fuel) (n ∷ others) before items rest s e = by_item (item n before) refl e (λ m r left js l a f. taken_items fuel (after n m ++ r) left js l a f)
      where
        again_type : Type 0
        again_type = (m : I) (r : List N) (left : List ℕ) (js : List I) (l : List ℕ) → stopped (after n m ++ r) left → read_at_most item after fuel (after n m ++ r) left ≡ given js l → TakenItems (after n m ++ r) left js l

        by_rest : again_type → (i : I) (middle : List ℕ) → item n before ≡ given i middle → (o : Outcome ℕ (Unit {0}) (List I)) → read_at_most item after fuel (after n i ++ others) middle ≡ o
            → bind o (λ is last. given (i ∷ is) last) ≡ given items rest → TakenItems (n ∷ others) before items rest
        by_rest again i middle e1 (Err fault) e2 h = absurd (cc)
        by_rest again i middle e1 (Ok (is, last)) e2 h =
            let q = given_parts h in
            let t = (simply n).takes before i middle e1 in
            let r = again i others middle is last (after_stop (after n i ++ others) middle t.stops) e2 in
            subst (λ xs. TakenItems (n ∷ others) before xs rest) q.0 (subst (λ l. TakenItems (n ∷ others) before (i ∷ is) l) q.1 (record {
              derives = some n others i is t.derives.fits r.derives;
              cut = t.cut ∙ ap (λ a. a ++ middle) t.derives.is ∙ ap (λ a. text n i ++ a) r.cut ∙ sym (append_assoc (text n i) (spelled after text (after n i ++ others) is) last);
              stops = r.stops;
            }))

        by_item : (o : Outcome ℕ (Unit {0}) I) → item n before ≡ o → bind o (λ i rest. bind (read_at_most item after fuel (after n i ++ others) rest) (λ is last. given (i ∷ is) last)) ≡ given items rest → again_type → TakenItems (n ∷ others) before items rest
        by_item (Err fault) e1 h again = absurd (cc)
        by_item (Ok (i, middle)) e1 h again = by_rest again i middle e1 (read_at_most item after fuel (after n i ++ others) middle) refl h

    -- what can be expected after something else comes first in the text
    tails : List N → Type 0
    tails [] = Unit {0}
    tails (n ∷ others) = Each Later others

    tails_all : (expected : List N) → Each Later expected → tails expected
    unfolding tails
    tails_all [] l = tt
    tails_all (n ∷ others) l = l.1

    longer : (n : N) (i : I) → Fits n i → (rest : List ℕ) → length rest < length (text n i ++ rest)
    longer n i fits rest =
        let f = p.first n i fits in
        subst (λ t. length rest < length (t ++ rest)) (sym f.2) (omega (arith, length-append {A = ℕ} (f.0 ∷ f.1) rest))

    again_items : (fuel : ℕ) (expected : List N) (items : List I) (rest : List ℕ) → Derives Fits after expected items → tails expected → Stops stop rest
        → length (spelled after text expected items ++ rest) < fuel → read_at_most item after fuel expected (spelled after text expected items ++ rest) ≡ given items rest
    unfolding spelled tails
    again_items fuel expected items rest none l s enough = refl
    again_items zero expected items rest (some n others i is fits d) l s enough = absurd (omega arith)
    again_items (suc fuel) expected items rest (some n others i is fits d) l s enough =
        let all : Each Later (after n i ++ others) = all_later (after n i) others (p.later n i) l in
        let middle : List ℕ = spelled after text (after n i ++ others) is ++ rest in
        let split : (text n i ++ spelled after text (after n i ++ others) is) ++ rest ≡ text n i ++ middle = append_assoc (text n i) (spelled after text (after n i ++ others) is) rest in
        let one : item n (text n i ++ middle) ≡ given i middle = (simply n).again i (text n i) middle (record { fits = fits; is = refl }) (stops_spelled (after n i ++ others) is rest all d s) in
        let less : length middle < length (text n i ++ middle) = longer n i fits middle in
        let short : length middle < fuel = omega (arith, ap length split) in
        let two = again_items fuel (after n i ++ others) is rest d (tails_all (after n i ++ others) all) s short in
        ap (λ t. bind (item n t) (λ j left. bind (read_at_most item after fuel (after n j ++ others) left) (λ js last. given (j ∷ js) last))) split
        ∙ ap (λ o. bind o (λ j left. bind (read_at_most item after fuel (after n j ++ others) left) (λ js last. given (j ∷ js) last))) one
        ∙ ap (λ o. bind o (λ js last. given (i ∷ js) last)) two

    record WrongItems (expected : List N) (before rest : List ℕ) : Type 0 where
      prefix : List ℕ
      cut : before ≡ prefix ++ rest
      items : List I
      more : List ℕ
      derives : Derives Fits after expected items
      is : spelled after text expected items ≡ prefix ++ more
      whatever : (fuel c : ℕ) (old new : List ℕ) → rest ≡ c ∷ old → length (prefix ++ c ∷ new) < fuel → read_at_most item after fuel expected (prefix ++ c ∷ new) ≡ refused (c ∷ new)

    wrong_items : (fuel : ℕ) (expected : List N) (before rest : List ℕ) → length before < fuel → read_at_most item after fuel expected before ≡ refused rest → WrongItems expected before rest
    unfolding spelled
    wrong_items fuel [] before rest enough e = absurd (cc)
    wrong_items zero (n ∷ others) before rest enough e = absurd (omega arith)
    wrong_items (suc fuel) (n ∷ others) before rest enough e = by_item (item n before) refl e (λ i middle short f. wrong_items fuel (after n i ++ others) middle rest short f)
      where
        again_type : Type 0
        again_type = (i : I) (middle : List ℕ) → length middle < fuel → read_at_most item after fuel (after n i ++ others) middle ≡ refused rest → WrongItems (after n i ++ others) middle rest

        at_item : (r : List ℕ) → item n before ≡ refused r → r ≡ rest → WrongItems (n ∷ others) before rest
        at_item r e1 same =
            let w = (simply n).wrongs before rest (e1 ∙ ap refused same) in
            let others_end = ended (after n w.value ++ others) in
            record {
              prefix = w.prefix;
              cut = w.cut;
              items = w.value ∷ others_end.0;
              more = w.more ++ spelled after text (after n w.value ++ others) others_end.0;
              derives = some n others w.value others_end.0 w.derives.fits others_end.1;
              is = ap (λ t. t ++ spelled after text (after n w.value ++ others) others_end.0) (sym w.derives.is) ∙ append_assoc w.prefix w.more (spelled after text (after n w.value ++ others) others_end.0);
              whatever = λ f c old new here long. at_any f c new (w.prefix ++ c ∷ new) (w.whatever c old new here) long;
            }
          where
            at_any : (f c : ℕ) (new t : List ℕ) → item n t ≡ refused (c ∷ new) → length t < f → read_at_most item after f (n ∷ others) t ≡ refused (c ∷ new)
            at_any zero c new t e long = absurd (omega arith)
            at_any (suc f) c new t e long = ap (λ o. bind o (λ j left. bind (read_at_most item after f (after n j ++ others) left) (λ js last. given (j ∷ js) last))) e

        after_item : again_type → (i : I) (middle : List ℕ) → item n before ≡ given i middle → (r : List ℕ) → read_at_most item after fuel (after n i ++ others) middle ≡ refused r → r ≡ rest → WrongItems (n ∷ others) before rest
        after_item again i middle e1 r e2 same =
            let t = (simply n).takes before i middle e1 in
            let start : before ≡ text n i ++ middle = t.cut ∙ ap (λ a. a ++ middle) t.derives.is in
            let less : length middle < length (text n i ++ middle) = longer n i t.derives.fits middle in
            let short : length middle < fuel = omega (arith, ap length start) in
            let w = again i middle short (e2 ∙ ap refused same) in
            record {
              prefix = text n i ++ w.prefix;
              cut = start ∙ ap (λ a. text n i ++ a) w.cut ∙ sym (append_assoc (text n i) w.prefix rest);
              items = i ∷ w.items;
              more = w.more;
              derives = some n others i w.items t.derives.fits w.derives;
              is = ap (λ a. text n i ++ a) w.is ∙ sym (append_assoc (text n i) w.prefix w.more);
              whatever = λ f c old new here long.
                  on_item f i t.derives.fits (w.prefix ++ c ∷ new) c new (stops_again w.prefix c old new (subst (Stops stop) (w.cut ∙ ap (λ a. w.prefix ++ a) here) t.stops))
                  (λ g l. w.whatever g c old new here l) ((text n i ++ w.prefix) ++ c ∷ new) (append_assoc (text n i) w.prefix (c ∷ new)) long;
            }
          where
            stops_again : (prefix : List ℕ) (c : ℕ) (old new : List ℕ) → Stops stop (prefix ++ c ∷ old) → Stops stop (prefix ++ c ∷ new)
            stops_again [] c old new h = h
            stops_again (d ∷ prefix) c old new h = h

            on_item : (f : ℕ) (i : I) → Fits n i → (t : List ℕ) (c : ℕ) (new : List ℕ) → Stops stop t → ((g : ℕ) → length t < g → read_at_most item after g (after n i ++ others) t ≡ refused (c ∷ new))
                → (whole : List ℕ) → whole ≡ text n i ++ t → length whole < f → read_at_most item after f (n ∷ others) whole ≡ refused (c ∷ new)
            on_item zero i fits t c new s again whole same long = absurd (omega arith)
            on_item (suc f) i fits t c new s again whole same long =
                let one : item n whole ≡ given i t = ap (item n) same ∙ (simply n).again i (text n i) t (record { fits = fits; is = refl }) s in
                let less : length t < length (text n i ++ t) = longer n i fits t in
                ap (λ o. bind o (λ j left. bind (read_at_most item after f (after n j ++ others) left) (λ js last. given (j ∷ js) last))) one
                ∙ ap (λ o. bind o (λ js last. given (i ∷ js) last)) (again f (omega (arith, ap length same)))

        by_rest : again_type → (i : I) (middle : List ℕ) → item n before ≡ given i middle → (o : Outcome ℕ (Unit {0}) (List I)) → read_at_most item after fuel (after n i ++ others) middle ≡ o
            → bind o (λ js last. given (i ∷ js) last) ≡ refused rest → WrongItems (n ∷ others) before rest
        by_rest again i middle e1 (Ok (is, last)) e2 h = absurd (cc)
        by_rest again i middle e1 (Err (Wrong kind, r)) e2 h = after_item again i middle e1 r e2 (refused_rest {X = List I} h)
        by_rest again i middle e1 (Err (LimitExceeded, r)) e2 h = absurd (refused_kind {X = List I} (sym h))

        by_item : (o : Outcome ℕ (Unit {0}) I) → item n before ≡ o → bind o (λ i rest. bind (read_at_most item after fuel (after n i ++ others) rest) (λ is last. given (i ∷ is) last)) ≡ refused rest → again_type → WrongItems (n ∷ others) before rest
        by_item (Ok (i, middle)) e1 h again = by_rest again i middle e1 (read_at_most item after fuel (after n i ++ others) middle) refl h
        by_item (Err (Wrong kind, r)) e1 h again = at_item r e1 (refused_rest {X = List I} h)
        by_item (Err (LimitExceeded, r)) e1 h again = absurd ((simply n).never before r e1)

    never_items : (fuel : ℕ) (expected : List N) (before rest : List ℕ) → read_at_most item after fuel expected before ≡ Err (LimitExceeded, rest) → ⊥
    never_items fuel [] before rest e = given_kind {X = List I} e
    never_items zero (n ∷ others) before rest e = refused_kind {X = List I} e
    never_items (suc fuel) (n ∷ others) before rest e = by_item (item n before) refl e (λ i middle r f. never_items fuel (after n i ++ others) middle r f)
      where
        again_type : Type 0
        again_type = (i : I) (middle r : List ℕ) → read_at_most item after fuel (after n i ++ others) middle ≡ Err (LimitExceeded, r) → ⊥

        by_rest : again_type → (i : I) (middle : List ℕ) (o : Outcome ℕ (Unit {0}) (List I)) → read_at_most item after fuel (after n i ++ others) middle ≡ o → bind o (λ js last. given (i ∷ js) last) ≡ Err (LimitExceeded, rest) → ⊥
        by_rest again i middle (Ok (is, last)) e2 h = given_kind {X = List I} h
        by_rest again i middle (Err (LimitExceeded, r)) e2 h = again i middle r e2
        by_rest again i middle (Err (Wrong kind, r)) e2 h = refused_kind {X = List I} h

        by_item : (o : Outcome ℕ (Unit {0}) I) → item n before ≡ o → bind o (λ i rest. bind (read_at_most item after fuel (after n i ++ others) rest) (λ is last. given (i ∷ is) last)) ≡ Err (LimitExceeded, rest) → again_type → ⊥
        by_item (Ok (i, middle)) e1 h again = by_rest again i middle (read_at_most item after fuel (after n i ++ others) middle) refl h
        by_item (Err (LimitExceeded, r)) e1 h again = (simply n).never before r e1
        by_item (Err (Wrong kind, r)) e1 h again = refused_kind {X = List I} h

    pub simply-items : (n : N) → Simply (ItemsText Fits after text (n ∷ [])) stop (read_items item after (n ∷ []))
    unfolding tails stopped
    simply-items n =
        record {
          takes = λ before items rest e. let t = taken_items (suc (length before)) (n ∷ []) before items rest tt e in
              record { text = spelled after text (n ∷ []) items; cut = t.cut; derives = record { derives = t.derives; is = refl }; stops = t.stops };
          again = λ items t rest d s.
              ap (λ whole. read_at_most item after (suc (length (whole ++ rest))) (n ∷ []) (whole ++ rest)) d.is
              ∙ again_items (suc (length (spelled after text (n ∷ []) items ++ rest))) (n ∷ []) items rest d.derives tt s (omega arith);
          wrongs = λ before rest e. let w = wrong_items (suc (length before)) (n ∷ []) before rest (omega arith) e in
              record {
                prefix = w.prefix;
                cut = w.cut;
                value = w.items;
                more = w.more;
                derives = record { derives = w.derives; is = sym w.is };
                whatever = λ c old new here. w.whatever (suc (length (w.prefix ++ c ∷ new))) c old new here (omega arith);
              };
          never = λ before rest e. never_items (suc (length before)) (n ∷ []) before rest e;
        }

    pub reads-items : (n : N) → Reads (ItemsText Fits after text (n ∷ [])) stop (read_items item after (n ∷ []))
    reads-items n =
        let e = ended (n ∷ []) in
        record { exact = exact-simply (simply-items n); sample = e.0; sample_text = spelled after text (n ∷ []) e.0; derives = record { derives = e.1; is = refl } }
