-- Readers of bytes: exactness in fewer words, and parts one after the other.
use Rattle.std.proofs.Common.{◌≡◌, ℕ, Bool, true, false, List, [], ◌∷◌, ◌++◌, Err, refl, ap, sym, ◌∙◌, subst}
use Rattle.exact_read.specs.Reading.{LimitExceeded, Outcome, plains, Within, limit, Stops}
use Rattle.exact_read.specs.Exact.{Exact}
use Rattle.exact_read.specs.Whole.{IsLimitExceeded}
use Rattle.exact_read.specs.Grammar.{anything, read_then, Then, read_map}
use Rattle.exact_read.proofs.Then.{exact-then}
use Rattle.exact_read.proofs.Basics.{ok_parts, err_parts}
use Rattle.exact_read.proofs.Parts.{exact-map, exact-same, stops_anything}
use Rattle.cert_text_laws.specs.Readers.{bytes, Reader, refused, given, Reads}

pub plains-bytes : (text : List ℕ) → plains bytes text ≡ text
plains-bytes [] = refl
plains-bytes (c ∷ text) = ap (λ t. c ∷ t) (plains-bytes text)

pub within-bytes : (text : List ℕ) → Within bytes text
within-bytes [] = tt
within-bytes (c ∷ text) = (refl, within-bytes text)

pub limit-bytes : {X : Type 0} (text rest : List ℕ) (outcome : Outcome ℕ (Unit {0}) X) → limit bytes text rest outcome ≡ outcome
limit-bytes [] rest outcome = refl
limit-bytes (c ∷ text) rest outcome = limit-bytes text rest outcome

-- what equal outcomes have
pub given_parts : {X : Type 0} {x y : X} {left right : List ℕ} → given x left ≡ given y right → (x ≡ y) × (left ≡ right)
given_parts {X} e = ok_parts {K = Unit {0}} {X = X} e

pub refused_rest : {X : Type 0} {left right : List ℕ} → refused {X = X} left ≡ refused right → left ≡ right
refused_rest {X} e = (err_parts {X = X} e).1

pub refused_kind : {X : Type 0} {left right : List ℕ} → refused {X = X} left ≡ Err (LimitExceeded, right) → ⊥
refused_kind {X} e = let q = (err_parts {X = X} e).0 in cc

pub given_kind : {X : Type 0} {value : X} {left right : List ℕ} → given value left ≡ Err (LimitExceeded, right) → ⊥
given_kind {X} e = cc

pub refused_again : {X Y : Type 0} {left right : List ℕ} → refused {X = X} left ≡ refused right → refused {X = Y} left ≡ refused right
refused_again {X} {Y} e = ap (λ r. refused {X = Y} r) (refused_rest {X = X} e)

-- what was read is a text of the grammar
pub record Taken {X : Type 0} (S : X → List ℕ → Type 0) (stop : ℕ → Bool) (before : List ℕ) (value : X) (rest : List ℕ) : Type 0 where
  pub text : List ℕ
  pub cut : before ≡ text ++ rest
  pub derives : S value text
  pub stops : Stops stop rest

-- the bytes before the wrong one begin a text, and it is wrong whatever follows
pub record Refused {X : Type 0} (S : X → List ℕ → Type 0) (read : Reader X) (before rest : List ℕ) : Type 0 where
  pub prefix : List ℕ
  pub cut : before ≡ prefix ++ rest
  pub value : X
  pub more : List ℕ
  pub derives : S value (prefix ++ more)
  pub whatever : (c : ℕ) (old new : List ℕ) → rest ≡ c ∷ old → read (prefix ++ c ∷ new) ≡ refused (c ∷ new)

pub record Simply {X : Type 0} (S : X → List ℕ → Type 0) (stop : ℕ → Bool) (read : Reader X) : Type 0 where
  pub takes : (before : List ℕ) (value : X) (rest : List ℕ) → read before ≡ given value rest → Taken S stop before value rest
  pub again : (value : X) (text rest : List ℕ) → S value text → Stops stop rest → read (text ++ rest) ≡ given value rest
  pub wrongs : (before rest : List ℕ) → read before ≡ refused rest → Refused S read before rest
  pub never : (before rest : List ℕ) → read before ≡ Err (LimitExceeded, rest) → ⊥

pub exact-simply : {X : Type 0} {S : X → List ℕ → Type 0} {stop : ℕ → Bool} {read : Reader X} → Simply S stop read → Exact bytes anything S (λ _. stop) read
exact-simply {X} {S} {stop} {read} is =
    record {
      takes = λ before x rest enters e. let one = is.takes before x rest e in
          record { text = one.text; cut = one.cut ∙ ap (λ t. t ++ rest) (sym (plains-bytes one.text)); derives = one.derives; within = within-bytes one.text; stops = one.stops };
      again = λ x text rest derives stops enters.
          ap (λ t. read (t ++ rest)) (plains-bytes text) ∙ is.again x text rest derives stops ∙ sym (limit-bytes text rest (given x rest));
      wrongs = λ before kind rest enters e. let one = is.wrongs before rest e in
          record {
            prefix = one.prefix;
            cut = one.cut ∙ ap (λ t. t ++ rest) (sym (plains-bytes one.prefix));
            within = within-bytes one.prefix;
            value = one.value;
            more = one.more;
            derives = one.derives;
            whatever = λ c old new here. ap (λ t. read (t ++ c ∷ new)) (plains-bytes one.prefix) ∙ one.whatever c old new here;
          };
      exceeds = λ before rest enters e. absurd (is.never before rest e);
    }

pub simply-exact : {X : Type 0} {S : X → List ℕ → Type 0} {stop : ℕ → Bool} {read : Reader X} → Exact bytes anything S (λ _. stop) read → Simply S stop read
simply-exact {X} {S} {stop} {read} is =
    record {
      takes = λ before x rest e. let one = is.takes before x rest (stops_anything before) e in
          record { text = one.text; cut = one.cut ∙ ap (λ t. t ++ rest) (plains-bytes one.text); derives = one.derives; stops = one.stops };
      again = λ x text rest derives stops.
          ap (λ t. read (t ++ rest)) (sym (plains-bytes text)) ∙ is.again x text rest derives stops (stops_anything (plains bytes text ++ rest)) ∙ limit-bytes text rest (given x rest);
      wrongs = λ before rest e. let one = is.wrongs before (tt {0}) rest (stops_anything before) e in
          record {
            prefix = one.prefix;
            cut = one.cut ∙ ap (λ t. t ++ rest) (plains-bytes one.prefix);
            value = one.value;
            more = one.more;
            derives = one.derives;
            whatever = λ c old new here. ap (λ t. read (t ++ c ∷ new)) (sym (plains-bytes one.prefix)) ∙ one.whatever c old new here;
          };
      never = λ before rest e. not_over (is.exceeds before rest (stops_anything before) e);
    }
  where
    not_over : {before rest : List ℕ} → IsLimitExceeded bytes S before rest → ⊥
    not_over one = let e : false ≡ true = one.over in cc

-- ---- parts

-- a part, and one that depends on its value and begins where the first can end
pub reads-then : {X Y : Type 0} {S1 : X → List ℕ → Type 0} {stop1 : ℕ → Bool} {S2 : X → Y → List ℕ → Type 0} {stop2 : ℕ → Bool} {first : Reader X} {second : X → Reader Y}
    → Reads S1 stop1 first → ((x : X) → Reads (S2 x) stop2 (second x))
    → ((x : X) (y : Y) (text rest : List ℕ) → S2 x y text → Stops stop2 rest → Stops stop1 (text ++ rest))
    → Reads (Then S1 S2) stop2 (read_then first second)
reads-then {X} {Y} {S1 = S1} {stop1 = stop1} {S2 = S2} {stop2 = stop2} {second = second} one two ends =
    record {
      exact = exact-then one.exact (λ x. entered x) (record {
        ends = λ x y left right rest a b stops. subst (λ t. Stops stop1 (t ++ rest)) (sym (plains-bytes right)) (ends x y right rest b stops);
        goes_on = λ x left a. let s = two x in (s.sample, s.sample_text, s.derives);
      });
      sample = (one.sample, (two one.sample).sample);
      sample_text = one.sample_text ++ (two one.sample).sample_text;
      derives = record { left = one.sample_text; right = (two one.sample).sample_text; cut = refl; first = one.derives; second = (two one.sample).derives };
    }
  where
    entered : (x : X) → Exact bytes stop1 (S2 x) (λ _. stop2) (second x)
    entered x = exact-same stop1 (S2 x) (second x) (λ token h. refl) (λ y text h. h) (λ y text h. h) (λ before. refl) (two x).exact

-- the same texts for other values, or said in another way
pub reads-as : {X Y : Type 0} {S : X → List ℕ → Type 0} {stop : ℕ → Bool} {read : Reader X} (change : X → Y) (S' : Y → List ℕ → Type 0)
    → ((x : X) (text : List ℕ) → S x text → S' (change x) text) → ((y : Y) (text : List ℕ) → S' y text → (x : X) × (y ≡ change x) × S x text)
    → Reads S stop read → Reads S' stop (read_map change read)
reads-as {X} {Y} {S} {stop} {read} change S' to from is =
    record {
      exact = exact-same anything S' (read_map change read) (λ token h. h)
          (λ y text h. subst (λ v. S' v text) (sym h.is) (to h.inner text h.derives))
          (λ y text h. let p = from y text h in record { inner = p.0; is = p.1; derives = p.2 })
          (λ before. refl) (exact-map change (λ _. stop) (λ x. refl) is.exact);
      sample = change is.sample;
      sample_text = is.sample_text;
      derives = to is.sample is.sample_text is.derives;
    }

-- the same, for the same values
pub reads-same : {X : Type 0} {S : X → List ℕ → Type 0} {stop : ℕ → Bool} {read : Reader X} (S' : X → List ℕ → Type 0) → ((x : X) (text : List ℕ) → S x text → S' x text) → ((x : X) (text : List ℕ) → S' x text → S x text)
    → Reads S stop read → Reads S' stop read
reads-same {read = read} S' to from is =
    record {
      exact = exact-same anything S' read (λ token h. h) to from (λ before. refl) is.exact;
      sample = is.sample;
      sample_text = is.sample_text;
      derives = to is.sample is.sample_text is.derives;
    }
