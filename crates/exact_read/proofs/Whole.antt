-- Whole inputs are read exactly.
use Rattle.std.proofs.Common.{◌≡◌, Bool, true, false, List, [], ◌∷◌, ◌++◌, Result, Ok, Err, refl, ap, sym, ◌∙◌, subst, append-nil, cond}
use Rattle.exact_read.specs.Reading.{Fault, LimitExceeded, Wrong, Outcome, Parser, Marks, plains, limit}
use Rattle.exact_read.specs.Exact.{Exact}
use Rattle.exact_read.specs.Whole.{IsWhole, IsWrongAt, IsLimitExceeded}
use Rattle.exact_read.specs.Grammar.{anything, at_end, read_whole}
use Rattle.exact_read.proofs.Parts.{stops_anything}
use Rattle.exact_read.proofs.Basics.{limit-within, ok, err, ok_parts, err_parts}

-- a text is never read as one that goes on after it
limit_ends : {T U K X : Type 0} (marks : Marks T U) (text : List U) (x y : X) (token : T) (more : List T) (kind : K) → (limit marks text [] (ok {K = K} x []) ≡ ok y (token ∷ more) → ⊥) × (limit marks text [] (ok {K = K} x []) ≡ err (Wrong kind) (token ∷ more) → ⊥) × ((rest : List T) → limit marks text [] (ok {K = K} x []) ≡ err (Wrong kind) rest → ⊥)
limit_ends {K = K} marks [] x y token more kind = (λ e. let p : [] ≡ token ∷ more = (ok_parts {K = K} e).1 in cc, λ e. cc, λ rest e. cc)
limit_ends {T} {U} {K} {X} marks (u ∷ text) x y token more kind = by_mark (marks.over u) (limit_ends marks text x y token more kind)
  where
    by_mark : (b : Bool) → (limit marks text [] (ok {K = K} x []) ≡ ok y (token ∷ more) → ⊥) × (limit marks text [] (ok {K = K} x []) ≡ err (Wrong kind) (token ∷ more) → ⊥) × ((rest : List T) → limit marks text [] (ok {K = K} x []) ≡ err (Wrong kind) rest → ⊥) →
        (cond b (err LimitExceeded (marks.plain u ∷ plains marks text ++ [])) (limit marks text [] (ok {K = K} x [])) ≡ ok y (token ∷ more) → ⊥) × (cond b (err LimitExceeded (marks.plain u ∷ plains marks text ++ [])) (limit marks text [] (ok {K = K} x [])) ≡ err (Wrong kind) (token ∷ more) → ⊥) × ((rest : List T) → cond b (err LimitExceeded (marks.plain u ∷ plains marks text ++ [])) (limit marks text [] (ok {K = K} x [])) ≡ err (Wrong kind) rest → ⊥)
    by_mark false h = h
    by_mark true h = (λ e. cc, λ e. let p : LimitExceeded ≡ Wrong kind = (err_parts {X = X} e).0 in cc, λ rest e. let p : LimitExceeded ≡ Wrong kind = (err_parts {X = X} e).0 in cc)

-- how a whole input ends
data WholeEnded {T K X : Type 0} (kind : K) (read : Parser T K X) (tokens : List T) : Result X (Fault K × List T) → Type 0 where
  whole : (x : X) → read tokens ≡ Ok (x, []) → WholeEnded kind read tokens (Ok x)
  following : (x : X) (token : T) (more : List T) → read tokens ≡ Ok (x, token ∷ more) → WholeEnded kind read tokens (Err (Wrong kind, token ∷ more))
  inside : (fault : Fault K) (rest : List T) → read tokens ≡ Err (fault, rest) → WholeEnded kind read tokens (Err (fault, rest))

whole_ended : {T K X : Type 0} (kind : K) (read : Parser T K X) (tokens : List T) → WholeEnded kind read tokens (read_whole kind read tokens)
whole_ended {T} {K} {X} kind read tokens = by_outcome (read tokens) refl
  where
    by_outcome : (o : Outcome T K X) → read tokens ≡ o → WholeEnded kind read tokens (at_end kind o)
    by_outcome (Ok (x, [])) e = whole x e
    by_outcome (Ok (x, token ∷ more)) e = following x token more e
    by_outcome (Err (fault, rest)) e = inside fault rest e

-- what a parser of whole inputs gives
pub record ExactWhole {T U K X : Type 0} (marks : Marks T U) (S : X → List U → Type 0) (read : List T → Result X (Fault K × List T)) : Type 0 where
  pub found : (tokens : List T) (value : X) → read tokens ≡ Ok value → IsWhole marks S tokens value
  pub only : (tokens : List T) (value : X) → IsWhole marks S tokens value → read tokens ≡ Ok value
  pub wrong : (tokens : List T) (kind : K) (rest : List T) → read tokens ≡ Err (Wrong kind, rest) → IsWrongAt marks S tokens rest
  pub exceeded : (tokens rest : List T) → read tokens ≡ Err (LimitExceeded, rest) → IsLimitExceeded marks S tokens rest

pub exact-whole : {T U K X : Type 0} {marks : Marks T U} {S : X → List U → Type 0} {stop : X → T → Bool} {read : Parser T K X} (kind : K) → Exact marks anything S stop read → ExactWhole marks S (read_whole kind read)
exact-whole {T} {U} {K} {X} {marks} {S} {stop} {read} kind is =
    record {
      found = λ tokens value e. found_by tokens value (subst (WholeEnded kind read tokens) e (whole_ended kind read tokens));
      only = λ tokens value w. ap (at_end kind) (ap read (w.cut ∙ sym (append-nil (plains marks w.text))) ∙ read_again value w.text w.derives ∙ limit-within marks w.text [] (Ok (value, [])) w.within);
      wrong = λ tokens k rest e. wrong_by tokens k rest (subst (WholeEnded kind read tokens) e (whole_ended kind read tokens));
      exceeded = λ tokens rest e. exceeded_by tokens rest (subst (WholeEnded kind read tokens) e (whole_ended kind read tokens));
    }
  where
    read_again : (value : X) (text : List U) → S value text → read (plains marks text ++ []) ≡ limit marks text [] (Ok (value, []))
    read_again value text derives = is.again value text [] derives tt (stops_anything (plains marks text ++ []))

    found_by : (tokens : List T) (value : X) → WholeEnded kind read tokens (Ok value) → IsWhole marks S tokens value
    found_by tokens value (whole x e) =
        let one = is.takes tokens x [] (stops_anything tokens) e in
        record { text = one.text; cut = one.cut ∙ append-nil (plains marks one.text); derives = one.derives; within = one.within }

    wrong_by : (tokens : List T) (k : K) (rest : List T) → WholeEnded kind read tokens (Err (Wrong k, rest)) → IsWrongAt marks S tokens rest
    wrong_by tokens k rest (following x token more e) =
        let one = is.takes tokens x (token ∷ more) (stops_anything tokens) e in
        record {
          prefix = one.text;
          cut = one.cut;
          within = one.within;
          value = x;
          more = [];
          derives = subst (S x) (sym (append-nil one.text)) one.derives;
          none = record {
            at_end = λ value text derives none cut. absurd (cc);
            at_token = λ value text t old new derives here cut.
                let same : token ≡ t = cc in
                let goes : read (plains marks one.text ++ token ∷ new) ≡ Ok (x, token ∷ new) = is.again x one.text (token ∷ new) one.derives one.stops (stops_anything _) ∙ limit-within marks one.text _ _ one.within in
                (limit_ends {K = K} marks text value x token new kind).0 (sym (read_again value text derives) ∙ ap read (append-nil (plains marks text) ∙ cut ∙ ap (λ c. plains marks one.text ++ c ∷ new) (sym same)) ∙ goes);
          };
        }
    wrong_by tokens k rest (inside fault more e) =
        let one = is.wrongs tokens k rest (stops_anything tokens) e in
        record {
          prefix = one.prefix;
          cut = one.cut;
          within = one.within;
          value = one.value;
          more = one.more;
          derives = one.derives;
          none = record {
            at_end = λ value text derives none cut.
                let same : plains marks text ++ [] ≡ tokens = append-nil (plains marks text) ∙ cut ∙ sym (one.cut ∙ ap (λ r. plains marks one.prefix ++ r) none ∙ append-nil (plains marks one.prefix)) in
                no_wrong text value k rest (sym (read_again value text derives) ∙ ap read same ∙ e);
            at_token = λ value text t old new derives here cut.
                no_wrong text value k (t ∷ new) (sym (read_again value text derives) ∙ ap read (append-nil (plains marks text) ∙ cut) ∙ one.whatever t old new here);
          };
        }
      where
        no_wrong : (text : List U) (value : X) (k : K) (rest : List T) → limit marks text [] (ok {K = K} value []) ≡ err (Wrong k) rest → ⊥
        no_wrong [] value k rest e = absurd (cc)
        no_wrong (u ∷ text) value k rest e = (limit_ends {K = K} marks (u ∷ text) value value (marks.plain u) [] k).2 rest e

    exceeded_by : (tokens rest : List T) → WholeEnded kind read tokens (Err (LimitExceeded, rest)) → IsLimitExceeded marks S tokens rest
    exceeded_by tokens rest (inside fault more e) = is.exceeds tokens rest (stops_anything tokens) e
