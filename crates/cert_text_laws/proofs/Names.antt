-- Names are read exactly.
use Rattle.std.specs.List.{list_all}
use Rattle.std.proofs.Common.{◌≡◌, ℕ, Bool, true, false, ◌&&◌, not, List, [], ◌∷◌, ◌++◌, Err, refl, ap, sym, ◌∙◌, subst, cond, IsTrue}
use Rattle.exact_read.specs.Reading.{LimitExceeded, Stops}
use Rattle.exact_read.specs.Grammar.{bind}
use Rattle.cert_text_spec.specs.Lines.{is_letter, is_of_name, is_name}
use Rattle.cert_text_laws.specs.Readers.{refused, given, Reads, not_of_name, read_letters, read_name}
use Rattle.cert_text_laws.proofs.Bytes.{Taken, Refused, Simply, exact-simply, given_parts, refused_rest, refused_kind}

pub record Name (value : List ℕ) (text : List ℕ) : Type 0 where
  pub named : is_name value ≡ true
  pub is : text ≡ value

record Letters (before name rest : List ℕ) : Type 0 where
  cut : before ≡ name ++ rest
  are : list_all is_of_name name ≡ true
  stops : Stops not_of_name rest

letters : (before : List ℕ) → (name : List ℕ) × (rest : List ℕ) × (read_letters before ≡ given name rest) × Letters before name rest
letters [] = ([], [], refl, record { cut = refl; are = refl; stops = tt })
letters (c ∷ before) = by_test (is_of_name c) refl (letters before)
  where
    by_test : (b : Bool) → is_of_name c ≡ b → (name : List ℕ) × (rest : List ℕ) × (read_letters before ≡ given name rest) × Letters before name rest
        → (name : List ℕ) × (rest : List ℕ) × (cond b (bind (read_letters before) (λ name rest. given (c ∷ name) rest)) (given [] (c ∷ before)) ≡ given name rest) × Letters (c ∷ before) name rest
    by_test true e h = (c ∷ h.0, h.1, ap (λ o. bind o (λ name rest. given (c ∷ name) rest)) h.2, record { cut = ap (λ t. c ∷ t) h.3.cut; are = rw e h.3.are; stops = h.3.stops })
    by_test false e h = ([], c ∷ before, refl, record { cut = refl; are = refl; stops = ap not e })

again_letters : (name rest : List ℕ) → list_all is_of_name name ≡ true → Stops not_of_name rest → read_letters (name ++ rest) ≡ given name rest
again_letters [] [] are stops = refl
again_letters [] (c ∷ rest) are stops = by_test (is_of_name c) stops
  where
    by_test : (b : Bool) → IsTrue (not b) → cond b (bind (read_letters rest) (λ name rest. given (c ∷ name) rest)) (given [] (c ∷ rest)) ≡ given [] (c ∷ rest)
    by_test true h = absurd (cc)
    by_test false h = refl
again_letters (c ∷ name) rest are stops = by_test (is_of_name c) are (again_letters name rest)
  where
    by_test : (b : Bool) → (b && list_all is_of_name name) ≡ true → (list_all is_of_name name ≡ true → Stops not_of_name rest → read_letters (name ++ rest) ≡ given name rest)
        → cond b (bind (read_letters (name ++ rest)) (λ name rest. given (c ∷ name) rest)) (given [] (c ∷ (name ++ rest))) ≡ given (c ∷ name) rest
    by_test true are again = ap (λ o. bind o (λ name rest. given (c ∷ name) rest)) (again are stops)
    by_test false are again = absurd (cc)

pub simply-name : Simply Name not_of_name read_name
simply-name = record { takes = taken; again = λ value text rest n stops. ap (λ t. read_name (t ++ rest)) n.is ∙ again_name value rest n.named stops; wrongs = wrong; never = none }
  where
    sample : Name (97 ∷ []) (97 ∷ [])
    sample = record { named = refl; is = refl }

    taken : (before value rest : List ℕ) → read_name before ≡ given value rest → Taken Name not_of_name before value rest
    taken [] value rest e = absurd (cc)
    taken (c ∷ before) value rest e = by_test (is_letter c) refl e
      where
        by_test : (b : Bool) → is_letter c ≡ b → cond b (bind (read_letters before) (λ name rest. given (c ∷ name) rest)) (refused (c ∷ before)) ≡ given value rest → Taken Name not_of_name (c ∷ before) value rest
        by_test false l h = absurd (cc)
        by_test true l h =
            let n = letters before in
            let p = given_parts (sym (ap (λ o. bind o (λ name rest. given (c ∷ name) rest)) n.2) ∙ h) in
            record { text = value; cut = ap (λ t. c ∷ t) n.3.cut ∙ ap (λ t. t ++ n.1) p.0 ∙ ap (λ r. value ++ r) p.1; derives = record { named = subst (λ v. is_name v ≡ true) p.0 (rw l n.3.are); is = refl }; stops = subst (Stops not_of_name) p.1 n.3.stops }

    again_name : (value rest : List ℕ) → is_name value ≡ true → Stops not_of_name rest → read_name (value ++ rest) ≡ given value rest
    again_name [] rest named stops = absurd (cc)
    again_name (c ∷ name) rest named stops = by_test (is_letter c) named
      where
        by_test : (b : Bool) → (b && list_all is_of_name name) ≡ true → cond b (bind (read_letters (name ++ rest)) (λ name rest. given (c ∷ name) rest)) (refused (c ∷ (name ++ rest))) ≡ given (c ∷ name) rest
        by_test true are = ap (λ o. bind o (λ name rest. given (c ∷ name) rest)) (again_letters name rest are stops)
        by_test false are = absurd (cc)

    wrong : (before rest : List ℕ) → read_name before ≡ refused rest → Refused Name read_name before rest
    wrong [] rest e =
        let r : [] ≡ rest = refused_rest {X = List ℕ} e in
        record { prefix = []; cut = r; value = 97 ∷ []; more = 97 ∷ []; derives = sample; whatever = λ c old new here. let same : [] ≡ c ∷ old = r ∙ here in absurd (cc) }
    wrong (c ∷ before) rest e = by_test (is_letter c) refl e
      where
        by_test : (b : Bool) → is_letter c ≡ b → cond b (bind (read_letters before) (λ name rest. given (c ∷ name) rest)) (refused (c ∷ before)) ≡ refused rest → Refused Name read_name (c ∷ before) rest
        by_test true l h = let n = letters before in let e : given (c ∷ n.0) n.1 ≡ refused rest = sym (ap (λ o. bind o (λ name rest. given (c ∷ name) rest)) n.2) ∙ h in absurd (cc)
        by_test false l h =
            let r : c ∷ before ≡ rest = refused_rest {X = List ℕ} h in
            record {
              prefix = [];
              cut = r;
              value = 97 ∷ [];
              more = 97 ∷ [];
              derives = sample;
              whatever = λ d old new here. let same : c ∷ before ≡ d ∷ old = r ∙ here in let s : c ≡ d = cc in subst (λ k. read_name (k ∷ new) ≡ refused (k ∷ new)) s (rw l refl);
            }

    none : (before rest : List ℕ) → read_name before ≡ Err (LimitExceeded, rest) → ⊥
    none [] rest e = refused_kind {X = List ℕ} e
    none (c ∷ before) rest e = by_test (is_letter c) e
      where
        by_test : (b : Bool) → cond b (bind (read_letters before) (λ name rest. given (c ∷ name) rest)) (refused (c ∷ before)) ≡ Err (LimitExceeded, rest) → ⊥
        by_test true h = let n = letters before in let e : given (c ∷ n.0) n.1 ≡ Err (LimitExceeded, rest) = sym (ap (λ o. bind o (λ name rest. given (c ∷ name) rest)) n.2) ∙ h in cc
        by_test false h = refused_kind {X = List ℕ} h

pub reads-name : Reads Name not_of_name read_name
reads-name = record { exact = exact-simply simply-name; sample = 97 ∷ []; sample_text = 97 ∷ []; derives = record { named = refl; is = refl } }
