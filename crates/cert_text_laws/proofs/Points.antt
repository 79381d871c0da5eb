-- Points are read exactly.
use Rattle.std.specs.Prelude.{flat_map, All, codes, decimal}
use Rattle.std.proofs.Common.{◌≡◌, ℕ, ◌^◌, Bool, true, false, List, [], ◌∷◌, ◌++◌, refl, ap, sym, ◌∙◌, subst, append_assoc, append-nil, IsTrue, arith, length, ◌<◌}
use Rattle.std.proofs.lemmas.List.Elements.{All-nil, All-cons, All-head, All-tail}
use Rattle.exact_read.specs.Reading.{Stops}
use Rattle.exact_read.specs.Grammar.{anything}
use Rattle.exact_read.proofs.Parts.{stops_anything}
use Rattle.proof_tree_spec.specs.declared.Place.{Place}
use Rattle.proof_tree_spec.specs.declared.Place.TheVariants as place
use Rattle.proof_tree_spec.specs.Proofs.{BinaryPoint, SourcePoint}
use Rattle.cert_text_spec.specs.Derivation.{Derives, none, some, spelled}
use Rattle.cert_text_spec.specs.Points.{IsNumber, address_text, binary_text, place_text, source_text, number_of, IsBinaryPoint, IsSourcePoint}
use Rattle.cert_text_laws.specs.Readers.{Reads, Word, here, there, not_digit, read_word, given}
use Rattle.cert_text_laws.specs.Parts.{read_number, Stepped, after_step, read_address_step, binary_of, read_binary, place_words, with_number, read_place_end, read_place, read_place_step, source_of, read_source}
use Rattle.cert_text_laws.proofs.Bytes.{reads-then, reads-as, reads-same}
use Rattle.cert_text_laws.proofs.Ends.{prefix_free, reads-table}
use Rattle.cert_text_laws.proofs.Decimals.{Decimal, reads-decimal}
use Rattle.cert_text_laws.proofs.Addresses.{address_first, reads-address}
use Rattle.cert_text_laws.proofs.Items.{Each, ItemText, Productions, reads-items}
use Rattle.cert_text_laws.proofs.Loops.{item-shorter}

pub reads-number : Reads (Decimal 0 (2 ^ 32)) not_digit read_number
reads-number = reads-decimal 0 (2 ^ 32) (omega arith) (omega arith) (omega arith)

-- `/`, or what ends a point
abbrev pub slash : (end : List ℕ) → Bool → List ℕ
slash end true = end
slash end false = codes "/"

abbrev pub slashes : (end : List ℕ) → List (List ℕ × Bool)
slashes end = (codes "/", false) ∷ (end, true) ∷ []

slash_word : (end : List ℕ) (last : Bool) (text : List ℕ) → Word last text (slashes end) → text ≡ slash end last
slash_word end last text (here rest) = refl
slash_word end last text (there entry rest (here rest')) = refl
slash_word end last text (there entry rest (there entry' rest' w)) = elim w [ ]

word_slash : (end : List ℕ) (last : Bool) (text : List ℕ) → text ≡ slash end last → Word last text (slashes end)
word_slash end false text e = subst (λ t. Word false t (slashes end)) (sym e) (here ((end, true) ∷ []))
word_slash end true text e = subst (λ t. Word true t (slashes end)) (sym e) (there (codes "/", false) ((end, true) ∷ []) (here []))

-- nothing is asked of what comes later
always : {X : Type 0} → X → Type 0
always x = Unit {0}

-- ---- binary points

StepFits : Unit {0} → Stepped ℕ → Type 0
StepFits u step = IsNumber step.0

abbrev step_text : (end : List ℕ) → Unit {0} → Stepped ℕ → List ℕ
step_text end u step = address_text step.0 ++ slash end step.1

-- the steps of a point
binary_steps : List ℕ → ℕ → List (Stepped ℕ)
binary_steps [] a = (a, true) ∷ []
binary_steps (b ∷ path) a = (b, false) ∷ binary_steps path a

-- a point and what ends it
pub record BinaryText (end : List ℕ) (p : BinaryPoint) (text : List ℕ) : Type 0 where
  pub is_point : IsBinaryPoint p
  pub is : text ≡ binary_text p ++ end

module _ (end : List ℕ) (free : prefix_free (slashes end) ≡ true) where
  step_read : (u : Unit {0}) → Reads (ItemText StepFits (step_text end) u) anything (read_address_step end u)
  unfolding StepFits
  step_read u =
      reads-same (ItemText StepFits (step_text end) u)
      (λ step text d. record { fits = d.first.number; is = d.cut ∙ ap (λ t. t ++ d.right) d.first.is ∙ ap (λ t. address_text step.0 ++ t) (slash_word end step.1 d.right d.second) })
      (λ step text i. record { left = address_text step.0; right = slash end step.1; cut = i.is; first = record { number = i.fits; is = refl }; second = word_slash end step.1 (slash end step.1) refl })
      (reads-then reads-address (λ a. reads-table (codes "/", false) ((end, true) ∷ []) free) (λ a last text rest w stops. stops_anything (text ++ rest)))

  binary_productions : Productions StepFits after_step (step_text end) always anything
  unfolding StepFits always
  binary_productions =
      record {
        first = λ u step fits. let f = address_first step.0 in (f.0, f.1 ++ slash end step.1, ap (λ t. t ++ slash end step.1) f.2, λ l. refl);
        later = later;
        ends = λ u. ((0, true) ∷ [], some u [] (0, true) [] (omega arith) none);
      }
    where
      later : (u : Unit {0}) (step : Stepped ℕ) → Each always (after_step u step)
      later u (a, true) = tt
      later u (a, false) = (tt, tt)

  binary_to : (steps : List (Stepped ℕ)) → Derives StepFits after_step (tt {0} ∷ []) steps → IsBinaryPoint (binary_of steps) × (spelled after_step (step_text end) (tt {0} ∷ []) steps ≡ binary_text (binary_of steps) ++ end)
  unfolding StepFits spelled
  binary_to [] d = absurd (elim d [ ])
  binary_to ((a, true) ∷ rest) (some n others i items fits none) = (record { path = All-nil IsNumber; address = fits }, append-nil (address_text a ++ end))
  binary_to ((a, false) ∷ rest) (some n others i items fits d) =
      let h = binary_to rest d in (
        record { path = All-cons IsNumber a (binary_of rest).path fits h.0.path; address = h.0.address },
        ap (λ t. (address_text a ++ codes "/") ++ t) h.1
            ∙ sym (append_assoc (address_text a ++ codes "/") (binary_text (binary_of rest)) end)
            ∙ ap (λ t. t ++ end) (sym (append_assoc (address_text a ++ codes "/") (flat_map (λ b. address_text b ++ codes "/") (binary_of rest).path) (address_text (binary_of rest).address))),
      )

  binary_back : (path : List ℕ) (a : ℕ) → binary_of (binary_steps path a) ≡ record { path = path; address = a }
  unfolding binary_steps
  binary_back [] a = refl
  binary_back (b ∷ path) a = ap (λ (p : BinaryPoint). record { path = b ∷ p.path; address = p.address }) (binary_back path a)

  binary_derives : (path : List ℕ) (a : ℕ) → All IsNumber path → IsNumber a → Derives StepFits after_step (tt {0} ∷ []) (binary_steps path a)
  unfolding binary_steps StepFits
  binary_derives [] a l h = some tt [] (a, true) [] h none
  binary_derives (b ∷ path) a l h = some tt [] (b, false) (binary_steps path a) (All-head IsNumber b path l) (binary_derives path a (All-tail IsNumber b path l) h)

  pub reads-binary : Reads (BinaryText end) anything (read_binary end)
  reads-binary =
      reads-as binary_of (BinaryText end)
      (λ steps text d. let h = binary_to steps d.derives in record { is_point = h.0; is = d.is ∙ h.1 })
      (λ p text b.
      let steps = binary_steps p.path p.address in
      let d = binary_derives p.path p.address b.is_point.path b.is_point.address in
      let same : binary_of steps ≡ p = binary_back p.path p.address in
      (steps, sym same, record { derives = d; is = b.is ∙ ap (λ (q : BinaryPoint). binary_text q ++ end) (sym same) ∙ sym (binary_to steps d).1 }))
      (reads-items StepFits after_step (step_text end) always anything (read_address_step end) binary_productions step_read tt)

-- ---- places

pub record PlaceText (p : Place) (text : List ℕ) : Type 0 where
  pub number : IsNumber (number_of p)
  pub is : text ≡ place_text p

place_letter : Place → List ℕ
place_letter (place.Test n) = codes "t"
place_letter (place.Body n) = codes "b"
place_letter (place.Call n) = codes "k"

record PlaceWord (p : Place) (text : List ℕ) : Type 0 where
  letter : text ≡ place_letter p

word_place : (p : Place) (text : List ℕ) → Word p text place_words → PlaceWord p text
unfolding place_letter
word_place p text (here rest) = record { letter = refl }
word_place p text (there e1 r1 (here rest)) = record { letter = refl }
word_place p text (there e1 r1 (there e2 r2 (here rest))) = record { letter = refl }
word_place p text (there e1 r1 (there e2 r2 (there e3 r3 w))) = elim w [ ]

place_word : (p : Place) → Word (with_number p 0) (place_letter p) place_words
unfolding place_letter
place_word (place.Test n) = here _
place_word (place.Body n) = there _ _ (here _)
place_word (place.Call n) = there _ _ (there _ _ (here _))

place_spelled : (p : Place) (n : ℕ) → place_text (with_number p n) ≡ place_letter p ++ decimal n
unfolding place_letter
place_spelled (place.Test m) n = refl
place_spelled (place.Body m) n = refl
place_spelled (place.Call m) n = refl

place_numbered : (p : Place) (n : ℕ) → number_of (with_number p n) ≡ n
place_numbered (place.Test m) n = refl
place_numbered (place.Body m) n = refl
place_numbered (place.Call m) n = refl

place_again : (p : Place) → with_number (with_number p 0) (number_of p) ≡ p
place_again (place.Test m) = refl
place_again (place.Body m) = refl
place_again (place.Call m) = refl

same_letter : (p : Place) (n : ℕ) → place_letter (with_number p n) ≡ place_letter p
unfolding place_letter
same_letter (place.Test m) n = refl
same_letter (place.Body m) n = refl
same_letter (place.Call m) n = refl

pub reads-place : Reads PlaceText not_digit read_place
reads-place =
    reads-as (λ p. with_number p.0 p.1) PlaceText
    (λ p text d.
    let w = word_place p.0 d.left d.first in
    record {
      number = subst IsNumber (sym (place_numbered p.0 p.1)) d.second.below;
      is = d.cut ∙ ap (λ t. t ++ d.right) w.letter ∙ ap (λ t. place_letter p.0 ++ t) d.second.is ∙ sym (place_spelled p.0 p.1);
    })
    (λ p text t. (
      (with_number p 0, number_of p),
      sym (place_again p),
      record {
        left = place_letter p;
        right = decimal (number_of p);
        cut = t.is ∙ ap place_text (sym (place_again p)) ∙ place_spelled (with_number p 0) (number_of p) ∙ ap (λ l. l ++ decimal (number_of p)) (same_letter p 0);
        first = place_word p;
        second = record { from = omega arith; below = t.number; is = refl };
      },
    ))
    (reads-then (reads-table (codes "t", place.Test 0) ((codes "b", place.Body 0) ∷ (codes "k", place.Call 0) ∷ []) refl) (λ p. reads-number) (λ p n text rest d stops. stops_anything (text ++ rest)))

-- ---- source points

-- a place that isn't the last is a call
abbrev MayEnd : Place → Bool → Type 0
MayEnd (place.Call n) last = Unit {0}
MayEnd p last = last ≡ true

record PlaceFits (u : Unit {0}) (step : Stepped Place) : Type 0 where
  number : IsNumber (number_of step.0)
  ends : MayEnd step.0 step.1

abbrev place_step_text : (end : List ℕ) → Unit {0} → Stepped Place → List ℕ
place_step_text end u step = place_text step.0 ++ slash end step.1

source_steps : List ℕ → Place → List (Stepped Place)
source_steps [] p = (p, true) ∷ []
source_steps (n ∷ path) p = (place.Call n, false) ∷ source_steps path p

pub record SourceText (end : List ℕ) (p : SourcePoint) (text : List ℕ) : Type 0 where
  pub is_point : IsSourcePoint p
  pub is : text ≡ source_text p ++ end

-- the end of a step
record EndText (end : List ℕ) (p : Place) (last : Bool) (text : List ℕ) : Type 0 where
  may : MayEnd p last
  is : text ≡ slash end last

always_ends : (p : Place) → MayEnd p true
always_ends (place.Test n) = refl
always_ends (place.Body n) = refl
always_ends (place.Call n) = tt

module _ (c : ℕ) (rest_end : List ℕ) (free : prefix_free (slashes (c ∷ rest_end)) ≡ true) (no : IsTrue (not_digit c)) where
  end : List ℕ
  end = c ∷ rest_end

  end_alone : Reads (λ last text. (last ≡ true) × (text ≡ c ∷ rest_end)) anything (read_word ((c ∷ rest_end, true) ∷ []))
  end_alone =
      reads-same (λ last text. (last ≡ true) × (text ≡ c ∷ rest_end)) only
      (λ last text e. subst (λ l. Word l text ((c ∷ rest_end, true) ∷ [])) (sym e.0) (subst (λ t. Word true t ((c ∷ rest_end, true) ∷ [])) (sym e.1) (here [])))
      (reads-table (c ∷ rest_end, true) [] refl)
    where
      only : (last : Bool) (text : List ℕ) → Word last text ((c ∷ rest_end, true) ∷ []) → (last ≡ true) × (text ≡ c ∷ rest_end)
      only last text (here others) = (refl, refl)
      only last text (there entry others w) = elim w [ ]

  end_read : (p : Place) → Reads (EndText (c ∷ rest_end) p) anything (read_place_end (c ∷ rest_end) p)
  end_read (place.Call n) =
      reads-same (EndText (c ∷ rest_end) (place.Call n)) (λ last text w. record { may = tt; is = slash_word (c ∷ rest_end) last text w }) (λ last text e. word_slash (c ∷ rest_end) last text e.is)
      (reads-table (codes "/", false) ((c ∷ rest_end, true) ∷ []) free)
  end_read (place.Test n) =
      reads-same (EndText (c ∷ rest_end) (place.Test n)) (λ last text e. record { may = e.0; is = e.1 ∙ ap (slash (c ∷ rest_end)) (sym e.0) }) (λ last text e. (e.may, e.is ∙ ap (slash (c ∷ rest_end)) e.may)) end_alone
  end_read (place.Body n) =
      reads-same (EndText (c ∷ rest_end) (place.Body n)) (λ last text e. record { may = e.0; is = e.1 ∙ ap (slash (c ∷ rest_end)) (sym e.0) }) (λ last text e. (e.may, e.is ∙ ap (slash (c ∷ rest_end)) e.may)) end_alone

  stops_slash : (last : Bool) (text rest : List ℕ) → text ≡ slash (c ∷ rest_end) last → Stops not_digit (text ++ rest)
  stops_slash true text rest e = subst (λ t. Stops not_digit (t ++ rest)) (sym e) no
  stops_slash false text rest e = subst (λ t. Stops not_digit (t ++ rest)) (sym e) refl

  place_step_read : (u : Unit {0}) → Reads (ItemText PlaceFits (place_step_text (c ∷ rest_end)) u) anything (read_place_step (c ∷ rest_end) u)
  place_step_read u =
      reads-same (ItemText PlaceFits (place_step_text (c ∷ rest_end)) u)
      (λ step text d. record { fits = record { number = d.first.number; ends = d.second.may }; is = d.cut ∙ ap (λ t. t ++ d.right) d.first.is ∙ ap (λ t. place_text step.0 ++ t) d.second.is })
      (λ step text i. record { left = place_text step.0; right = slash (c ∷ rest_end) step.1; cut = i.is; first = record { number = i.fits.number; is = refl }; second = record { may = i.fits.ends; is = refl } })
      (reads-then reads-place end_read (λ p last text rest e stops. stops_slash last text rest e.is))

  source_productions : Productions PlaceFits after_step (place_step_text (c ∷ rest_end)) always anything
  unfolding always
  source_productions =
      record {
        first = λ u step fits. first step.0 step.1;
        later = later;
        ends = λ u. ((place.Call 0, true) ∷ [], some u [] (place.Call 0, true) [] (record { number = omega arith; ends = tt }) none);
      }
    where
      first : (p : Place) (last : Bool) → (d : ℕ) × (more : List ℕ) × (place_text p ++ slash (c ∷ rest_end) last ≡ d ∷ more) × (Unit {0} → IsTrue (anything d))
      first (place.Test n) last = (116, decimal n ++ slash (c ∷ rest_end) last, refl, λ l. refl)
      first (place.Body n) last = (98, decimal n ++ slash (c ∷ rest_end) last, refl, λ l. refl)
      first (place.Call n) last = (107, decimal n ++ slash (c ∷ rest_end) last, refl, λ l. refl)

      later : (u : Unit {0}) (step : Stepped Place) → Each always (after_step u step)
      later u (a, true) = tt
      later u (a, false) = (tt, tt)

  source_to : (steps : List (Stepped Place)) → Derives PlaceFits after_step (tt {0} ∷ []) steps → IsSourcePoint (source_of steps) × (spelled after_step (place_step_text (c ∷ rest_end)) (tt {0} ∷ []) steps ≡ source_text (source_of steps) ++ (c ∷ rest_end))
  unfolding spelled
  source_to [] d = absurd (elim d [ ])
  source_to ((p, true) ∷ rest) (some n others i items fits none) = (record { path = All-nil IsNumber; place = fits.number }, append-nil (place_text p ++ (c ∷ rest_end)))
  source_to ((place.Call m, false) ∷ rest) (some n others i items fits d) =
      let h = source_to rest d in
      let lead : List ℕ = codes "k" ++ (decimal m ++ codes "/") in (
        record { path = All-cons IsNumber m (source_of rest).path fits.number h.0.path; place = h.0.place },
        ap (λ t. lead ++ t) h.1
            ∙ sym (append_assoc lead (source_text (source_of rest)) (c ∷ rest_end))
            ∙ ap (λ t. t ++ (c ∷ rest_end)) (sym (append_assoc lead (flat_map (λ k. codes "k" ++ (decimal k ++ codes "/")) (source_of rest).path) (place_text (source_of rest).place))),
      )
  source_to ((place.Test m, false) ∷ rest) (some n others i items fits d) = absurd (no_end fits.ends)
    where
      no_end : false ≡ true → ⊥
      no_end e = cc
  source_to ((place.Body m, false) ∷ rest) (some n others i items fits d) = absurd (no_end fits.ends)
    where
      no_end : false ≡ true → ⊥
      no_end e = cc

  source_back : (path : List ℕ) (p : Place) → source_of (source_steps path p) ≡ record { path = path; place = p }
  unfolding source_steps
  source_back [] p = refl
  source_back (n ∷ path) p = ap (λ (q : SourcePoint). record { path = n ∷ q.path; place = q.place }) (source_back path p)

  source_derives : (path : List ℕ) (p : Place) → All IsNumber path → IsNumber (number_of p) → Derives PlaceFits after_step (tt {0} ∷ []) (source_steps path p)
  unfolding source_steps
  source_derives [] p l h = some tt [] (p, true) [] (record { number = h; ends = always_ends p }) none
  source_derives (n ∷ path) p l h = some tt [] (place.Call n, false) (source_steps path p) (record { number = All-head IsNumber n path l; ends = tt }) (source_derives path p (All-tail IsNumber n path l) h)

  pub reads-source : Reads (SourceText (c ∷ rest_end)) anything (read_source (c ∷ rest_end))
  reads-source =
      reads-as source_of (SourceText (c ∷ rest_end))
      (λ steps text d. let h = source_to steps d.derives in record { is_point = h.0; is = d.is ∙ h.1 })
      (λ p text b.
      let steps = source_steps p.path p.place in
      let d = source_derives p.path p.place b.is_point.path b.is_point.place in
      let same : source_of steps ≡ p = source_back p.path p.place in
      (steps, sym same, record { derives = d; is = b.is ∙ ap (λ (q : SourcePoint). source_text q ++ (c ∷ rest_end)) (sym same) ∙ sym (source_to steps d).1 }))
      (reads-items PlaceFits after_step (place_step_text (c ∷ rest_end)) always anything (read_place_step (c ∷ rest_end)) source_productions place_step_read tt)

-- a step of a point's path takes a byte at least
pub address_step_shorter : (end : List ℕ) (free : prefix_free (slashes end) ≡ true) (rest middle : List ℕ) (step : Stepped ℕ) → read_address_step end (tt {0}) rest ≡ given step middle → length middle < length rest
address_step_shorter end free rest middle step e = item-shorter (read_address_step end) after_step (binary_productions end free) (step_read end free) (tt {0}) rest middle step e

pub place_step_shorter : (c : ℕ) (end : List ℕ) (free : prefix_free (slashes (c ∷ end)) ≡ true) (apart : IsTrue (not_digit c)) (rest middle : List ℕ) (step : Stepped Place) → read_place_step (c ∷ end) (tt {0}) rest ≡ given step middle → length middle < length rest
place_step_shorter c end free apart rest middle step e = item-shorter (read_place_step (c ∷ end)) after_step (source_productions c end free apart) (place_step_read c end free apart) (tt {0}) rest middle step e
