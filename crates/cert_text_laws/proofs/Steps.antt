-- Steps of logs are read exactly.
use Rattle.std.specs.Prelude.{flat_map, All, codes, decimal, ◌==◌}
use Rattle.std.proofs.Common.{◌≡◌, ℕ, ◌<◌, ◌^◌, Bool, true, false, List, [], ◌∷◌, ◌++◌, Option, Some, None, refl, ap, sym, ◌∙◌, subst, append_assoc, append-nil, IsTrue, arith, cond, length}
use Rattle.std.proofs.lemmas.Bool.Decides.{nat_tests}
use Rattle.std.proofs.lemmas.Fmt.{decimal_digit}
use Rattle.std.proofs.lemmas.List.Elements.{All-nil, All-cons, All-head, All-tail}
use Rattle.exact_read.specs.Reading.{Stops}
use Rattle.exact_read.specs.Grammar.{anything, read_map, Or, first, second}
use Rattle.clause_check_spec.specs.declared.Literal.{Literal}
use Rattle.clause_check_spec.specs.Log.{Step}
use Rattle.cert_text_spec.specs.Derivation.{Derives, none, some, spelled}
use Rattle.cert_text_spec.specs.Points.{IsNumber}
use Rattle.cert_text_spec.specs.Lines.{is_digit, IsPositive, literal_text, IsStep, step_text}
use Rattle.cert_text_laws.specs.Readers.{Reads, not_digit, read_items, given}
use Rattle.cert_text_laws.specs.Parts.{read_ended, read_led, read_number, read_positive, literal_of, read_literal, after_literal, hint_end, read_hint, after_hint, literals_in, hints_in, step_of, read_step}
use Rattle.cert_text_laws.proofs.Bytes.{reads-then, reads-as, reads-same}
use Rattle.cert_text_laws.proofs.Ends.{reads-text, reads-ended, reads-led, reads-both, reads-or}
use Rattle.cert_text_laws.proofs.Decimals.{Decimal, reads-decimal, decimal_first}
use Rattle.cert_text_laws.proofs.Items.{Each, ItemText, Productions, reads-items}
use Rattle.cert_text_laws.proofs.Loops.{item-shorter}
use Rattle.cert_text_laws.proofs.Points.{reads-number}

always : {X : Type 0} → X → Type 0
always x = Unit {0}

reads-positive : Reads (Decimal 1 (2 ^ 32)) not_digit read_positive
reads-positive = reads-decimal 1 (2 ^ 32) (omega arith) (omega arith) (omega arith)

-- ---- literals

abbrev LiteralFits : Unit {0} → Option Literal → Type 0
LiteralFits u None = Unit {0}
LiteralFits u (Some l) = IsPositive l.variable

abbrev literal_item : Unit {0} → Option Literal → List ℕ
literal_item u None = codes "0 "
literal_item u (Some l) = literal_text l ++ codes " "

abbrev negated : ℕ → Option Literal
negated n = Some (record { variable = n; is_negated = true })

record NegatedText (o : Option Literal) (text : List ℕ) : Type 0 where
  number : ℕ
  positive : IsPositive number
  same : o ≡ negated number
  is : text ≡ codes "-" ++ (decimal number ++ codes " ")

record PlainText (o : Option Literal) (text : List ℕ) : Type 0 where
  number : ℕ
  below : IsNumber number
  same : o ≡ literal_of number
  is : text ≡ decimal number ++ codes " "

negated_read : Reads NegatedText anything (read_map negated (read_led (codes "-") (read_ended read_positive (codes " "))))
negated_read =
    reads-as negated NegatedText
    (λ n text d. record { number = n; positive = (d.derives.derives.from, d.derives.derives.below); same = refl; is = d.cut ∙ ap (λ t. codes "-" ++ t) (d.derives.cut ∙ ap (λ t. t ++ codes " ") d.derives.derives.is) })
    (λ o text d. (d.number, d.same, record { inside = decimal d.number ++ codes " "; derives = record { inside = decimal d.number; derives = record { from = d.positive.0; below = d.positive.1; is = refl }; cut = refl }; cut = d.is }))
    (reads-led (codes "-") (reads-ended 32 [] refl reads-positive))

plain_read : Reads PlainText anything (read_map literal_of (read_ended read_number (codes " ")))
plain_read =
    reads-as literal_of PlainText
    (λ n text d. record { number = n; below = d.derives.below; same = refl; is = d.cut ∙ ap (λ t. t ++ codes " ") d.derives.is })
    (λ o text d. (d.number, d.same, record { inside = decimal d.number; derives = record { from = omega arith; below = d.below; is = refl }; cut = d.is }))
    (reads-ended 32 [] refl reads-number)

decimal_zero : decimal 0 ≡ 48 ∷ []
decimal_zero = decimal_digit 0 (omega arith)

no_sign : (c : ℕ) → is_digit c ≡ true → (c == 45) ≡ false
no_sign c e = grind (arith, nat_tests)

to_item : (o : Option Literal) (text : List ℕ) → Or NegatedText PlainText o text → ItemText LiteralFits literal_item (tt {0}) o text
to_item o text (first d) =
    subst (λ p. ItemText LiteralFits literal_item (tt {0}) p text) (sym d.same) (record { fits = d.positive; is = d.is })
to_item o text (second d) = subst (λ p. ItemText LiteralFits literal_item (tt {0}) p text) (sym d.same) (by_zero (d.number == 0) refl)
  where
    zero_of : (n : ℕ) → (n == 0) ≡ true → n ≡ 0
    zero_of n e = grind (arith, nat_tests)

    positive_of : (n : ℕ) → (n == 0) ≡ false → 0 < n
    positive_of n e = grind (arith, nat_tests)

    by_zero : (b : Bool) → (d.number == 0) ≡ b → ItemText LiteralFits literal_item (tt {0}) (cond b None (Some (record { variable = d.number; is_negated = false }))) text
    by_zero true e = record { fits = tt; is = d.is ∙ ap (λ n. decimal n ++ codes " ") (zero_of d.number e) ∙ ap (λ t. t ++ codes " ") decimal_zero }
    by_zero false e = record { fits = (positive_of d.number e, d.below); is = d.is }

from_item : (o : Option Literal) (text : List ℕ) → ItemText LiteralFits literal_item (tt {0}) o text → Or NegatedText PlainText o text
from_item None text i = second (record { number = 0; below = omega arith; same = refl; is = i.is ∙ ap (λ t. t ++ codes " ") (sym decimal_zero) })
from_item (Some l) text i = by_sign l.is_negated refl
  where
    plain_of : (n : ℕ) → 0 < n → Some (record { variable = n; is_negated = false }) ≡ literal_of n
    plain_of n h = sym (ap (λ b. cond b None (Some (record { variable = n; is_negated = false }))) (not_zero n h))
      where
        not_zero : (n : ℕ) → 0 < n → (n == 0) ≡ false
        not_zero n h = grind (arith, nat_tests)

    of_sign : (b : Bool) → l.is_negated ≡ b → Some l ≡ Some (record { variable = l.variable; is_negated = b })
    of_sign b e = ap (λ s. Some (record { variable = l.variable; is_negated = s })) e

    by_sign : (b : Bool) → l.is_negated ≡ b → Or NegatedText PlainText (Some l) text
    by_sign true e = first (record { number = l.variable; positive = i.fits; same = of_sign true e; is = i.is ∙ ap (λ s. (cond s (codes "-") [] ++ decimal l.variable) ++ codes " ") e })
    by_sign false e = second (record { number = l.variable; below = i.fits.1; same = of_sign false e ∙ plain_of l.variable i.fits.0; is = i.is ∙ ap (λ s. (cond s (codes "-") [] ++ decimal l.variable) ++ codes " ") e })

literal_read : (u : Unit {0}) → Reads (ItemText LiteralFits literal_item u) anything (read_literal u)
literal_read u =
    reads-same (ItemText LiteralFits literal_item u) to_item from_item
    (reads-or (λ c. c == 45)
    (record { first = λ o text d. (45, decimal d.number ++ codes " ", d.is, refl) })
    (record { first = λ o text d. let f = decimal_first d.number (omega (arith, d.below)) in (f.digit, f.more ++ codes " ", d.is ∙ ap (λ t. t ++ codes " ") f.is, no_sign f.digit f.digit_is) })
    negated_read plain_read)

literal_productions : Productions LiteralFits after_literal literal_item always anything
unfolding always
literal_productions =
    record {
      first = first_byte;
      later = later;
      ends = λ u. (None ∷ [], some u [] None [] tt none);
    }
  where
    first_byte : (u : Unit {0}) (o : Option Literal) → LiteralFits u o → (c : ℕ) × (more : List ℕ) × (literal_item u o ≡ c ∷ more) × (Unit {0} → IsTrue (anything c))
    first_byte u None fits = (48, codes " ", refl, λ l. refl)
    first_byte u (Some l) fits = by_sign l.is_negated
      where
        by_sign : (b : Bool) → (c : ℕ) × (more : List ℕ) × ((cond b (codes "-") [] ++ decimal l.variable) ++ codes " " ≡ c ∷ more) × (Unit {0} → IsTrue (anything c))
        by_sign true = (45, decimal l.variable ++ codes " ", refl, λ l. refl)
        by_sign false = let f = decimal_first l.variable (omega (arith, fits.1)) in (f.digit, f.more ++ codes " ", ap (λ t. t ++ codes " ") f.is, λ l. refl)

    later : (u : Unit {0}) (o : Option Literal) → Each always (after_literal u o)
    later u None = tt
    later u (Some l) = (tt, tt)

-- the items of some literals
literal_items : List Literal → List (Option Literal)
literal_items [] = None ∷ []
literal_items (l ∷ rest) = Some l ∷ literal_items rest

record LiteralsText (ls : List Literal) (text : List ℕ) : Type 0 where
  positive : All (λ (l : Literal). IsPositive l.variable) ls
  is : text ≡ flat_map (λ l. literal_text l ++ codes " ") ls ++ codes "0 "

literals_to : (items : List (Option Literal)) → Derives LiteralFits after_literal (tt {0} ∷ []) items → LiteralsText (literals_in items) (spelled after_literal literal_item (tt {0} ∷ []) items)
unfolding spelled
literals_to [] d = absurd (elim d [ ])
literals_to (None ∷ rest) (some n others i items fits none) = record { positive = All-nil (λ (k : Literal). IsPositive k.variable); is = append-nil (codes "0 ") }
literals_to (Some l ∷ rest) (some n others i items fits d) =
    let h = literals_to rest d in
    record {
      positive = All-cons (λ (k : Literal). IsPositive k.variable) l (literals_in rest) fits h.positive;
      is = ap (λ t. (literal_text l ++ codes " ") ++ t) h.is ∙ sym (append_assoc (literal_text l ++ codes " ") (flat_map (λ k. literal_text k ++ codes " ") (literals_in rest)) (codes "0 "));
    }

literals_back : (ls : List Literal) → literals_in (literal_items ls) ≡ ls
unfolding literal_items
literals_back [] = refl
literals_back (l ∷ rest) = ap (λ t. l ∷ t) (literals_back rest)

literals_derive : (ls : List Literal) → All (λ (l : Literal). IsPositive l.variable) ls → Derives LiteralFits after_literal (tt {0} ∷ []) (literal_items ls)
unfolding literal_items
literals_derive [] h = some tt [] None [] tt none
literals_derive (l ∷ rest) h = some tt [] (Some l) (literal_items rest) (All-head (λ (k : Literal). IsPositive k.variable) l rest h) (literals_derive rest (All-tail (λ (k : Literal). IsPositive k.variable) l rest h))

literals_read : Reads LiteralsText anything (read_map literals_in (read_items read_literal after_literal (tt {0} ∷ [])))
literals_read =
    reads-as literals_in LiteralsText
    (λ items text d. let h = literals_to items d.derives in record { positive = h.positive; is = d.is ∙ h.is })
    (λ ls text t.
    let d = literals_derive ls t.positive in
    (literal_items ls, sym (literals_back ls), record { derives = d; is = t.is ∙ ap (λ k. flat_map (λ l. literal_text l ++ codes " ") k ++ codes "0 ") (sym (literals_back ls)) ∙ sym (literals_to (literal_items ls) d).is }))
    (reads-items LiteralFits after_literal literal_item always anything read_literal literal_productions literal_read tt)

-- ---- hints

abbrev HintFits : Unit {0} → ℕ → Type 0
HintFits u n = IsNumber n

abbrev hint_item : Unit {0} → ℕ → List ℕ
hint_item u n = decimal n ++ hint_end n

hint_read : (u : Unit {0}) → Reads (ItemText HintFits hint_item u) anything (read_hint u)
hint_read u =
    reads-as (λ p. p.0) (ItemText HintFits hint_item u)
    (λ p text d. record { fits = d.first.below; is = d.cut ∙ ap (λ t. t ++ d.right) d.first.is ∙ ap (λ t. decimal p.0 ++ t) d.second })
    (λ n text i. ((n, tt {0}), refl, record { left = decimal n; right = hint_end n; cut = i.is; first = record { from = omega arith; below = i.fits; is = refl }; second = refl }))
    (reads-then reads-number (λ n. reads-text (hint_end n)) (λ n x text rest e stops. ends (n == 0) text rest e))
  where
    ends : (b : Bool) (text rest : List ℕ) → text ≡ cond b (codes "\n") (codes " ") → Stops not_digit (text ++ rest)
    ends true text rest e = subst (λ t. Stops not_digit (t ++ rest)) (sym e) refl
    ends false text rest e = subst (λ t. Stops not_digit (t ++ rest)) (sym e) refl

hint_productions : Productions HintFits after_hint hint_item always anything
unfolding always
hint_productions =
    record {
      first = λ u n fits. let f = decimal_first n (omega arith) in (f.digit, f.more ++ hint_end n, ap (λ t. t ++ hint_end n) f.is, λ l. refl);
      later = λ u n. later (n == 0);
      ends = λ u. (0 ∷ [], some u [] 0 [] (omega arith) none);
    }
  where
    later : (b : Bool) → Each always (cond b [] (tt {0} ∷ []))
    later true = tt
    later false = (tt, tt)

hint_items : List ℕ → List ℕ
hint_items [] = 0 ∷ []
hint_items (n ∷ rest) = n ∷ hint_items rest

record HintsText (hints : List ℕ) (text : List ℕ) : Type 0 where
  positive : All IsPositive hints
  is : text ≡ flat_map (λ n. decimal n ++ codes " ") hints ++ codes "0\n"

no_more : (rest : List ℕ) → Derives HintFits after_hint [] rest → rest ≡ []
no_more rest none = refl

hints_to : (items : List ℕ) → Derives HintFits after_hint (tt {0} ∷ []) items → HintsText (hints_in items) (spelled after_hint hint_item (tt {0} ∷ []) items)
unfolding spelled
hints_to [] d = absurd (elim d [ ])
hints_to (n ∷ rest) (some u others i items fits d) = by_zero (n == 0) refl d (λ e. hints_to rest e)
  where
    zero_of : (n : ℕ) → (n == 0) ≡ true → n ≡ 0
    zero_of n e = grind (arith, nat_tests)

    positive_of : (n : ℕ) → (n == 0) ≡ false → 0 < n
    positive_of n e = grind (arith, nat_tests)

    by_zero : (b : Bool) → (n == 0) ≡ b → Derives HintFits after_hint (cond b [] (tt {0} ∷ []) ++ []) rest
        → (Derives HintFits after_hint (tt {0} ∷ []) rest → HintsText (hints_in rest) (spelled after_hint hint_item (tt {0} ∷ []) rest))
        → HintsText (cond b [] (n ∷ hints_in rest)) ((decimal n ++ cond b (codes "\n") (codes " ")) ++ spelled after_hint hint_item (cond b [] (tt {0} ∷ []) ++ []) rest)
    by_zero true e d again =
        record {
          positive = All-nil IsPositive;
          is = ap (λ t. (decimal n ++ codes "\n") ++ spelled after_hint hint_item [] t) (no_more rest d)
              ∙ append-nil (decimal n ++ codes "\n") ∙ ap (λ k. decimal k ++ codes "\n") (zero_of n e) ∙ ap (λ t. t ++ codes "\n") decimal_zero;
        }
    by_zero false e d again =
        let h = again d in
        record {
          positive = All-cons IsPositive n (hints_in rest) (positive_of n e, fits) h.positive;
          is = ap (λ t. (decimal n ++ codes " ") ++ t) h.is ∙ sym (append_assoc (decimal n ++ codes " ") (flat_map (λ k. decimal k ++ codes " ") (hints_in rest)) (codes "0\n"));
        }

not_zero : (n : ℕ) → 0 < n → (n == 0) ≡ false
not_zero n h = grind (arith, nat_tests)

hints_back : (hints : List ℕ) → All IsPositive hints → hints_in (hint_items hints) ≡ hints
unfolding hint_items
hints_back [] h = refl
hints_back (n ∷ rest) h = ap (λ b. cond b [] (n ∷ hints_in (hint_items rest))) (not_zero n (All-head IsPositive n rest h).0) ∙ ap (λ t. n ∷ t) (hints_back rest (All-tail IsPositive n rest h))

hints_derive : (hints : List ℕ) → All IsPositive hints → Derives HintFits after_hint (tt {0} ∷ []) (hint_items hints)
unfolding hint_items
hints_derive [] h = some tt [] 0 [] (omega arith) none
hints_derive (n ∷ rest) h =
    some tt [] n (hint_items rest) (All-head IsPositive n rest h).1 (subst (λ b. Derives HintFits after_hint (cond b [] (tt {0} ∷ []) ++ []) (hint_items rest)) (sym (not_zero n (All-head IsPositive n rest h).0)) (hints_derive rest (All-tail IsPositive n rest h)))

hints_read : Reads HintsText anything (read_map hints_in (read_items read_hint after_hint (tt {0} ∷ [])))
hints_read =
    reads-as hints_in HintsText
    (λ items text d. let h = hints_to items d.derives in record { positive = h.positive; is = d.is ∙ h.is })
    (λ hs text t.
    let d = hints_derive hs t.positive in
    let back = hints_back hs t.positive in
    (hint_items hs, sym back, record { derives = d; is = t.is ∙ ap (λ k. flat_map (λ n. decimal n ++ codes " ") k ++ codes "0\n") (sym back) ∙ sym (hints_to (hint_items hs) d).is }))
    (reads-items HintFits after_hint hint_item always anything read_hint hint_productions hint_read tt)

-- ---- steps

pub record StepText (step : Step) (text : List ℕ) : Type 0 where
  pub is_step : IsStep step
  pub is : text ≡ step_text step

pub reads-step : Reads StepText anything read_step
reads-step =
    reads-as step_of StepText
    (λ p text d. record {
      is_step = record { literals = d.first.positive; hints = d.second.positive };
      is = d.cut ∙ ap (λ t. t ++ d.right) d.first.is ∙ append_assoc (flat_map (λ l. literal_text l ++ codes " ") p.0) (codes "0 ") d.right ∙ ap (λ t. flat_map (λ l. literal_text l ++ codes " ") p.0 ++ (codes "0 " ++ t)) d.second.is;
    })
    (λ step text t. (
      (step.literals, step.hints),
      refl,
      record {
        left = flat_map (λ l. literal_text l ++ codes " ") step.literals ++ codes "0 ";
        right = flat_map (λ n. decimal n ++ codes " ") step.hints ++ codes "0\n";
        first = record { positive = t.is_step.literals; is = refl };
        second = record { positive = t.is_step.hints; is = refl };
        cut = t.is ∙ sym (append_assoc (flat_map (λ l. literal_text l ++ codes " ") step.literals) (codes "0 ") (flat_map (λ n. decimal n ++ codes " ") step.hints ++ codes "0\n"));
      },
    ))
    (reads-both literals_read hints_read)

-- a literal, and a hint, take a byte at least
pub literal_shorter : (rest middle : List ℕ) (o : Option Literal) → read_literal (tt {0}) rest ≡ given o middle → length middle < length rest
literal_shorter rest middle o e = item-shorter read_literal after_literal literal_productions literal_read (tt {0}) rest middle o e

pub hint_shorter : (rest middle : List ℕ) (n : ℕ) → read_hint (tt {0}) rest ≡ given n middle → length middle < length rest
hint_shorter rest middle n e = item-shorter read_hint after_hint hint_productions hint_read (tt {0}) rest middle n e
