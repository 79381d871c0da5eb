-- Judgements that are made one after the other.
use Rattle.std.proofs.Common.{◌≡◌, ◌<◌, ◌≤◌, ◌+◌, ◌++◌, ◌∙◌, ℕ, zero, suc, Bool, true, List, [], ◌∷◌, length, get_or, take, take_all, map, refl, sym, ap, subst, arith}
use Rattle.std.proofs.lemmas.List.{take_more, map-append, get_or-map, length-map}
use Rattle.std.specs.Borrow.{Bor}
use Rattle.pair_setup_calls.specs.Names.{texts_of}
use Rattle.pair_setup.specs.declared.outcome.Function.{Function}
use Rattle.report_text_spec.specs.Verdict as spec
use Rattle.report_text.specs.Judgements.{judgement_of, judgements_of}
use Rattle.report_text.specs.declared.verdicts.Judgement.{Judgement}
use Rattle.tv_core.specs.Listed.{judged, judgement_on}
use Rattle.tv_core.proofs.Paired.{texts_at, texts_below, texts_past}

-- there is one for each name
judged_length : (list : List (List ℕ)) (functions : List Function) (found : List Bool) → length list ≤ length functions → length list ≤ length found
    → length (judged list functions found) ≡ length list
judged_length [] functions found many enough = refl
judged_length (name ∷ list) [] found many enough = absurd (omega (arith, many))
judged_length (name ∷ list) (f ∷ functions) [] many enough = absurd (omega (arith, enough))
judged_length (name ∷ list) (f ∷ functions) (valid ∷ found) many enough = ap suc (judged_length list functions found (omega (arith, many)) (omega (arith, enough)))

judged_at : (list : List (List ℕ)) (functions : List Function) (found : List Bool) (i : ℕ) (n : List ℕ) (f : Function) (b : Bool) (j : spec.Judgement) → length list ≤ length functions
    → length list ≤ length found → i < length list → get_or (judged list functions found) i j ≡ judgement_on (get_or list i n) (get_or found i b) (get_or functions i f)
judged_at [] functions found i n f b j many enough below = absurd (omega (arith, below))
judged_at (name ∷ list) [] found i n f b j many enough below = absurd (omega (arith, many))
judged_at (name ∷ list) (g ∷ functions) [] i n f b j many enough below = absurd (omega (arith, enough))
judged_at (name ∷ list) (g ∷ functions) (valid ∷ found) zero n f b j many enough below = refl
judged_at (name ∷ list) (g ∷ functions) (valid ∷ found) (suc i) n f b j many enough below =
    judged_at list functions found i n f b j (omega (arith, many)) (omega (arith, enough)) (omega (arith, below))

-- the first judgements, of so many functions
abbrev pub AreMade : (list : List (Bor (List ℕ))) → List Function → (found : List Bool) → (i : ℕ) → List Judgement → Type 0
AreMade list functions found i made = judgements_of made ≡ take i (judged (texts_of list) functions found)

texts_few : (list : List (Bor (List ℕ))) (n : ℕ) → length list ≤ n → length (texts_of list) ≤ n
texts_few list n few = texts_past list n few

-- and one more
pub made_more : (list : List (Bor (List ℕ))) (functions : List Function) (found : List Bool) (i : ℕ) (d : Bor (List ℕ)) (f : Function) (b : Bool) (made more : List Judgement) (j : Judgement)
    → AreMade list functions found i made → length list ≤ length functions → length list ≤ length found → i < length list
    → judgement_of j ≡ judgement_on (get_or list i d).now (get_or found i b) (get_or functions i f) → more ≡ made ++ j ∷ [] → AreMade list functions found (i + 1) more
made_more list functions found i d f b made more j before many enough below is e =
    let all = judged (texts_of list) functions found in
    let many_texts = texts_few list (length functions) many in
    let found_texts = texts_few list (length found) enough in
    let inside = texts_below list i below in
    let here : judgement_of j ≡ get_or all i (judgement_of j) =
    is ∙ ap (λ n. judgement_on n (get_or found i b) (get_or functions i f)) (sym (texts_at list i d [] below))
    ∙ sym (judged_at (texts_of list) functions found i [] f b (judgement_of j) many_texts found_texts inside) in
    let count : i < length all = subst (λ n. i < n) (sym (judged_length (texts_of list) functions found many_texts found_texts)) inside in
    ap judgements_of e ∙ map-append judgement_of made (j ∷ []) ∙ ap (λ js. js ++ judgement_of j ∷ []) before
    ∙ ap (λ x. take i all ++ x ∷ []) here ∙ sym (take_more all i (judgement_of j) count)

-- all of them
pub made_all : (list : List (Bor (List ℕ))) (functions : List Function) (found : List Bool) (i : ℕ) (made : List Judgement) → AreMade list functions found i made
    → length list ≤ length functions → length list ≤ length found → length list ≤ i → judgements_of made ≡ judged (texts_of list) functions found
made_all list functions found i made before many enough past =
    let all = judged (texts_of list) functions found in
    let count : length all ≤ i =
    subst (λ n. n ≤ i) (sym (judged_length (texts_of list) functions found (texts_few list (length functions) many) (texts_few list (length found) enough)))
    (texts_past list i past) in
    before ∙ take_all i all count

-- where all are valid
pub all_true : (functions : List Function) (n : ℕ) → n ≤ length functions → n ≤ length (map (λ (f : Function). true) functions)
all_true functions n few = subst (λ m. n ≤ m) (sym (length-map functions (λ (f : Function). true))) few

pub true_at : (functions : List Function) (i : ℕ) (f : Function) (b : Bool) → i < length functions → get_or (map (λ (g : Function). true) functions) i b ≡ true
true_at functions i f b below = get_or-map (λ (g : Function). true) functions i f b below
