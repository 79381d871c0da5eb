-- Literals that are false don't change the status of a clause.
use Rattle.std.proofs.Common.{◌≡◌, ◌<◌, ◌≤◌, ◌+◌, ◌∷◌, ◌++◌, ◌∙◌, ℕ, Bool, true, false, List, [], Option, length, get_or, drop, filter, ap, sym}
use Rattle.std.specs.Prelude.{◌||◌, not, if◌then◌else◌}
use Rattle.std.specs.List.{list_any, list_all}
use Rattle.std.proofs.lemmas.List.{drop_more, drop_all}
use Rattle.std.proofs.lemmas.List.Folds.{list_any-append}
use Rattle.std.proofs.lemmas.List.Elements.{filter-append}
use Rattle.clause_check_spec.specs.declared.Literal.{Literal}
use Rattle.clause_check_spec.specs.Clause.{Clause, is_of}
use Rattle.clause_check_spec.specs.Step.{Holds, Forces, Fails, is_true, found_among, finding}
use Rattle.clause_check.specs.Signs.{is_sign, sign_of, Reports}
use Rattle.clause_check.proofs.Indices.{literal_named}
use Rattle.clause_check.proofs.Reported.{not_false, true_by_sign, not_false_by_sign, not_true_by_false}

any_without : (truths front rest : List Literal) (l : Literal) → is_true truths l ≡ false
    → list_any (is_true truths) (front ++ l ∷ rest) ≡ list_any (is_true truths) (front ++ rest)
any_without truths front rest l e =
    list_any-append (is_true truths) front (l ∷ rest)
    ∙ ap (λ b. list_any (is_true truths) front || (b || list_any (is_true truths) rest)) e
    ∙ sym (list_any-append (is_true truths) front rest)

open_without : (truths front rest : List Literal) (l : Literal) → not_false truths l ≡ false
    → filter (not_false truths) (front ++ l ∷ rest) ≡ filter (not_false truths) (front ++ rest)
open_without truths front rest l e =
    filter-append (not_false truths) front (l ∷ rest)
    ∙ ap (λ b. filter (not_false truths) front ++ (if b then l ∷ filter (not_false truths) rest else filter (not_false truths) rest)) e
    ∙ sym (filter-append (not_false truths) front rest)

found_without : (truths front rest : List Literal) (l : Literal) → is_true truths l ≡ false → not_false truths l ≡ false
    → finding truths (front ++ l ∷ rest) ≡ finding truths (front ++ rest)
unfolding finding
found_without truths front rest l e f =
    let any = any_without truths front rest l e in
    let left = open_without truths front rest l f in
    λ i. if any i then Holds else found_among (left i)

-- the literal of an index, being false
pub found_past : (signs : List (Option Bool)) (truths front : List Literal) (clause : Clause) (i : ℕ) (l : Literal) → Reports signs truths
    → list_all (is_of (length signs)) clause ≡ true → i < length clause → l ≡ get_or clause i l → is_sign (sign_of signs l) (not l.is_negated) ≡ true
    → finding truths (front ++ drop i clause) ≡ finding truths (front ++ drop (i + 1) clause)
found_past signs truths front clause i l reports named below here sign =
    let of_variables = literal_named (length signs) clause i l named below here in
    ap (λ rest. finding truths (front ++ rest)) (drop_more clause i l below ∙ ap (λ m. m ∷ drop (i + 1) clause) (sym here))
    ∙ found_without truths front (drop (i + 1) clause) l
    (true_by_sign signs truths l false reports of_variables (not_true_by_false (sign_of signs l) l.is_negated sign))
    (not_false_by_sign signs truths l true reports of_variables sign)

-- one literal that isn't false, alone: true, or not
pub alone_true : (truths : List Literal) (l : Literal) → is_true truths l ≡ true → finding truths (l ∷ []) ≡ Holds
unfolding finding
alone_true truths l e = ap (λ b. if b || false then Holds else found_among (filter (not_false truths) (l ∷ []))) e

pub alone_forced : (truths : List Literal) (l : Literal) → is_true truths l ≡ false → not_false truths l ≡ true → finding truths (l ∷ []) ≡ Forces l
unfolding finding
alone_forced truths l e f =
    ap (λ b. if b || false then Holds else found_among (filter (not_false truths) (l ∷ []))) e
    ∙ ap (λ b. found_among (if b then l ∷ [] else [])) f

-- a clause whose literals before an index are false, and so are those after it
pub found_sole : (truths : List Literal) (clause : Clause) (first second : ℕ) (l : Literal)
    → finding truths clause ≡ finding truths (drop first clause) → first < length clause → l ≡ get_or clause first l
    → finding truths (l ∷ drop (first + 1) clause) ≡ finding truths (l ∷ drop second clause) → length clause ≤ second
    → finding truths clause ≡ finding truths (l ∷ [])
found_sole truths clause first second l before below here after past =
    before
    ∙ ap (finding truths) (drop_more clause first l below ∙ ap (λ m. m ∷ drop (first + 1) clause) (sym here))
    ∙ after
    ∙ ap (λ rest. finding truths (l ∷ rest)) (drop_all second clause past)

pub found_none : (truths : List Literal) (clause : Clause) (past : ℕ) → finding truths clause ≡ finding truths (drop past clause) → length clause ≤ past
    → finding truths clause ≡ Fails
unfolding finding
found_none truths clause past passed within = passed ∙ ap (finding truths) (drop_all past clause within)
