-- Texts and counts of judgements, over those of the program.
use Rattle.std.proofs.Common.{◌≡◌, ℕ, ◌+◌, ◌<◌, Bool, cond, List, [], ◌∷◌, ◌++◌, length, get_or, take, refl, ap, append_assoc, ◌∙◌, sym}
use Rattle.std.specs.Prelude.{sum_by}
use Rattle.std.specs.List.{list_all}
use Rattle.std.proofs.lemmas.List.Folds.{list_all-map}
use Rattle.std.specs.Prelude.{flat_map, count_by, if◌then◌else◌}
use Rattle.std.proofs.lemmas.List.{append-nil, flat_map_more, take_more}
use Rattle.std.proofs.lemmas.List.Sums.{sum_by-cons}
use Rattle.report_text_spec.specs.Verdict as spec
use Rattle.report_text_spec.specs.Report as texts
use Rattle.report_text.specs.declared.verdicts.Judgement.{Judgement}
use Rattle.std.specs.Prelude.{Vec}
use Rattle.std.specs.declared.alloc.Global.{Global}
use Rattle.report_text.specs.declared.verdicts.Verdict.{Verdict}
use Rattle.report_text.specs.declared.verdicts.Verdict.TheVariants.{Judged}
use Rattle.report_text.specs.Verdicts.{verdict_of}
use Rattle.report_text.specs.Judgements.{judgement_of, judgements_of}

pub lines_are : (js : List Judgement) → flat_map texts.judgement_line (judgements_of js) ≡ flat_map (λ j. texts.judgement_line (judgement_of j)) js
lines_are [] = refl
lines_are (j ∷ js) = ap (λ rest. texts.judgement_line (judgement_of j) ++ rest) (lines_are js)

sums_are : (f : spec.Judgement → ℕ) (js : List Judgement) → sum_by f (judgements_of js) ≡ sum_by (λ j. f (judgement_of j)) js
sums_are f [] = refl
sums_are f (j ∷ js) =
    sum_by-cons f (judgement_of j) (judgements_of js) ∙ ap (λ n. f (judgement_of j) + n) (sums_are f js)
    ∙ sym (sum_by-cons (λ x. f (judgement_of x)) j js)

pub counts_are : (p : spec.Judgement → Bool) (js : List Judgement) → count_by p (judgements_of js) ≡ count_by (λ j. p (judgement_of j)) js
counts_are p js = sums_are (λ j. cond (p j) 1 0) js

-- one more item after those so far
pub more_lines : {A : Type 0} (f : A → List ℕ) (xs : List A) (i : ℕ) (x : A) (old text new : List ℕ) → i < length xs → x ≡ get_or xs i x
    → text ≡ old ++ flat_map f (take i xs) → new ≡ text ++ f x → new ≡ old ++ flat_map f (take (i + 1) xs)
more_lines f xs i x old text new inside is so_far added =
    added
    ∙ (ap (λ t. t ++ f x) so_far
    ∙ (flat_map_more f old (take i xs) x ∙ ap (λ l. old ++ flat_map f l) (ap (λ z. take i xs ++ z ∷ []) is ∙ sym (take_more xs i x inside))))

-- pieces of a text, one after the other, are its line: four, of which some are words and numbers of the program
pub line_of_two : (old a b : List ℕ) → old ++ (a ++ (b ++ 10 ∷ [])) ≡ old ++ texts.line (a ++ b)
line_of_two old a b = simp append_assoc

pub line_of_four : (old a b c d x y : List ℕ) → x ≡ b → y ≡ d → old ++ (a ++ (x ++ (c ++ (y ++ 10 ∷ [])))) ≡ old ++ texts.line (a ++ b ++ c ++ d)
line_of_four old a b c d x y e f = rw (e, f) (simp append_assoc)

-- six, of which two are of the program, added in three steps
pub line_of_six : (old a b c d e f x y one two : List ℕ) → one ≡ old ++ (a ++ (b ++ (c ++ []))) → two ≡ one ++ (x ++ (e ++ [])) → x ≡ d → y ≡ f
    → two ++ (y ++ 10 ∷ []) ≡ old ++ texts.line (a ++ b ++ c ++ d ++ e ++ f)
line_of_six old a b c d e f x y one two first second is of = rw (second, first, is, of) (simp (append_assoc, append-nil))

-- a text, a word, a blank, a name and another text
pub words_are : (old a b c d e : List ℕ) → old ++ (a ++ (b ++ (c ++ (d ++ (e ++ []))))) ≡ old ++ (a ++ b ++ c ++ d ++ e)
words_are old a b c d e = simp (append_assoc, append-nil)

-- the end of a line, and a line feed
pub line_added : (old begin end first second whole : List ℕ) → first ≡ old ++ begin → second ≡ first ++ end → whole ≡ second ++ 10 ∷ []
    → whole ≡ old ++ texts.line (begin ++ end)
line_added old begin end first second whole e f g = rw (g, f, e) (simp append_assoc)

-- whether all are valid
pub all_valid_are : (js : List Judgement) (whole : Bool) → whole ≡ list_all (λ j. j.valid) js → spec.all_valid (judgements_of js) ≡ whole
all_valid_are js whole e = list_all-map (λ j. j.valid) judgement_of js ∙ sym e

pub judged_status : (verdict : Verdict) (judgements : Vec Judgement Global) (js : List Judgement) (whole : Bool) → verdict ≡ Judged judgements
    → js ≡ judgements.items → list_all (λ j. j.valid) js ≡ whole → spec.status_of (verdict_of verdict) ≡ (if whole then 0 else 1)
judged_status verdict judgements js whole is items all =
    ap (λ v. spec.status_of (verdict_of v)) is
    ∙ ap (λ b. if b then 0 else 1) (all_valid_are judgements.items whole (sym all ∙ ap (list_all (λ j. j.valid)) items))
