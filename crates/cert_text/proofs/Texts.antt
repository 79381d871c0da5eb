-- Texts that grow.
use Rattle.std.specs.Prelude.{take, drop, flat_map, codes}
use Rattle.std.proofs.Common.{◌≡◌, ℕ, suc, ◌+◌, ◌<◌, ◌≤◌, List, [], ◌∷◌, ◌++◌, length, get_or, ap, sym, ◌∙◌, append_assoc, append-nil, drop-cons, add-one}
use Rattle.std.proofs.lemmas.List.{flat_map_more, take_more, drop_all}
use Rattle.std.proofs.lemmas.List.Folds.{flat_map-map}
use Rattle.cert_text_spec.specs.Lines as spec
use Rattle.cert_text_parse.specs.declared.lines.Literal.{Literal}
use Rattle.cert_text_parse.specs.declared.lines.Line.{Line}
use Rattle.cert_text_parse.specs.Views.{literal_of, step_of, line_at, literals_in, hints_in}
use Rattle.cert_text.specs.Certificates.{lines_of, text_of}
use Rattle.cert_text.specs.Texts.{literal_text, hint_text}

-- one more item after those so far
pub more_items : {A : Type 0} (f : A → List ℕ) (xs : List A) (i : ℕ) (x : A) (old text new : List ℕ) → i < length xs → x ≡ get_or xs i x
    → text ≡ old ++ flat_map f (take i xs) → new ≡ text ++ f x → new ≡ old ++ flat_map f (take (i + 1) xs)
more_items f xs i x old text new inside is so_far added =
    added
    ∙ (ap (λ t. t ++ f x) so_far
    ∙ (flat_map_more f old (take i xs) x ∙ ap (λ l. old ++ flat_map f l) (ap (λ z. take i xs ++ z ∷ []) is ∙ sym (take_more xs i x inside))))

-- the parts of a step
step_parts : (old a l b h c : List ℕ) → ((((old ++ a) ++ l) ++ b) ++ h) ++ c ≡ old ++ (a ++ (l ++ (b ++ (h ++ c))))
step_parts old a l b h c = simp append_assoc

pub step_added : (old a b c d e : List ℕ) (literals : List Literal) (hints : List ℕ) → a ≡ old ++ codes "s " → b ≡ a ++ flat_map literal_text literals → c ≡ b ++ codes "0 "
    → d ≡ c ++ flat_map hint_text hints → e ≡ d ++ codes "0\n" → e ≡ old ++ spec.line_text (step_of literals hints)
step_added old a b c d e literals hints f g h i j =
    j ∙ ap (λ t. t ++ codes "0\n") (i ∙ ap (λ t. t ++ flat_map hint_text hints) (h ∙ ap (λ t. t ++ codes "0 ") (g ∙ ap (λ t. t ++ flat_map literal_text literals) f)))
    ∙ step_parts old (codes "s ") (flat_map literal_text literals) (codes "0 ") (flat_map hint_text hints) (codes "0\n")
    ∙ ap (λ t. old ++ (codes "s " ++ (t ++ (codes "0 " ++ (flat_map hint_text hints ++ codes "0\n"))))) (sym (flat_map-map (λ l. spec.literal_text l ++ codes " ") literal_of literals))

-- ---- lines

-- a line more, which takes its literals and hints
pub next_spelled : (lines : List Line) (i : ℕ) (line : Line) (text new whole : List ℕ) (literals later : List Literal) (hints more : List ℕ) → i < length lines → line ≡ get_or lines i line
    → later ≡ drop (literals_in line) literals → more ≡ drop (hints_in line) hints → new ≡ text ++ spec.line_text (line_at line literals hints)
    → text ++ text_of (lines_of (drop i lines) literals hints) ≡ whole → new ++ text_of (lines_of (drop (i + 1) lines) later more) ≡ whole
unfolding lines_of
next_spelled lines i line text new whole literals later hints more inside is l m added so_far =
    let cut : drop i lines ≡ line ∷ drop (i + 1) lines = drop-cons lines i line inside ∙ ap (λ x. x ∷ drop (suc i) lines) (sym is) ∙ ap (λ n. line ∷ drop n lines) (sym (add-one i)) in
    ap (λ t. t ++ text_of (lines_of (drop (i + 1) lines) later more)) added
    ∙ ap (λ t. (text ++ spec.line_text (line_at line literals hints)) ++ text_of (lines_of (drop (i + 1) lines) t more)) l
    ∙ ap (λ t. (text ++ spec.line_text (line_at line literals hints)) ++ text_of (lines_of (drop (i + 1) lines) (drop (literals_in line) literals) t)) m
    ∙ append_assoc text (spec.line_text (line_at line literals hints)) (text_of (lines_of (drop (i + 1) lines) (drop (literals_in line) literals) (drop (hints_in line) hints)))
    ∙ ap (λ ls. text ++ text_of (lines_of ls literals hints)) (sym cut)
    ∙ so_far

pub all_spelled : (lines : List Line) (i : ℕ) (text whole : List ℕ) (literals : List Literal) (hints : List ℕ) → length lines ≤ i → text ++ text_of (lines_of (drop i lines) literals hints) ≡ whole → text ≡ whole
unfolding lines_of
all_spelled lines i text whole literals hints l so_far =
    sym (append-nil text) ∙ ap (λ ls. text ++ text_of (lines_of ls literals hints)) (sym (drop_all i lines l)) ∙ so_far
