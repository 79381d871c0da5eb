-- The first lines of a certificate.
use Rattle.std.specs.Prelude.{take, drop}
use Rattle.std.proofs.Common.{◌≡◌, ◌∙◌, ℕ, zero, suc, List, [], ◌∷◌, length, refl, ap}
use Rattle.cert_text_parse.specs.declared.lines.Literal.{Literal}
use Rattle.cert_text_parse.specs.declared.lines.Line.{Line}
use Rattle.cert_text_parse.specs.Views.{line_at, literals_in, hints_in}
use Rattle.cert_text.specs.Certificates.{lines_of, text_of}

-- a line takes its literals and hints, whatever comes after it
pub first_lines : (n : ℕ) (lines : List Line) (literals : List Literal) (hints : List ℕ) → lines_of (take n lines) literals hints ≡ take n (lines_of lines literals hints)
unfolding lines_of
first_lines zero lines literals hints = refl
first_lines (suc n) [] literals hints = refl
first_lines (suc n) (line ∷ lines) literals hints =
    ap (λ rest. line_at line literals hints ∷ rest) (first_lines n lines (drop (literals_in line) literals) (drop (hints_in line) hints))

-- so the text of the first lines has the length of theirs
pub prefix_length : (n : ℕ) (lines : List Line) (literals : List Literal) (hints text : List ℕ) → text ≡ text_of (lines_of (take n lines) literals hints)
    → length text ≡ length (text_of (take n (lines_of lines literals hints)))
prefix_length n lines literals hints text is = ap (λ t. length t) is ∙ ap (λ l. length (text_of l)) (first_lines n lines literals hints)

-- the text of the first lines, as they are lent
pub spelled_first : (n : ℕ) (lines lent : List Line) (literals lent_literals : List Literal) (hints lent_hints : List ℕ) → lent ≡ lines → lent_literals ≡ literals → lent_hints ≡ hints
    → text_of (lines_of (take n lent) lent_literals lent_hints) ≡ text_of (lines_of (take n lines) literals hints)
spelled_first n lines lent literals lent_literals hints lent_hints same same_literals same_hints =
    ap (λ (l : List Line). text_of (lines_of (take n l) lent_literals lent_hints)) same
    ∙ ap (λ (l : List Literal). text_of (lines_of (take n lines) l lent_hints)) same_literals
    ∙ ap (λ (l : List ℕ). text_of (lines_of (take n lines) literals l)) same_hints
