-- The text of a function, piece by piece.
use Rattle.std.proofs.Common.{◌≡◌, ◌∙◌, ℕ, List, [], ◌∷◌, ◌++◌, take, length, get_or, ◌<◌, ◌+◌, codes, refl, sym, ap, append_assoc}
use Rattle.std.specs.Prelude.{decimal, flat_map}
use Rattle.std.proofs.lemmas.List.{flat_map_more, take_more}
use Rattle.report_text_spec.specs.Verdict.{Shown}
use Rattle.report_text_spec.specs.Report.{digits_of_word, code_line, word_line, source_line, show_text}

pub sizes_are : (old a b c d x y : List ℕ) → x ≡ b → y ≡ d → old ++ (a ++ (x ++ (c ++ (y ++ 10 ∷ [])))) ≡ old ++ (a ++ (b ++ (c ++ (d ++ 10 ∷ []))))
sizes_are old a b c d x y e f = rw (e, f) refl

pub code_is : (old name : List ℕ) (entry size stack : ℕ) (first second : List ℕ) → first ≡ old ++ (codes "show " ++ (name ++ (codes " entry=" ++ [])))
    → second ≡ first ++ digits_of_word entry
    → second ++ (codes " size=" ++ (decimal size ++ (codes " stack=" ++ (decimal stack ++ 10 ∷ [])))) ≡ old ++ code_line name entry size stack
unfolding code_line
code_is old name entry size stack first second e f = rw (f, e) (simp append_assoc)

pub word_is : (old : List ℕ) (address word : ℕ) (first second third whole : List ℕ) → first ≡ old ++ digits_of_word address → second ≡ first ++ 32 ∷ []
    → third ≡ second ++ digits_of_word word → whole ≡ third ++ 10 ∷ [] → whole ≡ old ++ word_line (address, word)
unfolding word_line
word_is old address word first second third whole e f g h = rw (h, g, f, e) (simp append_assoc)

pub source_is : (old : List ℕ) (params loops calls : ℕ) (x y z : List ℕ) → x ≡ decimal params → y ≡ decimal loops → z ≡ decimal calls
    → old ++ (codes "source params=" ++ (x ++ (codes " loops=" ++ (y ++ (codes " calls=" ++ (z ++ 10 ∷ [])))))) ≡ old ++ source_line params loops calls
unfolding source_line
source_is old params loops calls x y z e f g = rw (e, f, g) (simp append_assoc)

pub shown_is : (old : List ℕ) (s : Shown) (first second : List ℕ) → first ≡ old ++ code_line s.name s.entry s.size s.stack
    → second ≡ first ++ flat_map word_line s.words → second ++ source_line s.params s.loops s.calls ≡ old ++ show_text s
unfolding show_text
shown_is old s first second e f = rw (f, e) (simp append_assoc)

-- one more word
pub more_words : (words : List (ℕ × ℕ)) (i : ℕ) (d : ℕ × ℕ) (old text new : List ℕ) → i < length words → text ≡ old ++ flat_map word_line (take i words)
    → new ≡ text ++ word_line (get_or words i d) → new ≡ old ++ flat_map word_line (take (i + 1) words)
more_words words i d old text new inside so_far added =
    added
    ∙ (ap (λ t. t ++ word_line (get_or words i d)) so_far
    ∙ (flat_map_more word_line old (take i words) (get_or words i d) ∙ ap (λ l. old ++ flat_map word_line l) (sym (take_more words i d inside))))
