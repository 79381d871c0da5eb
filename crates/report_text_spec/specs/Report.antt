-- The report of each verdict, byte for byte.
use Rattle.std.specs.Prelude.{ℕ, not, if◌then◌else◌, List, [], ◌∷◌, ◌++◌, flat_map, count_by, codes, decimal}
use Rattle.std.specs.Int.{w32, to_be_bytes}
use Rattle.hex.specs.Hex.{encode_lower}
use Rattle.report_text_spec.specs.Verdict.{Judgement, Shown, Verdict, RefusedWords, TooLarge, RefusedElf, RefusedC, RefusedPair, RefusedCode, RefusedCertificate, NotProof, Checked, Judged, Showed, maximum_of}
use Rattle.report_text_spec.specs.Words.{quantity_word, elf_word, source_word, pair_word, code_word, rule_word}

-- a line feed at its end
abbrev pub line : List ℕ → List ℕ
line text = text ++ 10 ∷ []

abbrev pub judgement_line : Judgement → List ℕ
judgement_line j =
    line (if j.valid then codes "valid " ++ j.name ++ codes " stack=" ++ decimal j.stack else codes "unproved " ++ j.name)

unfoldable pub total_line : (valid unproved : ℕ) → List ℕ
total_line valid unproved = line (codes "total valid=" ++ decimal valid ++ codes " unproved=" ++ decimal unproved)

-- what is reported of the listed functions
unfoldable pub judgements_text : List Judgement → List ℕ
judgements_text judgements =
    flat_map judgement_line judgements ++ total_line (count_by (λ j. j.valid) judgements) (count_by (λ j. not j.valid) judgements)

-- ---- a function

-- eight lower-case hexadecimal digits
abbrev pub digits_of_word : ℕ → List ℕ
digits_of_word word = encode_lower (to_be_bytes w32 word)

-- `show NAME entry=ADDRESS size=N stack=S`
unfoldable pub code_line : (name : List ℕ) → (entry size stack : ℕ) → List ℕ
code_line name entry size stack =
    line (codes "show " ++ name ++ codes " entry=" ++ digits_of_word entry ++ codes " size=" ++ decimal size ++ codes " stack=" ++ decimal stack)

-- `ADDRESS WORD`
unfoldable pub word_line : ℕ × ℕ → List ℕ
word_line word = line (digits_of_word word.0 ++ codes " " ++ digits_of_word word.1)

-- `source params=P loops=L calls=K`
unfoldable pub source_line : (params loops calls : ℕ) → List ℕ
source_line params loops calls = line (codes "source params=" ++ decimal params ++ codes " loops=" ++ decimal loops ++ codes " calls=" ++ decimal calls)

unfoldable pub show_text : Shown → List ℕ
show_text s = code_line s.name s.entry s.size s.stack ++ flat_map word_line s.words ++ source_line s.params s.loops s.calls

-- ---- the report

-- the report, to the last byte; an address has eight digits
abbrev pub report_of : Verdict → List ℕ
report_of RefusedWords = line (codes "refused words")
report_of (TooLarge quantity) = line (codes "limit " ++ quantity_word quantity ++ codes " " ++ decimal (maximum_of quantity))
report_of (RefusedElf fault offset) = line (codes "refused elf " ++ elf_word fault ++ codes " at " ++ decimal offset)
report_of (RefusedC kind offset) = line (codes "refused c " ++ source_word kind ++ codes " at " ++ decimal offset)
report_of (RefusedPair kind name) = line (codes "refused pair " ++ pair_word kind ++ codes " " ++ name)
report_of (RefusedCode kind name address) =
    line (codes "refused code " ++ code_word kind ++ codes " " ++ name ++ codes " at " ++ encode_lower (to_be_bytes w32 address))
report_of (RefusedCertificate offset) = line (codes "cert refused at " ++ decimal offset)
report_of (NotProof name offset rule) = line (codes "not a proof " ++ name ++ codes " at " ++ decimal offset ++ codes " " ++ rule_word rule)
report_of (Checked judgements) = judgements_text judgements
report_of (Judged judgements) = judgements_text judgements
report_of (Showed shown) = show_text shown
