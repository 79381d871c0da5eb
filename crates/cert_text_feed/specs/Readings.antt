-- What is read of bytes with which a certificate begins.
use Rattle.std.specs.Prelude.{◌≡◌, ℕ, ◌==◌, not, Bool, true, List, [], ◌∷◌, ◌++◌, flat_map}
use Rattle.std.specs.List.{list_all}
use Rattle.cert_text_spec.specs.Lines.{Line, line_text}
use Rattle.cert_text_spec.specs.Certificates.{Expected, AHeader, Fits, after, IsCertificate, IsFault}

-- the lines can stand where this is expected, and after them that is expected
pub data Leads : List Expected → List Line → List Expected → Type 0 where
  no_line : (expected : List Expected) → Leads expected [] expected
  one_line : (e : Expected) (others final : List Expected) (line : Line) (lines : List Line) → Fits e line → Leads (after e line ++ others) lines final
      → Leads (e ∷ others) (line ∷ lines) final

-- the spelling of lines
abbrev pub text_of : List Line → List ℕ
text_of lines = flat_map line_text lines

-- no line ends in these bytes
abbrev pub is_open : List ℕ → Bool
is_open bytes = list_all (λ byte. not (byte == 10)) bytes

-- the bytes are whole lines, with which a certificate can begin, and after them a line that has not ended
pub record IsReading (bytes : List ℕ) (lines : List Line) (expected : List Expected) (rest : List ℕ) : Type 0 where
  pub leads : Leads (AHeader ∷ []) lines expected
  pub cut : bytes ≡ text_of lines ++ rest
  pub unended : is_open rest ≡ true

-- the fault of each text that begins with the bytes
abbrev pub IsWrong : (bytes : List ℕ) → (offset : ℕ) → Type 0
IsWrong bytes offset = (more : List ℕ) → IsFault (bytes ++ more) offset

-- ---- laws

-- bytes have one reading, however they were cut into pieces
abbrev pub HasOneReading : Type 0
HasOneReading =
    (bytes : List ℕ) (lines1 lines2 : List Line) (expected1 expected2 : List Expected) (rest1 rest2 : List ℕ)
    → IsReading bytes lines1 expected1 rest1 → IsReading bytes lines2 expected2 rest2 → (lines1 ≡ lines2) × (expected1 ≡ expected2) × (rest1 ≡ rest2)

-- the lines that are read are the first of each certificate that begins with the bytes
abbrev pub GoesOnAsRead : Type 0
GoesOnAsRead =
    (bytes rest more : List ℕ) (lines all : List Line) (expected : List Expected)
    → IsReading bytes lines expected rest → IsCertificate (bytes ++ more) all → (later : List Line) × (all ≡ lines ++ later)
