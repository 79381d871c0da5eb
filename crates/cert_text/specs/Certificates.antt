-- Certificates of the program as those that the definitions speak of.
use Rattle.std.specs.Prelude.{◌≡◌, ◌+◌, ℕ, List, [], ◌∷◌, drop, flat_map, Result, Ok, Err}
use Rattle.cert_text_spec.specs.Lines as spec
use Rattle.cert_text_spec.specs.Certificates.{IsCertificate, IsFault}
use Rattle.cert_text_parse.specs.declared.lines.Literal.{Literal}
use Rattle.cert_text_parse.specs.declared.lines.Line.{Line}
use Rattle.cert_text_parse.specs.Views.{line_at, literals_in, hints_in}
use Rattle.cert_text.specs.declared.certificates.Cert.{Cert}
use Rattle.attempt.specs.declared.refusal.Refusal.{Refusal}
use Rattle.attempt.specs.declared.refusal.Refusal.TheVariants.{Fault, NoMemory}
use Rattle.cert_text.specs.declared.certificates.ReadFault.{ReadFault}
use Rattle.cert_text.specs.declared.certificates.ReadFault.TheVariants.{Refused}

-- the lines, of which each step takes the next literals and hints
unfoldable pub lines_of : List Line → List Literal → List ℕ → List spec.Line
lines_of [] literals hints = []
lines_of (line ∷ lines) literals hints = line_at line literals hints ∷ lines_of lines (drop (literals_in line) literals) (drop (hints_in line) hints)

abbrev pub certificate_of : Cert → List spec.Line
certificate_of cert = lines_of cert.lines.items cert.logs.literals.items cert.logs.hints.items

-- how many literals and hints the lines have
abbrev pub all_literals : List Line → ℕ
all_literals [] = 0
all_literals (line ∷ lines) = literals_in line + all_literals lines

abbrev pub all_hints : List Line → ℕ
all_hints [] = 0
all_hints (line ∷ lines) = hints_in line + all_hints lines

-- the spelling of lines
abbrev pub text_of : List spec.Line → List ℕ
text_of lines = flat_map spec.line_text lines

-- no line
pub record IsEmpty (cert : Cert) : Type 0 where
  pub lines : cert.lines.items ≡ []
  pub literals : cert.logs.literals.items ≡ []
  pub hints : cert.logs.hints.items ≡ []

-- the certificate that the bytes are, or their fault; out of memory can always come
abbrev pub IsRead : (bytes : List ℕ) → Result Cert (Refusal ReadFault) → Type 0
IsRead bytes (Ok cert) = IsCertificate bytes (certificate_of cert)
IsRead bytes (Err NoMemory) = Unit {0}
IsRead bytes (Err (Fault (Refused offset))) = IsFault bytes offset
