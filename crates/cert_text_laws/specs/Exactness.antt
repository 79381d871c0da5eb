-- That certificates are read exactly, that a text has one certificate or one fault, and worked examples.
use Rattle.std.specs.Prelude.{◌≡◌, ℕ, ◌+◌, List, [], ◌∷◌, length, Ok, Err, codes, take}
use Rattle.exact_read.specs.Reading.{Wrong, LimitExceeded}
use Rattle.cert_text_spec.specs.Lines.{Line, Header, Function, Leaf, Log, End}
use Rattle.cert_text_spec.specs.Certificates.{IsCertificate, IsFault}
use Rattle.cert_text_laws.specs.Lines.{read_certificate}

-- the reference parser reads the certificates and nothing else, and refuses other bytes after the longest prefix that
-- begins one
pub record ReadsExactly : Type 0 where
  pub found : (text : List ℕ) (lines : List Line) → read_certificate text ≡ Ok lines → IsCertificate text lines
  pub only : (text : List ℕ) (lines : List Line) → IsCertificate text lines → read_certificate text ≡ Ok lines
  pub refused : (text rest : List ℕ) → read_certificate text ≡ Err (Wrong (tt {0}), rest) → (offset : ℕ) → offset + length rest ≡ length text → IsFault text offset
  pub unlimited : (text rest : List ℕ) → read_certificate text ≡ Err (LimitExceeded, rest) → ⊥

-- a text is the certificate of one list of lines at most
abbrev pub HasOneCertificate : Type 0
HasOneCertificate = (text : List ℕ) (one two : List Line) → IsCertificate text one → IsCertificate text two → one ≡ two

-- lines have one spelling
abbrev pub HasOneSpelling : Type 0
HasOneSpelling = (one two : List ℕ) (lines : List Line) → IsCertificate one lines → IsCertificate two lines → one ≡ two

-- a text has one fault at most
abbrev pub HasOneFault : Type 0
HasOneFault = (text : List ℕ) (one two : ℕ) → IsFault text one → IsFault text two → one ≡ two

-- ---- worked examples

-- a function whose leaf has three empty logs
abbrev pub sample : List ℕ
sample = codes "tv-cert 1\nfunction f stack 0\nleaf 3\nlog 0\nlog 0\nlog 0\nend\n"

abbrev pub sample_lines : List Line
sample_lines = Header ∷ Function (codes "f") 0 ∷ Leaf 3 ∷ Log 0 ∷ Log 0 ∷ Log 0 ∷ End ∷ []

-- it is a certificate; cut to 40 bytes it has a fault there; without its last log it has one at 48, where `end` begins
pub record SampleIsRead : Type 0 where
  pub whole : IsCertificate sample sample_lines
  pub cut : IsFault (take 40 sample) 40
  pub shorter : IsFault (codes "tv-cert 1\nfunction f stack 0\nleaf 3\nlog 0\nlog 0\nend\n") 48
