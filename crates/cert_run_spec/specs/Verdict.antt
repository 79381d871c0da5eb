-- The verdict on the bytes of a certificate, and what is written of functions that are proved.
use Rattle.std.specs.Prelude.{ℕ, true, List, [], ◌∷◌, ◌++◌, length, map, flat_map}
use Rattle.clause_check_spec.specs.Log as clauses
use Rattle.cert_text_spec.specs.Lines.{Line, Header, Function, Leaf, Log, LogStep, End, line_text}
use Rattle.cert_text_spec.specs.Certificates.{IsCertificate, IsFault}
use Rattle.cert_check_spec.specs.declared.RuleWord.{RuleWord}
use Rattle.tv_limits.specs.declared.Quantity.{Quantity}
use Rattle.cert_check_spec.specs.Verdict.{Listed}
use Rattle.cert_check_lines_spec.specs.Known as check
use Rattle.cert_check_lines_spec.specs.Known.{IsProof, IsLimit}
use Rattle.report_text_spec.specs.Verdict.{Judgement}

-- ---- a certificate

pub data Outcome : Type 0 where
  -- the bytes are no certificate: their longest prefix that begins one has this length
  Unread : (offset : ℕ) → Outcome
  -- the line at an offset is the first that breaks a rule: this one, in the part of the function of this name
  Broken : (function : List ℕ) → (offset : ℕ) → RuleWord → Outcome
  -- before that a quantity is above its maximum
  Above : Quantity → Outcome
  -- no line does
  Proof : Outcome

-- the verdict on the bytes of a certificate of the listed functions
pub data IsOutcome (listed : List Listed) (bytes : List ℕ) : Outcome → Type 0 where
  unread : (offset : ℕ) → IsFault bytes offset → IsOutcome listed bytes (Unread offset)
  broken : (lines : List Line) (function : List ℕ) (offset : ℕ) (rule : RuleWord) → IsCertificate bytes lines
      → check.IsFault listed lines offset function rule → IsOutcome listed bytes (Broken function offset rule)
  above : (lines : List Line) (offset : ℕ) (quantity : Quantity) → IsCertificate bytes lines
      → IsLimit listed lines offset quantity → IsOutcome listed bytes (Above quantity)
  proof : (lines : List Line) → IsCertificate bytes lines → IsProof listed lines → IsOutcome listed bytes Proof

-- ---- functions that are proved

-- the judgement that a function is valid
abbrev pub valid_judgement : Listed → Judgement
valid_judgement f = record { name = f.name; valid = true; stack = f.stack }

-- a function, and the logs of its Leaf
pub record Part : Type 0 where
  pub function : Listed
  pub logs : List (List clauses.Step)

abbrev pub log_lines : List clauses.Step → List Line
log_lines log = Log (length log) ∷ map LogStep log

abbrev pub proof_lines : Part → List Line
proof_lines p = Function p.function.name p.function.stack ∷ Leaf (length p.logs) ∷ flat_map log_lines p.logs

unfoldable pub proofs_lines : List Part → List Line
proofs_lines [] = End ∷ []
proofs_lines (p ∷ parts) = proof_lines p ++ proofs_lines parts

-- the lines of the certificate of these parts
abbrev pub written_lines : List Part → List Line
written_lines parts = Header ∷ proofs_lines parts

-- the offset of the last of these lines, `end`
abbrev pub end_offset : List Part → ℕ
end_offset parts = length (flat_map line_text (Header ∷ flat_map proof_lines parts))
