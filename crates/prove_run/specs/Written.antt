-- The lines of a certificate as they are added.
use Rattle.std.specs.Prelude.{◌≡◌, ◌+◌, List, [], ◌∷◌, ◌++◌, length, map}
use Rattle.clause_check_spec.specs.declared.Literal as clause
use Rattle.cert_text_spec.specs.Lines as spec
use Rattle.cert_text_parse.specs.declared.lines.Line.{Line}
use Rattle.cert_text_parse.specs.declared.lines.Literal.{Literal}
use Rattle.cert_text_parse.specs.Views.{literal_of}
use Rattle.cert_text.specs.declared.certificates.Cert.{Cert}
use Rattle.cert_text.specs.Certificates.{certificate_of, all_literals, all_hints}
use Rattle.cert_check_frames.specs.declared.listed.Listed.{Listed}
use Rattle.prove_run_spec.specs.Written.{part_lines}
use Rattle.prove_run.specs.declared.trail.Found.{Found}
use Rattle.prove_run.specs.declared.trail.Found.TheVariants.{Proved, Unproved}
use Rattle.prove_run.specs.Found.{logs_of}

-- ---- lines

-- the literals of a step, as a certificate has them
pub record AddsLiterals (old new : List Literal) (literals : List clause.Literal) : Type 0 where
  pub added : List Literal
  pub now : new ≡ old ++ added
  pub are : map literal_of added ≡ literals

-- the literals and hints are those of the lines
pub record IsWhole (cert : Cert) : Type 0 where
  pub literals : all_literals cert.lines.items ≡ length cert.logs.literals.items
  pub hints : all_hints cert.lines.items ≡ length cert.logs.hints.items

pub record HasMore (old new : Cert) (lines : List spec.Line) : Type 0 where
  pub whole : IsWhole new
  pub now : certificate_of new ≡ certificate_of old ++ lines

-- these lines are added
abbrev pub AddsLines : (old new : Cert) → List spec.Line → Type 0
AddsLines old new lines = IsWhole old → HasMore old new lines

-- ---- parts

-- of a function, if it is proved
abbrev pub part_of : Listed → Found → List spec.Line
part_of f (Proved logs) = part_lines f.name.now f.stack (logs_of logs.items)
part_of f (Unproved trail) = []

unfoldable pub parts_of : List Listed → List Found → List spec.Line
parts_of [] found = []
parts_of (f ∷ listed) [] = []
parts_of (f ∷ listed) (one ∷ found) = part_of f one ++ parts_of listed found
