-- What the steps of reading give, beside the reference parser.
use Rattle.std.specs.Prelude.{◌≡◌, ◌≤◌, List, [], ◌∷◌, ◌++◌, length, Result, Ok, Err}
use Rattle.exact_read.specs.Reading as reading
use Rattle.cert_text_spec.specs.Lines as spec
use Rattle.cert_text_spec.specs.Certificates as certificates
use Rattle.cert_text_laws.specs.Readers.{Reader, given, refused}
use Rattle.cert_text_laws.specs.Lines.{read_line, read_certificate}
use Rattle.attempt.specs.declared.refusal.Refusal.{Refusal}
use Rattle.attempt.specs.declared.refusal.Refusal.TheVariants.{Fault, NoMemory}
use Rattle.cert_text_parse.specs.declared.stopped.TextFault.{TextFault}
use Rattle.cert_text_parse.specs.declared.stopped.TextFault.TheVariants.{Wrong}
use Rattle.cert_text_parse.specs.declared.cursor.Cursor.{Cursor}
use Rattle.cert_text_parse.specs.declared.lines.Line.{Line}
use Rattle.cert_text_parse.specs.Views.{line_of}
use Rattle.cert_text_parse.specs.LineOutcomes.{IsAdded}
use Rattle.cert_text.specs.declared.certificates.Cert.{Cert}
use Rattle.cert_text.specs.declared.stack.Group.{Group}
use Rattle.cert_text.specs.Certificates.{certificate_of}
use Rattle.cert_text.specs.Stack.{stack_of}

-- a line was read where this is expected, and added to the certificate; and to the stack what is expected after it
pub record OneAdded (e : certificates.Expected) (old new : Cursor) (stack_old stack_new : List Group) (before after : Cert) : Type 0 where
  pub line : Line
  pub added : IsAdded (read_line e) old new before.logs after.logs line
  pub lines : after.lines.items ≡ before.lines.items ++ line ∷ []
  pub expected : stack_of stack_new ≡ certificates.after e (line_of line) ++ stack_of stack_old

abbrev pub AddsOne : certificates.Expected → (old new : Cursor) → (stack_old stack_new : List Group) → (before after : Cert) → Result (Unit {0}) (Refusal TextFault) → Type 0
AddsOne e old new stack_old stack_new before after (Ok u) = OneAdded e old new stack_old stack_new before after
AddsOne e old new stack_old stack_new before after (Err NoMemory) = Unit {0}
AddsOne e old new stack_old stack_new before after (Err (Fault Wrong)) = read_line e old.rest.now ≡ refused new.rest.now

-- the lines that are read are the certificate, or a byte is wrong; none of the bytes that are left is new
abbrev pub ReadsLines : Reader (List spec.Line) → (old new : Cursor) → Cert → Result (Unit {0}) (Refusal TextFault) → Type 0
ReadsLines reader old new cert (Ok u) = (reader old.rest.now ≡ given (certificate_of cert) new.rest.now) × (length new.rest.now ≤ length old.rest.now)
ReadsLines reader old new cert (Err NoMemory) = Unit {0}
ReadsLines reader old new cert (Err (Fault Wrong)) = (reader old.rest.now ≡ refused new.rest.now) × (length new.rest.now ≤ length old.rest.now)

abbrev pub ReadsWhole : (old new : Cursor) → Cert → Result (Unit {0}) (Refusal TextFault) → Type 0
ReadsWhole old new cert (Ok u) = read_certificate old.rest.now ≡ Ok (certificate_of cert)
ReadsWhole old new cert (Err NoMemory) = Unit {0}
ReadsWhole old new cert (Err (Fault Wrong)) = (read_certificate old.rest.now ≡ Err (reading.Wrong (tt {0}), new.rest.now)) × (length new.rest.now ≤ length old.rest.now)
