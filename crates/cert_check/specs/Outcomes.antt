-- What the check of a certificate answers.
use Rattle.std.specs.Prelude.{◌≡◌, ℕ, ◌<◌, List, length, take, Option, Some, None, option_map, option_and_then, slice_get, Result, Ok, Err}
use Rattle.std.specs.Borrow.{Bor}
use Rattle.cert_text_parse.specs.declared.lines.Line.{Line}
use Rattle.cert_text_parse.specs.declared.lines.Line.TheVariants as code
use Rattle.cert_text.specs.declared.certificates.Cert.{Cert}
use Rattle.cert_text.specs.Certificates.{certificate_of, text_of}
use Rattle.cert_check_spec.specs.Verdict as spec
use Rattle.cert_check_lines_spec.specs.Known.{IsProof, IsFault, IsLimit}
use Rattle.cert_check.specs.declared.fault.Named.{Named}
use Rattle.cert_check.specs.declared.fault.Named.TheVariants as named
use Rattle.attempt.specs.declared.refusal.Refusal.{Refusal}
use Rattle.attempt.specs.declared.refusal.Refusal.TheVariants.{Fault, NoMemory}
use Rattle.cert_check.specs.declared.fault.NamedFault.{NamedFault}
use Rattle.cert_check.specs.declared.fault.Placed.{Placed}
use Rattle.cert_check.specs.declared.fault.CheckFault.{CheckFault}
use Rattle.cert_check.specs.declared.fault.CheckFault.TheVariants.{NotProof, Limit}
use Rattle.cert_check.specs.declared.fault.NamedFault.TheVariants as fault
use Rattle.cert_check_frames.specs.declared.listed.Listed.{Listed}
use Rattle.cert_check_frames.specs.Listed.{AreListed}

-- ---- names

abbrev pub part_name : Line → Option (List ℕ)
part_name (code.Function part) = Some part.value.name.items
part_name line = None

-- the name of the function that is named
abbrev pub name_in : List Listed → List Line → Named → Option (List ℕ)
name_in codes lines (named.Listed k) = option_map (λ (f : Listed). f.name.now) (slice_get codes k)
name_in codes lines (named.Line n) = option_and_then part_name (slice_get lines n)

-- this name, if there is one
abbrev pub HasName : Option (List ℕ) → Option (Bor (List ℕ)) → Type 0
HasName name found = option_map (λ (n : Bor (List ℕ)). n.now) found ≡ name

-- ---- the whole

-- where the line of an index begins
abbrev pub offset_of : Cert → (line : ℕ) → ℕ
offset_of cert line = length (text_of (take line (certificate_of cert)))

-- the line of an index is the first that breaks a rule or a limit: this
abbrev pub IsFaultAt : List Listed → Cert → (listed : List spec.Listed) → (line : ℕ) → NamedFault → Type 0
IsFaultAt codes cert listed line (fault.Broken function rule) =
    (name : List ℕ) × (name_in codes cert.lines.items function ≡ Some name) × IsFault listed (certificate_of cert) (offset_of cert line) name rule
IsFaultAt codes cert listed line (fault.Above quantity) = IsLimit listed (certificate_of cert) (offset_of cert line) quantity

abbrev pub IsChecked : List Listed → Cert → Result (Unit {0}) (Refusal Placed) → Type 0
IsChecked codes cert (Ok done) = (listed : List spec.Listed) → AreListed codes listed → IsProof listed (certificate_of cert)
IsChecked codes cert (Err (Fault broken)) =
    (broken.place < length cert.lines.items) × ((listed : List spec.Listed) → AreListed codes listed → IsFaultAt codes cert listed broken.place broken.fault)
IsChecked codes cert (Err NoMemory) = Unit {0}

-- a fault with the offset of its line; out of memory may come there too
abbrev pub IsPlaced : Cert → Placed → Refusal CheckFault → Type 0
IsPlaced cert broken (Fault (NotProof function offset rule)) = (broken.fault ≡ fault.Broken function rule) × (offset ≡ offset_of cert broken.place)
IsPlaced cert broken (Fault (Limit quantity)) = broken.fault ≡ fault.Above quantity
IsPlaced cert broken NoMemory = Unit {0}

-- No line breaks a rule or a limit; or the first that does is at this offset, and this is what it breaks. Out of memory may
-- come at any time
abbrev pub IsVerdictOf : List Listed → Cert → (listed : List spec.Listed) → Result (Unit {0}) (Refusal CheckFault) → Type 0
IsVerdictOf codes cert listed (Ok done) = IsProof listed (certificate_of cert)
IsVerdictOf codes cert listed (Err (Fault (NotProof function offset rule))) =
    (name : List ℕ) × (name_in codes cert.lines.items function ≡ Some name) × IsFault listed (certificate_of cert) offset name rule
IsVerdictOf codes cert listed (Err (Fault (Limit quantity))) = (offset : ℕ) × IsLimit listed (certificate_of cert) offset quantity
IsVerdictOf codes cert listed (Err NoMemory) = Unit {0}

abbrev pub IsVerdict : List Listed → Cert → Result (Unit {0}) (Refusal CheckFault) → Type 0
IsVerdict codes cert result = (listed : List spec.Listed) → AreListed codes listed → IsVerdictOf codes cert listed result
