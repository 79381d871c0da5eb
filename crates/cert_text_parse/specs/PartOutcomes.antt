-- What a parser of a part gives, beside the reference parser.
use Rattle.std.specs.Prelude.{◌≡◌, ℕ, List, codes, Result, Ok, Err}
use Rattle.proof_tree_spec.specs.declared.Place.{Place}
use Rattle.cert_text_laws.specs.Readers.{Reader, given, refused}
use Rattle.cert_text_laws.specs.Parts.{Stepped, read_address_step, read_place_step, read_binary, read_source}
use Rattle.attempt.specs.declared.refusal.Refusal.{Refusal}
use Rattle.attempt.specs.declared.refusal.Refusal.TheVariants.{Fault, NoMemory}
use Rattle.cert_text_parse.specs.declared.stopped.TextFault.{TextFault}
use Rattle.cert_text_parse.specs.declared.stopped.TextFault.TheVariants.{Wrong}
use Rattle.cert_text_parse.specs.declared.cursor.Cursor.{Cursor}
use Rattle.cert_text_parse.specs.declared.points.Ending.{Ending}
use Rattle.cert_text_parse.specs.declared.points.Ending.TheVariants as ending

-- the value as the definitions see it and the bytes after it, or the bytes from the wrong one on
abbrev pub ParsesAs : {X Y : Type 0} → (view : X → Y) → Reader Y → (old new : Cursor) → Result X (Refusal TextFault) → Type 0
ParsesAs view reader old new (Ok x) = reader old.rest.now ≡ given (view x) new.rest.now
ParsesAs view reader old new (Err NoMemory) = Unit {0}
ParsesAs view reader old new (Err (Fault Wrong)) = reader old.rest.now ≡ refused new.rest.now

-- what ends a point
abbrev pub ending_text : Ending → List ℕ
ending_text ending.Space = codes " "
ending_text ending.LineFeed = codes "\n"

abbrev pub read_address_at : Ending → Reader (Stepped ℕ)
read_address_at end = read_address_step (ending_text end) (tt {0})

abbrev pub read_place_at : Ending → Reader (Stepped Place)
read_place_at end = read_place_step (ending_text end) (tt {0})

-- a point, whose path was handed out with its last part
abbrev pub ParsesBinary : Ending → (path : List ℕ) → (old new : Cursor) → Result ℕ (Refusal TextFault) → Type 0
ParsesBinary end path old new result = ParsesAs (λ a. record { path = path; address = a }) (read_binary (ending_text end)) old new result

abbrev pub ParsesSource : Ending → (path : List ℕ) → (old new : Cursor) → Result Place (Refusal TextFault) → Type 0
ParsesSource end path old new result = ParsesAs (λ p. record { path = path; place = p }) (read_source (ending_text end)) old new result
