-- What a parser of a line gives, beside the reference parser.
use Rattle.std.specs.Prelude.{◌≡◌, ℕ, true, false, List, ◌++◌, length, map, Option, Some, codes, Result, Ok, Err}
use Rattle.exact_read.specs.Grammar.{read_then, read_map}
use Rattle.clause_check_spec.specs.declared.Literal as clause
use Rattle.proof_tree_spec.specs.declared.Counts.{Counts}
use Rattle.cert_text_spec.specs.Lines as spec
use Rattle.cert_text_laws.specs.Readers.{Reader, given, refused}
use Rattle.cert_text_laws.specs.Parts.{read_ended, read_led, read_positive, read_number, read_counts, literal_of}
use Rattle.cert_text_laws.specs.Lines.{read_last_number, space}
use Rattle.attempt.specs.declared.refusal.Refusal.{Refusal}
use Rattle.attempt.specs.declared.refusal.Refusal.TheVariants.{Fault, NoMemory}
use Rattle.cert_text_parse.specs.declared.stopped.TextFault.{TextFault}
use Rattle.cert_text_parse.specs.declared.stopped.TextFault.TheVariants.{Wrong}
use Rattle.cert_text_parse.specs.declared.cursor.Cursor.{Cursor}
use Rattle.cert_text_parse.specs.declared.lines.Literal.{Literal}
use Rattle.cert_text_parse.specs.declared.lines.Logs.{Logs}
use Rattle.cert_text_parse.specs.declared.lines.Line.{Line}
use Rattle.cert_text_parse.specs.Views.{line_of, line_at, is_step, literals_in, hints_in}

-- ---- parts of lines, as the reference parsers have them inside

abbrev pub read_negated : Reader (Option clause.Literal)
read_negated = read_map (λ n. Some (record { variable = n; is_negated = true })) (read_led (codes "-") (read_ended read_positive (codes " ")))

abbrev pub read_plain : Reader (Option clause.Literal)
read_plain = read_map literal_of (read_ended read_number (codes " "))

abbrev pub read_split_numbers : Reader (Counts × (Counts × ℕ))
read_split_numbers = read_then read_counts (λ _. read_then read_counts (λ _. read_last_number))

abbrev pub read_call_numbers : Reader (Counts × (ℕ × ℕ))
read_call_numbers = read_then read_counts (λ _. read_then (read_ended read_number space) (λ _. read_last_number))

-- ---- items that are added to a list

-- so many, as the definitions see them
pub record HasAdded {X Y : Type 0} (view : X → Y) (reader : Reader (List Y)) (old new : Cursor) (before after : List X) (count : ℕ) : Type 0 where
  pub added : List X
  pub is : after ≡ before ++ added
  pub counted : length added ≡ count
  pub read : reader old.rest.now ≡ given (map view added) new.rest.now

abbrev pub Adds : {X Y : Type 0} → (view : X → Y) → Reader (List Y) → (old new : Cursor) → (before after : List X) → Result ℕ (Refusal TextFault) → Type 0
Adds view reader old new before after (Ok count) = HasAdded view reader old new before after count
Adds view reader old new before after (Err NoMemory) = Unit {0}
Adds view reader old new before after (Err (Fault Wrong)) = reader old.rest.now ≡ refused new.rest.now

-- ---- lines

-- a line that is no step
abbrev pub ParsesLine : Reader spec.Line → (old new : Cursor) → Result Line (Refusal TextFault) → Type 0
ParsesLine reader old new (Ok line) = (reader old.rest.now ≡ given (line_of line) new.rest.now) × (is_step line ≡ false)
ParsesLine reader old new (Err NoMemory) = Unit {0}
ParsesLine reader old new (Err (Fault Wrong)) = reader old.rest.now ≡ refused new.rest.now

-- a line, whose literals and hints were added to the lists
pub record IsAdded (reader : Reader spec.Line) (old new : Cursor) (before after : Logs) (line : Line) : Type 0 where
  pub literals : List Literal
  pub hints : List ℕ
  pub literals_are : after.literals.items ≡ before.literals.items ++ literals
  pub hints_are : after.hints.items ≡ before.hints.items ++ hints
  pub literals_count : length literals ≡ literals_in line
  pub hints_count : length hints ≡ hints_in line
  pub read : reader old.rest.now ≡ given (line_at line literals hints) new.rest.now

abbrev pub AddsLine : Reader spec.Line → (old new : Cursor) → (before after : Logs) → Result Line (Refusal TextFault) → Type 0
AddsLine reader old new before after (Ok line) = IsAdded reader old new before after line
AddsLine reader old new before after (Err NoMemory) = Unit {0}
AddsLine reader old new before after (Err (Fault Wrong)) = reader old.rest.now ≡ refused new.rest.now
