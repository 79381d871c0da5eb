-- Each text has a verdict.
use Rattle.std.proofs.Common.{◌≡◌, ℕ, zero, suc, ◌+◌, ◌<◌, ◌≤◌, ◌==◌, ◌&&◌, ◌||◌, Bool, true, false, not, cond, if◌then◌else◌, List, [], ◌∷◌, length, drop, take, Option, Some, None, Result, Ok, Err, refl, ap, arith}
use Rattle.std.specs.Prelude.{nat_eq, nat_lt, find, codes, ⊤}
use Rattle.std.specs.Option.{option_map_or}
use Rattle.std.specs.List.{prefix_len, starts_with, list_all}
use Rattle.std.proofs.lemmas.Bool.{ltb-true, and_parts}
use Rattle.std.proofs.lemmas.List.{length-drop}
use Rattle.c_token_spec.specs.declared.token.TokenFaultKind.{TokenFaultKind}
use Rattle.c_token_spec.specs.declared.token.TokenFaultKind.TheVariants.{Byte, Number as number_fault, Character as character_fault, Comment}
use Rattle.c_token_spec.specs.declared.token.Punctuator.{Punctuator}
use Rattle.c_token_spec.specs.Words.{is_digit, begins_word, is_word_byte}
use Rattle.c_token_spec.specs.Punctuators.{punctuators, punctuator_of}
use Rattle.c_token_spec.specs.Numbers.{number_len, number_of}
use Rattle.c_token_spec.specs.Characters.{character_of}
use Rattle.c_token_spec.specs.Blanks.{is_blank_in_line, is_blank_byte, line_len, close_len, is_marker}
use Rattle.c_token_spec.specs.Lexical.{Token, Number, Character, Mark, Placed, Piece, Blank, Lexeme, Fault, mark_piece, first_piece, with_token, Lexes, ended, blank, lexeme, fault, AreTokens}
use Rattle.c_syntax_spec.specs.Unit.{TranslationUnit}
use Rattle.c_parse_spec.specs.declared.Role.{Role}
use Rattle.c_parse_spec.specs.declared.ParseFaultKind.{ParseFaultKind}
use Rattle.c_parse_spec.specs.Faults.{IsFault, offset_of}
use Rattle.c_parse_spec.specs.Source.{HasTree}
use Rattle.exact_read.specs.Reading.{Fault as Stop, LimitExceeded, Wrong}
use Rattle.c_types_spec.specs.declared.LeftOut.TheVariants as left_out
use Rattle.c_types_spec.specs.declared.TypeFaultKind.TheVariants.{LeftOut}
use Rattle.c_types_spec.specs.Core.{Typed}
use Rattle.c_types_spec.specs.Names.{Fault as TypeFault}
use Rattle.c_types_spec.specs.Units.{typed}
use Rattle.c_parse_laws.specs.Units.{read_unit}
use Rattle.c_parse_laws.specs.UnitExactness.{UnitExact, UnitReports}
use Rattle.c_parse_laws.proofs.UnitAll.{unit-is_exact}
use Rattle.c_parse_laws.proofs.Faults.{unit-reports}
use Rattle.c_parse_spec.specs.Initials.{definition_in, DefinesNothing}
use Rattle.report_text_spec.specs.declared.SourceKind.TheVariants.{Token as token_kind, Syntax, Typing}
use Rattle.tv_core_spec.specs.Source.{Source, Accepted, Refused, CVerdict, no_tokens, no_unit, hidden_definition, no_types, accepted}
use Rattle.tv_core_spec.specs.Laws.{EachSource}

-- ---- what a text begins with has a byte

abbrev HasByte : Piece → Type 0
HasByte (Blank count fresh) = 0 < count
HasByte (Lexeme token count) = 0 < count
HasByte (Fault kind) = ⊤

choose : (b : Bool) (x y : Piece) → (b ≡ true → HasByte x) → (b ≡ false → HasByte y) → HasByte (if b then x else y)
choose true x y first second = first refl
choose false x y first second = second refl

some_prefix : (p : ℕ → Bool) (byte : ℕ) (text : List ℕ) → p byte ≡ true → 0 < prefix_len p (byte ∷ text)
some_prefix p byte text e = rw e (omega arith)

second_true : (a b : Bool) → b ≡ true → (a || b) ≡ true
second_true true b e = refl
second_true false b e = e

second_false : (a b : Bool) → (a || b) ≡ false → b ≡ false
second_false true b e = absurd (cc)
second_false false b e = e

in_line : (byte : ℕ) (text : List ℕ) → is_blank_byte byte ≡ false → 0 < line_len (byte ∷ text)
in_line byte text e = some_prefix (λ b. not (b == 10)) byte text (ap not (second_false (is_blank_in_line byte) (byte == 10) e))

comment_has : (o : Option ℕ) → HasByte (option_map_or (λ count. Blank (2 + count) false) o (Fault Comment))
comment_has None = tt
comment_has (Some count) = omega arith

number_has : {A : Type 0} (made : A → Token) (count : ℕ) (o : Option A) → HasByte (option_map_or (λ number. Lexeme (made number) (suc count)) o (Fault number_fault))
number_has made count None = tt
number_has made count (Some number) = omega arith

character_has : {A : Type 0} (made : A → Token) (count : A → ℕ) (o : Option A) → HasByte (option_map_or (λ found. Lexeme (made found) (suc (count found))) o (Fault character_fault))
character_has made count None = tt
character_has made count (Some found) = omega arith

abbrev marked : Option (List ℕ × Punctuator) → Piece
marked o = option_map_or (λ found. Lexeme (Mark found.1) (length found.0)) o (Fault Byte)

marked_case : (b : Bool) (entry : List ℕ × Punctuator) (rest : Option (List ℕ × Punctuator)) → 0 < length entry.0 → HasByte (marked rest) → HasByte (marked (cond b (Some entry) rest))
marked_case true entry rest long more = long
marked_case false entry rest long more = more

marked_has : (table : List (List ℕ × Punctuator)) (p : List ℕ × Punctuator → Bool) → list_all (λ entry. nat_lt 0 (length entry.0)) table ≡ true → HasByte (marked (find p table))
marked_has [] p all = tt
marked_has (entry ∷ table) p all =
    let both = and_parts (nat_lt 0 (length entry.0)) (list_all (λ e. nat_lt 0 (length e.0)) table) all in
    marked_case (p entry) entry (find p table) (ltb-true 0 (length entry.0) both.0) (marked_has table p both.1)

mark_has : (text : List ℕ) → HasByte (mark_piece text)
unfolding punctuator_of
mark_has text = marked_has punctuators (λ entry. starts_with nat_eq text entry.0) refl

piece_has : (fresh : Bool) (byte : ℕ) (text : List ℕ) → HasByte (first_piece fresh byte text)
unfolding first_piece
piece_has fresh byte text =
    choose (is_blank_byte byte) _ _ (λ e. omega arith) (λ solid.
    choose (starts_with nat_eq (byte ∷ text) (codes "//")) _ _ (λ e. in_line byte text solid) (λ e.
    choose (starts_with nat_eq (byte ∷ text) (codes "/*")) _ _ (λ e. comment_has (close_len (drop 2 (byte ∷ text)))) (λ e.
    choose (fresh && (byte == 35) && is_marker text) _ _ (λ e. in_line byte text solid) (λ e.
    choose (begins_word byte) _ _ (λ e. some_prefix is_word_byte byte text (second_true (is_digit byte) (begins_word byte) e)) (λ e.
    choose (is_digit byte) _ _ (λ e. number_has (λ number. Number number.0 number.1) (number_len byte text) (number_of (byte ∷ take (number_len byte text) text))) (λ e.
    choose (byte == 39) _ _ (λ e. character_has (λ found. Character found.0) (λ found. found.1) (character_of text)) (λ e. mark_has (byte ∷ text))))))))

-- ---- a text has tokens, or a first fault

abbrev Outcome : Type 0
Outcome = Result (List Placed) (TokenFaultKind × ℕ)

abbrev IsLexed : (fresh : Bool) → (offset : ℕ) → List ℕ → Type 0
IsLexed fresh offset text = (outcome : Outcome) × Lexes fresh offset text outcome

shorter : (most count : ℕ) (text : List ℕ) → 0 < count → length text ≤ suc most → length (drop count text) ≤ most
shorter most count text some within = let long = length-drop count text in omega (arith, some, within, long)

-- after a piece, where `rest` has the outcome of a shorter text
after_piece : (most : ℕ) (fresh : Bool) (offset byte : ℕ) (text : List ℕ) → length (byte ∷ text) ≤ suc most
    → ((f : Bool) (o : ℕ) (t : List ℕ) → length t ≤ most → IsLexed f o t)
    → (piece : Piece) → HasByte piece → first_piece fresh byte text ≡ piece → IsLexed fresh offset (byte ∷ text)
after_piece most fresh offset byte text within rest (Blank count after) some is =
    let more = rest after (offset + count) (drop count (byte ∷ text)) (shorter most count (byte ∷ text) some within) in
    (more.0, blank fresh after offset byte text count more.0 is more.1)
after_piece most fresh offset byte text within rest (Lexeme token count) some is =
    let more = rest false (offset + count) (drop count (byte ∷ text)) (shorter most count (byte ∷ text) some within) in
    (with_token (record { token = token; offset = offset }) more.0, lexeme fresh offset byte text token count more.0 is more.1)
after_piece most fresh offset byte text within rest (Fault kind) some is = (Err (kind, offset), fault fresh offset byte text kind is)

lexed : (most : ℕ) (fresh : Bool) (offset : ℕ) (text : List ℕ) → length text ≤ most → IsLexed fresh offset text
lexed most fresh offset [] within = (Ok [], ended fresh offset)
lexed zero fresh offset (byte ∷ text) within = absurd (omega (arith, within))
lexed (suc most) fresh offset (byte ∷ text) within =
    after_piece most fresh offset byte text within (λ f o t less. lexed most f o t less) (first_piece fresh byte text) (piece_has fresh byte text) refl

-- ---- a text with tokens is C, or has a first fault

abbrev HasVerdict : List ℕ → Type 0
HasVerdict text = (source : Source) × CVerdict text source

of_typing : (text : List ℕ) (tree : TranslationUnit) → HasTree text tree → DefinesNothing text → (made : Result Typed TypeFault) → typed tree ≡ made → HasVerdict text
of_typing text tree derives defines (Ok unit) e =
    (Accepted unit, accepted unit (record { tree = tree; derives = derives; defines_nothing = defines; has_types = e }))
of_typing text tree derives defines (Err (kind, offset)) e = (Refused (Typing kind) offset, no_types tree kind offset derives defines e)

of_tree : (text : List ℕ) (tree : TranslationUnit) (derives : HasTree text tree) → (found : Option ℕ) → definition_in derives.tokens ≡ found → HasVerdict text
of_tree text tree derives (Some offset) e = (
  Refused (Typing (LeftOut left_out.Struct)) offset,
  hidden_definition tree offset derives (record { tokens = derives.tokens; lexes = derives.lexes; first = e }),
)
of_tree text tree derives None e =
    of_typing text tree derives (record { tokens = derives.tokens; lexes = derives.lexes; nowhere = e }) (typed tree) refl

of_fault : (text : List ℕ) (tokens : List Placed) (kind : ParseFaultKind) (rest : List Placed) → AreTokens text tokens → IsFault tokens kind rest → HasVerdict text
of_fault text tokens kind rest lexes at_fault = (
  Refused (Syntax kind) (offset_of (length text) rest),
  no_unit kind (offset_of (length text) rest) (record { tokens = tokens; lexes = lexes; rest = rest; fault = at_fault; there = refl }),
)

of_reading : UnitExact → UnitReports → (text : List ℕ) (tokens : List Placed) → AreTokens text tokens → (read : Result TranslationUnit (Stop Role × List Placed))
    → read_unit tokens ≡ read → HasVerdict text
of_reading exact reports text tokens lexes (Ok tree) e =
    of_tree text tree (record { tokens = tokens; lexes = lexes; parses = exact.found tokens tree e }) (definition_in tokens) refl
of_reading exact reports text tokens lexes (Err (Wrong role, rest)) e = of_fault text tokens _ rest lexes (reports.wrong tokens role rest e)
of_reading exact reports text tokens lexes (Err (LimitExceeded, rest)) e = of_fault text tokens _ rest lexes (reports.exceeded tokens rest e)

of_lexing : UnitExact → UnitReports → (text : List ℕ) (outcome : Outcome) → Lexes true 0 text outcome → HasVerdict text
of_lexing exact reports text (Ok tokens) lexes = of_reading exact reports text tokens lexes (read_unit tokens) refl
of_lexing exact reports text (Err (kind, offset)) lexes = (Refused (token_kind kind) offset, no_tokens kind offset lexes)

each : UnitExact → UnitReports → (text : List ℕ) → HasVerdict text
each exact reports text = let found = lexed (length text) true 0 text (omega arith) in of_lexing exact reports text found.0 found.1

pub each-source : EachSource
each-source = each unit-is_exact unit-reports
