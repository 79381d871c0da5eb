-- A text has one verdict at most.
use Rattle.std.proofs.Common.{◌≡◌, ℕ, List, length, Option, Some, None, Result, Ok, Err, ap, sym, ◌∙◌, subst}
use Rattle.c_token_spec.specs.Lexical.{Placed, AreTokens, IsTokenFault}
use Rattle.c_token_spec.specs.declared.token.TokenFaultKind.{TokenFaultKind}
use Rattle.c_syntax_spec.specs.Unit.{TranslationUnit}
use Rattle.c_parse_spec.specs.declared.ParseFaultKind.{ParseFaultKind}
use Rattle.c_parse_spec.specs.Faults.{IsUnit, IsFault, offset_of}
use Rattle.c_parse_spec.specs.Source.{HasTree, IsParseFault}
use Rattle.c_types_spec.specs.declared.LeftOut.TheVariants as left_out
use Rattle.c_types_spec.specs.declared.TypeFaultKind.{TypeFaultKind}
use Rattle.c_types_spec.specs.declared.TypeFaultKind.TheVariants.{LeftOut}
use Rattle.c_types_spec.specs.Core.{Typed}
use Rattle.c_types_spec.specs.Names.{Fault}
use Rattle.c_types_spec.specs.Units.{typed}
use Rattle.c_parse_laws.specs.UnitExactness.{UnitExact, UnitReports}
use Rattle.c_parse_laws.proofs.UnitAll.{unit-is_exact}
use Rattle.c_parse_laws.proofs.Faults.{unit-reports}
use Rattle.c_parse_spec.specs.Initials.{DefinesIn, DefinesNothing, definition_in}
use Rattle.report_text_spec.specs.declared.SourceKind.TheVariants.{Token, Syntax, Typing}
use Rattle.tv_core_spec.specs.Source.{Source, Accepted, Refused, CVerdict, no_tokens, no_unit, hidden_definition, no_types, accepted}
use Rattle.tv_core_spec.specs.Laws.{OneSource}
use Rattle.tv_core_spec.proofs.Texts.{one_tokens, tokens_or_fault, one_token_fault}

-- ---- trees

same_tree : UnitExact → (tokens : List Placed) (one two : TranslationUnit) → IsUnit tokens one → IsUnit tokens two → one ≡ two
same_tree exact tokens one two x y =
    let first = exact.only tokens one x in
    let second = exact.only tokens two y in
    let both : Ok one ≡ Ok two = sym first ∙ second in
    cc

one_tree : UnitExact → (text : List ℕ) (one two : TranslationUnit) → HasTree text one → HasTree text two → one ≡ two
one_tree exact text one two x y =
    same_tree exact x.tokens one two x.parses (subst (λ t. IsUnit t two) (one_tokens text y.tokens x.tokens y.lexes x.lexes) y.parses)

-- ---- two verdicts that differ

unparsed_or_tree : UnitReports → (text : List ℕ) (tree : TranslationUnit) (kind : ParseFaultKind) (offset : ℕ) → HasTree text tree → IsParseFault text kind offset → ⊥
unparsed_or_tree reports text tree kind offset x y =
    reports.none x.tokens tree kind y.rest x.parses (subst (λ t. IsFault t kind y.rest) (one_tokens text y.tokens x.tokens y.lexes x.lexes) y.fault)

unlexed_or_unparsed : (text : List ℕ) (kind : TokenFaultKind) (other : ParseFaultKind) (offset place : ℕ) → IsTokenFault text kind offset → IsParseFault text other place → ⊥
unlexed_or_unparsed text kind other offset place x y = tokens_or_fault text y.tokens kind offset y.lexes x

unlexed_or_tree : (text : List ℕ) (tree : TranslationUnit) (kind : TokenFaultKind) (offset : ℕ) → HasTree text tree → IsTokenFault text kind offset → ⊥
unlexed_or_tree text tree kind offset x y = tokens_or_fault text x.tokens kind offset x.lexes y

-- what is defined within initial values, of tokens that are one
both_defined : (text : List ℕ) (one two : List Placed) (first second : Option ℕ) → AreTokens text one → AreTokens text two → definition_in one ≡ first
    → definition_in two ≡ second → first ≡ second
both_defined text one two first second x y e f = sym e ∙ (ap definition_in (one_tokens text one two x y) ∙ f)

defines_or_not : (text : List ℕ) (offset : ℕ) → DefinesIn text offset → DefinesNothing text → ⊥
defines_or_not text offset x y =
    let same = both_defined text x.tokens y.tokens (Some offset) None x.lexes y.lexes x.first y.nowhere in absurd (cc)

-- ---- two verdicts of one kind

one_unparsed : UnitReports → (text : List ℕ) (one two : ParseFaultKind) (offset place : ℕ) → IsParseFault text one offset → IsParseFault text two place → (one ≡ two) × (offset ≡ place)
one_unparsed reports text one two offset place x y =
    let fault = subst (λ t. IsFault t two y.rest) (one_tokens text y.tokens x.tokens y.lexes x.lexes) y.fault in
    let same = reports.unique x.tokens one two x.rest y.rest x.fault fault in
    (same.0, x.there ∙ ap (offset_of (length text)) same.1 ∙ sym y.there)

-- what typing says of trees that are one
both_typed : UnitExact → (text : List ℕ) (one two : TranslationUnit) (first second : Result Typed Fault) → HasTree text one → HasTree text two → typed one ≡ first → typed two ≡ second
    → first ≡ second
both_typed exact text one two first second x y e f = sym e ∙ (ap typed (one_tree exact text one two x y) ∙ f)

abbrev failed : TypeFaultKind → (offset : ℕ) → Result Typed Fault
failed kind offset = Err (kind, offset)

same_fault : (one two : TypeFaultKind) (offset place : ℕ) → failed one offset ≡ failed two place → (one ≡ two) × (offset ≡ place)
same_fault one two offset place e =
    let pair : ◌≡◌ {A = Fault} (one, offset) (two, place) = cc in
    (ap (λ p. p.0) pair, ap (λ p. p.1) pair)

one_definition : (text : List ℕ) (offset place : ℕ) → DefinesIn text offset → DefinesIn text place → offset ≡ place
one_definition text offset place x y =
    let same : Some offset ≡ Some place = both_defined text x.tokens y.tokens (Some offset) (Some place) x.lexes y.lexes x.first y.first in cc

once : UnitExact → UnitReports → (text : List ℕ) (one two : Source) → CVerdict text one → CVerdict text two → one ≡ two
once exact reports text _ _ (no_tokens kind offset x) (no_tokens other place y) =
    let same = one_token_fault text kind other offset place x y in
    λ i. Refused (Token (same.0 i)) (same.1 i)
once exact reports text _ _ (no_tokens kind offset x) (no_unit other place y) = absurd (unlexed_or_unparsed text kind other offset place x y)
once exact reports text _ _ (no_tokens kind offset x) (hidden_definition tree place y d) = absurd (unlexed_or_tree text tree kind offset y x)
once exact reports text _ _ (no_tokens kind offset x) (no_types tree other place y d e) = absurd (unlexed_or_tree text tree kind offset y x)
once exact reports text _ _ (no_tokens kind offset x) (accepted unit y) = absurd (unlexed_or_tree text y.tree kind offset y.derives x)
once exact reports text _ _ (no_unit kind offset x) (no_tokens other place y) = absurd (unlexed_or_unparsed text other kind place offset y x)
once exact reports text _ _ (no_unit kind offset x) (no_unit other place y) =
    let same = one_unparsed reports text kind other offset place x y in
    λ i. Refused (Syntax (same.0 i)) (same.1 i)
once exact reports text _ _ (no_unit kind offset x) (hidden_definition tree place y d) = absurd (unparsed_or_tree reports text tree kind offset y x)
once exact reports text _ _ (no_unit kind offset x) (no_types tree other place y d e) = absurd (unparsed_or_tree reports text tree kind offset y x)
once exact reports text _ _ (no_unit kind offset x) (accepted unit y) = absurd (unparsed_or_tree reports text y.tree kind offset y.derives x)
once exact reports text _ _ (hidden_definition tree offset x d) (no_tokens other place y) = absurd (unlexed_or_tree text tree other place x y)
once exact reports text _ _ (hidden_definition tree offset x d) (no_unit other place y) = absurd (unparsed_or_tree reports text tree other place x y)
once exact reports text _ _ (hidden_definition tree offset x d) (hidden_definition second place y f) =
    ap (Refused (Typing (LeftOut left_out.Struct))) (one_definition text offset place d f)
once exact reports text _ _ (hidden_definition tree offset x d) (no_types second other place y f e) = absurd (defines_or_not text offset d f)
once exact reports text _ _ (hidden_definition tree offset x d) (accepted unit y) = absurd (defines_or_not text offset d y.defines_nothing)
once exact reports text _ _ (no_types tree kind offset x d e) (no_tokens other place y) = absurd (unlexed_or_tree text tree other place x y)
once exact reports text _ _ (no_types tree kind offset x d e) (no_unit other place y) = absurd (unparsed_or_tree reports text tree other place x y)
once exact reports text _ _ (no_types tree kind offset x d e) (hidden_definition second place y f) = absurd (defines_or_not text place f d)
once exact reports text _ _ (no_types tree kind offset x d e) (no_types second other place y g f) =
    let same = same_fault kind other offset place (both_typed exact text tree second (Err (kind, offset)) (Err (other, place)) x y e f) in
    λ i. Refused (Typing (same.0 i)) (same.1 i)
once exact reports text _ _ (no_types tree kind offset x d e) (accepted unit y) =
    let same = both_typed exact text tree y.tree (Err (kind, offset)) (Ok unit) x y.derives e y.has_types in absurd (cc)
once exact reports text _ _ (accepted unit x) (no_tokens other place y) = absurd (unlexed_or_tree text x.tree other place x.derives y)
once exact reports text _ _ (accepted unit x) (no_unit other place y) = absurd (unparsed_or_tree reports text x.tree other place x.derives y)
once exact reports text _ _ (accepted unit x) (hidden_definition tree place y d) = absurd (defines_or_not text place d x.defines_nothing)
once exact reports text _ _ (accepted unit x) (no_types tree other place y d f) =
    let same = both_typed exact text x.tree tree (Ok unit) (Err (other, place)) x.derives y x.has_types f in absurd (cc)
once exact reports text _ _ (accepted unit x) (accepted other y) =
    let same : Ok unit ≡ Ok other = both_typed exact text x.tree y.tree (Ok unit) (Ok other) x.derives y.derives x.has_types y.has_types in
    ap Accepted (cc)

pub one-source : OneSource
one-source = once unit-is_exact unit-reports
