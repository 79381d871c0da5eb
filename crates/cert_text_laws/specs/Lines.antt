-- Readers of lines and of certificates.
use Rattle.std.specs.Prelude.{ℕ, zero, suc, List, [], ◌∷◌, map, codes, Result}
use Rattle.exact_read.specs.Reading.{Fault}
use Rattle.exact_read.specs.Grammar.{read_nothing, read_then, read_map, read_whole}
use Rattle.cert_text_spec.specs.Lines.{Line, Header, Function, InlineBinary, InlineSource, Leaf, Case, RestrictBinary, RestrictSource, Split, Call, Relation, Log, LogStep, End}
use Rattle.cert_text_spec.specs.Certificates.{Expected, AHeader, TheParts, BinaryInlines, SourceInlines, AProof, ARelation, ALog, AStep, after, root_room}
use Rattle.cert_text_laws.specs.Readers.{Reader, read_word, read_name, read_items}
use Rattle.cert_text_laws.specs.Parts.{read_ended, read_number, read_binary, read_source, read_points, read_counts, read_step}
use Rattle.cert_text_laws.specs.Heads.{read_term}

-- with what a line begins
pub data Keyword : Type 0 where
  KHeader : Keyword
  KFunction : Keyword
  KInlineBinary : Keyword
  KInlineSource : Keyword
  KLeaf : Keyword
  KCase : Keyword
  KRestrictBinary : Keyword
  KRestrictSource : Keyword
  KSplit : Keyword
  KCall : Keyword
  KRelation : Keyword
  KLog : Keyword
  KStep : Keyword
  KEnd : Keyword

abbrev pub keyword_text : Keyword → List ℕ
keyword_text KHeader = codes "tv-cert 1\n"
keyword_text KFunction = codes "function "
keyword_text KInlineBinary = codes "inline a "
keyword_text KInlineSource = codes "inline c "
keyword_text KLeaf = codes "leaf "
keyword_text KCase = codes "case "
keyword_text KRestrictBinary = codes "restrict a "
keyword_text KRestrictSource = codes "restrict c "
keyword_text KSplit = codes "split "
keyword_text KCall = codes "call "
keyword_text KRelation = codes "rel "
keyword_text KLog = codes "log "
keyword_text KStep = codes "s "
keyword_text KEnd = codes "end\n"

abbrev pub rules : (room : ℕ) → List Keyword
rules zero = KLeaf ∷ []
rules (suc room) = KLeaf ∷ KCase ∷ KRestrictBinary ∷ KRestrictSource ∷ KSplit ∷ KCall ∷ []

abbrev pub keywords_at : Expected → List Keyword
keywords_at AHeader = KHeader ∷ []
keywords_at TheParts = KFunction ∷ KEnd ∷ []
keywords_at BinaryInlines = KInlineBinary ∷ KInlineSource ∷ rules root_room
keywords_at SourceInlines = KInlineSource ∷ rules root_room
keywords_at (AProof room) = rules room
keywords_at ARelation = KRelation ∷ []
keywords_at ALog = KLog ∷ []
keywords_at AStep = KStep ∷ []

abbrev pub entries : List Keyword → List (List ℕ × Keyword)
entries keywords = map (λ k. (keyword_text k, k)) keywords

abbrev pub line_feed : List ℕ
line_feed = codes "\n"

abbrev pub space : List ℕ
space = codes " "

abbrev pub read_last_number : Reader ℕ
read_last_number = read_ended read_number line_feed

-- what follows the keyword
abbrev pub read_fields : Keyword → Reader Line
read_fields KHeader = read_nothing Header
read_fields KFunction = read_map (λ p. Function p.0 p.1) (read_then (read_ended read_name (codes " stack ")) (λ _. read_last_number))
read_fields KInlineBinary = read_map InlineBinary (read_binary line_feed)
read_fields KInlineSource = read_map InlineSource (read_source line_feed)
read_fields KLeaf = read_map Leaf read_last_number
read_fields KCase = read_map Case (read_ended read_term line_feed)
read_fields KRestrictBinary = read_map (λ p. RestrictBinary p.0 p.1) (read_then (read_binary space) (λ _. read_last_number))
read_fields KRestrictSource = read_map (λ p. RestrictSource p.0 p.1) (read_then (read_source space) (λ _. read_last_number))
read_fields KSplit = read_map (λ p. Split p.0 p.1.0 p.1.1.0 p.1.1.1) (read_then read_points (λ _. read_then read_counts (λ _. read_then read_counts (λ _. read_last_number))))
read_fields KCall = read_map (λ p. Call p.0 p.1.0 p.1.1.0 p.1.1.1) (read_then read_points (λ _. read_then read_counts (λ _. read_then (read_ended read_number space) (λ _. read_last_number))))
read_fields KRelation = read_map Relation (read_ended read_term line_feed)
read_fields KLog = read_map Log read_last_number
read_fields KStep = read_map LogStep read_step
read_fields KEnd = read_nothing End

abbrev pub read_line : Expected → Reader Line
read_line e = read_map (λ p. p.1) (read_then (read_word (entries (keywords_at e))) read_fields)

-- the lines of a whole text, or the first byte that is wrong
abbrev pub read_certificate : List ℕ → Result (List Line) (Fault (Unit {0}) × List ℕ)
read_certificate bytes = read_whole (tt {0}) (read_items read_line after (AHeader ∷ [])) bytes
