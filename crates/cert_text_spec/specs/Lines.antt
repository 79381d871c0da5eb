-- The lines of a certificate, and their spelling.
use Rattle.std.specs.Prelude.{◌≡◌, ℕ, ◌<◌, ◌&&◌, ◌||◌, ◌==◌, nat_le, Bool, true, false, if◌then◌else◌, List, [], ◌∷◌, ◌++◌, flat_map, All, codes, decimal}
use Rattle.std.specs.List.{list_all}
use Rattle.clause_check_spec.specs.declared.Literal.{Literal}
use Rattle.clause_check_spec.specs.Log.{Step}
use Rattle.proof_tree_spec.specs.declared.Counts.{Counts}
use Rattle.proof_tree_spec.specs.Proofs.{BinaryPoint, SourcePoint, Points}
use Rattle.cert_text_spec.specs.declared.Symbol.{Symbol}
use Rattle.cert_text_spec.specs.Terms.{IsTerm, term_text}
use Rattle.cert_text_spec.specs.Points.{IsNumber, binary_text, source_text, IsBinaryPoint, IsSourcePoint, ArePoints}

pub data Line : Type 0 where
  -- the version
  Header : Line
  -- the part of a function begins, whose stack is this
  Function : (name : List ℕ) → (stack : ℕ) → Line
  -- a call is inlined
  InlineBinary : (point : BinaryPoint) → Line
  InlineSource : (point : SourcePoint) → Line
  -- the rules
  Leaf : (logs : ℕ) → Line
  Case : (test : List Symbol) → Line
  RestrictBinary : (point : BinaryPoint) → (count : ℕ) → Line
  RestrictSource : (point : SourcePoint) → (count : ℕ) → Line
  Split : (points : Points) → (enter step : Counts) → (relations : ℕ) → Line
  Call : (points : Points) → (counts : Counts) → (before after : ℕ) → Line
  -- a line of a relation
  Relation : (term : List Symbol) → Line
  -- a log of so many steps, and a step
  Log : (steps : ℕ) → Line
  LogStep : (step : Step) → Line
  -- the last line
  End : Line

-- ---- the parts of lines

-- a letter or `_`, and a letter, a digit or `_`
abbrev pub is_letter : ℕ → Bool
is_letter c = (nat_le 65 c && nat_le c 90) || ((nat_le 97 c && nat_le c 122) || (c == 95))

abbrev pub is_digit : ℕ → Bool
is_digit c = nat_le 48 c && nat_le c 57

abbrev pub is_of_name : ℕ → Bool
is_of_name c = is_letter c || is_digit c

abbrev pub is_name : List ℕ → Bool
is_name [] = false
is_name (c ∷ name) = is_letter c && list_all is_of_name name

-- numbered from 1
abbrev pub IsPositive : ℕ → Type 0
IsPositive n = (0 < n) × IsNumber n

abbrev pub literal_text : Literal → List ℕ
literal_text l = (if l.is_negated then codes "-" else []) ++ decimal l.variable

pub record IsStep (step : Step) : Type 0 where
  pub literals : All (λ (l : Literal). IsPositive l.variable) step.literals
  pub hints : All IsPositive step.hints

abbrev pub step_text : Step → List ℕ
step_text step =
    flat_map (λ l. literal_text l ++ codes " ") step.literals ++ (codes "0 " ++ (flat_map (λ n. decimal n ++ codes " ") step.hints ++ codes "0\n"))

pub record AreCounts (c : Counts) : Type 0 where
  pub binary : IsNumber c.binary
  pub source : IsNumber c.source

-- ---- lines

abbrev pub number_line : ℕ → List ℕ
number_line n = decimal n ++ codes "\n"

abbrev pub then_number : List ℕ → ℕ → List ℕ
then_number text n = text ++ (codes " " ++ number_line n)

abbrev pub points_text : Points → List ℕ
points_text p = binary_text p.binary ++ (codes " " ++ (source_text p.source ++ codes " "))

abbrev pub counts_text : Counts → List ℕ
counts_text c = decimal c.binary ++ (codes " " ++ (decimal c.source ++ codes " "))

-- a line, with its line feed
abbrev pub line_text : Line → List ℕ
line_text Header = codes "tv-cert 1\n"
line_text (Function name stack) = codes "function " ++ (name ++ (codes " stack " ++ number_line stack))
line_text (InlineBinary p) = codes "inline a " ++ (binary_text p ++ codes "\n")
line_text (InlineSource p) = codes "inline c " ++ (source_text p ++ codes "\n")
line_text (Leaf logs) = codes "leaf " ++ number_line logs
line_text (Case test) = codes "case " ++ (term_text test ++ codes "\n")
line_text (RestrictBinary p count) = codes "restrict a " ++ (binary_text p ++ (codes " " ++ number_line count))
line_text (RestrictSource p count) = codes "restrict c " ++ (source_text p ++ (codes " " ++ number_line count))
line_text (Split p enter step relations) = codes "split " ++ (points_text p ++ (counts_text enter ++ (counts_text step ++ number_line relations)))
line_text (Call p counts before after) = codes "call " ++ (points_text p ++ (counts_text counts ++ (decimal before ++ (codes " " ++ number_line after))))
line_text (Relation t) = codes "rel " ++ (term_text t ++ codes "\n")
line_text (Log steps) = codes "log " ++ number_line steps
line_text (LogStep step) = codes "s " ++ step_text step
line_text End = codes "end\n"

-- what the parts of a line are
abbrev pub IsLine : Line → Type 0
IsLine Header = Unit {0}
IsLine (Function name stack) = (is_name name ≡ true) × IsNumber stack
IsLine (InlineBinary p) = IsBinaryPoint p
IsLine (InlineSource p) = IsSourcePoint p
IsLine (Leaf logs) = IsNumber logs
IsLine (Case test) = IsTerm test
IsLine (RestrictBinary p count) = IsBinaryPoint p × IsNumber count
IsLine (RestrictSource p count) = IsSourcePoint p × IsNumber count
IsLine (Split p enter step relations) = ArePoints p × AreCounts enter × AreCounts step × IsNumber relations
IsLine (Call p counts before after) = ArePoints p × AreCounts counts × IsNumber before × IsNumber after
IsLine (Relation t) = IsTerm t
IsLine (Log steps) = IsNumber steps
IsLine (LogStep step) = IsStep step
IsLine End = Unit {0}
