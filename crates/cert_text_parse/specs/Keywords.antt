-- What is expected, and keywords, of the program as those that the definitions speak of.
use Rattle.std.specs.Prelude.{ℕ, List, map}
use Rattle.cert_text_spec.specs.Certificates as spec
use Rattle.cert_text_laws.specs.Lines.{keyword_text, keywords_at}
use Rattle.cert_text_laws.specs.Lines as lines
use Rattle.cert_text_parse.specs.declared.keywords.Expected.{Expected}
use Rattle.cert_text_parse.specs.declared.keywords.Expected.TheVariants as expected
use Rattle.cert_text_parse.specs.declared.keywords.Rule.{Rule}
use Rattle.cert_text_parse.specs.declared.keywords.Rule.TheVariants as rule
use Rattle.cert_text_parse.specs.declared.keywords.Other.{Other}
use Rattle.cert_text_parse.specs.declared.keywords.Other.TheVariants as other
use Rattle.cert_text_parse.specs.declared.keywords.Keyword.{Keyword}
use Rattle.cert_text_parse.specs.declared.keywords.Keyword.TheVariants as keyword

abbrev pub expected_of : Expected → spec.Expected
expected_of expected.Header = spec.AHeader
expected_of expected.Parts = spec.TheParts
expected_of expected.BinaryInlines = spec.BinaryInlines
expected_of expected.SourceInlines = spec.SourceInlines
expected_of (expected.Proof room) = spec.AProof room
expected_of expected.Relation = spec.ARelation
expected_of expected.Log = spec.ALog
expected_of expected.Step = spec.AStep

abbrev pub rule_of : Rule → lines.Keyword
rule_of rule.Leaf = lines.KLeaf
rule_of rule.Case = lines.KCase
rule_of rule.RestrictBinary = lines.KRestrictBinary
rule_of rule.RestrictSource = lines.KRestrictSource
rule_of rule.Split = lines.KSplit
rule_of rule.Call = lines.KCall

abbrev pub other_of : Other → lines.Keyword
other_of other.Header = lines.KHeader
other_of other.Function = lines.KFunction
other_of other.InlineBinary = lines.KInlineBinary
other_of other.InlineSource = lines.KInlineSource
other_of other.Relation = lines.KRelation
other_of other.Log = lines.KLog
other_of other.End = lines.KEnd

abbrev pub keyword_of : Keyword → lines.Keyword
keyword_of (keyword.Rule r) = rule_of r
keyword_of (keyword.Other o) = other_of o
keyword_of keyword.Step = lines.KStep

-- and the other way round
abbrev pub code_of : lines.Keyword → Keyword
code_of lines.KHeader = keyword.Other other.Header
code_of lines.KFunction = keyword.Other other.Function
code_of lines.KInlineBinary = keyword.Other other.InlineBinary
code_of lines.KInlineSource = keyword.Other other.InlineSource
code_of lines.KLeaf = keyword.Rule rule.Leaf
code_of lines.KCase = keyword.Rule rule.Case
code_of lines.KRestrictBinary = keyword.Rule rule.RestrictBinary
code_of lines.KRestrictSource = keyword.Rule rule.RestrictSource
code_of lines.KSplit = keyword.Rule rule.Split
code_of lines.KCall = keyword.Rule rule.Call
code_of lines.KRelation = keyword.Other other.Relation
code_of lines.KLog = keyword.Other other.Log
code_of lines.KStep = keyword.Step
code_of lines.KEnd = keyword.Other other.End

-- the words with which a line begins where this is expected
abbrev pub words : spec.Expected → List (List ℕ × Keyword)
words e = map (λ k. (keyword_text k, code_of k)) (keywords_at e)
