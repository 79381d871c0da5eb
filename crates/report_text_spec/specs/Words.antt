-- The words of the kinds of refusals in reports.
use Rattle.std.specs.Prelude.{ℕ, List, ◌++◌, codes}
use Rattle.elf_read_spec.specs.declared.ElfKind.{ElfKind}
use Rattle.elf_read_spec.specs.declared.ElfKind.TheVariants as file
use Rattle.c_token_spec.specs.declared.token.TokenFaultKind.{TokenFaultKind}
use Rattle.c_token_spec.specs.declared.token.TokenFaultKind.TheVariants.{Byte, Number, Character, Comment}
use Rattle.c_parse_spec.specs.declared.LeftOut.{LeftOut}
use Rattle.c_parse_spec.specs.declared.LeftOut.TheVariants as left_out
use Rattle.c_parse_spec.specs.declared.ParseFaultKind.{ParseFaultKind}
use Rattle.c_parse_spec.specs.declared.ParseFaultKind.TheVariants.{Unexpected, LeftOut as LeftOutKind, Depth}
use Rattle.c_types_spec.specs.declared.LeftOut.{LeftOut as TypeLeftOut}
use Rattle.c_types_spec.specs.declared.LeftOut.TheVariants as type_left_out
use Rattle.c_types_spec.specs.declared.TypeFaultKind.{TypeFaultKind}
use Rattle.c_types_spec.specs.declared.TypeFaultKind.TheVariants as typing
use Rattle.code_reach_spec.specs.declared.CodeKind.{CodeKind}
use Rattle.code_reach_spec.specs.declared.CodeKind.TheVariants.{NoFunction, Ambiguous, Empty, Writable, Misplaced, Undecoded, Indirect, Leaves, Overlap}
use Rattle.tv_limits.specs.declared.Quantity.{Quantity}
use Rattle.tv_limits.specs.declared.Quantity.TheVariants.{Elf, C, Functions, Nodes, Certificate, Visits, Terms, Variables, Call, Steps, Known}
use Rattle.report_text_spec.specs.declared.SourceKind.{SourceKind}
use Rattle.report_text_spec.specs.declared.SourceKind.TheVariants.{Token, Syntax, Typing}
use Rattle.cert_check_spec.specs.declared.RuleWord.{RuleWord}
use Rattle.cert_check_spec.specs.declared.RuleWord.TheVariants as rule
use Rattle.pair_setup_spec.specs.declared.PairKind.{PairKind}
use Rattle.pair_setup_spec.specs.declared.PairKind.TheVariants.{NothingListed, NoSource, NoSymbol, ObjectSize, Recursive, StackTooDeep}

abbrev pub quantity_word : Quantity → List ℕ
quantity_word Elf = codes "elf"
quantity_word C = codes "c"
quantity_word Functions = codes "functions"
quantity_word Nodes = codes "nodes"
quantity_word Certificate = codes "cert"
quantity_word Visits = codes "visits"
quantity_word Terms = codes "terms"
quantity_word Variables = codes "variables"
quantity_word Call = codes "call"
quantity_word Steps = codes "steps"
quantity_word Known = codes "known"

abbrev pub elf_word : ElfKind → List ℕ
elf_word file.Short = codes "Short"
elf_word file.Magic = codes "Magic"
elf_word file.Class = codes "Class"
elf_word file.Endian = codes "Endian"
elf_word file.Version = codes "Version"
elf_word file.Kind = codes "Kind"
elf_word file.Machine = codes "Machine"
elf_word file.Flags = codes "Flags"
elf_word file.HeaderSize = codes "HeaderSize"
elf_word file.Table = codes "Table"
elf_word file.SegmentRange = codes "SegmentRange"
elf_word file.SegmentOverlap = codes "SegmentOverlap"
elf_word file.NoSymbols = codes "NoSymbols"
elf_word file.SymbolTable = codes "SymbolTable"
elf_word file.StringTable = codes "StringTable"

abbrev pub token_word : TokenFaultKind → List ℕ
token_word Byte = codes "Byte"
token_word Number = codes "Number"
token_word Character = codes "Character"
token_word Comment = codes "Comment"

abbrev pub left_out_word : LeftOut → List ℕ
left_out_word left_out.Goto = codes "Goto"
left_out_word left_out.Union = codes "Union"
left_out_word left_out.Float = codes "Float"
left_out_word left_out.Volatile = codes "Volatile"
left_out_word left_out.Asm = codes "Asm"
left_out_word left_out.Variadic = codes "Variadic"
left_out_word left_out.Bool = codes "Bool"
left_out_word left_out.Attribute = codes "Attribute"
left_out_word left_out.Keyword = codes "Keyword"
left_out_word left_out.FunctionPointer = codes "FunctionPointer"
left_out_word left_out.BitField = codes "BitField"
left_out_word left_out.Comma = codes "Comma"
left_out_word left_out.Call = codes "Call"

abbrev pub syntax_word : ParseFaultKind → List ℕ
syntax_word Unexpected = codes "Unexpected"
syntax_word (LeftOutKind part) = codes "LeftOut." ++ left_out_word part
syntax_word Depth = codes "Depth"

abbrev pub type_left_out_word : TypeLeftOut → List ℕ
type_left_out_word type_left_out.Word64 = codes "Word64"
type_left_out_word type_left_out.Struct = codes "Struct"
type_left_out_word type_left_out.Array = codes "Array"
type_left_out_word type_left_out.Difference = codes "Difference"
type_left_out_word type_left_out.FunctionName = codes "FunctionName"
type_left_out_word type_left_out.CallPlace = codes "CallPlace"
type_left_out_word type_left_out.StaticLocal = codes "StaticLocal"

abbrev pub type_word : TypeFaultKind → List ℕ
type_word typing.Unknown = codes "Unknown"
type_word typing.Twice = codes "Twice"
type_word typing.Mismatch = codes "Mismatch"
type_word typing.NotLvalue = codes "NotLvalue"
type_word typing.AddressOfLocal = codes "AddressOfLocal"
type_word typing.Incomplete = codes "Incomplete"
type_word typing.TooManyWords = codes "TooManyWords"
type_word typing.Fallthrough = codes "Fallthrough"
type_word (typing.LeftOut part) = codes "LeftOut." ++ type_left_out_word part

abbrev pub source_word : SourceKind → List ℕ
source_word (Token kind) = token_word kind
source_word (Syntax kind) = syntax_word kind
source_word (Typing kind) = type_word kind

abbrev pub pair_word : PairKind → List ℕ
pair_word NothingListed = codes "NothingListed"
pair_word NoSource = codes "NoSource"
pair_word NoSymbol = codes "NoSymbol"
pair_word ObjectSize = codes "ObjectSize"
pair_word Recursive = codes "Recursive"
pair_word StackTooDeep = codes "StackTooDeep"

abbrev pub code_word : CodeKind → List ℕ
code_word NoFunction = codes "NoFunction"
code_word Ambiguous = codes "Ambiguous"
code_word Empty = codes "Empty"
code_word Writable = codes "Writable"
code_word Misplaced = codes "Misplaced"
code_word Undecoded = codes "Undecoded"
code_word Indirect = codes "Indirect"
code_word Leaves = codes "Leaves"
code_word Overlap = codes "Overlap"

abbrev pub rule_word : RuleWord → List ℕ
rule_word rule.Later = codes "Later"
rule_word rule.Inline = codes "Inline"
rule_word rule.Point = codes "Point"
rule_word rule.Count = codes "Count"
rule_word rule.Callee = codes "Callee"
rule_word rule.Passed = codes "Passed"
rule_word rule.Same = codes "Same"
rule_word rule.Word = codes "Word"
rule_word rule.Stranger = codes "Stranger"
rule_word rule.Stack = codes "Stack"
rule_word rule.Sort = codes "Sort"
rule_word rule.Cyclic = codes "Cyclic"
rule_word rule.Logs = codes "Logs"
rule_word rule.Step = codes "Step"
rule_word rule.Unclosed = codes "Unclosed"
rule_word rule.Missing = codes "Missing"
