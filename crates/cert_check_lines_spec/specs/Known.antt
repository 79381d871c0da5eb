-- The rules that are checked so far, and by them whether a certificate is a proof of the listed functions, and else its
-- first fault.
use Rattle.std.specs.Prelude.{ℕ, Bool, true, false, List}
use Rattle.tv_limits.specs.declared.Quantity.{Quantity}
use Rattle.cert_text_spec.specs.Lines.{Line, InlineBinary, InlineSource, Call}
use Rattle.cert_check_spec.specs.declared.RuleWord.{RuleWord}
use Rattle.cert_check_spec.specs.Verdict.{Listed}
use Rattle.cert_check_lines_spec.specs.LineRules.{Breaks, Above}
use Rattle.cert_check_lines_spec.specs.Parts.{Functions}
use Rattle.cert_check_lines_spec.specs.Members.{members_of}
use Rattle.cert_check_lines_spec.specs.Walk as walk

-- the line is of a rule that is checked: the first that isn't stops the check
abbrev pub is_known : Line → Bool
is_known (InlineBinary point) = false
is_known (InlineSource point) = false
is_known (Call points counts before after) = false
is_known one = true

-- The listed functions, whatever is known of the functions that a line inlines: none of a rule that is checked does.

-- no line breaks a rule
abbrev pub IsProof : List Listed → List Line → Type 0
IsProof listed lines = (fs : Functions) → walk.IsProof fs (members_of listed) is_known lines

-- the line at the offset is the first that breaks one: this one, in the part of a function of this name
abbrev pub IsFault : List Listed → List Line → (offset : ℕ) → (name : List ℕ) → RuleWord → Type 0
IsFault listed lines offset name word = (fs : Functions) → walk.IsFault fs (members_of listed) is_known lines offset name (Breaks word)

-- before any line does, a quantity is above its maximum, at the line at the offset
abbrev pub IsLimit : List Listed → List Line → (offset : ℕ) → Quantity → Type 0
IsLimit listed lines offset q = (fs : Functions) → (name : List ℕ) × walk.IsFault fs (members_of listed) is_known lines offset name (Above q)
