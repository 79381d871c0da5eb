-- What is expected in a term, as the program keeps it.
use Rattle.std.specs.Prelude.{◌≡◌, ℕ, zero, suc, pred, ◌-◌, Bool, true, false, List, [], ◌∷◌, Option, Some, None}
use Rattle.tv_limits.specs.declared.TheConstants.{NESTING_LIMIT}
use Rattle.cert_text_spec.specs.declared.Symbol.{Symbol}
use Rattle.cert_text_spec.specs.declared.Symbol.TheVariants as symbol
use Rattle.cert_text_spec.specs.Terms as terms
use Rattle.exact_read.specs.Grammar.{read_map}
use Rattle.cert_text_laws.specs.Readers.{Reader}
use Rattle.cert_text_laws.specs.Heads.{read_rest, numbered}
use Rattle.cert_text_parse.specs.declared.symbols.Expected.{Expected}
use Rattle.cert_text_parse.specs.declared.symbols.Expected.TheVariants as expected
use Rattle.cert_text_parse.specs.declared.terms.Lead.{Lead}
use Rattle.cert_text_parse.specs.declared.terms.Lead.TheVariants as lead
use Rattle.cert_text_parse.specs.declared.terms.Going.{Going}

abbrev pub expected_of : Expected → terms.Expected
expected_of expected.Term = terms.ATerm NESTING_LIMIT
expected_of expected.Variable = terms.AVariable
expected_of (expected.Arguments room) = terms.Arguments room

-- no constant and no call
abbrev pub is_plain : Symbol → Bool
is_plain (symbol.Constant w n) = false
is_plain (symbol.Inlined n) = false
is_plain s = true

-- what follows a symbol's word, as the symbol
abbrev pub read_after : Symbol → Reader Symbol
read_after s = read_map (numbered s) (read_rest s)

-- where so many operators are open: their arguments, the innermost first
unfoldable pub opened : ℕ → List terms.Expected
opened zero = []
opened (suc n) = terms.Arguments (NESTING_LIMIT - suc n) ∷ opened n

abbrev pub stack_at : Lead → (depth : ℕ) → List terms.Expected
stack_at lead.Term n = terms.ATerm NESTING_LIMIT ∷ opened n
stack_at lead.Variable n = terms.AVariable ∷ opened n
stack_at lead.Argument n = opened n

abbrev pub stack_of : Going → List terms.Expected
stack_of g = stack_at g.lead g.depth

-- the first of them, where there is one, and those below it
abbrev pub top_at : Lead → (depth : ℕ) → terms.Expected
top_at lead.Term n = terms.ATerm NESTING_LIMIT
top_at lead.Variable n = terms.AVariable
top_at lead.Argument n = terms.Arguments (NESTING_LIMIT - n)

abbrev pub below_at : Lead → (depth : ℕ) → List terms.Expected
below_at lead.Term n = opened n
below_at lead.Variable n = opened n
below_at lead.Argument n = opened (pred n)

abbrev pub IsTop : Going → Option Expected → Type 0
IsTop g None = stack_of g ≡ []
IsTop g (Some e) = (expected_of e ≡ top_at g.lead g.depth) × (stack_of g ≡ top_at g.lead g.depth ∷ below_at g.lead g.depth)

-- what is expected after a symbol
abbrev pub next : Going → Symbol → Going
next g (symbol.Inlined n) = record { lead = lead.Variable; depth = g.depth }
next g (symbol.Open o) = record { lead = lead.Argument; depth = suc g.depth }
next g symbol.Close = record { lead = lead.Argument; depth = pred g.depth }
next g s = record { lead = lead.Argument; depth = g.depth }
