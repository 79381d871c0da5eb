-- Variables of goals, and literals by the numbers of their variables.
use Rattle.std.specs.Prelude.{ℕ, Bool, true, false}
use Rattle.term_core_spec.specs.declared.Width.TheVariants.{W8, W32}
use Rattle.term_core_spec.specs.declared.Sort.{Sort}
use Rattle.term_core_spec.specs.declared.Sort.TheVariants.{Truth, Word, Memory}
use Rattle.term_core_spec.specs.declared.Family.TheVariants.{Local, SourceMemory}
use Rattle.term_core_spec.specs.declared.Variable.{Variable}
use Rattle.term_core_spec.specs.Term.{Term, open_term}
use Rattle.clause_check_spec.specs.declared.Literal.{Literal}

abbrev pub is : ℕ → Literal
is number = record { variable = number; is_negated = false }

abbrev pub isnt : ℕ → Literal
isnt number = record { variable = number; is_negated = true }

abbrev pub local : ℕ → Sort → Term
local number kind = open_term (record { family = Local; index = number; instance = 0; sort = kind })

abbrev pub p : Term
p = local 0 Truth

abbrev pub q : Term
q = local 1 Truth

abbrev pub r : Term
r = local 2 Truth

abbrev pub x : Term
x = local 3 (Word W8)

abbrev pub y : Term
y = local 4 (Word W8)

abbrev pub a : Term
a = local 5 (Word W32)

abbrev pub b : Term
b = local 6 (Word W32)

abbrev pub m : Term
m = open_term (record { family = SourceMemory; index = 0; instance = 0; sort = Memory })
