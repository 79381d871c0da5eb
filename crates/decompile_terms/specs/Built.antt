-- What a call that builds a term answers.
use Rattle.std.specs.Prelude.{◌≡◌, Box, Result, IfOk}
use Rattle.std.specs.Global.{Global}
use Rattle.term_core_spec.specs.Term.{Term}
use Rattle.term_core.specs.declared.term.Term.{Term as CodeTerm}
use Rattle.term_core.specs.Trees.{term_of}

-- it answers this term, in a box; or it is out of memory
abbrev pub Builds : {E : Type 0} → Result (Box CodeTerm Global) E → Term → Type 0
Builds result term = IfOk result (λ t. term_of t.value ≡ term)
