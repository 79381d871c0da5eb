-- When a text has no tokens.
use Rattle.std.specs.Prelude.{ℕ, List}
use Rattle.c_token_spec.specs.Lexical.{IsTokenFault}
use Rattle.attempt.specs.declared.refusal.Refusal.{Refusal}
use Rattle.attempt.specs.declared.refusal.Refusal.TheVariants.{Fault, NoMemory}
use Rattle.c_token.specs.declared.TokenFault.{TokenFault}

-- a fault is the first of the text, at its offset; out of memory may always come
abbrev pub IsFaultOf : (text : List ℕ) → Refusal TokenFault → Type 0
IsFaultOf text (Fault fault) = IsTokenFault text fault.kind fault.offset
IsFaultOf text NoMemory = Unit {0}
