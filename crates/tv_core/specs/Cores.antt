-- The typed core of a source, or why it is refused.
use Rattle.std.specs.Prelude.{ℕ, List, Result, Ok, Err}
use Rattle.validity_spec.specs.Source.{IsC}
use Rattle.c_types.specs.declared.typed.Typed.{Typed}
use Rattle.c_types.specs.Typed.{typed_of}
use Rattle.attempt.specs.declared.refusal.Refusal.{Refusal}
use Rattle.attempt.specs.declared.refusal.Refusal.TheVariants.{Fault, NoMemory}
use Rattle.tv_core_spec.specs.Source.{CVerdict, Refused}
use Rattle.tv_core.specs.declared.source.SourceFault.{SourceFault}

-- a text is refused for this; out of memory may always come
abbrev pub IsRefused : (text : List ℕ) → Refusal SourceFault → Type 0
IsRefused text (Fault fault) = CVerdict text (Refused fault.kind fault.offset)
IsRefused text NoMemory = Unit {0}

-- the typed core of a text, or why it is refused
abbrev pub HasCore : (text : List ℕ) → Result Typed (Refusal SourceFault) → Type 0
HasCore text (Ok unit) = IsC text (typed_of unit)
HasCore text (Err refusal) = IsRefused text refusal
