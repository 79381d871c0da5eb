-- A run of fixed bytes by its first and its last address.
use Rattle.std.specs.Prelude.{ℕ}
use Rattle.term_core_spec.specs.Term.{Term, or_term, less}
use Rattle.decompile_spec.specs.InstructionTerms.{number}

-- the bytes from a to e meet none of the run: its last byte is below a, or e below its first
abbrev pub avoids_between : Term → Term → (first last : ℕ) → Term
avoids_between a e first last = or_term (less (number last) a) (less e (number first))
