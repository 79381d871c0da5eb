-- What a block declares, one name after the other.
use Rattle.std.specs.Prelude.{List, [], ◌∷◌}
use Rattle.c_types_spec.specs.Names.{Scope, Scopes, declared}

abbrev pub all_declared : {M : Type 0} → Scope M → Scopes M → Scopes M
all_declared [] scopes = scopes
all_declared (entry ∷ list) scopes = all_declared list (declared entry.0 entry.1 scopes)

-- scopes whose innermost block is `block`, in another one
abbrev pub in_two_blocks : {M : Type 0} → (file block outer : Scope M) → List (Scope M) → Scopes M
in_two_blocks file block outer blocks = record { file = file; blocks = block ∷ outer ∷ blocks }
