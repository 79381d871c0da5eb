-- What is reconstructed of a model.
use Rattle.std.specs.Prelude.{◌≤◌, List, [], ◌∷◌, length}
use Rattle.bit_blast_spec.specs.Goal.{Load}

-- the addresses are numbers below 2 ^ 32, as those of a well-sorted goal
abbrev pub AreShort : List Load → Type 0
AreShort [] = Unit {0}
AreShort (load ∷ loads) = (length load.address ≤ 32) × AreShort loads
