-- The id that the ids of the code have at a number.
use Rattle.std.specs.Prelude.{ℕ, ◌==◌, ◌-◌, ◌/◌, ◌%◌, if◌then◌else◌, Option, None}
use Rattle.path_cond.specs.declared.ids.Ids.{Ids}
use Rattle.path_cond.specs.declared.ids.Ids.TheVariants.{Empty, Node'}

unfoldable pub id_at : Ids → ℕ → Option ℕ
id_at Empty n = None
id_at (Node' id p odd q even) n = if n == 0 then id else (if n % 2 == 1 then id_at odd (n / 2) else id_at even (n / 2 - 1))

-- the id by its part
abbrev pub of_parts : Option ℕ → Ids → Ids → ℕ → Option ℕ
of_parts id odd even n = if n == 0 then id else (if n % 2 == 1 then id_at odd (n / 2) else id_at even (n / 2 - 1))
