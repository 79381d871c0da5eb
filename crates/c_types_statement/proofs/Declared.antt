-- How many locals statements declare, one part or group at a time.
use Rattle.std.proofs.Common.{◌≡◌, ℕ, suc, ◌+◌, ◌<◌, ◌≤◌, List, [], ◌∷◌, length, map, drop, get_or, refl, ap, ◌∙◌, arith}
use Rattle.std.specs.declared.alloc.Global.{Global}
use Rattle.std.specs.declared.boxed.Box.{Box}
use Rattle.std.proofs.lemmas.List.{drop_more, drop_all}
use Rattle.c_syntax.specs.declared.statement.Group.{Group}
use Rattle.c_syntax.specs.declared.statement.Local.{Local}
use Rattle.c_syntax.specs.declared.statement.Part.{Part}
use Rattle.c_syntax.specs.Locals.{local_of}
use Rattle.c_syntax.specs.Statements.{Piece, Declares, States, part_of, parts_of, group_of, groups_of}
use Rattle.c_types_spec.specs.Statements.{locals_of, locals_of_groups}
use Rattle.c_types_expression.specs.Trees.{unboxed}

pub locals-count : (list : List (Box Local Global)) → length (map local_of (unboxed list)) ≡ length list
locals-count [] = refl
locals-count (x ∷ list) = ap suc (locals-count list)

locals-one : (piece : Piece) (rest : List Piece) → locals_of (parts_of (piece ∷ rest)) ≡ locals_of (parts_of (piece ∷ [])) + locals_of (parts_of rest)
unfolding locals_of
locals-one (Declares locals) rest = omega arith
locals-one (States statement) rest = omega arith

pub locals-more : (list : List Part) (i : ℕ) (d : Part) → i < length list
    → locals_of (parts_of (map part_of (drop i list))) ≡ locals_of (parts_of (part_of (get_or list i d) ∷ [])) + locals_of (parts_of (map part_of (drop (i + 1) list)))
locals-more list i d h = ap (λ l. locals_of (parts_of (map part_of l))) (drop_more list i d h) ∙ locals-one (part_of (get_or list i d)) (map part_of (drop (i + 1) list))

pub locals-none : (list : List Part) (i : ℕ) → length list ≤ i → locals_of (parts_of (map part_of (drop i list))) ≡ 0
unfolding locals_of
locals-none list i h = ap (λ l. locals_of (parts_of (map part_of l))) (drop_all i list h)

pub groups-more : (list : List (Box Group Global)) (i : ℕ) (d : Box Group Global) → i < length list
    → locals_of_groups (groups_of (map group_of (unboxed (drop i list)))) ≡ locals_of (group_of (get_or list i d).value).1 + locals_of_groups (groups_of (map group_of (unboxed (drop (i + 1) list))))
unfolding locals_of_groups
groups-more list i d h = ap (λ l. locals_of_groups (groups_of (map group_of (unboxed l)))) (drop_more list i d h)

pub groups-none : (list : List (Box Group Global)) (i : ℕ) → length list ≤ i → locals_of_groups (groups_of (map group_of (unboxed (drop i list)))) ≡ 0
unfolding locals_of_groups
groups-none list i h = ap (λ l. locals_of_groups (groups_of (map group_of (unboxed l)))) (drop_all i list h)

pub ruleset declared = (locals-count, locals-more, locals-none, groups-more, groups-none)
