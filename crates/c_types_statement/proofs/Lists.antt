-- Labels and the parts of blocks, one more at a time.
use Rattle.std.proofs.Common.{◌≡◌, ℕ, ◌+◌, ◌<◌, ◌≤◌, List, [], ◌∷◌, ◌++◌, length, map, drop, get_or, refl, sym, ap, ◌∙◌}
use Rattle.std.specs.Prelude.{Bool, Result, Ok, Err}
use Rattle.std.proofs.lemmas.List.{drop_more, drop_all}
use Rattle.c_syntax.specs.declared.statement.Label.{Label}
use Rattle.c_syntax.specs.declared.statement.Part.{Part}
use Rattle.c_syntax.specs.Statements.{Piece, Declares, States, part_of, parts_of}
use Rattle.c_syntax.specs.Locals.{label_of}
use Rattle.c_types_spec.specs.Core.{Action, sequence}
use Rattle.c_types_spec.specs.Names.{State, Fault, bind, ◌>>=◌}
use Rattle.c_types_spec.specs.Statements.{Context, ends, parts, statement}
use Rattle.c_types_statement.specs.Groups.{one_part}

pub labels-more : (list : List Label) (i : ℕ) (d : Label) → i < length list → map label_of (drop i list) ≡ label_of (get_or list i d) ∷ map label_of (drop (i + 1) list)
labels-more list i d h = ap (λ l. map label_of l) (drop_more list i d h)

-- ---- whether control goes on after parts

ends-one : (piece : Piece) (rest : List Piece) (last : Bool) → ends (parts_of (piece ∷ rest)) last ≡ ends (parts_of rest) (ends (parts_of (piece ∷ [])) last)
unfolding ends
ends-one (Declares locals) rest last = refl
ends-one (States first) rest last = refl

pub ends-more : (list : List Part) (i : ℕ) (d : Part) (last : Bool) → i < length list
    → ends (parts_of (map part_of (drop i list))) last ≡ ends (parts_of (map part_of (drop (i + 1) list))) (ends (parts_of (part_of (get_or list i d) ∷ [])) last)
ends-more list i d last h = ap (λ l. ends (parts_of (map part_of l)) last) (drop_more list i d h) ∙ ends-one (part_of (get_or list i d)) (map part_of (drop (i + 1) list)) last

pub ends-none : (list : List Part) (i : ℕ) (last : Bool) → length list ≤ i → ends (parts_of (map part_of (drop i list))) last ≡ last
unfolding ends
ends-none list i last h = ap (λ l. ends (parts_of (map part_of l)) last) (drop_all i list h)

pub ruleset last_parts = (ends-more, ends-none)

-- ---- what parts do

bind-assoc : {A B C : Type 0} (r : Result A Fault) (f : A → Result B Fault) (g : B → Result C Fault) → bind r (λ x. bind (f x) g) ≡ bind (bind r f) g
bind-assoc (Ok x) f g = refl
bind-assoc (Err fault) f g = refl

parts-one : (piece : Piece) (rest : List Piece) (context : Context) (done : List Action) (st : State)
    → parts (parts_of (piece ∷ rest)) context done st ≡ (one_part piece context done >>= (λ more. parts (parts_of rest) context more)) st
unfolding parts one_part
parts-one (Declares locals) rest context done st = refl
parts-one (States first) rest context done st = bind-assoc (statement first context st) (λ made. let more : List Action × State = (done ++ made.0 ∷ [], made.1) in Ok more) (λ made. parts (parts_of rest) context made.0 made.1)

pub parts-rows : (list : List Part) (i : ℕ) (d : Part) (context : Context) (done : List Action) (st : State) → i < length list
    → parts (parts_of (map part_of (drop i list))) context done st ≡ (one_part (part_of (get_or list i d)) context done >>= (λ more. parts (parts_of (map part_of (drop (i + 1) list))) context more)) st
parts-rows list i d context done st h =
    ap (λ l. parts (parts_of (map part_of l)) context done st) (drop_more list i d h)
    ∙ parts-one (part_of (get_or list i d)) (map part_of (drop (i + 1) list)) context done st

pub parts-none : (list : List Part) (i : ℕ) (context : Context) (done : List Action) (st : State) → length list ≤ i
    → parts (parts_of (map part_of (drop i list))) context done st ≡ Ok (sequence done, st)
unfolding parts
parts-none list i context done st h = ap (λ l. parts (parts_of (map part_of l)) context done st) (drop_all i list h)

pub ruleset rows = (parts-none)

pub parts-row : (list : List Part) (i : ℕ) (part : Part) (context : Context) (done : List Action) (st : State) → part ≡ get_or list i part → i < length list
    → parts (parts_of (map part_of (drop i list))) context done st ≡ bind (one_part (part_of part) context done st) (λ more. parts (parts_of (map part_of (drop (i + 1) list))) context more.0 more.1)
parts-row list i part context done st is h =
    parts-rows list i part context done st h
    ∙ ap (λ p. bind (one_part (part_of p) context done st) (λ more. parts (parts_of (map part_of (drop (i + 1) list))) context more.0 more.1)) (sym is)
