-- Parsers that keep roles with a second value beside their own.
use Rattle.std.proofs.Common.{◌≡◌, Ok, Err, refl, inr, Bool, List, ap, sym, ◌∙◌, subst, ◌∷◌, ◌++◌, []}
use Rattle.exact_read.specs.Reading.{Outcome, Parser, Within}
use Rattle.exact_read.specs.Grammar.{bind, read_map, Map, read_then, Then, stop_then}
use Rattle.exact_read.proofs.Then.{Joins}
use Rattle.c_parse_laws.specs.Beside.{WithEnd, FirmBeside}
use Rattle.c_token_spec.specs.Lexical.{Placed}
use Rattle.c_parse_spec.specs.declared.Role.{Role}
use Rattle.c_parse_spec.specs.declared.Role.TheVariants.{Nothing}
use Rattle.c_parse_spec.specs.Leaves.{Leaf, marks, roles}
use Rattle.exact_read.specs.Roles.{Roled}
use Rattle.exact_read.proofs.RoleBasics.{roled-same, roled-map}
use Rattle.exact_read.proofs.RoleBegins.{Begins, Silent}
use Rattle.exact_read.proofs.RoleThen.{roled-then_within, silence}

then_second : {T K X E Y : Type 0} (x : X) (e : E) (o : Outcome T K Y) → bind {Y = X × Y} o (λ y rest. Ok ((x, y), rest)) ≡ bind {X = (X × E) × Y} {Y = X × Y} (bind o (λ y rest. Ok (((x, e), y), rest))) (λ q rest. Ok ((q.0.0, q.1), rest))
then_second x e (Ok (y, rest)) = refl
then_second x e (Err fault) = refl

then_same : {T K X E Y : Type 0} (second : X → Parser T K Y) (o : Outcome T K (X × E)) → bind (bind o (λ (pair : X × E) rest. Ok (pair.0, rest))) (λ x rest. bind {Y = X × Y} (second x rest) (λ y after. Ok ((x, y), after))) ≡ bind {X = (X × E) × Y} {Y = X × Y} (bind o (λ (pair : X × E) rest. bind (second pair.0 rest) (λ y after. Ok ((pair, y), after)))) (λ q rest. Ok ((q.0.0, q.1), rest))
then_same second (Ok ((x, e), rest)) = then_second x e (second x rest)
then_same second (Err fault) = refl

-- a part whose end is given beside its value, and another after it
pub roled-then_beside : {X E Y : Type 0} {entry : Placed → Bool} {S1 : X → E → List Leaf → Type 0} {stop1 : X → E → Placed → Bool} {first : Parser Placed Role X} {S2 : X → Y → List Leaf → Type 0} {stop2 : X → Y → Placed → Bool} {ending : X → Y → Role} {Loose : Type 0} {second : X → Parser Placed Role Y}
    → FirmBeside entry S1 stop1 first
    → ((x : X) (e : E) (left : List Leaf) → S1 x e left → Within marks left → Roled marks roles (stop1 x e) (S2 x) (stop2 x) (ending x) Loose (second x))
    → Joins marks (λ (pair : X × E). S1 pair.0 pair.1) (λ (pair : X × E). stop1 pair.0 pair.1) (λ (pair : X × E). S2 pair.0) (λ (pair : X × E). stop2 pair.0)
    → Roled marks roles entry (Then (WithEnd S1) S2) (stop_then stop2) (λ pair. ending pair.0 pair.1) Loose (read_then first second)
roled-then_beside {X} {E} {Y} {entry} {S1} {stop1} {first} {S2} {stop2} {ending} {Loose} {second} one two joins =
    roled-same entry (Then (WithEnd S1) S2) (read_then first second) (λ t h. h) to from same
    (roled-map (λ (q : (X × E) × Y). (q.0.0, q.1)) (stop_then stop2) (λ pair. ending pair.0 pair.1) (λ q. refl) (λ q. inr refl)
    (roled-then_within one.is (λ pair left h w. two pair.0 pair.1 left h w) joins
    (silence marks roles (λ (pair : X × E). S1 pair.0 pair.1) (λ (pair : X × E). stop1 pair.0 pair.1) (λ (pair : X × E). S2 pair.0) (λ (pair : X × E). ending pair.0) Loose (λ (pair : X × E). second pair.0))))
  where
    to : (y : X × Y) (text : List Leaf) → Map (λ (q : (X × E) × Y). (q.0.0, q.1)) (Then (λ (pair : X × E). S1 pair.0 pair.1) (λ (pair : X × E). S2 pair.0)) y text → Then (WithEnd S1) S2 y text
    to y text m =
        let t = m.derives in
        subst (λ (p : X × Y). Then (WithEnd S1) S2 p text) (sym m.is)
        (record { left = t.left; right = t.right; cut = t.cut; first = record { end = m.inner.0.1; derives = t.first }; second = t.second })

    from : (y : X × Y) (text : List Leaf) → Then (WithEnd S1) S2 y text → Map (λ (q : (X × E) × Y). (q.0.0, q.1)) (Then (λ (pair : X × E). S1 pair.0 pair.1) (λ (pair : X × E). S2 pair.0)) y text
    from y text t = record { inner = ((y.0, t.first.end), y.1); is = refl; derives = record { left = t.left; right = t.right; cut = t.cut; first = t.first.derives; second = t.second } }

    same : (tokens : List Placed) → read_then first second tokens ≡ read_map (λ (q : (X × E) × Y). (q.0.0, q.1)) (read_then one.both (λ pair. second pair.0)) tokens
    same tokens = ap (λ o. bind o (λ x rest. bind (second x rest) (λ y after. Ok ((x, y), after)))) (one.same tokens) ∙ then_same second (one.both tokens)

-- two parts begin as the first
pub then_begins : {X Y : Type 0} {S1 : X → List Leaf → Type 0} {S2 : X → Y → List Leaf → Type 0} (t : Placed) → Begins marks S1 t → ((x : X) → (y : Y) × (right : List Leaf) × S2 x y right) → Begins marks (Then S1 S2) t
then_begins t b some =
    let s = some b.value in
    record { value = (b.value, s.0); first = b.first; more = b.more ++ s.1; derives = record { left = b.first ∷ b.more; right = s.1; cut = refl; first = b.derives; second = s.2 }; is = b.is }

pub then_silent : {X Y : Type 0} {S1 : X → List Leaf → Type 0} {S2 : X → Y → List Leaf → Type 0} → ((x : X) → S1 x [] → ⊥) → Silent marks roles S1 → Silent marks roles (Then S1 S2)
then_silent {X} {Y} {S1} {S2} some silent pair u more t = by_left t.left t.first t.cut
  where
    by_left : (left : List Leaf) → S1 pair.0 left → u ∷ more ≡ left ++ t.right → u.role ≡ Nothing
    by_left [] one e = absurd (some pair.0 one)
    by_left (v ∷ left) one e = let head : v ≡ u = cc in subst (λ (l : Leaf). l.role ≡ Nothing) head (silent pair.0 v left one)
