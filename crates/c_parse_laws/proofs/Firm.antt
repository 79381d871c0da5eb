-- The operators of `exact_read`, where nothing is expected at the end of a value.
use Rattle.std.proofs.Common.{◌≡◌, inl, Bool, List, refl, Option, Some, true, not, ◌&&◌}
use Rattle.c_token_spec.specs.Lexical.{Placed}
use Rattle.c_parse_spec.specs.declared.Role.{Role}
use Rattle.c_parse_spec.specs.declared.Role.TheVariants.{Nothing}
use Rattle.c_parse_spec.specs.Leaves.{Leaf, marks, roles}
use Rattle.exact_read.specs.Reading.{Parser}
use Rattle.exact_read.specs.Grammar.{read_map, Map, anything, read_one, One, read_nothing, Nothing as Empty, opens, read_many, Many, stop_many}
use Rattle.exact_read.specs.Folds.{read_folded, Folded}
use Rattle.exact_read.proofs.Many.{Items}
use Rattle.exact_read.proofs.Folds.{Foldable}
use Rattle.exact_read.proofs.RoleBasics.{roled-map, roled-one, roled-nothing}
use Rattle.exact_read.proofs.RoleBegins.{Begins, Silent, begun_enters, silent_next}
use Rattle.exact_read.proofs.RoleMany.{ItemRoles, roled-many}
use Rattle.exact_read.proofs.RoleFolds.{roled-folded}
use Rattle.c_parse_laws.specs.Firm.{quiet, Firm}

pub firm-map : {X Y : Type 0} {entry : Placed → Bool} {S : X → List Leaf → Type 0} {stop : X → Placed → Bool} {read : Parser Placed Role X} (change : X → Y) (stop' : Y → Placed → Bool) → ((x : X) → stop' (change x) ≡ stop x) → Firm entry S stop read → Firm entry (Map change S) stop' (read_map change read)
firm-map change stop' same is = roled-map change stop' quiet same (λ x. inl refl) is

-- one token of a class, placed with the role by which another is called wrong
pub firm-one : {X : Type 0} (entry : Placed → Bool) (as_leaf : Placed → Leaf) (class : Placed → Option X) (role : Role) → ((t : Placed) → (as_leaf t).token ≡ t) → ((t : Placed) → (as_leaf t).role ≡ role) → (some : Placed) (value : X) → class some ≡ Some value → Firm entry (One as_leaf class) (λ _. anything) (read_one marks as_leaf class role)
firm-one entry as_leaf class role keeps says some value is = roled-one marks roles entry as_leaf class role keeps says some value is

pub firm-nothing : {X : Type 0} (test : Placed → Bool) (value : X) → Firm test (Empty value) (λ _. test) (read_nothing value)
firm-nothing test value = roled-nothing test value

-- items each of which begins with every token that can begin one, and has no role there
pub items_silent : {X C : Type 0} {starts : C → Placed → Bool} {S : C → X → List Leaf → Type 0} {stop : C → X → Placed → Bool} {next : C → X → C} {item : C → Parser Placed Role X}
    → ((c : C) (t : Placed) → starts c t ≡ true → Begins marks (S c) t) → ((c : C) → Silent marks roles (S c)) → ((c : C) → Firm (starts c) (S c) (stop c) (item c)) → ItemRoles marks roles starts S next (λ _ _. Nothing) (λ _. Nothing) ⊥ item
items_silent begins silent is =
    record {
      enters = λ c t more kind s e. absurd (begun_enters (is c).exact t more kind s (begins c t s) e);
      loose = λ never c. refl;
      begins = λ c u n. inl (silent_next (silent c) u n);
      ends = λ c x text one. inl refl;
    }

pub firm-many : {X C : Type 0} {starts ends : C → Placed → Bool} {S : C → X → List Leaf → Type 0} {stop : C → X → Placed → Bool} {next : C → X → C} {item : C → Parser Placed Role X} → Items marks starts ends S stop next
    → ((c : C) (t : Placed) → starts c t ≡ true → Begins marks (S c) t) → ((c : C) → Silent marks roles (S c)) → ((c : C) → Firm (starts c) (S c) (stop c) (item c)) → (context : C)
    → Firm (opens starts ends context) (Many next S context) (stop_many starts ends next context) (read_many starts item next context)
firm-many items begins silent is context = roled-many items (items_silent begins silent is) is context

pub firm-folded : {X I C : Type 0} {entry : Placed → Bool} {starts ends : C → Placed → Bool} {next : C → I → C} {apply : X → I → X} {context : X → C} {Base : X → List Leaf → Type 0} {stop_base : X → Placed → Bool} {Item : C → I → List Leaf → Type 0} {stop_item : C → I → Placed → Bool} {read_base : Parser Placed Role X} {item : C → Parser Placed Role I}
    → Foldable marks starts ends next apply context Base stop_base → Items marks starts ends Item stop_item next
    → ((c : C) (t : Placed) → starts c t ≡ true → Begins marks (Item c) t) → ((c : C) → Silent marks roles (Item c)) → Firm entry Base stop_base read_base → ((c : C) → Firm (starts c) (Item c) (stop_item c) (item c))
    → Firm entry (Folded apply context Base Item) (λ x token. ends (context x) token && not (starts (context x) token)) (read_folded starts item next apply context read_base)
firm-folded fold_is items begins silent base_is item_is = roled-folded fold_is items (items_silent begins silent item_is) (λ x text one. inl refl) base_is item_is
