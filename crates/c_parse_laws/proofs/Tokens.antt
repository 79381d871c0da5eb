-- Tokens of a class, as long as one comes next, and parts whose value is kept, are read exactly.
use Rattle.std.proofs.Common.{◌≡◌, Bool, true, Option, Some, List, [], ◌∷◌, false, refl, IsTrue, ◌||◌, ap, not, ◌&&◌, ◌++◌, sym, ◌∙◌, subst, Ok, Err}
use Rattle.std.specs.Prelude.{map}
use Rattle.c_token_spec.specs.Lexical.{Placed}
use Rattle.c_parse_spec.specs.declared.Role.{Role}
use Rattle.c_parse_spec.specs.declared.Role.TheVariants.{Nothing}
use Rattle.c_parse_spec.specs.Leaves.{Leaf, plain, marks}
use Rattle.exact_read.specs.Reading.{Stops, Outcome, Parser}
use Rattle.exact_read.specs.Exact.{Exact}
use Rattle.exact_read.specs.Grammar.{context_after, stop_many, anything, One, read_many, Many, none, some, bind, Map, Then}
use Rattle.exact_read.proofs.Parts.{exact-one, exact-same, stops_anything, exact-map}
use Rattle.exact_read.proofs.Then.{Joins, exact-then_within}
use Rattle.exact_read.proofs.Many.{Items, exact-many}
use Rattle.exact_read.proofs.Stop.{exact-stop}
use Rattle.c_parse_laws.specs.Parsers.{token, before}
use Rattle.exact_read.proofs.Contexts.{many-context_same}

-- a class of tokens that are given by a value
pub record TokenClass {X : Type 0} (class : Placed → Option X) (test : Placed → Bool) (spell : X → Placed) : Type 0 where
  pub back : (t : Placed) (x : X) → class t ≡ Some x → t ≡ spell x
  pub self : (x : X) → class (spell x) ≡ Some x
  pub passes : (x : X) → test (spell x) ≡ true
  pub sample : X

-- leaves of such tokens
abbrev pub leaves_of : {X : Type 0} → (spell : X → Placed) → List X → List Leaf
leaves_of spell xs = map (λ x. plain (spell x)) xs

-- where nothing was read, what was asked before; else nothing
abbrev pub unless_read : {X : Type 0} → List X → (entry : Placed → Bool) → Placed → Bool
unless_read [] entry t = entry t
unless_read (x ∷ xs) entry t = true

pub or_right : (a b : Bool) → IsTrue b → IsTrue (a || b)
or_right true b e = refl
or_right false b e = e

or_true : (a : Bool) → IsTrue (a || true)
or_true true = refl
or_true false = refl

pub stops_or_true : (test : Placed → Bool) (rest : List Placed) → Stops (λ t. test t || true) rest
stops_or_true test [] = tt
stops_or_true test (t ∷ rest) = or_true (test t)

-- whether something was read
abbrev pub ends_read : (entry : Placed → Bool) → (read : Bool) → Placed → Bool
ends_read entry true t = true
ends_read entry false t = entry t

pub context_read : {X : Type 0} (xs : List X) → context_after (λ (_ : Bool) (_ : X). true) true xs ≡ true
context_read [] = refl
context_read (x ∷ xs) = context_read xs

pub ends_same : {X : Type 0} (test entry : Placed → Bool) (xs : List X) (t : Placed) → stop_many (λ (_ : Bool). test) (ends_read entry) (λ (_ : Bool) (_ : X). true) false xs t ≡ (unless_read xs entry t && not (test t))
ends_same test entry [] t = refl
ends_same test entry (x ∷ xs) t = ap (λ c. ends_read entry c t && not (test t)) (context_read xs)

pub exact-tokens : {X : Type 0} {class : Placed → Option X} {test : Placed → Bool} {spell : X → Placed} → TokenClass class test spell → (entry : Placed → Bool)
    → Exact marks entry (λ xs text. text ≡ leaves_of spell xs) (λ xs t. unless_read xs entry t && not (test t)) (read_many (λ (_ : Unit {0}). test) (λ _. token Nothing plain class) (λ _ _. tt {0}) (tt {0}))
exact-tokens {X} {class} {test} {spell} kind entry =
    exact-same entry (λ xs text. text ≡ leaves_of spell xs) (read_many (λ (_ : Unit {0}). test) (λ _. token Nothing plain class) (λ _ _. tt {0}) (tt {0}))
    (λ t h. or_right (test t) (entry t) h) (to false) (λ xs text e. subst (λ t. Many (λ (_ : Bool) (_ : X). true) (λ _. One plain class) false xs t) (sym e) (from false xs))
    (many-context_same (λ (_ : Unit {0}). test) (λ _. token Nothing plain class) (λ _ _. tt {0}) (λ (_ : Bool). tt {0}) (λ _ _. true) (λ d x. refl) false)
    (exact-stop (λ xs t. unless_read xs entry t && not (test t)) (λ xs text h t. ends_same test entry xs t)
    (exact-many items (λ c. exact-one marks test plain class Nothing (λ t. refl) (spell kind.sample) kind.sample (kind.self kind.sample)) false))
  where
    items : Items marks (λ (_ : Bool). test) (ends_read entry) (λ _. One plain class) (λ _ _. anything) (λ (_ : Bool) (_ : X). true)
    items =
        record {
          begins = λ c x text o. (plain o.token, [], o.cut, ap test (kind.back o.token x o.is) ∙ kind.passes x);
          opens_next = λ c x rest stops. stops_or_true test rest;
          stops_item = λ c x rest stops. stops_anything rest;
        }

    to : (c : Bool) (xs : List X) (text : List Leaf) → Many (λ (_ : Bool) (_ : X). true) (λ _. One plain class) c xs text → text ≡ leaves_of spell xs
    to c xs text (none d) = refl
    to c xs text (some d x ys left right o rest) =
        let l : left ≡ plain (spell x) ∷ [] = o.cut ∙ ap (λ t. plain t ∷ []) (kind.back o.token x o.is) in
        ap (λ t. t ++ right) l ∙ ap (λ t. plain (spell x) ∷ t) (to true ys right rest)

    from : (c : Bool) (xs : List X) → Many (λ (_ : Bool) (_ : X). true) (λ _. One plain class) c xs (leaves_of spell xs)
    from c [] = none c
    from c (x ∷ xs) = some c x xs (plain (spell x) ∷ []) (leaves_of spell xs) (record { token = spell x; is = kind.self x; cut = refl }) (from true xs)

-- a part, and another after it that is read and left
pub record Kept {X Y : Type 0} (S1 : X → List Leaf → Type 0) (S2 : Y → List Leaf → Type 0) (x : X) (text : List Leaf) : Type 0 where
  pub second : Y
  pub left : List Leaf
  pub right : List Leaf
  pub is_first : S1 x left
  pub is_second : S2 second right
  pub cut : text ≡ left ++ right

pub exact-before : {X Y : Type 0} {entry : Placed → Bool} {S1 : X → List Leaf → Type 0} {stop1 : X → Placed → Bool} {first : Parser Placed Role X} {S2 : Y → List Leaf → Type 0} {stop : X → Placed → Bool} {second : Parser Placed Role Y}
    → Exact marks entry S1 stop1 first → ((x : X) → Exact marks (stop1 x) S2 (λ _. stop x) second) → Joins marks S1 stop1 (λ _. S2) (λ x _. stop x)
    → Exact marks entry (Kept S1 S2) stop (before first second)
exact-before {X} {Y} {entry} {S1} {stop1} {first} {S2} {stop} {second} one two joins =
    exact-same entry (Kept S1 S2) (before first second) (λ t h. h) to from (λ tokens. same_read (first tokens))
    (exact-map (λ (pair : X × Y). pair.0) stop (λ pair. refl) (exact-then_within one (λ x left h w. two x) joins))
  where
    same_second : (x : X) (o : Outcome Placed Role Y) → bind o (λ _ after. Ok (x, after)) ≡ bind {X = X × Y} (bind o (λ y after. Ok ((x, y), after))) (λ pair after. Ok (pair.0, after))
    same_second x (Ok found) = refl
    same_second x (Err fault) = refl

    same_read : (o : Outcome Placed Role X) → bind o (λ x rest. bind (second rest) (λ _ after. Ok (x, after))) ≡ bind {X = X × Y} (bind o (λ x rest. bind (second rest) (λ y after. Ok ((x, y), after)))) (λ pair after. Ok (pair.0, after))
    same_read (Ok (x, rest)) = same_second x (second rest)
    same_read (Err fault) = refl

    to : (x : X) (text : List Leaf) → Map (λ (pair : X × Y). pair.0) (Then S1 (λ _. S2)) x text → Kept S1 S2 x text
    to x text m = let t = m.derives in
        record { second = m.inner.1; left = t.left; right = t.right; is_first = subst (λ (z : X). S1 z t.left) (sym m.is) t.first; is_second = t.second; cut = t.cut }

    from : (x : X) (text : List Leaf) → Kept S1 S2 x text → Map (λ (pair : X × Y). pair.0) (Then S1 (λ _. S2)) x text
    from x text k = record { inner = (x, k.second); is = refl; derives = record { left = k.left; right = k.right; cut = k.cut; first = k.is_first; second = k.is_second } }
