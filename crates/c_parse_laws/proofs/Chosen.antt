-- A part that is read only where a test on what was read before allows it.
use Rattle.std.proofs.Common.{◌≡◌, Bool, true, List, false, [], ◌∷◌, ◌++◌, refl, IsTrue, not, ◌&&◌}
use Rattle.c_token_spec.specs.Lexical.{Placed, Token}
use Rattle.c_parse_spec.specs.declared.Role.{Role}
use Rattle.c_parse_spec.specs.Leaves.{Leaf, marks, roles}
use Rattle.exact_read.specs.Reading.{Parser, plains, Stops}
use Rattle.exact_read.specs.Grammar.{Or, first, second}
use Rattle.exact_read.proofs.Parts.{both}
use Rattle.c_parse_laws.specs.Parsers.{choose}
use Rattle.c_parse_laws.proofs.Marks.{roled-choose}
use Rattle.exact_read.proofs.RoleBasics.{roled-same}
use Rattle.exact_read.proofs.RoleBegins.{Begins, Silent}
use Rattle.c_parse_laws.specs.Firm.{Firm}

-- a text that is one only where the test before allowed it
pub record Allowed {X : Type 0} (allowed : Bool) (S : X → List Leaf → Type 0) (x : X) (text : List Leaf) : Type 0 where
  pub so : allowed ≡ true
  pub derives : S x text

pub roled-allowed : {X : Type 0} {entry : Placed → Bool} {S1 S2 : X → List Leaf → Type 0} {stop : X → Placed → Bool} {one two : Parser Placed Role X} (allowed : Bool) (test : Token → Bool)
    → ((x : X) (text : List Leaf) → S1 x text → (u : Leaf) × (more : List Leaf) × (text ≡ u ∷ more) × (test u.token.token ≡ true))
    → ((x : X) (text : List Leaf) (rest : List Placed) → S2 x text → Stops (stop x) rest → Stops (λ t. not (allowed && test t.token)) (plains marks text ++ rest))
    → ((t : Placed) → test t.token ≡ true → Begins marks S1 t) → Silent marks roles S1
    → Firm (both entry (λ t. test t.token)) S1 stop one → Firm (both entry (λ t. not (allowed && test t.token))) S2 stop two
    → Firm entry (Or (Allowed allowed S1) S2) stop (choose (λ k. allowed && test k) one two)
roled-allowed {X} {entry} {S1} {S2} {stop} {one} {two} true test begins apart starts silent one_is two_is =
    roled-same entry (Or (Allowed true S1) S2) (choose (λ k. true && test k) one two) (λ t h. h) to from (λ tokens. refl)
    (roled-choose test (record { first_begins = begins; second_begins = apart }) starts silent one_is two_is)
  where
    to : (x : X) (text : List Leaf) → Or S1 S2 x text → Or (Allowed true S1) S2 x text
    to x text (first h) = first (record { so = refl; derives = h })
    to x text (second h) = second h

    from : (x : X) (text : List Leaf) → Or (Allowed true S1) S2 x text → Or S1 S2 x text
    from x text (first a) = first a.derives
    from x text (second h) = second h
roled-allowed {X} {entry} {S1} {S2} {stop} {one} {two} false test begins apart starts silent one_is two_is =
    roled-same entry (Or (Allowed false S1) S2) (choose (λ k. false && test k) one two) (λ t h. and_true (entry t) h) (λ x text h. second h) from same two_is
  where
    and_true : (a : Bool) → IsTrue a → IsTrue (a && true)
    and_true true h = refl
    and_true false h = h

    from : (x : X) (text : List Leaf) → Or (Allowed false S1) S2 x text → S2 x text
    from x text (first a) = absurd (let e : false ≡ true = a.so in cc)
    from x text (second h) = h

    same : (tokens : List Placed) → choose (λ k. false && test k) one two tokens ≡ two tokens
    same [] = refl
    same (t ∷ tokens) = refl
