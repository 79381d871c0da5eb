-- A conditional expression has a token at least.
use Rattle.std.proofs.Common.{◌≡◌, ℕ, ◌<◌, List, [], ◌∷◌, ◌++◌, length, refl, sym, subst, Ok, arith}
use Rattle.std.proofs.lemmas.List.{length-append, length-map}
use Rattle.c_token_spec.specs.Lexical.{Placed}
use Rattle.c_syntax_spec.specs.Expression as tree
use Rattle.c_parse_spec.specs.Leaves.{Leaf, marks}
use Rattle.exact_read.specs.Reading.{plains, Stops}
use Rattle.exact_read.specs.Grammar.{anything}
use Rattle.c_parse_spec.specs.Limits.{expression_fuel}
use Rattle.c_parse_laws.specs.Fuel.{parsers}
use Rattle.c_parse_laws.proofs.Firsts.{conditional_first}
use Rattle.c_parse_laws.proofs.ExpressionFuel.{all-exact}
use Rattle.c_token.specs.declared.Token.{Token as TokenRow}
use Rattle.c_token.specs.Pieces.{placed_of}
use Rattle.c_parse_token.specs.Lists.{list_of}

anywhere : (tokens : List Placed) → Stops anything tokens
anywhere [] = tt
anywhere (token ∷ more) = refl

fewer_after : (leaf : Leaf) (more : List Leaf) (rest : List Placed) → length rest < length (plains marks (leaf ∷ more) ++ rest)
fewer_after leaf more rest = let e = length-append (plains marks more) rest in omega (arith, e)

shorter : (names : List (List ℕ)) (depth count : ℕ) (x : tree.Expression) (tokens rest : List Placed) → (parsers names expression_fuel).conditional depth count tokens ≡ Ok (x, rest) → length rest < length tokens
shorter names depth count x tokens rest e =
    let t = ((all-exact names).conditional depth count).takes tokens x rest (anywhere tokens) e in
    let f = conditional_first names depth count x t.text t.derives in
    subst (λ l. length rest < length l) (sym t.cut) (subst (λ l. length rest < length (plains marks l ++ rest)) (sym f.cut) (fewer_after f.leaf f.more rest))

pub conditional-shorter : (names : List (List ℕ)) (depth count : ℕ) (x : tree.Expression) (tokens rest : List TokenRow) → (parsers names expression_fuel).conditional depth count (list_of tokens) ≡ Ok (x, list_of rest) → length rest < length tokens
conditional-shorter names depth count x tokens rest e =
    let less = shorter names depth count x (list_of tokens) (list_of rest) e in
    omega (arith, less, length-map tokens placed_of, length-map rest placed_of)
