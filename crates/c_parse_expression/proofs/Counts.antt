-- How many operators lists of parts of types have, and counting on.
use Rattle.std.proofs.Common.{◌≡◌, ℕ, ◌+◌, Bool, true, false, List, [], ◌∷◌, ◌++◌, refl, ap, arith, Option, Some, None}
use Rattle.c_syntax_spec.specs.Expression as tree
use Rattle.c_parse_spec.specs.Expressions.{Within, advance, count_at, operators, operators_of_members, operators_of_declarators, operators_of_declarator, operators_of_lengths, operators_of_constants}
use Rattle.c_parse_laws.specs.Types as types
use Rattle.c_syntax.specs.Expressions as syntax
use Rattle.c_parse_expression.specs.Steps.{counting_of}

within : (a b : ℕ) → Within a ≡ Within b → a ≡ b
within a b e = ap count_at e

-- counting on twice
pub advanced : (is_alone : Bool) (a m b n c k : ℕ) → advance (counting_of is_alone a) m ≡ counting_of is_alone b → advance (counting_of is_alone b) n ≡ counting_of is_alone c → k ≡ m + n → advance (counting_of is_alone a) k ≡ counting_of is_alone c
advanced true a m b n c k first second sum = refl
advanced false a m b n c k first second sum =
    let p : a + m ≡ b = within (a + m) b first in
    let q : b + n ≡ c = within (b + n) c second in
    let r : a + k ≡ c = omega (arith, p, q, sum) in ap Within r

-- where a whole expression begins
pub counted : (is_alone : Bool) (before start more after : ℕ) → start ≡ count_at (counting_of is_alone before) → after ≡ start + more → advance (counting_of is_alone before) more ≡ counting_of is_alone after
counted true before start more after begun e = refl
counted false before start more after begun e = let r : before + more ≡ after = omega (arith, begun, e) in ap Within r

-- none more
pub stays : (is_alone : Bool) (a : ℕ) → advance (counting_of is_alone a) 0 ≡ counting_of is_alone a
stays true a = refl
stays false a = let r : a + 0 ≡ a = omega arith in ap Within r

-- lists with one more at the end
pub members-more : (read : List (tree.Specifiers × tree.Declarators)) (x : tree.Specifiers × tree.Declarators) → operators_of_members (syntax.members_of (read ++ x ∷ [])) ≡ operators_of_members (syntax.members_of read) + types.operators_of_member x
members-more [] x = omega arith
members-more (y ∷ read) x = let e = members-more read x in omega (arith, e)

pub declarators-more : (read : List tree.Declarator) (x : tree.Declarator) → operators_of_declarators (syntax.declarators_of (read ++ x ∷ [])) ≡ operators_of_declarators (syntax.declarators_of read) + operators_of_declarator x
declarators-more [] x = omega arith
declarators-more (y ∷ read) x = let e = declarators-more read x in omega (arith, e)

pub lengths-more : (read : List tree.Expression) (x : tree.Expression) → operators_of_lengths (syntax.expressions_of (read ++ x ∷ [])) ≡ operators_of_lengths (syntax.expressions_of read) + operators x
lengths-more [] x = omega arith
lengths-more (y ∷ read) x = let e = lengths-more read x in omega (arith, e)

-- of a constant before others
constants-before : (x : tree.Name × Option tree.Expression) (rest : tree.Constants) → operators_of_constants (syntax.constant_before x rest) ≡ types.operators_of_constant x + operators_of_constants rest
constants-before (name, None) rest = omega arith
constants-before (name, Some value) rest = refl

pub constants-more : (read : List (tree.Name × Option tree.Expression)) (x : tree.Name × Option tree.Expression) → operators_of_constants (syntax.constants_of (read ++ x ∷ [])) ≡ operators_of_constants (syntax.constants_of read) + types.operators_of_constant x
constants-more [] x = let a = constants-before x tree.no_constants in omega (arith, a)
constants-more (y ∷ read) x =
    let e = constants-more read x in
    let a = constants-before y (syntax.constants_of (read ++ x ∷ [])) in
    let b = constants-before y (syntax.constants_of read) in omega (arith, e, a, b)

-- the lists of the reference parsers are those of the program's trees
pub same-members : (rows : List (tree.Specifiers × tree.Declarators)) → types.members_of rows ≡ syntax.members_of rows
same-members [] = refl
same-members (x ∷ rows) = ap (tree.members x.0 x.1) (same-members rows)

pub same-declarators : (rows : List tree.Declarator) → types.declarators_of rows ≡ syntax.declarators_of rows
same-declarators [] = refl
same-declarators (x ∷ rows) = ap (tree.declarators x) (same-declarators rows)

pub same-lengths : (rows : List tree.Expression) → types.expressions_of rows ≡ syntax.expressions_of rows
same-lengths [] = refl
same-lengths (x ∷ rows) = ap (tree.expressions x) (same-lengths rows)
