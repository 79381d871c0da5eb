-- The productions of expressions by the values of their parts.
use Rattle.std.proofs.Common.{◌≡◌, ℕ, List, [], ◌∷◌, ◌++◌, refl, sym, ◌∙◌, ap}
use Rattle.std.specs.Prelude.{ℤ, pos, ◌+ℤ◌, ◌||◌, int_lt, Bool, Option, Some, None, Result, Ok, Err}
use Rattle.c_syntax_spec.specs.declared.BinaryOperator.{BinaryOperator}
use Rattle.c_syntax_spec.specs.Expression as tree
use Rattle.c_syntax.specs.Expressions.{constant_before}
use Rattle.c_types_spec.specs.declared.Position.{Position}
use Rattle.c_types_spec.specs.Names.{State, Fault, Typing, bind, ◌>>=◌, ◌>>◌, rule}
use Rattle.c_types_spec.specs.Operands.{Operand, Valued, value_of}
use Rattle.c_types_spec.specs.Operators.{binary_rule, cast, conditional}
use Rattle.c_types_spec.specs.Declarations.{enumerator}
use Rattle.c_types_spec.specs.Expressions.{expression, type_name, enumerators, lengths, array_length, value, with_structs}
use Rattle.c_types_expression.specs.Trees.{constant_value}

bind-same : {A B : Type 0} (r : Result A Fault) (f g : A → Result B Fault) → ((x : A) → f x ≡ g x) → bind r f ≡ bind r g
bind-same (Ok x) f g e = e x
bind-same (Err fault) f g e = refl

-- what is done with the value of an operand
then-value : {B : Type 0} (r : Result (Operand × State) Fault) (rest : Valued → Typing B)
    → bind r (λ made. (rule (value_of made.0) >>= rest) made.1) ≡ bind (bind r (λ made. rule (value_of made.0) made.1)) (λ made. rest made.0 made.1)
then-value (Ok made) rest = refl
then-value (Err fault) rest = refl

pub cast-value : (name : tree.TypeName) (inner : tree.Expression) (offset : ℕ) (place : Position) (st : State)
    → expression (tree.Cast name inner offset) place st ≡ (type_name name >>= (λ type. value inner >>= (λ v. rule (cast place type v offset)))) st
unfolding expression
cast-value name inner offset place st = bind-same (type_name name st) _ _ (λ made. then-value _ (λ v. rule (cast place made.0 v offset)))

pub binary-values : (operator : BinaryOperator) (left right : tree.Expression) (offset : ℕ) (place : Position) (st : State)
    → expression (tree.Binary operator left right offset) place st ≡ (value left >>= (λ a. value right >>= (λ b. with_structs (λ structs. binary_rule operator structs a b offset)))) st
unfolding expression
binary-values operator left right offset place st =
    then-value _ _
    ∙ bind-same (value left st) _ _ (λ made. then-value _ (λ b. with_structs (λ structs. binary_rule operator structs made.0 b offset)))

pub choice-values : (test first second : tree.Expression) (offset : ℕ) (place : Position) (st : State)
    → expression (tree.Conditional test first second offset) place st ≡ (value test >>= (λ c. value first >>= (λ a. value second >>= (λ b. rule (conditional c a b offset))))) st
unfolding expression
choice-values test first second offset place st =
    then-value _ _
    ∙ bind-same (value test st) _ _ (λ made. then-value _ _ ∙ bind-same (value first made.1) _ _ (λ more. then-value _ (λ b. rule (conditional made.0 more.0 b offset))))

pub lengths-value : (first : tree.Expression) (rest : tree.Expressions) (done : List ℕ) (st : State)
    → lengths (tree.expressions first rest) done st ≡ (value first >>= (λ v. rule (array_length v) >>= (λ length. lengths rest (done ++ length ∷ [])))) st
unfolding lengths
lengths-value first rest done st = then-value _ _

then-constant : {B : Type 0} (r : Result (Operand × State) Fault) (asked : Valued → Result ℤ Fault) (rest : ℤ → Typing B)
    → bind r (λ made. (rule (value_of made.0) >>= (λ v. rule (asked v) >>= rest)) made.1) ≡ bind (bind (bind r (λ made. rule (value_of made.0) made.1)) (λ made. rule (asked made.0) made.1)) (λ made. rest made.0 made.1)
then-constant (Ok made) asked rest = inner (value_of made.0) made.1 asked rest
  where
    inner : {B : Type 0} (r : Result Valued Fault) (st : State) (asked : Valued → Result ℤ Fault) (rest : ℤ → Typing B)
        → (rule r >>= (λ v. rule (asked v) >>= rest)) st ≡ bind (bind (rule r st) (λ made. rule (asked made.0) made.1)) (λ made. rest made.0 made.1)
    inner (Ok v) st asked rest = refl
    inner (Err fault) st asked rest = refl
then-constant (Err fault) asked rest = refl

pub enumerators-value : (name : tree.Name) (given : Option tree.Expression) (rest : tree.Constants) (next : ℤ) (is_negative : Bool) (st : State)
    → enumerators (constant_before (name, given) rest) next is_negative st ≡ (constant_value given next >>= (λ value. enumerator name value >> enumerators rest (value +ℤ pos 1) (is_negative || int_lt value (pos 0)))) st
unfolding enumerators
enumerators-value name None rest next is_negative st = refl
enumerators-value name (Some x) rest next is_negative st = then-constant _ _ _

pub ruleset by_value = (cast-value, binary-values, choice-values, lengths-value, enumerators-value)
