-- The loop over the operations of a level.
use Rattle.std.proofs.Common.{◌≡◌, ℕ, suc, ◌+◌, ◌<◌, Bool, true, false, List, [], ◌∷◌, length, refl, sym, ◌∙◌, subst, arith, Ok, Err, Option, Some, None, cond}
use Rattle.std.specs.Option.{is_some}
use Rattle.c_token_spec.specs.Lexical.{Placed, Token}
use Rattle.c_syntax_spec.specs.declared.BinaryOperator.{BinaryOperator}
use Rattle.c_syntax_spec.specs.Expression as tree
use Rattle.c_parse_spec.specs.declared.Role.{Role}
use Rattle.c_parse_spec.specs.Expressions.{operators}
use Rattle.exact_read.specs.Reading.{Fault, Outcome}
use Rattle.exact_read.specs.Going.{Folding}
use Rattle.exact_read.proofs.Loops.{going-start, folding-step, folding-fault, going-end}
use Rattle.c_parse_laws.specs.Classes.{binary_operator, is_level, of_level}
use Rattle.c_parse_laws.specs.Parsers.{Parsers, Left, Operation, next_is, starts_level, starts_operation, with_operation, next_left, left_of, read_operation, read_operations}
use Rattle.c_token.specs.declared.Token.{Token as TokenRow}
use Rattle.c_parse_token.specs.Lists.{list_of}
use Rattle.c_parse_token.proofs.Steps.{begins-next, fewer}
use Rattle.c_parse_expression.specs.Steps.{read_operation_after}

pub Operating : (inner : Parsers) → (depth level count : ℕ) → (whole : Outcome Placed Role tree.Expression) → tree.Expression → List Placed → Type 0
Operating inner depth level count whole left rest = Folding (starts_operation level) (λ before. read_operation inner depth level (count + before.0)) next_left with_operation left_of whole left rest

pub operating-start : (inner : Parsers) (depth level count : ℕ) (first : tree.Expression) (tokens : List Placed) → Operating inner depth level count (read_operations inner depth level count first tokens) first tokens
unfolding Operating
operating-start inner depth level count first tokens = going-start

keeps : (left : tree.Expression) (operation : Operation) → next_left (left_of left) operation ≡ left_of (with_operation left operation)
keeps left operation = refl

-- a token is an operator of a level
level-some : (level : ℕ) (token : Token) → is_some (of_level level token) ≡ is_level level (binary_operator token)
level-some level token = by_operator (binary_operator token)
  where
    by_test : (operator : BinaryOperator) (b : Bool) → is_some (cond b (Some operator) None) ≡ b
    by_test operator true = refl
    by_test operator false = refl

    by_operator : (operator : Option BinaryOperator) → is_some (cond (is_level level operator) operator None) ≡ is_level level operator
    by_operator None = refl
    by_operator (Some operator) = by_test operator (is_level level (Some operator))

next-level : (level : ℕ) (tokens : List Placed) → next_is (starts_level (suc level)) tokens ≡ next_is (λ next. is_some (of_level (suc level) next)) tokens
next-level level [] = refl
next-level level (token ∷ more) = sym (level-some (suc level) token.token)

-- the level above is this one and 1
above : (level : ℕ) (tokens : List Placed) (b : Bool) → next_is (λ next. is_some (of_level (level + 1) next)) tokens ≡ b → next_is (starts_level (suc level)) tokens ≡ b
above level tokens b e = let same : level + 1 ≡ suc level = omega arith in next-level level tokens ∙ subst (λ n. next_is (λ next. is_some (of_level n next)) tokens ≡ b) same e

pub operating-step : (inner : Parsers) (depth level before : ℕ) (whole : Outcome Placed Role tree.Expression) (left : tree.Expression) (count : ℕ) (more : tree.Expression) (tokens rest : List TokenRow) → Operating inner depth level before whole left (list_of tokens) → next_is (λ next. is_some (of_level (level + 1) next)) (list_of tokens) ≡ true
    → count ≡ before + operators left → read_operation_after inner depth level count left (list_of tokens) ≡ Ok (more, list_of rest) → length rest < length tokens → Operating inner depth level before whole more (list_of rest)
unfolding Operating
operating-step inner depth level before whole left count more tokens rest going was same e less =
    folding-step left_of left going (begins-next (λ (_ : Left). starts_level (suc level)) (left_of left) (list_of tokens) ∙ above level (list_of tokens) true was) keeps more (list_of rest) (subst (λ c. read_operation_after inner depth level c left (list_of tokens) ≡ Ok (more, list_of rest)) same e) (fewer rest tokens less)

pub operating-fault : (inner : Parsers) (depth level before : ℕ) (whole : Outcome Placed Role tree.Expression) (left : tree.Expression) (count : ℕ) (tokens : List TokenRow) → Operating inner depth level before whole left (list_of tokens) → next_is (λ next. is_some (of_level (level + 1) next)) (list_of tokens) ≡ true
    → count ≡ before + operators left → (fault : Fault Role × List Placed) → read_operation_after inner depth level count left (list_of tokens) ≡ Err fault → whole ≡ Err fault
unfolding Operating
operating-fault inner depth level before whole left count tokens going was same fault e =
    folding-fault left_of left going (begins-next (λ (_ : Left). starts_level (suc level)) (left_of left) (list_of tokens) ∙ above level (list_of tokens) true was) fault (subst (λ c. read_operation_after inner depth level c left (list_of tokens) ≡ Err fault) same e)

pub operating-end : (inner : Parsers) (depth level before : ℕ) (whole : Outcome Placed Role tree.Expression) (left : tree.Expression) (tokens : List Placed) → Operating inner depth level before whole left tokens → next_is (λ next. is_some (of_level (level + 1) next)) tokens ≡ false → whole ≡ Ok (left, tokens)
unfolding Operating
operating-end inner depth level before whole left tokens going ends = going-end going (begins-next (λ (_ : Left). starts_level (suc level)) (left_of left) tokens ∙ above level tokens false ends)
