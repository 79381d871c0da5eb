-- Which literals are true, as a sign for each variable: whether its true literal is the negation, or none.
use Rattle.std.specs.Prelude.{◌≡◌, ◌-◌, Bool, true, false, List, length, get_or, Option, Some, None}
use Rattle.clause_check_spec.specs.declared.Literal.{Literal}
use Rattle.clause_check_spec.specs.Clause.{is_of, same_sign}
use Rattle.clause_check_spec.specs.Step.{is_true}

abbrev pub is_sign : Option Bool → Bool → Bool
is_sign None is_negated = false
is_sign (Some sign) is_negated = same_sign sign is_negated

abbrev pub sign_of : List (Option Bool) → Literal → Option Bool
sign_of signs literal = get_or signs (literal.variable - 1) None

-- the signs report which literals are among the true ones
abbrev pub Reports : List (Option Bool) → List Literal → Type 0
Reports signs truths =
    (literal : Literal) → is_of (length signs) literal ≡ true → is_true truths literal ≡ is_sign (sign_of signs literal) literal.is_negated
