-- A statement that is made of its parts.
use Rattle.std.proofs.Common.{◌≡◌, sym, ap, ◌∙◌, subst, List, Result, Ok, Err}
use Rattle.std.specs.Prelude.{IfOk}
use Rattle.c_token.specs.declared.Token.{Token}
use Rattle.c_token_spec.specs.Lexical.{Placed}
use Rattle.c_parse_spec.specs.declared.Role.{Role}
use Rattle.exact_read.specs.Reading.{Outcome}
use Rattle.attempt.specs.declared.refusal.Refusal.{Refusal}
use Rattle.c_parse_token.specs.declared.outcome.SyntaxFault.{SyntaxFault}
use Rattle.c_parse_token.specs.Lists.{list_of, Gives}
use Rattle.c_parse.specs.Pieces.{kept}

pub made-gives : {X Y E : Type 0} (whole : Outcome Placed Role Y) (view : X → Y) (tree : Y) (left : List Token) (made : Result X E) (result : Result X (Refusal SyntaxFault)) → result ≡ kept made → IfOk made (λ x. view x ≡ tree) → whole ≡ Ok (tree, list_of left) → Gives whole view left result
made-gives whole view tree left (Ok x) result is same e = subst (λ r. Gives whole view left r) (sym is) (e ∙ ap (λ y. Ok (y, list_of left)) (sym same))
made-gives whole view tree left (Err error) result is same e = subst (λ r. Gives whole view left r) (sym is) (tt {0})

-- what holds always holds of a result
pub always : {X E P : Type 0} (result : Result X E) → P → IfOk result (λ _. P)
always (Ok x) p = p
always (Err error) p = tt {0}
