-- What no array's dimensions are.
use Rattle.std.proofs.Common.{◌≡◌, ℕ, false, List, [], ◌∷◌, length, map, ap, arith}
use Rattle.std.specs.Bool.{◌==◌}
use Rattle.std.proofs.lemmas.Bool.{ne_eqb}
use Rattle.std.specs.declared.alloc.Global.{Global}
use Rattle.std.specs.declared.boxed.Box.{Box}
use Rattle.c_syntax.specs.declared.expression.Expression.{Expression}
use Rattle.c_syntax.specs.Expressions.{expression_of, expressions_of}
use Rattle.c_parse_declaration.specs.Parts.{has_none}

pub no-lengths : (items : List (Box Expression Global)) (n : ℕ) → n ≡ length items → (n == 0) ≡ has_none (false, expressions_of (map expression_of (map (λ b. b.value) items)))
no-lengths [] n e = ap (λ m. m == 0) e
no-lengths (x ∷ items) n e = ne_eqb n 0 (λ z. omega (arith, z, e))
