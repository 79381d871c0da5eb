-- Where the parsers inside keep roles, so do those of expressions around them.
use Rattle.std.proofs.Common.{ℕ, suc, arith, List}
use Rattle.c_parse_laws.specs.Parsers.{Parsers}
use Rattle.c_parse_laws.specs.Fuel.{around}
use Rattle.c_parse_laws.specs.Exactness.{TypeFacts, AreFirm, TypeRoles, ExpressionsFirm}
use Rattle.c_parse_laws.proofs.Unaries.{roled-unary, roled-cast}
use Rattle.c_parse_laws.proofs.Conditionals.{roled-conditional}

pub around-roled : (names : List (List ℕ)) → TypeFacts names → TypeRoles names → (inner : Parsers) (fuel : ℕ) → AreFirm names inner fuel → ExpressionsFirm names (around names inner) (suc fuel)
around-roled names facts types inner fuel are =
    record {
      cast = λ depth count h. roled-cast facts types are depth count (omega arith);
      unary = λ depth count h. roled-unary facts types are depth count (omega arith);
      conditional = λ depth count h. roled-conditional names inner depth count (λ c least. are.cast depth c (omega arith)) (λ c least most. are.conditional depth c (omega arith));
    }
