-- Values, expression statements and declarations of locals keep roles.
use Rattle.std.proofs.Common.{ℕ, List}
use Rattle.c_parse_spec.specs.Limits.{expression_fuel}
use Rattle.c_parse_laws.specs.Parsers.{Parsers}
use Rattle.c_parse_laws.specs.Fuel.{parsers}
use Rattle.c_parse_laws.specs.TypeExactness.{AllFirm}
use Rattle.c_parse_laws.proofs.ExpressionFuel.{all-roled}
use Rattle.c_parse_laws.specs.DeclarationExactness.{DeclarationsFirm, DeclarationsAre}
use Rattle.c_parse_laws.proofs.Values.{roled-value}
use Rattle.c_parse_laws.proofs.Simples.{roled-any_unary, roled-simple}
use Rattle.c_parse_laws.proofs.Around.{roled-local_specifiers, roled-external_specifiers}
use Rattle.c_parse_laws.proofs.Locals.{roled-locals}

declarations_by : (names : List (List ℕ)) (inner : Parsers) → AllFirm names inner → DeclarationsFirm names inner
declarations_by names inner all =
    record {
      unary = roled-any_unary names inner all;
      value = roled-value names inner all;
      simple = roled-simple names inner all;
      local_specifiers = roled-local_specifiers names inner all;
      external_specifiers = roled-external_specifiers names inner all;
      locals = roled-locals names inner all;
    }

pub declarations-roled : (names : List (List ℕ)) → DeclarationsFirm names (parsers names expression_fuel)
declarations-roled names = declarations_by names (parsers names expression_fuel) (all-roled names)

-- so each is read exactly
pub declarations-exact : (names : List (List ℕ)) → DeclarationsAre names (parsers names expression_fuel)
declarations-exact names =
    let all = declarations-roled names in
    record {
      unary = λ depth count. (all.unary depth count).exact;
      value = λ depth count. (all.value depth count).exact;
      simple = λ depth. (all.simple depth).exact;
      local_specifiers = λ depth. let s = all.local_specifiers depth in record { both = s.both; is = s.is.exact; same = s.same };
      external_specifiers = λ depth. let s = all.external_specifiers depth in record { both = s.both; is = s.is.exact; same = s.same };
      locals = λ depth. (all.locals depth).exact;
    }
