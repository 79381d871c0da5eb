-- With enough fuel every expression and every type keeps roles.
use Rattle.std.proofs.Common.{ℕ, suc, ◌+◌, ◌≤◌, arith, List, zero}
use Rattle.c_parse_spec.specs.Expressions.{count_at}
use Rattle.c_parse_spec.specs.Limits.{nesting_limit, expression_fuel}
use Rattle.c_parse_laws.specs.Budget.{needs}
use Rattle.c_parse_laws.specs.Parsers.{Parsers}
use Rattle.c_parse_laws.specs.Fuel.{around, parsers}
use Rattle.c_parse_laws.proofs.ExpressionRoles.{around-roled}
use Rattle.c_parse_laws.specs.TypeExactness.{ParsersFirm, AllFirm, AllExact}
use Rattle.c_parse_laws.specs.Declarators.{Whole}
use Rattle.c_parse_laws.proofs.Members.{Inside}
use Rattle.c_parse_laws.proofs.TypeNames.{type_facts, roled-specifiers, roled-type_name}
use Rattle.c_parse_laws.proofs.TypeBegins.{type_roles}

deeper_by : (names : List (List ℕ)) (inner : Parsers) (fuel : ℕ) → ParsersFirm names inner fuel → (depth least : ℕ) → needs depth least + 4 ≤ suc fuel → suc depth ≤ nesting_limit → Whole names inner (suc depth) least
deeper_by names inner fuel all depth least h small smaller count enough = all.are.conditional (suc (suc depth)) count (omega arith)

whole_by : (names : List (List ℕ)) (inner : Parsers) (fuel : ℕ) → ParsersFirm names inner fuel → (depth least : ℕ) → needs depth least + 4 ≤ suc fuel → Whole names inner depth least
whole_by names inner fuel all depth least h small count enough = all.are.conditional (suc depth) count (omega arith)

inside_by : (names : List (List ℕ)) (inner : Parsers) (fuel : ℕ) → ParsersFirm names inner fuel → (depth least : ℕ) → needs depth least + 4 ≤ suc fuel → Inside names inner depth least
inside_by names inner fuel all depth least h small counting enough = all.specifiers (suc depth) counting (fewer fuel depth least (count_at counting) h small enough)
  where
    fewer : (fuel depth least count : ℕ) → needs depth least + 4 ≤ suc fuel → suc depth ≤ nesting_limit → least ≤ count → needs (suc depth) count + 4 ≤ fuel
    fewer fuel depth least count h small enough = omega arith

turned : (names : List (List ℕ)) (inner : Parsers) (fuel : ℕ) → ParsersFirm names inner fuel → ParsersFirm names (around names inner) (suc fuel)
turned names inner fuel all =
    let e = around-roled names (type_facts names) (type_roles names) inner fuel all.are in
    record {
      are = record {
        cast = e.cast;
        unary = e.unary;
        conditional = e.conditional;
        type_name = λ depth counting h. roled-type_name names inner depth counting (λ small. deeper_by names inner fuel all depth (count_at counting) h small) (whole_by names inner fuel all depth (count_at counting) h) (inside_by names inner fuel all depth (count_at counting) h);
      };
      specifiers = λ depth counting h. roled-specifiers names inner depth counting (λ small. deeper_by names inner fuel all depth (count_at counting) h small) (whole_by names inner fuel all depth (count_at counting) h) (inside_by names inner fuel all depth (count_at counting) h);
    }

pub parsers-roled : (names : List (List ℕ)) (fuel : ℕ) → ParsersFirm names (parsers names fuel) fuel
unfolding parsers
parsers-roled names zero =
    record {
      are = record {
        cast = λ depth count h. absurd (omega arith);
        unary = λ depth count h. absurd (omega arith);
        conditional = λ depth count h. absurd (omega arith);
        type_name = λ depth counting h. absurd (omega arith);
      };
      specifiers = λ depth counting h. absurd (omega arith);
    }
parsers-roled names (suc fuel) = turned names (parsers names fuel) fuel (parsers-roled names fuel)

pub all-roled : (names : List (List ℕ)) → AllFirm names (parsers names expression_fuel)
all-roled names =
    let r = parsers-roled names expression_fuel in
    record {
      cast = λ depth count. r.are.cast depth count (omega arith);
      unary = λ depth count. r.are.unary depth count (omega arith);
      conditional = λ depth count. r.are.conditional depth count (omega arith);
      type_name = λ depth counting. r.are.type_name depth counting (omega arith);
      specifiers = λ depth counting. r.specifiers depth counting (omega arith);
    }

-- so each is read exactly
pub all-exact : (names : List (List ℕ)) → AllExact names (parsers names expression_fuel)
all-exact names =
    let all = all-roled names in
    record {
      cast = λ depth count. (all.cast depth count).exact;
      unary = λ depth count. (all.unary depth count).exact;
      conditional = λ depth count. (all.conditional depth count).exact;
      type_name = λ depth counting. (all.type_name depth counting).exact;
      specifiers = λ depth counting. let s = all.specifiers depth counting in record { both = s.both; is = s.is.exact; same = s.same };
    }
