use Rattle.std.proofs.Common.{rules, ◌≡◌, ◌∙◌, Bool, true, false, refl, ap, sym}
use Rattle.std.specs.Prelude.{◌==◌}
use Rattle.std.specs.Bool.{MatchBool}
use Rattle.std.proofs.lemmas.Bool.Decides.{Decides-eqb}
use Rattle.cnf_core.specs.Codes.{code_of, same_code}
use Rattle.clause_check_spec.specs.declared.Literal.{Literal}
use Rattle.sat_search_spec.proofs.is_same.Goals as goal

by_test : (a b : Literal) (t : Bool) → (code_of a == code_of b) ≡ t → MatchBool t (a ≡ b) (a ≡ b → ⊥)
by_test a b true e = same_code a b ((Decides-eqb (code_of a) (code_of b)).0 e)
by_test a b false e = λ same. let here = (Decides-eqb (code_of a) (code_of b)).1 (ap code_of same) in cc

pub returns : goal.returns
returns c = by_test c.args.first c.args.second (c.code.result == c.code-2.result) (ap (λ n. code_of c.args.first == n) (sym c.code-2.ensures.value) ∙ ap (λ n. n == c.code-2.result) (sym c.code.ensures.value))
