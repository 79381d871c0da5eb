-- The clause that a hint names.
use Rattle.std.proofs.Common.{◌≡◌, ◌<◌, ◌-◌, ℕ, true, false, List, length, get_or, Option, Some, ap, sym, ◌∙◌, subst}
use Rattle.std.specs.Prelude.{slice_get, if◌then◌else◌, ◌==◌}
use Rattle.std.specs.List.{list_all}
use Rattle.std.proofs.lemmas.Option.{slice_get_within, get_or_from_slice_get}
use Rattle.std.proofs.lemmas.List.Sums.{AllPass-from_list_all}
use Rattle.clause_check_spec.specs.declared.Literal.{Literal}
use Rattle.clause_check_spec.specs.Clause.{Clause, is_of, are_of}
use Rattle.clause_check_spec.specs.Step.{Missing, finding_of, finding_at}

-- its literals are of the variables
pub named_at : (variables : ℕ) (clauses : List Clause) (index : ℕ) (clause : Clause) → are_of variables clauses ≡ true
    → slice_get clauses index ≡ Some clause → list_all (is_of variables) clause ≡ true
named_at variables clauses index clause named here =
    subst (λ c. list_all (is_of variables) c ≡ true) (get_or_from_slice_get clauses index clause clause here)
    (AllPass-from_list_all (list_all (is_of variables)) clauses named index clause (slice_get_within clauses index clause here))

pub literal_named : (variables : ℕ) (clause : Clause) (index : ℕ) (l : Literal) → list_all (is_of variables) clause ≡ true → index < length clause
    → l ≡ get_or clause index l → is_of variables l ≡ true
literal_named variables clause index l named below here =
    subst (λ k. is_of variables k ≡ true) (sym here) (AllPass-from_list_all (is_of variables) clause named index l below)

-- its finding
pub found_there : (clauses : List Clause) (truths : List Literal) (number : ℕ) (clause : Option Clause) → (number == 0) ≡ false
    → slice_get clauses (number - 1) ≡ clause → finding_at clauses truths number ≡ finding_of truths clause
found_there clauses truths number clause some here =
    ap (λ b. if b then Missing else finding_of truths (slice_get clauses (number - 1))) some ∙ ap (finding_of truths) here
