-- The steps of a log, one after the other.
use Rattle.std.proofs.Common.{◌≡◌, ◌∙◌, ℕ, ◌+◌, ◌-◌, ◌<◌, Bool, true, false, List, [], ◌∷◌, ◌++◌, length, length-append, Some, None, Option, refl, sym, ap, subst, arith, get_or}
use Rattle.std.specs.Prelude.{slice_get}
use Rattle.std.proofs.lemmas.Option.{slice_get_read}
use Rattle.std.proofs.Math.Seq.{get_or-append_seam}
use Rattle.std.proofs.lemmas.Bool.{le-leb, leb-true}
use Rattle.std.proofs.lemmas.List.{append_assoc}
use Rattle.std.specs.Prelude.{◌&&◌, ◌≤◌, if◌then◌else◌, Result, Ok, Err}
use Rattle.std.specs.Prelude.{OnOk, IfSome, nat_le, ◌<◌, ◌↔◌}
use Rattle.memory_spec.specs.Runs.{Run}
use Rattle.term_core_spec.specs.Term.{Term}
use Rattle.term_core_spec.specs.Subterms.{subterm_count}
use Rattle.term_core_spec.specs.Value.{Truth, value}
use Rattle.term_core.specs.declared.assignment.Assignment.{Assignment}
use Rattle.term_core.specs.Assignment.{assignment_of}
use Rattle.term_norm_spec.specs.Normal.{normal}
use Rattle.tv_limits.specs.declared.TheConstants.{MAX_TERMS, MAX_VARIABLES}
use Rattle.clause_check_spec.specs.declared.Literal.{Literal}
use Rattle.clause_check_spec.specs.declared.StepFaultKind.{StepFaultKind}
use Rattle.clause_check_spec.specs.Clause.{Clause, Cnf}
use Rattle.clause_check_spec.specs.Step.{Outcome, Follows, Refused, outcome}
use Rattle.clause_check_spec.specs.Log.{Step, AllFollow, none, some, Refutes}
use Rattle.discharge_spec.specs.Closing.{Closing, Closes, Unclosed, is_empty, after, at_end, checked}
use Rattle.discharge_spec.specs.Closing.{IsLarge, has_no_step, is_truth, closing_of_clauses, closing_of_form, closing, IsSmall, IsFirstAbove}
use Rattle.discharge_spec.specs.declared.GoalQuantity.{GoalQuantity}
use Rattle.discharge_spec.specs.declared.GoalQuantity.TheVariants.{Terms, Variables}
use Rattle.clause_check.specs.Logged.{Logged, clauses_of}
use Rattle.attempt.specs.declared.refusal.Refusal.{Refusal}
use Rattle.attempt.specs.declared.refusal.Refusal.TheVariants.{Fault, NoMemory}
use Rattle.clause_check.specs.declared.hints.StepFault.{StepFault}
use Rattle.discharge.specs.declared.error.CloseFault.{CloseFault}
use Rattle.discharge.specs.declared.error.SeekFault.{SeekFault}
use Rattle.discharge.specs.declared.error.SeekFault.TheVariants as seek
use Rattle.bit_blast_spec.specs.Goal.{cnf_of}
use Rattle.sat_search_spec.specs.Logs.{Lean, Spent}
use Rattle.discharge.specs.declared.seeking.Sought.{Sought}
use Rattle.discharge.specs.declared.seeking.Sought.TheVariants.{Valid, Refuted, Limit}
use Rattle.discharge.specs.Answers.{TakesFirst, refusal, Answers, HasFewVariables, RefutesGoal, SeeksForm, Seeks, is_empty_some, ends_empty}

-- a log by its first step
pub rest_of : (variables : ℕ) (clauses : List Clause) (is_closed : Bool) (number : ℕ) (steps : List Step) (step : Step) (others : List Step) → steps ≡ step ∷ others
    → checked variables clauses is_closed number steps
    ≡ after (outcome variables clauses step.literals step.hints) number
    (checked variables (clauses ++ step.literals ∷ []) (is_empty step.literals) (number + 1) others)
unfolding checked
rest_of variables clauses is_closed number steps step others is = ap (checked variables clauses is_closed number) is

-- at the end of a log
pub rest_none : (variables : ℕ) (clauses : List Clause) (is_closed : Bool) (number : ℕ) (steps : List Step) → length steps ≡ 0
    → checked variables clauses is_closed number steps ≡ at_end is_closed
unfolding checked
rest_none variables clauses is_closed number [] e = refl
rest_none variables clauses is_closed number (step ∷ steps) e = absurd (omega (arith, e))

pub ends_by_last : (clauses : List Clause) (literals : Clause) → ends_empty (clauses ++ literals ∷ []) ≡ is_empty literals
ends_by_last clauses literals =
    ap is_empty_some (slice_get_read (clauses ++ literals ∷ []) (length (clauses ++ literals ∷ [])) (length (clauses ++ literals ∷ []) - 1) literals refl
    (omega (arith, length-append clauses (literals ∷ [])))
    (sym (subst (λ n. get_or (clauses ++ literals ∷ []) n literals ≡ literals) (sym last_is) (get_or-append_seam clauses literals [] literals))))
  where
    last_is : length (clauses ++ literals ∷ []) - 1 ≡ length clauses
    last_is = omega (arith, length-append clauses (literals ∷ []))

-- whether the last clause has no literal, by whether it is the empty clause
pub ends_true : (last : Option Clause) → last ≡ Some [] → is_empty_some last ≡ true
ends_true None e = cc
ends_true (Some []) e = refl
ends_true (Some (literal ∷ others)) e = cc

pub ends_false : (last : Option Clause) → (last ≡ Some [] → ⊥) → is_empty_some last ≡ false
ends_false None e = refl
ends_false (Some []) e = absurd (e refl)
ends_false (Some (literal ∷ others)) e = refl

-- whether the last of some steps has no literal
ends_by : (is_closed : Bool) → List Step → Bool
ends_by is_closed [] = is_closed
ends_by is_closed (step ∷ steps) = ends_by (is_empty step.literals) steps

ends_by-last : (is_closed : Bool) (steps : List Step) (last : Step) → ends_by is_closed (steps ++ last ∷ []) ≡ is_empty last.literals
unfolding ends_by
ends_by-last is_closed [] last = refl
ends_by-last is_closed (step ∷ steps) last = ends_by-last (is_empty step.literals) steps last

all_checked : (variables : ℕ) (clauses : List Clause) (is_closed : Bool) (number : ℕ) (steps : List Step) → AllFollow variables clauses steps
    → checked variables clauses is_closed number steps ≡ at_end (ends_by is_closed steps)
unfolding checked ends_by
all_checked variables clauses is_closed number [] (none _) = refl
all_checked variables clauses is_closed number (step ∷ steps) (some _ _ _ e more) =
    ap (λ o. after o number (checked variables (clauses ++ step.literals ∷ []) (is_empty step.literals) (number + 1) steps)) e
    ∙ all_checked variables (clauses ++ step.literals ∷ []) (is_empty step.literals) (number + 1) steps more

-- what refutes the clauses closes them
pub refuted_closes : (cnf : Cnf) (steps : List Step) → Refutes cnf steps → checked cnf.variables cnf.clauses false 1 steps ≡ Closes
refuted_closes cnf steps refutes =
    all_checked cnf.variables cnf.clauses false 1 steps refutes.follows
    ∙ ap at_end (ap (ends_by false) refutes.ends ∙ ends_by-last false refutes.prefix refutes.last ∙ ap is_empty refutes.closes)

-- ---- a checker that adds the steps

-- a step that doesn't follow
refused_answers : (A : Type 0) (verdict : Closing) (before after : List Step) (old new : Logged) (is_closed : Bool) (number : ℕ) (error : Refusal StepFault)
    → verdict ≡ checked old.cnf.variables (clauses_of old) is_closed number before → TakesFirst before after old new (Err error)
    → Answers {A = A} verdict (Err (refusal error number))
refused_answers A verdict before left old new is_closed number (Fault fault) is (step, others, first, hint, kind, refused) =
    is
    ∙ rest_of old.cnf.variables (clauses_of old) is_closed number before step others first
    ∙ ap (λ o. after o number (checked old.cnf.variables (clauses_of old ++ step.literals ∷ []) (is_empty step.literals) (number + 1) others)) refused
refused_answers A verdict before left old new is_closed number NoMemory is takes = tt

pub error_answers : (A : Type 0) (verdict : Closing) (before after : List Step) (old new : Logged) (is_closed : Bool) (number : ℕ) (error : Refusal StepFault) (answer : Refusal CloseFault)
    → answer ≡ refusal error number → verdict ≡ checked old.cnf.variables (clauses_of old) is_closed number before → TakesFirst before after old new (Err error)
    → Answers {A = A} verdict (Err answer)
error_answers A verdict before left old new is_closed number error answer same is takes =
    subst (λ (e : Refusal CloseFault). Answers {A = A} verdict (Err e)) (sym same) (refused_answers A verdict before left old new is_closed number error is takes)

-- a step that follows
pub goes_on : (old new : Logged) (before after : List Step) → TakesFirst before after old new (Ok tt) → (is_closed : Bool) (number : ℕ)
    → checked old.cnf.variables (clauses_of old) is_closed number before ≡ checked new.cnf.variables (clauses_of new) (ends_empty new.added) (number + 1) after
goes_on old new before left (step, first, follows, cnf_is, added_is) is_closed number =
    rest_of old.cnf.variables (clauses_of old) is_closed number before step left first
    ∙ ap (λ o. after o number (checked old.cnf.variables (clauses_of old ++ step.literals ∷ []) (is_empty step.literals) (number + 1) left)) follows
    ∙ sym (rw (cnf_is, added_is, ends_by_last old.added step.literals, append_assoc old.cnf.clauses old.added (step.literals ∷ [])) refl)

-- the first of some steps, which has these literals and hints for the checker
pub step_taken : (before left : List Step) (s : Step) → before ≡ s ∷ left → (old new : Logged) (literals : List Literal) (hints : List ℕ)
    → outcome old.cnf.variables (clauses_of old) literals hints ≡ outcome old.cnf.variables (clauses_of old) s.literals s.hints
    → (outcome old.cnf.variables (clauses_of old) s.literals s.hints ≡ Follows → literals ≡ s.literals)
    → (result : Result (Unit {0}) (Refusal StepFault)) → OnOk result (outcome old.cnf.variables (clauses_of old) literals hints ≡ Follows)
    → ((hint : ℕ) (kind : StepFaultKind) → (result ≡ Err (Fault (record { hint = hint; kind = kind }))) ↔ (outcome old.cnf.variables (clauses_of old) literals hints ≡ Refused hint kind))
    → new.cnf ≡ old.cnf → OnOk result (new.added ≡ old.added ++ literals ∷ []) → TakesFirst before left old new result
step_taken before left s first old new literals hints same kept (Ok done) follows fault cnf added =
    let real = sym same ∙ follows in
    (s, first, real, cnf, added ∙ ap (λ (list : List Literal). old.added ++ list ∷ []) (kept real))
step_taken before left s first old new literals hints same kept (Err (Fault f)) follows fault cnf added = (s, left, first, f.hint, f.kind, sym same ∙ (fault f.hint f.kind).0 refl)
step_taken before left s first old new literals hints same kept (Err NoMemory) follows fault cnf added = tt

-- at the end
pub at_end_closed : (variables : ℕ) (clauses added : List Clause) (number : ℕ) (steps : List Step) → length steps ≡ 0
    → slice_get added (length added - 1) ≡ Some []
    → checked variables clauses (ends_empty added) number steps ≡ Closes
at_end_closed variables clauses added number steps e last =
    rest_none variables clauses (ends_empty added) number steps e ∙ ap at_end (ends_true (slice_get added (length added - 1)) last)

pub at_end_open : (variables : ℕ) (clauses added : List Clause) (number : ℕ) (steps : List Step) → length steps ≡ 0
    → (slice_get added (length added - 1) ≡ Some [] → ⊥)
    → checked variables clauses (ends_empty added) number steps ≡ Unclosed
at_end_open variables clauses added number steps e last =
    rest_none variables clauses (ends_empty added) number steps e ∙ ap at_end (ends_false (slice_get added (length added - 1)) last)

-- ---- a goal in normal form

pub closes_by_log : (form : Term) (log : List Step) → is_truth form ≡ false → (cnf_of form).variables ≤ MAX_VARIABLES → Refutes (cnf_of form) log
    → closing_of_form form log ≡ Closes
closes_by_log form log plain small refutes =
    ap (λ b. if b && has_no_step log then Closes else closing_of_clauses (cnf_of form) log) plain
    ∙ ap (λ b. if b then checked (cnf_of form).variables (cnf_of form).clauses false 1 log else IsLarge Variables) (le-leb (cnf_of form).variables MAX_VARIABLES small)
    ∙ refuted_closes (cnf_of form) log refutes

-- a log without steps is lean
pub lean_none : (cnf : Cnf) (limit : ℕ) → Lean cnf [] limit
lean_none cnf limit = record {
  count = omega arith;
  nonempty = λ i step there more e. cc;
  is_new = λ i step there e. cc;
  used = λ i step there more. cc;
  chained = λ i step there. cc;
  named = λ i step there more. cc;
}

pub closes_plain : (form : Term) → is_truth form ≡ true → closing_of_form form [] ≡ Closes
closes_plain form plain = ap (λ b. if b && true then Closes else closing_of_clauses (cnf_of form) []) plain

-- no log comes to a quantity
pub never_large : (variables : ℕ) (clauses : List Clause) (is_closed : Bool) (number : ℕ) (steps : List Step) (quantity : GoalQuantity)
    → checked variables clauses is_closed number steps ≡ IsLarge quantity → ⊥
unfolding checked
never_large variables clauses true number [] quantity e = cc
never_large variables clauses false number [] quantity e = cc
never_large variables clauses is_closed number (step ∷ steps) quantity e =
    by_outcome (outcome variables clauses step.literals step.hints)
    (never_large variables (clauses ++ step.literals ∷ []) (is_empty step.literals) (number + 1) steps quantity) e
  where
    by_outcome : (o : Outcome) → (checked variables (clauses ++ step.literals ∷ []) (is_empty step.literals) (number + 1) steps ≡ IsLarge quantity → ⊥)
        → after o number (checked variables (clauses ++ step.literals ∷ []) (is_empty step.literals) (number + 1) steps) ≡ IsLarge quantity → ⊥
    by_outcome Follows rest on = rest on
    by_outcome (Refused hint kind) rest on = cc

-- ---- answers of the parts, together

pub holds_by : {A : Type 0} (result : Result A (Refusal CloseFault)) (verdict : Closing) (P : Type 0) → Answers verdict result → (verdict ≡ Closes → P) → OnOk result P
holds_by (Ok done) verdict P answers shows = shows answers
holds_by (Err error) verdict P answers shows = tt

-- a goal that is small comes to what its normal form comes to
pub of_form : (runs : List Run) (goal : Term) (log : List Step) → nat_le (subterm_count goal) MAX_TERMS ≡ true
    → closing runs goal log ≡ closing_of_form (normal runs goal) log
of_form runs goal log small = ap (λ b. if b then closing_of_form (normal runs goal) log else IsLarge Terms) small

-- and is small where the clauses of its normal form are
small_by : (runs : List Run) (goal form : Term) → nat_le (subterm_count goal) MAX_TERMS ≡ true → form ≡ normal runs goal → HasFewVariables form → IsSmall runs goal
small_by runs goal form small is few = record { terms = leb-true (subterm_count goal) MAX_TERMS small; variables = subst HasFewVariables is few }

-- or is too large by those
pub large_by : (runs : List Run) (goal form : Term) (quantity : GoalQuantity) (count : ℕ) → nat_le (subterm_count goal) MAX_TERMS ≡ true → form ≡ normal runs goal
    → (quantity ≡ Variables) × (MAX_VARIABLES < count) × (count ≤ (cnf_of form).variables) → IsFirstAbove runs goal quantity count
large_by runs goal form quantity count small is large =
    subst (λ q. IsFirstAbove runs goal q count) (sym large.0) (record {
      earlier = leb-true (subterm_count goal) MAX_TERMS small;
      above = large.1;
      least = subst (λ f. count ≤ (cnf_of f).variables) is large.2;
    })

-- a goal with few terms is refuted where its normal form is
pub refutes_by : (runs : List Run) (goal form : Term) (found : Option Assignment) → nat_le (subterm_count goal) MAX_TERMS ≡ true → form ≡ normal runs goal
    → IfSome found (λ a. value (assignment_of a) form ≡ Truth false) → IfSome found (RefutesGoal runs goal)
refutes_by runs goal form None small is refuted = tt
refutes_by runs goal form (Some a) small is refuted = (leb-true (subterm_count goal) MAX_TERMS small, ap (value (assignment_of a)) (sym is) ∙ refuted)

pub seeks_by : (runs : List Run) (goal form : Term) (limit : ℕ) (result : Result Sought (Refusal SeekFault)) → nat_le (subterm_count goal) MAX_TERMS ≡ true
    → form ≡ normal runs goal → SeeksForm form limit result → Seeks runs goal limit result
seeks_by runs goal form limit (Ok (Valid log)) small is sought =
    (of_form runs goal log.items small ∙ ap (λ f. closing_of_form f log.items) (sym is) ∙ sought.0, subst (λ f. Lean (cnf_of f) log.items limit) is sought.1)
seeks_by runs goal form limit (Ok (Refuted assignment)) small is sought =
    (small_by runs goal form small is sought.0, ap (value (assignment_of assignment)) (sym is) ∙ sought.1)
seeks_by runs goal form limit (Ok (Limit log)) small is sought =
    (small_by runs goal form small is sought.0, subst (λ f. Spent (cnf_of f) log.items limit) is sought.1)
seeks_by runs goal form limit (Err (Fault (seek.Large quantity count))) small is sought = large_by runs goal form quantity count small is sought
seeks_by runs goal form limit (Err NoMemory) small is sought = tt
