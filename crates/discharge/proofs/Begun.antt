-- Logs before their first step, and what they come to.
use Rattle.std.proofs.Common.{◌≡◌, ◌∙◌, ℕ, ◌<◌, Bool, true, false, List, [], ◌∷◌, length, Some, None, Option, Result, Ok, Err, refl, sym, ap, subst, arith}
use Rattle.std.specs.Prelude.{◌≢◌, ◌≤◌, ◌&&◌, ◌↔◌, ◌++◌, if◌then◌else◌, nat_le, OnOk, IsTrue}
use Rattle.std.specs.Option.{option_map}
use Rattle.std.proofs.lemmas.Bool.{le-leb, lt-leb, leb-true}
use Rattle.std.proofs.lemmas.List.{append-nil, append_assoc}
use Rattle.memory_spec.specs.Runs.{Run}
use Rattle.term_core_spec.specs.Term.{Term}
use Rattle.term_core_spec.specs.Subterms.{subterm_count}
use Rattle.term_norm_spec.specs.Normal.{normal}
use Rattle.clause_check_spec.specs.declared.Literal.{Literal}
use Rattle.clause_check_spec.specs.declared.StepFaultKind.{StepFaultKind}
use Rattle.clause_check_spec.specs.Clause.{Clause, Cnf}
use Rattle.clause_check_spec.specs.Step.{Follows, Refused, outcome}
use Rattle.clause_check_spec.specs.Log.{Step}
use Rattle.clause_check.specs.Logged.{Logged, clauses_of}
use Rattle.clause_check.specs.declared.hints.StepFault.{StepFault}
use Rattle.attempt.specs.declared.refusal.Refusal.{Refusal}
use Rattle.attempt.specs.declared.refusal.Refusal.TheVariants.{Fault, NoMemory}
use Rattle.bit_blast_spec.specs.Goal.{cnf_of}
use Rattle.discharge_spec.specs.declared.GoalQuantity.{GoalQuantity}
use Rattle.discharge_spec.specs.declared.GoalQuantity.TheVariants.{Terms, Variables}
use Rattle.tv_limits.specs.declared.TheConstants.{MAX_TERMS, MAX_VARIABLES}
use Rattle.discharge_spec.specs.Closing.{Closing, Closes, IsLarge, has_no_step, is_truth, checked, closing_of_clauses, closing_of_form, closing, IsWithin, IsFirstAbove}
use Rattle.discharge.specs.declared.error.CloseFault.{CloseFault}
use Rattle.discharge.specs.declared.error.CloseFault.TheVariants as close
use Rattle.discharge.specs.declared.closer.Closer.{Closer}
use Rattle.discharge.specs.Answers.{Answers, CountsLarge, is_empty_some}
use Rattle.discharge.specs.Closers.{OpenLog, opened, open_of, outcome_by, before_first, IsBounded, StartsAt, IsBegun, BeginsForm, Begins, TakesStep}
use Rattle.discharge.proofs.Rest.{of_form, large_by, closes_plain, never_large, ends_by_last, ends_true, ends_false}

-- ---- what is begun

pub opened_new : (log : Logged) (cnf : Cnf) → log.cnf ≡ cnf → log.added ≡ [] → Some (opened log) ≡ Some (before_first cnf)
opened_new log cnf is none = rw (is, none, append-nil cnf.clauses) refl

-- over the clauses of a goal in normal form
pub form_begins : (form : Term) (count : ℕ) (cnf : Cnf) (result : Result Closer (Refusal CloseFault)) → (is_truth form ≡ true → count ≢ 0) → cnf.variables ≤ MAX_VARIABLES
    → cnf ≡ cnf_of form → StartsAt cnf result → BeginsForm form count result
form_begins form count cnf (Ok closer) needed few is starts =
    subst (IsBegun form count) (sym starts) (needed, subst (λ (c : Cnf). c.variables ≤ MAX_VARIABLES) is few, ap before_first is)
form_begins form count cnf (Err (Fault fault)) needed few is starts = absurd starts
form_begins form count cnf (Err NoMemory) needed few is starts = tt

-- over the normal form of a goal
pub goal_begins : (runs : List Run) (goal form : Term) (count : ℕ) (result : Result Closer (Refusal CloseFault)) → nat_le (subterm_count goal) MAX_TERMS ≡ true
    → form ≡ normal runs goal → BeginsForm form count result → Begins runs goal count result
goal_begins runs goal form count (Ok closer) small is begun =
    (leb-true (subterm_count goal) MAX_TERMS small, subst (λ (f : Term). IsBegun f count (open_of closer)) is begun)
goal_begins runs goal form count (Err (Fault (close.Large quantity least))) small is large =
    ((λ e. subst (λ (f : Term). is_truth f ≡ true → count ≢ 0) is large.0), large_by runs goal form quantity least small is (large.1, large.2, large.3))
goal_begins runs goal form count (Err (Fault (close.Step number))) small is never = absurd never
goal_begins runs goal form count (Err (Fault close.Unclosed)) small is never = absurd never
goal_begins runs goal form count (Err NoMemory) small is any = tt

-- the numbers of its variables can be kept
pub begun_bounded : (form : Term) (count : ℕ) (log : Option OpenLog) → IsBegun form count log → IsBounded log
begun_bounded form count None begun = tt
begun_bounded form count (Some log) begun = subst (λ (l : OpenLog). IsBounded (Some l)) (sym begun.2) (omega (arith, begun.1))

-- ---- what its steps come to

-- a step is needed, or the normal form isn't true
open_form : (plain : Bool) (log : List Step) (count : ℕ) → length log ≡ count → (plain ≡ true → count ≢ 0) → (plain && has_no_step log) ≡ false
open_form false log count counted needed = refl
open_form true [] count counted needed = absurd (needed refl (sym counted))
open_form true (step ∷ log) count counted needed = refl

by_clauses : (form : Term) (log : List Step) (count : ℕ) → length log ≡ count → (is_truth form ≡ true → count ≢ 0)
    → closing_of_form form log ≡ closing_of_clauses (cnf_of form) log
by_clauses form log count counted needed =
    ap (λ b. if b then Closes else closing_of_clauses (cnf_of form) log) (open_form (is_truth form) log count counted needed)

form_closing : (form : Term) (log : List Step) (count : ℕ) (o : Option OpenLog) → length log ≡ count → IsBegun form count o → closing_of_form form log ≡ outcome_by o log
form_closing form [] count None counted begun = closes_plain form begun.0
form_closing form (step ∷ log) count None counted begun = absurd (omega (arith, counted, begun.1))
form_closing form log count (Some open_log) counted begun =
    by_clauses form log count counted begun.0
    ∙ ap (λ b. if b then checked (cnf_of form).variables (cnf_of form).clauses false 1 log else IsLarge Variables) (le-leb (cnf_of form).variables MAX_VARIABLES begun.1)
    ∙ ap (λ (l : OpenLog). outcome_by (Some l) log) (sym begun.2)

pub begun_closing : (runs : List Run) (goal : Term) (log : List Step) (count : ℕ) (o : Option OpenLog) → length log ≡ count
    → IsWithin runs goal Terms × IsBegun (normal runs goal) count o → closing runs goal log ≡ outcome_by o log
begun_closing runs goal log count o counted begun =
    of_form runs goal log (le-leb (subterm_count goal) MAX_TERMS begun.0) ∙ form_closing (normal runs goal) log count o counted begun.1

-- a goal that is too large
large_closing : (runs : List Run) (goal : Term) (log : List Step) (count : ℕ) (quantity : GoalQuantity) (least : ℕ) → length log ≡ count
    → (quantity ≡ Variables → is_truth (normal runs goal) ≡ true → count ≢ 0) → IsFirstAbove runs goal quantity least → closing runs goal log ≡ IsLarge quantity
large_closing runs goal log count Terms least counted needed above =
    let more : MAX_TERMS < least = above.above in
    let has : least ≤ subterm_count goal = above.least in
    ap (λ b. if b then closing_of_form (normal runs goal) log else IsLarge Terms) (lt-leb (subterm_count goal) MAX_TERMS (omega (arith, more, has)))
large_closing runs goal log count Variables least counted needed above =
    let more : MAX_VARIABLES < least = above.above in
    let has : least ≤ (cnf_of (normal runs goal)).variables = above.least in
    of_form runs goal log (le-leb (subterm_count goal) MAX_TERMS above.earlier)
    ∙ by_clauses (normal runs goal) log count counted (needed refl)
    ∙ ap (λ b. if b then checked (cnf_of (normal runs goal)).variables (cnf_of (normal runs goal)).clauses false 1 log else IsLarge Variables)
    (lt-leb (cnf_of (normal runs goal)).variables MAX_VARIABLES (omega (arith, more, has)))

-- ---- answers

pub begun_answers : {A : Type 0} (runs : List Run) (goal : Term) (log : List Step) (count : ℕ) (o : Option OpenLog) (result : Result A (Refusal CloseFault)) → length log ≡ count
    → IsWithin runs goal Terms × IsBegun (normal runs goal) count o → Answers (outcome_by o log) result → Answers (closing runs goal log) result
begun_answers runs goal log count o result counted begun answers =
    subst (λ (c : Closing). Answers c result) (sym (begun_closing runs goal log count o counted begun)) answers

pub refused_answers : (A : Type 0) (runs : List Run) (goal : Term) (log : List Step) (count : ℕ) (error : Refusal CloseFault) → length log ≡ count
    → Begins runs goal count (Err error) → Answers {A = A} (closing runs goal log) (Err error)
refused_answers A runs goal log count (Fault (close.Large quantity least)) counted begins = large_closing runs goal log count quantity least counted begins.0 begins.1
refused_answers A runs goal log count (Fault (close.Step number)) counted begins = absurd begins
refused_answers A runs goal log count (Fault close.Unclosed) counted begins = absurd begins
refused_answers A runs goal log count NoMemory counted begins = tt

pub refused_counts : (A : Type 0) (runs : List Run) (goal : Term) (count : ℕ) (error : Refusal CloseFault) → Begins runs goal count (Err error)
    → CountsLarge {A = A} runs goal (Err error)
refused_counts A runs goal count (Fault (close.Large quantity least)) begins = begins.1
refused_counts A runs goal count (Fault (close.Step number)) begins = tt
refused_counts A runs goal count (Fault close.Unclosed) begins = tt
refused_counts A runs goal count NoMemory begins = tt

-- no step makes it too large
never : (o : Option OpenLog) (log : List Step) (quantity : GoalQuantity) → outcome_by o log ≡ IsLarge quantity → ⊥
never None log quantity e = cc
never (Some open_log) log quantity e = never_large open_log.variables open_log.clauses open_log.is_closed 1 log quantity e

pub begun_counts : {A : Type 0} (runs : List Run) (goal : Term) (log : List Step) (o : Option OpenLog) (result : Result A (Refusal CloseFault)) → Answers (outcome_by o log) result
    → CountsLarge runs goal result
begun_counts runs goal log o (Ok done) answers = tt
begun_counts runs goal log o (Err (Fault (close.Large quantity least))) answers = absurd (never o log quantity answers)
begun_counts runs goal log o (Err (Fault (close.Step number))) answers = tt
begun_counts runs goal log o (Err (Fault close.Unclosed)) answers = tt
begun_counts runs goal log o (Err NoMemory) answers = tt

-- ---- a step

-- with a step that follows
step_takes : (old new : Logged) (literals : List Literal) (hints : List ℕ) (result : Result (Unit {0}) (Refusal StepFault))
    → OnOk result (outcome old.cnf.variables (clauses_of old) literals hints ≡ Follows)
    → ((hint : ℕ) (kind : StepFaultKind) → (result ≡ Err (Fault (record { hint = hint; kind = kind }))) ↔ (outcome old.cnf.variables (clauses_of old) literals hints ≡ Refused hint kind))
    → new.cnf ≡ old.cnf → OnOk result (new.added ≡ old.added ++ literals ∷ []) → TakesStep (opened old) (Some (opened new)) literals hints result
step_takes old new literals hints (Ok done) follows fault cnf added =
    (follows, rw (cnf, added, ends_by_last old.added literals, append_assoc old.cnf.clauses old.added (literals ∷ [])) refl)
step_takes old new literals hints (Err (Fault f)) follows fault cnf added = (fault f.hint f.kind).0 refl
step_takes old new literals hints (Err NoMemory) follows fault cnf added = tt

pub step_taken_by : (before after : Option Logged) (old new : Logged) (literals : List Literal) (hints : List ℕ) (result : Result (Unit {0}) (Refusal StepFault))
    → before ≡ Some old → after ≡ Some new → OnOk result (outcome old.cnf.variables (clauses_of old) literals hints ≡ Follows)
    → ((hint : ℕ) (kind : StepFaultKind) → (result ≡ Err (Fault (record { hint = hint; kind = kind }))) ↔ (outcome old.cnf.variables (clauses_of old) literals hints ≡ Refused hint kind))
    → new.cnf ≡ old.cnf → OnOk result (new.added ≡ old.added ++ literals ∷ []) → (log : OpenLog) → option_map opened before ≡ Some log
    → TakesStep log (option_map opened after) literals hints result
step_taken_by before after old new literals hints result was is follows fault cnf added log there =
    subst (λ (m : Option Logged). TakesStep log (option_map opened m) literals hints result) (sym is)
    (subst (λ (l : OpenLog). TakesStep l (Some (opened new)) literals hints result) same (step_takes old new literals hints result follows fault cnf added))
  where
    same : opened old ≡ log
    same = let some = ap (option_map opened) (sym was) ∙ there in cc

-- whether the last has no literal, by whether it is the empty clause
pub closed_by : (last : Option Clause) (r : Bool) → IsTrue r ↔ (last ≡ Some []) → r ≡ is_empty_some last
closed_by last true both = sym (ends_true last (both.0 refl))
closed_by last false both = sym (ends_false last (λ e. let yes = both.1 e in cc))
