-- The line of a log, and a step, as the definition takes them.
use Rattle.std.proofs.Common.{◌≡◌, ◌∙◌, ℕ, suc, ◌<◌, ◌≤◌, Bool, true, false, List, [], ◌∷◌, ◌++◌, Some, None, Option, Err, refl, sym, ap, subst, arith}
use Rattle.term_core_spec.specs.Term.{Term}
use Rattle.term_core_spec.specs.Subterms.{subterm_count}
use Rattle.term_norm_spec.specs.Normal.{normal}
use Rattle.clause_check_spec.specs.declared.StepFaultKind.{StepFaultKind}
use Rattle.clause_check_spec.specs.Log.{Step}
use Rattle.clause_check_spec.specs.Step.{Follows, Refused, outcome}
use Rattle.bit_blast_spec.specs.Goal.{cnf_of}
use Rattle.cnf_core.specs.declared.literals.TheConstants.{MAX_VARIABLE}
use Rattle.tv_limits.specs.declared.TheConstants.{MAX_TERMS, MAX_VARIABLES}
use Rattle.discharge_spec.specs.declared.GoalQuantity.TheVariants.{Terms, Variables}
use Rattle.discharge_spec.specs.Closing.{IsWithin, is_empty, is_truth}
use Rattle.discharge.specs.Closers.{OpenLog, IsBegun, Begins, is_closed}
use Rattle.discharge.proofs.Begun.{begun_bounded}
use Rattle.discharge.specs.declared.error.CloseFault.TheVariants as close
use Rattle.attempt.specs.declared.refusal.Refusal.TheVariants.{Fault}
use Rattle.cert_text_spec.specs.Lines.{Log, LogStep}
use Rattle.cert_check_spec.specs.declared.RuleWord.TheVariants as fault
use Rattle.tv_limits.specs.declared.Quantity.TheVariants as quantity
use Rattle.cert_check_lines_spec.specs.Sites.{Part}
use Rattle.cert_check_lines_spec.specs.Jobs.{Job, Close, InLog}
use Rattle.cert_check_lines_spec.specs.LineRules as rules
use Rattle.cert_check_lines_spec.specs.LineRules.{Passes, Fails, Breaks, Above}

from_false : {A : Type 0} → false ≡ true → A
from_false e = absurd (cc)

-- what has begun and has steps takes them
pub record TakesSteps (o : Option OpenLog) : Type 0 where
  pub steps : OpenLog
  pub is : o ≡ Some steps
  pub bounded : steps.variables ≤ MAX_VARIABLE

pub takes_steps : (form : Term) (count left : ℕ) (o : Option OpenLog) → count ≡ suc left → IsBegun form count o → TakesSteps o
takes_steps form count left None counted begun = absurd (omega (arith, counted, begun.1))
takes_steps form count left (Some steps) counted begun = record { steps = steps; is = refl; bounded = begun_bounded form count (Some steps) begun }

module _ (p : Part) (at : ℕ) (goal : Term) (below : List Job) where
  -- it has steps
  pub opens : (count left : ℕ) (o : Option OpenLog) (steps : OpenLog) → count ≡ suc left → o ≡ Some steps → IsWithin p.runs goal Terms → IsBegun (normal p.runs goal) count o
      → Passes p at (Close goal ∷ below) (Log count) (InLog at steps.variables steps.clauses left ∷ below)
  opens count left o steps counted is within begun =
      let has = subst (IsBegun (normal p.runs goal) count) is begun in
      subst (λ (n : ℕ). Passes p at (Close goal ∷ below) (Log n) (InLog at steps.variables steps.clauses left ∷ below)) (sym counted)
      (subst (λ (l : OpenLog). Passes p at (Close goal ∷ below) (Log (suc left)) (InLog at l.variables l.clauses left ∷ below)) (sym has.2) (rules.log goal below left within has.1))

  -- it has none
  pub closes : (count : ℕ) (o : Option OpenLog) → count ≡ 0 → is_closed o ≡ true → IsWithin p.runs goal Terms → IsBegun (normal p.runs goal) count o
      → Passes p at (Close goal ∷ below) (Log count) below
  closes count None none closed within begun =
      subst (λ (n : ℕ). Passes p at (Close goal ∷ below) (Log n) below) (sym none) (rules.no_log goal below within begun.0)
  closes count (Some steps) none closed within begun = from_false (sym (ap (λ (l : OpenLog). l.is_closed) begun.2) ∙ closed)

  not_true : (b : Bool) → (b ≡ true → ⊥) → b ≡ false
  not_true true never = absurd (never refl)
  not_true false never = refl

  pub unclosed : (count : ℕ) (o : Option OpenLog) → count ≡ 0 → is_closed o ≡ false → IsWithin p.runs goal Terms → IsBegun (normal p.runs goal) count o
      → Fails p at (Close goal ∷ below) (Log count) at (Breaks fault.Unclosed)
  unclosed count None none closed within begun = from_false (sym closed)
  unclosed count (Some steps) none closed within begun =
      subst (λ (n : ℕ). Fails p at (Close goal ∷ below) (Log n) at (Breaks fault.Unclosed)) (sym none)
      (rules.no_step goal below within (not_true (is_truth (normal p.runs goal)) (λ plain. begun.0 plain none)) begun.1)

  -- it doesn't begin
  pub many_terms : (count least : ℕ) → Begins p.runs goal count (Err (Fault (close.Large Terms least))) → Fails p at (Close goal ∷ below) (Log count) at (Above quantity.Terms)
  many_terms count least begins =
      let more : MAX_TERMS < least = begins.1.above in
      let has : least ≤ subterm_count goal = begins.1.least in
      rules.terms goal below count (omega (arith, more, has))

  pub many_variables : (count least : ℕ) → Begins p.runs goal count (Err (Fault (close.Large Variables least)))
      → Fails p at (Close goal ∷ below) (Log count) at (Above quantity.Variables)
  many_variables count least begins =
      let more : MAX_VARIABLES < least = begins.1.above in
      let has : least ≤ (cnf_of (normal p.runs goal)).variables = begins.1.least in
      rules.variables goal below count begins.1.earlier (begins.0 refl) (omega (arith, more, has))

-- ---- a step

module _ (p : Part) (at offset : ℕ) (steps : OpenLog) (below : List Job) (one : Step) where
  pub goes_on : (left before : ℕ) → before ≡ suc left → outcome steps.variables steps.clauses one.literals one.hints ≡ Follows
      → Passes p at (InLog offset steps.variables steps.clauses before ∷ below) (LogStep one) (InLog offset steps.variables (steps.clauses ++ one.literals ∷ []) left ∷ below)
  goes_on left before is follows =
      subst (λ (n : ℕ). Passes p at (InLog offset steps.variables steps.clauses n ∷ below) (LogStep one) (InLog offset steps.variables (steps.clauses ++ one.literals ∷ []) left ∷ below))
      (sym is) (rules.step offset steps.variables steps.clauses left below one follows)

  pub is_last : (before : ℕ) → before ≡ 0 → outcome steps.variables steps.clauses one.literals one.hints ≡ Follows → is_empty one.literals ≡ true
      → Passes p at (InLog offset steps.variables steps.clauses before ∷ below) (LogStep one) below
  is_last before is follows empty =
      subst (λ (n : ℕ). Passes p at (InLog offset steps.variables steps.clauses n ∷ below) (LogStep one) below) (sym is)
      (rules.last_step offset steps.variables steps.clauses below one follows empty)

  pub is_refused : (before hint : ℕ) (kind : StepFaultKind) → outcome steps.variables steps.clauses one.literals one.hints ≡ Refused hint kind
      → Fails p at (InLog offset steps.variables steps.clauses before ∷ below) (LogStep one) at (Breaks fault.Step)
  is_refused before hint kind refused = rules.refused offset steps.variables steps.clauses before below one hint kind refused

  pub is_open : (before : ℕ) → before ≡ 0 → outcome steps.variables steps.clauses one.literals one.hints ≡ Follows → is_empty one.literals ≡ false
      → Fails p at (InLog offset steps.variables steps.clauses before ∷ below) (LogStep one) offset (Breaks fault.Unclosed)
  is_open before is follows empty =
      subst (λ (n : ℕ). Fails p at (InLog offset steps.variables steps.clauses n ∷ below) (LogStep one) offset (Breaks fault.Unclosed)) (sym is)
      (rules.unclosed offset steps.variables steps.clauses below one follows empty)
