-- Literals as they are kept, and a step with them.
use Rattle.std.proofs.Common.{◌≡◌, ◌∙◌, ℕ, ◌<◌, ◌≤◌, ◌&&◌, nat_le, if◌then◌else◌, Bool, true, false, List, [], ◌∷◌, map, Option, Some, Result, Ok, Err, refl, sym, ap, subst, arith}
use Rattle.std.specs.List.{list_all}
use Rattle.std.proofs.lemmas.Bool.{leb-false, lt-leb, and_right}
use Rattle.clause_check_spec.specs.declared.Literal.{Literal}
use Rattle.clause_check_spec.specs.declared.StepFaultKind.TheVariants.{Literals}
use Rattle.clause_check_spec.specs.Clause.{Clause, is_of, negation}
use Rattle.clause_check_spec.specs.Step.{Outcome, Follows, Refused, outcome, propagate, are_apart}
use Rattle.clause_check.specs.declared.hints.StepFault.{StepFault}
use Rattle.attempt.specs.declared.refusal.Refusal.{Refusal}
use Rattle.attempt.specs.declared.refusal.Refusal.TheVariants.{Fault, NoMemory}
use Rattle.cnf_core.specs.declared.literals.TheConstants.{MAX_VARIABLE}
use Rattle.discharge.specs.Closers.{OpenLog, TakesStep, with_step}
use Rattle.cert_check.specs.Logs.{clipped}

-- ---- literals of no variable

abbrev clip : (is_kept : Bool) → Literal → Literal
clip is_kept l = if is_kept then l else record { variable = 0; is_negated = l.is_negated }

clipped_fit : (variables : ℕ) → variables ≤ MAX_VARIABLE → (l : Literal) → is_of variables (clipped l) ≡ is_of variables l
clipped_fit variables below l = by (nat_le l.variable MAX_VARIABLE) refl
  where
    by : (b : Bool) → nat_le l.variable MAX_VARIABLE ≡ b → is_of variables (clip b l) ≡ is_of variables l
    by true is = refl
    by false is =
        let above : MAX_VARIABLE < l.variable = leb-false l.variable MAX_VARIABLE is in
        sym (and_right (nat_le 1 l.variable) (nat_le l.variable variables) (lt-leb l.variable variables (omega (arith, above, below))))

clipped_same : (variables : ℕ) → variables ≤ MAX_VARIABLE → (l : Literal) → is_of variables l ≡ true → clipped l ≡ l
clipped_same variables below l fits = by (nat_le l.variable MAX_VARIABLE) refl
  where
    by : (b : Bool) → nat_le l.variable MAX_VARIABLE ≡ b → clip b l ≡ l
    by true is = refl
    by false is =
        let above : MAX_VARIABLE < l.variable = leb-false l.variable MAX_VARIABLE is in
        let none : is_of variables l ≡ false = and_right (nat_le 1 l.variable) (nat_le l.variable variables) (lt-leb l.variable variables (omega (arith, above, below))) in
        absurd (cc)

all_fit : (variables : ℕ) → variables ≤ MAX_VARIABLE → (ls : List Literal) → list_all (is_of variables) (map clipped ls) ≡ list_all (is_of variables) ls
all_fit variables below [] = refl
all_fit variables below (l ∷ ls) =
    ap (λ (b : Bool). b && list_all (is_of variables) (map clipped ls)) (clipped_fit variables below l)
    ∙ ap (λ (b : Bool). is_of variables l && b) (all_fit variables below ls)

first_true : (a b : Bool) → (a && b) ≡ true → a ≡ true
first_true true b e = refl
first_true false b e = absurd (cc)

second_true : (a b : Bool) → (a && b) ≡ true → b ≡ true
second_true true b e = e
second_true false b e = absurd (cc)

all_same : (variables : ℕ) → variables ≤ MAX_VARIABLE → (ls : List Literal) → list_all (is_of variables) ls ≡ true → map clipped ls ≡ ls
all_same variables below [] fit = refl
all_same variables below (l ∷ ls) fit =
    ap (λ (x : Literal). x ∷ map clipped ls) (clipped_same variables below l (first_true (is_of variables l) (list_all (is_of variables) ls) fit))
    ∙ ap (λ (rest : List Literal). l ∷ rest) (all_same variables below ls (second_true (is_of variables l) (list_all (is_of variables) ls) fit))

-- a step is refused all the same
abbrev by_fit : (variables : ℕ) → List Clause → List Literal → List ℕ → (fit : Bool) → Outcome
by_fit variables clauses ls hints fit = if fit && are_apart ls then propagate clauses hints (map negation ls) 0 else Refused 0 Literals

pub same_outcome : (variables : ℕ) → variables ≤ MAX_VARIABLE → (clauses : List Clause) (ls : List Literal) (hints : List ℕ)
    → outcome variables clauses (map clipped ls) hints ≡ outcome variables clauses ls hints
unfolding outcome
same_outcome variables below clauses ls hints = by (list_all (is_of variables) ls) refl
  where
    by : (b : Bool) → list_all (is_of variables) ls ≡ b
        → by_fit variables clauses (map clipped ls) hints (list_all (is_of variables) (map clipped ls)) ≡ by_fit variables clauses ls hints (list_all (is_of variables) ls)
    by true fit =
        ap (λ (list : List Literal). by_fit variables clauses list hints (list_all (is_of variables) list)) (all_same variables below ls fit)
    by false fit =
        ap (by_fit variables clauses (map clipped ls) hints) (all_fit variables below ls ∙ fit)
        ∙ sym (ap (by_fit variables clauses ls hints) fit)

follows_fit : (variables : ℕ) (clauses : List Clause) (ls : List Literal) (hints : List ℕ) → outcome variables clauses ls hints ≡ Follows → list_all (is_of variables) ls ≡ true
unfolding outcome
follows_fit variables clauses ls hints follows = by (list_all (is_of variables) ls) follows
  where
    by : (b : Bool) → by_fit variables clauses ls hints b ≡ Follows → b ≡ true
    by true e = refl
    by false e = absurd (cc)

-- ---- a step

-- it comes to what the one with the literals that are kept does
pub kept_takes : (log : OpenLog) (now : Option OpenLog) (literals kept : List Literal) (hints by : List ℕ) (result : Result (Unit {0}) (Refusal StepFault)) → log.variables ≤ MAX_VARIABLE
    → kept ≡ map clipped literals → by ≡ hints → TakesStep log now kept by result → TakesStep log now literals hints result
kept_takes log now literals kept hints by result below kept_are by_are takes =
    clipped_takes result (subst (λ (l : List Literal). TakesStep log now l hints result) kept_are (subst (λ (h : List ℕ). TakesStep log now kept h result) by_are takes))
  where
    same : outcome log.variables log.clauses (map clipped literals) hints ≡ outcome log.variables log.clauses literals hints
    same = same_outcome log.variables below log.clauses literals hints

    clipped_takes : (r : Result (Unit {0}) (Refusal StepFault)) → TakesStep log now (map clipped literals) hints r → TakesStep log now literals hints r
    clipped_takes (Ok done) (follows, is) =
        let real : outcome log.variables log.clauses literals hints ≡ Follows = sym same ∙ follows in
        let fit = follows_fit log.variables log.clauses literals hints real in
        (real, is ∙ ap (λ (l : List Literal). Some (with_step log l)) (all_same log.variables below literals fit))
    clipped_takes (Err (Fault fault)) refused = sym same ∙ refused
    clipped_takes (Err NoMemory) any = tt
