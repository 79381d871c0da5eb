-- A log that closes its goal passes step by step.
use Rattle.std.proofs.Common.{◌≡◌, ◌∙◌, ◌⊎◌, inl, inr, ℕ, suc, ◌+◌, ◌≤◌, Bool, true, false, if◌then◌else◌, List, [], ◌∷◌, ◌++◌, length, map, refl, sym, ap, leb-true}
use Rattle.std.specs.Prelude.{nat_le, ◌&&◌}
use Rattle.term_core_spec.specs.Term.{Term}
use Rattle.term_core_spec.specs.Subterms.{subterm_count}
use Rattle.term_norm_spec.specs.Normal.{normal}
use Rattle.clause_check_spec.specs.Clause.{Clause}
use Rattle.clause_check_spec.specs.Log.{Step}
use Rattle.clause_check_spec.specs.Step.{Outcome, Follows, Refused, outcome}
use Rattle.bit_blast_spec.specs.Goal.{cnf_of}
use Rattle.discharge_spec.specs.Closing.{Closing, Closes, IsLarge, Unclosed, is_empty, is_truth, after, at_end, checked, closing, closing_of_form, closing_of_clauses}
use Rattle.discharge_spec.specs.declared.GoalQuantity.TheVariants.{Terms, Variables}
use Rattle.tv_limits.specs.declared.TheConstants.{MAX_TERMS, MAX_VARIABLES}
use Rattle.cert_text_spec.specs.Lines as line
use Rattle.cert_text_spec.specs.Lines.{line_text}
use Rattle.cert_check_lines_spec.specs.Sites.{Part}
use Rattle.cert_check_lines_spec.specs.Jobs.{Job, Close, InLog}
use Rattle.cert_check_lines_spec.specs.LineRules as rules
use Rattle.cert_check_lines_spec.specs.Shown.{Pass, none, some}

either : (b : Bool) → (b ≡ true) ⊎ (b ≡ false)
either true = inl refl
either false = inr refl

-- ---- outcomes that close

closes_at_end : (b : Bool) → at_end b ≡ Closes → b ≡ true
closes_at_end true e = refl
closes_at_end false e = absurd (cc)

after_closes : (o : Outcome) (number : ℕ) (on : Closing) → after o number on ≡ Closes → (o ≡ Follows) × (on ≡ Closes)
after_closes Follows number on e = (refl, e)
after_closes (Refused hint kind) number on e = absurd (cc)

terms_close : (b : Bool) (x : Closing) → (if b then x else IsLarge Terms) ≡ Closes → (b ≡ true) × (x ≡ Closes)
terms_close true x e = (refl, e)
terms_close false x e = absurd (cc)

variables_close : (b : Bool) (x : Closing) → (if b then x else IsLarge Variables) ≡ Closes → (b ≡ true) × (x ≡ Closes)
variables_close true x e = (refl, e)
variables_close false x e = absurd (cc)

no_truth : (b : Bool) → (b && false) ≡ false
no_truth true = refl
no_truth false = refl

-- ---- steps

module _ (p : Part) (jobs : List Job) where
  steps_pass : (at offset variables : ℕ) (clauses : List Clause) (last : Bool) (number : ℕ) (one : Step) (rest : List Step) → checked variables clauses last number (one ∷ rest) ≡ Closes
      → Pass p at (InLog offset variables clauses (length rest) ∷ jobs) (map line.LogStep (one ∷ rest)) jobs
  unfolding checked
  steps_pass at offset variables clauses last number one [] e =
      let o = after_closes (outcome variables clauses one.literals one.hints) number (at_end (is_empty one.literals)) e in
      some at (InLog offset variables clauses 0 ∷ jobs) jobs jobs (line.LogStep one) [] (rules.last_step offset variables clauses jobs one o.0 (closes_at_end (is_empty one.literals) o.1))
      (none (at + length (line_text (line.LogStep one))) jobs)
  steps_pass at offset variables clauses last number one (two ∷ rest) e =
      let o = after_closes (outcome variables clauses one.literals one.hints) number (checked variables (clauses ++ one.literals ∷ []) (is_empty one.literals) (number + 1) (two ∷ rest)) e in
      some at (InLog offset variables clauses (suc (length rest)) ∷ jobs) (InLog offset variables (clauses ++ one.literals ∷ []) (length rest) ∷ jobs) jobs (line.LogStep one)
      (map line.LogStep (two ∷ rest)) (rules.step offset variables clauses (length rest) jobs one o.0)
      (steps_pass (at + length (line_text (line.LogStep one))) offset variables (clauses ++ one.literals ∷ []) (is_empty one.literals) (number + 1) two rest o.1)

  -- ---- the log

  without_steps : (at : ℕ) (goal : Term) → subterm_count goal ≤ MAX_TERMS → closing_of_form (normal p.runs goal) [] ≡ Closes → Pass p at (Close goal ∷ jobs) (line.Log 0 ∷ []) jobs
  unfolding checked
  without_steps at goal small e = by (is_truth (normal p.runs goal)) refl e
    where
      by : (b : Bool) → is_truth (normal p.runs goal) ≡ b → (if b && true then Closes else closing_of_clauses (cnf_of (normal p.runs goal)) []) ≡ Closes
          → Pass p at (Close goal ∷ jobs) (line.Log 0 ∷ []) jobs
      by true is e = some at (Close goal ∷ jobs) jobs jobs (line.Log 0) [] (rules.no_log goal jobs small is) (none (at + length (line_text (line.Log 0))) jobs)
      by false is e =
          let open_log : Unclosed ≡ Closes = (variables_close (nat_le (cnf_of (normal p.runs goal)).variables MAX_VARIABLES) Unclosed e).1 in
          absurd (cc)

  with_steps : (at : ℕ) (goal : Term) (one : Step) (rest : List Step) → subterm_count goal ≤ MAX_TERMS → closing_of_form (normal p.runs goal) (one ∷ rest) ≡ Closes
      → Pass p at (Close goal ∷ jobs) (line.Log (suc (length rest)) ∷ map line.LogStep (one ∷ rest)) jobs
  with_steps at goal one rest small e =
      let cnf = cnf_of (normal p.runs goal) in
      let by_clauses = sym (ap (λ (b : Bool). if b then Closes else closing_of_clauses cnf (one ∷ rest)) (no_truth (is_truth (normal p.runs goal)))) ∙ e in
      let v = variables_close (nat_le cnf.variables MAX_VARIABLES) (checked cnf.variables cnf.clauses false 1 (one ∷ rest)) by_clauses in
      some at (Close goal ∷ jobs) (InLog at cnf.variables cnf.clauses (length rest) ∷ jobs) jobs (line.Log (suc (length rest))) (map line.LogStep (one ∷ rest))
      (rules.log goal jobs (length rest) small (leb-true cnf.variables MAX_VARIABLES v.0))
      (steps_pass (at + length (line_text (line.Log (suc (length rest))))) at cnf.variables cnf.clauses false 1 one rest v.1)

  passes : (at : ℕ) (goal : Term) (log : List Step) → subterm_count goal ≤ MAX_TERMS → closing_of_form (normal p.runs goal) log ≡ Closes
      → Pass p at (Close goal ∷ jobs) (line.Log (length log) ∷ map line.LogStep log) jobs
  passes at goal [] small e = without_steps at goal small e
  passes at goal (one ∷ rest) small e = with_steps at goal one rest small e

pub closing_passes : (p : Part) (at : ℕ) (goal : Term) (jobs : List Job) (log : List Step) → closing p.runs goal log ≡ Closes
    → Pass p at (Close goal ∷ jobs) (line.Log (length log) ∷ map line.LogStep log) jobs
closing_passes p at goal jobs log e =
    let t = terms_close (nat_le (subterm_count goal) MAX_TERMS) (closing_of_form (normal p.runs goal) log) e in
    passes p jobs at goal log (leb-true (subterm_count goal) MAX_TERMS t.0) t.1
