-- Logs: one more step, and the answers of a search.
use Rattle.std.proofs.Common.{◌≡◌, ◌⊎◌, inl, inr, ℕ, zero, suc, ◌+◌, ◌-◌, ◌<◌, ◌≤◌, Bool, true, false, List, [], ◌∷◌, ◌++◌, Some, None, length, map, take, refl, ap, sym, ◌∙◌, subst, arith}
use Rattle.std.specs.Prelude.{slice_get}
use Rattle.std.proofs.lemmas.Option.{slice_get_within, get_or_from_slice_get}
use Rattle.std.proofs.lemmas.List.{take-append-le, take_at, take_all, take_more, append-nil, append_assoc, map-append, length_push, length-append, length-map, length-take-le}
use Rattle.clause_check_spec.specs.declared.Literal.{Literal}
use Rattle.clause_check_spec.specs.Clause.{Clause, Cnf, negation}
use Rattle.clause_check_spec.specs.Step.{outcome, Follows}
use Rattle.clause_check_spec.specs.Log.{Step, AllFollow, none, some, Refutes}
use Rattle.sat_search_spec.specs.Clauses.{Numbered, AreLive}
use Rattle.sat_search_spec.specs.Logs.{IsNew, before, Spent, IsLearnt, IsLog, IsClosing}
use Rattle.sat_search_spec.proofs.Trails.{get_left, get_last, get_cases}
use Rattle.sat_search_spec.proofs.Chains.{chain_follows}

-- ---- the clauses before a step

pub before_left : (given : List Clause) (log : List Step) (step : Step) (i : ℕ) → i ≤ length log → before given (log ++ step ∷ []) i ≡ before given log i
before_left given log step i h = ap (λ l. given ++ map (λ (s : Step). s.literals) l) (take-append-le i log (step ∷ []) h)

pub before_last : (given : List Clause) (log : List Step) (step : Step) → before given (log ++ step ∷ []) (length log) ≡ given ++ map (λ s. s.literals) log
before_last given log step = ap (λ l. given ++ map (λ (s : Step). s.literals) l) (take_at log (step ∷ []) (length log) refl)

clauses_more : (given clauses : List Clause) (log : List Step) (step : Step) → clauses ≡ given ++ map (λ s. s.literals) log
    → clauses ++ step.literals ∷ [] ≡ given ++ map (λ s. s.literals) (log ++ step ∷ [])
clauses_more given clauses log step e =
    ap (λ c. c ++ step.literals ∷ []) e
    ∙ append_assoc given (map (λ (s : Step). s.literals) log) (step.literals ∷ [])
    ∙ ap (λ c. given ++ c) (sym (map-append (λ (s : Step). s.literals) log (step ∷ [])))

-- ---- one more step

learnt_more : (cnf : Cnf) (clauses : List Clause) (log : List Step) (more : Step) → IsLog cnf clauses log → IsLearnt cnf.variables clauses more
    → (i : ℕ) (step : Step) → slice_get (log ++ more ∷ []) i ≡ Some step → IsLearnt cnf.variables (before cnf.clauses (log ++ more ∷ []) i) step
learnt_more cnf clauses log more is_log learnt i step here =
    elim (get_cases log more i step here) [
      | inl there ↦
          let below = slice_get_within log i step there in
          subst (λ c. IsLearnt cnf.variables c step) (sym (before_left cnf.clauses log more i (omega (arith, below)))) (is_log.learnt i step there)
      | inr last ↦
          subst (λ n. IsLearnt cnf.variables (before cnf.clauses (log ++ more ∷ []) n) step) (sym last.0)
          (subst (λ s. IsLearnt cnf.variables (before cnf.clauses (log ++ more ∷ []) (length log)) s) (sym last.1)
          (subst (λ c. IsLearnt cnf.variables c more) (is_log.clauses_are ∙ sym (before_last cnf.clauses log more)) learnt))
    ]

pub no_steps : (cnf : Cnf) → IsLog cnf cnf.clauses []
no_steps cnf = record { clauses_are = sym (append-nil cnf.clauses); learnt = λ i step here. cc; nonempty = λ i step here. cc }

pub log_more : (cnf : Cnf) (clauses : List Clause) (log : List Step) (more : Step) → IsLog cnf clauses log → IsLearnt cnf.variables clauses more
    → (more.literals ≡ [] → ⊥) → IsLog cnf (clauses ++ more.literals ∷ []) (log ++ more ∷ [])
log_more cnf clauses log more is_log learnt nonempty = record {
  clauses_are = clauses_more cnf.clauses clauses log more is_log.clauses_are;
  learnt = learnt_more cnf clauses log more is_log learnt;
  nonempty = λ i step here.
      elim (get_cases log more i step here) [
        | inl there ↦ is_log.nonempty i step there
        | inr last ↦ λ e. nonempty (ap (λ (s : Step). s.literals) (sym last.1) ∙ e)
      ];
}

pub log_closing : (cnf : Cnf) (clauses : List Clause) (log : List Step) (last : Step) → IsLog cnf clauses log → IsLearnt cnf.variables clauses last
    → last.literals ≡ [] → IsClosing cnf (log ++ last ∷ [])
log_closing cnf clauses log last is_log learnt e = record {
  learnt = learnt_more cnf clauses log last is_log learnt;
  nonempty = λ i step here below.
      elim (get_cases log last i step here) [
        | inl there ↦ is_log.nonempty i step there
        | inr final ↦ absurd (let place = final.0 in let count = length_push log last in omega (arith, place, count, below))
      ];
  last = last;
  ends = ap (slice_get (log ++ last ∷ [])) (let count = length_push log last in omega (arith, count)) ∙ get_last log last;
  closes = e;
}

-- ---- the limit was reached

pub spent : (cnf : Cnf) (clauses : List Clause) (log : List Step) (limit : ℕ) → IsLog cnf clauses log → length log ≡ limit → Spent cnf log limit
spent cnf clauses log limit is_log count = record {
  count = count;
  nonempty = is_log.nonempty;
  follows = λ i step here.
      let learnt = is_log.learnt i step here in
      chain_follows cnf.variables (before cnf.clauses log i) step.literals step.hints learnt.fit learnt.chain;
  chained = λ i step here. (is_log.learnt i step here).chain;
  named = λ i step here. (is_log.learnt i step here).named;
  is_new = λ i step here. (is_log.learnt i step here).is_new (is_log.nonempty i step here);
}

-- ---- the clauses were closed

all_follow : (variables : ℕ) (clauses : List Clause) (log : List Step)
    → ((i : ℕ) (step : Step) → slice_get log i ≡ Some step → outcome variables (before clauses log i) step.literals step.hints ≡ Follows)
    → AllFollow variables clauses log
all_follow variables clauses [] follows = none clauses
all_follow variables clauses (step ∷ rest) follows =
    some clauses step rest (ap (λ c. outcome variables c step.literals step.hints) (sym (append-nil clauses)) ∙ follows 0 step refl)
    (all_follow variables (clauses ++ step.literals ∷ []) rest (λ i later here.
    ap (λ c. outcome variables c later.literals later.hints) (append_assoc clauses (step.literals ∷ []) (map (λ (s : Step). s.literals) (take i rest)))
    ∙ follows (suc i) later here))

ends_with : {X : Type 0} (xs : List X) (x : X) → slice_get xs (length xs - 1) ≡ Some x → xs ≡ take (length xs - 1) xs ++ x ∷ []
ends_with xs x here =
    let below = slice_get_within xs (length xs - 1) x here in
    let all : take (length xs - 1 + 1) xs ≡ xs = take_all (length xs - 1 + 1) xs (omega arith) in
    sym all ∙ take_more xs (length xs - 1) x below
    ∙ ap (λ y. take (length xs - 1) xs ++ y ∷ []) (get_or_from_slice_get xs (length xs - 1) x x here)

pub closing_refutes : (cnf : Cnf) (log : List Step) → IsClosing cnf log → Refutes cnf log
closing_refutes cnf log closing = record {
  follows =
      all_follow cnf.variables cnf.clauses log (λ i step here.
      let learnt = closing.learnt i step here in
      chain_follows cnf.variables (before cnf.clauses log i) step.literals step.hints learnt.fit learnt.chain);
  prefix = take (length log - 1) log;
  last = closing.last;
  ends = ends_with log closing.last closing.ends;
  closes = closing.closes;
}
