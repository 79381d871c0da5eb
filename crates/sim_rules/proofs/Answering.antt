-- A rule's answer, by what its obligations are of.
use Rattle.std.proofs.Common.{◌≡◌, ◌<◌, ℕ, List, [], ◌∷◌, All, length, sym, subst, refl}
use Rattle.std.specs.Prelude.{Result, Ok, Err, Vec, IfOk, IfErr, OnOk}
use Rattle.std.specs.Global.{Global}
use Rattle.std.proofs.lemmas.List.Elements.{All-nil}
use Rattle.std.proofs.lemmas.Result.{IfOk-weaker, IfErr-weaker, on_ok_weaker}
use Rattle.term_core_spec.specs.Term.{Term}
use Rattle.proof_tree_spec.specs.Frames.{Frame}
use Rattle.proof_tree_spec.specs.Scope.{Setting}
use Rattle.proof_tree.specs.Frames.{frame_of}
use Rattle.sim_rules_spec.specs.Obligations as spec
use Rattle.sim_rules_spec.specs.Obligations.{Rule, IsNoLine}
use Rattle.sim_rules_spec.specs.Points.{Convention}
use Rattle.sim_rules_spec.specs.Rules.{Opening}
use Rattle.attempt.specs.declared.refusal.Refusal.{Refusal}
use Rattle.attempt.specs.declared.refusal.Refusal.TheVariants.{Fault, NoMemory}
use Rattle.sim_rules.specs.declared.fault.RuleFault.{RuleFault}
use Rattle.sim_rules.specs.declared.fault.RuleFault.TheVariants.{Sort, Cyclic, Large}
use Rattle.sim_rules.specs.declared.setup.Setup.{Setup}
use Rattle.sim_rules.specs.Replies.{IsAnswer}
use Rattle.sim_rules_terms.specs.Held.{AreHeld}
use Rattle.sim_rules_terms.specs.Lines.{AreLines}
use Rattle.sim_rules.specs.Lines.{IsLineFault}
use Rattle.sim_rules.specs.Outcome.{AreObligations, HasFewVisits, HasLines, IsCount, IsRuleFault}
use Rattle.sim_rules.specs.Setups.{IsSetup}

abbrev Reply : Type 0
Reply = Result (Vec ℕ Global) (Refusal RuleFault)

-- ---- nothing is left to show

none_left : (trees : List Term) (c : Convention) (o : Opening) (f : Frame) (rule : Rule) (ids : List ℕ) → spec.AreObligations c o f rule [] → ids ≡ [] → AreObligations trees c o f rule ids
none_left trees c o f rule ids are e = record { terms = []; are = are; held = subst (λ (l : List ℕ). AreHeld trees l []) (sym e) tt }

none_within : (trees : List Term) (ids : List ℕ) → ids ≡ [] → All (λ (id : ℕ). id < length trees) ids
none_within trees ids e = subst (λ (l : List ℕ). All (λ (id : ℕ). id < length trees) l) (sym e) (All-nil (λ (id : ℕ). id < length trees))

no_bad : (setting : Setting) (path : List ℕ) (lines : List Term) → AreLines setting path lines → (index : ℕ) → IsNoLine setting path lines index → ⊥
no_bad setting path lines are index n = n.none (are index n.line n.there)

module _ (trees : List Term) (s : Setup) (r : Reply) (none : IfOk r (λ ids. ids.items ≡ [])) where
  abbrev f : Frame
  f = frame_of s.frame.now

  always : (P : Type 0) → P → (x : Reply) → OnOk x P
  always P p (Ok ids) = p
  always P p (Err fault) = tt

  pub of_term : (test : Term) → OnOk r (AreLines f.setting f.start.path (test ∷ [])) → IfErr r (IsLineFault f.setting f.start.path (test ∷ [])) → IsAnswer trees trees s (spec.Case test) r
  of_term test lines fault = record {
    terms = λ c o is. IfOk-weaker r (λ ids. ids.items ≡ []) (λ ids. AreObligations trees c o f (spec.Case test) ids.items) (λ ids e. none_left trees c o f (spec.Case test) ids.items refl e) none;
    within = IfOk-weaker r (λ ids. ids.items ≡ []) (λ ids. All (λ (id : ℕ). id < length trees) ids.items) (λ ids e. none_within trees ids.items e) none;
    count = IfOk-weaker r (λ ids. ids.items ≡ []) (λ ids. IsCount (spec.Case test) (length ids.items)) (λ ids e. tt) none;
    lines = on_ok_weaker r (no_bad f.setting f.start.path (test ∷ [])) lines;
    few = λ o. always (HasFewVisits o f s.maximum (spec.Case test)) (λ count h. h) r;
    fault = λ o. IfErr-weaker r (IsLineFault f.setting f.start.path (test ∷ [])) (IsRuleFault o f s.maximum (spec.Case test)) (bad o) fault;
  }
    where
      bad : (o : Opening) (x : Refusal RuleFault) → IsLineFault f.setting f.start.path (test ∷ []) x → IsRuleFault o f s.maximum (spec.Case test) x
      bad o (Fault (Sort index)) h = h
      bad o (Fault (Cyclic side node)) h = absurd h
      bad o (Fault (Large side count)) h = absurd h
      bad o NoMemory h = tt

  pub of_lines : (path : List ℕ) (lines : List Term) → OnOk r (AreLines f.setting path lines) → IfErr r (IsLineFault f.setting path lines) → IsAnswer trees trees s (spec.Cut path lines) r
  of_lines path lines are fault = record {
    terms = λ c o is. IfOk-weaker r (λ ids. ids.items ≡ []) (λ ids. AreObligations trees c o f (spec.Cut path lines) ids.items) (λ ids e. none_left trees c o f (spec.Cut path lines) ids.items refl e) none;
    within = IfOk-weaker r (λ ids. ids.items ≡ []) (λ ids. All (λ (id : ℕ). id < length trees) ids.items) (λ ids e. none_within trees ids.items e) none;
    count = IfOk-weaker r (λ ids. ids.items ≡ []) (λ ids. IsCount (spec.Cut path lines) (length ids.items)) (λ ids e. tt) none;
    lines = on_ok_weaker r (no_bad f.setting path lines) are;
    few = λ o. always (HasFewVisits o f s.maximum (spec.Cut path lines)) (λ count h. h) r;
    fault = λ o. IfErr-weaker r (IsLineFault f.setting path lines) (IsRuleFault o f s.maximum (spec.Cut path lines)) (bad o) fault;
  }
    where
      bad : (o : Opening) (x : Refusal RuleFault) → IsLineFault f.setting path lines x → IsRuleFault o f s.maximum (spec.Cut path lines) x
      bad o (Fault (Sort index)) h = h
      bad o (Fault (Cyclic side node)) h = absurd h
      bad o (Fault (Large side count)) h = absurd h
      bad o NoMemory h = tt

-- ---- rules whose obligations are of both sides' walks

pub no_memory : (before now : List Term) (s : Setup) (rule : Rule) → IsAnswer before now s rule (Err NoMemory)
no_memory before now s rule = record { terms = λ c o is. tt; within = tt; count = tt; lines = tt; few = λ o. tt; fault = λ o. tt }

pub by_fault : (before now : List Term) (s : Setup) (rule : Rule) (x : Refusal RuleFault) → ((o : Opening) → IsRuleFault o (frame_of s.frame.now) s.maximum rule x) → IsAnswer before now s rule (Err x)
by_fault before now s rule x is = record { terms = λ c o setup. tt; within = tt; count = tt; lines = tt; few = λ o. tt; fault = is }

pub by_terms : (before now : List Term) (s : Setup) (rule : Rule) (ids : Vec ℕ Global) → HasLines (frame_of s.frame.now) rule
    → ((c : Convention) (o : Opening) → IsSetup before c o s → AreObligations now c o (frame_of s.frame.now) rule ids.items) → All (λ (id : ℕ). id < length now) ids.items
    → IsCount rule (length ids.items) → ((o : Opening) → HasFewVisits o (frame_of s.frame.now) s.maximum rule) → IsAnswer before now s rule (Ok ids)
by_terms before now s rule ids lines are within count few = record { terms = are; within = within; count = count; lines = lines; few = few; fault = λ o. tt }
