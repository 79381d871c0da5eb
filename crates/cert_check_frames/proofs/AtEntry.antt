-- The opening of a listed function, the frame that is made for it, and a Leaf's answer at a frame.
use Rattle.std.proofs.Common.{◌≡◌, ◌∙◌, ℕ, List, [], ◌∷◌, Vec, Box, Global, true, length, map, refl, sym, ap, subst, append-nil}
use Rattle.std.specs.Prelude.{Result, Ok, Err, IfOk, IfErr, OnOk}
use Rattle.std.specs.HashMap.{get}
use Rattle.term_core_spec.specs.Same.{same_variable}
use Rattle.term_core_spec.specs.Term.{Term, open_term}
use Rattle.term_core.specs.declared.term.Term.{Term as CodeTerm}
use Rattle.graph_core.specs.Graphs.{boxed_term}
use Rattle.path_cond.specs.States.{IsMapOf}
use Rattle.term_bank.specs.Nodes.{Extends}
use Rattle.proof_tree_spec.specs.Frames as frames
use Rattle.sim_rules_spec.specs.Obligations as rule
use Rattle.sim_rules_spec.specs.Rules as rules
use Rattle.sim_rules_terms.specs.declared.points.Opening.{Opening}
use Rattle.sim_rules_terms.specs.Openings.{IsOpening, IsOpeningIn}
use Rattle.sim_rules_terms.proofs.Later.{map_for, map_later}
use Rattle.sim_rules.specs.Outcome.{AreObligations, HasFewVisits, IsRuleFault}
use Rattle.attempt.specs.declared.refusal.Refusal.{Refusal}
use Rattle.attempt.specs.declared.refusal.Refusal.TheVariants.{Fault, NoMemory}
use Rattle.sim_rules.specs.declared.fault.RuleFault.{RuleFault}
use Rattle.sim_rules.specs.declared.fault.RuleFault.TheVariants.{Sort, Cyclic, Large}
use Rattle.tv_limits.specs.declared.TheConstants.{MAX_VISITS}
use Rattle.cert_check_spec.specs.Verdict as spec
use Rattle.cert_check_frames.specs.declared.jobs.Branch.{Branch}
use Rattle.cert_check_frames.specs.declared.listed.Listed.{Listed}
use Rattle.cert_check_frames.specs.Listed.{IsListed, frame_at, terms_given}
use Rattle.cert_check_frames.specs.Jobs.{frame_with, premise_at, premises_at, premises_with, tests_at}
use Rattle.cert_check_frames.specs.Goals.{AnswersGoals, AreOpened, IsLeafFault}

pub opened_setup : (code : Listed) (f : spec.Listed) → IsListed code f → (trees : List Term) (o : Opening) → AreOpened code trees o → IsOpening trees f.opening o
opened_setup code f is trees o are = record {
  of_binary = map_for trees (get same_variable o.binary.now) (terms_given code.binary_terms.now) f.opening.binary are.of_binary is.binary_is;
  of_source = map_for trees (get same_variable o.source.now) (terms_given code.source_terms.now) f.opening.source are.of_source is.source_is;
}

pub opened_in : (code : Listed) (trees : List Term) (o : Opening) → AreOpened code trees o → IsOpeningIn (length trees) o
opened_in code trees o are = record { binary_below = are.of_binary.below; source_below = are.of_source.below }

-- the source's terms come into the bank after the binary's
pub opened_both : (code : Listed) (before now : List Term) (o : Opening) → Extends before now
    → IsMapOf before (get same_variable o.binary.now) (terms_given code.binary_terms.now)
    → IsMapOf now (get same_variable o.source.now) (terms_given code.source_terms.now) → AreOpened code now o
opened_both code before now o grows binary source = record {
  of_binary = map_later before now grows (get same_variable o.binary.now) (terms_given code.binary_terms.now) binary;
  of_source = source;
}

-- the tests of premises, each as it holds
premises_given : (trees : List Term) (premises : List Branch) → premises_with premises (tests_at trees premises) ≡ premises_at trees premises
unfolding premises_with
premises_given trees [] = refl
premises_given trees (b ∷ premises) = ap (λ (terms : List Term). premise_at trees b ∷ terms) (premises_given trees premises)

-- the frame that was made is the listed one with the premises
pub frame_there : (code : Listed) (f : spec.Listed) → IsListed code f → (trees : List Term) (premises : List Branch) (tests : List (Box CodeTerm Global)) → map boxed_term tests ≡ tests_at trees premises
    → (made : frames.Frame) → made ≡ frame_with (frame_at code) (premises_with premises (map boxed_term tests)) → made ≡ frame_with f.frame (premises_at trees premises)
frame_there code f is trees premises tests are made is_made =
    is_made
    ∙ ap (λ (terms : List Term). frame_with (frame_at code) terms) (ap (premises_with premises) are ∙ premises_given trees premises)
    ∙ ap (λ (g : frames.Frame). frame_with g (premises_at trees premises)) (sym is.frame_is)

-- ---- the answer

nothing_known : rules.Opening
nothing_known = record { binary = open_term; source = open_term; known = λ at x y. true }

leaf_fault : (frame : frames.Frame) (fault : Refusal RuleFault) → ((o : rules.Opening) → IsRuleFault o frame MAX_VISITS rule.Leaf fault) → IsLeafFault fault
leaf_fault frame (Fault (Sort index)) is = is nothing_known
leaf_fault frame (Fault (Cyclic side node)) is = tt
leaf_fault frame (Fault (Large side count)) is = tt
leaf_fault frame NoMemory is = tt

pub goals_of : (f : spec.Listed) (now : List Term) (frame : frames.Frame) (r : Result (Vec ℕ Global) (Refusal RuleFault))
    → IfOk r (λ ids. AreObligations now f.convention f.opening frame rule.Leaf ids.items) → OnOk r (HasFewVisits f.opening frame MAX_VISITS rule.Leaf)
    → IfErr r (IsRuleFault f.opening frame MAX_VISITS rule.Leaf) → AnswersGoals f frame now r
goals_of f now frame (Ok goals) are few fault = record { few = few; are = are }
goals_of f now frame (Err fault) are few broken = broken

-- without further premises the frame is the listed one
pub with_none : (frame : frames.Frame) → frame_with frame [] ≡ frame
with_none frame = ap (λ (premises : List Term). record frame { start = record frame.start { premises = premises } }) (append-nil frame.start.premises)

pub leaf_faults : (frame : frames.Frame) (r : Result (Vec ℕ Global) (Refusal RuleFault)) → ((o : rules.Opening) → IfErr r (IsRuleFault o frame MAX_VISITS rule.Leaf)) → IfErr r IsLeafFault
leaf_faults frame (Ok goals) is = tt
leaf_faults frame (Err fault) is = leaf_fault frame fault is
