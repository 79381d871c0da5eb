-- Faults of rules, by those of both sides' walks; and where there is none.
use Rattle.std.proofs.Common.{◌≡◌, ◌∙◌, ◌⊎◌, ℕ, true, false, subst, refl, ap}
use Rattle.visit_walk_spec.specs.Shape.{Shape}
use Rattle.visit_walk_spec.specs.Outcomes.{AreTooMany}
use Rattle.visit_walk_spec.specs.Visits.{Walk}
use Rattle.graph_core_spec.specs.declared.Mark.{Mark}
use Rattle.proof_tree_spec.specs.Frames.{Frame, Hold}
use Rattle.sim_rules_spec.specs.Rules.{Opening, restricted, waiting_way}
use Rattle.sim_rules_spec.specs.Sides.{IsCutTo, binary_way, source_way}
use Rattle.sim_rules_spec.specs.Obligations.{Leaf, RestrictBinary, RestrictSource, Wait, IsOfBinary, IsOfSource}
use Rattle.sim_rules_spec.specs.declared.Side.TheVariants.{Binary, Source}
use Rattle.attempt.specs.declared.refusal.Refusal.{Refusal}
use Rattle.attempt.specs.declared.refusal.Refusal.TheVariants.{Fault, NoMemory}
use Rattle.sim_rules.specs.declared.fault.RuleFault.{RuleFault}
use Rattle.sim_rules.specs.declared.fault.RuleFault.TheVariants.{Sort, Cyclic, Large}
use Rattle.sim_rules.specs.Faults.{AreFew, IsFaultOf}
use Rattle.sim_rules.specs.Outcome.{HasFewVisits, IsRuleFault}
use Rattle.sim_rules.proofs.Counting.{one_shape}
use Rattle.sim_rules.proofs.Knowing.{not_true}

module _ (o : Opening) (f : Frame) (maximum : ℕ) where
  abbrev a : Walk
  a = (binary_way f o.binary).walk

  abbrev d : Walk
  d = (source_way f o.source).walk

  -- ---- Leaf

  pub leaf_fault : (fault : Refusal RuleFault) → IsFaultOf (record { binary = true; source = true }) a d maximum fault → IsRuleFault o f maximum Leaf fault
  leaf_fault (Fault (Sort i)) h = h
  leaf_fault (Fault (Cyclic Binary n)) h = h.1
  leaf_fault (Fault (Cyclic Source n)) h = (h.0 refl, h.2)
  leaf_fault (Fault (Large Binary n)) h = (h.0 refl, h.1 refl, h.2)
  leaf_fault (Fault (Large Source n)) h = (h.0 refl, h.1 refl, h.2)
  leaf_fault NoMemory h = tt

  pub leaf_few : AreFew a d maximum → HasFewVisits o f maximum Leaf
  leaf_few h = λ count x. h count x.2

  -- ---- Restrict

  module _ (bound : Mark) (s : Shape) where
    abbrev binary_restricted : Walk
    binary_restricted = (restricted (binary_way f o.binary) s bound).walk

    abbrev source_restricted : Walk
    source_restricted = (restricted (source_way f o.source) s bound).walk

    of_binary : IsCutTo f.binary bound.node s → IsOfBinary o f bound binary_restricted
    of_binary cut = record { shape = s; cut = cut; walk_is = refl }

    of_source : IsCutTo f.source bound.node s → IsOfSource o f bound source_restricted
    of_source cut = record { shape = s; cut = cut; walk_is = refl }

    pub binary_fault : IsCutTo f.binary bound.node s → (fault : Refusal RuleFault) → IsFaultOf (record { binary = true; source = false }) binary_restricted d maximum fault
        → IsRuleFault o f maximum (RestrictBinary bound) fault
    binary_fault cut (Fault (Sort i)) h = h
    binary_fault cut (Fault (Cyclic Binary n)) h = (binary_restricted, of_binary cut, h.1)
    binary_fault cut (Fault (Cyclic Source n)) h = absurd (not_true h.1)
    binary_fault cut (Fault (Large Binary n)) h = (binary_restricted, of_binary cut, h.0 refl, h.2)
    binary_fault cut (Fault (Large Source n)) h = (binary_restricted, of_binary cut, h.0 refl, h.2)
    binary_fault cut NoMemory h = tt

    pub binary_few : IsCutTo f.binary bound.node s → AreFew binary_restricted d maximum → HasFewVisits o f maximum (RestrictBinary bound)
    binary_few cut h = λ count x.
        let same = x.1.walk_is ∙ ap (λ (t : Shape). (restricted (binary_way f o.binary) t bound).walk) (one_shape f.binary bound.node x.1.shape s x.1.cut cut) in
        h count (subst (λ (w : Walk). AreTooMany w maximum count ⊎ AreTooMany d maximum count) same x.3)

    pub source_fault : IsCutTo f.source bound.node s → (fault : Refusal RuleFault) → IsFaultOf (record { binary = false; source = true }) a source_restricted maximum fault
        → IsRuleFault o f maximum (RestrictSource bound) fault
    source_fault cut (Fault (Sort i)) h = h
    source_fault cut (Fault (Cyclic Binary n)) h = absurd (not_true h.0)
    source_fault cut (Fault (Cyclic Source n)) h = (source_restricted, of_source cut, h.2)
    source_fault cut (Fault (Large Binary n)) h = (source_restricted, of_source cut, h.1 refl, h.2)
    source_fault cut (Fault (Large Source n)) h = (source_restricted, of_source cut, h.1 refl, h.2)
    source_fault cut NoMemory h = tt

    pub source_few : IsCutTo f.source bound.node s → AreFew a source_restricted maximum → HasFewVisits o f maximum (RestrictSource bound)
    source_few cut h = λ count x.
        let same = x.1.walk_is ∙ ap (λ (t : Shape). (restricted (source_way f o.source) t bound).walk) (one_shape f.source bound.node x.1.shape s x.1.cut cut) in
        h count (subst (λ (w : Walk). AreTooMany a maximum count ⊎ AreTooMany w maximum count) same x.3)

  -- ---- Wait

  module _ (hold : Hold) where
    abbrev waiting : Walk
    waiting = (waiting_way f o.binary hold.nodes.binary).walk

    pub wait_fault : (fault : Refusal RuleFault) → IsFaultOf (record { binary = true; source = false }) waiting d maximum fault → IsRuleFault o f maximum (Wait hold) fault
    wait_fault (Fault (Sort i)) h = h
    wait_fault (Fault (Cyclic Binary n)) h = h.1
    wait_fault (Fault (Cyclic Source n)) h = absurd (not_true h.1)
    wait_fault (Fault (Large Binary n)) h = (h.0 refl, h.2)
    wait_fault (Fault (Large Source n)) h = (h.0 refl, h.2)
    wait_fault NoMemory h = tt

    pub wait_few : AreFew waiting d maximum → HasFewVisits o f maximum (Wait hold)
    wait_few h = λ count x. h count x.1
