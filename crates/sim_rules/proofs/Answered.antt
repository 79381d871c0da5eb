-- The answer of a rule whose obligations are of both sides' walks, from what is known of the sides and what was added.
use Rattle.std.proofs.Common.{◌≡◌, ◌∙◌, ◌<◌, ℕ, List, All, Bool, true, false, Option, Some, length, refl, sym, ap, subst}
use Rattle.std.specs.Prelude.{Vec, Ok}
use Rattle.std.specs.Global.{Global}
use Rattle.term_core_spec.specs.Term.{Term}
use Rattle.term_bank.specs.Nodes.{Extends}
use Rattle.graph_core_spec.specs.declared.Mark.{Mark}
use Rattle.visit_walk_spec.specs.Visits.{Visit, Walk}
use Rattle.proof_tree_spec.specs.Frames.{Frame, Hold}
use Rattle.proof_tree.specs.Frames.{frame_of}
use Rattle.sim_rules_spec.specs.Obligations.{Leaf, RestrictBinary, RestrictSource, Wait}
use Rattle.sim_rules_spec.specs.Rules.{Opening, Seen, premise_terms}
use Rattle.sim_rules_spec.specs.Sides as ways
use Rattle.sim_rules_spec.specs.Sides.{breaks, visit_mark}
use Rattle.sim_rules_spec.specs.declared.Side.{Side}
use Rattle.sim_rules_spec.specs.declared.Side.TheVariants.{Binary, Source}
use Rattle.sim_rules_terms.specs.Held.{AreHeld}
use Rattle.sim_rules_terms.specs.Openings.{IsOpeningIn}
use Rattle.sim_rules_terms.specs.Ways.{walk_on}
use Rattle.sim_rules_terms.proofs.Later.{opening_in_later}
use Rattle.sim_rules.specs.declared.change.Change.{Change}
use Rattle.sim_rules.specs.declared.change.Change.TheVariants.{Plain, Holding, Restricting}
use Rattle.sim_rules.specs.declared.setup.Setup.{Setup}
use Rattle.sim_rules.specs.declared.sides.Both.{Both}
use Rattle.sim_rules.specs.declared.sides.Found.{Found}
use Rattle.sim_rules.specs.declared.sides.Sides.{Sides}
use Rattle.sim_rules.specs.Compared.{Compared, compared_by}
use Rattle.sim_rules.specs.Faults.{AreEnough, AreFew, AreKnown, visits_in}
use Rattle.sim_rules.specs.Made.{changed}
use Rattle.sim_rules.specs.Replies.{IsAnswer}
use Rattle.sim_rules.specs.Setups.{IsSetupOver}
use Rattle.sim_rules.specs.Sides.{way_at}
use Rattle.sim_rules.specs.Terms.{denial, leaf_all, never_in, restrict_all, wait_all}
use Rattle.sim_rules.specs.Walks.{AreFound, AreOf, AreSeen, AreWalked, CanSee, seen_by}
use Rattle.sim_rules.proofs.Answering.{by_terms}
use Rattle.sim_rules.proofs.Faulty.{leaf_few, binary_few, source_few, wait_few}
use Rattle.sim_rules.proofs.Finishing.{leaf_obligations, binary_obligations, source_obligations, wait_obligations}
use Rattle.sim_rules.proofs.Held.{held_count, held_within}
use Rattle.sim_rules.proofs.Made.{by_convention, own_compared, own_opening, own_setup, setup_later, sides_later, sides_of, some_sides}

-- the way of a side that was walked
abbrev way_of : Setup → Opening → Side → Change → Sides → ways.Way
way_of s o Binary change sides = changed (way_at o (frame_of s.frame.now) Binary) change sides.binary.way.shape.successors.items
way_of s o Source change sides = changed (way_at o (frame_of s.frame.now) Source) change sides.source.way.shape.successors.items

-- what a rule leaves to show, of any setup
abbrev Terms : Type 0
Terms = Setup → Compared → Opening → (a d : Seen) → List Term

-- the ids are of what the rule leaves to show of both sides
abbrev AreAdded : (before now : List Term) → Setup → (binary source : Change) → Sides → List ℕ → Terms → Type 0
AreAdded before now s binary source sides ids terms =
    (c : Compared) (o : Opening) → IsSetupOver before c o s
    → AreHeld now ids (terms s c o (seen_by (way_of s o Binary binary sides) sides.binary.visits) (seen_by (way_of s o Source source sides) sides.source.visits))

-- ---- what was added, as the code has it

module _ (b0 b1 b2 : List Term) (e : Extends b0 b1) (s : Setup) (binary source : Change) (sides : Sides) (found : Found) (both : Both) (same : both.setup.now ≡ s)
    (walked : AreWalked s binary source sides)
    (see : (trees : List Term) (a d : ways.Way) → AreOf trees a d sides → AreFound trees a d sides found
    → AreSeen trees (seen_by a sides.binary.visits) (seen_by d sides.source.visits) both)
    (found_are : (a d : ways.Way) → AreOf b0 a d sides → AreFound b1 a d sides found) where
  seen_later : (a d : ways.Way) → AreOf b0 a d sides → AreSeen b1 (seen_by a sides.binary.visits) (seen_by d sides.source.visits) both
  seen_later a d are = see b1 a d (sides_later b0 b1 e a d sides are) (found_are a d are)

  pub can_see : IsOpeningIn (length b0) s.opening → CanSee b1 both
  can_see opening =
      let some = some_sides b0 s binary source sides walked opening in
      let seen = seen_later some.0 some.1 some.2 in
      record {
        opening = subst (λ (z : Setup). IsOpeningIn (length b1) z.opening) (sym same) (opening_in_later b0 b1 e s.opening opening);
        some_binary = (seen_by some.0 sides.binary.visits, seen.binary);
        some_source = (seen_by some.1 sides.source.visits, seen.source);
      }

  pub added : (ids : List ℕ) (terms : Terms)
      → ((c : Compared) (o : Opening) (a d : Seen) → IsSetupOver b1 c o both.setup.now → AreSeen b1 a d both → AreHeld b2 ids (terms both.setup.now c o a d))
      → AreAdded b0 b2 s binary source sides ids terms
  added ids terms held = λ c o is.
      let are = sides_of b0 s binary source sides walked o is.opening_is in
      subst (λ (z : Setup). AreHeld b2 ids (terms z c o (seen_by (way_of s o Binary binary sides) sides.binary.visits) (seen_by (way_of s o Source source sides) sides.source.visits))) same
      (held c o _ _ (subst (IsSetupOver b1 c o) (sym same) (setup_later b0 b1 e c o s is)) (seen_later _ _ are))

-- ---- rule by rule

module _ (b0 b2 : List Term) (s : Setup) (sides : Sides) (ids : Vec ℕ Global) (opening : IsOpeningIn (length b0) s.opening) where
  abbrev f : Frame
  f = frame_of s.frame.now

  abbrev a_on : Walk
  a_on = walk_on sides.binary.way

  abbrev d_on : Walk
  d_on = walk_on sides.source.way

  abbrev Enough : (needs_binary needs_source : Bool) → Type 0
  Enough needs_binary needs_source = AreEnough (record { binary = needs_binary; source = needs_source }) a_on d_on sides.binary.visits sides.source.visits s.maximum

  known : (needed : Bool) (w u : Walk) (v : Option (List Visit)) → w ≡ u → AreKnown needed w v → AreKnown needed u v
  known needed w u v is k = subst (λ (z : Walk). AreKnown needed z v) is k

  few : (a d : Walk) → a_on ≡ a → d_on ≡ d → AreFew a_on d_on s.maximum → AreFew a d s.maximum
  few a d p q h = subst (λ (z : Walk). AreFew a z s.maximum) q (subst (λ (z : Walk). AreFew z d_on s.maximum) p h)

  within : (binary source : Change) (terms : Terms) → AreAdded b0 b2 s binary source sides ids.items terms → All (λ (id : ℕ). id < length b2) ids.items
  within binary source terms added = held_within b2 ids.items _ (added (own_compared s) (own_opening b0 s) (own_setup b0 s opening))

  -- where there is a list of visits, one term is left
  one_term : (denied : Term) (w : ways.Way) (visits : Option (List Visit)) (test : Visit → Bool) → (v : List Visit) × (visits ≡ Some v) → length (never_in denied w visits test) ≡ 1
  one_term denied w visits test there = ap (λ (o : Option (List Visit)). length (never_in denied w o test)) there.1

  pub leaf_answer : AreWalked s Plain Plain sides → Enough true true
      → AreAdded b0 b2 s Plain Plain sides ids.items (λ z c o a d. leaf_all c o (frame_of z.frame.now) a d) → IsAnswer b0 b2 s Leaf (Ok ids)
  leaf_answer walked enough added =
      by_terms b0 b2 s Leaf ids (λ index h. h)
      (λ c o is.
      leaf_obligations b2 c o f (visits_in sides.binary.visits) (visits_in sides.source.visits) ids.items
      (known true a_on _ _ (walked.of_binary.walk_is o) enough.binary) (known true d_on _ _ (walked.of_source.walk_is o) enough.source)
      (added (compared_by c) o (by_convention b0 c o s is)))
      (within Plain Plain (λ z c o a d. leaf_all c o (frame_of z.frame.now) a d) added)
      tt
      (λ o. leaf_few o f s.maximum (few _ _ (walked.of_binary.walk_is o) (walked.of_source.walk_is o) enough.few))

  pub binary_answer : (bound : Mark) → AreWalked s (Restricting bound) Plain sides → Enough true false
      → AreAdded b0 b2 s (Restricting bound) Plain sides ids.items
      (λ z c o a d. restrict_all o (frame_of z.frame.now) a d a (frame_of z.frame.now).start.binary_bounds bound) → IsAnswer b0 b2 s (RestrictBinary bound) (Ok ids)
  binary_answer bound walked enough added =
      let shape = sides.binary.way.shape.successors.items in
      let own : Opening = own_opening b0 s in
      let a : Seen = seen_by (way_of s own Binary (Restricting bound) sides) sides.binary.visits in
      let d : Seen = seen_by (way_of s own Source Plain sides) sides.source.visits in
      by_terms b0 b2 s (RestrictBinary bound) ids (λ index h. h)
      (λ c o is.
      binary_obligations b2 c o f (visits_in sides.binary.visits) (visits_in sides.source.visits) ids.items bound shape walked.of_binary.shape_is
      (known true a_on _ _ (walked.of_binary.walk_is o) enough.binary) (known false d_on _ _ (walked.of_source.walk_is o) enough.source)
      (added (compared_by c) o (by_convention b0 c o s is)))
      (within (Restricting bound) Plain (λ z c o a d. restrict_all o (frame_of z.frame.now) a d a (frame_of z.frame.now).start.binary_bounds bound) added)
      (held_count b2 ids.items _ (added (own_compared s) own (own_setup b0 s opening))
      ∙ one_term (denial (premise_terms own f a d)) a.way (visits_in sides.binary.visits) (breaks a.way.walk (visit_mark bound) (length f.start.binary_bounds)) (enough.binary.there refl))
      (λ o. binary_few o f s.maximum bound shape walked.of_binary.shape_is (few _ _ (walked.of_binary.walk_is o) (walked.of_source.walk_is o) enough.few))

  pub source_answer : (bound : Mark) → AreWalked s Plain (Restricting bound) sides → Enough false true
      → AreAdded b0 b2 s Plain (Restricting bound) sides ids.items
      (λ z c o a d. restrict_all o (frame_of z.frame.now) a d d (frame_of z.frame.now).start.source_bounds bound) → IsAnswer b0 b2 s (RestrictSource bound) (Ok ids)
  source_answer bound walked enough added =
      let shape = sides.source.way.shape.successors.items in
      let own : Opening = own_opening b0 s in
      let a : Seen = seen_by (way_of s own Binary Plain sides) sides.binary.visits in
      let d : Seen = seen_by (way_of s own Source (Restricting bound) sides) sides.source.visits in
      by_terms b0 b2 s (RestrictSource bound) ids (λ index h. h)
      (λ c o is.
      source_obligations b2 c o f (visits_in sides.binary.visits) (visits_in sides.source.visits) ids.items bound shape walked.of_source.shape_is
      (known false a_on _ _ (walked.of_binary.walk_is o) enough.binary) (known true d_on _ _ (walked.of_source.walk_is o) enough.source)
      (added (compared_by c) o (by_convention b0 c o s is)))
      (within Plain (Restricting bound) (λ z c o a d. restrict_all o (frame_of z.frame.now) a d d (frame_of z.frame.now).start.source_bounds bound) added)
      (held_count b2 ids.items _ (added (own_compared s) own (own_setup b0 s opening))
      ∙ one_term (denial (premise_terms own f a d)) d.way (visits_in sides.source.visits) (breaks d.way.walk (visit_mark bound) (length f.start.source_bounds)) (enough.source.there refl))
      (λ o. source_few o f s.maximum bound shape walked.of_source.shape_is (few _ _ (walked.of_binary.walk_is o) (walked.of_source.walk_is o) enough.few))

  pub wait_answer : (hold : Hold) → AreWalked s (Holding hold.nodes.binary) Plain sides → Enough true false
      → AreAdded b0 b2 s (Holding hold.nodes.binary) Plain sides ids.items (λ z c o a d. wait_all c o (frame_of z.frame.now) hold a d) → IsAnswer b0 b2 s (Wait hold) (Ok ids)
  wait_answer hold walked enough added =
      by_terms b0 b2 s (Wait hold) ids (λ index h. h)
      (λ c o is.
      wait_obligations b2 c o f (visits_in sides.binary.visits) (visits_in sides.source.visits) ids.items hold
      (known true a_on _ _ (walked.of_binary.walk_is o) enough.binary) (known false d_on _ _ (walked.of_source.walk_is o) enough.source)
      (added (compared_by c) o (by_convention b0 c o s is)))
      (within (Holding hold.nodes.binary) Plain (λ z c o a d. wait_all c o (frame_of z.frame.now) hold a d) added)
      tt
      (λ o. wait_few o f s.maximum hold (few _ _ (walked.of_binary.walk_is o) (walked.of_source.walk_is o) enough.few))
