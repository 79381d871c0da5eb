-- What goes round or is too large on a side is so of the rule.
use Rattle.std.proofs.Common.{ℕ, List, inl, inr}
use Rattle.term_core_spec.specs.Term.{Term}
use Rattle.graph_core_spec.specs.declared.Mark.{Mark}
use Rattle.proof_tree_spec.specs.Frames.{Hold, Frame}
use Rattle.sim_rules_spec.specs.declared.Side.{Side}
use Rattle.sim_rules_spec.specs.declared.Side.TheVariants.{Binary, Source}
use Rattle.sim_rules_spec.specs.Rules.{Opening}
use Rattle.sim_rules_spec.specs.Calls.{CallPair, Callee}
use Rattle.sim_rules_spec.specs.Obligations.{Rule, Leaf, Case, RestrictBinary, RestrictSource, Cut, Call, Wait, IsCyclicOn, IsCyclicRule, IsLargeOn, IsLargeRule}

pub cyclic_on : (o : Opening) (f : Frame) (r : Rule) (side : Side) (n : ℕ) → IsCyclicOn o f r side n → IsCyclicRule o f r n
cyclic_on o f Leaf Binary n h = inl h
cyclic_on o f Leaf Source n h = inr h
cyclic_on o f (Case test) side n h = absurd h
cyclic_on o f (RestrictBinary bound) Binary n h = h
cyclic_on o f (RestrictBinary bound) Source n h = absurd h
cyclic_on o f (RestrictSource bound) Binary n h = absurd h
cyclic_on o f (RestrictSource bound) Source n h = h
cyclic_on o f (Cut path lines) side n h = absurd h
cyclic_on o f (Call calls callee path before later) side n h = absurd h
cyclic_on o f (Wait hold) Binary n h = h
cyclic_on o f (Wait hold) Source n h = absurd h

pub large_on : (o : Opening) (f : Frame) (maximum : ℕ) (r : Rule) (side : Side) (n : ℕ) → IsLargeOn o f maximum r side n → IsLargeRule o f maximum r n
large_on o f maximum Leaf Binary n h = (h.0, h.1, inl h.2)
large_on o f maximum Leaf Source n h = (h.0, h.1, inr h.2)
large_on o f maximum (Case test) side n h = absurd h
large_on o f maximum (RestrictBinary bound) Binary n h = (h.0, h.1, h.2, inl h.3)
large_on o f maximum (RestrictBinary bound) Source n h = (h.0, h.1, h.2, inr h.3)
large_on o f maximum (RestrictSource bound) Binary n h = (h.0, h.1, h.2, inl h.3)
large_on o f maximum (RestrictSource bound) Source n h = (h.0, h.1, h.2, inr h.3)
large_on o f maximum (Cut path lines) side n h = absurd h
large_on o f maximum (Call calls callee path before later) side n h = absurd h
large_on o f maximum (Wait hold) Binary n h = (h.0, inl h.1)
large_on o f maximum (Wait hold) Source n h = (h.0, inr h.1)
