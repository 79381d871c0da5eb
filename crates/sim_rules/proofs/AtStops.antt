-- What is to be shown where both sides stop, from their parts.
use Rattle.std.proofs.Common.{◌≡◌, ◌∙◌, ℕ, ◌<◌, ◌&&◌, Bool, true, false, if◌then◌else◌, List, [], ◌∷◌, ◌++◌, length, map, sym, ap, ap₂, arith}
use Rattle.std.proofs.lemmas.Option.{slice_get_within}
use Rattle.term_core_spec.specs.Term.{Term, truth}
use Rattle.term_core_spec.specs.Substitution.{substituted}
use Rattle.term_bank.specs.Nodes.{Extends}
use Rattle.term_bank.proofs.Growth.{length-Extends}
use Rattle.term_bank.proofs.Substitution.{kept}
use Rattle.visit_walk_spec.specs.Visits.{Visit}
use Rattle.sim_rules_spec.specs.Rules.{Stop, all_of, terms_at}
use Rattle.sim_rules_spec.specs.Sides.{Way, visits_where}
use Rattle.sim_rules_terms.specs.declared.sight.Part.{Part}
use Rattle.sim_rules_terms.specs.Ways.{IsPart}
use Rattle.sim_rules_terms.proofs.Later.{part_later, sight_later}
use Rattle.sim_rules.specs.Compared.{Compared, related, related_if}
use Rattle.sim_rules.specs.declared.point.Meeting.{Meeting}
use Rattle.sim_rules.specs.Stops.{ArePartsIn, CanMeet, IsMet, IsMeeting}

pub within_later : (before now : List Term) → Extends before now → (i : ℕ) → i < length before → i < length now
within_later before now e i h = let more = length-Extends before now e in omega arith

-- the ids of parts are of the bank
pub parts_in : (trees : List Term) (a d : Way) (v w : List Visit) (p_test q_test : Visit → Bool) (p q : Part) → IsPart trees a v p_test p → IsPart trees d w q_test q → ArePartsIn (length trees) p q
parts_in trees a d v w p_test q_test p q of_p of_q = record {
  of_binary = slice_get_within trees p.condition _ of_p.condition;
  of_source = slice_get_within trees q.condition _ of_q.condition;
  binary_below = of_p.terms.below;
  source_below = of_q.terms.below;
}

pub met_later : (before now : List Term) → Extends before now → (c : Compared) (a d : Way) (v w : List Visit) (s : Stop) (memory : Term) (lines : List Term) (p q : Part)
    → IsMet before c a d v w s memory lines p q → IsMet now c a d v w s memory lines p q
met_later before now e c a d v w s memory lines p q is = record {
  memory_is = is.memory_is;
  lines_are = is.lines_are;
  of_binary = part_later before now e a v s.binary p is.of_binary;
  of_source = part_later before now e d w s.source q is.of_source;
}

module _ (trees : List Term) (c : Compared) (a d : Way) (v w : List Visit) (s : Stop) (memory : Term) (lines : List Term) (p q : Part) (is : IsMet trees c a d v w s memory lines p q) where
  pub related_is : all_of (map (substituted (terms_at (visits_where a v s.binary).state (visits_where d w s.source).state)) (lines ++ memory ∷ [])) ≡ related c a d v w s
  related_is = ap (λ (l : List Term). all_of (map (substituted (terms_at (visits_where a v s.binary).state (visits_where d w s.source).state)) l))
      (sym (ap₂ (λ (l : List Term) (m : Term). l ++ m ∷ []) is.lines_are is.memory_is))

  pub if_both : p.any ≡ true → q.any ≡ true → related c a d v w s ≡ related_if c a d v w s
  if_both on_p on_q = sym (ap₂ (λ (x y : Bool). if x && y then related c a d v w s else truth true) (sym is.of_binary.some ∙ on_p) (sym is.of_source.some ∙ on_q))

  pub if_not : (p.any && q.any) ≡ false → truth true ≡ related_if c a d v w s
  if_not none = sym (ap₂ (λ (x y : Bool). if x && y then related c a d v w s else truth true) (sym is.of_binary.some) (sym is.of_source.some)
      ∙ ap (λ (x : Bool). if x then related c a d v w s else truth true) none)

pub meeting_later : (before now : List Term) → Extends before now → (t : Term) (c : Compared) (a d : Way) (m : Meeting) → IsMeeting before t c a d m → IsMeeting now t c a d m
meeting_later before now e t c a d m is = record {
  of_binary = sight_later before now e a m.binary is.of_binary;
  of_source = sight_later before now e d m.source is.of_source;
  memory_is = is.memory_is;
  denied_is = kept before now m.denied t e is.denied_is;
}

pub can_meet_later : (before now : List Term) → Extends before now → (m : Meeting) → CanMeet before m → CanMeet now m
can_meet_later before now e m is = record {
  some_binary = (is.some_binary.0, sight_later before now e is.some_binary.0 m.binary is.some_binary.1);
  some_source = (is.some_source.0, sight_later before now e is.some_source.0 m.source is.some_source.1);
  denied_in = within_later before now e m.denied is.denied_in;
}
