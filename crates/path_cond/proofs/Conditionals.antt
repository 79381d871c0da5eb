-- Conditions and terms as one are those of the conditionals as one.
use Rattle.std.proofs.Common.{◌≡◌, ◌∙◌, ◌<◌, Bool, true, ◌&&◌, if◌then◌else◌, List, [], ◌∷◌, length, map, refl, ap, ap₂, arith}
use Rattle.std.specs.List.{All}
use Rattle.std.proofs.lemmas.List.Elements.{All-head, All-tail}
use Rattle.std.proofs.lemmas.List.Folds.{fold-map, list_all-map}
use Rattle.term_core_spec.specs.declared.Variable.{Variable}
use Rattle.term_core_spec.specs.Term.{Term, or_term, choose}
use Rattle.term_core_spec.specs.Same.{same_term}
use Rattle.term_core_spec.specs.Substitution.{State}
use Rattle.term_core_spec.proofs.Same.{same_itself}
use Rattle.path_cond_spec.specs.Conditions.{Conditional, any_of, is_common, chosen, merged}
use Rattle.path_cond.specs.Merged.{any_term, chosen_term, merged_term}

abbrev pub condition_of : Conditional → Term
condition_of c = c.condition

pub any_is : (cs : List Conditional) → any_term (map condition_of cs) ≡ any_of cs
any_is [] = refl
any_is (c ∷ rest) = fold-map or_term condition_of c.condition rest

module _ (start : State) (v : Variable) where
  abbrev term_of : Conditional → Term
  term_of c = c.state v

  chosen_is : (c : Conditional) (rest : List Conditional) → chosen_term (map condition_of (c ∷ rest)) (map term_of (c ∷ rest)) ≡ chosen v c rest
  unfolding chosen_term chosen
  chosen_is c [] = refl
  chosen_is c (d ∷ rest) = ap (λ (t : Term). choose c.condition (c.state v) t) (chosen_is d rest)

  pub merged_is_state : (cs : List Conditional) → 0 < length cs → merged_term (map condition_of cs) (map term_of cs) ≡ merged start cs v
  unfolding merged
  merged_is_state [] some = absurd (omega arith)
  merged_is_state (c ∷ rest) some =
      ap₂ (λ (b : Bool) (t : Term). if b then c.state v else t) (list_all-map (same_term (c.state v)) term_of rest) (chosen_is c rest)

  -- what all have is what they have as one
  common_all : (t : Term) (rest : List Conditional) → All (λ (c : Conditional). c.state v ≡ t) rest → (u : Term) → u ≡ t → is_common v u rest ≡ true
  common_all t [] all u is = refl
  common_all t (d ∷ rest) all u is =
      let first : same_term u (d.state v) ≡ true = ap₂ same_term is (All-head (λ (c : Conditional). c.state v ≡ t) d rest all) ∙ same_itself t in
      ap₂ (λ (p q : Bool). p && q) first (common_all t rest (All-tail (λ (c : Conditional). c.state v ≡ t) d rest all) u is)

  pub merged_outside : (cs : List Conditional) → All (λ (c : Conditional). c.state v ≡ start v) cs → merged start cs v ≡ start v
  unfolding merged
  merged_outside [] all = refl
  merged_outside (c ∷ rest) all =
      let first : c.state v ≡ start v = All-head (λ (d : Conditional). d.state v ≡ start v) c rest all in
      ap (λ (b : Bool). if b then c.state v else chosen v c rest) (common_all (start v) rest (All-tail (λ (d : Conditional). d.state v ≡ start v) c rest all) (c.state v) first) ∙ first
