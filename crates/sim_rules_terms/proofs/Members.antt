-- The members of a list of visits, found one after the other.
use Rattle.std.proofs.Common.{◌≡◌, ◌∙◌, ℕ, ◌+◌, ◌<◌, ◌≤◌, suc, Bool, true, false, if◌then◌else◌, List, [], ◌∷◌, ◌++◌, drop, length, get_or, refl, sym, ap, arith}
use Rattle.std.proofs.lemmas.List.{at_drop_more, drop_all}
use Rattle.std.specs.List.{All}
use Rattle.std.proofs.lemmas.List.Elements.{Contains-get_or}
use Rattle.std.proofs.lemmas.Option.{slice_get_within}
use Rattle.visit_walk_spec.specs.Visits.{Visit}
use Rattle.sim_rules_spec.proofs.Members.{of_members}
use Rattle.sim_rules_spec.specs.Sides.{members, members_from}

pushed : {X : Type 0} (xs ys : List X) (x : X) → (xs ++ x ∷ []) ++ ys ≡ xs ++ x ∷ ys
pushed [] ys x = refl
pushed (z ∷ xs) ys x = ap (λ (l : List _). z ∷ l) (pushed xs ys x)

nothing_left : {X : Type 0} (xs : List X) → xs ++ [] ≡ xs
nothing_left [] = refl
nothing_left (z ∷ xs) = ap (λ (l : List _). z ∷ l) (nothing_left xs)

module _ (test : Visit → Bool) (visits : List Visit) where
  -- at one more visit
  pub member_more : (found whole : List ℕ) (i : ℕ) (d : Visit) (b : Bool) → i < length visits → test (get_or visits i d) ≡ b
      → found ++ members_from i test (drop i visits) ≡ whole
      → (if b then found ++ i ∷ [] else found) ++ members_from (i + 1) test (drop (i + 1) visits) ≡ whole
  member_more found whole i d true less e so_far =
      let next_is : suc i ≡ i + 1 = omega arith in
      pushed found (members_from (i + 1) test (drop (i + 1) visits)) i
      ∙ ap (λ (n : ℕ). found ++ i ∷ members_from n test (drop (i + 1) visits)) (sym next_is)
      ∙ ap (λ (p : Bool). found ++ (if p then i ∷ members_from (suc i) test (drop (i + 1) visits) else members_from (suc i) test (drop (i + 1) visits))) (sym e)
      ∙ ap (λ (l : List ℕ). found ++ l) (sym (at_drop_more (members_from i test) visits i d less)) ∙ so_far
  member_more found whole i d false less e so_far =
      let next_is : suc i ≡ i + 1 = omega arith in
      ap (λ (n : ℕ). found ++ members_from n test (drop (i + 1) visits)) (sym next_is)
      ∙ ap (λ (p : Bool). found ++ (if p then i ∷ members_from (suc i) test (drop (i + 1) visits) else members_from (suc i) test (drop (i + 1) visits))) (sym e)
      ∙ ap (λ (l : List ℕ). found ++ l) (sym (at_drop_more (members_from i test) visits i d less)) ∙ so_far

  -- at the end
  pub all_members : (found whole : List ℕ) (i : ℕ) → length visits ≤ i → found ++ members_from i test (drop i visits) ≡ whole → found ≡ whole
  all_members found whole i more so_far =
      sym (nothing_left found) ∙ ap (λ (l : List Visit). found ++ members_from i test l) (sym (drop_all i visits more)) ∙ so_far

-- they are positions of visits
pub members_within : (test : Visit → Bool) (visits : List Visit) → All (λ (i : ℕ). i < length visits) (members test visits)
members_within test visits k d less =
    let m = of_members test visits (get_or (members test visits) k d) (Contains-get_or (members test visits) k d less) in
    slice_get_within visits (get_or (members test visits) k d) m.0 m.1
