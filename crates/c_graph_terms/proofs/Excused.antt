-- Tests that are asked only where a condition holds, one after the other.
use Rattle.std.proofs.Common.{◌≡◌, ◌∙◌, ℕ, ◌+◌, ◌<◌, ◌≤◌, List, [], ◌∷◌, ◌++◌, length, map, take, get_or, sym, ap, ap₂, subst}
use Rattle.std.proofs.lemmas.List.{map_more, map-append, take_all}
use Rattle.term_core_spec.specs.Term.{Term, or_term, not_term}
use Rattle.term_bank.specs.Nodes.{tree_at}
use Rattle.c_graph_spec.specs.Guards.{under}
use Rattle.c_graph_terms.specs.Built.{IsBuilt}
use Rattle.c_graph_terms.specs.Tests.{IsTested}
use Rattle.c_graph_terms.specs.Tables.{AreWithin}
use Rattle.c_graph_terms.proofs.Banks.{kept, built_as, grown_itself}
use Rattle.c_graph_terms.proofs.Growing.{trees_kept, within_at}
use Rattle.c_graph_terms.proofs.Lists.{tested_itself, tested_one, tested_then, tested_after}

pub none_excused : (a : List Term) (i : List ℕ) (excuse : ℕ) (own : List ℕ) → IsTested a a i i (map (or_term (tree_at a excuse)) (map (tree_at a) (take 0 own)))
none_excused a i excuse own = tested_itself a a i (grown_itself a)

pub one_excused : (a b c : List Term) (i j k : List ℕ) (excuse id n : ℕ) (own : List ℕ) → n < length own → excuse < length a → AreWithin (length a) own
    → IsTested a b i j (map (or_term (tree_at a excuse)) (map (tree_at a) (take n own))) → IsBuilt b c id (or_term (tree_at b excuse) (tree_at b (get_or own n 0))) → k ≡ j ++ id ∷ []
    → IsTested a c i k (map (or_term (tree_at a excuse)) (map (tree_at a) (take (n + 1) own)))
one_excused a b c i j k excuse id n own below excuse_in own_in before one is =
    let x : ℕ = get_or own n 0 in
    let f : Term → Term = or_term (tree_at a excuse) in
    let excuse_is : tree_at b excuse ≡ tree_at a excuse = kept a b excuse before.is_grown excuse_in in
    let x_is : tree_at b x ≡ tree_at a x = kept a b x before.is_grown (within_at (length a) own n own_in below) in
    let same : or_term (tree_at b excuse) (tree_at b x) ≡ or_term (tree_at a excuse) (tree_at a x) = ap₂ (λ (s t : Term). or_term s t) excuse_is x_is in
    let more : map (tree_at a) (take (n + 1) own) ≡ map (tree_at a) (take n own) ++ tree_at a x ∷ [] = map_more (tree_at a) own n 0 below in
    let all : map f (map (tree_at a) (take (n + 1) own)) ≡ map f (map (tree_at a) (take n own)) ++ f (tree_at a x) ∷ [] =
    ap (map f) more ∙ map-append f (map (tree_at a) (take n own)) (tree_at a x ∷ []) in
    subst (IsTested a c i k) (sym all)
    (tested_then a b c i j k (map f (map (tree_at a) (take n own))) (f (tree_at a x) ∷ []) before (tested_one b c j k id (f (tree_at a x)) (built_as b c id _ _ same one) is))

pub all_excused : (a b : List Term) (i j : List ℕ) (excuse n : ℕ) (own : List ℕ) → length own ≤ n → IsTested a b i j (map (or_term (tree_at a excuse)) (map (tree_at a) (take n own)))
    → IsTested a b i j (map (or_term (tree_at a excuse)) (map (tree_at a) own))
all_excused a b i j excuse n own h t = subst (λ (l : List ℕ). IsTested a b i j (map (or_term (tree_at a excuse)) (map (tree_at a) l))) (take_all n own h) t

-- under a condition: the excuse is that it fails
pub excused_under : (a b c : List Term) (i j : List ℕ) (condition excuse : ℕ) (own : List ℕ) → IsBuilt a b excuse (not_term (tree_at a condition)) → AreWithin (length a) own
    → IsTested b c i j (map (or_term (tree_at b excuse)) (map (tree_at b) own)) → IsTested a c i j (map (under (tree_at a condition)) (map (tree_at a) own))
excused_under a b c i j condition excuse own one own_in tested =
    let trees : map (tree_at b) own ≡ map (tree_at a) own = trees_kept a b own one.is_grown own_in in
    let same : map (or_term (tree_at b excuse)) (map (tree_at b) own) ≡ map (under (tree_at a condition)) (map (tree_at a) own) =
    ap (map (or_term (tree_at b excuse))) trees ∙ ap (λ (t : Term). map (or_term t) (map (tree_at a) own)) one.tree in
    tested_after a b c i j _ one.is_grown (subst (IsTested b c i j) same tested)
