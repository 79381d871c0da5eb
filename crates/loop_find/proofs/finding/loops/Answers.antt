use Rattle.std.proofs.Common.{rules, ◌≡◌, ◌∙◌, ℕ, List, [], ◌∷◌, map, sym, ap, subst, refl}
use Rattle.std.specs.Prelude.{◌↔◌, Contains, nat_eq}
use Rattle.std.specs.List.Sorted.{IsPermutation, IsStrictlyIncreasing}
use Rattle.std.proofs.lemmas.Result.{IfOk-weaker}
use Rattle.std.proofs.lemmas.Map.Keys.{IsStrictlyIncreasing-dedup}
use Rattle.std.proofs.lemmas.List.Kept.{Contains-dedup_nat, Contains-from_dedup}
use Rattle.std.proofs.lemmas.List.Sorted.{Contains-permutation, IsPermutation-sym}
use Rattle.std.proofs.lemmas.Iterator.{items_from_collect, YieldsList-from_map, YieldsList-from_slice}
use Rattle.std.proofs.lemmas.List.Filters.{dedup_is}
use Rattle.graph_core.specs.Graphs.{graph_of}
use Rattle.loop_find_spec.specs.Loops.{AreLoops}
use Rattle.loop_find.specs.declared.finding.Loop.{Loop}
use Rattle.loop_find.proofs.finding.loops.Goals as goal

heads_back : (ns : List ℕ) → map (λ (l : Loop). l.head) (map (λ (n : ℕ). record { head = n }) ns) ≡ ns
heads_back [] = refl
heads_back (n ∷ ns) = ap (λ ms. n ∷ ms) (heads_back ns)

contained_unsorted : (xs ys : List ℕ) (n : ℕ) → IsPermutation xs ys → Contains ys n → Contains xs n
contained_unsorted xs ys n p c = Contains-permutation ys xs n (IsPermutation-sym xs ys p) c

pub returns : goal.returns
returns c =
    let found = c.in_ok-heads.ensures in
    let kept = dedup_is nat_eq c.sort_unstable.new.self.items c.dedup.new.self.items c.dedup.ensures.filtered in
    let ascending = subst IsStrictlyIncreasing (sym kept) (IsStrictlyIncreasing-dedup c.sort_unstable.new.self.items c.sort_unstable.ensures.sorted) in
    let are : (n : ℕ) → Contains c.dedup.new.self.items n ↔ Contains c.in_ok-heads.heads.items n = λ n. (
      (λ m. contained_unsorted c.in_ok-heads.heads.items c.sort_unstable.new.self.items n c.sort_unstable.ensures.permutation
          (Contains-from_dedup nat_eq c.sort_unstable.new.self.items n (subst (λ l. Contains l n) kept m))),
      (λ m. subst (λ l. Contains l n) (sym kept)
          (Contains-dedup_nat c.sort_unstable.new.self.items n (Contains-permutation c.in_ok-heads.heads.items c.sort_unstable.new.self.items n c.sort_unstable.ensures.permutation m))),
    ) in
    IfOk-weaker c.collect.result _ _
    (λ loops e. subst (AreLoops (graph_of c.args.graph.now)) (sym (ap (map (λ (l : Loop). l.head)) e ∙ heads_back c.dedup.new.self.items))
    (record { left = found.left; heads = c.in_ok-heads.heads.items; walk = found.walk; ascending = ascending; are = are }))
    (items_from_collect c.collect.result c.collect.ensures.ran
    (YieldsList-from_map _ (λ (n : ℕ). record { head = n }) (YieldsList-from_slice c.dedup.new.self.items cc) c.map.ensures.closure (λ x r q k. search rules)))
